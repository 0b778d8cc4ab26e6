pub mod Desk
pub mod HostDesk
pub mod MemDesk
pub mod QuietDesk
