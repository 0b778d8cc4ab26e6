pub mod Counted
pub mod Generated
pub mod PartPrinted
