pub mod Event
pub mod Kinds
pub mod KindSet
pub mod Name
pub mod Grammar
pub mod Reading
