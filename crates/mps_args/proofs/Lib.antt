pub mod NamedKinds
pub mod Shapes
