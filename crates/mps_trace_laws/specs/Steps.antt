-- Sequences of units, as a call asks for them.
pub mod Laws
