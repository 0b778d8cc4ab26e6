pub mod Placing
pub mod OpenTokens
pub mod StillOpen
pub mod NoneOpen
pub mod MadeBefore
