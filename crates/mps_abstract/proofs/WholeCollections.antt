-- Whole collections: their begin, their units, and their exact end.
pub mod WholeEnds
pub mod WholeBegins
pub mod WholeUnits
pub mod WholePaths
