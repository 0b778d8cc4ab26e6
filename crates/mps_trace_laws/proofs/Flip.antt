-- What a flip leaves of segments, words and reservations.
pub mod Filtered
pub mod Condemned
pub mod Reservations
pub mod CondemnedWords
pub mod Ended
pub mod Apart
pub mod OpenEnded
