-- What a flip leaves of segments, words and reservations.
pub mod Condemned
pub mod Reservations
pub mod CondemnedWords
pub mod Ended
