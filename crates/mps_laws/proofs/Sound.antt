-- Sound graphs: cells have the kinds that heads say, and refer to what is live.
pub mod PoolKinds
pub mod HeldIds
pub mod Referred
pub mod PoolsThere
pub mod SoundEffects
pub mod SoundChanges
pub mod SoundGraph
pub mod Substituting
pub mod SoundActs
pub mod SoundSteps
pub mod SoundMoves
pub mod SoundHistories
pub mod SoundParts
pub mod SoundReserves
