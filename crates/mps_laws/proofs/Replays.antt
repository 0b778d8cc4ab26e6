-- Records, and the blocks that a replay of them leaves.
pub mod RecordsOfMoves
pub mod Lines
pub mod OneHistory
pub mod Blocks
pub mod ReplayOfMoves
pub mod Steps
pub mod ManualSteps
pub mod FreeSteps
pub mod ReserveSteps
pub mod ReserveReplayed
pub mod Replay
pub mod LabelledLogs
