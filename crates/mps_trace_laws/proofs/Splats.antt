-- Scans of weak blocks: sequences of splats of the abstract collector.
pub mod Shapes
pub mod Standing
pub mod OneCell
pub mod Cells
pub mod Run
pub mod Whole
pub mod Scanned
pub mod CanSplat
pub mod Alike
pub mod Words
pub mod WeakScan
