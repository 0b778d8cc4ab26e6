-- Scans of weak blocks: sequences of splats of the abstract collector.
pub mod Laws
