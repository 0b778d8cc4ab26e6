-- What stands at a place of a list after a write, and after one more at the end.
pub use Rattle.mps_changes.proofs.Lookups.{slice_get-set_same, slice_get-set_other, length-slice_set, map-slice_set, slice_set-same}
pub use Rattle.mps_changes.proofs.Lookups.{slice_get-last, slice_get-at_last, slice_get-after_last, slice_get-kept, length-with_last}
pub use Rattle.mps_changes.proofs.Lookups.{map-with_last}
pub use Rattle.mps_changes.proofs.Lookups.{opened, entry_at-set_other, entry_at-set_same, entry_at-last, entry_at-at_last}
pub use Rattle.mps_changes.proofs.Lookups.{entry_at-after_last, entry_within, there_is, entry_within_set, entry_at-set_none}
pub use Rattle.mps_changes.proofs.Lookups.{entry_is_there}
