use Rattle.std.proofs.Common.{ℕ, ◌≡◌, List, [], replicate, sym, subst}
use Rattle.mps_seg.specs.Counting.{counts_in_all, IsCounted}
use Rattle.mps_seg.proofs.Counted.{new_is_counted}
use Rattle.mps_seg.proofs.grain_counts.GrainCounts.new.Goals as goal

pub returns : goal.returns
returns c =
    let P : List ℕ → Type 0 = λ ns. IsCounted ns [] in
    let zeros : c.in_ok-vec.field-0.items ≡ replicate counts_in_all 0 = c.in_ok-vec.ensures.items_if_clones_equal (λ y h. h) in
    subst P (sym zeros) new_is_counted
