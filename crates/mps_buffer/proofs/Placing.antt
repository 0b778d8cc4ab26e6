-- Where a reservation is placed, and what is then at hand.
use Rattle.std.proofs.Common.{ℕ, ◌+◌, ◌-◌, ◌<◌, ◌≡◌, Bool, true, IfOk, Result, Ok, Err, sym, subst, arith}
use Rattle.mps_base.specs.Address.{word_of}
use Rattle.mps_base.specs.Run.{Run}
use Rattle.mps_base.specs.declared.refusal.Refusal.{Refusal}
use Rattle.mps_seg.specs.Segs.{SegsState, held_runs, CanCover}
use Rattle.mps_seg.specs.declared.buffer.Placed.{Placed}
use Rattle.mps_seg.proofs.PartCovered.{rest_is_open}
use Rattle.mps_buffer.specs.Points.{CanCoverAfter}
use Rattle.mps_seg.specs.Buffer.{run_of}

-- what is left after a placement in free words can be covered once the words that were placed are
pub rest_after : (s : SegsState) (words : ℕ) (is_copying : Bool) (r : Result Placed Refusal) → 0 < words
    → IfOk r (λ placed. CanCover s (record { from = word_of placed.at.0; count = words + placed.rest.count }))
    → IfOk r (λ placed. placed.rest.from ≡ word_of placed.at.0 + words)
    → IfOk r
    (λ placed. is_copying ≡ true → 0 < placed.rest.count
    → CanCoverAfter s (record { from = word_of placed.at.0; count = words }) (run_of placed.rest))
rest_after s words is_copying (Ok found) some all follows = λ is more.
    let whole : Run = record { from = word_of found.at.0; count = words + found.rest.count } in
    let left : words + found.rest.count - words ≡ found.rest.count = omega arith in
    let P : ℕ → Type 0 =
    λ n. CanCoverAfter s (record { from = word_of found.at.0; count = words }) (record { from = word_of found.at.0 + words; count = n }) in
    let Q : ℕ → Type 0 =
    λ w. CanCoverAfter s (record { from = word_of found.at.0; count = words }) (record { from = w; count = found.rest.count }) in
    subst Q (sym follows)
    (subst P left (rest_is_open whole words some s.grains (held_runs s) s.covered all (omega (arith, more))))
rest_after s words is_copying (Err why) some all follows = tt
