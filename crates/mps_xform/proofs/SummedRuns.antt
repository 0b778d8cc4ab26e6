-- When a set has the zones of the references of a run: with more zones, and in other words that are the same.
use Rattle.std.proofs.Common.{◌≡◌, ◌∙◌, ℕ, ◌+◌, ◌<◌, ◌≤◌, true, sym, ap, List, subst, arith}
use Rattle.std.specs.Prelude.{IsTrue, slice_index}
use Rattle.mps_base.specs.Address.{zone_of}
use Rattle.mps_base.specs.Run.{Run}
use Rattle.mps_base.specs.Zones.{zones_meet, zone_bit_of}
use Rattle.mps_format.specs.Layout.{Layout}
use Rattle.mps_xform.specs.Summed.{IsRunSummed}
use Rattle.mps_xform.proofs.Zones.{AreZonesOf}

-- a set that has all zones of another
pub summed_in : (f : Layout) (words : List ℕ) (zones all : ℕ) (r : Run) → AreZonesOf zones all → IsRunSummed f words zones r
    → IsRunSummed f words all r
summed_in f words zones all r more summed k few reference some =
    more (zone_of (f.target (slice_index words (r.from + k)))) (summed k few reference some)

-- a run with the words that another had
pub summed_again : (f : Layout) (words words' : List ℕ) (zones : ℕ) (r q : Run) → 0 < q.count → q.count ≤ r.count
    → ((k : ℕ) → k < q.count → slice_index words' (q.from + k) ≡ slice_index words (r.from + k)) → IsRunSummed f words zones r
    → IsRunSummed f words' zones q
summed_again f words words' zones r q positive fits same summed k few reference some =
    let there : q.from ≡ q.from + 0 = omega arith in
    let here : r.from + 0 ≡ r.from = omega arith in
    let head : slice_index words' q.from ≡ slice_index words r.from =
    ap (λ i. slice_index words' i) there ∙ same 0 positive ∙ ap (λ i. slice_index words i) here
    in
    let P : ℕ → Type 0 = λ h. IsTrue (f.is_reference h k) in
    let Q : ℕ → Type 0 = λ w. 0 < f.target w in
    let R : ℕ → Type 0 = λ w. zones_meet (zone_bit_of (f.target w)) zones ≡ true in
    subst R (sym (same k few)) (summed k (omega (arith, few, fits)) (subst P head reference) (subst Q (same k few) some))
