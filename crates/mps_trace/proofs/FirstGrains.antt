-- The segment over an address begins at it or below.
use Rattle.std.proofs.Common.{ℕ, ◌+◌, ◌*◌, ◌<◌, ◌≤◌, ◌≡◌, Bool, List, [], ◌∷◌, Option, Some, None, option_map, sym, subst, inl, inr, arith}
use Rattle.std.proofs.lemmas.Bool.{cases_Bool, cond-true, cond-false, and_parts, leb-true}
use Rattle.std.specs.Prelude.{nat_le, nat_lt}
use Rattle.mps_base.specs.Address.{Address, word_of, grain_of, words_of_grain}
use Rattle.mps_base.specs.Segment.{Segment, segment_over, is_in_segment, end_of_segment}
use Rattle.mps_base.specs.declared.address.Addr.{Addr}
use Rattle.mps_seg.specs.Segs.{base_address}

begins_below : (ss : List Segment) (at : Address) (base : Addr) → Some base ≡ option_map base_address (segment_over ss at) → base.0 ≤ at
begins_below [] at base is = let left : Option Addr = None in let never : Some base ≡ left = is in cc
begins_below (s ∷ ss) at base is =
    let here : Bool = is_in_segment s at in
    let P : Option Segment → Type 0 = λ o. Some base ≡ option_map base_address o in
    elim (cases_Bool here) [
      | inl has ↦
          let both : Some base ≡ Some (base_address s) = subst P (cond-true here (Some s) (segment_over ss at) has) is in
          let same : base ≡ base_address s = cc in
          let below = leb-true s.base at (and_parts (nat_le s.base at) (nat_lt at (end_of_segment s)) has).0 in
          let Q : Addr → Type 0 = λ b. b.0 ≤ at in
          subst Q (sym same) below
      | inr other ↦ begins_below ss at base (subst P (cond-false here (Some s) (segment_over ss at) other) is)
    ]

-- its first grain is one of the arena
pub grain_in_arena : (ss : List Segment) (at : Address) (base : Addr) (grains : ℕ)
    → Some base ≡ option_map base_address (segment_over ss at) → word_of at < words_of_grain * (grains + 1) → grain_of base.0 ≤ grains
grain_in_arena ss at base grains is within = let below = begins_below ss at base is in omega (arith, below, within)
