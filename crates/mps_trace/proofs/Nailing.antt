-- The blocks that area words nail lie in the arena, and stay the blocks that there are.
use Rattle.std.proofs.Common.{ℕ, ◌<◌, ◌≤◌, ◌≡◌, Bool, Option, Some, None, List, [], ◌∷◌, refl, sym, ap, ◌∙◌, inl, inr, arith}
use Rattle.std.specs.Prelude.{option_map}
use Rattle.std.proofs.lemmas.Bool.{cases_Bool, cond-true, cond-false}
use Rattle.mps_base.specs.Address.{Address, Word, word_of, address_of_word}
use Rattle.mps_base.specs.Run.{Run, IsAscending, end_of}
use Rattle.mps_base.specs.declared.address.Addr.{Addr}
use Rattle.mps_amc.specs.Moving.{nailed, kept_in_place}
use Rattle.mps_seg.specs.Extents.{run_over, has_word}
use Rattle.mps_seg.specs.Segs.{SegsState, at_word}
use Rattle.mps_seg.specs.Collecting.{is_kept_at}
use Rattle.mps_trace.specs.Flip.{nailed_in, pins}
use Rattle.mps_format.specs.declared.pool.Policy.{Policy}

ends_above : (low high : ℕ) (rs : List Run) → IsAscending low high rs → low ≤ high
ends_above low high [] ascending = ascending
ends_above low high (r ∷ rs) ascending =
    omega (arith, ascending.0, ends_above (end_of r) high rs ascending.2)

-- the block over a word begins below the end of the arena
run_below : (low high : ℕ) (rs : List Run) (word from : ℕ) → IsAscending low high rs → run_over rs word ≡ Some from → from < high
run_below low high [] word from ascending is = let never : None ≡ Some from = is in cc
run_below low high (r ∷ rs) word from ascending is =
    let here : Bool = has_word r word in
    elim (cases_Bool here) [
      | inl has ↦
          let both : Some r.from ≡ Some from = sym (cond-true here (Some r.from) (run_over rs word) has) ∙ is in
          let same : r.from ≡ from = cc in
          omega (arith, same, ascending.1, ends_above (end_of r) high rs ascending.2)
      | inr other ↦
          run_below (end_of r) high rs word from ascending.2
          (sym (cond-false here (Some r.from) (run_over rs word) other) ∙ is)
    ]

found_below : (o : Option ℕ) (high : ℕ) (at : Addr) → ((from : ℕ) → o ≡ Some from → from < high) → Some at ≡ option_map at_word o
    → word_of at.0 < high
found_below None high at below is = let never : Some at ≡ None = is in cc
found_below (Some from) high at below is =
    let both : Some at ≡ Some (at_word from) = is in
    let same : at ≡ at_word from = cc in
    omega (arith, ap (λ (a : Addr). a.0) same, below from refl)

pub block_below : (high : ℕ) (rs : List Run) (word : ℕ) (at : Addr) → IsAscending 0 high rs
    → Some at ≡ option_map at_word (run_over rs word) → word_of at.0 < high
block_below high rs word at ascending is =
    found_below (run_over rs word) high at (λ from found. run_below 0 high rs word from ascending found) is

-- the blocks and the size of the arena are as they were
pub record AreBlocksSame (s s' : SegsState) : Type 0 where
  pub blocks : s'.blocks ≡ s.blocks
  pub grains : s'.grains ≡ s.grains

nailed_same : (s : SegsState) (at : Address) → AreBlocksSame s (nailed s at)
nailed_same s at =
    let kept : Bool = is_kept_at s at in
    elim (cases_Bool kept) [
      | inl is ↦
          let same = cond-true kept s (kept_in_place s at) is in
          record { blocks = ap (λ (x : SegsState). x.blocks) same; grains = ap (λ (x : SegsState). x.grains) same }
      | inr is ↦
          let same = cond-false kept s (kept_in_place s at) is in
          record { blocks = ap (λ (x : SegsState). x.blocks) same; grains = ap (λ (x : SegsState). x.grains) same }
    ]

pub nailed_in_same : {F : Type 0} (formats : List (Option (Policy F))) (s : SegsState) (word : ℕ) (o : Option Word)
    → AreBlocksSame s (nailed_in formats s word o)
nailed_in_same formats s word None = record { blocks = refl; grains = refl }
nailed_in_same formats s word (Some n) =
    let at = address_of_word n in
    let pinned : Bool = pins formats s word at in
    let rest = nailed_same s at in
    elim (cases_Bool pinned) [
      | inl is ↦
          let same = cond-true pinned (nailed s at) s is in
          record {
            blocks = ap (λ (x : SegsState). x.blocks) same ∙ rest.blocks;
            grains = ap (λ (x : SegsState). x.grains) same ∙ rest.grains;
          }
      | inr is ↦
          let same = cond-false pinned (nailed s at) s is in
          record { blocks = ap (λ (x : SegsState). x.blocks) same; grains = ap (λ (x : SegsState). x.grains) same }
    ]
