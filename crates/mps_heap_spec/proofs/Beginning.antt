-- Blocks by the address at which they begin.
use Rattle.std.proofs.Common.{ℕ, ◌≡◌, ◌==◌, true, false, Option, Some, None, option_map, Contains, refl, subst, arith}
use Rattle.std.proofs.lemmas.Bool.{eqb-true}
use Rattle.std.specs.Option.{option_map_or}
use Rattle.mps_base.specs.Address.{word_of}
use Rattle.mps_extents.specs.Extents.{run_over}
use Rattle.mps_extents.proofs.RunOver.{run_over-contains}
use Rattle.mps_seg.specs.Segs.{SegsState, at_word}
use Rattle.mps_heap_spec.specs.Manual.{is_block_over}

-- a block that is over its own address is one of the blocks
pub begins_block : (s : SegsState) (at : ℕ) → is_block_over s at at ≡ true
    → (words : ℕ) × Contains s.blocks (record { from = word_of at; count = words })
begins_block s at is = go (run_over s.blocks (word_of at)) refl is
  where
    go : (o : Option ℕ) → run_over s.blocks (word_of at) ≡ o
        → option_map_or (λ from. from == at) (option_map (λ b. b.0) (option_map at_word o)) false ≡ true
        → (words : ℕ) × Contains s.blocks (record { from = word_of at; count = words })
    go None found never = absurd cc
    go (Some start) found same =
        let begins : start ≡ word_of at = omega (arith, eqb-true (at_word start).0 at same) in
        let P : ℕ → Type 0 = λ p. (n : ℕ) × Contains s.blocks (record { from = p; count = n }) in
        subst P begins (run_over-contains s.blocks (word_of at) start found)
