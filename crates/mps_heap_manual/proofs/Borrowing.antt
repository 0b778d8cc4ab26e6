-- Blocks whose words are borrowed: where they begin, and what is left in them.
use Rattle.std.proofs.Common.{ℕ, ◌≡◌, ◌==◌, ◌+◌, ◌%◌, true, false, Option, Some, None, option_map, refl, sym, subst, List, length, Ok, Contains, arith}
use Rattle.std.proofs.lemmas.Bool.{eqb-true}
use Rattle.std.specs.Option.{option_map_or}
use Rattle.std.specs.Prelude.{slice_range}
use Rattle.mps_seg.specs.Arena as arena
use Rattle.mps_base.specs.Address.{Address, word_of, bytes_of_word}
use Rattle.mps_base.specs.declared.names.Slot.{Slot}
use Rattle.mps_seg.specs.Extents.{run_over}
use Rattle.mps_seg.specs.Segs.{SegsState, at_word}
use Rattle.mps_heap_spec.specs.Finding.{with_words}
use Rattle.mps_heap_spec.specs.Manual.{is_block_over}
use Rattle.mps_heap_spec.specs.State.{HeapState}
use Rattle.mps_heap_manual.specs.Lending.{block_named, IsBlockWritten}

-- a block that is over its own address begins at a word
pub begins_at_word : (s : SegsState) (at : ℕ) → is_block_over s at at ≡ true → at % bytes_of_word ≡ 0
begins_at_word s at is = go (run_over s.blocks (word_of at)) is
  where
    go : (o : Option ℕ) → option_map_or (λ from. from == at) (option_map (λ b. b.0) (option_map at_word o)) false ≡ true
        → at % bytes_of_word ≡ 0
    go None never = absurd cc
    go (Some start) same = omega (arith, eqb-true (at_word start).0 at same)

-- what is left in the words of a block, where a state is seen in two ways
pub written : {F : Type 0} (h seen : HeapState F) (place : Slot) (Leaves : List ℕ → List ℕ → Type 0) (at : Address) (words left : List ℕ)
    → seen ≡ h → block_named h place ≡ Ok at
    → Contains seen.segs.blocks (record { from = word_of at; count = length words })
    → words ≡ slice_range seen.segs.words (word_of at) (word_of at + length words) → length left ≡ length words → Leaves words left
    → IsBlockWritten h place Leaves (with_words seen (arena.with_words seen.segs.words (word_of at) left))
written h seen place Leaves at words left is named whole value count leaves =
    subst (λ k. IsBlockWritten k place Leaves (with_words seen (arena.with_words seen.segs.words (word_of at) left))) is
    (record {
      words = words;
      left = left;
      borrowed = record {
        at = at;
        named = subst (λ k. block_named k place ≡ Ok at) (sym is) named;
        are = record { whole = whole; value = value };
      };
      count = count;
      leaves = leaves;
      state = refl;
    })
