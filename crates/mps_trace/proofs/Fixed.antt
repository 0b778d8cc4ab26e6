-- What holds after a block was kept.
use Rattle.std.proofs.Common.{ℕ, ◌+◌, ◌%◌, ◌≤◌, ◌≡◌, Result, Ok, Err, List, length, refl, sym, ap, subst, arith}
use Rattle.mps_base.specs.Address.{Address, word_of, bytes_of_word}
use Rattle.mps_base.specs.Placement.{Placement, Place, NewSegment, OverLimit, NoFreeRun}
use Rattle.mps_base.specs.Trail.{Moves}
use Rattle.mps_base.specs.declared.address.Addr.{Addr}
use Rattle.mps_base.specs.declared.refusal.Refusal.{Refusal}
use Rattle.mps_format.specs.Layout.{Layout}
use Rattle.mps_seg.specs.Arena.{answer_of_placement}
use Rattle.mps_seg.specs.Segs.{SegsState}
use Rattle.mps_amc.specs.Moving.{BlockStands, size_at}
use Rattle.mps_amc.specs.Amc.{AmcState, answer_of_fix, AreWordsFixed, placement_of_copy, IsFixed}

-- a block lies on a word wherever it was placed
placed_aligned : (p : Placement) (at : Addr) → at.0 % bytes_of_word ≡ 0
    → (answer_of_fix (answer_of_placement p) at).0 % bytes_of_word ≡ 0
placed_aligned (Place word) at aligned = omega arith
placed_aligned (NewSegment grain grains) at aligned = omega arith
placed_aligned (OverLimit committed need limit) at aligned = aligned
placed_aligned (NoFreeRun need longest) at aligned = aligned

words_long : (r : Result Addr Refusal) (f : Layout) (words words' : List ℕ) (at : Address) (size : ℕ)
    → AreWordsFixed r f words words' at size → length words' ≡ length words
words_long (Ok to) f words words' at size fixed = fixed.long
words_long (Err why) f words words' at size fixed = ap (λ (ws : List ℕ). length ws) fixed

-- a block that stands has the size that its head gives
pub stands_whole : {f : Layout} {words : List ℕ} {at : Address} {size : ℕ} → BlockStands f words at size
    → BlockStands f words at (size_at f words at)
stands_whole {f} {words} {at} stands =
    let P : ℕ → Type 0 = λ n. word_of at + n ≤ length words in
    record { valid = stands.valid; whole = refl; within = subst P stands.whole stands.within }

module _ {f : Layout} {amc amc' : AmcState} {s s' : SegsState} {moves moves' : Moves} {at : Addr} {pool generation size : ℕ}
    {answer : Addr} (fixed : IsFixed f amc amc' s s' moves moves' at pool generation size answer)
  where
    pub fixed_aligned : at.0 % bytes_of_word ≡ 0 → answer.0 % bytes_of_word ≡ 0
    fixed_aligned aligned =
        let P : Addr → Type 0 = λ a. a.0 % bytes_of_word ≡ 0 in
        subst P (sym fixed.answer_is) (placed_aligned (placement_of_copy amc s pool generation size) at aligned)

    pub fixed_long : length s'.words ≡ length s.words
    fixed_long =
        words_long (answer_of_placement (placement_of_copy amc s pool generation size)) f s.words s'.words at.0 size fixed.words
