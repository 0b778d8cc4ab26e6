-- Nailed blocks become grey in the rank of their segments.
use Rattle.std.proofs.Common.{◌≡◌, Bool, true, false, List, [], ◌∷◌, Option, Some, None, sym, subst, arith}
use Rattle.std.specs.Prelude.{if◌then◌else◌, ℕ}
use Rattle.mps_base.specs.Address.{Address, Word, word_of, address_of_word}
use Rattle.mps_amc.specs.Moving.{kept_in_place}
use Rattle.mps_extents.specs.Extents.{run_over}
use Rattle.mps_root.specs.declared.roots.Stored.{Stored}
use Rattle.mps_seg.specs.Segs.{SegsState}
use Rattle.mps_seg.specs.Collecting.{is_kept_at, keeping}
use Rattle.mps_trace.specs.Begin.{nailed_by_areas}
use Rattle.mps_trace.specs.Flip.{pins, nailed_in, nailed_by, nailed_by_all}
use Rattle.mps_format.specs.declared.pool.Policy.{Policy}
use Rattle.mps_trace_laws.specs.Fix.Ranks.{AreMarksRanked}
use Rattle.mps_trace_laws.specs.Nails.Nailed.{words_of_areas}
use Rattle.mps_trace_laws.proofs.Fix.RankedMarks.{greying_keeps_ranks}
use Rattle.mps_trace_laws.proofs.Nails.Marks.{areas_are_words}

one_of : (b : Bool) (x y : SegsState) → AreMarksRanked x → AreMarksRanked y → AreMarksRanked (if b then x else y)
one_of true x y first second = first
one_of false x y first second = second

ranked_kept : (s : SegsState) (at : Address) → address_of_word (word_of at) ≡ at → AreMarksRanked s → AreMarksRanked (kept_in_place s at)
ranked_kept s at on_word ranked =
    greying_keeps_ranks (keeping s at) at on_word (record { exact = ranked.exact; weak = ranked.weak })

module _ {F : Type 0} (formats : List (Option (Policy F))) where
  ranked_nailed : (s : SegsState) (word : ℕ) (o : Option Word) → AreMarksRanked s → AreMarksRanked (nailed_in formats s word o)
  ranked_nailed s word None ranked = ranked
  ranked_nailed s word (Some n) ranked =
      let at : Address = address_of_word n in
      let kept = ranked_kept s at (omega arith) ranked in
      one_of (pins formats s word at) (if is_kept_at s at then s else kept_in_place s at) s
      (one_of (is_kept_at s at) s (kept_in_place s at) ranked kept) ranked

  ranked_words : (words : List Stored) (s : SegsState) → AreMarksRanked s → AreMarksRanked (nailed_by_all formats words s)
  ranked_words [] s ranked = ranked
  ranked_words (w ∷ ws) s ranked =
      ranked_words ws (nailed_by formats s w.word) (ranked_nailed s w.word (run_over s.blocks (word_of w.word)) ranked)

  pub ranked_areas : (areas : List (Option (List Stored))) (s : SegsState) → AreMarksRanked s
      → AreMarksRanked (nailed_by_areas formats areas s)
  ranked_areas areas s ranked =
      subst AreMarksRanked (sym (areas_are_words formats areas s)) (ranked_words (words_of_areas areas) s ranked)
