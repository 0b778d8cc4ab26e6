-- A fix of the tracing collector is one fix of the object that the address means.
use Rattle.std.proofs.Common.{◌∙◌, ◌+◌, sym, List, Option, subst}
use Rattle.mps_base.specs.Address.{Address, word_of}
use Rattle.mps_seg.specs.Segs.{SegsState}
use Rattle.mps_abstract.specs.Colours.{Colours}
use Rattle.mps_abstract.specs.Collecting.{Collecting}
use Rattle.mps_trace_laws.specs.Image.Memory.{Memory, words_of_arena, pool_over_word, is_condemned_word}
use Rattle.mps_trace_laws.specs.Image.Image.{CellSet, ImageStands}
use Rattle.mps_trace_laws.specs.Image.ArenaLaws.{AreSegmentsKept}
use Rattle.mps_trace_laws.proofs.Image.ArenaLaws.{segments_change}
use Rattle.mps_trace_laws.specs.Fix.Tracing.{setting_of}
use Rattle.mps_trace_laws.specs.Fix.Growing.{Grows}

-- the image stands in segments that have grown
module _ (s s' : SegsState) (grown : Grows s s') (at_flip : List (Option Address)) (y : Collecting) where
  kept : (m : Memory) (addresses : List (Option Address)) (k : Colours) (done : CellSet)
      → ImageStands (setting_of s at_flip y) m addresses k done
      → AreSegmentsKept (setting_of s at_flip y) addresses (pool_over_word s') (is_condemned_word s')
  kept m addresses k done st = record {
    pool = λ id i o n l.
        let home = st.placed.home id i o n l in grown.pools n o.pool home ∙ sym home;
    is_condemned = λ id i o n l. grown.condemned n;
    old_pool = λ id from to o q was now x object lt.
        let home = (st.words.forwarded id from to o was now x object).home q lt in
        grown.pools (word_of from + q) o.pool home ∙ sym home;
    was_condemned = λ id from to o q was now x object lt. grown.condemned (word_of from + q);
  }

  pub image_grown : (m : Memory) (addresses : List (Option Address)) (k : Colours) (done : CellSet)
      → ImageStands (setting_of s at_flip y) m addresses k done → ImageStands (setting_of s' at_flip y) m addresses k done
  image_grown m addresses k done st =
      subst (λ grains. ImageStands (record (setting_of s' at_flip y) { size = words_of_arena grains }) m addresses k done)
      (sym grown.same_grains)
      (segments_change (setting_of s at_flip y) m addresses k done (pool_over_word s') (is_condemned_word s') st
      (kept m addresses k done st))
