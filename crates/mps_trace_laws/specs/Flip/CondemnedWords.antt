-- Which words a flip condemns: those of the segments that it condemns.
use Rattle.std.specs.Prelude.{◌≡◌, Bool, true, false, Some, [], ◌∷◌, length, Contains, refl}
use Rattle.std.proofs.Common.{lit<}
use Rattle.mps_base.specs.Address.{Word, address_of_word, grain_of}
use Rattle.mps_base.specs.Segment.{Segment, segment_over}
use Rattle.mps_extents.specs.Table.{bit}
use Rattle.mps_trace_laws.specs.Image.Memory.{is_condemned_word, pool_over_word}
use Rattle.mps_seg.specs.Segs.{SegsState, new_segments}
use Rattle.mps_seg.specs.Collecting.{condemning}
use Rattle.mps_trace.specs.Condemned.{AreAscending}
use Rattle.mps_trace.specs.Flip.{is_automatic}
use Rattle.mps_trace_laws.specs.Flip.Condemned.{BeginInTable, known_formats, segment_at}

-- segments in which nothing is condemned yet, in ascending order
pub record AreReadyToCondemn (s : SegsState) : Type 0 where
  pub begin : BeginInTable s.segments (length s.condemned)
  pub ascending : AreAscending 0 s.segments
  pub none : (t : Segment) → Contains s.segments t → bit s.condemned (grain_of t.base) ≡ false

-- words are condemned if their segment is
pub record AreWordsCondemned (is_condemned : Segment → Bool) (s after : SegsState) : Type 0 where
  pub words : (n : Word) (t : Segment) → segment_over s.segments (address_of_word n) ≡ Some t
      → is_condemned_word after n ≡ is_condemned t
  pub pools : (n : Word) → pool_over_word after n ≡ pool_over_word s n

-- ---- vectors: one segment, of pool 1, which alone is automatic

abbrev one_segment : SegsState
one_segment = record (new_segments 2 2) { segments = segment_at 0x1000 1 ∷ [] }

pub its_words_are_not_condemned_yet : AreWordsCondemned (λ t. is_automatic known_formats t.pool) one_segment one_segment → ⊥
unfolding bit
its_words_are_not_condemned_yet c = let e : false ≡ true = c.words 513 (segment_at 0x1000 1) refl in absurd cc

pub a_condemned_segment_is_not_ready : AreReadyToCondemn (condemning one_segment 0x1000) → ⊥
unfolding bit
a_condemned_segment_is_not_ready ready =
    let there : Contains one_segment.segments (segment_at 0x1000 1) = (0, lit< tt, refl) in
    let e : true ≡ false = ready.none (segment_at 0x1000 1) there in absurd cc
