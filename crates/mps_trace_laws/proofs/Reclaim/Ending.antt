-- The last reclaim ends the collection: nothing white is left, and the arena stands at rest.
use Rattle.std.proofs.Common.{◌≡◌, ◌∙◌, ℕ, false, not, refl, sym, ap, List, length, replicate, Option, Some, None}
use Rattle.std.proofs.lemmas.Bool.{false≢true}
use Rattle.std.specs.Prelude.{option_map, ◌||◌, ◌&&◌}
use Rattle.mps_base.specs.Address.{Address, Id, Word, word_of, address_of_word, grain_of}
use Rattle.mps_base.specs.Segment.{Segment, segment_over}
use Rattle.mps_extents.specs.Table.{bit}
use Rattle.mps_format.specs.Layout.{Layout}
use Rattle.mps_seg.specs.Segs.{SegsState}
use Rattle.mps_seg.specs.Collecting.{collected, bit_of}
use Rattle.mps_model.specs.Graph.{Object, Point, entry_at}
use Rattle.mps_model.specs.World.{PointMemory}
use Rattle.mps_abstract.specs.Colours.{Colours, is_white, AreAllScanned}
use Rattle.mps_trace_laws.specs.Image.Memory.{memory_in, is_condemned_word, setting_at_rest}
use Rattle.mps_trace_laws.specs.Image.Image.{Stands, MarksStand, no_colours}
use Rattle.mps_trace_laws.proofs.Image.ArenaLaws.{clear_bit}
use Rattle.mps_trace_laws.proofs.Image.Bands.{collection_ends}
use Rattle.mps_trace_laws.specs.Reclaim.Left.{setting_freeing_in}

none_over : (count : ℕ) (o : Option ℕ) → bit_of (replicate count false) o ≡ false
none_over count None = refl
none_over count (Some n) = clear_bit count n

module _ (g : SegsState) (objects : List Object) (points : List (Option Point)) (memories : List PointMemory) (layout : ℕ → Layout)
    (condemned : List Id) (k : Colours) (addresses : List (Option Address)) (scanned : AreAllScanned k)
    (black : (id : Id) (at : Address) → entry_at addresses id ≡ Some at → is_white condemned k id ≡ false)
    (st : Stands (setting_freeing_in g objects points memories layout condemned k) (memory_in g) addresses k) where
  no_condemned : (n : Word) → is_condemned_word (collected g) n ≡ false
  no_condemned n =
      none_over (length g.condemned) (option_map (λ (t : Segment). grain_of t.base) (segment_over g.segments (address_of_word n)))

  no_kept : (n : Word) → (memory_in (collected g)).kept n ≡ false
  no_kept n = clear_bit (length g.marks.kept) n

  no_grey : (n : Word) → (memory_in (collected g)).grey n ≡ false
  no_grey n =
      ap (λ b. b || bit (replicate (length g.marks.kept) false) n) (clear_bit (length g.marks.kept) n)
      ∙ clear_bit (length g.marks.kept) n

  marks_ended : MarksStand (setting_at_rest (collected g) objects points memories layout) (memory_in (collected g)).kept
      (memory_in (collected g)).grey addresses no_colours
  marks_ended = record {
    white_there = λ id at e. sym (ap (λ b. b && not ((memory_in (collected g)).kept (word_of at))) (no_condemned (word_of at)));
    grey_there = λ id at e. sym (no_grey (word_of at));
    marked = λ n is. absurd (false≢true (sym (ap (λ b. b || (memory_in (collected g)).grey n) (no_kept n) ∙ no_grey n) ∙ is));
    unmoved = λ id at e read white. absurd (false≢true white);
  }

  pub image_at_rest : Stands (setting_at_rest (collected g) objects points memories layout) (memory_in (collected g)) addresses no_colours
  image_at_rest =
      collection_ends (setting_freeing_in g objects points memories layout condemned k) (memory_in g) (memory_in (collected g)) addresses k
      no_colours (is_condemned_word (collected g)) black (λ id at e. scanned id) refl st
      (λ id i o n at l e. no_condemned n ∙ sym (no_condemned (word_of at))) marks_ended
      (record { blocks = st.runs.blocks; reservations = st.runs.reservations; covered = st.runs.covered })
