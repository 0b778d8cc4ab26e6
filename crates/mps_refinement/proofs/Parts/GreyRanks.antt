-- Grey marks keep the rank of their segments where these stay over the grey objects.
use Rattle.std.proofs.Common.{◌≡◌, ◌∙◌, ℕ, Bool, true, false, refl, sym, ap, Option, Some, None, arith}
use Rattle.std.proofs.lemmas.Option.{none-some}
use Rattle.std.specs.Prelude.{◌||◌, option_map}
use Rattle.mps_base.specs.Address.{Id, Word, address_of_word}
use Rattle.mps_base.specs.Segment.{Segment, segment_over}
use Rattle.mps_abstract.specs.Colours.{is_grey}
use Rattle.mps_extents.specs.Table.{bit}
use Rattle.mps_format.specs.Layout.{Layout}
use Rattle.mps_model.specs.Graph.{Object}
use Rattle.mps_model.specs.World.{World}
use Rattle.mps_seg.specs.Collecting.{rank_of}
use Rattle.mps_seg.specs.Segs.{SegsState}
use Rattle.mps_trace_laws.specs.Fix.Ranks.{AreMarksRanked}
use Rattle.mps_trace_laws.specs.Image.Memory.{Lies}
use Rattle.mps_heap_spec.specs.State.{HeapState}
use Rattle.mps_refinement.specs.StandsFor.{AreParts, Past}

abbrev pub has_grey_mark : SegsState → (n : Word) → Bool
has_grey_mark s n = bit s.marks.exact n || bit s.marks.weak n

module _ {F : Type 0} (layout : F → Layout) (past : Past) (h : HeapState F) (w : World) (parts : AreParts layout past h w) where
  -- a grey object begins at a word, which lies in a segment
  pub record IsGreyAt (n : Word) : Type 0 where
    pub id : Id
    pub object : Object
    pub lies : Lies w.graph.objects w.addresses id 0 object n
    pub grey : is_grey past.time.colours id ≡ true
    pub segment : Segment
    pub over : segment_over h.segs.segments (address_of_word n) ≡ Some segment

  or_right : (a b : Bool) → b ≡ true → (a || b) ≡ true
  or_right true b is = refl
  or_right false b is = is

  some_segment : (n : Word) (pool : ℕ) (o : Option Segment) → segment_over h.segs.segments (address_of_word n) ≡ o
      → option_map (λ (t : Segment). t.pool) o ≡ Some pool
      → (t : Segment) × (segment_over h.segs.segments (address_of_word n) ≡ Some t)
  some_segment n pool None over has = absurd (none-some pool has)
  some_segment n pool (Some t) over has = (t, over)

  -- where there is a grey mark
  pub grey_at : (n : Word) → has_grey_mark h.segs n ≡ true → IsGreyAt n
  grey_at n marked =
      let begins = parts.image.marks.marked n (or_right (bit h.segs.marks.kept n) (has_grey_mark h.segs n) marked) in
      let object = parts.image.placed.exists begins.id begins.at begins.address in
      let lies : Lies w.graph.objects w.addresses begins.id 0 object.0 n =
      record {
        at = begins.at;
        address = begins.address;
        object = object.1;
        within = parts.image.placed.positive begins.id begins.at object.0 begins.address object.1;
        is = let e = begins.is in omega (arith, e);
      } in
      let home = some_segment n object.0.pool (segment_over h.segs.segments (address_of_word n)) refl
      (parts.image.placed.home begins.id 0 object.0 n lies) in record {
        id = begins.id;
        object = object.0;
        lies = lies;
        grey = parts.image.marks.grey_there begins.id begins.at begins.address ∙ ap (has_grey_mark h.segs) (sym begins.is) ∙ marked;
        segment = home.0;
        over = home.1;
      }

  -- no mark is new, and each grey object lies in its segment still
  pub ranks_stay : (s : SegsState) → ((n : Word) → bit s.marks.exact n ≡ true → bit h.segs.marks.exact n ≡ true)
      → ((n : Word) → bit s.marks.weak n ≡ true → bit h.segs.marks.weak n ≡ true)
      → ((n : Word) → (grey : IsGreyAt n) → segment_over s.segments (address_of_word n) ≡ Some grey.segment)
      → AreMarksRanked h.segs → AreMarksRanked s
  ranks_stay s exact weak over ranked = record {
    exact = λ n is.
        let was = exact n is in
        let grey = grey_at n (ap (λ b. b || bit h.segs.marks.weak n) was) in
        ap rank_of (over n grey ∙ sym grey.over) ∙ ranked.exact n was;
    weak = λ n is.
        let was = weak n is in
        let grey = grey_at n (or_right (bit h.segs.marks.exact n) (bit h.segs.marks.weak n) was) in
        ap rank_of (over n grey ∙ sym grey.over) ∙ ranked.weak n was;
  }
