-- Grey marks by rank, and what they show of objects.
use Rattle.std.proofs.Common.{◌≡◌, ◌∙◌, ◌⊎◌, Bool, true, false, refl, sym, ap, List, Some, inl, inr, arith}
use Rattle.std.proofs.lemmas.Bool.{cases_eq, true≢false}
use Rattle.std.proofs.lemmas.List.{get_or-set_other}
use Rattle.std.specs.Prelude.{slice_get, slice_set, if◌then◌else◌, ◌||◌, IsTrue}
use Rattle.std.specs.Option.{option_map_or}
use Rattle.mps_base.specs.Address.{Address, Id, Word, word_of, address_of_word}
use Rattle.mps_base.specs.declared.names.Rank.{Rank}
use Rattle.mps_base.specs.declared.names.Rank.TheVariants.{Exact, Weak}
use Rattle.mps_extents.specs.Table.{bit}
use Rattle.mps_seg.specs.Marks.{MarkTables, with_grey}
use Rattle.mps_model.specs.Graph.{Object, entry_at, is_weak_object}
use Rattle.mps_model.specs.World.{World, object_is}
use Rattle.mps_model.specs.Accessing.{address_or_null}
use Rattle.mps_abstract.specs.Colours.{is_grey}
use Rattle.mps_abstract.proofs.Addresses.{address_of-live}
use Rattle.mps_seg.specs.Collecting.{rank_at, rank_of}
use Rattle.mps_seg.specs.Segs.{SegsState}
use Rattle.mps_trace_laws.specs.Fix.Housed.{AreHoused}
use Rattle.mps_trace_laws.specs.Image.Image.{LieApart}
use Rattle.mps_trace_laws.specs.Image.Memory.{Setting}
use Rattle.mps_trace_laws.specs.Image.SegmentWords.{AreSegmentsInOrder}
use Rattle.mps_trace_laws.proofs.Reclaim.HeldSegments.{over}
use Rattle.mps_trace_laws.specs.Fix.Ranks.{AreObjectsRanked, GreyingKeepsRanks, RankedMarksShow}

-- a bit that is set after one was is that one, or was set
set_before : (bits : List Bool) (n m : Word) → bit (slice_set bits n true) m ≡ true → (m ≡ n) ⊎ (bit bits m ≡ true)
unfolding bit
set_before bits n m e = elim (cases_eq m n) [
  | inl same ↦ inl same
  | inr other ↦ inr (sym (get_or-set_other bits n m true false other) ∙ e)
]

-- a mark that is set after a block became grey was set, or is of its rank
pub after_exact : (rank : Rank) (n m : Word) (marks : MarkTables) → bit (with_grey rank n marks).exact m ≡ true
    → ((m ≡ n) × (rank ≡ Exact)) ⊎ (bit marks.exact m ≡ true)
after_exact Exact n m marks e = elim (set_before marks.exact n m e) [ inl same ↦ inl (same, refl) | inr old ↦ inr old ]
after_exact Weak n m marks e = inr e

pub after_weak : (rank : Rank) (n m : Word) (marks : MarkTables) → bit (with_grey rank n marks).weak m ≡ true
    → ((m ≡ n) × (rank ≡ Weak)) ⊎ (bit marks.weak m ≡ true)
after_weak Weak n m marks e = elim (set_before marks.weak n m e) [ inl same ↦ inl (same, refl) | inr old ↦ inr old ]
after_weak Exact n m marks e = inr e

pub greying_keeps_ranks : GreyingKeepsRanks
greying_keeps_ranks s at begins ranked = record {
  exact = λ m e. elim (after_exact (rank_at s at) (word_of at) m s.marks e) [
    | inl new ↦ ap (rank_at s) (ap address_of_word new.0 ∙ begins) ∙ new.1
    | inr old ↦ ranked.exact m old
  ];
  weak = λ m e. elim (after_weak (rank_at s at) (word_of at) m s.marks e) [
    | inl new ↦ ap (rank_at s) (ap address_of_word new.0 ∙ begins) ∙ new.1
    | inr old ↦ ranked.weak m old
  ];
}

-- objects that lie in segments of their rank are at addresses of it
pub objects_are_ranked : (s : SegsState) (set : Setting) (w : World) → LieApart set w.addresses → set.objects ≡ w.graph.objects
    → AreSegmentsInOrder s.segments → AreHoused w.graph.objects s.segments w.addresses → AreObjectsRanked s w
objects_are_ranked s set w placed same order housed id at there =
    let o = placed.exists id at there in
    let object : slice_get w.graph.objects id ≡ Some o.0 = ap (λ (os : List Object). slice_get os id) (sym same) ∙ o.1 in
    let positive = placed.positive id at o.0 there o.1 in
    let one = housed id at o.0 there object in
    ap rank_of (over s.segments order one.segment (word_of at) one.held one.above (omega (arith, one.below, positive)))
    ∙ one.rank_is ∙ sym (ap (λ p. if option_map_or is_weak_object p false then Weak else Exact) object)

-- what a rank says of an object
of_weak_rank : (b : Bool) → Weak ≡ (if b then Weak else Exact) → b ≡ true
of_weak_rank true e = refl
of_weak_rank false e = cc

of_exact_rank : (b : Bool) → Exact ≡ (if b then Weak else Exact) → b ≡ false
of_exact_rank false e = refl
of_exact_rank true e = cc

one_of : (a b : Bool) → (a || b) ≡ true → a ≡ false → b ≡ true
one_of true b e f = absurd (true≢false f)
one_of false b e f = e

pub ranked_marks_show : RankedMarksShow
ranked_marks_show s set y automatic ranked objects marks grey = record { drained = drained; strong = strong }
  where
    drained : ((n : Word) → bit s.marks.exact n ≡ false) → (id : Id) → IsTrue (is_grey y.colours id)
        → IsTrue (object_is is_weak_object y.world id)
    drained none id is =
        let at = address_or_null y.world id in
        let there : entry_at y.world.addresses id ≡ Some at = address_of-live y.world id (grey.grey_live id is) in
        let weak = one_of (bit s.marks.exact (word_of at)) (bit s.marks.weak (word_of at)) (sym (marks.grey_there id at there) ∙ is)
        (none (word_of at)) in
        of_weak_rank (object_is is_weak_object y.world id) (sym (ranked.weak (word_of at) weak) ∙ objects id at there)

    strong : (id : Id) (at : Address) → entry_at y.world.addresses id ≡ Some at → bit s.marks.exact (word_of at) ≡ true
        → object_is is_weak_object y.world id ≡ false
    strong id at there is =
        of_exact_rank (object_is is_weak_object y.world id) (sym (ranked.exact (word_of at) is) ∙ objects id at there)
