use Rattle.std.proofs.Common.{ℕ, Bool, false, ◌*◌, ◌+◌, ◌≡◌, List, [], replicate, sym, ap, ◌∙◌, subst, rules}
use Rattle.mps_arena.specs.Arena.{ArenaMemory, new_arena}
use Rattle.mps_seg.specs.declared.entry.Entry.{Entry}
use Rattle.mps_seg.specs.declared.entry.Entry.TheVariants.{Free}
use Rattle.mps_extents.specs.Extents.{ExtentLists, nothing_covered}
use Rattle.mps_base.specs.Address.{words_of_grain}
use Rattle.mps_marks.specs.Marks.{MarkTables, no_marks}
use Rattle.mps_seg.proofs.Marked.{new_is_marked}
use Rattle.mps_seg.specs.Segs.{new_segments}
use Rattle.mps_seg.specs.Table.{segs_state, segments_in, IsHeld, AreGapsBounded, IsMarked, AreAskedNoted}
use Rattle.mps_seg.specs.Counting.{IsCounted}
use Rattle.mps_seg.proofs.AskedNoted.{new_is_noted}
use Rattle.mps_seg.proofs.BoundedGaps.{new_is_bounded}
use Rattle.mps_seg.proofs.Entries.{new_segments_in}
use Rattle.mps_seg.proofs.HeldSegments.{new_is_held}
use Rattle.mps_base.specs.Segment.{Segment}
use Rattle.mps_seg.proofs.segs.Segs.new.Goals as goal

pub invariant_of-result : goal.invariant_of-result
invariant_of-result c =
    let entries : c.in_ok-vec.field-0.items ≡ replicate (c.args.grains + 1) Free = c.in_ok-vec.ensures.items_if_clones_equal (λ y h. h) in
    let P : ArenaMemory → Type 0 = λ a. IsHeld a c.in_ok-vec.field-0.items c.in_ok-new-5.field-0 in
    let Q : List Entry → Type 0 = λ t. IsHeld (new_arena c.args.grains c.args.limit) t c.in_ok-new-5.field-0 in
    let R : ExtentLists → Type 0 = λ e. IsHeld (new_arena c.args.grains c.args.limit) (replicate (c.args.grains + 1) Free) e in
    let n = c.args.grains + 1 in
    let firsts : c.in_ok-vec-2.field-0.items ≡ replicate n 0 = c.in_ok-vec-2.ensures.items_if_clones_equal (λ y h. h) in
    let C : ArenaMemory → Type 0 =
    λ a. AreGapsBounded a.held (a.grains + 1) c.in_ok-vec-2.field-0.items c.in_ok-new-3.field-0 c.in_ok-new-5.field-0.covered
    in
    let D : ExtentLists → Type 0 = λ e. AreGapsBounded [] n c.in_ok-vec-2.field-0.items c.in_ok-new-3.field-0 e.covered in
    let E : List ℕ → Type 0 = λ fs. AreGapsBounded [] n fs c.in_ok-new-3.field-0 [] in
    let F : List ℕ → Type 0 = λ cs. AreGapsBounded [] n (replicate n 0) cs [] in
    let summaries : c.in_ok-vec-3.field-0.items ≡ replicate n 0 = c.in_ok-vec-3.ensures.items_if_clones_equal (λ y h. h) in
    let marked : IsMarked c.in_ok-new-4.field-0.grains c.in_ok-new-6.field-0 c.in_ok-new-2.field-0 c.in_ok-vec-3.field-0.items =
    rw (c.in_ok-new-4.ensures, c.in_ok-new-6.ensures, c.in_ok-new-2.ensures, summaries) (new_is_marked c.args.grains)
    in
    let asked : AreAskedNoted (c.in_ok-new-4.field-0.grains + 1) c.in_ok-vec-2.field-0.items c.in_ok-vec.field-0.items
    c.in_ok-new-2.field-0 c.in_ok-vec-4.field-0.items =
    rw (c.in_ok-new-4.ensures, firsts, c.in_ok-vec-4.ensures.items_if_clones_equal (λ y h. search rules))
    (new_is_noted n c.in_ok-vec.field-0.items c.in_ok-new-2.field-0)
    in
    let G : List Entry → Type 0 = λ t. IsCounted c.in_ok-new.field-0 (segments_in t) in
    let H : List Segment → Type 0 = λ ss. IsCounted c.in_ok-new.field-0 ss in (
      subst P (sym c.in_ok-new-4.ensures)
          (subst Q (sym entries) (subst R (sym c.in_ok-new-5.ensures) (new_is_held c.args.grains c.args.limit c.requires.at_most))),
      subst C (sym c.in_ok-new-4.ensures)
          (subst D (sym c.in_ok-new-5.ensures) (subst E (sym firsts) (subst F (sym c.in_ok-new-3.ensures) (new_is_bounded n)))),
      marked,
      subst G (sym entries) (subst H (sym (new_segments_in n)) c.in_ok-new.ensures),
      asked,
    )

pub returns : goal.returns
returns c =
    let entries : c.in_ok-vec.field-0.items ≡ replicate (c.args.grains + 1) Free = c.in_ok-vec.ensures.items_if_clones_equal (λ y h. h) in
    let summaries : c.in_ok-vec-3.field-0.items ≡ replicate (c.args.grains + 1) 0 =
    c.in_ok-vec-3.ensures.items_if_clones_equal (λ y h. h)
    in
    let seen = λ (a : ArenaMemory) (t : List Entry) (e : ExtentLists).
    segs_state a t e c.in_ok-new-6.field-0 c.in_ok-new-2.field-0 c.in_ok-vec-3.field-0.items
    in
    let made = seen (new_arena c.args.grains c.args.limit) (replicate (c.args.grains + 1) Free)
    (nothing_covered (words_of_grain * (c.args.grains + 1)))
    in
    ap (λ (a : ArenaMemory). seen a c.in_ok-vec.field-0.items c.in_ok-new-5.field-0) c.in_ok-new-4.ensures
    ∙ ap (λ (t : List Entry). seen (new_arena c.args.grains c.args.limit) t c.in_ok-new-5.field-0) entries
    ∙ ap (λ (e : ExtentLists). seen (new_arena c.args.grains c.args.limit) (replicate (c.args.grains + 1) Free) e) c.in_ok-new-5.ensures
    ∙ ap (λ (m : MarkTables). record made { marks = m }) c.in_ok-new-6.ensures
    ∙ ap (λ (bs : List Bool). record made { marks = no_marks (words_of_grain * (c.args.grains + 1)); condemned = bs })
    c.in_ok-new-2.ensures
    ∙ ap (λ (ns : List ℕ). record (segs_state (new_arena c.args.grains c.args.limit) (replicate (c.args.grains + 1) Free)
    (nothing_covered (words_of_grain * (c.args.grains + 1))) (no_marks (words_of_grain * (c.args.grains + 1)))
    (replicate (c.args.grains + 1) false) ns) { words = replicate (words_of_grain * (c.args.grains + 1)) 0 }) summaries
    ∙ ap (λ (ss : List Segment). record (new_segments c.args.grains c.args.limit) { segments = ss }) (new_segments_in (c.args.grains + 1))
