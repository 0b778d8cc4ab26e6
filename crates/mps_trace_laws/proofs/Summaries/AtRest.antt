-- At rest each word has been read, so the summaries have the zones of what live objects refer to.
use Rattle.std.proofs.Common.{◌≡◌, ◌∙◌, ℕ, suc, ◌+◌, ◌<◌, true, refl, sym, ap, List, [], ◌∷◌, ◌++◌, slice_index, Some, None, Contains, subst, inl, inr, arith}
use Rattle.std.proofs.lemmas.Bool.{cases_Bool, eqb-true, false≢true}
use Rattle.std.proofs.lemmas.Option.{none-some, same_Some}
use Rattle.std.specs.Option.{option_map_or}
use Rattle.std.specs.Prelude.{IsTrue, ◌==◌, ◌||◌, slice_get}
use Rattle.mps_base.specs.Address.{Address, Id, word_of}
use Rattle.mps_base.specs.Segment.{Segment, is_in_segment}
use Rattle.mps_base.specs.Trail.{Moves}
use Rattle.mps_base.specs.Zones.{zones_meet, zone_bit_of}
use Rattle.mps_buffer.specs.Points.{PointsState}
use Rattle.mps_format.specs.Layout.{Layout}
use Rattle.mps_format.specs.declared.pool.Policy.{Policy}
use Rattle.mps_seg.specs.Collecting.{summary_at}
use Rattle.mps_seg.specs.Segs.{SegsState}
use Rattle.mps_model.specs.Checked.{head_of_body}
use Rattle.mps_model.specs.Graph.{Body, Cell, HeadCell, NumberCell, ReferenceCell, Automatic, Manual, Object, contains, entry_at, is_automatic, is_automatic_body, size_of, targets_of, targets_of_body, targets_of_cells}
use Rattle.mps_model.specs.World.{World, extent, extents_of, reserved_extents}
use Rattle.mps_abstract.specs.Remembered.{AreSummed}
use Rattle.mps_trace.specs.Trace.{TraceState}
use Rattle.mps_trace_laws.specs.Image.Memory.{Lies, all_cells, pool_layout}
use Rattle.mps_trace_laws.specs.Begin.Before.{StandsBefore}
use Rattle.mps_trace_laws.specs.Summaries.Summed.{AreWordsSummed}
use Rattle.mps_trace_laws.proofs.Image.BlockRuns.{contained_in_order, extent_there}
use Rattle.mps_trace_laws.proofs.Image.References.{reads}
use Rattle.mps_trace_laws.proofs.Reclaim.Around.{contains_left}
use Rattle.mps_trace_laws.proofs.Begin.CondemnedIds.{its, its_pool, only_address, over_first, kind_is}

-- what a body refers to is in one of its cells
record IsInCell (cells : List Cell) (target : Id) : Type 0 where
  number : ℕ
  tag : ℕ
  cell : slice_get cells number ≡ Some (ReferenceCell (Some target) tag)

in_later : (c : Cell) (cells : List Cell) (target : Id) → IsInCell cells target → IsInCell (c ∷ cells) target
in_later c cells target is = record { number = suc is.number; tag = is.tag; cell = is.cell }

in_cells : (cells : List Cell) (target : Id) → contains (targets_of_cells cells) target ≡ true → IsInCell cells target
in_cells [] target is = absurd (false≢true is)
in_cells (HeadCell ∷ cells) target is = in_later HeadCell cells target (in_cells cells target is)
in_cells (NumberCell n ∷ cells) target is = in_later (NumberCell n) cells target (in_cells cells target is)
in_cells (ReferenceCell None tag ∷ cells) target is = in_later (ReferenceCell None tag) cells target (in_cells cells target is)
in_cells (ReferenceCell (Some t) tag ∷ cells) target is =
    elim (cases_Bool (t == target)) [
      | inl here ↦ record { number = 0; tag = tag; cell = ap (λ n. Some (ReferenceCell (Some n) tag)) (eqb-true t target here) }
      | inr other ↦
          in_later (ReferenceCell (Some t) tag) cells target
          (in_cells cells target (sym (ap (λ b. b || contains (targets_of_cells cells) target) other) ∙ is))
    ]

in_object : (o : Object) (target : Id) → contains (targets_of o) target ≡ true
    → IsInCell (all_cells o.body) target × IsTrue (is_automatic o)
in_object o target is = go o.body is
  where
    go : (b : Body) → contains (targets_of_body b) target ≡ true
        → IsInCell (all_cells b) target × IsTrue (is_automatic_body b)
    go (Automatic head cells is_weak) there = (in_cells cells target there, refl)
    go (Manual words) there = absurd (false≢true there)

module _ {F : Type 0} (layout : F → Layout) (t : TraceState F) (s : SegsState) (m : Moves) (points : PointsState) (w : World)
    (b : StandsBefore layout t s m points w) (summed : AreWordsSummed layout t.formats s) where
  module _ (id target : Id) (at to : Address) (u : Segment) (there : entry_at w.addresses id ≡ Some at)
      (held : Contains w.segments u) (inside : is_in_segment u at ≡ true) (to_there : entry_at w.addresses target ≡ Some to)
      (o : Object) (object : slice_get w.graph.objects id ≡ Some o) (refers : contains (targets_of o) target ≡ true) where
    found : IsInCell (all_cells o.body) target
    found = (in_object o target refers).0

    automatic : IsTrue (is_automatic o)
    automatic = (in_object o target refers).1

    abbrev f : Layout
    f = pool_layout w o.pool

    whole : f.size (head_of_body o.body) ≡ size_of o
    whole = b.objects.shaped.whole id o object automatic

    reference : IsTrue (f.is_reference (head_of_body o.body) found.number)
    reference =
        sym (b.objects.shaped.kinds id found.number o (ReferenceCell (Some target) found.tag) object automatic found.cell)

    within : found.number < size_of o
    within =
        let valid = b.objects.shaped.valid id o object automatic in
        let few = ((b.objects.shaped.lawful o.pool).references (head_of_body o.body) found.number valid reference).1 in
        omega (arith, few, whole)

    lies : Lies w.graph.objects w.addresses id found.number o (word_of at + found.number)
    lies = record { at = at; address = there; object = object; within = within; is = refl }

    word_is : f.target (slice_index s.words (word_of at + found.number)) ≡ to
    word_is =
        let refers_to =
        b.segments.image.words.cells id found.number o (word_of at + found.number) (ReferenceCell (Some target) found.tag) refl lies
        found.cell
        in
        let now : refers_to.address ≡ to =
        elim refers_to.means [
          | inl is ↦ same_Some refers_to.address to (sym is ∙ to_there)
          | inr none ↦ absurd (none-some refers_to.address none)
        ]
        in
        let placed = b.segments.image.placed.address target to to_there in
        let low = b.objects.shaped.tags id found.number o (Some target) found.tag object found.cell in
        let word = slice_index s.words (word_of at + found.number) in
        let is : word ≡ to + found.tag = refers_to.is ∙ ap (λ a. a + found.tag) now in
        (reads f word to found.tag (b.objects.shaped.lawful o.pool) placed low is).target

    head_is : slice_index s.words (word_of at) ≡ head_of_body o.body
    head_is =
        b.segments.image.words.cells id 0 o (word_of at) HeadCell refl
        (record { at = at; address = there; object = object; within = omega (arith, within); is = omega arith })
        (b.objects.shaped.first id o object automatic)

    run_there : Contains s.covered (extent at (size_of o))
    run_there =
        let objects = w.graph.objects in
        let run = extent at (size_of o) in
        let reserved = reserved_extents w.graph.points w.point_memories in
        subst (λ rs. Contains rs run) (sym b.segments.image.runs.covered)
        (contained_in_order (extents_of objects w.addresses ++ reserved) run
        (contains_left (extents_of objects w.addresses) reserved run (extent_there objects w.addresses id at o there object)))

    -- its segment, and the policy of its pool
    same_segment : u ≡ its layout t s m points w b id at o there object
    same_segment =
        let P : List Segment → Type 0 = λ ss. Contains ss u in
        only_address layout t s m points w b id at o there object u (subst P (sym b.segments.segments.same_segments) held) inside

    policy : (format : Policy F) × (slice_get t.formats o.pool ≡ Some (Some format))
    policy = b.pools.pools.listed o.pool (kind_is layout t s m points w b id o object ∙ automatic)

    pub zone_there : zones_meet (zone_bit_of to) (summary_at s u.base) ≡ true
    zone_there =
        let home = its layout t s m points w b id at o there object in
        let format = policy.0 in
        let g = layout format.format in
        let same : g ≡ f = b.pools.pools.format_is o.pool format policy.1 in
        let listed : slice_get t.formats home.pool ≡ Some (Some format) =
        ap (slice_get t.formats) (its_pool layout t s m points w b id at o there object) ∙ policy.1
        in
        let k = found.number in
        let word = slice_index s.words (word_of at + k) in
        let target_is : g.target word ≡ to = ap (λ (h : Layout). h.target word) same ∙ word_is in
        let is_reference : IsTrue (g.is_reference (slice_index s.words (word_of at)) k) =
        ap (λ (h : Layout). h.is_reference (slice_index s.words (word_of at)) k) same ∙ ap (λ h. f.is_reference h k) head_is ∙ reference
        in
        let some = (b.segments.image.placed.address target to to_there).not_null in
        let meets =
        summed.each (extent at (size_of o)) home format run_there (over_first layout t s m points w b id at o there object) listed k within
        is_reference (omega (arith, some, target_is))
        in
        let P : Address → Type 0 = λ a. zones_meet (zone_bit_of a) (summary_at s u.base) ≡ true in
        let Q : Segment → Type 0 = λ v. zones_meet (zone_bit_of (g.target word)) (summary_at s v.base) ≡ true in
        subst P target_is (subst Q (sym same_segment) meets)

  pub words_tell_at_rest : AreSummed w (summary_at s)
  words_tell_at_rest id target at to u there held inside refers to_there =
      let exists = b.segments.image.placed.exists id at there in
      zone_there id target at to u there held inside to_there exists.0 exists.1
      (sym (ap (λ o. contains (option_map_or targets_of o []) target) exists.1) ∙ refers)
