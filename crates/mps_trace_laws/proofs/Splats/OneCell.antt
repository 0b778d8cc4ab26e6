-- The reference of one cell of a weak block: it is passed, brought up to date, or splatted.
use Rattle.std.proofs.Common.{◌≡◌, ◌∙◌, ℕ, ◌+◌, ◌<◌, Bool, true, false, refl, sym, ap, List, Option, Some, None, subst, inl, inr, arith}
use Rattle.std.proofs.lemmas.Option.{none-some, same_Some}
use Rattle.std.specs.Option.{option_map_or, option_and_then}
use Rattle.std.specs.Prelude.{slice_get, slice_set, slice_index, ◌^◌, IsTrue}
use Rattle.mps_base.specs.Address.{Address, Id, Word, word_of}
use Rattle.mps_format.specs.Layout.{Layout}
use Rattle.mps_model.specs.Graph.{Cell, ReferenceCell, Automatic, Object, Graph, entry_at, size_of, target_of_cell, with_target_cell, graph_with_cells, object_with_cells, body_with_cells}
use Rattle.mps_model.specs.Checked.{cells_of_body}
use Rattle.mps_model.specs.LegalMove.{target_in_cell}
use Rattle.mps_abstract.specs.Colours.{Colours, is_white}
use Rattle.mps_abstract.specs.Collecting.{Collecting}
use Rattle.mps_trace_laws.specs.Image.Memory.{Setting, Memory, Lies, all_cells}
use Rattle.mps_trace_laws.specs.Image.Image.{CellSet, with_cell, ImageStands, AreShaped}
use Rattle.mps_trace_laws.specs.Image.Changes.{setting_with_objects, memory_with_word}
use Rattle.mps_trace_laws.specs.Image.Fixing.{Target}
use Rattle.mps_trace_laws.proofs.Image.References as references
use Rattle.mps_trace_laws.proofs.Image.Targets as targets
use Rattle.mps_trace_laws.proofs.Image.Written.{cell_written, no_cell_changed}
use Rattle.mps_trace_laws.proofs.Image.CellChanged.{graph_cell_changed, target_changed}
use Rattle.mps_trace_laws.proofs.Splats.Shapes as shape

module _ (s : Setting) (y : Collecting) (m : Memory) (addresses : List (Option Address)) (k : Colours) (done : CellSet) (holder i : ℕ)
    (at : Address) (o : Object) (head : ℕ) (cells : List Cell) (is_weak : Bool) (tag : ℕ)
    (shaped : AreShaped y.world.graph.objects s.layout) (all_read : (id : Id) → IsTrue (s.is_read id))
    (there : entry_at addresses holder ≡ Some at) (object : slice_get y.world.graph.objects holder ≡ Some o)
    (body : o.body ≡ Automatic head cells is_weak) (within : i < size_of o)
    (st : ImageStands (setting_with_objects s y.world.graph.objects) m addresses k done) where
  abbrev pub set : Setting
  set = setting_with_objects s y.world.graph.objects

  abbrev f : Layout
  f = s.layout o.pool

  abbrev n : Word
  n = word_of at + i

  lies : Lies set.objects addresses holder i o n
  lies = record { at = at; address = there; object = object; within = within; is = refl }

  of_all : (c : Cell) → slice_get cells i ≡ Some c → slice_get (all_cells o.body) i ≡ Some c
  of_all c cell = ap (λ b. slice_get (all_cells b) i) body ∙ cell

  -- ---- null

  module _ (cell : slice_get cells i ≡ Some (ReferenceCell None tag)) where
    pub null_there : f.target (slice_index m.words n) ≡ 0
    null_there =
        references.found_null set m.words addresses shaped st.placed st.words all_read holder i o n tag lies
        (of_all (ReferenceCell None tag) cell)

    pub null_passed : ImageStands set m addresses k (with_cell done holder i)
    null_passed =
        targets.passed set addresses k done holder i o n (ReferenceCell None tag) lies (of_all (ReferenceCell None tag) cell) m
        (record {
          holds = st.words.cells holder i o n (ReferenceCell None tag) (all_read holder) lies (of_all (ReferenceCell None tag) cell);
          not_white = λ u e. absurd (none-some u e);
        }) st

  -- ---- a reference to an object

  module _ (t now : ℕ) (cell : slice_get cells i ≡ Some (ReferenceCell (Some t) tag)) (live : entry_at addresses t ≡ Some now) where
    abbrev c : Cell
    c = ReferenceCell (Some t) tag

    pub found : references.FoundTarget set addresses f t tag (slice_index m.words n) now
    found =
        references.found set m.words addresses shaped st.placed st.words all_read holder i o n tag lies t now
        (of_all c cell) live

    pub not_null : 0 < f.target (slice_index m.words n)
    not_null = omega (arith, found.not_null, found.read.target)

    abbrev address : Address
    address = f.target (slice_index m.words n)

    pub target : Target set addresses t address now found.object
    target = subst (λ a. Target set addresses t a now found.object) (sym found.read.target) found.target

    pub updated : (answer : Address) → answer ≡ now → is_white s.condemned k t ≡ false
        → ImageStands set (memory_with_word m n (f.retarget (slice_index m.words n) answer)) addresses k (with_cell done holder i)
    updated answer is black =
        let there_now : entry_at addresses t ≡ Some answer = live ∙ ap (λ a. Some a) (sym is) in
        cell_written set y.world.graph.objects m addresses k done holder i o n c (f.retarget (slice_index m.words n) answer)
        (no_cell_changed y.world.graph.objects holder i o c object (of_all c cell)) st lies
        (record {
          holds = record {
            address = answer;
            is = found.read.retarget answer (st.placed.address t answer there_now);
            means = inl there_now;
          };
          not_white = λ u e. subst (λ v. is_white s.condemned k v ≡ false) (same_Some t u e) black;
        })

    -- ---- it is splatted

    module _ (white : is_white s.condemned k t ≡ true) where
      abbrev pub change : List Cell → List Cell
      change = λ cs. with_target_cell cs i None

      abbrev pub after : Graph
      after = graph_with_cells y.world.graph holder change

      abbrev new : Cell
      new = ReferenceCell None tag

      word_is : f.retarget (slice_index m.words n) 0 ≡ tag
      word_is =
          let stands = st.words.cells holder i o n c (all_read holder) lies (of_all c cell) in
          let low : tag < 8 = shaped.tags holder i o (Some t) tag lies.object (of_all c cell) in
          let a : Rattle.mps_trace_laws.specs.Image.Image.IsAddress stands.address = elim stands.means [
            | inl e ↦ st.placed.address t stands.address e
            | inr e ↦ st.placed.address_at_flip t stands.address e
          ] in
          let small : slice_index m.words n < 2 ^ 64 = omega (arith, stands.is, a.small, low) in
          let kept = (shaped.lawful o.pool).retarget_keeps_tag (slice_index m.words n) 0 small (omega arith) (omega arith) in
          omega (arith, kept, stands.is, a.aligned, low)

      pub splatted_image :
          ImageStands (setting_with_objects s after.objects) (memory_with_word m n (f.retarget (slice_index m.words n) 0)) addresses k
          (with_cell done holder i)
      splatted_image =
          cell_written set after.objects m addresses k done holder i o n new (f.retarget (slice_index m.words n) 0)
          (graph_cell_changed y.world.graph holder o head cells is_weak i new change object body
          (target_changed cells i tag (Some t) None cell)) st lies
          (record { holds = word_is; not_white = λ u e. absurd (none-some u e) })

      pub objects_are : after.objects
          ≡ shape.objects' y.world.graph.objects s.layout shaped holder o head cells is_weak object body i tag (Some t) cell
      objects_are =
          ap (λ found. option_map_or (λ (q : Object). slice_set y.world.graph.objects holder (object_with_cells q change)) found
          y.world.graph.objects) object
          ∙ ap (λ b. slice_set y.world.graph.objects holder (record o { body = body_with_cells b change })) body
          ∙ ap (λ cs. slice_set y.world.graph.objects holder (record o { body = Automatic head cs is_weak }))
          (target_changed cells i tag (Some t) None cell)

      pub refers : target_in_cell y.world holder i ≡ Some t
      refers =
          ap (λ p. option_and_then target_of_cell (option_and_then (λ (q : Object).
          slice_get (cells_of_body q.body) i) p)) object
          ∙ ap (λ b. option_and_then target_of_cell (slice_get (cells_of_body b) i)) body
          ∙ ap (option_and_then target_of_cell) cell
