-- Each label of a log is a name, which represents it by its number, in each world that a history reaches: labels are never dropped.
use Rattle.std.proofs.Common.{◌≡◌, ◌∙◌, ℕ, suc, ◌+◌, Bool, true, false, refl, sym, ap, List, [], ◌∷◌, length, Option, Some, None, inl, inr, arith}
use Rattle.std.proofs.lemmas.Bool.{and_from, cases_order, eq-eqb, false≢true}
use Rattle.std.proofs.lemmas.Option.{none-some, same_Some}
use Rattle.std.specs.Prelude.{slice_get, is_some, if◌then◌else◌}
use Rattle.mps_base.specs.Name.{same_name}
use Rattle.mps_base.specs.declared.names.Name.{Name}
use Rattle.mps_model.specs.Answer.{is_block}
use Rattle.mps_model.specs.declared.call.Call.{Call}
use Rattle.mps_model.specs.Step.{Step}
use Rattle.mps_model.specs.Graph.{Graph, NamedThing, Thing, ChainThing, PoolThing, TableThing, AreaThing, BlocksThing, PointThing, DependencyThing, TransformThing, CacheThing, LabelThing, thing_in, thing_named, is_taken, with_last, without_name}
use Rattle.mps_model.specs.World.{World}
use Rattle.mps_model.specs.WellFormed.{is_label, are_labels}
use Rattle.mps_model.specs.Checked.{as_point}
use Rattle.mps_model.specs.Reply.{act}
use Rattle.mps_model.specs.History.{judged_world, moved_world, world_after}
use Rattle.mps_changes.specs.Change.{AsideIs, ChainMade, DependencyMade, LabelMade, TransformMade, TransformDropped, Change, Aside, TableMade, AreaMade, BlocksMade, TableDropped, AreaDropped, PoolMade, PointMade, PointDropped, Substituted, CacheMade}
use Rattle.mps_changes.proofs.ActChanges.{of_changes}
use Rattle.mps_laws.proofs.Acts.{for_world, point_named-is}
use Rattle.mps_laws.proofs.Lookups.{slice_get-at_last, slice_get-after_last, slice_get-last}
use Rattle.mps_laws.proofs.Naming.{same_name_itself}
use Rattle.mps_laws.proofs.SameArena.{moved_alone}

-- ---- names

-- a name keeps its thing if another is made
thing_kept : (ns : List NamedThing) (n : NamedThing) (name : Name) (t : Thing) → thing_in ns name ≡ Some t
    → thing_in (with_last ns n) name ≡ Some t
thing_kept [] n name t e = absurd (none-some t e)
thing_kept (m ∷ ms) n name t e =
    elim (same_name m.name name) as (λ b. (if b then Some m.thing else thing_in ms name) ≡ Some t
    → (if b then Some m.thing else thing_in (with_last ms n) name) ≡ Some t) [
      | true ↦ (λ h. h)
      | false ↦ (λ h. thing_kept ms n name t h)
    ] e

-- a free name represents what is made
thing_made : (ns : List NamedThing) (name : Name) (t : Thing) → is_some (thing_in ns name) ≡ false
    → thing_in (with_last ns (record { name = name; thing = t })) name ≡ Some t
thing_made [] name t free = ap (λ b. if b then Some t else None) (same_name_itself name)
thing_made (m ∷ ms) name t free =
    elim (same_name m.name name) as (λ b. is_some (if b then Some m.thing else thing_in ms name) ≡ false
    → (if b then Some m.thing else thing_in (with_last ms (record { name = name; thing = t })) name) ≡ Some t) [
      | true ↦ (λ h. absurd (false≢true (sym h)))
      | false ↦ (λ h. thing_made ms name t h)
    ] free

-- a name keeps its thing if one that represents another is dropped
thing_left : (ns : List NamedThing) (name dropped : Name) (t other : Thing) → (t ≡ other → ⊥) → thing_in ns name ≡ Some t
    → thing_in ns dropped ≡ Some other → thing_in (without_name ns dropped) name ≡ Some t
thing_left [] name dropped t other differ e f = absurd (none-some t e)
thing_left (m ∷ ms) name dropped t other differ e f =
    by_case (thing_left ms name dropped t other differ) (same_name m.name dropped) (same_name m.name name) refl e f
  where
    by_case : (thing_in ms name ≡ Some t → thing_in ms dropped ≡ Some other → thing_in (without_name ms dropped) name ≡ Some t)
        → (b c : Bool) → same_name m.name name ≡ c → (if c then Some m.thing else thing_in ms name) ≡ Some t
        → (if b then Some m.thing else thing_in ms dropped) ≡ Some other
        → thing_in (if b then ms else m ∷ without_name ms dropped) name ≡ Some t
    by_case later true true s g h = absurd (differ (sym (same_Some m.thing t g) ∙ same_Some m.thing other h))
    by_case later true false s g h = g
    by_case later false true s g h =
        ap (λ b. if b then Some m.thing else thing_in (without_name ms dropped) name) s ∙ g
    by_case later false false s g h =
        ap (λ b. if b then Some m.thing else thing_in (without_name ms dropped) name) s
        ∙ later g h

-- ---- labels

-- each label is a name, which represents it
abbrev pub AreNamed : Graph → Type 0
AreNamed g = (number : ℕ) (label : Name) → slice_get g.labels number ≡ Some label → thing_named g label ≡ Some (LabelThing number)

abbrev label_is : Thing → Bool
label_is (LabelThing number) = true
label_is _ = false

no_label : (number : ℕ) (other : Thing) → label_is other ≡ false → LabelThing number ≡ other → ⊥
no_label number other none same = false≢true (sym none ∙ sym (ap label_is same))

module _ (v : World) (named : AreNamed v.graph) where
  one_more : (n : NamedThing) → AreNamed (record v.graph { names = with_last v.graph.names n })
  one_more n number label e = thing_kept v.graph.names n label (LabelThing number) (named number label e)

  one_less : (name : Name) (other : Thing) → thing_named v.graph name ≡ Some other → label_is other ≡ false
      → AreNamed (record v.graph { names = without_name v.graph.names name })
  one_less name other is none number label e =
      thing_left v.graph.names label name (LabelThing number) other (no_label number other none) (named number label e) is

  label_made : (name : Name) → is_taken v.graph name ≡ false → (number : ℕ) (label : Name)
      → slice_get (with_last v.graph.labels name) number ≡ Some label
      → thing_in (with_last v.graph.names (record { name = name; thing = LabelThing (length v.graph.labels) })) label ≡ Some
      (LabelThing number)
  label_made name free number label e =
      let made : NamedThing = record { name = name; thing = LabelThing (length v.graph.labels) } in
      elim (cases_order number (length v.graph.labels)) [
        | inl same ↦
            let its : name ≡ label = same_Some name label
            (sym (slice_get-at_last v.graph.labels name) ∙ ap (slice_get (with_last v.graph.labels name)) (sym same) ∙ e)
            in
            ap (thing_in (with_last v.graph.names made)) (sym its)
            ∙ thing_made v.graph.names name (LabelThing (length v.graph.labels)) free ∙ ap (λ n. Some (LabelThing n)) (sym same)
        | inr (inl low) ↦
            thing_kept v.graph.names made label (LabelThing number)
            (named number label (sym (slice_get-last v.graph.labels name number low) ∙ e))
        | inr (inr past) ↦ absurd (none-some label (sym (slice_get-after_last v.graph.labels name number past) ∙ e))
      ]

  aside_named : {marked : Bool} {c : Call} {judged u : World} → AsideIs marked c judged v u → AreNamed u.graph
  aside_named (ChainMade name capacities) = one_more _
  aside_named (DependencyMade name d is dated) = one_more _
  aside_named (LabelMade name is free) = label_made name free
  aside_named (TransformMade name) = one_more _
  aside_named (TransformDropped name transform is) = one_less name (TransformThing transform) is refl
  aside_named _ = named

  change_named : {marked : Bool} {c : Call} {judged u : World} → Change marked c judged v u → AreNamed u.graph
  change_named (Aside u what) = aside_named what
  change_named (TableMade name slots) = one_more _
  change_named (AreaMade name words) = one_more _
  change_named (BlocksMade name places e) = one_more _
  change_named (CacheMade name pool of classes e may none) = one_more _
  change_named (PoolMade name p e made) = one_more _
  change_named (PointMade name pool of at_rank e is may) = one_more _
  change_named (TableDropped name n is) = one_less name (TableThing n) is refl
  change_named (AreaDropped name n is) = one_less name (AreaThing n) is refl
  change_named (PointDropped name p e is none) = of_thing (thing_named v.graph name) refl (point_named-is v name p is).0
    where
      of_thing : (o : Option Thing) → thing_named v.graph name ≡ o → (Rattle.std.specs.Prelude.option_and_then as_point o) ≡ Some p.number
          → AreNamed (record v.graph { names = without_name v.graph.names name })
      of_thing None f g = absurd (none-some p.number g)
      of_thing (Some (PointThing number)) f g = one_less name (PointThing number) f refl
      of_thing (Some (ChainThing number)) f g = absurd (none-some p.number g)
      of_thing (Some (PoolThing number)) f g = absurd (none-some p.number g)
      of_thing (Some (TableThing number)) f g = absurd (none-some p.number g)
      of_thing (Some (AreaThing number)) f g = absurd (none-some p.number g)
      of_thing (Some (BlocksThing number)) f g = absurd (none-some p.number g)
      of_thing (Some (DependencyThing number)) f g = absurd (none-some p.number g)
      of_thing (Some (TransformThing number)) f g = absurd (none-some p.number g)
      of_thing (Some (CacheThing number)) f g = absurd (none-some p.number g)
      of_thing (Some (LabelThing number)) f g = absurd (none-some p.number g)
  change_named (Substituted name transform e is parked) = one_less name (TransformThing transform) is refl
  change_named _ = named

-- after any step
pub labels_after : (w : World) (s : Step) → AreNamed w.graph → AreNamed (world_after w s).graph
labels_after w s named =
    let v = moved_world w s.call s.moves in
    let alone = moved_alone w s.call s.moves in
    let judged = judged_world w s.call s.moves in
    let moved : AreNamed v.graph = (λ number label e.
    ap (λ ns. thing_in ns label) alone.names ∙ named number label (sym (ap (λ ls. slice_get ls number) alone.labels) ∙ e)) in
    for_world (λ u. AreNamed u.graph) v (act (is_block s.answer) judged v s.call)
    (of_changes (is_block s.answer) judged v s.call (λ u change. change_named v moved change)) moved

-- as the fact of well-formed worlds has it
pub labels_from : (g : Graph) (first : ℕ) (labels : List Name)
    → ((number : ℕ) (label : Name) → slice_get labels number ≡ Some label → thing_named g label ≡ Some (LabelThing (first + number)))
    → are_labels g first labels ≡ true
labels_from g first [] each = refl
labels_from g first (label ∷ labels) each =
    and_from (is_label first (thing_named g label)) (are_labels g (first + 1) labels)
    (ap (is_label first) (each 0 label refl) ∙ eq-eqb (first + 0) first (omega arith))
    (labels_from g (first + 1) labels (λ number next e.
    each (suc number) next e ∙ ap (λ n. Some (LabelThing n)) (let same : first + suc number ≡ first + 1 + number = omega arith in same)))
