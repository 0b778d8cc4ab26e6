use Rattle.std.proofs.Common.{ℕ, ◌≡◌, ◌∙◌, ◌<◌, ◌++◌, ◌∷◌, [], List, length, true, Bool, sym, ap, subst, refl, arith}
use Rattle.std.specs.Prelude.{None, slice_set}
use Rattle.std.specs.Vec.{vec_capacity}
use Rattle.std.proofs.lemmas.Grind.{common_steps}
use Rattle.mps_dep.specs.declared.dependents.Pair.{Pair}
use Rattle.mps_dep.specs.Inside.{IsSoundDependents}
use Rattle.mps_address_marks.specs.Marks.{mark_of}
use Rattle.mps_dep.specs.Marks.{marks_count}
use Rattle.mps_dep.specs.State.{dependent_of, max_pairs}
use Rattle.mps_dep.proofs.Pairs.{added_stays_sound, for_some, has_room, is_replaced, none_before, none_to_end}
use Rattle.mps_dep.proofs.dependents.Dependents.link.Goals as goal
use Rattle.mps_dep.proofs.dependents.Dependents.link.Goals.{else-is_none-via-then-is_none+else-len-eq-MAX_PAIRS, else-is_none-via-else-is_none}

-- the holder had no dependent
none : (c : goal.Then-len-eq-MAX_PAIRS) → dependent_of c.args.self.now c.args.holder.0 ≡ None
none c = none_before c.unlink-before.result (dependent_of c.args.self.now c.args.holder.0) c.if-is_none.ensures
    c.unlink-before.ensures.value

-- so nothing changed
same : (c : goal.Then-len-eq-MAX_PAIRS) → c.unlink-before.new.self ≡ c.args.self.now
same c = c.unlink-before.ensures.state ∙ sym (none_to_end c.args.self.now c.args.holder.0 (none c))

full : (c : goal.Then-len-eq-MAX_PAIRS) → length c.args.self.now ≡ max_pairs
full c =
    let many : length c.self.inside.pairs.items ≡ 1024 = grind (arith, common_steps, c.len.ensures, c.if-len-eq-MAX_PAIRS.true) in
    ap length (sym (same c)) ∙ ap length (sym c.self.view_is) ∙ many

pub returns-then-len-eq-MAX_PAIRS-clause-state : goal.returns-then-len-eq-MAX_PAIRS-clause-state
returns-then-len-eq-MAX_PAIRS-clause-state c = same c

pub returns-then-len-eq-MAX_PAIRS-clause-fits : goal.returns-then-len-eq-MAX_PAIRS-clause-fits
returns-then-len-eq-MAX_PAIRS-clause-fits c = λ fits. absurd (omega (arith, fits, full c))

pub returns-then-len-eq-MAX_PAIRS-clause-full : goal.returns-then-len-eq-MAX_PAIRS-clause-full
returns-then-len-eq-MAX_PAIRS-clause-full c = (refl, full c, none c)

fits : (c : goal.In-Ok) → length c.self.inside.pairs.items < max_pairs
fits c =
    elim c.else-is_none.branch [
      | else-is_none-via-then-is_none+else-len-eq-MAX_PAIRS w ↦
          grind (arith, common_steps, w.len.ensures, w.if-len-eq-MAX_PAIRS.false, c.self.invariant.few)
      | else-is_none-via-else-is_none w ↦
          let room : length c.unlink-before.new.self < max_pairs =
          for_some c.unlink-before.result w.if-is_none.ensures c.unlink-before.ensures.room
          in
          omega (arith, room, ap length c.self.view_is)
    ]

pub returns-clause-room : goal.returns-clause-room
returns-clause-room c =
    elim c.else-is_none.branch [
      | else-is_none-via-then-is_none+else-len-eq-MAX_PAIRS w ↦
          let none = none_before c.unlink-before.result (dependent_of c.args.self.now c.args.holder.0) w.if-is_none.ensures
          c.unlink-before.ensures.value in
          let same = c.unlink-before.ensures.state ∙ sym (none_to_end c.args.self.now c.args.holder.0 none) in
          let room = fits c in
          has_room c.args.self.now c.args.holder.0 (omega (arith, room, ap length c.self.view_is, ap length same))
      | else-is_none-via-else-is_none w ↦
          is_replaced c.unlink-before.result c.args.self.now c.args.holder.0 w.if-is_none.ensures c.unlink-before.ensures.value
    ]

pub invariant_of-self : goal.invariant_of-self
invariant_of-self c =
    let old = c.self.inside in
    let p : Pair = record { holder = c.args.holder; dependent = c.args.dependent } in
    let capacity = vec_capacity c.push.new.self in
    let h = mark_of marks_count c.args.holder.0 in
    let d = mark_of marks_count c.args.dependent.0 in
    let marked : c.set-2.new.self ≡ slice_set (slice_set old.marks h true) d true =
    c.set-2.ensures.state
    ∙ ap (λ (n : ℕ). slice_set c.set.new.self n true) c.mark_of-2.ensures.value
    ∙ ap (λ (marks : List Bool). slice_set marks d true) (c.set.ensures.state
    ∙ ap (λ (n : ℕ). slice_set old.marks n true) c.mark_of.ensures.value)
    in
    let sound = added_stays_sound old.pairs.items old.marks (vec_capacity old.pairs) capacity p c.self.invariant (fits c)
    (omega (arith, c.mark_of.ensures.within, c.mark_of.ensures.value))
    (omega (arith, c.mark_of-2.ensures.within, c.mark_of-2.ensures.value))
    c.push.ensures.capacity
    in
    let P : List Pair → Type 0 = λ pairs. IsSoundDependents pairs c.set-2.new.self capacity in
    let Q : List Bool → Type 0 = λ marks. IsSoundDependents (old.pairs.items ++ p ∷ []) marks capacity in
    subst P (sym c.in-Ok.ensures.items) (subst Q (sym marked) sound)
