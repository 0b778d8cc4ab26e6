use Rattle.std.proofs.Common.{ℕ, ◌≡◌, ◌++◌, ◌∙◌, List, length, take, drop, sym, subst, arith, rules}
use Rattle.std.specs.List.Sorted.{IsSortedByKey}
use Rattle.std.proofs.lemmas.List.{take_at}
use Rattle.std.proofs.lemmas.List.Sorted.{answers_always}
use Rattle.mps_xform.specs.Inside.{AreInZones, AreMarked}
use Rattle.mps_xform.specs.declared.replacements.Ranked.{Ranked}
use Rattle.mps_xform.proofs.Sorted.{key_of, key_cmp, sorted_sound, found_alike}
use Rattle.mps_xform.proofs.replacements.Replacements.fill.Goals as goal

pub invariant_of-self : goal.invariant_of-self
invariant_of-self c =
    -- what is left in the marks
    let marks_are : take c.unmark_all.new.marks.len (c.gather.new.marks ++ drop (length c.gather.new.marks) c.unmark_all.new.marks.items)
    ≡ c.gather.new.marks =
    take_at c.gather.new.marks (drop (length c.gather.new.marks) c.unmark_all.new.marks.items) c.unmark_all.new.marks.len
    (c.gather.ensures.whole ∙ sym c.unmark_all.ensures.whole ∙ sym c.unmark_all.new.marks.ok.0)
    in
    let sorted : IsSortedByKey key_of key_cmp c.sort_unstable_by_key.new.self.items =
    c.sort_unstable_by_key.ensures.sorted key_of (answers_always _ _ _ (λ f a r g h. search rules)) in
    sorted_sound c.gather.new.ranked.items c.sort_unstable_by_key.new.self.items _ _ _ _ _ c.gather.ensures.ascending
    c.sort_unstable_by_key.ensures.permutation sorted
    (omega (arith, c.self.invariant.room, c.clear.ensures.capacity, c.gather.ensures.capacity, c.sort_unstable_by_key.ensures.capacity))
    (omega (arith, c.self.invariant.marks_room, c.unmark_all.ensures.capacity))
    (subst (λ (ws : List ℕ). AreMarked c.gather.new.ranked.items ws) (sym marks_are) c.gather.ensures.marked)
    (subst (λ (rs : List Ranked). AreInZones rs c.zones_of-self-inside.result.0) c.deref.ensures.value c.zones_of-self-inside.ensures)

pub returns : goal.returns
returns c = λ old.
    let sorted : IsSortedByKey key_of key_cmp c.sort_unstable_by_key.new.self.items =
    c.sort_unstable_by_key.ensures.sorted key_of (answers_always _ _ _ (λ f a r g h. search rules)) in
    found_alike c.gather.new.ranked.items c.sort_unstable_by_key.new.self.items _ old c.gather.ensures.ascending
    c.sort_unstable_by_key.ensures.permutation sorted
    ∙ c.gather.ensures.pairs old
