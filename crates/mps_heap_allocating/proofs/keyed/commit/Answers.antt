use Rattle.std.proofs.Common.{◌≡◌, ◌+◌, ◌*◌, ◌<◌, Some, sym, subst}
use Rattle.mps_base.specs.Address.{word_of, words_of_grain}
use Rattle.mps_base.specs.Run.{IsAscending}
use Rattle.mps_base.specs.declared.address.Addr.{Addr}
use Rattle.mps_buffer.specs.Points.{point_at, run_of_held}
use Rattle.mps_buffer.specs.Tokens.{HasOpen}
use Rattle.mps_seg.specs.Segs.{SegsState}
use Rattle.mps_heap_spec.specs.State.{HeapState}
use Rattle.mps_heap_allocating.proofs.Committing.{came}
use Rattle.mps_heap_allocating.proofs.Inside.{begins_inside}
use Rattle.mps_heap_allocating.proofs.Ready.{MayCommit, may_commit}
use Rattle.mps_heap_allocating.proofs.keyed.commit.Goals as goal

pub commit-requires-clause-open : goal.commit-requires-clause-open
commit-requires-clause-open g c =
    let point = c.in_ok-point.point in
    let P : HeapState g.row.F.Denot → Type 0 = λ h. MayCommit h point.key in
    subst P (sym c.state.view_is)
    (may_commit c.args.state.now point.key point.value c.in_ok-_held._held c.requires.ready c.in_ok-point.ensures.there
    c.in_ok-_held.ensures.open)

pub keep_new-requires : goal.keep_new-requires
keep_new-requires g c =
    let point = c.in_ok-point.point in
    let held = c.in_ok-_held._held in
    let P : HeapState g.row.F.Denot → Type 0 = λ h. point_at h.points point.key ≡ Some point.value in
    let there = subst P (sym c.state.view_is) c.in_ok-point.ensures.there in
    let is_open : HasOpen c.state.inside.points point.key point.value held =
    record { there = there; reserved = c.in_ok-_held.ensures.open } in
    let end = words_of_grain * (c.commit.new.segs.grains + 1) in
    subst (λ (a : Addr). word_of a.0 < end) (sym (c.in-Ok.ensures.sound point.value held is_open).0)
    (begins_inside 0 end (run_of_held held) c.state.inside.segs.blocks
    (subst (λ (s : SegsState). IsAscending 0 end s.blocks) (c.in-Ok.ensures.state point.value held is_open)
    c.blocks_are_in_order.ensures.ordered))

pub returns-in-Ok-clause-came : goal.returns-in-Ok-clause-came
returns-in-Ok-clause-came g c =
    let point = c.in_ok-point.point in
    let held = c.in_ok-_held._held in
    let P : HeapState g.row.F.Denot → Type 0 = λ h. point_at h.points point.key ≡ Some point.value in
    let there = subst P (sym c.state.view_is) c.in_ok-point.ensures.there in
    let is_open : HasOpen c.state.inside.points point.key point.value held =
    record { there = there; reserved = c.in_ok-_held.ensures.open } in
    let sound = c.in-Ok.ensures.sound point.value held is_open in
    came c.args.trail.now c.args.x.value c.args.target.slot point c.in_ok-slot.slot held _ c.args.state.now c.keep_new.new.state
    c.set_slot.new.self
    c.commit.new.segs c.commit.new.self c.commit.new.trail c.in-Ok.at c.state.view_is c.in_ok-point.ensures.value c.in_ok-slot.ensures.value
    c.in_ok-_held.ensures.open sound.1 sound.0 (c.in-Ok.ensures.state point.value held is_open) (c.in-Ok.ensures.points point.value there)
    c.keep_new.ensures c.set_slot.ensures (c.in-Ok.ensures.moves point.value held is_open)
