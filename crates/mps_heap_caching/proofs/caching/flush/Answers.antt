use Rattle.std.proofs.Common.{ap, sym, ◌∙◌}
use Rattle.std.specs.Prelude.{slice_index}
use Rattle.mps_heap_spec.specs.Coming.{Moved}
use Rattle.mps_sac.specs.State.{classes_of}
use Rattle.mps_heap_caching.proofs.Flushing.{ends, freed_next, room_for_one}
use Rattle.mps_heap_caching.proofs.caching.flush.Goals as goal

pub free_block-requires-clause-fits : goal.free_block-requires-clause-fits
free_block-requires-clause-fits g c =
    room_for_one (classes_of c.loop-at.state.beside.caches c.args.number) c.in-Some.at.0 c.loop-at.trail.spare c.in-Some.ensures.value
    c.loop-at.invariant.fits

pub loop-at-smaller : goal.loop-at-smaller
loop-at-smaller g c =
    (freed_next c.args.number c.args.pool c.args.state.now c.args.trail.now c.requires.there c.loop-at.state c.loop-at.trail
    c.loop-at.invariant c.in-Some.at.0 c.in-Some.ensures.value c.take_next.new.state c.free_block.new.state c.free_block.new.trail
    c.in-Some.ensures.state c.free_block.ensures.state c.free_block.ensures.moves).fewer

pub loop-at-preserved : goal.loop-at-preserved
loop-at-preserved g c =
    (freed_next c.args.number c.args.pool c.args.state.now c.args.trail.now c.requires.there c.loop-at.state c.loop-at.trail
    c.loop-at.invariant c.in-Some.at.0 c.in-Some.ensures.value c.take_next.new.state c.free_block.new.state c.free_block.new.trail
    c.in-Some.ensures.state c.free_block.ensures.state c.free_block.ensures.moves).goes_on

pub returns-clause-state : goal.returns-clause-state
returns-clause-state g c =
    c.in_default.ensures.state
    ∙ ap (λ (m : Moved _ _). m.state)
    (sym (ends (slice_index c.args.state.now.sizes c.args.pool) c.args.number c.loop-at.state c.loop-at.trail c.in_default.ensures.value)
    ∙ c.loop-at.invariant.same)

pub returns-clause-moves : goal.returns-clause-moves
returns-clause-moves g c =
    ap (λ (m : Moved _ _). m.trail)
    (sym (ends (slice_index c.args.state.now.sizes c.args.pool) c.args.number c.loop-at.state c.loop-at.trail c.in_default.ensures.value)
    ∙ c.loop-at.invariant.same)
