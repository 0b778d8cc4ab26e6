-- What the world says of a live automatic object, where the segments stand for it.
use Rattle.std.proofs.Common.{◌≡◌, ◌∙◌, ℕ, true, false, sym, ap, List, Option, Some}
use Rattle.std.specs.Prelude.{IsTrue, is_some, option_and_then, slice_get}
use Rattle.std.specs.Option.{option_map_or}
use Rattle.mps_base.specs.Address.{Address, Id, word_of}
use Rattle.mps_base.specs.Generation.{target_generation}
use Rattle.mps_base.specs.Segment.{Segment, segment_over}
use Rattle.mps_seg.specs.Segs.{SegsState}
use Rattle.mps_seg.specs.Buffer.{run_of}
use Rattle.mps_amc.specs.Amc.{AmcState, placement_of_copy}
use Rattle.mps_amc.specs.Amc as amc
use Rattle.mps_trace.specs.GenState.{ChainsState}
use Rattle.mps_trace.specs.GenState as chains
use Rattle.mps_model.specs.Graph.{Object, entry_at, size_of}
use Rattle.mps_model.specs.World.{World, pool_of, words_of, is_live, is_copying_object, is_copying_pool, generation_of, target_generation_for, generations_of, tail_of}
use Rattle.mps_model.specs.World as world
use Rattle.mps_model.specs.Accessing.{address_or_null}
use Rattle.mps_model.specs.Placement.{ForMove, placement_of}
use Rattle.mps_model.specs.Placement as model
use Rattle.mps_abstract.specs.Colours.{AreDifferent}
use Rattle.mps_trace_laws.specs.Image.Memory.{Setting}
use Rattle.mps_trace_laws.specs.Image.Image.{LieApart}
use Rattle.mps_trace_laws.proofs.Image.Marked.{begins_there}
use Rattle.mps_trace.specs.Trace.{target_of}
use Rattle.mps_trace_laws.specs.Fix.Tracing.{AreSegmentsOf}

-- no two objects have one address
pub different : (s : Setting) (addresses : List (Option Address)) → LieApart s addresses → AreDifferent addresses
different s addresses placed id other at e f =
    let o = placed.exists id at e in
    let p = placed.exists other at f in
    placed.apart id other 0 0 o.0 p.0 (word_of at) (begins_there s addresses placed id at o.0 e o.1)
    (begins_there s addresses placed other at p.0 f p.1)

module _ (w : World) (t : Id) (now : Address) (o : Object) (object : slice_get w.graph.objects t ≡ Some o)
    (there : entry_at w.addresses t ≡ Some now) where
  pub pool_is : pool_of w t ≡ o.pool
  pool_is = ap (λ e. option_map_or (λ (p : Object). p.pool) e 0) object

  pub words_are : words_of w t ≡ size_of o
  words_are = ap (λ e. option_map_or size_of e 0) object

  pub copies : IsTrue (is_copying_pool w o.pool) → is_copying_object w t ≡ true
  copies copying = ap (λ e. option_map_or (λ (p : Object). is_copying_pool w p.pool) e false) object ∙ copying

  pub lives : is_live w t ≡ true
  lives = ap is_some there

  pub address_is : address_or_null w t ≡ now
  address_is = ap (λ e. option_map_or (λ (a : ℕ). a) e 0) there

  module _ (s : Segment) (over : segment_over w.segments now ≡ Some s) where
    pub generation_is : generation_of w t ≡ s.generation
    generation_is =
        ap (λ e. option_map_or (λ (u : Segment). u.generation) (option_and_then (world.segment_of w) e) 0) there
        ∙ ap (λ e. option_map_or (λ (u : Segment). u.generation) e 0) over

    pub target_is : (of : ChainsState) → s.pool ≡ o.pool → chains.generations_of of o.pool ≡ generations_of w o.pool
        → target_generation_for w t ≡ target_of of s
    target_is of pool same =
        ap (λ p. target_generation (generations_of w p) (generation_of w t)) pool_is
        ∙ ap (λ g. target_generation g (generation_of w t)) (sym same)
        ∙ ap (λ p. target_generation (chains.generations_of of p) (generation_of w t)) (sym pool)
        ∙ ap (target_generation (chains.generations_of of s.pool)) generation_is

    -- where it is placed
    pub placed_as : (of : ChainsState) → s.pool ≡ o.pool → chains.generations_of of o.pool ≡ generations_of w o.pool → (state : AmcState)
        (g : SegsState) → AreSegmentsOf g w.grains w.limit w.segments
        → ((pool generation : ℕ) → run_of (amc.tail_of state pool generation) ≡ tail_of w pool generation)
        → placement_of w (ForMove t) ≡ placement_of_copy state g s.pool (target_of of s) (size_of o)
    placed_as of pool same state g segments tails =
        let run = run_of (amc.tail_of state s.pool (target_of of s)) in
        ap (λ p. model.placement_at_front w (tail_of w p (target_generation_for w t)) (words_of w t)) (pool_is ∙ sym pool)
        ∙ ap (λ q. model.placement_at_front w (tail_of w s.pool q) (words_of w t)) (target_is of pool same)
        ∙ ap (λ r. model.placement_at_front w r (words_of w t)) (sym (tails s.pool (target_of of s)))
        ∙ ap (model.placement_at_front w run) words_are
        ∙ ap (λ grains. model.placement_at_front (record w { grains = grains }) run (size_of o)) (sym segments.same_grains)
        ∙ ap (λ limit. model.placement_at_front (record w { grains = g.grains; limit = limit }) run (size_of o)) (sym segments.same_limit)
        ∙ ap (λ ss. model.placement_at_front (record w { grains = g.grains; limit = g.limit; segments = ss }) run (size_of o))
        (sym segments.same_segments)
