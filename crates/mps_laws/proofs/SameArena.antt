-- Moves, and the acts of calls with moves, change neither the arena's grains nor what the numbers of formats mean.
use Rattle.std.proofs.Common.{◌≡◌, Bool, false, ◌∙◌, ℕ, true, false, refl, List, [], ◌∷◌, Option, Some, None}
use Rattle.std.specs.Prelude.{if◌then◌else◌, map}
use Rattle.mps_base.specs.Segment.{Segment, words_of_segment}
use Rattle.mps_base.specs.declared.moves.Move.{Move}
use Rattle.mps_base.specs.declared.moves.Move.TheVariants as moves
use Rattle.mps_model.specs.declared.call.Call.{Call}
use Rattle.mps_model.specs.declared.call.Call.TheVariants as call
use Rattle.mps_model.specs.Graph.{is_automatic}
use Rattle.mps_model.specs.World.{World, id_at, is_copying_pool, object_is, with_tail}
use Rattle.mps_model.specs.Checked.{as_point, number_named}
use Rattle.mps_model.specs.Effect.{world_after_move, world_after_moves, after_segment, after_free, after_moved, after_post, after_splat, holding, where_one, with_collection, reclaiming, segment_base_of, segment_of_move, placing, without_object}
use Rattle.mps_model.specs.Policy.{units_asked}
use Rattle.mps_model.specs.History.{after_own_segment, asking, judged_world, moved_world, moves_of_poll, own_segment}
use Rattle.mps_model.specs.Reply.{act}
use Rattle.mps_changes.proofs.AsideFacts.{aside_is}
use Rattle.mps_changes.specs.Change.{ForAct, makes_arena, Change, Aside}
use Rattle.mps_changes.proofs.ActChanges.{of_changes}
use Rattle.mps_laws.proofs.OwnSegments.{own_segment_taken}
use Rattle.mps_laws.proofs.Positions.LegalMoves.{splatted_kept}
use Rattle.mps_laws.proofs.Positions.Occupancy.{shape_of}

pub record IsSameArena (before after : World) : Type 0 where
  pub grains : after.grains ≡ before.grains
  pub formats : after.formats ≡ before.formats

pub itself : (w : World) → IsSameArena w w
itself w = record { grains = refl; formats = refl }

-- what no move touches
pub record IsLeftAlone (before after : World) : Type 0 where
  pub grains : after.grains ≡ before.grains
  pub formats : after.formats ≡ before.formats
  pub names : after.graph.names ≡ before.graph.names
  pub labels : after.graph.labels ≡ before.graph.labels
  pub pools : after.pools ≡ before.pools
  pub shapes : map shape_of after.graph.objects ≡ map shape_of before.graph.objects
  pub state : after.state ≡ before.state
  pub blocks : after.graph.blocks ≡ before.graph.blocks
  pub caches : after.graph.caches ≡ before.graph.caches
  pub frames : after.graph.frames ≡ before.graph.frames

left_as : {w v : World} → v.grains ≡ w.grains → v.formats ≡ w.formats → v.graph.names ≡ w.graph.names → v.graph.labels ≡ w.graph.labels
    → v.pools ≡ w.pools → map shape_of v.graph.objects ≡ map shape_of w.graph.objects → v.state ≡ w.state
    → v.graph.blocks ≡ w.graph.blocks → v.graph.caches ≡ w.graph.caches → v.graph.frames ≡ w.graph.frames → IsLeftAlone w v
left_as grains formats names labels pools shapes state blocks caches frames = record {
  grains = grains;
  formats = formats;
  names = names;
  labels = labels;
  pools = pools;
  shapes = shapes;
  state = state;
  blocks = blocks;
  caches = caches;
  frames = frames;
}

left_alone : {w : World} → IsLeftAlone w w
left_alone = left_as refl refl refl refl refl refl refl refl refl refl

then_same : (u v w : World) → IsLeftAlone u v → IsLeftAlone v w → IsLeftAlone u w
then_same u v w first second = record {
  grains = second.grains ∙ first.grains;
  formats = second.formats ∙ first.formats;
  names = second.names ∙ first.names;
  labels = second.labels ∙ first.labels;
  pools = second.pools ∙ first.pools;
  shapes = second.shapes ∙ first.shapes;
  state = second.state ∙ first.state;
  blocks = second.blocks ∙ first.blocks;
  caches = second.caches ∙ first.caches;
  frames = second.frames ∙ first.frames;
}

-- ---- moves

one_same : (w : World) (o : Option ℕ) (change : ℕ → World) → ((id : ℕ) → IsLeftAlone w (change id)) → IsLeftAlone w (where_one w o change)
one_same w None change each = left_alone
one_same w (Some id) change each = each id

free_same : (w : World) (id at : ℕ) → IsLeftAlone w (after_free w id at)
free_same w id at =
    elim (object_is is_automatic w id) as (λ b. IsLeftAlone w (if b then with_collection (without_object w id)
    (reclaiming (segment_base_of w at)) else without_object w id)) [
      | true ↦ left_as refl refl refl refl refl refl refl refl refl refl
      | false ↦ left_as refl refl refl refl refl refl refl refl refl refl
    ]

segment_same : (w : World) (s : Segment) → IsLeftAlone w (after_segment w s)
segment_same w s =
    elim (is_copying_pool w s.pool) as (λ b. IsLeftAlone w (if b then with_tail (holding w s) s.pool s.generation (words_of_segment s)
    else holding w s)) [
      | true ↦ left_as refl refl refl refl refl refl refl refl refl refl
      | false ↦ left_as refl refl refl refl refl refl refl refl refl refl
    ]

move_same : (w : World) (m : Move) → IsLeftAlone w (world_after_move w m)
move_same w (moves.Seg base grains pool generation) = segment_same w (segment_of_move base.0 grains pool generation)
move_same w (moves.Unseg base) = left_as refl refl refl refl refl refl refl refl refl refl
move_same w (moves.Flip zones chain generation) = left_as refl refl refl refl refl refl refl refl refl refl
move_same w moves.End = left_as refl refl refl refl refl refl refl refl refl refl
move_same w (moves.Moved from to) =
    one_same w (id_at w from.0) (λ id. after_moved w id to.0) (λ id. left_as refl refl refl refl refl refl refl refl refl refl)
move_same w (moves.Stay at) =
    one_same w (id_at w at.0) (λ id. with_collection w (placing id)) (λ id. left_as refl refl refl refl refl refl refl refl refl refl)
move_same w (moves.Splat holder cell) =
    one_same w (id_at w holder.0) (λ id. after_splat w id cell)
    (λ id. left_as refl refl refl refl refl (splatted_kept w.graph id cell) refl refl refl refl)
move_same w (moves.Post at) =
    one_same w (id_at w at.0) (after_post w) (λ id. left_as refl refl refl refl refl refl refl refl refl refl)
move_same w (moves.Commit at words pool) = left_alone
move_same w (moves.Alloc at words pool) = left_alone
move_same w (moves.Free at) = one_same w (id_at w at.0) (λ id. after_free w id at.0) (λ id. free_same w id at.0)

moves_same : (w : World) (ms : List Move) → IsLeftAlone w (world_after_moves w ms)
moves_same w [] = left_alone
moves_same w (m ∷ ms) =
    then_same w (world_after_move w m) (world_after_moves (world_after_move w m) ms) (move_same w m) (moves_same (world_after_move w m) ms)

asked_same : (units : Option ℕ) (w : World) → IsLeftAlone w (asking units w)
asked_same None w = left_alone
asked_same (Some units) w = left_as refl refl refl refl refl refl refl refl refl refl

own_same : (w : World) (ms : List Move) (number : Option ℕ) → IsLeftAlone w (after_own_segment w ms number)
own_same w ms number =
    own_segment_taken (IsLeftAlone w) w left_alone
    (λ s. left_as refl refl refl refl refl refl refl refl refl refl)
    (λ s n r. left_as refl refl refl refl refl refl refl refl refl refl) ms number

-- the moves of a call
pub moved_alone : (w : World) (c : Call) (ms : List Move) → IsLeftAlone w (moved_world w c ms)
moved_alone w (call.Reserve name head) ms =
    let polled = world_after_moves w (moves_of_poll ms) in
    let owned = after_own_segment polled (own_segment ms) (number_named w name as_point) in
    then_same w owned (asking (units_asked w (call.Reserve name head)) owned)
    (then_same w polled owned (moves_same w (moves_of_poll ms)) (own_same polled (own_segment ms) (number_named w name as_point)))
    (asked_same (units_asked w (call.Reserve name head)) owned)
moved_alone w (call.Step units) ms =
    then_same w (world_after_moves w ms) (asking (units_asked w (call.Step units)) (world_after_moves w ms)) (moves_same w ms)
    (asked_same (units_asked w (call.Step units)) (world_after_moves w ms))
moved_alone w _ ms = moves_same w ms

-- the world in which a call is judged
pub judged_alone : (w : World) (c : Call) (ms : List Move) → IsLeftAlone w (judged_world w c ms)
judged_alone w (call.Reserve name head) ms = moves_same w (moves_of_poll ms)
judged_alone w _ ms = left_alone

pub moved_same : (w : World) (c : Call) (ms : List Move) → IsSameArena w (moved_world w c ms)
moved_same w c ms = let alone = moved_alone w c ms in record { grains = alone.grains; formats = alone.formats }

-- ---- acts

change_same : {marked : Bool} {c : Call} {judged v u : World} → makes_arena c ≡ false → Change marked c judged v u → IsSameArena v u
change_same h (Aside u what) = record { grains = (aside_is what).grains h; formats = refl }
change_same h _ = record { grains = refl; formats = refl }

pub act_same : (marked : Bool) (judged v : World) (c : Call) → makes_arena c ≡ false → ForAct (IsSameArena v) (act marked judged v c)
act_same marked judged v c h = of_changes marked judged v c (λ u change. change_same h change)
