-- What each move of a collection keeps of a world without pairs and of what is done besides: the cells that were cleared are of objects
-- that aren't weak, and there are none while the collection traces.
use Rattle.std.proofs.Common.{◌≡◌, ◌∙◌, ℕ, Bool, true, false, refl, sym, ap, List, [], ◌∷◌, Option, Some, None, subst}
use Rattle.std.proofs.lemmas.Bool.{and_from, and_parts, false≢true, true≢false}
use Rattle.std.specs.Prelude.{◌==◌, ◌&&◌, if◌then◌else◌, filter, not, option_and_then, option_map}
use Rattle.std.specs.List.{list_all}
use Rattle.mps_base.specs.Address.{Address, Id}
use Rattle.mps_base.specs.Segment.{Segment, words_of_segment}
use Rattle.mps_base.specs.declared.moves.Move.{Move}
use Rattle.mps_base.specs.declared.moves.Move.TheVariants as moves
use Rattle.mps_model.specs.Collection.{Collection}
use Rattle.mps_model.specs.Graph.{contains, dependent_in, is_automatic, is_weak_object, without_first, without_named}
use Rattle.mps_model.specs.World.{World, id_at, is_copying_pool, object_is, with_tail}
use Rattle.mps_model.specs.LegalMove.{is_tracing}
use Rattle.mps_model.specs.Effect.{after_free, after_moved, after_post, after_segment, after_splat, giving_back, holding, placing, reclaiming, segment_base_of, segment_of_move, where_one, with_collection, without_object, world_after_move}
use Rattle.mps_laws.specs.Staying.{is_flip}
use Rattle.mps_refinement.specs.Following.{CellOf, Following, clearing, ending, following_move}
use Rattle.mps_refinement.proofs.Following.Cleared.{nulled_alike}
use Rattle.mps_refinement.proofs.Following.Moves.{splat_alone, weak_ignores}

-- whether a collection runs that traces
abbrev pub traces : Option Collection → Bool
traces None = false
traces (Some c) = is_tracing c.phase

-- a world without pairs in which these objects are weak, and what was done besides
pub record IsFollowable (is_weak : Id → Bool) (w : World) (f : Following) : Type 0 where
  pub unpaired : w.graph.dependents ≡ []
  pub weak : (id : Id) → object_is is_weak_object w id ≡ is_weak id
  pub pairs : list_all (λ (p : Id × Id). not (is_weak p.1)) f.pairs ≡ true
  pub cells : list_all (λ (c : CellOf). not (is_weak c.0)) f.cells ≡ true
  pub tracing : traces w.collection ≡ true → f.cells ≡ []

-- ---- the world after a move

-- what a move leaves of a world without pairs
pub record IsLeft (w v : World) : Type 0 where
  pub unpaired : v.graph.dependents ≡ []
  pub weak : (id : Id) → object_is is_weak_object v id ≡ object_is is_weak_object w id
  pub traced : traces v.collection ≡ true → traces w.collection ≡ true

changed_traces : (change : Collection → Collection) → ((c : Collection) → is_tracing (change c).phase ≡ true → is_tracing c.phase ≡ true)
    → (o : Option Collection) → traces (option_map change o) ≡ true → traces o ≡ true
changed_traces change before None h = h
changed_traces change before (Some c) h = before c h

giving_back_traces : (base : Address) (c : Collection) → is_tracing (giving_back base c).phase ≡ true → is_tracing c.phase ≡ true
giving_back_traces base c h =
    elim (contains c.condemned_segments base) as (λ b.
    is_tracing (if b then reclaiming base (record c { condemned_segments = without_first c.condemned_segments base }) else c).phase ≡ true
    → is_tracing c.phase ≡ true) [
      | true ↦ (λ e. absurd (false≢true e))
      | false ↦ (λ e. e)
    ] h

left_one : (w : World) (change : ℕ → World) (o : Option ℕ) → IsLeft w w → ((id : ℕ) → IsLeft w (change id))
    → IsLeft w (where_one w o change)
left_one w change None same each = same
left_one w change (Some id) same each = each id

module _ (w : World) (none : w.graph.dependents ≡ []) where
  same : IsLeft w w
  same = record { unpaired = none; weak = λ id. refl; traced = λ h. h }

  changed_left : (change : Collection → Collection)
      → ((c : Collection) → is_tracing (change c).phase ≡ true → is_tracing c.phase ≡ true) → IsLeft w (with_collection w change)
  changed_left change before =
      record { unpaired = none; weak = λ id. refl; traced = changed_traces change before w.collection }

  segment_left : (s : Segment) → IsLeft w (after_segment w s)
  segment_left s =
      elim (is_copying_pool w s.pool) as (λ b. IsLeft w
      (if b then with_tail (holding w s) s.pool s.generation (words_of_segment s) else holding w s)) [
        | true ↦ record { unpaired = none; weak = λ id. refl; traced = λ h. h }
        | false ↦ record { unpaired = none; weak = λ id. refl; traced = λ h. h }
      ]

  splat_left : (id cell : ℕ) → IsLeft w (after_splat w id cell)
  splat_left id cell =
      subst (λ v. IsLeft w v) (sym (splat_alone w (record { pairs = []; cells = []; at_flip = None }) none id cell)) (record {
        unpaired = none;
        weak = λ n. nulled_alike is_weak_object false w.graph.objects id cell n weak_ignores;
        traced = λ h.
            changed_traces Rattle.mps_model.specs.Effect.splatting (λ c e. absurd (false≢true e)) w.collection h;
      })

  free_left : (id at : ℕ) → IsLeft w (after_free w id at)
  free_left id at =
      elim (object_is is_automatic w id) as (λ b. IsLeft w
      (if b then with_collection (without_object w id) (reclaiming (segment_base_of w at)) else without_object w id)) [
        | true ↦ record {
          unpaired = ap (λ (ps : List (Id × Id)). without_named ps id) none;
          weak = λ n. refl;
          traced = λ h. changed_traces (reclaiming (segment_base_of w at)) (λ c e. absurd (false≢true e)) w.collection h;
        }
        | false ↦ record { unpaired = ap (λ (ps : List (Id × Id)). without_named ps id) none; weak = λ n. refl; traced = λ h. h }
      ]

  pub move_left : (m : Move) → is_flip m ≡ false → IsLeft w (world_after_move w m)
  move_left (moves.Seg base grains pool generation) no_flip = segment_left (segment_of_move base.0 grains pool generation)
  move_left (moves.Unseg base) no_flip = record {
    unpaired = none;
    weak = λ id. refl;
    traced = λ h. changed_traces (giving_back base.0) (giving_back_traces base.0) w.collection h;
  }
  move_left (moves.Flip zones chain generation) no_flip = absurd (true≢false no_flip)
  move_left moves.End no_flip = record { unpaired = none; weak = λ id. refl; traced = λ h. absurd (false≢true h) }
  move_left (moves.Moved from to) no_flip =
      left_one w (λ id. after_moved w id to.0) (id_at w from.0) same (λ id. record {
        unpaired = none;
        weak = λ n. refl;
        traced = λ h. changed_traces (placing id) (λ c e. e) w.collection h;
      })
  move_left (moves.Stay at) no_flip =
      left_one w (λ id. with_collection w (placing id)) (id_at w at.0) same (λ id. changed_left (placing id) (λ c e. e))
  move_left (moves.Splat holder cell) no_flip = left_one w (λ id. after_splat w id cell) (id_at w holder.0) same (λ id. splat_left id cell)
  move_left (moves.Post at) no_flip =
      left_one w (after_post w) (id_at w at.0) same (λ id. record {
        unpaired = none;
        weak = λ n. refl;
        traced = λ h.
            changed_traces (Rattle.mps_model.specs.Effect.posting id (Rattle.mps_model.specs.Effect.registration_of w.graph id)) (λ c e. e)
            w.collection h;
      })
  move_left (moves.Commit at words pool) no_flip = same
  move_left (moves.Alloc at words pool) no_flip = same
  move_left (moves.Free at) no_flip = left_one w (λ id. after_free w id at.0) (id_at w at.0) same (λ id. free_left id at.0)

-- ---- what is done besides

all_kept : {X : Type 0} (keep test : X → Bool) (xs : List X) → list_all test xs ≡ true → list_all test (filter keep xs) ≡ true
all_kept keep test [] h = refl
all_kept keep test (x ∷ xs) h =
    let parts = and_parts (test x) (list_all test xs) h in
    elim (keep x) as (λ b. list_all test (if b then x ∷ filter keep xs else filter keep xs) ≡ true) [
      | true ↦ and_from (test x) (list_all test (filter keep xs)) parts.0 (all_kept keep test xs parts.1)
      | false ↦ all_kept keep test xs parts.1
    ]

-- a dependent in a pair passes what all dependents pass
dependent_passes : (test : ℕ → Bool) (ps : List (Id × Id)) (holder d : ℕ) → list_all (λ (p : Id × Id). test p.1) ps ≡ true
    → dependent_in ps holder ≡ Some d → test d ≡ true
dependent_passes test [] holder d h e = absurd cc
dependent_passes test (p ∷ ps) holder d h e =
    let parts = and_parts (test p.1) (list_all (λ (q : Id × Id). test q.1) ps) h in
    elim (p.0 == holder) as (λ b. (if b then Some p.1 else dependent_in ps holder) ≡ Some d → test d ≡ true) [
      | true ↦ (λ g. subst (λ n. test n ≡ true) (Rattle.std.proofs.lemmas.Option.same_Some p.1 d g) parts.0)
      | false ↦ (λ g. dependent_passes test ps holder d parts.1 g)
    ] e

module _ (is_weak : Id → Bool) (w : World) (f : Following) (k : IsFollowable is_weak w f) where
  pairs_after : (m : Move) → list_all (λ (p : Id × Id). not (is_weak p.1)) (following_move w f m).pairs ≡ true
  pairs_after (moves.Splat holder cell) = of_dependent (option_and_then (dependent_in f.pairs) (id_at w holder.0))
    where
      of_dependent : (o : Option ℕ) → list_all (λ (p : Id × Id). not (is_weak p.1)) (clearing cell o f).pairs ≡ true
      of_dependent None = k.pairs
      of_dependent (Some d) = k.pairs
  pairs_after (moves.Free at) = of_one (id_at w at.0)
    where
      of_one : (o : Option ℕ) → list_all (λ (p : Id × Id). not (is_weak p.1)) (ending o f).pairs ≡ true
      of_one None = k.pairs
      of_one (Some id) =
          all_kept (λ (p : Id × Id). not (p.0 == id) && not (p.1 == id)) (λ (p : Id × Id). not (is_weak p.1)) f.pairs k.pairs
  pairs_after _ = k.pairs

  cells_after : (m : Move) → list_all (λ (c : CellOf). not (is_weak c.0)) (following_move w f m).cells ≡ true
  cells_after (moves.Splat holder cell) = of_holder (id_at w holder.0)
    where
      of_dependent : (o p : Option ℕ) → p ≡ o → (id : ℕ) → p ≡ dependent_in f.pairs id
          → list_all (λ (c : CellOf). not (is_weak c.0)) (clearing cell o f).cells ≡ true
      of_dependent None p e id is = k.cells
      of_dependent (Some d) p e id is =
          and_from (not (is_weak d)) (list_all (λ (c : CellOf). not (is_weak c.0)) f.cells)
          (dependent_passes (λ n. not (is_weak n)) f.pairs id d k.pairs (sym is ∙ e)) k.cells

      of_holder : (o : Option ℕ)
          → list_all (λ (c : CellOf). not (is_weak c.0)) (clearing cell (option_and_then (dependent_in f.pairs) o) f).cells ≡ true
      of_holder None = k.cells
      of_holder (Some id) = of_dependent (dependent_in f.pairs id) (dependent_in f.pairs id) refl id refl
  cells_after (moves.Free at) = of_one (id_at w at.0)
    where
      of_one : (o : Option ℕ) → list_all (λ (c : CellOf). not (is_weak c.0)) (ending o f).cells ≡ true
      of_one None = k.cells
      of_one (Some id) = k.cells
  cells_after _ = k.cells

  -- the same cells, if the collection still traces
  tracing_after : (m : Move) → is_flip m ≡ false → traces (world_after_move w m).collection ≡ true → (following_move w f m).cells ≡ []
  tracing_after (moves.Splat holder cell) no_flip h = of_one (id_at w holder.0) h
    where
      of_one : (o : Option ℕ) → traces (where_one w o (λ id. after_splat w id cell)).collection ≡ true
          → (clearing cell (option_and_then (dependent_in f.pairs) o) f).cells ≡ []
      of_one None e = k.tracing e
      of_one (Some id) e = absurd (of_collection w.collection e)
        where
          of_collection : (o : Option Collection) → traces (option_map Rattle.mps_model.specs.Effect.splatting o) ≡ true → ⊥
          of_collection None g = false≢true g
          of_collection (Some c) g = false≢true g
  tracing_after (moves.Free at) no_flip h =
      of_one (id_at w at.0) (k.tracing ((move_left w k.unpaired (moves.Free at) no_flip).traced h))
    where
      of_one : (o : Option ℕ) → f.cells ≡ [] → (ending o f).cells ≡ []
      of_one None e = e
      of_one (Some id) e = e
  tracing_after (moves.Flip zones chain generation) no_flip h = absurd (true≢false no_flip)
  tracing_after (moves.Seg base grains pool generation) no_flip h =
      k.tracing ((move_left w k.unpaired (moves.Seg base grains pool generation) no_flip).traced h)
  tracing_after (moves.Unseg base) no_flip h = k.tracing ((move_left w k.unpaired (moves.Unseg base) no_flip).traced h)
  tracing_after moves.End no_flip h = absurd (false≢true h)
  tracing_after (moves.Moved from to) no_flip h = k.tracing ((move_left w k.unpaired (moves.Moved from to) no_flip).traced h)
  tracing_after (moves.Stay at) no_flip h = k.tracing ((move_left w k.unpaired (moves.Stay at) no_flip).traced h)
  tracing_after (moves.Post at) no_flip h = k.tracing ((move_left w k.unpaired (moves.Post at) no_flip).traced h)
  tracing_after (moves.Commit at words pool) no_flip h = k.tracing h
  tracing_after (moves.Alloc at words pool) no_flip h = k.tracing h

  pub followable_after : (m : Move) → is_flip m ≡ false → IsFollowable is_weak (world_after_move w m) (following_move w f m)
  followable_after m no_flip =
      let left = move_left w k.unpaired m no_flip in
      record {
        unpaired = left.unpaired;
        weak = λ id. left.weak id ∙ k.weak id;
        pairs = pairs_after m;
        cells = cells_after m;
        tracing = tracing_after m no_flip;
      }

  -- a flip after which no_flip cell was cleared yet
  pub followable_after_flip : (zones : _) (chain generation : ℕ) → f.cells ≡ []
      → IsFollowable is_weak (world_after_move w (moves.Flip zones chain generation))
      (following_move w f (moves.Flip zones chain generation))
  followable_after_flip zones chain generation none =
      record { unpaired = k.unpaired; weak = k.weak; pairs = k.pairs; cells = k.cells; tracing = λ h. none }
