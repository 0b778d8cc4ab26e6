-- A world in which a manual block is freed: its moves, and what they leave. It is held by nobody, or left its place first.
use Rattle.std.proofs.Common.{◌≡◌, ◌∙◌, ◌⊎◌, ℕ, ◌+◌, Bool, true, false, refl, sym, ap, subst, List, [], ◌∷◌, Option, Some, None, inl, inr}
use Rattle.std.proofs.lemmas.Bool.{and_parts, cases_Bool}
use Rattle.std.proofs.lemmas.Option.{none-some, same_Some}
use Rattle.std.specs.Prelude.{◌&&◌, if◌then◌else◌, option_map}
use Rattle.std.specs.Option.{option_map_or}
use Rattle.mps_base.specs.Address.{Address, Id}
use Rattle.mps_base.specs.Segment.{Segment, is_in_segment, segment_over, without_segment}
use Rattle.mps_base.specs.declared.moves.Move.{Move}
use Rattle.mps_base.specs.declared.moves.Move.TheVariants as moves
use Rattle.mps_abstract.proofs.Calls.ClientFrees.{pool_exclusive}
use Rattle.mps_laws.proofs.Finding.{id_at-there}
use Rattle.mps_laws.proofs.Positions.Segments.{IsAmong, found_among, same_by_base}
use Rattle.mps_laws.proofs.Sound.SoundGraph.{auto}
use Rattle.mps_model.proofs.AtRest.{with_collection-none}
use Rattle.mps_model.specs.Accessing.{address_or_null}
use Rattle.mps_model.specs.Collection.{Collection}
use Rattle.mps_model.specs.Effect.{after_free, after_unseg, giving_back, reclaiming, segment_base_of, where_one, with_address, with_collection, without_object, world_after_move, world_after_moves}
use Rattle.mps_model.specs.Flip.{at_address}
use Rattle.mps_model.specs.Graph.{contains, entry_at, without_first}
use Rattle.mps_model.specs.History.{free_of, free_of_object, give_back_empty}
use Rattle.mps_model.specs.World.{World, is_any_size_kind, is_automatic_kind, is_empty_segment, pool_is, segment_of}
use Rattle.mps_refinement.specs.StandsFor.{CollectorState, IsInTime, Past, Time, rests, runs}
use Rattle.mps_refinement.proofs.Parts.SegmentsTaken.{condemned_held}
use Rattle.mps_refinement.proofs.Worlds.Known.{IsKnown}

-- no segment that may be given back is condemned
abbrev pub AreOutside : World → Type 0
AreOutside w =
    (c : Collection) → w.collection ≡ Some c → (t : Segment) → IsAmong t w.segments → pool_is is_any_size_kind w t.pool ≡ true
    → contains c.condemned_segments t.base ≡ false

-- so it is in a world that is known
pub outside_known : (past : Past) (s : CollectorState) (w : World) → IsKnown past.time w → IsInTime past.time s w → AreOutside w
outside_known past s w own time c e t there any = of_time past.time time
  where
    of_time : (x : Time) → IsInTime x s w → contains c.condemned_segments t.base ≡ false
    of_time x (rests rest) = absurd (none-some c (sym rest.none ∙ e))
    of_time x (runs y r) =
        subst (λ (d : Collection). contains d.condemned_segments t.base ≡ false)
        (same_Some y.running c (sym r.invariant.runs ∙ ap (λ (v : World). v.collection) r.world ∙ e))
        (of_bool (cases_Bool (contains y.running.condemned_segments t.base)))
      where
        of_bool : (contains y.running.condemned_segments t.base ≡ true) ⊎ (contains y.running.condemned_segments t.base ≡ false)
            → contains y.running.condemned_segments t.base ≡ false
        of_bool (inl is) =
            let u = condemned_held y r.invariant t.base is in
            let one : u.0 ≡ t =
            same_by_base 1 (w.grains + 1) w.segments u.0 t own.laid.ascending
            (subst (λ (v : World). IsAmong u.0 v.segments) r.world u.1) there u.2 in
            absurd (pool_exclusive w t.pool any
            (sym (ap (λ (v : World). pool_is is_automatic_kind v t.pool) r.world)
            ∙ ap (λ (s : Segment). pool_is is_automatic_kind y.world s.pool) (sym one) ∙ u.3))
        of_bool (inr isnt) = isnt

-- what is left of the segments in a world where a block is gone that lay in this one
abbrev pub segments_left : World → Option Segment → List Segment
segments_left w over =
    option_map_or (λ (t : Segment). if pool_is is_any_size_kind w t.pool && is_empty_segment w t then without_segment w.segments t.base
    else w.segments) over w.segments

-- the world without a manual block
abbrev pub one_gone : World → Id → World
one_gone w id = record (without_object w id) { segments = segments_left (without_object w id) (segment_of w (address_or_null w id)) }

module _ (w : World) (outside : AreOutside w) (id : Id) (at : Address) (there : entry_at w.addresses id ≡ Some at)
    (manual : auto w id ≡ false)
    (different : (i j : ℕ) (a : Address) → entry_at w.addresses i ≡ Some a → entry_at w.addresses j ≡ Some a → i ≡ j) (t : Segment)
    (over : segment_over w.segments at ≡ Some t) (given : Bool)
    (is_given : (pool_is is_any_size_kind w t.pool && is_empty_segment (with_address w id None) t) ≡ given) where
  -- the moves
  abbrev pub moves_freed : List Move
  moves_freed = moves.Free (at_address at) ∷ (if given then moves.Unseg (at_address t.base) ∷ [] else [])

  abbrev pub segments_after : List Segment
  segments_after = if given then without_segment w.segments t.base else w.segments

  -- the world after them
  abbrev pub world_moved : World
  world_moved = record (without_object w id) { segments = segments_after }

  pub block_freed : world_after_move w (moves.Free (at_address at)) ≡ without_object w id
  block_freed =
      ap (λ o. where_one w o (λ n. after_free w n at)) (id_at-there w at id different there)
      ∙ ap (λ b. if b then with_collection (without_object w id) (reclaiming (segment_base_of w at)) else without_object w id) manual

  pub moved_is : world_after_moves w moves_freed ≡ world_moved
  moved_is =
      elim given as (λ b. (pool_is is_any_size_kind w t.pool && is_empty_segment (without_object w id) t) ≡ b
      → world_after_moves w (moves.Free (at_address at) ∷ (if b then moves.Unseg (at_address t.base) ∷ [] else []))
      ≡ record (without_object w id) { segments = if b then without_segment w.segments t.base else w.segments }) [
        | true ↦ λ is.
            ap (λ v. after_unseg v t.base) block_freed
            ∙ of_collection (and_parts (pool_is is_any_size_kind w t.pool) (is_empty_segment (without_object w id) t) is).0
            w.collection refl
        | false ↦ λ isnt. block_freed
      ] is_given
    where
      of_collection : pool_is is_any_size_kind w t.pool ≡ true → (o : Option Collection) → w.collection ≡ o
          → after_unseg (without_object w id) t.base
          ≡ record (without_object w id) { segments = without_segment w.segments t.base }
      of_collection any None e =
          with_collection-none (record (without_object w id) { segments = without_segment w.segments t.base }) (giving_back t.base) e
      of_collection any (Some c) e =
          let kept : option_map (giving_back t.base) w.collection ≡ w.collection =
          ap (option_map (giving_back t.base)) e
          ∙ ap (λ b. Some (if b then reclaiming t.base (record c { condemned_segments = without_first c.condemned_segments t.base }) else
          c))
          (outside c e t (found_among (λ s. is_in_segment s at) w.segments t over).0 any) ∙ sym e in
          ap (λ x. record (without_object w id) {
            segments = without_segment w.segments t.base;
            collection = x;
          }) kept

  -- they are those that are due
  pub free_is : free_of w at ≡ moves_freed
  free_is =
      ap (λ v. moves.Free (at_address at) ∷ give_back_empty v (segment_of w at)) block_freed
      ∙ ap (λ o. moves.Free (at_address at) ∷ give_back_empty (without_object w id) o) over
      ∙ ap (λ b. moves.Free (at_address at) ∷ (if b then moves.Unseg (at_address t.base) ∷ [] else [])) is_given

  pub free_of_object_is : free_of_object w id ≡ moves_freed
  free_of_object_is = ap (λ o. option_map_or (free_of w) o []) there ∙ free_is

  pub gone_is : one_gone w id ≡ world_moved
  gone_is =
      ap (λ o. record (without_object w id) { segments = segments_left (without_object w id) (segment_of w (option_map_or (λ a. a) o 0)) })
      there
      ∙ ap (λ o. record (without_object w id) { segments = segments_left (without_object w id) o }) over
      ∙ ap (λ b. record (without_object w id) { segments = if b then without_segment w.segments t.base else w.segments }) is_given
