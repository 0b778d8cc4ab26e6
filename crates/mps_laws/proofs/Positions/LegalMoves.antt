-- Each legal move of the collector keeps an arena laid out, and its record makes of the live blocks those after it.
use Rattle.std.proofs.Common.{◌≡◌, ◌∙◌, ℕ, ◌+◌, ◌<◌, ◌≤◌, Bool, true, false, refl, sym, ap, List, length, Option, Some, None, inl, inr, arith}
use Rattle.std.proofs.lemmas.Bool.{cases_Bool, false≢true, leb-true}
use Rattle.std.proofs.lemmas.Option.{slice_get-map}
use Rattle.std.proofs.lemmas.List.{length-map}
use Rattle.std.specs.Prelude.{map, slice_get, slice_set, option_map, nat_le, nat_lt, if◌then◌else◌}
use Rattle.std.specs.Option.{option_map_or}
use Rattle.mps_base.specs.Address.{Address, address_of_word, address_of_grain, grains_needed}
use Rattle.mps_base.specs.Placement.{Placement, Place, NewSegment, OverLimit, NoFreeRun, run_placement}
use Rattle.mps_base.specs.Run.{Run, gaps, lowest_fitting, total}
use Rattle.mps_base.specs.Segment.{Segment, words_of_segment}
use Rattle.mps_model.specs.Graph.{Graph, Object, Cell, Body, Automatic, Manual, contains, without_first, entry_at, object_at, size_of_body, body_with_cells, object_with_cells, graph_with_cells, with_target_cell, is_automatic}
use Rattle.mps_model.specs.Collection.{Collection}
use Rattle.mps_model.specs.World.{World, object_is, is_copying_pool, held_grains, with_tail}
use Rattle.mps_model.specs.Effect.{after_segment, after_splat, after_post, after_free, with_collection, giving_back, reclaiming, splatting, posting, registration_of, segment_base_of, segment_of_move, graph_nulled, graph_splatted, without_object}
use Rattle.mps_model.specs.Placement.{placement_at_front, new_segment_for}
use Rattle.mps_model.specs.LegalMove.{IsPlaceAt, IsNewSegmentAt}
use Rattle.mps_model.specs.Replay.{Store}
use Rattle.mps_laws.proofs.Lookups.{map-slice_set, slice_set-same, there_is, entry_within}
use Rattle.mps_laws.proofs.Positions.Occupancy.{Occupancy, Occupant, OfBlock, Shape, shape_of, occupancy_of, condemned_in, run_of, run_of_block}
use Rattle.mps_laws.proofs.Positions.LaidOut.{IsLaidOut}
use Rattle.mps_laws.proofs.Replays.Blocks.{stored, blocks_in, AreDifferent, IsPlaced}
use Rattle.mps_laws.proofs.Positions.Holding.{IsFresh, fresh_of_placement, held_laid_out, tailed_laid_out}
use Rattle.mps_laws.proofs.Positions.Condemning.{without_first-none}
use Rattle.mps_model.proofs.Nulled.{splatted_holds}
use Rattle.mps_changes.proofs.Written.{length-with_target_cell}

-- the arena of a world is laid out
abbrev pub HasLayout : (limit : ℕ) → World → Type 0
HasLayout limit w = IsLaidOut limit (occupancy_of w)

-- the live blocks, by what lies where
abbrev pub blocks_of : Occupancy → Store
blocks_of g = stored (blocks_in g.shapes g.addresses)

-- a record makes of the blocks before those after
pub record IsReplayed (limit : ℕ) (w w' : World) (after : Option Store) : Type 0 where
  pub layout : HasLayout limit w'
  pub blocks : after ≡ Some (blocks_of (occupancy_of w'))

pub different : (limit : ℕ) (g : Occupancy) → IsLaidOut limit g → AreDifferent g.addresses
different limit g laid i j at e f =
    let s = there_is g.shapes i (omega (arith, laid.lengths, entry_within g.addresses i at e)) in
    let t = there_is g.shapes j (omega (arith, laid.lengths, entry_within g.addresses j at f)) in
    let some = (laid.shapes i s.0 s.1).some in
    let some' = (laid.shapes j t.0 t.1).some in
    let run : run_of g (OfBlock i) ≡ Rattle.mps_model.specs.World.extent at (s.0).words =
    ap (λ o. run_of_block o (entry_at g.addresses i)) s.1 ∙ ap (run_of_block (Some s.0)) e in
    let run' : run_of g (OfBlock j) ≡ Rattle.mps_model.specs.World.extent at (t.0).words =
    ap (λ o. run_of_block o (entry_at g.addresses j)) t.1 ∙ ap (run_of_block (Some t.0)) f in
    let from : (run_of g (OfBlock i)).from ≡ Rattle.mps_base.specs.Address.word_of at = ap (λ (r : Run). r.from) run in
    let count : (run_of g (OfBlock i)).count ≡ (s.0).words = ap (λ (r : Run). r.count) run in
    let from' : (run_of g (OfBlock j)).from ≡ Rattle.mps_base.specs.Address.word_of at = ap (λ (r : Run). r.from) run' in
    let count' : (run_of g (OfBlock j)).count ≡ (t.0).words = ap (λ (r : Run). r.count) run' in
    ap number_of (laid.placed.apart (OfBlock i) (OfBlock j) (Rattle.mps_base.specs.Address.word_of at)
    (omega (arith, from), omega (arith, from, count, some)) (omega (arith, from'), omega (arith, from', count', some')))
  where
    number_of : Occupant → ℕ
    number_of (OfBlock id) = id
    number_of _ = 0

-- ---- what changes nothing of what lies where

pub condemned_kept : (change : Collection → Collection) → ((c : Collection) → (change c).condemned_segments ≡ c.condemned_segments)
    → (o : Option Collection) → condemned_in (option_map change o) ≡ condemned_in o
condemned_kept change each None = refl
condemned_kept change each (Some c) = each c

pub collection_kept : (w : World) (change : Collection → Collection)
    → ((c : Collection) → (change c).condemned_segments ≡ c.condemned_segments)
    → occupancy_of (with_collection w change) ≡ occupancy_of w
collection_kept w change each = ap (λ x. record (occupancy_of w) { condemned = x }) (condemned_kept change each w.collection)

size_kept : (b : Body) (change : List Cell → List Cell) → ((cells : List Cell) → length (change cells) ≡ length cells)
    → size_of_body (body_with_cells b change) ≡ size_of_body b
size_kept (Automatic head cells is_weak) change same = same cells
size_kept (Manual words) change same = refl

weak_kept : (b : Body) (change : List Cell → List Cell)
    → Rattle.mps_model.specs.Graph.is_weak_body (body_with_cells b change) ≡ Rattle.mps_model.specs.Graph.is_weak_body b
weak_kept (Automatic head cells is_weak) change = refl
weak_kept (Manual words) change = refl

abbrev shape_with : (pool words : ℕ) → Bool → Shape
shape_with pool words is_weak = record { pool = pool; words = words; is_weak = is_weak }

-- an object of the same shape may be written in place of one
pub shapes_written : (os : List Object) (id : ℕ) (o o' : Object) → slice_get os id ≡ Some o → shape_of o' ≡ shape_of o
    → map shape_of (slice_set os id o') ≡ map shape_of os
shapes_written os id o o' e s =
    map-slice_set shape_of os id o'
    ∙ slice_set-same (map shape_of os) id (shape_of o') (slice_get-map shape_of os id ∙ ap (option_map shape_of) e ∙ ap Some (sym s))

-- cells of an object are written, and as many as they were
pub cells_kept : (g : Graph) (id : ℕ) (change : List Cell → List Cell) → ((cells : List Cell) → length (change cells) ≡ length cells)
    → map shape_of (graph_with_cells g id change).objects ≡ map shape_of g.objects
cells_kept g id change same = of_one (object_at g id) refl
  where
    of_one : (o : Option Object) → object_at g id ≡ o
        → map shape_of (option_map_or (λ o. slice_set g.objects id (object_with_cells o change)) o g.objects) ≡ map shape_of g.objects
    of_one None e = refl
    of_one (Some o) e =
        shapes_written g.objects id o (object_with_cells o change) e
        (ap (λ n. shape_with o.pool n (Rattle.mps_model.specs.Graph.is_weak_body (body_with_cells o.body change)))
        (size_kept o.body change same)
        ∙ ap (shape_with o.pool (size_of_body o.body)) (weak_kept o.body change))

nulled_kept : (g : Graph) (id cell : ℕ) → map shape_of (graph_nulled g id cell).objects ≡ map shape_of g.objects
nulled_kept g id cell =
    cells_kept g id (λ cells. with_target_cell cells cell None) (λ cells. length-with_target_cell cells cell None)

pub splatted_kept : (g : Graph) (id cell : ℕ) → map shape_of (graph_splatted g id cell).objects ≡ map shape_of g.objects
splatted_kept g id cell =
    splatted_holds (λ left. map shape_of left.objects ≡ map shape_of g.objects) g id cell (nulled_kept g id cell) (λ dependent.
    nulled_kept (graph_nulled g id cell) dependent cell ∙ nulled_kept g id cell)

pub splat_kept : (w : World) (id cell : ℕ) → occupancy_of (after_splat w id cell) ≡ occupancy_of w
splat_kept w id cell =
    collection_kept (record w { graph = graph_splatted w.graph id cell }) splatting (λ c. refl)
    ∙ ap (λ ss. record (occupancy_of w) { shapes = ss }) (splatted_kept w.graph id cell)

pub post_kept : (w : World) (id : ℕ) → occupancy_of (after_post w id) ≡ occupancy_of w
post_kept w id =
    collection_kept (record w { graph = Rattle.mps_model.specs.Effect.graph_posted w.graph id }) (posting id (registration_of w.graph id))
    (λ c. refl)

pub free_is : (w : World) (id at : ℕ)
    → occupancy_of (after_free w id at) ≡ record (occupancy_of w) { addresses = slice_set w.addresses id None }
free_is w id at =
    elim (object_is is_automatic w id) as (λ b. occupancy_of (if b then with_collection (without_object w id)
    (reclaiming (segment_base_of w at))
    else without_object w id) ≡ record (occupancy_of w) { addresses = slice_set w.addresses id None }) [
      | true ↦ collection_kept (without_object w id) (reclaiming (segment_base_of w at)) (λ c. refl)
      | false ↦ refl
    ]

pub given_back_condemned : (base : Address) (o : Option Collection)
    → condemned_in (option_map (giving_back base) o) ≡ without_first (condemned_in o) base
given_back_condemned base None = refl
given_back_condemned base (Some c) =
    elim (cases_Bool (contains c.condemned_segments base)) [
      | inl is ↦ ap (λ b. (if b then reclaiming base (record c { condemned_segments = without_first c.condemned_segments base })
          else c).condemned_segments) is
      | inr isnt ↦
          ap (λ b. (if b then reclaiming base (record c { condemned_segments = without_first c.condemned_segments base })
          else c).condemned_segments) isnt
          ∙ sym (without_first-none c.condemned_segments base isnt)
    ]

-- ---- what placements are

placed_by : (grains commit : ℕ) (held : List Run) (need at : ℕ) (b : Bool) (o : Option ℕ) → nat_lt commit (total held + need) ≡ b
    → lowest_fitting need (gaps 1 (grains + 1) held) ≡ o → IsPlaceAt (run_placement grains commit held need) at → ⊥
placed_by grains commit held need at true o e f h = rw e at h
placed_by grains commit held need at false None e f h = rw (e, f) at h
placed_by grains commit held need at false (Some grain) e f h = rw (e, f) at h

-- free grains are no place in what is held
pub no_place : (w : World) (words at : ℕ) → IsPlaceAt (new_segment_for w words) at → ⊥
no_place w words at h =
    placed_by w.grains w.limit (held_grains w) (grains_needed words) at (nat_lt w.limit (total (held_grains w) + grains_needed words))
    (lowest_fitting (grains_needed words) (gaps 1 (w.grains + 1) (held_grains w))) refl refl h

pub at_front : (w : World) (r : Run) (words at : ℕ) → IsPlaceAt (placement_at_front w r words) at
    → (words ≤ r.count) × (address_of_word r.from ≡ at)
at_front w r words at h =
    elim (nat_le words r.count) as (λ b. nat_le words r.count ≡ b → IsPlaceAt (if b then Place r.from else new_segment_for w words) at
    → (words ≤ r.count) × (address_of_word r.from ≡ at)) [
      | true ↦ (λ b g. (leb-true words r.count b, g))
      | false ↦ (λ b g. absurd (no_place w words at g))
    ] refl h

pub new_segment_is : (p : Placement) (base grains : ℕ) → IsNewSegmentAt p base grains
    → (grain : ℕ) × (p ≡ NewSegment grain grains) × (address_of_grain grain ≡ base)
new_segment_is (NewSegment grain count) base grains h = (grain, ap (NewSegment grain) h.1, h.0)
new_segment_is (Place word) base grains h = absurd h
new_segment_is (OverLimit committed need limit) base grains h = absurd h
new_segment_is (NoFreeRun need longest) base grains h = absurd h

pub new_at_front : (w : World) (r : Run) (words base grains : ℕ) → IsNewSegmentAt (placement_at_front w r words) base grains
    → (grain : ℕ) × (new_segment_for w words ≡ NewSegment grain grains) × (address_of_grain grain ≡ base)
new_at_front w r words base grains h =
    elim (nat_le words r.count) as (λ b. IsNewSegmentAt (if b then Place r.from else new_segment_for w words) base grains
    → (grain : ℕ) × (new_segment_for w words ≡ NewSegment grain grains) × (address_of_grain grain ≡ base)) [
      | true ↦ (λ g. absurd g)
      | false ↦ (λ g. new_segment_is (new_segment_for w words) base grains g)
    ] h

-- ---- one live object

pub record IsLiveAt (limit : ℕ) (w : World) (at id : ℕ) : Type 0 where
  pub object : Object
  pub there : object_at w.graph id ≡ Some object
  pub address : entry_at w.addresses id ≡ Some at
  pub shape : slice_get (map shape_of w.graph.objects) id ≡ Some (shape_of object)

pub live_at : (limit : ℕ) (w : World) (at id : ℕ) → HasLayout limit w → entry_at w.addresses id ≡ Some at → IsLiveAt limit w at id
live_at limit w at id laid e =
    let o = there_is w.graph.objects id (omega (
      arith,
      laid.lengths,
      entry_within w.addresses id at e,
      length-map w.graph.objects shape_of,
    )) in
    record {
      object = o.0;
      there = o.1;
      address = e;
      shape = slice_get-map shape_of w.graph.objects id ∙ ap (option_map shape_of) o.1;
    }

pub is_placed : (limit : ℕ) (w : World) (at id : ℕ) → HasLayout limit w → (x : IsLiveAt limit w at id)
    → IsPlaced (map shape_of w.graph.objects) w.addresses id at (shape_of x.object)
is_placed limit w at id laid x = record { different = different limit (occupancy_of w) laid; address = x.address; shape = x.shape }

-- ---- a segment for a move

pub fresh_segment : (limit : ℕ) (w : World) (words grain grains pool generation : ℕ) (base : Address) → HasLayout limit w → 0 < words
    → new_segment_for w words ≡ NewSegment grain grains → address_of_grain grain ≡ base
    → IsFresh limit w.segments (segment_of_move base grains pool generation)
fresh_segment limit w words grain grains pool generation base laid some h e =
    fresh_of_placement limit w.grains w.limit (grains_needed words) grain grains w.segments (segment_of_move base grains pool generation)
    laid.in_range (omega (arith, some)) laid.ascending h (sym e) refl

pub exact_ranked : (w : World) (base grains pool generation : ℕ)
    → Rattle.mps_laws.proofs.Positions.LaidOut.IsRightlyRanked w.pools (segment_of_move base grains pool generation)
exact_ranked w base grains pool generation h = absurd (false≢true h)

pub segment_layout : (limit : ℕ) (w : World) (base grains pool generation : ℕ) → HasLayout limit w
    → IsFresh limit w.segments (segment_of_move base grains pool generation)
    → HasLayout limit (after_segment w (segment_of_move base grains pool generation))
segment_layout limit w base grains pool generation laid fresh =
    let s = segment_of_move base grains pool generation in
    elim (is_copying_pool w pool) as (λ b. is_copying_pool w pool ≡ b
    → HasLayout limit (if b then with_tail (Rattle.mps_model.specs.Effect.holding w s) s.pool s.generation (words_of_segment s)
    else Rattle.mps_model.specs.Effect.holding w s)) [
      | true ↦ (λ copying. tailed_laid_out limit (occupancy_of w) s laid fresh refl copying)
      | false ↦ (λ other. held_laid_out limit (occupancy_of w) s laid fresh (exact_ranked w base grains pool generation))
    ] refl

pub segment_blocks : (w : World) (s : Segment) → blocks_of (occupancy_of (after_segment w s)) ≡ blocks_of (occupancy_of w)
segment_blocks w s =
    elim (is_copying_pool w s.pool) as (λ b. blocks_of (occupancy_of
    (if b then with_tail (Rattle.mps_model.specs.Effect.holding w s) s.pool s.generation (words_of_segment s)
    else Rattle.mps_model.specs.Effect.holding w s)) ≡ blocks_of (occupancy_of w)) [
      | true ↦ refl
      | false ↦ refl
    ]
