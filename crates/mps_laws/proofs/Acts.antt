-- What the calls that neither reserve nor make a block change of what lies where.
use Rattle.std.proofs.Common.{◌≡◌, ◌∙◌, ℕ, Bool, true, false, refl, sym, ap, Option, Some, None, subst}
use Rattle.std.proofs.lemmas.Bool.{false≢true, true≢false}
use Rattle.std.proofs.lemmas.List.{length-replicate}
use Rattle.std.proofs.lemmas.Option.{none-some, slice_get-map}
use Rattle.std.specs.Prelude.{length, map, slice_set, option_map, not, ◌&&◌, ◌||◌, if◌then◌else◌}
use Rattle.std.specs.Option.{option_map_or}
use Rattle.mps_base.specs.declared.names.Rank.{Rank}
use Rattle.mps_model.specs.declared.call.Call.{Call}
use Rattle.mps_model.specs.declared.call.Call.TheVariants as call
use Rattle.mps_model.specs.Collecting.{without_registration}
use Rattle.mps_model.specs.Graph.{Graph, Object, Point, Body, Automatic, Manual, entry_at, object_at, size_of_body, is_weak_body, with_last, graph_with_cells}
use Rattle.mps_model.specs.World.{World, Pool, PointMemory, empty_run, is_weak_kind, is_automatic_kind}
use Rattle.mps_model.specs.Checked.{with_graph}
use Rattle.mps_model.specs.Making.{is_weak_rank, may_have_point}
use Rattle.mps_model.specs.Allocating.{body_with_word, graph_with_word}
use Rattle.mps_model.specs.Caches.{body_cleared, graph_cleared}
use Rattle.mps_model.specs.Reply.{act}
use Rattle.mps_model.specs.Transforms.{graph_substituted, pairs_of}
use Rattle.mps_laws.proofs.Lookups.{map-slice_set, map-with_last, slice_set-same, length-slice_set, entry_is_there}
use Rattle.mps_laws.proofs.Positions.Occupancy.{Occupancy, PointShape, shape_of, shape_of_point, reserved_words, occupancy_of}
use Rattle.mps_laws.proofs.Positions.LaidOut.{IsLaidOut, IsRightPointShape}
use Rattle.mps_laws.proofs.Positions.LegalMoves.{condemned_kept, cells_kept, shapes_written}
use Rattle.mps_laws.proofs.Positions.Making.{pool_laid_out, point_laid_out, dropped_laid_out}
use Rattle.mps_laws.proofs.Sound.PoolKinds.{kind_of_pool}
use Rattle.mps_laws.proofs.Sound.Substituting.{shapes_substituted}
use Rattle.mps_changes.proofs.ActChanges.{of_changes, but}
pub use Rattle.mps_changes.specs.Change.{ForAct, accepted, refused, is_placing}
pub use Rattle.mps_changes.proofs.Checks.{without_root, with_value, after_check, unless, for_world}
pub use Rattle.mps_changes.proofs.Checks.{required-is, named_by, point_named-is, pool_named-is}
use Rattle.mps_changes.proofs.AsideFacts.{aside_is}
use Rattle.mps_changes.proofs.Written.{written_length}
use Rattle.mps_changes.specs.Change.{makes_arena, Change, Aside, CellsAre, BlockWordIs, Allocated, PoolMade, PointMade, PointDropped, Opened, Written, Closed, Committed, Substituted, Unregistered, allocates, BlockUncached}

-- ---- what may change

pub data IsChange (limit : ℕ) (g : Occupancy) : Occupancy → Type 0 where
  nothing : {g' : Occupancy} → g' ≡ g → IsChange limit g g'
  a_pool : {g' : Occupancy} (p : Pool) → g' ≡ record g { pools = with_last g.pools p } → IsChange limit g g'
  a_point : {g' : Occupancy} (p : PointShape) (m : PointMemory) → p.reserved ≡ None → m.buffer.count ≡ 0 → IsRightPointShape g.pools p
      → g' ≡ record g { points = with_last g.points (Some p); memories = with_last g.memories m } → IsChange limit g g'
  no_point : {g' : Occupancy} (n : ℕ) (m : PointMemory) → m.buffer.count ≡ 0
      → g' ≡ record g { points = slice_set g.points n None; memories = slice_set g.memories n m } → IsChange limit g g'

-- none of this changes live blocks, nor that the arena is laid out
pub change_laid_out : (limit : ℕ) (g g' : Occupancy) → IsChange limit g g' → IsLaidOut limit g → IsLaidOut limit g'
change_laid_out limit g g' (nothing e) laid = subst (IsLaidOut limit) (sym e) laid
change_laid_out limit g g' (a_pool p e) laid = subst (IsLaidOut limit) (sym e) (pool_laid_out limit p g laid)
change_laid_out limit g g' (a_point p m shut empty right e) laid =
    subst (IsLaidOut limit) (sym e) (point_laid_out limit g laid p m (record { closed = shut; nothing = empty; right = right }))
change_laid_out limit g g' (no_point n m empty e) laid = subst (IsLaidOut limit) (sym e) (dropped_laid_out limit g laid n m empty)

pub change_blocks : (limit : ℕ) (g g' : Occupancy) → IsChange limit g g'
    → Rattle.mps_laws.proofs.Positions.LegalMoves.blocks_of g' ≡ Rattle.mps_laws.proofs.Positions.LegalMoves.blocks_of g
change_blocks limit g g' (nothing e) = ap Rattle.mps_laws.proofs.Positions.LegalMoves.blocks_of e
change_blocks limit g g' (a_pool p e) = ap Rattle.mps_laws.proofs.Positions.LegalMoves.blocks_of e
change_blocks limit g g' (a_point p m shut empty right e) = ap Rattle.mps_laws.proofs.Positions.LegalMoves.blocks_of e
change_blocks limit g g' (no_point n m empty e) = ap Rattle.mps_laws.proofs.Positions.LegalMoves.blocks_of e

module _ (limit : ℕ) (v : World) where
  abbrev pub Changes : World → Type 0
  Changes w = IsChange limit (occupancy_of v) (occupancy_of w)

  -- a reservation is written over one with as many words, or over none that lives
  pub point_written : (n : ℕ) (p q : Point) → entry_at v.graph.points n ≡ Some p → shape_of_point (Some q) ≡ shape_of_point (Some p)
      → map shape_of_point (slice_set v.graph.points n (Some q)) ≡ map shape_of_point v.graph.points
  point_written n p q e s =
      map-slice_set shape_of_point v.graph.points n (Some q)
      ∙ slice_set-same (map shape_of_point v.graph.points) n (shape_of_point (Some q))
      (slice_get-map shape_of_point v.graph.points n ∙ ap (option_map shape_of_point) (entry_is_there v.graph.points n p e)
      ∙ ap Some (sym s))

  size_kept : (b : Body) (k value : ℕ) → size_of_body (body_with_word b k value) ≡ size_of_body b
  size_kept (Automatic head cells is_weak) k value = refl
  size_kept (Manual words) k value = length-slice_set words k value

  weak_kept : (b : Body) (k value : ℕ) → is_weak_body (body_with_word b k value) ≡ is_weak_body b
  weak_kept (Automatic head cells is_weak) k value = refl
  weak_kept (Manual words) k value = refl

  abbrev shape_with : (pool words : ℕ) → Bool → Rattle.mps_laws.proofs.Positions.Occupancy.Shape
  shape_with pool words is_weak = record { pool = pool; words = words; is_weak = is_weak }

  pub word_kept : (id k value : ℕ) → map shape_of (graph_with_word v.graph id k value).objects ≡ map shape_of v.graph.objects
  word_kept id k value = of_one (object_at v.graph id) refl
    where
      of_one : (o : Option Object) → object_at v.graph id ≡ o
          → map shape_of (option_map_or (λ o. slice_set v.graph.objects id
          (record o { body = body_with_word o.body k value })) o v.graph.objects)
          ≡ map shape_of v.graph.objects
      of_one None e = refl
      of_one (Some o) e =
          shapes_written v.graph.objects id o (record o { body = body_with_word o.body k value }) e
          (ap (λ n. shape_with o.pool n (is_weak_body (body_with_word o.body k value))) (size_kept o.body k value)
          ∙ ap (shape_with o.pool (size_of_body o.body)) (weak_kept o.body k value))

  pub shapes_kept : (g : Graph) → map shape_of g.objects ≡ map shape_of v.graph.objects → g.points ≡ v.graph.points
      → occupancy_of (with_graph v g) ≡ occupancy_of v
  shapes_kept g e f =
      ap (λ ss. record (occupancy_of v) { shapes = ss; points = map shape_of_point g.points }) e
      ∙ ap (λ ps. record (occupancy_of v) { points = map shape_of_point ps }) f

  pub weak_point : (kind : Rattle.mps_model.specs.World.PoolKind) (at_rank : Rank) → not (may_have_point kind at_rank) ≡ false
      → is_weak_rank at_rank ≡ true
      → is_weak_kind kind ≡ true
  weak_point kind at_rank h weak = of_parts (is_automatic_kind kind) (is_weak_rank at_rank) (is_weak_kind kind) h weak
    where
      of_parts : (a b c : Bool) → not (a && (not b || c)) ≡ false → b ≡ true → c ≡ true
      of_parts true true true h e = refl
      of_parts true true false h e = absurd (true≢false h)
      of_parts true false c h e = absurd (false≢true e)
      of_parts false b c h e = absurd (true≢false h)

-- a call that makes a block places something
pub placing : (c : Call) → allocates c ≡ true → is_placing c ≡ true
placing (call.Alloc pool words place) h = refl
placing (call.CacheAlloc cache words place) h = refl
placing _ h = absurd (false≢true h)

-- a block that is cleared keeps its shape
cleared_size : (b : Body) → size_of_body (body_cleared b) ≡ size_of_body b
cleared_size (Automatic head cells is_weak) = refl
cleared_size (Manual words) = length-replicate (length words) 0

cleared_weak : (b : Body) → is_weak_body (body_cleared b) ≡ is_weak_body b
cleared_weak (Automatic head cells is_weak) = refl
cleared_weak (Manual words) = refl

pub cleared_kept : (g : Graph) (id : ℕ) → map shape_of (graph_cleared g id).objects ≡ map shape_of g.objects
cleared_kept g id = of_one (object_at g id) refl
  where
    of_one : (o : Option Object) → object_at g id ≡ o
        → map shape_of (option_map_or (λ o. slice_set g.objects id (record o { body = body_cleared o.body })) o g.objects)
        ≡ map shape_of g.objects
    of_one None e = refl
    of_one (Some o) e =
        shapes_written g.objects id o (record o { body = body_cleared o.body }) e
        (ap (λ n. record { pool = o.pool; words = n; is_weak = is_weak_body (body_cleared o.body) }) (cleared_size o.body)
        ∙ ap (λ b. record { pool = o.pool; words = size_of_body o.body; is_weak = b }) (cleared_weak o.body))

no_arena : (c : Call) → is_placing c ≡ false → makes_arena c ≡ false
no_arena (call.Arena grains limit) h = absurd (true≢false h)
no_arena _ h = refl

module _ (limit : ℕ) {c : Call} {v : World} where
  pub change_lies : {marked : Bool} {judged u : World} → is_placing c ≡ false → Change marked c judged v u → Changes limit v u
  change_lies h (Aside u what) =
      nothing (ap (λ n. record (occupancy_of v) { grains = n }) ((aside_is what).grains (no_arena c h)))
  change_lies h (CellsAre object change held write) =
      nothing (shapes_kept limit v (graph_with_cells v.graph object.number change)
      (cells_kept v.graph object.number change (written_length write)) refl)
  change_lies h (BlockWordIs id k value) =
      nothing (shapes_kept limit v (graph_with_word v.graph id k value) (word_kept limit v id k value) refl)
  change_lies h (Allocated p words place at is of kind size found empty) = absurd (true≢false (sym (placing c is) ∙ h))
  change_lies h (BlockUncached name cache words into place id classes e is taken found empty) = but is_placing e refl h
  change_lies h (PoolMade name p e made) = a_pool p refl
  change_lies h (PointMade name pool of at_rank e is may) =
      a_point (record { pool = of.number; rank = at_rank; reserved = None }) (record { reserved_at = 0; buffer = empty_run }) refl refl
      (record {
        some = λ words k. absurd (none-some words k);
        weak = λ weak. kind_of_pool is_weak_kind v.pools of.number of.value (pool_named-is v pool of is)
            (weak_point limit v of.value.kind at_rank (ap not may) weak);
      })
      (ap (λ ps. record (occupancy_of v) {
        points = ps;
        memories = with_last v.point_memories (record { reserved_at = 0; buffer = empty_run });
      })
      (map-with_last shape_of_point v.graph.points (Some (record { pool = of.number; rank = at_rank; reservation = None }))))
  change_lies h (PointDropped name p e is none) =
      no_point p.number (record { reserved_at = 0; buffer = empty_run }) refl
      (ap (λ ps. record (occupancy_of v) {
        points = ps;
        memories = slice_set v.point_memories p.number (record { reserved_at = 0; buffer = empty_run });
      })
      (map-slice_set shape_of_point v.graph.points p.number None))
  change_lies h (Opened name head reserving p at e is there) = but is_placing e refl h
  change_lies h (Written name p r change e there has lives write) =
      nothing (ap (λ ps. record (occupancy_of v) { points = ps })
      (point_written limit v p.number p.value (record p.value { reservation = Some (record r { cells = change r.cells }) })
      (point_named-is v name p there).1
      (ap (λ n. Some (record { pool = p.value.pool; rank = p.value.rank; reserved = if r.is_doomed then None else Some n }))
      (written_length write r.cells)
      ∙ ap (λ o. Some (record { pool = p.value.pool; rank = p.value.rank; reserved = reserved_words o })) (sym has))))
  change_lies h (Closed name target p r e there has ended) = but is_placing e refl h
  change_lies h (Committed name target p r slot e there found has lives) = but is_placing e refl h
  change_lies h (Substituted name transform e is parked) =
      let pairs = pairs_of v.state transform in
      nothing (shapes_kept limit v (graph_substituted v.graph pairs) (shapes_substituted pairs v.graph.objects) refl)
  change_lies h (Unregistered slot from object position e there is at) =
      nothing (ap (λ x. record (occupancy_of v) { condemned = x })
      (condemned_kept (without_registration position) (λ x. refl) v.collection))
  change_lies h _ = nothing refl

pub act_changes : (limit : ℕ) (marked : Bool) (judged v : World) (c : Call) → is_placing c ≡ false
    → ForAct (Changes limit v) (act marked judged v c)
act_changes limit marked judged v c h = of_changes marked judged v c (λ u change. change_lies limit h change)
