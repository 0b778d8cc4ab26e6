-- A `reserve` whose checks are passed before some moves passes them after the moves too.
use Rattle.std.proofs.Common.{◌≡◌, ℕ, zero, suc, Bool, true, false, refl, ◌∙◌, ap, List, [], ◌∷◌, map, Option, Some, None, Ok}
use Rattle.std.proofs.lemmas.Option.{none-some, same_Some}
use Rattle.std.specs.Prelude.{if◌then◌else◌, is_some, not, option_map, option_and_then}
use Rattle.mps_base.specs.Segment.{Segment, words_of_segment}
use Rattle.mps_base.specs.declared.moves.Move.{Move}
use Rattle.mps_base.specs.declared.moves.Move.TheVariants as moves
use Rattle.mps_base.specs.declared.names.Name.{Name}
use Rattle.mps_base.specs.declared.refusal.Refusal.TheVariants as refusal
use Rattle.mps_model.specs.Layout.{Layout}
use Rattle.mps_model.specs.declared.call.Call.TheVariants as call
use Rattle.mps_model.specs.Graph.{Point, Reservation, NamedThing, empty_graph, entry_at, is_automatic, new_cells, thing_named}
use Rattle.mps_model.specs.World.{World, Pool, empty_world, id_at, is_copying_pool, object_is, pool_at, with_tail}
use Rattle.mps_model.specs.Checked.{Checked, Numbered, ◌>>=◌, ◌>>◌, as_point, number_named, numbered, point_named, refuse_when, required}
use Rattle.mps_model.specs.Allocating.{Reserving, check_reserve, layout_of, takes_head}
use Rattle.mps_model.specs.Effect.{after_free, after_moved, after_post, after_segment, after_splat, doomed, holding, placing, reclaiming, segment_base_of, segment_of_move, where_one, with_collection, without_object, world_after_move, world_after_moves}
use Rattle.mps_changes.proofs.Checks.{point_named-is}
use Rattle.mps_laws.proofs.Reading.{bind_ok}
use Rattle.mps_laws.proofs.SameArena.{moved_alone}

-- ---- points

-- a point after moves: of the same pool, with a reservation if it had one
pub record IsSamePoint (p q : Point) : Type 0 where
  pub pool : q.pool ≡ p.pool
  pub is_open : is_some q.reservation ≡ is_some p.reservation

abbrev pub PointsStay : List (Option Point) → List (Option Point) → Type 0
PointsStay before after = (n : ℕ) (p : Point) → entry_at before n ≡ Some p → (q : Point) × (entry_at after n ≡ Some q) × IsSamePoint p q

all_stay : {ps qs : List (Option Point)} → qs ≡ ps → PointsStay ps qs
all_stay e n p h = (p, ap (λ (xs : List (Option Point)). entry_at xs n) e ∙ h, record { pool = refl; is_open = refl })

still_open : (o : Option Reservation) → is_some (option_map (λ (r : Reservation). record r { is_doomed = true }) o) ≡ is_some o
still_open None = refl
still_open (Some r) = refl

doomed_stay : (ps : List (Option Point)) → PointsStay ps (map doomed ps)
doomed_stay [] n p h = absurd (none-some p h)
doomed_stay (None ∷ ps) zero p h = absurd (none-some p h)
doomed_stay (Some a ∷ ps) zero p h =
    let same = same_Some a p h in (
      record a { reservation = option_map (λ (r : Reservation). record r { is_doomed = true }) a.reservation },
      refl,
      record {
        pool = ap (λ (x : Point). x.pool) same;
        is_open = still_open a.reservation ∙ ap (λ (x : Point). is_some x.reservation) same;
      },
    )
doomed_stay (o ∷ ps) (suc n) p h = doomed_stay ps n p h

abbrev Same : World → World → Type 0
Same w v = v.graph.points ≡ w.graph.points

one_same : (w : World) (o : Option ℕ) (change : ℕ → World) → ((id : ℕ) → Same w (change id)) → Same w (where_one w o change)
one_same w None change each = refl
one_same w (Some id) change each = each id

free_same : (w : World) (id at : ℕ) → Same w (after_free w id at)
free_same w id at =
    elim (object_is is_automatic w id) as (λ b. Same w (if b then with_collection (without_object w id) (reclaiming (segment_base_of w at))
    else without_object w id)) [
      | true ↦ refl
      | false ↦ refl
    ]

segment_same : (w : World) (s : Segment) → Same w (after_segment w s)
segment_same w s =
    elim (is_copying_pool w s.pool) as (λ b. Same w (if b then with_tail (holding w s) s.pool s.generation (words_of_segment s)
    else holding w s)) [
      | true ↦ refl
      | false ↦ refl
    ]

move_leaves : (w : World) (m : Move) → PointsStay w.graph.points (world_after_move w m).graph.points
move_leaves w (moves.Seg base grains pool generation) = all_stay (segment_same w (segment_of_move base.0 grains pool generation))
move_leaves w (moves.Unseg base) = all_stay refl
move_leaves w (moves.Flip zones chain generation) = doomed_stay w.graph.points
move_leaves w moves.End = all_stay refl
move_leaves w (moves.Moved from to) = all_stay (one_same w (id_at w from.0) (λ id. after_moved w id to.0) (λ id. refl))
move_leaves w (moves.Stay at) = all_stay (one_same w (id_at w at.0) (λ id. with_collection w (placing id)) (λ id. refl))
move_leaves w (moves.Splat holder cell) = all_stay (one_same w (id_at w holder.0) (λ id. after_splat w id cell) (λ id. refl))
move_leaves w (moves.Post at) = all_stay (one_same w (id_at w at.0) (after_post w) (λ id. refl))
move_leaves w (moves.Commit at words pool) = all_stay refl
move_leaves w (moves.Alloc at words pool) = all_stay refl
move_leaves w (moves.Free at) = all_stay (one_same w (id_at w at.0) (λ id. after_free w id at.0) (λ id. free_same w id at.0))

moves_leave : (w : World) (ms : List Move) → PointsStay w.graph.points (world_after_moves w ms).graph.points
moves_leave w [] n p h = all_stay refl n p h
moves_leave w (m ∷ ms) n p h =
    let a = move_leaves w m n p h in
    let b = moves_leave (world_after_move w m) ms n a.0 a.1 in
    (b.0, b.1, record { pool = b.2.pool ∙ a.2.pool; is_open = b.2.is_open ∙ a.2.is_open })

-- ---- the checks

module _ (head : ℕ) where
  -- the checks after the point is found, where these are the formats, the point's pool, and whether it has a reservation
  abbrev parts : (ℕ → Layout) → Option Pool → (is_open : Bool) → (Pool → Reserving) → Checked Reserving
  parts formats pool is_open made =
      required pool refusal.BadName >>= (λ (pool : Pool).
      refuse_when (not (takes_head (record empty_world { formats = formats }) pool head)) refusal.BadHead
      >> (refuse_when is_open refusal.Open >> Ok (made pool)))

  both_pass : (a b : Bool) (made other r : Reserving)
      → (refuse_when a refusal.BadHead >> (refuse_when b refusal.Open >> Ok made)) ≡ Ok r
      → (refuse_when a refusal.BadHead >> (refuse_when b refusal.Open >> Ok other)) ≡ Ok other
  both_pass true b made other r h = absurd cc
  both_pass false true made other r h = absurd cc
  both_pass false false made other r h = refl

  parts_pass : (formats : ℕ → Layout) (pool : Option Pool) (is_open : Bool) (made other : Pool → Reserving) (r : Reserving)
      → parts formats pool is_open made ≡ Ok r → (q : Reserving) × (parts formats pool is_open other ≡ Ok q)
  parts_pass formats None is_open made other r h = absurd cc
  parts_pass formats (Some pool) is_open made other r h = (
    other pool,
    both_pass (not (takes_head (record empty_world { formats = formats }) pool head)) is_open (made pool) (other pool) r h,
  )

  abbrev made_in : World → Numbered Point → Pool → Reserving
  made_in w p pool = record { point = p; cells = new_cells (layout_of w pool) head }

  abbrev rest : World → Numbered Point → Checked Reserving
  rest w p = parts w.formats (pool_at w p.value.pool) (is_some p.value.reservation) (made_in w p)

  pub passes_after : (w : World) (ms : List Move) (name : Name) (r : Reserving) → check_reserve w name head ≡ Ok r
      → (q : Reserving) × (check_reserve (world_after_moves w ms) name head ≡ Ok q)
  passes_after w ms name r e =
      let v = world_after_moves w ms in
      let alone = moved_alone w call.Live ms in
      let p = bind_ok (point_named w name) (rest w) r e in
      let is = point_named-is w name p.0 p.1 in
      let now = moves_leave w ms p.0.number p.0.value is.1 in
      let there : Numbered Point = record { number = p.0.number; value = now.0 } in
      let number : number_named v name as_point ≡ Some p.0.number =
      ap (λ (names : List NamedThing). option_and_then as_point (thing_named (record empty_graph { names = names }) name)) alone.names
      ∙ is.0 in
      let named : point_named v name ≡ Ok there =
      ap (λ (o : Option ℕ). required o refusal.BadName >>= (λ n. numbered n (entry_at v.graph.points n))) number
      ∙ ap (λ (o : Option Point). numbered p.0.number o) now.1 in
      let made = made_in v there in
      let pool = pool_at w p.0.value.pool in
      let passed = parts_pass w.formats pool (is_some p.0.value.reservation) (made_in w p.0) made r p.2 in (
        passed.0,
        ap (λ (x : Checked (Numbered Point)). x >>= rest v) named
            ∙ ap (λ (formats : ℕ → Layout). parts formats (pool_at v now.0.pool) (is_some now.0.reservation) made) alone.formats
            ∙ ap (λ (pools : List Pool). parts w.formats (pool_at (record empty_world { pools = pools }) now.0.pool)
            (is_some now.0.reservation) made) alone.pools
            ∙ ap (λ (number : ℕ). parts w.formats (pool_at w number) (is_some now.0.reservation) made) now.2.pool
            ∙ ap (λ (b : Bool). parts w.formats pool b made) now.2.is_open
            ∙ passed.1,
      )
