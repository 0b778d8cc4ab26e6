-- By moves of a collection no more words are live than before, and there are no more segments than before and moves.
use Rattle.std.proofs.Common.{◌≡◌, ◌∙◌, ℕ, suc, zero, ◌+◌, ◌≤◌, Bool, true, false, refl, ap, List, [], ◌∷◌, length, map, Option, Some, None, arith}
use Rattle.std.proofs.lemmas.Option.{none-some}
use Rattle.std.specs.Prelude.{◌==◌, filter, if◌then◌else◌, nat_lt, not, slice_set}
use Rattle.mps_base.specs.Address.{Address, Id}
use Rattle.mps_base.specs.Run.{total}
use Rattle.mps_base.specs.Segment.{Segment, with_segment, without_segment, words_of_segment}
use Rattle.mps_base.specs.declared.moves.Move.{Move}
use Rattle.mps_base.specs.declared.moves.Move.TheVariants as moves
use Rattle.mps_base.proofs.Runs.{total-cons}
use Rattle.mps_model.specs.Effect.{after_free, after_moved, after_post, after_segment, after_splat, holding, placing, segment_of_move, where_one, with_collection, world_after_move, world_after_moves}
use Rattle.mps_model.specs.Graph.{Object, entry_at, size_of}
use Rattle.mps_model.specs.World.{World, extent, extents_of, id_at, is_copying_pool, with_tail}
use Rattle.mps_laws.proofs.Finding.{id_at-found}
use Rattle.mps_laws.proofs.Positions.LegalMoves.{free_is, post_kept, splat_kept}
use Rattle.mps_laws.proofs.Positions.Occupancy.{Occupancy, Shape, occupancy_of, shape_of}

-- ---- words of live blocks

-- how many words blocks of these shapes at these addresses have together
abbrev pub words_at : List Shape → List (Option Address) → ℕ
words_at [] addresses = 0
words_at (s ∷ ss) [] = 0
words_at (s ∷ ss) (None ∷ addresses) = words_at ss addresses
words_at (s ∷ ss) (Some at ∷ addresses) = s.words + words_at ss addresses

abbrev pub live_words : World → ℕ
live_words w = words_at (map shape_of w.graph.objects) w.addresses

pub words_of_extents : (os : List Object) (addresses : List (Option Address))
    → total (extents_of os addresses) ≡ words_at (map shape_of os) addresses
words_of_extents [] addresses = refl
words_of_extents (o ∷ os) [] = refl
words_of_extents (o ∷ os) (None ∷ addresses) = words_of_extents os addresses
words_of_extents (o ∷ os) (Some at ∷ addresses) =
    total-cons (extent at (size_of o)) (extents_of os addresses) ∙ ap (λ (n : ℕ). size_of o + n) (words_of_extents os addresses)

-- a live block lies elsewhere
words_moved : (ss : List Shape) (addresses : List (Option Address)) (id at to : ℕ) → entry_at addresses id ≡ Some at
    → words_at ss (slice_set addresses id (Some to)) ≡ words_at ss addresses
words_moved [] addresses id at to e = refl
words_moved (s ∷ ss) [] id at to e = absurd (none-some at e)
words_moved (s ∷ ss) (None ∷ addresses) zero at to e = absurd (none-some at e)
words_moved (s ∷ ss) (Some from ∷ addresses) zero at to e = refl
words_moved (s ∷ ss) (None ∷ addresses) (suc id) at to e = words_moved ss addresses id at to e
words_moved (s ∷ ss) (Some from ∷ addresses) (suc id) at to e = ap (λ (n : ℕ). s.words + n) (words_moved ss addresses id at to e)

-- a block lies nowhere any more
words_gone : (ss : List Shape) (addresses : List (Option Address)) (id : ℕ)
    → words_at ss (slice_set addresses id None) ≤ words_at ss addresses
words_gone [] addresses id = omega arith
words_gone (s ∷ ss) [] id = omega arith
words_gone (s ∷ ss) (None ∷ addresses) zero = omega arith
words_gone (s ∷ ss) (Some from ∷ addresses) zero = omega arith
words_gone (s ∷ ss) (None ∷ addresses) (suc id) = words_gone ss addresses id
words_gone (s ∷ ss) (Some from ∷ addresses) (suc id) = let rest = words_gone ss addresses id in omega (arith, rest)

-- ---- segments

length-with_segment : (s : Segment) (ss : List Segment) → length (with_segment s ss) ≡ suc (length ss)
length-with_segment s [] = refl
length-with_segment s (t ∷ ts) = by_order (nat_lt s.base t.base) (length-with_segment s ts)
  where
    by_order : (b : Bool) → length (with_segment s ts) ≡ suc (length ts)
        → length (if b then s ∷ t ∷ ts else t ∷ with_segment s ts) ≡ suc (suc (length ts))
    by_order true e = refl
    by_order false e = ap suc e

fewer_without : (base : Address) (ss : List Segment) → length (without_segment ss base) ≤ length ss
fewer_without base [] = omega arith
fewer_without base (t ∷ ts) =
    let rest = fewer_without base ts in
    elim (not (t.base == base)) as (λ b. length (if b then t ∷ filter (λ (s : Segment). not (s.base == base)) ts
    else filter (λ (s : Segment). not (s.base == base)) ts) ≤ length (t ∷ ts)) [
      | true ↦ omega (arith, rest)
      | false ↦ omega (arith, rest)
    ]

-- ---- moves

-- no more words are live, and there are at most n segments more
pub record HasGrownBy (n : ℕ) (v w : World) : Type 0 where
  pub words : live_words v ≤ live_words w
  pub segments : length v.segments ≤ length w.segments + n

-- what lies where it did
module _ {v w : World} (same : occupancy_of v ≡ occupancy_of w) where
  not_grown : HasGrownBy 1 v w
  not_grown =
      let words : live_words v ≡ live_words w = ap (λ (g : Occupancy). words_at g.shapes g.addresses) same in
      let segments : length v.segments ≡ length w.segments = ap (λ (g : Occupancy). length g.segments) same in
      record { words = omega (arith, words); segments = omega (arith, segments) }

segment_grows : (w : World) (s : Segment) → HasGrownBy 1 (after_segment w s) w
segment_grows w s =
    let long = length-with_segment s w.segments in
    elim (is_copying_pool w s.pool) as (λ b. HasGrownBy 1
    (if b then with_tail (holding w s) s.pool s.generation (words_of_segment s) else holding w s) w) [
      | true ↦ record { words = omega arith; segments = omega (arith, long) }
      | false ↦ record { words = omega arith; segments = omega (arith, long) }
    ]

free_grows : (w : World) (id at : ℕ) → HasGrownBy 1 (after_free w id at) w
free_grows w id at =
    let is = free_is w id at in
    let words : live_words (after_free w id at) ≡ words_at (map shape_of w.graph.objects) (slice_set w.addresses id None) =
    ap (λ (g : Occupancy). words_at g.shapes g.addresses) is in
    let segments : length (after_free w id at).segments ≡ length w.segments = ap (λ (g : Occupancy). length g.segments) is in
    let fewer = words_gone (map shape_of w.graph.objects) w.addresses id in
    record { words = omega (arith, words, fewer); segments = omega (arith, segments) }

moved_grows : (w : World) (id from to : ℕ) → id_at w from ≡ Some id → HasGrownBy 1 (after_moved w id to) w
moved_grows w id from to found =
    let words = words_moved (map shape_of w.graph.objects) w.addresses id from to (id_at-found w from id found) in
    record { words = omega (arith, words); segments = omega arith }

-- what is done with the object at an address, if there is one
of_one : (w : World) (at : Address) (change : Id → World) → ((id : Id) → id_at w at ≡ Some id → HasGrownBy 1 (change id) w)
    → HasGrownBy 1 (where_one w (id_at w at) change) w
of_one w at change each = of_found (id_at w at) refl
  where
    of_found : (o : Option Id) → id_at w at ≡ o → HasGrownBy 1 (where_one w o change) w
    of_found None none = not_grown {v = w} {w = w} refl
    of_found (Some id) found = each id found

move_grows : (w : World) (m : Move) → HasGrownBy 1 (world_after_move w m) w
move_grows w (moves.Seg base grains pool generation) = segment_grows w (segment_of_move base.0 grains pool generation)
move_grows w (moves.Unseg base) =
    let fewer = fewer_without base.0 w.segments in
    record { words = omega arith; segments = omega (arith, fewer) }
move_grows w (moves.Flip zones chain generation) = record { words = omega arith; segments = omega arith }
move_grows w moves.End = record { words = omega arith; segments = omega arith }
move_grows w (moves.Moved from to) = of_one w from.0 (λ id. after_moved w id to.0) (λ id. moved_grows w id from.0 to.0)
move_grows w (moves.Stay at) =
    of_one w at.0 (λ id. with_collection w (placing id)) (λ id found. record { words = omega arith; segments = omega arith })
move_grows w (moves.Splat holder cell) =
    of_one w holder.0 (λ id. after_splat w id cell) (λ id found. not_grown (splat_kept w id cell))
move_grows w (moves.Post at) = of_one w at.0 (after_post w) (λ id found. not_grown (post_kept w id))
move_grows w (moves.Commit at words pool) = not_grown {v = w} {w = w} refl
move_grows w (moves.Alloc at words pool) = not_grown {v = w} {w = w} refl
move_grows w (moves.Free at) = of_one w at.0 (λ id. after_free w id at.0) (λ id found. free_grows w id at.0)

pub moves_grow : (w : World) (ms : List Move) → HasGrownBy (length ms) (world_after_moves w ms) w
moves_grow w [] = record { words = omega arith; segments = omega arith }
moves_grow w (m ∷ ms) =
    let first = move_grows w m in
    let rest = moves_grow (world_after_move w m) ms in
    let words = rest.words in
    let words_first = first.words in
    let segments = rest.segments in
    let segments_first = first.segments in
    record { words = omega (arith, words, words_first); segments = omega (arith, segments, segments_first) }
