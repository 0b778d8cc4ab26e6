-- What each part of a step leaves of the dependencies and of what is known of their blocks.
use Rattle.std.proofs.Common.{◌≡◌, inl, inr, ℕ, ◌≤◌, Bool, true, false, true≢false, refl, sym, ◌∙◌, ap, subst, List, [], ◌∷◌, length, Option, Some, None, Ok, Err, arith}
use Rattle.std.proofs.lemmas.Bool.{or_parts}
use Rattle.std.specs.Prelude.{if◌then◌else◌}
use Rattle.std.specs.List.{list_any}
use Rattle.mps_base.specs.Segment.{Segment, words_of_segment}
use Rattle.mps_base.specs.declared.moves.Move.{Move}
use Rattle.mps_base.specs.declared.moves.Move.TheVariants as moves
use Rattle.mps_model.specs.declared.call.Call.{Call}
use Rattle.mps_model.specs.declared.call.Call.TheVariants as call
use Rattle.mps_model.specs.Answer.{Answer}
use Rattle.mps_model.specs.Graph.{is_automatic}
use Rattle.mps_model.specs.World.{World, id_at, is_copying_pool, object_is, with_tail}
use Rattle.mps_model.specs.Checked.{Act, Checked, number_named, as_point, point_named, pool_named, cache_named, block_place_in}
use Rattle.mps_model.specs.Effect.{where_one, world_after_move, world_after_moves, holding, segment_of_move, with_collection, reclaiming, segment_base_of, without_object}
use Rattle.mps_model.specs.LegalMove.{IsLegalFlip, AreLegalMoves}
use Rattle.mps_model.specs.Policy.{units_asked}
use Rattle.mps_model.specs.Reply.{world_from}
use Rattle.mps_model.specs.Frames.{frames_named}
use Rattle.mps_model.specs.History.{AreMovesOf, after_its_moves, after_own_segment, asking, moved_world, moves_of_collector, moves_of_poll, own_segment, with_client_remembered}
use Rattle.mps_laws.specs.Staying.{is_flip}
use Rattle.mps_laws.proofs.Acts.{ForAct, accepted, refused}
use Rattle.mps_laws.proofs.LeftByActs.{Leaves, changes_dependencies}
use Rattle.mps_laws.proofs.OwnSegments.{own_segment_taken}
use Rattle.mps_laws.proofs.Positions.OwnMoves.{IsMovedLegally, AreMovedLegally, all_moved_legally, is_moving, none_moved, commit_moves_none, alloc_moves_none, free_moves_none, cache_alloc_moves_none, cache_free_moves_none, cache_flush_moves_none, pop_moves_none}
use Rattle.mps_laws.proofs.Positions.Places.{IsPutIn, move_put, own_segment_put, asking_put, left_put, remembered_put}
use Rattle.mps_laws.proofs.AddedBlocks.{Accounts, AreAccounts, IsAccounted, IsFlippedSince, accounts_carried}
use Rattle.mps_laws.proofs.FlippedZones.{AreHome, flip_accounts}

-- each dependency of a world is accounted for
abbrev pub AreAccounted : World → Type 0
AreAccounted w = AreAccounts w w.dependencies

-- from one world to another with the same dependencies
pub record Carries (w v : World) : Type 0 where
  pub dependencies : v.dependencies ≡ w.dependencies
  pub accounts : Accounts w v

pub carried : (w v : World) → Carries w v → AreAccounted w → AreAccounted v
carried w v c are = subst (AreAccounts v) (sym c.dependencies) (accounts_carried w v c.accounts w.dependencies are)

pub Carries-then : (u v w : World) → Carries u v → Carries v w → Carries u w
Carries-then u v w first second = record {
  dependencies = second.dependencies ∙ first.dependencies;
  accounts = record {
    flips = let a : length u.flips ≤ length v.flips =
        first.accounts.flips in let b : length v.flips ≤ length w.flips = second.accounts.flips in
        omega (arith, a, b);
    blocks = λ epoch id at within is.
        second.accounts.blocks epoch id at
        (let a : length u.flips ≤ length v.flips = first.accounts.flips in omega (arith, within, a))
        (first.accounts.blocks epoch id at within is);
  };
}

-- the same flips, and each object that is put stays put
pub same_flips : (w v : World) → v.dependencies ≡ w.dependencies → v.flips ≡ w.flips → ((id at : ℕ) → IsPutIn id at w → IsPutIn id at v)
    → Carries w v
same_flips w v dependencies flips puts = record {
  dependencies = dependencies;
  accounts = record { flips = let e : length v.flips ≡ length w.flips = ap length flips in omega (arith, e); blocks = blocks };
}
  where
    blocks : (epoch id at : ℕ) → epoch ≤ length w.flips → IsAccounted w epoch id at → IsAccounted v epoch id at
    blocks epoch id at within (inl flipped) = inl (subst (λ (fs : List ℕ). IsFlippedSince fs epoch at) (sym flips) flipped)
    blocks epoch id at within (inr put) = inr (puts id at put)

pub carries_itself : (w : World) → Carries w w
carries_itself w = same_flips w w refl refl (λ id at p. p)

-- ---- moves

-- what a move that is no flip leaves
pub record LeavesFlips (w v : World) : Type 0 where
  pub flips : v.flips ≡ w.flips
  pub dependencies : v.dependencies ≡ w.dependencies

as_before : (w : World) → LeavesFlips w w
as_before w = record { flips = refl; dependencies = refl }

one_leaves : (w : World) (found : Option ℕ) (change : ℕ → World) → ((id : ℕ) → LeavesFlips w (change id))
    → LeavesFlips w (where_one w found change)
one_leaves w None change leaves = as_before w
one_leaves w (Some id) change leaves = leaves id

segment_leaves : (w : World) (s : Segment) (b : Bool)
    → LeavesFlips w (if b then with_tail (holding w s) s.pool s.generation (words_of_segment s) else holding w s)
segment_leaves w s true = record { flips = refl; dependencies = refl }
segment_leaves w s false = record { flips = refl; dependencies = refl }

free_leaves : (w : World) (id at : ℕ) (b : Bool)
    → LeavesFlips w (if b then with_collection (without_object w id) (reclaiming (segment_base_of w at)) else without_object w id)
free_leaves w id at true = record { flips = refl; dependencies = refl }
free_leaves w id at false = record { flips = refl; dependencies = refl }

pub move_leaves : (w : World) (m : Move) → is_flip m ≡ false → LeavesFlips w (world_after_move w m)
move_leaves w (moves.Seg base grains pool generation) no_flip =
    let s = segment_of_move base.0 grains pool generation in segment_leaves w s (is_copying_pool w s.pool)
move_leaves w (moves.Unseg base) no_flip = record { flips = refl; dependencies = refl }
move_leaves w (moves.Flip zones chain generation) no_flip = absurd (true≢false no_flip)
move_leaves w moves.End no_flip = record { flips = refl; dependencies = refl }
move_leaves w (moves.Moved from to) no_flip = one_leaves w (id_at w from.0) _ (λ id. record { flips = refl; dependencies = refl })
move_leaves w (moves.Stay at) no_flip = one_leaves w (id_at w at.0) _ (λ id. record { flips = refl; dependencies = refl })
move_leaves w (moves.Splat holder cell) no_flip = one_leaves w (id_at w holder.0) _ (λ id. record { flips = refl; dependencies = refl })
move_leaves w (moves.Post at) no_flip = one_leaves w (id_at w at.0) _ (λ id. record { flips = refl; dependencies = refl })
move_leaves w (moves.Commit at words pool) no_flip = as_before w
move_leaves w (moves.Alloc at words pool) no_flip = as_before w
move_leaves w (moves.Free at) no_flip = one_leaves w (id_at w at.0) _ (λ id. free_leaves w id at.0 (object_is is_automatic w id))

-- a flip is legal, and each object is home before it
abbrev pub IsFlippedLegally : World → Move → Type 0
IsFlippedLegally w (moves.Flip zones chain generation) = IsLegalFlip w zones.0 chain generation × AreHome w
IsFlippedLegally w _ = Unit {0}

abbrev pub AreFlippedLegally : World → List Move → Type 0
AreFlippedLegally w [] = Unit {0}
AreFlippedLegally w (m ∷ ms) = IsFlippedLegally w m × AreFlippedLegally (world_after_move w m) ms

other_carries : (w : World) (m : Move) → is_flip m ≡ false → IsMovedLegally w m → Carries w (world_after_move w m)
other_carries w m no_flip moved =
    let leaves = move_leaves w m no_flip in
    same_flips w (world_after_move w m) leaves.dependencies leaves.flips (λ id at p. move_put id at w m no_flip moved p)

move_carries : (w : World) (m : Move) → IsMovedLegally w m → IsFlippedLegally w m → Carries w (world_after_move w m)
move_carries w (moves.Flip zones chain generation) moved flipped =
    record { dependencies = refl; accounts = flip_accounts w zones.0 chain generation flipped.0 flipped.1 }
move_carries w (moves.Seg base grains pool generation) moved flipped = other_carries w (moves.Seg base grains pool generation) refl moved
move_carries w (moves.Unseg base) moved flipped = other_carries w (moves.Unseg base) refl moved
move_carries w moves.End moved flipped = other_carries w moves.End refl moved
move_carries w (moves.Moved from to) moved flipped = other_carries w (moves.Moved from to) refl moved
move_carries w (moves.Stay at) moved flipped = other_carries w (moves.Stay at) refl moved
move_carries w (moves.Splat holder cell) moved flipped = other_carries w (moves.Splat holder cell) refl moved
move_carries w (moves.Post at) moved flipped = other_carries w (moves.Post at) refl moved
move_carries w (moves.Commit at words pool) moved flipped = other_carries w (moves.Commit at words pool) refl moved
move_carries w (moves.Alloc at words pool) moved flipped = other_carries w (moves.Alloc at words pool) refl moved
move_carries w (moves.Free at) moved flipped = other_carries w (moves.Free at) refl moved

pub moves_carry : (w : World) (ms : List Move) → AreMovedLegally w ms → AreFlippedLegally w ms → Carries w (world_after_moves w ms)
moves_carry w [] moved flipped = carries_itself w
moves_carry w (m ∷ ms) moved flipped =
    Carries-then w (world_after_move w m) (world_after_moves (world_after_move w m) ms) (move_carries w m moved.0 flipped.0)
    (moves_carry (world_after_move w m) ms moved.1 flipped.1)

none_flipped : (w : World) (ms : List Move) → list_any is_moving ms ≡ false → AreFlippedLegally w ms
none_flipped w [] none = tt
none_flipped w (m ∷ ms) none =
    let parts = or_parts (is_moving m) (list_any is_moving ms) none in (first m parts.0, none_flipped (world_after_move w m) ms parts.1)
  where
    first : (n : Move) → is_moving n ≡ false → IsFlippedLegally w n
    first (moves.Flip zones chain generation) none = absurd (true≢false none)
    first _ none = tt

-- the client's moves, which move nothing
client_carries : (w : World) (ms : List Move) → list_any is_moving ms ≡ false → Carries w (world_after_moves w ms)
client_carries w ms none = moves_carry w ms (none_moved w ms none) (none_flipped w ms none)

-- ---- the moves of a call

own_segment_leaves : (w : World) (ms : List Move) (point : Option ℕ) → LeavesFlips w (after_own_segment w ms point)
own_segment_leaves w ms point =
    own_segment_taken (LeavesFlips w) w (as_before w) (λ s. record { flips = refl; dependencies = refl })
    (λ s n r. record { flips = refl; dependencies = refl }) ms point

own_segment_carries : (w : World) (ms : List Move) (point : Option ℕ) → Carries w (after_own_segment w ms point)
own_segment_carries w ms point =
    let leaves = own_segment_leaves w ms point in
    same_flips w (after_own_segment w ms point) leaves.dependencies leaves.flips (λ id at p. own_segment_put id at w ms point p)

pub own_segment_flips : (w : World) (ms : List Move) (point : Option ℕ) → (after_own_segment w ms point).flips ≡ w.flips
own_segment_flips w ms point = (own_segment_leaves w ms point).flips

asking_carries : (units : Option ℕ) (w : World) → Carries w (asking units w)
asking_carries None w = carries_itself w
asking_carries (Some units) w = same_flips w (asking (Some units) w) refl refl (λ id at p. asking_put id at (Some units) w p)

its_moves_carry : (w : World) (c : Call) (answer : Answer) (ms : List Move) → AreLegalMoves w None (moves_of_collector c ms)
    → AreFlippedLegally w (moves_of_collector c ms) → AreMovesOf w c answer ms → Carries w (after_its_moves w c ms)
its_moves_carry w (call.Reserve point head) answer ms legal flipped due =
    Carries-then w (world_after_moves w (moves_of_poll ms)) (after_its_moves w (call.Reserve point head) ms)
    (moves_carry w (moves_of_poll ms) (all_moved_legally w None (moves_of_poll ms) legal) flipped)
    (own_segment_carries (world_after_moves w (moves_of_poll ms)) (own_segment ms) (number_named w point as_point))
its_moves_carry w (call.Commit point target) answer ms legal flipped due =
    client_carries w ms (ap (list_any is_moving) due ∙ commit_moves_none w answer (point_named w point))
its_moves_carry w (call.Alloc pool words place) answer ms legal flipped due =
    client_carries w ms (ap (list_any is_moving) due ∙ alloc_moves_none w answer (pool_named w pool) words)
its_moves_carry w (call.Free place) answer ms legal flipped due =
    client_carries w ms (ap (list_any is_moving) due ∙ free_moves_none w answer (block_place_in w place))
its_moves_carry w (call.CacheAlloc cache words place) answer ms legal flipped due =
    client_carries w ms (ap (list_any is_moving) due ∙ cache_alloc_moves_none w answer (cache_named w cache) words)
its_moves_carry w (call.CacheFree cache place) answer ms legal flipped due =
    client_carries w ms (ap (list_any is_moving) due ∙ cache_free_moves_none w answer (cache_named w cache) (block_place_in w place))
its_moves_carry w (call.CacheFlush cache) answer ms legal flipped due =
    client_carries w ms (ap (list_any is_moving) due ∙ cache_flush_moves_none w answer (cache_named w cache))
its_moves_carry w (call.Pop pool frame) answer ms legal flipped due =
    client_carries w ms (ap (list_any is_moving) due ∙ pop_moves_none w answer (frames_named w pool) frame)
its_moves_carry w _ answer ms legal flipped due = moves_carry w ms (all_moved_legally w None ms legal) flipped

pub moved_world_carries : (w : World) (c : Call) (answer : Answer) (ms : List Move) → AreLegalMoves w None (moves_of_collector c ms)
    → AreFlippedLegally w (moves_of_collector c ms) → AreMovesOf w c answer ms → Carries w (moved_world w c ms)
moved_world_carries w c answer ms legal flipped due =
    Carries-then w (after_its_moves w c ms) (moved_world w c ms) (its_moves_carry w c answer ms legal flipped due)
    (asking_carries (units_asked w c) (after_its_moves w c ms))

-- ---- the act of a call that changes no dependency, and what is remembered

pub act_carries : (c : Call) (v : World) (result : Checked Act) → changes_dependencies c ≡ false → ForAct (Leaves c v) result
    → Carries v (world_from v result)
act_carries c v (Ok a) other (accepted leaves) =
    same_flips v a.world (leaves.dependencies other) leaves.flips (λ id at p. left_put id at c v a.world leaves p)
act_carries c v (Err why) other refused = carries_itself v

pub remembered_carries : (w : World) → Carries w (with_client_remembered w)
remembered_carries w = same_flips w (with_client_remembered w) refl refl (λ id at p. remembered_put id at w p)
