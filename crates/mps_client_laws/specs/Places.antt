-- What places of tables of blocks show changes alike, whether a block comes from a cache or from its pool, and whether it goes there.
use Rattle.std.specs.Prelude.{◌≡◌, ℕ, IsTrue, Option, Some, None, option_map, option_and_then, Ok, Err, List, [], ◌∷◌, ◌++◌, map, replicate, slice_get, slice_set, refl}
use Rattle.std.proofs.Common.{ap}
use Rattle.std.specs.Option.{option_map_or}
use Rattle.mps_base.specs.declared.moves.Move.TheVariants as moves
use Rattle.mps_base.specs.declared.names.Name.{Name}
use Rattle.mps_base.specs.declared.names.Slot.{Slot}
use Rattle.mps_model.specs.Layout.{Layout}
use Rattle.mps_model.specs.declared.call.Call.TheVariants as call
use Rattle.mps_model.specs.Answer.{is_accepted}
use Rattle.mps_model.specs.Allocating.{words_at}
use Rattle.mps_model.specs.Checked.{Checked, Found, block_place_in}
use Rattle.mps_model.specs.Graph.{BlocksThing, CacheThing, Graph, Manual, PoolThing, empty_graph}
use Rattle.mps_model.specs.History.{IsLegalHistoryOf, world_after}
use Rattle.mps_model.specs.Step.{Step, History}
use Rattle.mps_model.specs.World.{AnySize, World, empty_world}
use Rattle.mps_laws.specs.Held.{letter}
use Rattle.mps_laws.specs.Replay.{reached}
use Rattle.mps_client_laws.specs.Objects.{stepping}

-- ---- what is seen

-- what a place shows: the words of its block, or nothing if it is empty
abbrev pub shown_by : Graph → (block : Option ℕ) → Option (List ℕ)
shown_by g = option_map (words_at g)

-- what all places of tables of blocks show, table by table. Neither which block is in a place is seen, nor where it lies
abbrev pub seen : World → List (List (Option (List ℕ)))
seen w = map (λ places. map (shown_by w.graph) places) w.graph.blocks

-- what is seen, but that a place which was found shows this
abbrev pub seen_but : List (List (Option (List ℕ))) → Checked (Found (Option ℕ)) → (shown : Option (List ℕ))
    → List (List (Option (List ℕ)))
seen_but rows (Ok at) shown =
    option_map_or (λ row. slice_set rows at.number (slice_set row at.index shown)) (slice_get rows at.number) rows
seen_but rows (Err why) shown = rows

-- a place shows this in the world after, and each other place what it showed before
abbrev pub PlaceNowShows : (before after : World) → (place : Slot) → (shown : Option (List ℕ)) → Type 0
PlaceNowShows before after place shown = seen after ≡ seen_but (seen before) (block_place_in before place) shown

-- ---- the laws

-- After an accepted `alloc` of n words its place shows n zeros, and each other place what it showed.
abbrev pub AllocShowsZeros : Type 0
AllocShowsZeros =
    (formats : ℕ → Layout) (steps later : History) (s : Step) (pool : Name) (words : ℕ) (place : Slot)
    → IsLegalHistoryOf formats (steps ++ s ∷ later) → s.call ≡ call.Alloc pool words place → IsTrue (is_accepted s.answer)
    → PlaceNowShows (reached formats steps) (world_after (reached formats steps) s) place (Some (replicate words 0))

-- So it is after an accepted `calloc`, whether it took the block from its cache or not.
abbrev pub CacheAllocShowsZeros : Type 0
CacheAllocShowsZeros =
    (formats : ℕ → Layout) (steps later : History) (s : Step) (cache : Name) (words : ℕ) (place : Slot)
    → IsLegalHistoryOf formats (steps ++ s ∷ later) → s.call ≡ call.CacheAlloc cache words place → IsTrue (is_accepted s.answer)
    → PlaceNowShows (reached formats steps) (world_after (reached formats steps) s) place (Some (replicate words 0))

-- After an accepted `free` its place is empty, and each other place shows what it showed.
abbrev pub FreeShowsNothing : Type 0
FreeShowsNothing =
    (formats : ℕ → Layout) (steps later : History) (s : Step) (place : Slot)
    → IsLegalHistoryOf formats (steps ++ s ∷ later) → s.call ≡ call.Free place → IsTrue (is_accepted s.answer)
    → PlaceNowShows (reached formats steps) (world_after (reached formats steps) s) place None

-- So it is after an accepted `cfree`, whether its cache kept the block or not.
abbrev pub CacheFreeShowsNothing : Type 0
CacheFreeShowsNothing =
    (formats : ℕ → Layout) (steps later : History) (s : Step) (cache : Name) (place : Slot)
    → IsLegalHistoryOf formats (steps ++ s ∷ later) → s.call ≡ call.CacheFree cache place → IsTrue (is_accepted s.answer)
    → PlaceNowShows (reached formats steps) (world_after (reached formats steps) s) place None

-- So an accepted `calloc` and an accepted `alloc` of as many words into one place, of one world, leave the same to be seen.
abbrev pub AllocsShowAlike : Type 0
AllocsShowAlike =
    (formats : ℕ → Layout) (steps later those : History) (s t : Step) (cache pool : Name) (words : ℕ) (place : Slot)
    → IsLegalHistoryOf formats (steps ++ s ∷ later) → s.call ≡ call.CacheAlloc cache words place → IsTrue (is_accepted s.answer)
    → IsLegalHistoryOf formats (steps ++ t ∷ those) → t.call ≡ call.Alloc pool words place → IsTrue (is_accepted t.answer)
    → seen (world_after (reached formats steps) s) ≡ seen (world_after (reached formats steps) t)

-- And so do an accepted `cfree` and an accepted `free` of one place.
abbrev pub FreesShowAlike : Type 0
FreesShowAlike =
    (formats : ℕ → Layout) (steps later those : History) (s t : Step) (cache : Name) (place : Slot)
    → IsLegalHistoryOf formats (steps ++ s ∷ later) → s.call ≡ call.CacheFree cache place → IsTrue (is_accepted s.answer)
    → IsLegalHistoryOf formats (steps ++ t ∷ those) → t.call ≡ call.Free place → IsTrue (is_accepted t.answer)
    → seen (world_after (reached formats steps) s) ≡ seen (world_after (reached formats steps) t)

-- ---- vectors: the pool v has the blocks 0 and 1, of two words each. The one is in a place of the table b, the other in the cache q

abbrev q : Name
q = letter 113

abbrev v : Name
v = letter 118

abbrev of_b : (index : ℕ) → Slot
of_b index = record { name = letter 98; index = index }

abbrev one_cached : World
one_cached = record empty_world {
  graph = record empty_graph {
    objects = record { pool = 0; body = Manual (8 ∷ 9 ∷ []) } ∷ record { pool = 0; body = Manual (5 ∷ 7 ∷ []) } ∷ [];
    blocks = (Some 0 ∷ None ∷ []) ∷ [];
    caches = record { pool = 0; classes = record { words = 2; limit = 2; cached = 1 ∷ [] } ∷ [] } ∷ [];
    names =
        record { name = v; thing = PoolThing 0 }
        ∷ record { name = letter 98; thing = BlocksThing 0 }
        ∷ record { name = q; thing = CacheThing 0 }
        ∷ [];
  };
  grains = 4;
  limit = 4;
  pools = record { kind = AnySize; format = 0; chain = None } ∷ [];
  addresses = Some 0x1000 ∷ Some 0x1010 ∷ [];
}

-- a block of two words comes into the second place, through the cache or not
abbrev with_cached : World
with_cached = world_after one_cached (stepping (call.CacheAlloc q 2 (of_b 1)) [])

abbrev with_new : World
with_new = world_after one_cached (stepping (call.Alloc v 2 (of_b 1)) (moves.Alloc (record { 0 = 0x1020 }) 2 0 ∷ []))

pub at_first : seen one_cached ≡ (Some (8 ∷ 9 ∷ []) ∷ None ∷ []) ∷ []
at_first = refl

pub zeros_from_the_cache : seen with_cached ≡ (Some (8 ∷ 9 ∷ []) ∷ Some (0 ∷ 0 ∷ []) ∷ []) ∷ []
zeros_from_the_cache = refl

pub zeros_from_the_pool : seen with_new ≡ (Some (8 ∷ 9 ∷ []) ∷ Some (0 ∷ 0 ∷ []) ∷ []) ∷ []
zeros_from_the_pool = refl

pub of_this_place :
    PlaceNowShows one_cached with_cached (of_b 1) (Some (0 ∷ 0 ∷ [])) × PlaceNowShows one_cached with_new (of_b 1) (Some (0 ∷ 0 ∷ []))
of_this_place = (refl, refl)

pub not_of_another_place : PlaceNowShows one_cached with_cached (of_b 0) (Some (0 ∷ 0 ∷ [])) → ⊥
not_of_another_place e =
    let shown : ◌≡◌ {A = Option (Option (List ℕ))} (Some (Some (0 ∷ 0 ∷ []))) (Some None) =
    ap (λ rows. option_and_then (λ (row : List (Option (List ℕ))). slice_get row 1) (slice_get rows 0)) e in absurd cc

-- what is seen is alike, though not which block is there
pub different_blocks : (with_cached.graph.blocks ≡ (Some 0 ∷ Some 1 ∷ []) ∷ []) × (with_new.graph.blocks ≡ (Some 0 ∷ Some 2 ∷ []) ∷ [])
different_blocks = (refl, refl)

-- the words that the block had when it was cached aren't seen
pub not_the_old_words : seen with_cached ≡ (Some (8 ∷ 9 ∷ []) ∷ Some (5 ∷ 7 ∷ []) ∷ []) ∷ [] → ⊥
not_the_old_words e =
    let shown : ◌≡◌ {A = Option (Option (List ℕ))} (Some (Some (0 ∷ 0 ∷ []))) (Some (Some (5 ∷ 7 ∷ []))) =
    ap (λ rows. option_and_then (λ (row : List (Option (List ℕ))). slice_get row 1) (slice_get rows 0)) e in absurd cc

-- the block in the first place is freed, into the cache or not
abbrev with_two_cached : World
with_two_cached = world_after one_cached (stepping (call.CacheFree q (of_b 0)) [])

abbrev with_one_freed : World
with_one_freed = world_after one_cached (stepping (call.Free (of_b 0)) (moves.Free (record { 0 = 0x1000 }) ∷ []))

pub nothing_after_both : (seen with_two_cached ≡ (None ∷ None ∷ []) ∷ []) × (seen with_one_freed ≡ (None ∷ None ∷ []) ∷ [])
nothing_after_both = (refl, refl)

-- only the caches differ
pub in_the_cache_or_not :
    (with_two_cached.graph.caches ≡ record { pool = 0; classes = record { words = 2; limit = 2; cached = 1 ∷ 0 ∷ [] } ∷ [] } ∷ [])
    × (with_one_freed.graph.caches ≡ one_cached.graph.caches)
in_the_cache_or_not = (refl, refl)
