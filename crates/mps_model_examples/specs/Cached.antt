-- An allocation cache keeps freed blocks for the next allocation of their size: the last cached comes first, and with zeros.
use Rattle.std.specs.Prelude.{[], ◌∷◌, ◌++◌}
use Rattle.mps_base.specs.declared.moves.Move.TheVariants as moves
use Rattle.mps_model.specs.declared.call.Call.TheVariants as call
use Rattle.mps_model.specs.declared.reply.Reply.TheVariants as reply
use Rattle.mps_model.specs.Step.{Step, History}
use Rattle.mps_model.specs.History.{IsLegalHistory}
use Rattle.mps_model_examples.specs.Script.{b, q, v, at_index, address, step}
use Rattle.mps_model_examples.specs.WrongAnswers.{CannotFollow}

-- a cache of one class: two blocks of 16 words
abbrev pub cache_step : Step
cache_step = step 4 (call.Cache q v 1 (16 ∷ 0 ∷ 0 ∷ 0 ∷ 0 ∷ 0 ∷ 0 ∷ 0 ∷ []) (2 ∷ 0 ∷ 0 ∷ 0 ∷ 0 ∷ 0 ∷ 0 ∷ 0 ∷ [])) [] reply.Ok

-- a block is made, written and cached, and comes back into another place
abbrev pub one_cached : History
one_cached =
    step 1 (call.Arena 8 8) [] reply.Ok
    ∷ step 2 (call.PoolMvff v) [] reply.Ok
    ∷ step 3 (call.Blocks b 4) [] reply.Ok
    ∷ cache_step
    ∷ step 5 (call.CacheAlloc q 16 (at_index b 0)) (moves.Seg (address 0x1000) 1 0 0 ∷ moves.Alloc (address 0x1000) 16 0 ∷ []) reply.Ok
    ∷ step 6 (call.Store (at_index b 0) 3 7) [] reply.Ok
    ∷ step 7 (call.CacheFree q (at_index b 0)) [] reply.Ok
    ∷ step 8 call.Live [] (reply.Pair 1 16)
    ∷ step 9 (call.CacheAlloc q 16 (at_index b 1)) [] reply.Ok
    ∷ []

-- its words are 0; a flush frees what is cached, and gives the segment back
abbrev pub flushed_away : History
flushed_away =
    step 10 (call.Load (at_index b 1) 3) [] (reply.Number 0)
    ∷ step 11 (call.CacheFree q (at_index b 1)) [] reply.Ok
    ∷ step 12 (call.CacheFlush q) (moves.Free (address 0x1000) ∷ moves.Unseg (address 0x1000) ∷ []) reply.Ok
    ∷ step 13 call.Live [] (reply.Pair 0 0)
    ∷ step 14 call.Committed [] (reply.Number 0)
    ∷ []

abbrev pub cached : History
cached = one_cached ++ flushed_away

-- the history is legal
abbrev pub CachedIsLegal : Type 0
CachedIsLegal = IsLegalHistory cached

-- ---- histories that aren't legal

-- a cached block doesn't come back with its words
abbrev pub old_word : Step
old_word = step 10 (call.Load (at_index b 1) 3) [] (reply.Number 7)

abbrev pub NoOldWordComesBack : Type 0
NoOldWordComesBack = CannotFollow one_cached old_word

-- two blocks are cached, the one at 0x1000 first
abbrev pub two_cached : History
two_cached =
    step 1 (call.Arena 8 8) [] reply.Ok
    ∷ step 2 (call.PoolMvff v) [] reply.Ok
    ∷ step 3 (call.Blocks b 4) [] reply.Ok
    ∷ cache_step
    ∷ step 5 (call.CacheAlloc q 16 (at_index b 0)) (moves.Seg (address 0x1000) 1 0 0 ∷ moves.Alloc (address 0x1000) 16 0 ∷ []) reply.Ok
    ∷ step 6 (call.CacheAlloc q 16 (at_index b 1)) (moves.Alloc (address 0x1080) 16 0 ∷ []) reply.Ok
    ∷ step 7 (call.CacheFree q (at_index b 0)) [] reply.Ok
    ∷ step 8 (call.CacheFree q (at_index b 1)) [] reply.Ok
    ∷ []

abbrev pub one_taken : Step
one_taken = step 9 (call.CacheAlloc q 16 (at_index b 2)) [] reply.Ok

abbrev pub last_freed : Step
last_freed = step 10 (call.CacheFlush q) (moves.Free (address 0x1080) ∷ []) reply.Ok

-- the first cached doesn't come first: it is the one that is left
abbrev pub TheFirstCachedStays : Type 0
TheFirstCachedStays = CannotFollow (two_cached ++ one_taken ∷ []) last_freed

abbrev pub flushed_in_order : Step
flushed_in_order =
    step 9 (call.CacheFlush q) (moves.Free (address 0x1000) ∷ moves.Free (address 0x1080) ∷ moves.Unseg (address 0x1000) ∷ []) reply.Ok

-- a flush doesn't free the first cached first
abbrev pub NoFlushInOrder : Type 0
NoFlushInOrder = CannotFollow two_cached flushed_in_order
