-- The commands on frames: their refusals in order. The pool of frames has the block 3, which lies in a place, in its frame 0; the cache is
-- over the pool of blocks of any sizes.
use Rattle.std.specs.Prelude.{ℕ, codes, Some, None, List, [], ◌∷◌, ◌++◌, replicate}
use Rattle.mps_base.specs.declared.names.Name.{Name}
use Rattle.mps_base.specs.declared.names.Slot.{Slot}
use Rattle.mps_base.specs.declared.names.Rank.TheVariants as rank
use Rattle.mps_base.specs.declared.refusal.Refusal.TheVariants as refusal
use Rattle.mps_model.specs.declared.call.Call.TheVariants as call
use Rattle.mps_model.specs.declared.reply.Reply.TheVariants as reply
use Rattle.mps_model.specs.Graph.{CacheThing, Manual, PoolThing}
use Rattle.mps_model.specs.World.{World, Frames}
use Rattle.mps_refusal_examples.specs.Row.{Row, refuses, replies, AreAnswered}
use Rattle.mps_refusal_examples.specs.SmallWorld.{a_table, amc_pool, mfs_pool, mvff_pool, some_blocks, unknown, no_place, empty_place, full_place, name, called, things, some_pools, manual_pool, small, crowded}
use Rattle.mps_refusal_examples.specs.Caches.{a_cache, one_cache}

abbrev pub snc_pool : Name
snc_pool = name (codes "snc")

-- the place of the block of the pool of frames
abbrev pub framed_place : Slot
framed_place = record { name = some_blocks; index = 2 }

-- past the last place, as there is one more
abbrev pub past : Slot
past = record { name = some_blocks; index = 3 }

-- the small world with a pool of frames, in which n frames are open
abbrev pub framed : (count : ℕ) → World
framed count = record small {
  graph = record small.graph {
    objects = small.graph.objects ++ record { pool = 7; body = Manual (1 ∷ 2 ∷ 3 ∷ 4 ∷ []) } ∷ [];
    blocks = (Some 2 ∷ None ∷ Some 3 ∷ []) ∷ [];
    names = things ++ called snc_pool (PoolThing 7) ∷ called a_cache (CacheThing 0) ∷ [];
    caches = one_cache ∷ [];
    frames = record { pool = 7; blocks = 3 ∷ []; opened = replicate count 0 } ∷ [];
  };
  pools = some_pools ++ manual_pool Frames ∷ [];
  addresses = small.addresses ++ Some 0x5100 ∷ [];
}

abbrev pub pool_of_frames : List Row
pool_of_frames =
    refuses (call.PoolFrames a_table) refusal.NameTaken
    ∷ replies (call.PoolFrames unknown) reply.Ok
    ∷ []

abbrev pub pool_of_frames_where_full : List Row
pool_of_frames_where_full =
    refuses (call.PoolFrames a_table) refusal.NameTaken
    ∷ refuses (call.PoolFrames unknown) (refusal.TooMany 64)
    ∷ []

-- what other calls answer of the pool and of its block
abbrev pub of_other_calls : List Row
of_other_calls =
    refuses (call.Point unknown snc_pool rank.Exact) refusal.WrongPool
    ∷ refuses (call.Cache unknown snc_pool 1 (0 ∷ []) (1 ∷ [])) refusal.WrongPool
    ∷ refuses (call.CacheFree a_cache framed_place) refusal.WrongPool
    ∷ refuses (call.Alloc snc_pool 0 past) refusal.BadIndex
    ∷ refuses (call.Alloc snc_pool 0 framed_place) refusal.BadSize
    ∷ refuses (call.Alloc snc_pool 65537 framed_place) refusal.BadSize
    ∷ refuses (call.Alloc snc_pool 4 framed_place) refusal.NameTaken
    ∷ replies (call.Alloc snc_pool 4 empty_place) reply.Ok
    ∷ []

-- `free`: the block of another pool is freed
abbrev pub free : List Row
free =
    refuses (call.Free no_place) refusal.BadName
    ∷ refuses (call.Free past) refusal.BadIndex
    ∷ refuses (call.Free empty_place) refusal.NotABlock
    ∷ refuses (call.Free framed_place) refusal.WrongPool
    ∷ replies (call.Free full_place) reply.Ok
    ∷ []

abbrev pub push : List Row
push =
    refuses (call.Push unknown) refusal.BadName
    ∷ refuses (call.Push a_table) refusal.BadName
    ∷ refuses (call.Push amc_pool) refusal.WrongPool
    ∷ refuses (call.Push mfs_pool) refusal.WrongPool
    ∷ refuses (call.Push mvff_pool) refusal.WrongPool
    ∷ replies (call.Push snc_pool) (reply.Number 1)
    ∷ []

abbrev pub push_where_full : List Row
push_where_full =
    refuses (call.Push unknown) refusal.BadName
    ∷ refuses (call.Push mvff_pool) refusal.WrongPool
    ∷ refuses (call.Push snc_pool) (refusal.TooMany 4096)
    ∷ []

abbrev pub pop : List Row
pop =
    refuses (call.Pop unknown 1) refusal.BadName
    ∷ refuses (call.Pop a_table 1) refusal.BadName
    ∷ refuses (call.Pop amc_pool 1) refusal.WrongPool
    ∷ refuses (call.Pop mvff_pool 1) refusal.WrongPool
    ∷ refuses (call.Pop snc_pool 1) refusal.BadIndex
    ∷ replies (call.Pop snc_pool 0) reply.Ok
    ∷ []

pub record FramesAnswer : Type 0 where
  pub pool_of_frames : AreAnswered (framed 1) pool_of_frames
  pub pool_of_frames_where_full : AreAnswered (crowded 0) pool_of_frames_where_full
  pub of_other_calls : AreAnswered (framed 1) of_other_calls
  pub free : AreAnswered (framed 1) free
  pub push : AreAnswered (framed 1) push
  pub push_where_full : AreAnswered (framed 4096) push_where_full
  pub pop : AreAnswered (framed 1) pop
