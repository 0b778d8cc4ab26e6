-- The commands on allocation caches: their refusals in order. A cache over the pool of blocks of any sizes has the block 3 in its class of
-- 4 words. The block 4 is of the same pool, and lies in a place; the block 2 is of the pool of one size.
use Rattle.std.specs.Prelude.{Some, None, List, [], ◌∷◌, ◌++◌, replicate}
use Rattle.mps_base.specs.declared.names.Name.{Name}
use Rattle.mps_base.specs.declared.names.Slot.{Slot}
use Rattle.mps_base.specs.declared.refusal.Refusal.TheVariants as refusal
use Rattle.mps_model.specs.declared.call.Call.TheVariants as call
use Rattle.mps_model.specs.declared.reply.Reply.TheVariants as reply
use Rattle.mps_model.specs.Graph.{Cache, Manual, Object, CacheThing}
use Rattle.mps_model.specs.World.{World}
use Rattle.mps_refusal_examples.specs.Row.{Row, refuses, replies, AreAnswered}
use Rattle.mps_refusal_examples.specs.SmallWorld.{a_table, amc_pool, mfs_pool, mvff_pool, some_blocks, unknown, no_place, empty_place, full_place, called, things, small}

abbrev pub a_cache : Name
a_cache = record { bytes = 113 ∷ replicate 15 0 }

-- the place of the block of the cache's pool
abbrev pub own_place : Slot
own_place = record { name = some_blocks; index = 2 }

-- past the last place, as there is one more
abbrev pub past : Slot
past = record { name = some_blocks; index = 3 }

abbrev pub own_block : Object
own_block = record { pool = 6; body = Manual (1 ∷ 2 ∷ 3 ∷ 4 ∷ []) }

abbrev pub one_cache : Cache
one_cache = record { pool = 6; classes = record { words = 4; limit = 2; cached = 3 ∷ [] } ∷ [] }

-- the small world with these caches
abbrev pub cached : List Cache → World
cached caches = record small {
  graph = record small.graph {
    objects = small.graph.objects ++ own_block ∷ own_block ∷ [];
    blocks = (Some 2 ∷ None ∷ Some 4 ∷ []) ∷ [];
    names = things ++ called a_cache (CacheThing 0) ∷ [];
    caches = caches;
  };
  addresses = small.addresses ++ Some 0x5100 ∷ Some 0x5120 ∷ [];
}

abbrev pub cache : List Row
cache =
    refuses (call.Cache a_table unknown 1 (0 ∷ []) (1 ∷ [])) refusal.NameTaken
    ∷ refuses (call.Cache unknown unknown 1 (0 ∷ []) (1 ∷ [])) refusal.BadName
    ∷ refuses (call.Cache unknown a_table 1 (0 ∷ []) (1 ∷ [])) refusal.BadName
    ∷ refuses (call.Cache unknown amc_pool 1 (0 ∷ []) (1 ∷ [])) refusal.WrongPool
    ∷ refuses (call.Cache unknown mfs_pool 1 (0 ∷ []) (1 ∷ [])) refusal.WrongPool
    ∷ refuses (call.Cache unknown mvff_pool 1 (0 ∷ []) (1 ∷ [])) refusal.BadSize
    ∷ refuses (call.Cache unknown mvff_pool 1 (65537 ∷ []) (1 ∷ [])) refusal.BadSize
    ∷ refuses (call.Cache unknown mvff_pool 2 (4 ∷ 4 ∷ []) (1 ∷ 1 ∷ [])) refusal.BadSize
    ∷ replies (call.Cache unknown mvff_pool 1 (4 ∷ 4 ∷ []) (0 ∷ 1 ∷ [])) reply.Ok
    ∷ []

abbrev pub cache_where_full : List Row
cache_where_full =
    refuses (call.Cache unknown mvff_pool 1 (0 ∷ []) (1 ∷ [])) refusal.BadSize
    ∷ refuses (call.Cache unknown mvff_pool 1 (4 ∷ []) (1 ∷ [])) (refusal.TooMany 16)
    ∷ []

-- a size without a class goes to the pool
abbrev pub calloc : List Row
calloc =
    refuses (call.CacheAlloc unknown 0 past) refusal.BadName
    ∷ refuses (call.CacheAlloc a_table 0 past) refusal.BadName
    ∷ refuses (call.CacheAlloc a_cache 0 no_place) refusal.BadName
    ∷ refuses (call.CacheAlloc a_cache 0 past) refusal.BadIndex
    ∷ refuses (call.CacheAlloc a_cache 0 full_place) refusal.BadSize
    ∷ refuses (call.CacheAlloc a_cache 65537 full_place) refusal.BadSize
    ∷ refuses (call.CacheAlloc a_cache 1025 full_place) refusal.NameTaken
    ∷ refuses (call.CacheAlloc a_cache 4 full_place) refusal.NameTaken
    ∷ refuses (call.CacheAlloc a_cache 1025 empty_place) (refusal.CommitLimit 3 3 5)
    ∷ refuses (call.CacheAlloc a_cache 513 empty_place) (refusal.NoRun 2 1)
    ∷ replies (call.CacheAlloc a_cache 512 empty_place) reply.Ok
    ∷ replies (call.CacheAlloc a_cache 4 empty_place) reply.Ok
    ∷ []

abbrev pub cfree : List Row
cfree =
    refuses (call.CacheFree unknown past) refusal.BadName
    ∷ refuses (call.CacheFree a_table past) refusal.BadName
    ∷ refuses (call.CacheFree a_cache no_place) refusal.BadName
    ∷ refuses (call.CacheFree a_cache past) refusal.BadIndex
    ∷ refuses (call.CacheFree a_cache empty_place) refusal.NotABlock
    ∷ refuses (call.CacheFree a_cache full_place) refusal.WrongPool
    ∷ replies (call.CacheFree a_cache own_place) reply.Ok
    ∷ []

abbrev pub cflush : List Row
cflush =
    refuses (call.CacheFlush unknown) refusal.BadName
    ∷ refuses (call.CacheFlush a_table) refusal.BadName
    ∷ replies (call.CacheFlush a_cache) reply.Ok
    ∷ []

pub record CachesAnswer : Type 0 where
  pub cache : AreAnswered (cached (one_cache ∷ [])) cache
  pub cache_where_full : AreAnswered (cached (replicate 16 one_cache)) cache_where_full
  pub calloc : AreAnswered (cached (one_cache ∷ [])) calloc
  pub cfree : AreAnswered (cached (one_cache ∷ [])) cfree
  pub cflush : AreAnswered (cached (one_cache ∷ [])) cflush
