-- Lines of each command, right ones with their calls, and wrong ones: a word too few, a word too many, and each word in a
-- wrong form or out of its range.
use Rattle.std.specs.Prelude.{ℕ, ◌≡◌, Bool, true, codes, is_none, Option, Some, None, List, [], ◌∷◌, map, replicate, refl}
use Rattle.std.specs.List.{list_all}
use Rattle.mps_base.specs.declared.names.Kind.TheVariants.{Amc, Amcz, Ams, Awl, Lo}
use Rattle.mps_base.specs.declared.names.Name.{Name}
use Rattle.mps_base.specs.declared.names.Slot.{Slot}
use Rattle.mps_base.specs.declared.names.Rank.TheVariants.{Exact, Weak}
use Rattle.mps_model.specs.declared.call.Call.{Call}
use Rattle.mps_model.specs.declared.call.Call.TheVariants as call
use Rattle.mps_line_words.specs.Word.{words}
use Rattle.mps_grammar.specs.Form.{command_call}

-- the call of a line's words, if they are in the form of a command
abbrev pub call_of_command : List (List ℕ) → Option Call
call_of_command [] = None
call_of_command (word ∷ ws) = command_call word ws

abbrev calls : List (List ℕ) → List (Option Call)
calls lines = map (λ line. call_of_command (words line)) lines

abbrev are_wrong : List (List ℕ) → Bool
are_wrong lines = list_all (λ line. is_none (call_of_command (words line))) lines

-- a name of one letter
abbrev letter : ℕ → Name
letter code = record { bytes = code ∷ replicate 15 0 }

-- the names `a`, `b`, `c`
abbrev a : Name
a = letter 97

abbrev b : Name
b = letter 98

abbrev c : Name
c = letter 99

-- a slot of the table `t`
abbrev t : ℕ → Slot
t index = record { name = letter 116; index = index }

the_arena_and_its_grains :
    calls (codes "arena 1 0" ∷ codes "arena 2048 2048" ∷ codes "limit 2048" ∷ codes "limit 0" ∷ codes "committed" ∷ [])
    ≡ Some (call.Arena 1 0) ∷ Some (call.Arena 2048 2048) ∷ Some (call.Limit 2048) ∷ Some (call.Limit 0) ∷ Some call.Committed ∷ []
the_arena_and_its_grains = refl

no_arena_and_no_grains :
    are_wrong (codes "arena" ∷ codes "arena 1" ∷ codes "arena 0 1" ∷ codes "arena 2049 1" ∷ codes "arena 1 2049" ∷ codes "arena 01 1"
    ∷ codes "arena 1 0x1" ∷ codes "arena 1 1 1" ∷ codes "Arena 1 1" ∷ codes "limit" ∷ codes "limit 2049" ∷ codes "limit 1 1"
    ∷ codes "committed 1" ∷ [])
    ≡ true
no_arena_and_no_grains = refl

chains :
    calls (codes "chain c 0" ∷ codes "chain c 1 2 3 4 5 6 7 2048" ∷ [])
    ≡ Some (call.Chain c 1 (0 ∷ 0 ∷ 0 ∷ 0 ∷ 0 ∷ 0 ∷ 0 ∷ 0 ∷ []))
    ∷ Some (call.Chain c 8 (1 ∷ 2 ∷ 3 ∷ 4 ∷ 5 ∷ 6 ∷ 7 ∷ 2048 ∷ []))
    ∷ []
chains = refl

no_chains :
    are_wrong (codes "chain" ∷ codes "chain c" ∷ codes "chain 1 1" ∷ codes "chain c 2049" ∷ codes "chain c 1 x"
    ∷ codes "chain c 1 2 3 4 5 6 7 8 9" ∷ [])
    ≡ true
no_chains = refl

pools :
    calls (codes "pool a amc front" ∷ codes "pool a amcz mapped" ∷ codes "pool a ams leaf" ∷ codes "pool a awl front"
    ∷ codes "pool a lo leaf"
    ∷ codes "pool a amc leaf c" ∷ codes "pool a amcz front c" ∷ codes "pool a mfs 0" ∷ codes "pool a mvff" ∷ codes "pool a snc" ∷ [])
    ≡ Some (call.Pool a Amc 1) ∷ Some (call.Pool a Amcz 2) ∷ Some (call.Pool a Ams 3) ∷ Some (call.Pool a Awl 1) ∷ Some (call.Pool a Lo 3)
    ∷ Some (call.PoolOnChain a Amc 3 c) ∷ Some (call.PoolOnChain a Amcz 1 c) ∷ Some (call.PoolMfs a 0) ∷ Some (call.PoolMvff a)
    ∷ Some (call.PoolFrames a) ∷ []
pools = refl

no_pools :
    are_wrong (codes "pool" ∷ codes "pool a" ∷ codes "pool a amc" ∷ codes "pool A amc front" ∷ codes "pool a mvt front"
    ∷ codes "pool a amc back"
    ∷ codes "pool a amc front 1" ∷ codes "pool a ams front c" ∷ codes "pool a amc front c d" ∷ codes "pool a mfs" ∷ codes "pool a mfs x"
    ∷ codes "pool a mfs 1 2" ∷ codes "pool a mvff 1" ∷ codes "pool 1 mvff" ∷ codes "pool a snc 1" ∷ codes "pool 1 snc" ∷ [])
    ≡ true
no_pools = refl

roots :
    calls (codes "table a 1" ∷ codes "table a 65536" ∷ codes "area a 16" ∷ codes "blocks a 2" ∷ codes "droproot a" ∷ [])
    ≡ Some (call.Table a 1) ∷ Some (call.Table a 65536) ∷ Some (call.Area a 16) ∷ Some (call.Blocks a 2) ∷ Some (call.DropRoot a) ∷ []
roots = refl

no_roots :
    are_wrong (codes "table" ∷ codes "table a" ∷ codes "table a 0" ∷ codes "table a 65537" ∷ codes "table a.0 1" ∷ codes "table a 1 1"
    ∷ codes "area a 0" ∷ codes "area a 65537" ∷ codes "area 1 1" ∷ codes "blocks a 0" ∷ codes "blocks a 65537" ∷ codes "blocks a x"
    ∷ codes "droproot" ∷ codes "droproot 1" ∷ codes "droproot a b" ∷ [])
    ≡ true
no_roots = refl

points_and_dependencies :
    calls (codes "ap a b exact" ∷ codes "ap a b weak" ∷ codes "dropap a" ∷ codes "ld a" ∷ [])
    ≡ Some (call.Point a b Exact) ∷ Some (call.Point a b Weak) ∷ Some (call.DropPoint a) ∷ Some (call.Dependency a) ∷ []
points_and_dependencies = refl

no_points_and_no_dependencies :
    are_wrong (codes "ap a" ∷ codes "ap a b" ∷ codes "ap 1 b exact" ∷ codes "ap a 1 exact" ∷ codes "ap a b final" ∷ codes "ap a b exact 1"
    ∷ codes "dropap" ∷ codes "dropap 1" ∷ codes "dropap a b" ∷ codes "ld" ∷ codes "ld 1" ∷ codes "ld a b" ∷ [])
    ≡ true
no_points_and_no_dependencies = refl

allocation :
    calls (codes "reserve a f:3:1" ∷ codes "reserve a l:1" ∷ codes "init a 1 7" ∷ codes "init a 1 0xff" ∷ codes "init a 0 t.9"
    ∷ codes "commit a t.0" ∷ [])
    ≡ Some (call.Reserve a 0x100000301) ∷ Some (call.Reserve a 0) ∷ Some (call.InitNumber a 1 7) ∷ Some (call.InitNumber a 1 255)
    ∷ Some (call.InitReference a 0 (t 9)) ∷ Some (call.Commit a (t 0)) ∷ []
allocation = refl

no_allocation :
    are_wrong (codes "reserve" ∷ codes "reserve a" ∷ codes "reserve 1 l:2" ∷ codes "reserve a 2" ∷ codes "reserve a l:2 3"
    ∷ codes "init a 1"
    ∷ codes "init 1 1 7" ∷ codes "init a 0x1 7" ∷ codes "init a 01 7" ∷ codes "init a 1 x" ∷ codes "init a 1 7 8" ∷ codes "commit a"
    ∷ codes "commit 1 t.0" ∷ codes "commit a t" ∷ codes "commit a t.0 1" ∷ [])
    ≡ true
no_allocation = refl

manual_blocks :
    calls (codes "alloc a 18446744073709551615 t.0" ∷ codes "free t.0" ∷ codes "load t.0 1" ∷ codes "store t.0 1 2"
    ∷ codes "store t.0 1 0x2" ∷ [])
    ≡ Some (call.Alloc a 18446744073709551615 (t 0)) ∷ Some (call.Free (t 0)) ∷ Some (call.Load (t 0) 1) ∷ Some (call.Store (t 0) 1 2)
    ∷ Some (call.Store (t 0) 1 2) ∷ []
manual_blocks = refl

no_manual_blocks :
    are_wrong (codes "alloc a 1" ∷ codes "alloc 1 1 t.0" ∷ codes "alloc a 18446744073709551616 t.0" ∷ codes "alloc a 1 t"
    ∷ codes "alloc a 1 t.0 1"
    ∷ codes "free" ∷ codes "free t" ∷ codes "free t.0 1" ∷ codes "load t.0" ∷ codes "load t 1" ∷ codes "load t.0 x" ∷ codes "load t.0 1 2"
    ∷ codes "store t.0 1" ∷ codes "store t 1 2" ∷ codes "store t.0 x 2" ∷ codes "store t.0 1 t.0" ∷ codes "store t.0 1 2 3" ∷ [])
    ≡ true
no_manual_blocks = refl

caches :
    calls (codes "cache a b 0 0" ∷ codes "cache a b 65536 64 65537 1" ∷ codes "cache a b 18446744073709551615 3"
    ∷ codes "cache a b 1 1 2 2 3 3 4 4 5 5 6 6 7 7 8 8" ∷ codes "calloc a 18446744073709551615 t.0" ∷ codes "cfree a t.0"
    ∷ codes "cflush a" ∷ [])
    ≡ Some (call.Cache a b 1 (0 ∷ 0 ∷ 0 ∷ 0 ∷ 0 ∷ 0 ∷ 0 ∷ 0 ∷ []) (0 ∷ 0 ∷ 0 ∷ 0 ∷ 0 ∷ 0 ∷ 0 ∷ 0 ∷ []))
    ∷ Some (call.Cache a b 2 (65536 ∷ 65537 ∷ 0 ∷ 0 ∷ 0 ∷ 0 ∷ 0 ∷ 0 ∷ []) (64 ∷ 1 ∷ 0 ∷ 0 ∷ 0 ∷ 0 ∷ 0 ∷ 0 ∷ []))
    ∷ Some (call.Cache a b 1 (65537 ∷ 0 ∷ 0 ∷ 0 ∷ 0 ∷ 0 ∷ 0 ∷ 0 ∷ []) (3 ∷ 0 ∷ 0 ∷ 0 ∷ 0 ∷ 0 ∷ 0 ∷ 0 ∷ []))
    ∷ Some (call.Cache a b 8 (1 ∷ 2 ∷ 3 ∷ 4 ∷ 5 ∷ 6 ∷ 7 ∷ 8 ∷ []) (1 ∷ 2 ∷ 3 ∷ 4 ∷ 5 ∷ 6 ∷ 7 ∷ 8 ∷ []))
    ∷ Some (call.CacheAlloc a 18446744073709551615 (t 0)) ∷ Some (call.CacheFree a (t 0)) ∷ Some (call.CacheFlush a) ∷ []
caches = refl

no_caches :
    are_wrong (codes "cache" ∷ codes "cache a" ∷ codes "cache a b" ∷ codes "cache a b 1" ∷ codes "cache a b 1 1 2" ∷ codes "cache a b 1 65"
    ∷ codes "cache a b 1 0x1" ∷ codes "cache a b 0x1 1" ∷ codes "cache a b 18446744073709551616 1" ∷ codes "cache 1 b 1 1"
    ∷ codes "cache a 1 1 1" ∷ codes "cache a b 1 1 2 2 3 3 4 4 5 5 6 6 7 7 8 8 9" ∷ codes "cache a b 1 1 2 2 3 3 4 4 5 5 6 6 7 7 8 8 9 9"
    ∷ codes "calloc a 1" ∷ codes "calloc 1 1 t.0" ∷ codes "calloc a 18446744073709551616 t.0" ∷ codes "calloc a 1 t"
    ∷ codes "calloc a 1 t.0 1" ∷ codes "cfree a" ∷ codes "cfree 1 t.0" ∷ codes "cfree a t" ∷ codes "cfree a t.0 1"
    ∷ codes "cflush" ∷ codes "cflush 1" ∷ codes "cflush a b" ∷ [])
    ≡ true
no_caches = refl

frames :
    calls (codes "push a" ∷ codes "pop a 0" ∷ codes "pop a 18446744073709551615" ∷ [])
    ≡ Some (call.Push a) ∷ Some (call.Pop a 0) ∷ Some (call.Pop a 18446744073709551615) ∷ []
frames = refl

no_frames :
    are_wrong (codes "push" ∷ codes "push 1" ∷ codes "push a b" ∷ codes "pop" ∷ codes "pop a" ∷ codes "pop 1 0" ∷ codes "pop a b"
    ∷ codes "pop a 0x1" ∷ codes "pop a 18446744073709551616" ∷ codes "pop a 0 1" ∷ [])
    ≡ true
no_frames = refl

transforms :
    calls (codes "transform a" ∷ codes "transadd a t.0 t.1" ∷ codes "transapply a" ∷ codes "transdrop a" ∷ [])
    ≡ Some (call.Transform a) ∷ Some (call.TransformAdd a (t 0) (t 1)) ∷ Some (call.TransformApply a) ∷ Some (call.TransformDrop a) ∷ []
transforms = refl

no_transforms :
    are_wrong (codes "transform" ∷ codes "transform 1" ∷ codes "transform a b" ∷ codes "transadd a t.0" ∷ codes "transadd 1 t.0 t.1"
    ∷ codes "transadd a t t.1" ∷ codes "transadd a t.0 t" ∷ codes "transadd a t.0 t.1 t.2" ∷ codes "transapply" ∷ codes "transapply 1"
    ∷ codes "transapply a b" ∷ codes "transdrop" ∷ codes "transdrop 1" ∷ codes "transdrop a b" ∷ codes "transforms a" ∷ [])
    ≡ true
no_transforms = refl

dependents : calls (codes "depend t.0 t.1" ∷ codes "undepend t.0" ∷ []) ≡ Some (call.Depend (t 0) (t 1)) ∷ Some (call.Undepend (t 0)) ∷ []
dependents = refl

no_dependents :
    are_wrong (codes "depend" ∷ codes "depend t.0" ∷ codes "depend t t.1" ∷ codes "depend t.0 t" ∷ codes "depend t.0 t.1 t.2"
    ∷ codes "undepend" ∷ codes "undepend t" ∷ codes "undepend t.0 t.1" ∷ [])
    ≡ true
no_dependents = refl

cells :
    calls (codes "get t.0 t.1 2" ∷ codes "put t.0 2 t.1" ∷ codes "num t.0 2" ∷ codes "setnum t.0 2 3" ∷ codes "setnum t.0 2 0x3" ∷ [])
    ≡ Some (call.Get (t 0) (t 1) 2) ∷ Some (call.Put (t 0) 2 (t 1)) ∷ Some (call.Number (t 0) 2) ∷ Some (call.SetNumber (t 0) 2 3)
    ∷ Some (call.SetNumber (t 0) 2 3) ∷ []
cells = refl

no_cells :
    are_wrong (codes "get t.0 t.1" ∷ codes "get t t.1 2" ∷ codes "get t.0 t 2" ∷ codes "get t.0 t.1 x" ∷ codes "get t.0 t.1 2 3"
    ∷ codes "put t.0 2"
    ∷ codes "put t 2 t.1" ∷ codes "put t.0 x t.1" ∷ codes "put t.0 2 t" ∷ codes "put t.0 2 t.1 3" ∷ codes "num t.0" ∷ codes "num t 2"
    ∷ codes "num t.0 02" ∷ codes "num t.0 2 3" ∷ codes "setnum t.0 2" ∷ codes "setnum t 2 3" ∷ codes "setnum t.0 x 3"
    ∷ codes "setnum t.0 2 t.1" ∷ codes "setnum t.0 2 3 4" ∷ [])
    ≡ true
no_cells = refl

tags :
    calls (codes "settag t.0 1 0" ∷ codes "settag t.0 1 7" ∷ codes "tag t.0 1" ∷ [])
    ≡ Some (call.SetTag (t 0) 1 0) ∷ Some (call.SetTag (t 0) 1 7) ∷ Some (call.Tag (t 0) 1) ∷ []
tags = refl

no_tags :
    are_wrong (codes "settag t.0 1" ∷ codes "settag t 1 2" ∷ codes "settag t.0 x 2" ∷ codes "settag t.0 1 8" ∷ codes "settag t.0 1 05"
    ∷ codes "settag t.0 1 0x5" ∷ codes "settag t.0 1 2 3" ∷ codes "tag" ∷ codes "tag t.0" ∷ codes "tag t 1" ∷ codes "tag t.0 x"
    ∷ codes "tag t.0 1 2" ∷ [])
    ≡ true
no_tags = refl

labels :
    calls (codes "intern a" ∷ codes "label t.0 a" ∷ []) ≡ Some (call.Intern a) ∷ Some (call.Label (t 0) a) ∷ []
labels = refl

no_labels :
    are_wrong (codes "intern" ∷ codes "intern 2ring" ∷ codes "intern ring 1" ∷ codes "intern t.0" ∷ codes "label t.0" ∷ codes "label t ring"
    ∷ codes "label t.0 t.1" ∷ codes "label t.0 ring 1" ∷ [])
    ≡ true
no_labels = refl

slots :
    calls (codes "copy t.0 t.1" ∷ codes "clear t.0" ∷ codes "same t.0 t.1" ∷ codes "null t.0" ∷ codes "head t.0" ∷ codes "addr t.0" ∷ [])
    ≡ Some (call.Copy (t 0) (t 1)) ∷ Some (call.Clear (t 0)) ∷ Some (call.Same (t 0) (t 1)) ∷ Some (call.Null (t 0))
    ∷ Some (call.Head (t 0))
    ∷ Some (call.Address (t 0)) ∷ []
slots = refl

no_slots :
    are_wrong (codes "copy t.0" ∷ codes "copy t t.1" ∷ codes "copy t.0 t" ∷ codes "copy t.0 t.1 1" ∷ codes "clear" ∷ codes "clear t"
    ∷ codes "clear t.0 1" ∷ codes "same t.0" ∷ codes "same t t.1" ∷ codes "same t.0 t" ∷ codes "same t.0 t.1 1" ∷ codes "null"
    ∷ codes "null t"
    ∷ codes "null t.0 1" ∷ codes "head" ∷ codes "head t" ∷ codes "head t.0 1" ∷ codes "addr" ∷ codes "addr t" ∷ codes "addr t.0 1" ∷ [])
    ≡ true
no_slots = refl

areas :
    calls (codes "poke t.0 1" ∷ codes "poke t.0 0x1" ∷ codes "peek t.0" ∷ codes "pin t.0 t.1" ∷ codes "take t.0 t.1" ∷ [])
    ≡ Some (call.Poke (t 0) 1) ∷ Some (call.Poke (t 0) 1) ∷ Some (call.Peek (t 0)) ∷ Some (call.Pin (t 0) (t 1))
    ∷ Some (call.Take (t 0) (t 1)) ∷ []
areas = refl

no_areas :
    are_wrong (codes "poke t.0" ∷ codes "poke t 1" ∷ codes "poke t.0 t.1" ∷ codes "poke t.0 1 2" ∷ codes "peek" ∷ codes "peek t"
    ∷ codes "peek t.0 1"
    ∷ codes "pin t.0" ∷ codes "pin t t.1" ∷ codes "pin t.0 t" ∷ codes "pin t.0 t.1 1" ∷ codes "take t.0" ∷ codes "take t t.1"
    ∷ codes "take t.0 t"
    ∷ codes "take t.0 t.1 1" ∷ [])
    ≡ true
no_areas = refl

collections :
    calls (codes "start" ∷ codes "start c 18446744073709551615" ∷ codes "step 18446744073709551615" ∷ codes "collect" ∷ codes "clamp"
    ∷ codes "park" ∷ codes "release" ∷ [])
    ≡ Some call.Start ∷ Some (call.StartChain c 18446744073709551615) ∷ Some (call.Step 18446744073709551615) ∷ Some call.Collect
    ∷ Some call.Clamp
    ∷ Some call.Park ∷ Some call.Release ∷ []
collections = refl

no_collections :
    are_wrong (codes "start c" ∷ codes "start 1 c" ∷ codes "start c x" ∷ codes "start c 1 2" ∷ codes "step" ∷ codes "step x"
    ∷ codes "step 18446744073709551616" ∷ codes "step 1 2" ∷ codes "collect 1" ∷ codes "clamp 1" ∷ codes "park 1" ∷ codes "release 1" ∷ [])
    ≡ true
no_collections = refl

finalization :
    calls (codes "finalize t.0" ∷ codes "definalize t.0" ∷ codes "message t.0" ∷ [])
    ≡ Some (call.Finalize (t 0)) ∷ Some (call.Definalize (t 0)) ∷ Some (call.Message (t 0)) ∷ []
finalization = refl

no_finalization :
    are_wrong (codes "finalize" ∷ codes "finalize t" ∷ codes "finalize t.0 1" ∷ codes "definalize" ∷ codes "definalize t"
    ∷ codes "definalize t.0 1"
    ∷ codes "message" ∷ codes "message t" ∷ codes "message t.0 1" ∷ [])
    ≡ true
no_finalization = refl

dependencies_and_states :
    calls (codes "ldreset a" ∷ codes "ldadd a t.0" ∷ codes "ldmerge a b" ∷ codes "ldstale a" ∷ codes "live" ∷ codes "dump 0x1000" ∷ [])
    ≡ Some (call.DependencyReset a) ∷ Some (call.DependencyAdd a (t 0)) ∷ Some (call.DependencyMerge a b) ∷ Some (call.DependencyStale a)
    ∷ Some call.Live ∷ Some (call.Dump 0x1000) ∷ []
dependencies_and_states = refl

no_dependencies_and_no_states :
    are_wrong (codes "ldreset" ∷ codes "ldreset 1" ∷ codes "ldreset a b" ∷ codes "ldadd a" ∷ codes "ldadd 1 t.0" ∷ codes "ldadd a t"
    ∷ codes "ldadd a t.0 1" ∷ codes "ldmerge a" ∷ codes "ldmerge 1 b" ∷ codes "ldmerge a 1" ∷ codes "ldmerge a b c" ∷ codes "ldstale"
    ∷ codes "ldstale 1" ∷ codes "ldstale a b" ∷ codes "live 1" ∷ codes "dump" ∷ codes "dump 4096" ∷ codes "dump 0x01000" ∷ codes "dump 0x"
    ∷ codes "dump 0x1000 1" ∷ [])
    ≡ true
no_dependencies_and_no_states = refl

no_commands : are_wrong (codes "foo" ∷ codes "nums t.0 2" ∷ codes "nu t.0 2" ∷ codes "tags t.0 1" ∷ []) ≡ true
no_commands = refl
