-- What each call replies, and the graph and world that it leaves.
--
-- A call is judged in one world and takes effect in another. They differ only if the call makes moves: it is judged in
-- the world before them, and takes effect in the world after them. A `reserve` is judged after its poll, but before its new
-- segment is taken.
use Rattle.std.specs.Prelude.{Bool, true, false, Ok, Err}
use Rattle.mps_model.specs.declared.call.Call.{Call}
use Rattle.mps_model.specs.declared.call.Call.TheVariants as call
use Rattle.mps_model.specs.Answer.{Answer, refused}
use Rattle.mps_model.specs.Graph.{Graph}
use Rattle.mps_model.specs.World.{World}
use Rattle.mps_model.specs.Checked.{Act, Checked}
use Rattle.mps_model.specs.Making.{act_arena, act_limit, act_committed, act_chain, act_pool, act_pool_on_chain, act_pool_mfs, act_pool_mvff, act_pool_frames, act_table, act_area, act_blocks, act_drop_root, act_point, act_drop_point}
use Rattle.mps_model.specs.Allocating.{act_reserve, act_init_number, act_init_reference, act_commit, act_alloc, act_free, act_load, act_store}
use Rattle.mps_model.specs.Accessing.{act_get, act_put, act_number, act_set_number, act_copy, act_clear, act_same, act_null, act_head, act_address, act_poke, act_peek, act_pin, act_take}
use Rattle.mps_model.specs.Tagging.{act_set_tag, act_tag}
use Rattle.mps_model.specs.Labelling.{act_intern, act_label}
use Rattle.mps_model.specs.Dependents.{act_depend, act_undepend}
use Rattle.mps_model.specs.Transforms.{act_transform, act_transform_add, act_transform_apply, act_transform_drop}
use Rattle.mps_model.specs.Caches.{act_cache, act_cache_alloc, act_cache_free, act_cache_flush}
use Rattle.mps_model.specs.Frames.{act_push, act_pop}
use Rattle.mps_model.specs.Dependency.{act_dependency, act_dependency_reset, act_dependency_add, act_dependency_merge, act_dependency_stale}
use Rattle.mps_model.specs.Collecting.{act_start, act_start_chain, act_step, act_collect, act_clamp, act_park, act_release, act_finalize, act_definalize, act_message, act_live, act_dump}

-- the first refusal whose condition holds, or the answer and the world after the call. `marked` counts for `poke` alone. Only the
-- first of these look at the world in which the call is judged
abbrev pub act : (marked : Bool) → (judged after : World) → Call → Checked Act
act marked judged after (call.Reserve point head) = act_reserve judged after point head
act marked judged after (call.Alloc pool words place) = act_alloc judged after pool words place
act marked judged after (call.CacheAlloc cache words place) = act_cache_alloc judged after cache words place
act marked judged after (call.Get target source cell) = act_get judged after target source cell
act marked judged after call.Start = act_start judged after
act marked judged after (call.StartChain chain generation) = act_start_chain judged after chain generation
act marked judged after (call.Arena grains limit) = act_arena after grains limit
act marked judged after (call.Limit limit) = act_limit after limit
act marked judged after call.Committed = act_committed after
act marked judged after (call.Chain chain count capacities) = act_chain after chain count capacities
act marked judged after (call.Pool pool kind format) = act_pool after pool kind format
act marked judged after (call.PoolOnChain pool kind format chain) = act_pool_on_chain after pool kind format chain
act marked judged after (call.PoolMfs pool words) = act_pool_mfs after pool words
act marked judged after (call.PoolMvff pool) = act_pool_mvff after pool
act marked judged after (call.Table table length) = act_table after table length
act marked judged after (call.Area area length) = act_area after area length
act marked judged after (call.Blocks blocks length) = act_blocks after blocks length
act marked judged after (call.DropRoot root) = act_drop_root after root
act marked judged after (call.Point point pool rank) = act_point after point pool rank
act marked judged after (call.DropPoint point) = act_drop_point after point
act marked judged after (call.Dependency dependency) = act_dependency after dependency
act marked judged after (call.InitNumber point cell value) = act_init_number after point cell value
act marked judged after (call.InitReference point cell source) = act_init_reference after point cell source
act marked judged after (call.Commit point target) = act_commit after point target
act marked judged after (call.Free place) = act_free after place
act marked judged after (call.Load place word) = act_load after place word
act marked judged after (call.Store place word value) = act_store after place word value
act marked judged after (call.Put target cell source) = act_put after target cell source
act marked judged after (call.Number slot cell) = act_number after slot cell
act marked judged after (call.SetNumber slot cell value) = act_set_number after slot cell value
act marked judged after (call.Copy target source) = act_copy after target source
act marked judged after (call.Clear slot) = act_clear after slot
act marked judged after (call.Same slot other) = act_same after slot other
act marked judged after (call.Null slot) = act_null after slot
act marked judged after (call.Head slot) = act_head after slot
act marked judged after (call.Address slot) = act_address after slot
act marked judged after (call.SetTag slot cell tag) = act_set_tag after slot cell tag
act marked judged after (call.Tag slot cell) = act_tag after slot cell
act marked judged after (call.Intern label) = act_intern after label
act marked judged after (call.Label slot label) = act_label after slot label
act marked judged after (call.Depend holder dependent) = act_depend after holder dependent
act marked judged after (call.Undepend holder) = act_undepend after holder
act marked judged after (call.Transform transform) = act_transform after transform
act marked judged after (call.TransformAdd transform old new) = act_transform_add after transform old new
act marked judged after (call.TransformApply transform) = act_transform_apply after transform
act marked judged after (call.TransformDrop transform) = act_transform_drop after transform
act marked judged after (call.Cache cache pool count sizes limits) = act_cache after cache pool count sizes limits
act marked judged after (call.CacheFree cache place) = act_cache_free after cache place
act marked judged after (call.CacheFlush cache) = act_cache_flush after cache
act marked judged after (call.PoolFrames pool) = act_pool_frames after pool
act marked judged after (call.Push pool) = act_push after pool
act marked judged after (call.Pop pool frame) = act_pop after pool frame
act marked judged after (call.Poke word value) = act_poke marked after word value
act marked judged after (call.Peek word) = act_peek after word
act marked judged after (call.Pin word slot) = act_pin after word slot
act marked judged after (call.Take slot word) = act_take after slot word
act marked judged after (call.Step units) = act_step after
act marked judged after call.Collect = act_collect after
act marked judged after call.Clamp = act_clamp after
act marked judged after call.Park = act_park after
act marked judged after call.Release = act_release after
act marked judged after (call.Finalize slot) = act_finalize after slot
act marked judged after (call.Definalize slot) = act_definalize after slot
act marked judged after (call.Message slot) = act_message after slot
act marked judged after (call.DependencyReset dependency) = act_dependency_reset after dependency
act marked judged after (call.DependencyAdd dependency slot) = act_dependency_add after dependency slot
act marked judged after (call.DependencyMerge dependency source) = act_dependency_merge after dependency source
act marked judged after (call.DependencyStale dependency) = act_dependency_stale after dependency
act marked judged after call.Live = act_live after
act marked judged after (call.Dump at) = act_dump after at

-- the answer of an act or a refusal
abbrev pub answer_from : Checked Act → Answer
answer_from (Ok a) = a.answer
answer_from (Err why) = refused why

-- the world after an act; a refusal changes nothing
abbrev pub world_from : World → Checked Act → World
world_from w (Ok a) = a.world
world_from w (Err why) = w

-- whether it is a refusal
abbrev pub is_refusal : Checked Act → Bool
is_refusal (Ok a) = false
is_refusal (Err why) = true

-- what a call replies
abbrev pub reply_to : (marked : Bool) → (judged after : World) → Call → Answer
reply_to marked judged after call = answer_from (act marked judged after call)

-- the graph that a call leaves
abbrev pub graph_after : (marked : Bool) → (judged after : World) → Call → Graph
graph_after marked judged after call = (world_from after (act marked judged after call)).graph
