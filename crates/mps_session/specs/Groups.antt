-- The calls that a heap answers, in groups.
use Rattle.std.specs.Prelude.{Bool, true, false, ◌||◌}
use Rattle.mps_model.specs.declared.call.Call.{Call}
use Rattle.mps_model.specs.declared.call.Call.TheVariants as call
use Rattle.mps_session.specs.declared.grouping.Group.{Group}
use Rattle.mps_session.specs.declared.grouping.Group.TheVariants as group

-- a call that begins a collection, or has one in progress go on or end
abbrev pub is_collection : Call → Bool
is_collection call.Start = true
is_collection (call.StartChain chain generation) = true
is_collection (call.Step units) = true
is_collection call.Collect = true
is_collection call.Park = true
is_collection _ = false

-- a call that makes an object or reads a reference, and may make moves
abbrev pub may_move : Call → Bool
may_move (call.Reserve point head) = true
may_move (call.Commit point target) = true
may_move (call.Get target source cell) = true
may_move _ = false

-- a call that makes or ends a manual block, puts one into a cache or takes it out, flushes a cache, or opens or closes a frame
abbrev pub is_manual : Call → Bool
is_manual (call.Alloc pool words place) = true
is_manual (call.Free place) = true
is_manual (call.CacheAlloc cache words place) = true
is_manual (call.CacheFree cache place) = true
is_manual (call.CacheFlush cache) = true
is_manual (call.Push pool) = true
is_manual (call.Pop pool frame) = true
is_manual _ = false

-- a call that reads a slot, or a word of an object or a manual block
abbrev pub reads_words : Call → Bool
reads_words (call.Number slot cell) = true
reads_words (call.Same slot other) = true
reads_words (call.Null slot) = true
reads_words (call.Head slot) = true
reads_words (call.Address slot) = true
reads_words (call.Load place word) = true
reads_words (call.Tag slot cell) = true
reads_words (call.Label slot label) = true
reads_words _ = false

-- a call that writes a slot, or a word of an object, a reservation or a manual block
abbrev pub writes_words : Call → Bool
writes_words (call.Put target cell source) = true
writes_words (call.SetNumber slot cell value) = true
writes_words (call.Copy target source) = true
writes_words (call.Clear slot) = true
writes_words (call.InitNumber point cell value) = true
writes_words (call.InitReference point cell source) = true
writes_words (call.Store place word value) = true
writes_words (call.SetTag slot cell tag) = true
writes_words _ = false

-- a call of the groups that a script has most of
abbrev pub is_frequent : Call → Bool
is_frequent c = reads_words c || may_move c || is_manual c || writes_words c

-- which group it is
abbrev pub is_reading_group : Group → Bool
is_reading_group group.Reading = true
is_reading_group _ = false

abbrev pub is_moving_group : Group → Bool
is_moving_group group.Moving = true
is_moving_group _ = false

abbrev pub is_manual_group : Group → Bool
is_manual_group group.Manual = true
is_manual_group _ = false

abbrev pub is_writing_group : Group → Bool
is_writing_group group.Writing = true
is_writing_group _ = false

-- a call on an area, a registration, a message, a dependency, a transform or a dependent
abbrev pub is_on_areas : Call → Bool
is_on_areas (call.Poke word value) = true
is_on_areas (call.Peek word) = true
is_on_areas (call.Pin word slot) = true
is_on_areas (call.Take slot word) = true
is_on_areas (call.Finalize slot) = true
is_on_areas (call.Definalize slot) = true
is_on_areas (call.Message slot) = true
is_on_areas (call.DependencyReset dependency) = true
is_on_areas (call.DependencyAdd dependency slot) = true
is_on_areas (call.DependencyMerge dependency source) = true
is_on_areas (call.DependencyStale dependency) = true
is_on_areas (call.Transform transform) = true
is_on_areas (call.TransformAdd transform old new) = true
is_on_areas (call.TransformApply transform) = true
is_on_areas (call.TransformDrop transform) = true
is_on_areas (call.Depend holder dependent) = true
is_on_areas (call.Undepend holder) = true
is_on_areas _ = false

-- a call on the arena, one that drops a thing, or one that makes a label
abbrev pub is_on_arena : Call → Bool
is_on_arena (call.Limit limit) = true
is_on_arena call.Committed = true
is_on_arena call.Clamp = true
is_on_arena call.Release = true
is_on_arena call.Live = true
is_on_arena (call.Dump at) = true
is_on_arena (call.DropRoot root) = true
is_on_arena (call.DropPoint point) = true
is_on_arena (call.Intern label) = true
is_on_arena _ = false

-- a call that makes a cache
abbrev pub is_on_caches : Call → Bool
is_on_caches (call.Cache cache pool count sizes limits) = true
is_on_caches _ = false

-- a call that makes a thing in the arena, and takes memory
abbrev pub makes_thing : Call → Bool
makes_thing (call.Chain chain count capacities) = true
makes_thing (call.Pool pool kind format) = true
makes_thing (call.PoolOnChain pool kind format chain) = true
makes_thing (call.PoolMfs pool words) = true
makes_thing (call.PoolMvff pool) = true
makes_thing (call.PoolFrames pool) = true
makes_thing (call.Table table length) = true
makes_thing (call.Area area length) = true
makes_thing (call.Blocks blocks length) = true
makes_thing (call.Point point pool rank) = true
makes_thing (call.Dependency dependency) = true
makes_thing _ = false
