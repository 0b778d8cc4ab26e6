-- Refusals: those that each call may have, and what a refused call leaves.
use Rattle.std.specs.Prelude.{◌≡◌, ℕ, ◌+◌, Bool, true, false, List, [], ◌∷◌, length, Contains, Ok, Err, refl}
use Rattle.mps_base.specs.Address.{grains_needed}
use Rattle.mps_base.specs.Run.{gaps, longest}
use Rattle.mps_base.specs.declared.refusal.Refusal.{Refusal}
use Rattle.mps_base.specs.declared.refusal.Refusal.TheVariants as refusal
use Rattle.mps_base.specs.declared.names.Name.{Name}
use Rattle.mps_model.specs.declared.call.Call.{Call}
use Rattle.mps_model.specs.declared.call.Call.TheVariants as call
use Rattle.mps_model.specs.Answer.{refused}
use Rattle.mps_model.specs.Step.{Step}
use Rattle.mps_model.specs.World.{World, committed, held_grains, empty_world}
use Rattle.mps_model.specs.Checked.{Checked}
use Rattle.mps_model.specs.Making.{most_caches, most_frames, most_chains, most_dependencies, most_labels, most_points, most_pools, most_roots, most_slots}
use Rattle.mps_model.specs.Allocating.{Reserving, check_reserve}
use Rattle.mps_model.specs.Dependents.{most_dependents}
use Rattle.mps_model.specs.Collecting.{most_registrations}
use Rattle.mps_model.specs.Effect.{world_after_moves}
use Rattle.mps_model.specs.Reply.{act}
use Rattle.mps_model.specs.Policy.{polls, units_asked}
use Rattle.mps_model.specs.History.{IsLegalStep, asking, judged_world, with_client_remembered, world_after}
use Rattle.mps_laws.specs.Held.{letter, slot_of_t}
use Rattle.mps_client_laws.specs.Objects.{two_objects}
use Rattle.mps_model.specs.Transforms.{most_pairs, most_transforms}

-- ---- the refusals of each call

-- the longest run of free grains
abbrev pub longest_free_run : World → ℕ
longest_free_run w = longest (gaps 1 (w.grains + 1) (held_grains w))

-- the refusal if the grains of a block of n words would pass the limit
abbrev pub over_limit : World → (words : ℕ) → Refusal
over_limit w words = refusal.CommitLimit (committed w) (grains_needed words) w.limit

-- the refusal if no run of free grains is long enough for a block of n words
abbrev pub no_run : World → (words : ℕ) → Refusal
no_run w words = refusal.NoRun (grains_needed words) (longest_free_run w)

abbrev pub words_of_checked : Checked Reserving → ℕ
words_of_checked (Ok r) = length r.cells
words_of_checked (Err why) = 0

-- how many words the block of a `reserve` has, if its checks are passed
abbrev pub words_reserved : World → (point : Name) → (head : ℕ) → ℕ
words_reserved w point head = words_of_checked (check_reserve w point head)

-- The refusals that a call may have in the world in which it is judged, each once, in the order in which they are first tried. The world
-- counts only for the numbers of `over_limit` and `no_run`.
abbrev pub refusals_of : World → Call → List Refusal
-- the arena
refusals_of w (call.Arena grains limit) = []
refusals_of w (call.Limit limit) = refusal.BelowCommitted ∷ []
refusals_of w call.Committed = []
-- chains and pools
refusals_of w (call.Chain chain count capacities) = refusal.NameTaken ∷ refusal.TooMany most_chains ∷ []
refusals_of w (call.Pool pool kind format) = refusal.NameTaken ∷ refusal.TooMany most_pools ∷ []
refusals_of w (call.PoolOnChain pool kind format chain) =
    refusal.NameTaken ∷ refusal.BadName ∷ refusal.TooMany most_pools ∷ []
refusals_of w (call.PoolMfs pool words) = refusal.NameTaken ∷ refusal.BadSize ∷ refusal.TooMany most_pools ∷ []
refusals_of w (call.PoolMvff pool) = refusal.NameTaken ∷ refusal.TooMany most_pools ∷ []
refusals_of w (call.PoolFrames pool) = refusal.NameTaken ∷ refusal.TooMany most_pools ∷ []
-- roots
refusals_of w (call.Table table slots) = refusal.NameTaken ∷ refusal.TooMany most_roots ∷ refusal.TooMany most_slots ∷ []
refusals_of w (call.Area area words) = refusal.NameTaken ∷ refusal.TooMany most_roots ∷ refusal.TooMany most_slots ∷ []
refusals_of w (call.Blocks blocks places) = refusal.NameTaken ∷ refusal.TooMany most_roots ∷ refusal.TooMany most_slots ∷ []
refusals_of w (call.DropRoot root) = refusal.BadName ∷ []
-- points and dependencies
refusals_of w (call.Point point pool rank) =
    refusal.NameTaken ∷ refusal.BadName ∷ refusal.WrongPool ∷ refusal.TooMany most_points ∷ []
refusals_of w (call.DropPoint point) = refusal.BadName ∷ refusal.Open ∷ []
refusals_of w (call.Dependency dependency) = refusal.NameTaken ∷ refusal.TooMany most_dependencies ∷ []
-- reservations
refusals_of w (call.Reserve point head) =
    refusal.BadName ∷ refusal.BadHead ∷ refusal.Open ∷ over_limit w (words_reserved w point head)
    ∷ no_run w (words_reserved w point head) ∷ []
refusals_of w (call.InitNumber point cell value) =
    refusal.BadName ∷ refusal.NotOpen ∷ refusal.BadIndex ∷ refusal.NotANumber ∷ []
refusals_of w (call.InitReference point cell source) =
    refusal.BadName ∷ refusal.BadIndex ∷ refusal.NotOpen ∷ refusal.NotARef ∷ []
refusals_of w (call.Commit point target) = refusal.BadName ∷ refusal.BadIndex ∷ refusal.NotOpen ∷ []
-- manual blocks
refusals_of w (call.Alloc pool words place) =
    refusal.BadName ∷ refusal.WrongPool ∷ refusal.BadIndex ∷ refusal.BadSize ∷ refusal.NameTaken ∷ over_limit w words
    ∷ no_run w words ∷ []
refusals_of w (call.Free place) = refusal.BadName ∷ refusal.BadIndex ∷ refusal.NotABlock ∷ refusal.WrongPool ∷ []
refusals_of w (call.Load place word) = refusal.BadName ∷ refusal.BadIndex ∷ refusal.NotABlock ∷ []
refusals_of w (call.Store place word value) = refusal.BadName ∷ refusal.BadIndex ∷ refusal.NotABlock ∷ []
-- objects and slots
refusals_of w (call.Get target source cell) = refusal.BadName ∷ refusal.BadIndex ∷ refusal.NullRef ∷ refusal.NotARef ∷ []
refusals_of w (call.Put target cell source) = refusal.BadName ∷ refusal.BadIndex ∷ refusal.NullRef ∷ refusal.NotARef ∷ []
refusals_of w (call.Number slot cell) = refusal.BadName ∷ refusal.BadIndex ∷ refusal.NullRef ∷ refusal.NotANumber ∷ []
refusals_of w (call.SetNumber slot cell value) =
    refusal.BadName ∷ refusal.BadIndex ∷ refusal.NullRef ∷ refusal.NotANumber ∷ []
refusals_of w (call.Copy target source) = refusal.BadName ∷ refusal.BadIndex ∷ []
refusals_of w (call.Clear slot) = refusal.BadName ∷ refusal.BadIndex ∷ []
refusals_of w (call.Same slot other) = refusal.BadName ∷ refusal.BadIndex ∷ []
refusals_of w (call.Null slot) = refusal.BadName ∷ refusal.BadIndex ∷ []
refusals_of w (call.Head slot) = refusal.BadName ∷ refusal.BadIndex ∷ refusal.NullRef ∷ []
refusals_of w (call.Address slot) = refusal.BadName ∷ refusal.BadIndex ∷ refusal.NullRef ∷ []
-- tags, labels and dependents
refusals_of w (call.SetTag slot cell tag) = refusal.BadName ∷ refusal.BadIndex ∷ refusal.NullRef ∷ refusal.NotARef ∷ []
refusals_of w (call.Tag slot cell) = refusal.BadName ∷ refusal.BadIndex ∷ refusal.NullRef ∷ refusal.NotARef ∷ []
refusals_of w (call.Intern label) = refusal.NameTaken ∷ refusal.TooMany most_labels ∷ []
refusals_of w (call.Label slot label) = refusal.BadName ∷ refusal.BadIndex ∷ refusal.NullRef ∷ []
refusals_of w (call.Depend holder dependent) =
    refusal.BadName ∷ refusal.BadIndex ∷ refusal.NullRef ∷ refusal.WrongPool ∷ refusal.TooMany most_dependents ∷ []
refusals_of w (call.Undepend holder) = refusal.BadName ∷ refusal.BadIndex ∷ refusal.NullRef ∷ refusal.NotLinked ∷ []
-- transforms
refusals_of w (call.Transform transform) = refusal.NameTaken ∷ refusal.TooMany most_transforms ∷ []
refusals_of w (call.TransformAdd transform old new) =
    refusal.BadName ∷ refusal.BadIndex ∷ refusal.NullRef ∷ refusal.NotParked ∷ refusal.OldTwice ∷ refusal.TooMany most_pairs ∷ []
refusals_of w (call.TransformApply transform) = refusal.BadName ∷ refusal.NotParked ∷ refusal.Open ∷ []
refusals_of w (call.TransformDrop transform) = refusal.BadName ∷ []
-- caches
refusals_of w (call.Cache cache pool count sizes limits) =
    refusal.NameTaken ∷ refusal.BadName ∷ refusal.WrongPool ∷ refusal.BadSize ∷ refusal.TooMany most_caches ∷ []
refusals_of w (call.CacheAlloc cache words place) =
    refusal.BadName ∷ refusal.BadIndex ∷ refusal.BadSize ∷ refusal.NameTaken ∷ over_limit w words ∷ no_run w words ∷ []
refusals_of w (call.CacheFree cache place) = refusal.BadName ∷ refusal.BadIndex ∷ refusal.NotABlock ∷ refusal.WrongPool ∷ []
refusals_of w (call.CacheFlush cache) = refusal.BadName ∷ []
-- frames
refusals_of w (call.Push pool) = refusal.BadName ∷ refusal.WrongPool ∷ refusal.TooMany most_frames ∷ []
refusals_of w (call.Pop pool frame) = refusal.BadName ∷ refusal.WrongPool ∷ refusal.BadIndex ∷ []
-- areas
refusals_of w (call.Poke word value) = refusal.BadName ∷ refusal.BadIndex ∷ []
refusals_of w (call.Peek word) = refusal.BadName ∷ refusal.BadIndex ∷ []
refusals_of w (call.Pin word slot) = refusal.BadName ∷ refusal.BadIndex ∷ refusal.NullRef ∷ []
refusals_of w (call.Take slot word) = refusal.BadName ∷ refusal.BadIndex ∷ refusal.NotARef ∷ []
-- collections
refusals_of w call.Start = refusal.Running ∷ []
refusals_of w (call.StartChain chain generation) = refusal.BadName ∷ refusal.BadIndex ∷ refusal.Running ∷ []
refusals_of w (call.Step units) = []
refusals_of w call.Collect = []
refusals_of w call.Clamp = []
refusals_of w call.Park = []
refusals_of w call.Release = []
-- finalization
refusals_of w (call.Finalize slot) =
    refusal.BadName ∷ refusal.BadIndex ∷ refusal.NullRef ∷ refusal.TooMany most_registrations ∷ []
refusals_of w (call.Definalize slot) = refusal.BadName ∷ refusal.BadIndex ∷ refusal.NullRef ∷ refusal.NotRegistered ∷ []
refusals_of w (call.Message slot) = refusal.BadName ∷ refusal.BadIndex ∷ []
-- location dependencies
refusals_of w (call.DependencyReset dependency) = refusal.BadName ∷ []
refusals_of w (call.DependencyAdd dependency slot) = refusal.BadName ∷ refusal.BadIndex ∷ refusal.NullRef ∷ []
refusals_of w (call.DependencyMerge dependency source) = refusal.BadName ∷ []
refusals_of w (call.DependencyStale dependency) = refusal.BadName ∷ []
-- what lives
refusals_of w call.Live = []
refusals_of w (call.Dump at) = refusal.Running ∷ refusal.NotABlock ∷ []

-- ---- each refusal is listed

-- In any two worlds a call is answered, or refused by one of its list.
abbrev pub RefusalsAreListed : Type 0
RefusalsAreListed =
    (marked : Bool) (judged after : World) (c : Call) (why : Refusal) → act marked judged after c ≡ Err why
    → Contains (refusals_of judged c) why

-- So is each legal step, from any world on.
abbrev pub RefusedStepsAreListed : Type 0
RefusedStepsAreListed =
    (w : World) (s : Step) (why : Refusal) → IsLegalStep w s → s.answer ≡ refused why
    → Contains (refusals_of (judged_world w s.call s.moves) s.call) why

-- Out of memory is in no list.
abbrev pub NoneIsOutOfMemory : Type 0
NoneIsOutOfMemory = (w : World) (c : Call) → ¬ Contains (refusals_of w c) refusal.OutOfMemory

-- ---- what a refused call leaves

-- A step that is refused makes no moves, unless its call polls: a `reserve` for which there is no place in what is held.
abbrev pub RefusedStepsMakeNoMoves : Type 0
RefusedStepsMakeNoMoves =
    (w : World) (s : Step) (why : Refusal) → IsLegalStep w s → s.answer ≡ refused why → polls w s.call ≡ false → s.moves ≡ []

-- whether a refusal says that there is no place for a block
abbrev pub is_without_place : Refusal → Bool
is_without_place (refusal.CommitLimit committed need limit) = true
is_without_place (refusal.NoRun need longest) = true
is_without_place _ = false

-- A call that is refused for anything else didn't poll.
abbrev pub RefusedPollsHaveNoPlace : Type 0
RefusedPollsHaveNoPlace =
    (w : World) (s : Step) (why : Refusal) → IsLegalStep w s → s.answer ≡ refused why → is_without_place why ≡ false
    → polls w s.call ≡ false

-- So it changes nothing. Only a running collection remembers once more what the client holds.
abbrev pub RefusedStepsChangeNothing : Type 0
RefusedStepsChangeNothing =
    (w : World) (s : Step) (why : Refusal) → IsLegalStep w s → s.answer ≡ refused why → polls w s.call ≡ false
    → world_after w s ≡ with_client_remembered w

-- One that polls leaves the world to which its moves lead, and its call changes nothing there. Only the collection counts the units
-- that were asked of it, and remembers what the client holds.
abbrev pub RefusedStepsLeaveTheirMoves : Type 0
RefusedStepsLeaveTheirMoves =
    (w : World) (s : Step) (why : Refusal) → IsLegalStep w s → s.answer ≡ refused why
    → world_after w s ≡ with_client_remembered (asking (units_asked w s.call) (world_after_moves w s.moves))

-- ---- vectors

pub a_get_has_four :
    refusals_of two_objects (call.Get (slot_of_t 0) (slot_of_t 1) 1)
    ≡ refusal.BadName ∷ refusal.BadIndex ∷ refusal.NullRef ∷ refusal.NotARef ∷ []
a_get_has_four = refl

-- of an arena of 8 grains, all of which are free, with a limit of 4
abbrev small_arena : World
small_arena = record empty_world { grains = 8; limit = 4 }

pub an_alloc_has_its_grains :
    refusals_of small_arena (call.Alloc (letter 112) 2049 (slot_of_t 0))
    ≡ refusal.BadName ∷ refusal.WrongPool ∷ refusal.BadIndex ∷ refusal.BadSize ∷ refusal.NameTaken ∷ refusal.CommitLimit 0 5 4
    ∷ refusal.NoRun 5 8 ∷ []
an_alloc_has_its_grains = refl

pub a_collect_is_never_refused : refusals_of two_objects call.Collect ≡ []
a_collect_is_never_refused = refl

pub an_intern_has_the_limit_of_labels : refusals_of two_objects (call.Intern (letter 108)) ≡ refusal.NameTaken ∷ refusal.TooMany 256 ∷ []
an_intern_has_the_limit_of_labels = refl

pub a_get_is_never_not_open : refusals_of two_objects (call.Get (slot_of_t 0) (slot_of_t 1) 1) ≡ refusal.NotOpen ∷ [] → ⊥
a_get_is_never_not_open e = absurd cc

pub no_run_is_without_place : is_without_place (refusal.NoRun 5 4) ≡ true
no_run_is_without_place = refl

pub a_bad_head_isnt_without_place : is_without_place refusal.BadHead ≡ false
a_bad_head_isnt_without_place = refl
