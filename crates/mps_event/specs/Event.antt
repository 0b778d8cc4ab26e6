-- What records tell: for each event its code and the number of its fields, and which events a version of the log has.
use Rattle.std.specs.Prelude.{◌≡◌, ℕ, ◌==◌, Option, Some, None, List, [], ◌∷◌, ◌++◌, find, map, replicate, refl}
use Rattle.mps_base.specs.Record.{arena_create_code, limit_set_code, pool_create_code, flip_code, end_code, seg_alloc_code, seg_free_code, splat_code, commit_code, alloc_code, move_code, stay_code, post_code, free_code, intern_code, label_code}
use Rattle.mps_event.specs.declared.version.Version.{Version}
use Rattle.mps_event.specs.declared.version.Version.TheVariants.{One, Two}
use Rattle.mps_event.specs.declared.event.Event.{Event}
use Rattle.mps_event.specs.declared.event.Event.TheVariants.{ArenaCreate, LimitSet, PoolCreate, Flip, End, SegAlloc, SegFree, Splat, Commit, Alloc, Move, Stay, Post, Free, Intern, Label}

-- the number of a version
abbrev pub number_of_version : Version → ℕ
number_of_version One = 1
number_of_version Two = 2

-- the code of an event's records
abbrev pub code_of : Event → ℕ
code_of ArenaCreate = arena_create_code
code_of LimitSet = limit_set_code
code_of PoolCreate = pool_create_code
code_of Flip = flip_code
code_of End = end_code
code_of SegAlloc = seg_alloc_code
code_of SegFree = seg_free_code
code_of Splat = splat_code
code_of Commit = commit_code
code_of Alloc = alloc_code
code_of Move = move_code
code_of Stay = stay_code
code_of Post = post_code
code_of Free = free_code
code_of Intern = intern_code
code_of Label = label_code

-- how many fields an event's records have
abbrev pub field_count_of : Event → ℕ
field_count_of ArenaCreate = 2
field_count_of LimitSet = 1
field_count_of PoolCreate = 3
field_count_of Flip = 3
field_count_of End = 0
field_count_of SegAlloc = 4
field_count_of SegFree = 1
field_count_of Splat = 2
field_count_of Commit = 3
field_count_of Alloc = 3
field_count_of Move = 2
field_count_of Stay = 1
field_count_of Post = 1
field_count_of Free = 1
field_count_of Intern = 3
field_count_of Label = 2

-- the events of both versions
abbrev pub common_events : List Event
common_events =
    ArenaCreate ∷ LimitSet ∷ PoolCreate ∷ Flip ∷ End ∷ SegAlloc ∷ SegFree ∷ Splat ∷ Commit ∷ Alloc ∷ Move ∷ Stay ∷ Post ∷ Free ∷ []

-- the events of a version
abbrev pub events_of : Version → List Event
events_of One = common_events
events_of Two = common_events ++ Intern ∷ Label ∷ []

-- the event of a version that has a code
abbrev pub event_of : Version → ℕ → Option Event
event_of version code = find (λ e. code_of e == code) (events_of version)

pub the_second_version_interns : event_of Two 96 ≡ Some Intern
the_second_version_interns = refl

pub the_first_version_does_not : event_of One 96 ≡ None
the_first_version_does_not = refl

pub the_end_has_no_field : field_count_of End ≡ 0
the_end_has_no_field = refl

pub five_events_have_one_field : map field_count_of (LimitSet ∷ SegFree ∷ Stay ∷ Post ∷ Free ∷ []) ≡ replicate 5 1
five_events_have_one_field = refl

pub four_events_have_two_fields : map field_count_of (ArenaCreate ∷ Splat ∷ Move ∷ Label ∷ []) ≡ replicate 4 2
four_events_have_two_fields = refl

pub five_events_have_three_fields : map field_count_of (PoolCreate ∷ Flip ∷ Commit ∷ Alloc ∷ Intern ∷ []) ≡ replicate 5 3
five_events_have_three_fields = refl

pub a_taken_segment_has_four_fields : field_count_of SegAlloc ≡ 4
a_taken_segment_has_four_fields = refl

pub there_is_no_code_three : event_of Two 3 ≡ None
there_is_no_code_three = refl
