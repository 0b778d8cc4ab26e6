-- The kinds of events, each a bit of a set of kinds, and which events a set names.
use Rattle.std.specs.Prelude.{◌≡◌, ℕ, Bool, true, false, ◌==◌, refl}
use Rattle.std.specs.Int.RustNames.{bit_and}
use Rattle.mps_event.specs.declared.event.Event.{Event}
use Rattle.mps_event.specs.declared.event.Event.TheVariants.{ArenaCreate, LimitSet, PoolCreate, Flip, End, SegAlloc, SegFree, Splat, Commit, Alloc, Move, Stay, Post, Free, Intern, Label}

-- the bit of an event's kind: arena 1, pool 2, trace 4, seg 8, ref 16, object 32, user 64
abbrev pub kind_of : Event → ℕ
kind_of ArenaCreate = 1
kind_of LimitSet = 1
kind_of PoolCreate = 2
kind_of Flip = 4
kind_of End = 4
kind_of SegAlloc = 8
kind_of SegFree = 8
kind_of Splat = 16
kind_of Commit = 32
kind_of Alloc = 32
kind_of Move = 32
kind_of Stay = 32
kind_of Post = 32
kind_of Free = 32
kind_of Intern = 64
kind_of Label = 64

-- a set of kinds has the kind of an event
abbrev pub is_among : (kinds : ℕ) → Event → Bool
is_among kinds event = bit_and kinds (kind_of event) == kind_of event

pub the_kind_of_a_pool : kind_of PoolCreate ≡ 2
the_kind_of_a_pool = refl

pub the_kind_of_an_end : kind_of End ≡ 4
the_kind_of_an_end = refl

pub the_kind_of_a_segment_given_back : kind_of SegFree ≡ 8
the_kind_of_a_segment_given_back = refl

pub the_kind_of_a_splat : kind_of Splat ≡ 16
the_kind_of_a_splat = refl

pub the_kind_of_a_post : kind_of Post ≡ 32
the_kind_of_a_post = refl

pub the_kind_of_an_interned_name : kind_of Intern ≡ 64
the_kind_of_an_interned_name = refl

pub a_user_alone_has_no_limits : is_among 64 LimitSet ≡ false
a_user_alone_has_no_limits = refl

pub no_kinds_have_no_frees : is_among 0 Free ≡ false
no_kinds_have_no_frees = refl

pub seg_and_object_have_moves : is_among 40 Move ≡ true
seg_and_object_have_moves = refl

pub seg_and_object_have_no_flips : is_among 40 Flip ≡ false
seg_and_object_have_no_flips = refl
