-- How many moves a collection may take from here on.
use Rattle.std.specs.Prelude.{◌≡◌, ℕ, ◌+◌, ◌-◌, ◌*◌, Bool, false, true, ◌&&◌, ◌==◌, if◌then◌else◌, List, [], ◌∷◌, slice_get, count_by, refl}
use Rattle.std.specs.List.{sum_by}
use Rattle.std.specs.Option.{option_map_or}
use Rattle.mps_base.specs.Address.{Id}
use Rattle.mps_model.specs.Graph.{Object, Automatic, HeadCell, is_weak_object, size_of}
use Rattle.mps_model.specs.World.{is_copying_object, live_ids}
use Rattle.mps_abstract.specs.Colours.{Colours, is_white, is_to_scan}
use Rattle.mps_abstract.specs.Collecting.{Collecting, segments_left}

-- how many of these live objects are white
abbrev pub white_left : (condemned : List Id) → Colours → (live : List Id) → ℕ
white_left condemned k live = count_by (is_white condemned k) live

-- and of these, how many lie in pools that move their blocks
abbrev pub moving_left : (is_copying : Id → Bool) → (condemned : List Id) → Colours → (live : List Id) → ℕ
moving_left is_copying condemned k live = count_by (λ id. is_white condemned k id && is_copying id) live

-- how many cells of an object may be splatted: each of a weak one but its head
abbrev pub weak_cells : Object → ℕ
weak_cells o = if is_weak_object o then size_of o - 1 else 0

-- how many may be splatted yet, of the object with an id
abbrev pub splats_at : List Object → (condemned : List Id) → Colours → (id : Id) → ℕ
splats_at objects condemned k id = if is_to_scan condemned k id then option_map_or weak_cells (slice_get objects id) 0 else 0

-- and of these live objects
abbrev pub splats_left : List Object → (condemned : List Id) → Colours → (live : List Id) → ℕ
splats_left objects condemned k live = sum_by (splats_at objects condemned k) live

-- how many moves a collection may take from here on: one for each white object, which is its post if it is kept and its free if it isn't,
-- and two more by which it is kept if its pool moves its blocks. Then one for each cell of a weak object that is still to be scanned, and
-- one for each segment that is given back
abbrev pub moves_left : Collecting → ℕ
moves_left y =
    white_left y.running.condemned y.colours (live_ids y.world)
    + 2 * moving_left (is_copying_object y.world) y.running.condemned y.colours (live_ids y.world)
    + splats_left y.world.graph.objects y.running.condemned y.colours (live_ids y.world)
    + segments_left y.running.condemned_segments y.cursor

-- ---- vectors: an object of two words, and two weak ones of three of which the second was scanned

abbrev a_strong_one_and_two_weak : List Object
a_strong_one_and_two_weak =
    record { pool = 0; body = Automatic 0x201 (HeadCell ∷ HeadCell ∷ []) false }
    ∷ record { pool = 1; body = Automatic 0x301 (HeadCell ∷ HeadCell ∷ HeadCell ∷ []) true }
    ∷ record { pool = 1; body = Automatic 0x301 (HeadCell ∷ HeadCell ∷ HeadCell ∷ []) true } ∷ []

abbrev the_second_is_grey : Colours
the_second_is_grey = record { kept = 1 ∷ 2 ∷ []; grey = 1 ∷ [] }

pub one_is_white : white_left (0 ∷ 1 ∷ 2 ∷ []) the_second_is_grey (0 ∷ 1 ∷ 2 ∷ []) ≡ 1
one_is_white = refl

pub none_of_those_that_move_is_white : moving_left (λ id. id == 1) (0 ∷ 1 ∷ 2 ∷ []) the_second_is_grey (0 ∷ 1 ∷ 2 ∷ []) ≡ 0
none_of_those_that_move_is_white = refl

pub two_cells_of_the_grey_one : splats_left a_strong_one_and_two_weak (0 ∷ 1 ∷ 2 ∷ []) the_second_is_grey (0 ∷ 1 ∷ 2 ∷ []) ≡ 2
two_cells_of_the_grey_one = refl

pub white_ones_may_be_splatted_too :
    splats_left a_strong_one_and_two_weak (0 ∷ 1 ∷ 2 ∷ []) (record { kept = []; grey = [] }) (0 ∷ 1 ∷ 2 ∷ []) ≡ 4
white_ones_may_be_splatted_too = refl
