-- Where something new is placed: the answer to 'n words, please', with the numbers of each refusal.
use Rattle.std.specs.Prelude.{ℕ, ◌≡◌, ◌+◌, nat_lt, if◌then◌else◌, Option, Some, None, List, [], ◌∷◌, refl}
use Rattle.mps_base.specs.Run.{Run, gaps, lowest_fitting, longest, total}

pub data Placement : Type 0 where
  -- in what is held already, from this word on
  Place : (word : ℕ) → Placement
  -- at the base of a new segment, of n grains from this grain on
  NewSegment : (grain grains : ℕ) → Placement
  -- more grains than the commit limit allows: the grains held, those needed, and the limit
  OverLimit : (committed need limit : ℕ) → Placement
  -- no run of free grains is long enough: the grains needed and the longest run
  NoFreeRun : (need longest : ℕ) → Placement

-- the lowest run of `need` free grains of an arena with the grains 1 to `grains`, of which the runs `held` are taken
abbrev pub run_placement : (grains limit : ℕ) → List Run → (need : ℕ) → Placement
run_placement grains limit held need =
    if nat_lt limit (total held + need) then OverLimit (total held) need limit
    else fitting (lowest_fitting need free)
  where
    free : List Run
    free = gaps 1 (grains + 1) held

    fitting : Option ℕ → Placement
    fitting (Some grain) = NewSegment grain need
    fitting None = NoFreeRun need (longest free)

-- the first two grains are held
abbrev two_held : List Run
two_held = record { from = 1; count = 2 } ∷ []

pub the_lowest_run_after : run_placement 4 4 two_held 2 ≡ NewSegment 3 2
the_lowest_run_after = refl

pub the_limit_comes_before_the_room : run_placement 4 4 two_held 3 ≡ OverLimit 2 3 4
the_limit_comes_before_the_room = refl

pub no_run_of_three : run_placement 4 8 two_held 3 ≡ NoFreeRun 3 2
no_run_of_three = refl
