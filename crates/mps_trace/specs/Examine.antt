-- How the next registration is examined.
use Rattle.std.specs.Prelude.{◌≡◌, ℕ, ◌+◌, ◌-◌, ◌<◌, ◌≤◌, Option, List, [], ◌∷◌, length, slice_index_or, refl}
use Rattle.mps_base.specs.Trail.{Moves}
use Rattle.mps_base.specs.declared.address.Addr.{Addr}
use Rattle.mps_final.specs.State.{FinalsState}
use Rattle.mps_format.specs.Layout.{Layout}
use Rattle.mps_format.specs.declared.pool.Policy.{Policy}
use Rattle.mps_gen.specs.State.{ChainsState}
use Rattle.mps_seg.specs.Segs.{SegsState}
use Rattle.mps_trace.specs.Trace.{TraceState, Traced, traced, CanFixAt, KeepsTo, FixesTo}
use Rattle.mps_trace.specs.declared.running.Running.{Running}
use Rattle.mps_trace.specs.declared.running.Band.TheVariants as band

-- the address of the registration at a position
abbrev pub registration_of : FinalsState → (position : ℕ) → Addr
registration_of f position = record { 0 = slice_index_or f.registered position 0 }

-- a registration is left that was made before the flip and wasn't examined
abbrev pub IsOneDue : Running → Type 0
IsOneDue run = run.next < run.registered_before

abbrev pub IsNoneDue : Running → Type 0
IsNoneDue run = run.registered_before ≤ run.next

-- a collection after a registration was examined whose block was found
abbrev pub running_after_found : Running → Running
running_after_found run = record run { band = band.Final; next = run.next + 1 }

-- or whose block was white: there is one registration less
abbrev pub running_after_post : Running → Running
running_after_post run = record run { band = band.Final; registered_before = run.registered_before - 1 }

-- the block of a registration can be fixed, and isn't at null before or after. After it is kept there is room for the post
pub record CanExamine {F : Type 0} (layout : F → Layout) (formats : List (Option (Policy F))) (chains : ChainsState) (x : Traced)
    (at : Addr) : Type 0 where
  pub fix : CanFixAt layout formats chains x at
  pub leads : (y : Traced) (to : Addr) → FixesTo layout formats chains x at y to → 0 < to.0
  pub room : (y : Traced) (to : Addr) → KeepsTo layout formats chains x at y to → 0 < y.moves.spare

-- the next registration is there, and can be examined
pub record CanExamineNext {F : Type 0} (layout : F → Layout) (t : TraceState F) (s : SegsState) (m : Moves) (f : FinalsState)
    (run : Running) : Type 0 where
  pub listed : run.next < length f.registered
  pub can : CanExamine layout t.formats t.chains (traced t s m) (registration_of f run.next)

-- ---- vectors

abbrev two_registered : FinalsState
two_registered = record { registered = 8 ∷ 16 ∷ []; messages = [] }

pub the_second_registration : registration_of two_registered 1 ≡ record { 0 = 16 }
the_second_registration = refl

abbrev one_of_two : Running
one_of_two = record { band = band.Exact; cursor = record { 0 = 0 }; next = 1; registered_before = 2 }

pub after_the_second_is_found : running_after_found one_of_two
    ≡ record { band = band.Final; cursor = record { 0 = 0 }; next = 2; registered_before = 2 }
after_the_second_is_found = refl

pub after_the_second_is_posted : running_after_post one_of_two
    ≡ record { band = band.Final; cursor = record { 0 = 0 }; next = 1; registered_before = 1 }
after_the_second_is_posted = refl
