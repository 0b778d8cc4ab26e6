-- What stays where it is over the steps of a collection.
use Rattle.std.specs.Prelude.{◌≡◌, ℕ, false, List}
use Rattle.mps_base.specs.Address.{Id}
use Rattle.mps_base.specs.Segment.{Segment}
use Rattle.mps_base.specs.declared.moves.Move.{Move}
use Rattle.mps_model.specs.Effect.{world_after_moves}
use Rattle.mps_model.specs.World.{World, address_of}
use Rattle.mps_abstract.specs.Collecting.{Collecting, Running, is_white_in}
use Rattle.mps_abstract.specs.Units.{IsUnit, GoesOn, Ends, BarrierDone}

-- what isn't white stays so, and where it is
pub record StaysInPlace (x y : Collecting) : Type 0 where
  pub not_white : (id : Id) → is_white_in x id ≡ false → is_white_in y id ≡ false
  pub in_place : (id : Id) → is_white_in x id ≡ false → address_of y.world id ≡ address_of x.world id

-- and where it is once the collection ended. What has no address then had none, so what is live stays live
abbrev pub EndsInPlace : Collecting → (after : World) → Type 0
EndsInPlace x after = (id : Id) → is_white_in x id ≡ false → address_of after id ≡ address_of x.world id

-- over a unit, over n of them, and to the end of the collection
abbrev pub AKeptObjectStays : Type 0
AKeptObjectStays =
    ((x y : Collecting) (ms : List Move) → Running x → IsUnit x ms y → StaysInPlace x y)
    × ((x y : Collecting) (count : ℕ) (ms : List Move) → Running x → GoesOn x count ms y → StaysInPlace x y)
    × ((x : Collecting) (count : ℕ) (ms : List Move) → Running x → Ends x count ms → EndsInPlace x (world_after_moves x.world ms))

-- and over a read barrier
abbrev pub AKeptObjectStaysAtABarrier : Type 0
AKeptObjectStaysAtABarrier = (s : Segment) (x y : Collecting) (ms : List Move) → Running x → BarrierDone s x ms y → StaysInPlace x y
