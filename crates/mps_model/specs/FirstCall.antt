-- The call that makes the arena. In a script it comes first, and once.
use Rattle.std.specs.Prelude.{◌≡◌, Bool, true, false, refl}
use Rattle.mps_model.specs.declared.call.Call.{Call}
use Rattle.mps_model.specs.declared.call.Call.TheVariants as call

-- whether it makes the arena
abbrev pub is_arena : Call → Bool
is_arena (call.Arena grains limit) = true
is_arena _ = false

pub an_arena : is_arena (call.Arena 1 0) ≡ true
an_arena = refl

pub another_call : is_arena call.Live ≡ false
another_call = refl
