-- Where the call of a command is written.
use Rattle.std.specs.Prelude.{◌≡◌, Option, Some, None, ⊤, refl}
use Rattle.mps_model.specs.declared.call.Call.{Call}
use Rattle.mps_model.specs.declared.call.Call.TheVariants.{Live}

-- the call that was written, if one was
abbrev pub filled : Option ⊤ → Call → Option Call
filled (Some done) call = Some call
filled None call = None

pub a_written_call : filled (Some tt) Live ≡ Some Live
a_written_call = refl

pub no_call_was_written : filled None Live ≡ None
no_call_was_written = refl
