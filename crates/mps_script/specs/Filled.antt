-- Where the call of a line is written.
use Rattle.std.specs.Prelude.{◌≡◌, Bool, true, false, Option, Some, None, Result, Ok, Err, refl}
use Rattle.mps_model.specs.declared.call.Call.{Call}
use Rattle.mps_model.specs.declared.call.Call.TheVariants.{Live}
use Rattle.mps_script.specs.declared.line.BadLine.{BadLine}
pub use Rattle.mps_grammar.specs.Filled.{filled}

-- what a line has: the call that was written, if one was, or none, or the line is bad
abbrev pub found : Result Bool BadLine → Call → Result (Option Call) BadLine
found (Ok true) call = Ok (Some call)
found (Ok false) call = Ok None
found (Err bad) call = Err bad

pub a_line_with_a_call : found (Ok true) Live ≡ Ok (Some Live)
a_line_with_a_call = refl

pub a_line_without_a_call : found (Ok false) Live ≡ Ok None
a_line_without_a_call = refl
