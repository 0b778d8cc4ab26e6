use Rattle.std.proofs.Common.{◌≡◌, option_map, length}
use Rattle.std.specs.Int.RustNames.{bit_or}
use denote.Text.{Utf8}
use denote.Shadow.{shadow}
use Rattle.mps_event.specs.KindSet.{bits_of}
use Rattle.mps_args.specs.Kinds.{kinds_named}
use Rattle.mps_args.proofs.words.kinds_of.Given as goal

abbrev pub invariant-loop-name : goal.invariant-loop-name
invariant-loop-name l = shadow (Utf8 l.rest) × (option_map (bit_or (bits_of l.kinds)) (kinds_named l.rest) ≡ kinds_named l.text)

abbrev pub decreases-loop-name : goal.decreases-loop-name
decreases-loop-name l = length l.rest
