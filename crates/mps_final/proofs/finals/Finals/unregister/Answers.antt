use Rattle.std.proofs.Common.{sym, ◌∙◌}
use Rattle.mps_final.proofs.Positions.{position_is_within}
use Rattle.mps_final.proofs.finals.Finals.unregister.Goals as goal

pub remove-requires : goal.remove-requires
remove-requires c = position_is_within _ c.args.at.0 c.in-Some.position (sym c.position_of.ensures ∙ c.in-Some.is)
