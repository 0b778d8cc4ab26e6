use Rattle.std.proofs.Common.{rules}
use Rattle.mps_heap_making.proofs.Dropping.{no_root, a_root}
use Rattle.mps_heap_making.proofs.making.drop_root.Goals as goal

pub returns-in_default : goal.returns-in_default
returns-in_default g c = no_root c.args.state.now c.args.name c.drop_kept.new.state (search rules) (search rules)

pub returns : goal.returns
returns g c =
    a_root c.args.state.now c.args.name c.in-Some.n c.drop_kept.new.state _ (search rules) (search rules) (search rules) (search rules)
