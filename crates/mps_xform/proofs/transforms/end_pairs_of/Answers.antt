use Rattle.std.proofs.Common.{not, rules}
use Rattle.std.proofs.lemmas.Fn.{filter_same}
use Rattle.mps_xform.specs.State.{is_of}
use Rattle.mps_xform.proofs.transforms.end_pairs_of.Goals as goal

pub returns-clause-items : goal.returns-clause-items
returns-clause-items c = filter_same _ (λ p. not (is_of c.args.transform p)) _ (λ x b f' k. search rules) _ _ c.retain.ensures.filtered
