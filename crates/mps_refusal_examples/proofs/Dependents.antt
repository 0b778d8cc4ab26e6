use Rattle.std.proofs.Common.{refl}
use Rattle.mps_refusal_examples.specs.Dependents.{DependentsAnswer}

pub dependents_answer : DependentsAnswer
dependents_answer = record { depend = refl; depend_where_full = refl; depend_again_where_full = refl; undepend = refl }
