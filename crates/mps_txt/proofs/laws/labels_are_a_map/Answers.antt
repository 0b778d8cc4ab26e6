use Rattle.mps_txt.proofs.AscendingLabels.{found_with, found_without, found_moved, reached_ascends}
use Rattle.mps_txt.proofs.laws.labels_are_a_map.Goals as goal

pub returns-clause-labelled : goal.returns-clause-labelled
returns-clause-labelled c = λ s address id other. found_with s.labels address id other

pub returns-clause-unlabelled : goal.returns-clause-unlabelled
returns-clause-unlabelled c = λ s h address other. found_without s.labels address other (reached_ascends s h)

pub returns-clause-moved : goal.returns-clause-moved
returns-clause-moved c = λ s h from to other. found_moved s from to other (reached_ascends s h)
