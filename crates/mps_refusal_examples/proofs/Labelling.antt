use Rattle.std.proofs.Common.{refl}
use Rattle.mps_refusal_examples.specs.Labelling.{TagsAnswer, LabelsAnswer}

pub tags_answer : TagsAnswer
tags_answer = record { settag = refl; tag = refl }

pub labels_answer : LabelsAnswer
labels_answer = record { intern_where_full = refl; intern_where_one_is_left = refl; label = refl }
