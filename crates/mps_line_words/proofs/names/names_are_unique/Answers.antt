use Rattle.mps_line_words.proofs.Unique.{names_differ}
use Rattle.mps_line_words.proofs.names.names_are_unique.Goals as goal

pub returns : goal.returns
returns c = names_differ
