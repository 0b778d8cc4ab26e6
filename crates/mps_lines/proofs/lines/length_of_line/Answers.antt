use Rattle.std.proofs.Common.{◌∙◌}
use Rattle.mps_line_words.specs.Lines.{is_line_feed}
use Rattle.mps_lines.proofs.Searches.{before_first}
use Rattle.mps_lines.proofs.lines.length_of_line.Goals as goal

pub returns-clause-length : goal.returns-clause-length
returns-clause-length c = c.unwrap_or.ensures ∙ before_first is_line_feed c.args.bytes.now c.memchr.result c.memchr.ensures
