use Rattle.std.proofs.Common.{rules}
use Rattle.mps_line_words.proofs.Heads.{reader_answers}
use Rattle.mps_line_words.proofs.head.parsed_long.Goals as goal

pub returns-clause-head : goal.returns-clause-head
returns-clause-head c = reader_answers c.args.text.now c.parse.result
    (search (rules, c.parse.type_inv)) c.parse.ensures.sound c.parse.ensures.complete
