use Rattle.std.proofs.Common.{refl}
use Rattle.mps_line_words.specs.Name.{name_from, name_of}
use Rattle.mps_line_words.proofs.Headed.{first_read_by}
use Rattle.mps_line_words.proofs.names.next_name.Goals as goal

pub returns-clause-found : goal.returns-clause-found
returns-clause-found c =
    first_read_by name_of refl c.args.bytes.now c.after_spaces.result.now c.after_spaces.ensures _ (λ p. name_from p.0.now) (λ p. p.1.now)
    _ (λ p h. (h.0, h.1)) c.name_at.result c.name_at.ensures
