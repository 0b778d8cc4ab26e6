use Rattle.std.proofs.Common.{refl}
use Rattle.mps_line_words.specs.Name.{slot_from, slot_of}
use Rattle.mps_line_words.proofs.Headed.{first_read_by}
use Rattle.mps_line_words.proofs.slots.next_slot.Goals as goal

pub returns-clause-found : goal.returns-clause-found
returns-clause-found c =
    first_read_by slot_of refl c.args.bytes.now c.after_spaces.result.now c.after_spaces.ensures _ (λ p. slot_from p.0.now p.1)
    (λ p. p.2.now) _ (λ p h. (h.0, h.1)) c.slot_at.result c.slot_at.ensures
