use Rattle.std.proofs.Common.{arith}
use Rattle.mps_buffer.proofs.points.Points.reserve.Goals as goal

pub reserve_words-requires-clause-nonzero : goal.reserve_words-requires-clause-nonzero
reserve_words-requires-clause-nonzero g c =
    let sizes = (g.met.F.Format.lawful c.args.format.now).sizes c.args.head c.requires.accepted in
    omega (arith, sizes.0, c.words-words.ensures)

pub reserve_words-requires-clause-at_most : goal.reserve_words-requires-clause-at_most
reserve_words-requires-clause-at_most g c =
    let sizes = (g.met.F.Format.lawful c.args.format.now).sizes c.args.head c.requires.accepted in
    omega (arith, sizes.1, c.words-words.ensures)

pub returns-clause-value : goal.returns-clause-value
returns-clause-value g c = λ p is. rw (← c.words-words.ensures) (c.reserve_words.ensures.value p is)

pub returns-clause-state : goal.returns-clause-state
returns-clause-state g c = λ p is. rw (← c.words-words.ensures) (c.reserve_words.ensures.state p is)

pub returns-clause-points : goal.returns-clause-points
returns-clause-points g c = λ p is. rw (← c.words-words.ensures) (c.reserve_words.ensures.points p is)

pub returns-clause-moves : goal.returns-clause-moves
returns-clause-moves g c = λ p is. rw (← c.words-words.ensures) (c.reserve_words.ensures.moves p is)

pub returns-clause-at_hand : goal.returns-clause-at_hand
returns-clause-at_hand g c = λ p is copying. rw (← c.words-words.ensures) (c.reserve_words.ensures.at_hand p is copying)
