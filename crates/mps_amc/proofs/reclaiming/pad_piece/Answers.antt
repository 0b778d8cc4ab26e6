use Rattle.std.proofs.Common.{ℕ, get_or, ap, ◌∙◌, arith}
use Rattle.mps_base.specs.Address.{word_of}
use Rattle.mps_amc.proofs.Borrowed.{word_left, written, others_left}
use Rattle.mps_amc.proofs.reclaiming.pad_piece.Goals as goal

pub pad_first-requires-clause-whole : goal.pad_first-requires-clause-whole
pad_first-requires-clause-whole g c =
    c.words_from_mut-memory.ensures.complete c.args.words (omega (arith, c.requires.at_most)) c.requires.in_arena

pub returns-clause-head : goal.returns-clause-head
returns-clause-head g c =
    let at = word_of c.args.at.0 in
    let few = c.words_from_mut-memory.ensures.complete c.args.words (omega (arith, c.requires.at_most)) c.requires.in_arena in
    ap (λ (i : ℕ). get_or (written c.args.segs.now.words c.words_from_mut-memory.result.now c.pad_first.new.memory at
    c.words_from_mut-memory.ensures.value (omega (arith, c.requires.in_arena)) c.pad_first.auto.memory) i 0) (omega arith)
    ∙ word_left c.args.segs.now.words c.words_from_mut-memory.result.now c.pad_first.new.memory at
    c.words_from_mut-memory.ensures.value (omega (arith, c.requires.in_arena)) c.pad_first.auto.memory 0
    (omega (arith, few, c.requires.nonzero))
    ∙ c.pad_first.ensures.head

pub returns-clause-others : goal.returns-clause-others
returns-clause-others g c =
    others_left c.args.segs.now.words c.words_from_mut-memory.result.now c.pad_first.new.memory (word_of c.args.at.0)
    c.words_from_mut-memory.ensures.value (omega (arith, c.requires.in_arena)) c.pad_first.auto.memory c.args.words
    c.pad_first.ensures.rest
