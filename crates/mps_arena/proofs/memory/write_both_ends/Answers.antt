use Rattle.std.proofs.Common.{ℕ, ◌-◌, ◌+◌, List, length, ap, ◌∙◌, arith}
use Rattle.mps_arena.specs.Arena.{cleared_words}
use Rattle.mps_arena.proofs.BothEnds.{cleared_from_both_ends}
use Rattle.mps_arena.proofs.Padded.{cleared_long}
use Rattle.mps_arena.proofs.memory.write_both_ends.Goals as goal

pub write_run-requires-2 : goal.write_run-requires-2
write_run-requires-2 c =
    let words = c.args.words.now in
    let long = ap (λ (ws : List ℕ). length ws) c.write_run.ensures
    ∙ cleared_long words c.args.from c.args.part (omega (arith, c.requires.within, c.requires.at_most)) in
    omega (arith, long, c.requires.within, c.requires.at_most)

pub returns : goal.returns
returns c =
    let from = c.args.from in
    let part = c.args.part in
    c.write_run-2.ensures ∙ ap (λ (ws : List ℕ). cleared_words ws (from + (c.args.count - part)) part) c.write_run.ensures
    ∙ cleared_from_both_ends c.args.words.now from c.args.count part c.requires.within c.requires.at_most c.requires.meet
