use Rattle.std.proofs.Common.{ap, ◌∙◌, arith}
use Rattle.mps_arena.specs.Memory.{StoredWords, with_stored_word}
use Rattle.mps_arena.proofs.Padded.{state_set}
use Rattle.mps_arena.proofs.memory.Memory.set_word.Goals as goal

pub returns-then-word-len : goal.returns-then-word-len
returns-then-word-len c =
    let inside = c.self.inside in
    state_set inside.size inside.stored.items c.args.word c.args.value
    (omega (arith, c.if-word-len.true, c.len.ensures, inside.stored.ok.0))
    ∙ ap (λ (m : StoredWords). with_stored_word m c.args.word c.args.value) c.self.view_is
