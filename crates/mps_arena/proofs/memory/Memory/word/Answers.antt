use Rattle.std.proofs.Common.{◌<◌, length, get_or, sym, ap, ◌∙◌, arith}
use Rattle.mps_arena.specs.Memory.{StoredWords}
use Rattle.mps_arena.proofs.Padded.{padded_within, padded_past}
use Rattle.std.proofs.lemmas.Grind.{get_or_default_zero}
use Rattle.mps_arena.proofs.memory.Memory.word.Goals as goal

pub returns-then-word-len : goal.returns-then-word-len
returns-then-word-len c =
    let inside = c.self.inside in
    let inside_stored : c.args.word < length inside.stored.items =
    omega (arith, c.if-word-len.true, c.len.ensures, inside.stored.ok.0)
    in
    c.index.ensures ∙ get_or_default_zero inside.stored.items c.args.word c.index.result.now inside_stored
    ∙ sym (padded_within inside.size inside.stored.items c.args.word inside_stored)
    ∙ ap (λ (m : StoredWords). get_or m.words c.args.word 0) c.self.view_is

pub returns-else-word-len : goal.returns-else-word-len
returns-else-word-len c =
    let inside = c.self.inside in
    sym (
    ap (λ (m : StoredWords). get_or m.words c.args.word 0) (sym c.self.view_is)
    ∙ padded_past inside.size inside.stored.items c.args.word (omega (arith, c.if-word-len.false, c.len.ensures, inside.stored.ok.0))
    )
