use Rattle.std.proofs.Common.{◌<◌, length, get_or, sym, ap, ◌∙◌, arith}
use Rattle.mps_arena.specs.Memory.{StoredWords}
use Rattle.mps_arena.proofs.Padded.{padded_within}
use Rattle.std.proofs.lemmas.Grind.{get_or_default_zero}
use Rattle.mps_arena.proofs.memory.Memory.stored_word.Goals as goal

pub returns : goal.returns
returns c =
    let inside = c.self.inside in
    let within : c.args.word < length inside.stored.items =
    omega (arith, c.requires, ap (λ (m : StoredWords). m.stored) c.self.view_is)
    in
    c.index.ensures ∙ get_or_default_zero inside.stored.items c.args.word c.index.result.now within
    ∙ sym (padded_within inside.size inside.stored.items c.args.word within)
    ∙ ap (λ (m : StoredWords). get_or m.words c.args.word 0) c.self.view_is
