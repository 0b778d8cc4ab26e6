use Rattle.std.proofs.Common.{ap, ◌∙◌, arith}
use Rattle.std.specs.Prelude.{slice_set}
use Rattle.mps_arena.specs.Memory.{StoredWords}
use Rattle.mps_arena.proofs.Padded.{state_set_stored}
use Rattle.mps_arena.proofs.memory.Memory.set_stored_word.Goals as goal

pub returns : goal.returns
returns c =
    let inside = c.self.inside in
    state_set_stored inside.size inside.stored.items c.args.word c.args.value
    (omega (arith, c.requires, ap (λ (m : StoredWords). m.stored) c.self.view_is))
    ∙ ap (λ (m : StoredWords). record m { words = slice_set m.words c.args.word c.args.value }) c.self.view_is
