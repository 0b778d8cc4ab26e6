use Rattle.std.proofs.Common.{ℕ, ◌+◌, ◌<◌, List, length, ap, arith}
use Rattle.mps_base.specs.Address.{word_of}
use Rattle.mps_arena.specs.Arena.{ArenaMemory}
use Rattle.mps_arena.proofs.CellWritten.{cell_written}
use Rattle.mps_arena.proofs.arena.Arena.set_word_from.Goals as goal

pub bounds-memory-cell : goal.bounds-memory-cell
bounds-memory-cell c =
    let enough =
    c.words_from_mut-memory.ensures.complete (c.args.cell + 1) (omega (arith, c.requires.at_most)) (omega (arith, c.requires.inside))
    in
    omega (arith, enough)

pub returns : goal.returns
returns c =
    let loan = c.words_from_mut-memory.result.now in
    let enough =
    c.words_from_mut-memory.ensures.complete (c.args.cell + 1) (omega (arith, c.requires.at_most)) (omega (arith, c.requires.inside))
    in
    let few : c.args.cell < length loan = omega (arith, enough) in
    ap (λ (ws : List ℕ). let a : ArenaMemory = record c.args.self.now { words = ws } in a)
    (cell_written c.args.self.now.words loan (word_of c.args.at.0) c.words_from_mut-memory.ensures.value
    (omega (arith, c.requires.inside)) c.args.cell c.args.word few)
