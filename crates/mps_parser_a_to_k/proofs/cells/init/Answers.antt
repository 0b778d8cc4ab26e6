use Rattle.std.proofs.Common.{sym}
use Rattle.mps_line_words.specs.Word.{words}
use Rattle.mps_parser_a_to_k.proofs.Filling.{no_cell, of_number, of_reference, of_neither}
use Rattle.mps_parser_a_to_k.proofs.cells.init.Goals as goal

pub returns-in_err-cell : goal.returns-in_err-cell
returns-in_err-cell c =
    rw c.from_residual-in_err-cell.ensures
    (sym (no_cell (words c.args.arguments.now) _ _ c.in_ok-word.ensures.found c.in_err-cell.ensures))

pub returns-in_err-source-in-None : goal.returns-in_err-source-in-None
returns-in_err-source-in-None c =
    rw c.from_residual-in_err-source-in-None.ensures
    (of_neither (words c.args.arguments.now) _ _ c.in_ok-word.ensures.found _ _ c.in_ok-cell.ensures c.in-None.ensures
    c.in_err-source-in-None.ensures)

pub returns-in-Some : goal.returns-in-Some
returns-in-Some c =
    rw (c.name.ensures, c.new-point.ensures)
    (of_number (words c.args.arguments.now) _ _ c.in_ok-word.ensures.found _ _ c.in_ok-cell.ensures _ c.in-Some.ensures)

pub returns-in_ok-source-in-None : goal.returns-in_ok-source-in-None
returns-in_ok-source-in-None c =
    rw (c.name-in-None.ensures, c.new-point.ensures, c.slot-in-None.ensures)
    (of_reference (words c.args.arguments.now) _ _ c.in_ok-word.ensures.found _ _ c.in_ok-cell.ensures _ c.in-None.ensures
    c.in_ok-source-in-None.ensures)
