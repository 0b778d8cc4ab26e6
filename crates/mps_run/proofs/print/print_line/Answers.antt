use Rattle.std.proofs.Common.{◌+◌, ◌++◌, ℕ, List, take, sym, ap, ◌∙◌}
use Rattle.std.proofs.lemmas.List.{take_rest}
use Rattle.std.proofs.Math.Seq.{take-add}
use Rattle.mps_report.specs.Streams.{Prints}
use Rattle.mps_report.proofs.Outside.{part_after_front}
use Rattle.mps_run.proofs.Records.{error_then}
use Rattle.mps_run.proofs.print.print_line.Goals as goal

pub returns-clause-failed : goal.returns-clause-failed
returns-clause-failed g c =
    let outside = g.D.Desk.outside in
    let line = c.args.line.now in
    let count = c.in-Ok.count in
    let front : Prints (outside c.args.desk.now) (outside c.out.new.self) (take count line) =
    record { printed = c.in-Ok.ensures.printed; steady = c.in-Ok.ensures.steady; others = c.in-Ok.ensures.others } in
    error_then c.print_all.result c.print_all.ensures.failed
    (λ part. part_after_front _ _ _ (take count line) _ line (count + part.count) front part
    (ap (λ (rest : List ℕ). take count line ++ take part.count rest) (take_rest line count) ∙ sym (take-add count part.count line)))
