use Rattle.std.proofs.Common.{◌≡◌, ◌-◌, ◌++◌, ℕ, List, length, take, drop, ap, subst, ◌∙◌}
use Rattle.std.proofs.lemmas.List.{take_rest, take-append-drop}
use Rattle.mps_report.specs.Streams.{Logs, LogsPart}
use Rattle.mps_report.proofs.Logging.{logs_none, logs_then, part_logged, part_of_second}
use Rattle.mps_run.proofs.Records.{ok_then, error_then}
use Rattle.mps_run.proofs.log.log_piece.Goals as goal

-- what was taken, and the rest after it
whole : (piece : List ℕ) (count : ℕ) → take count piece ++ take (length piece - count) (drop count piece) ≡ piece
whole piece count = ap (λ (rest : List ℕ). take count piece ++ rest) (take_rest piece count) ∙ take-append-drop count piece

pub returns-in_default-clause-failed : goal.returns-in_default-clause-failed
returns-in_default-clause-failed g c =
    part_logged _ _ _ c.args.piece.now 0 (logs_none (g.D.Desk.outside c.args.desk.now)) c.in_default.ensures.unchanged
    c.in_default.ensures.files.files c.in_default.ensures.counted c.in_default.ensures.others c.in_default.ensures.cause

pub returns-clause-logged : goal.returns-clause-logged
returns-clause-logged g c =
    let outside = g.D.Desk.outside in
    let piece = c.args.piece.now in
    let count = c.in-Ok.count in
    let taken : Logs (outside c.args.desk.now) (outside c.log.new.self) (take count piece) =
    record {
      logged = c.in-Ok.ensures.logged;
      filed = c.in-Ok.ensures.filed;
      steady = c.in-Ok.ensures.steady;
      others = c.in-Ok.ensures.others;
    }
    in
    ok_then c.log_all.result c.log_all.ensures.logged
    (λ rest. subst (λ (p : List ℕ). Logs (outside c.args.desk.now) (outside c.log_all.new.desk) p) (whole piece count)
    (logs_then _ _ _ (take count piece) _ taken rest))

pub returns-clause-failed : goal.returns-clause-failed
returns-clause-failed g c =
    let outside = g.D.Desk.outside in
    let piece = c.args.piece.now in
    let count = c.in-Ok.count in
    let taken : Logs (outside c.args.desk.now) (outside c.log.new.self) (take count piece) =
    record {
      logged = c.in-Ok.ensures.logged;
      filed = c.in-Ok.ensures.filed;
      steady = c.in-Ok.ensures.steady;
      others = c.in-Ok.ensures.others;
    }
    in
    error_then c.log_all.result c.log_all.ensures.failed
    (λ part. subst (λ (p : List ℕ). LogsPart (outside c.args.desk.now) (outside c.log_all.new.desk) p) (whole piece count)
    (part_of_second _ _ _ (take count piece) _ taken part))
