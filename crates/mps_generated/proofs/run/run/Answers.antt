use Rattle.std.proofs.Common.{◌≡◌, ◌∙◌, ℕ, List, [], ◌∷◌, length, take, true, ap, subst, sym, arith, inl, inr}
use Rattle.mps_desk.specs.Desk.{making}
use Rattle.mps_report.proofs.Logging.{takes_then, takes_of_logs, takes_of_part}
use Rattle.mps_report.specs.Streams.{appended}
use Rattle.mps_log_reader.proofs.Steady.{asks_then_nothing}
use Rattle.mps_run.specs.Leaving.{log_header}
use Rattle.mps_run.proofs.LogFile.{in_file}
use Rattle.mps_script.specs.Line.{lines_of}
use Rattle.mps_script.specs.Script.{is_grammatical}
use Rattle.mps_workload.specs.Script.{script}
use Rattle.mps_workload.proofs.Counted.{few_lines, some_lines}
use Rattle.mps_generated.specs.Run.{LeavesGenerated}
use Rattle.mps_generated.specs.Texts.{AreLineTexts, text_of}
use Rattle.mps_generated.proofs.Ends.{after_header, before_header, where_well}
use Rattle.mps_generated.proofs.Generated.{generated_is_grammatical}
use Rattle.mps_generated.proofs.Texts.{generated_texts}
use Rattle.mps_generated.proofs.run.run.Goals as goal

pub run_lines-requires-clause-texts : goal.run_lines-requires-clause-texts
run_lines-requires-clause-texts g c =
    subst AreLineTexts (sym c.new-lines.ensures) (generated_texts c.args.seed c.args.count (omega (arith, c.requires.few)))

pub run_lines-requires-clause-good : goal.run_lines-requires-clause-good
run_lines-requires-clause-good g c =
    subst (λ (ls : List (List ℕ)). is_grammatical (lines_of (text_of ls)) ≡ true) (sym c.new-lines.ensures)
    (generated_is_grammatical c.args.seed c.args.count (omega (arith, c.requires.few)))

pub run_lines-requires-clause-few : goal.run_lines-requires-clause-few
run_lines-requires-clause-few g c =
    omega (
      arith,
      c.requires.few,
      few_lines c.args.seed c.args.count,
      ap (λ (ls : List (List ℕ)). length ls) c.new-lines.ensures,
    )

pub run_lines-requires-clause-some : goal.run_lines-requires-clause-some
run_lines-requires-clause-some g c =
    omega (arith, some_lines c.args.seed c.args.count, ap (λ (ls : List (List ℕ)). length ls) c.new-lines.ensures)

-- ---- the log can't be made

pub returns-in_default-clause-leaves : goal.returns-in_default-clause-leaves
returns-in_default-clause-leaves g c =
    inl (before_header (g.D.Desk.outside c.args.desk.now) (g.D.Desk.outside c.create.new.self) c.create.ensures.others.printed
    c.create.ensures.logged)

pub returns-in_default-clause-filed : goal.returns-in_default-clause-filed
returns-in_default-clause-filed g c =
    inr (record { logged = c.create.ensures.logged; files = c.in_default.ensures.unchanged.files })

-- ---- its header can't be written

pub returns-in_default-log_header-clause-asked : goal.returns-in_default-log_header-clause-asked
returns-in_default-log_header-clause-asked g c =
    asks_then_nothing (g.D.Desk.outside c.args.desk.now) (g.D.Desk.outside c.create.new.self) (g.D.Desk.outside c.log_header.new.desk)
    (making c.args.log.now ∷ []) c.create.ensures.asked c.in_default-log_header.ensures.failed.others.asked

pub returns-in_default-log_header-clause-leaves : goal.returns-in_default-log_header-clause-leaves
returns-in_default-log_header-clause-leaves g c =
    let failed = c.in_default-log_header.ensures.failed in
    inl (record {
      printed = failed.others.printed ∙ c.create.ensures.others.printed;
      count = failed.count;
      logged = failed.logged ∙ ap (λ known. appended known (take failed.count log_header)) c.create.ensures.logged;
    })

pub returns-in_default-log_header-clause-filed : goal.returns-in_default-log_header-clause-filed
returns-in_default-log_header-clause-filed g c =
    inl (in_file c.args.log.now (g.D.Desk.outside c.args.desk.now) (g.D.Desk.outside c.create.new.self)
    (g.D.Desk.outside c.log_header.new.desk) c.create.ensures.logged c.in-Ok.ensures.made
    (takes_of_part _ _ _ c.in_default-log_header.ensures.failed))

-- ---- the lines are run

pub returns-clause-asked : goal.returns-clause-asked
returns-clause-asked g c =
    asks_then_nothing (g.D.Desk.outside c.args.desk.now) (g.D.Desk.outside c.create.new.self) (g.D.Desk.outside c.run_lines.new.desk)
    (making c.args.log.now ∷ []) c.create.ensures.asked
    (c.run_lines.ensures.takes.asked ∙ c.in-Ok-log_header.ensures.logged.others.asked)

pub returns-clause-leaves : goal.returns-clause-leaves
returns-clause-leaves g c =
    let logs = c.in-Ok-log_header.ensures.logged in
    inr (after_header g.C.Commands.takes_memory c.run_lines.result (script c.args.seed c.args.count) (g.D.Desk.outside c.args.desk.now)
    (g.D.Desk.outside c.log_header.new.desk) (g.D.Desk.outside c.run_lines.new.desk)
    (logs.others.printed ∙ c.create.ensures.others.printed)
    (logs.logged ∙ ap (λ known. appended known log_header) c.create.ensures.logged)
    (subst (λ (ls : List (List ℕ)). LeavesGenerated g.C.Commands.takes_memory c.run_lines.result [] (text_of ls)
    (g.D.Desk.outside c.log_header.new.desk) (g.D.Desk.outside c.run_lines.new.desk)) c.new-lines.ensures c.run_lines.ensures.leaves))

pub returns-clause-steady : goal.returns-clause-steady
returns-clause-steady g c =
    let logs = c.in-Ok-log_header.ensures.logged in
    where_well c.run_lines.result
    (λ steady. record {
      in_faults = steady.in_faults ∙ (logs.others.in_faults ∙ c.create.ensures.others.in_faults);
      log_faults = steady.log_faults ∙ (logs.steady ∙ c.in-Ok.ensures.steady);
      out_faults = steady.out_faults ∙ (logs.others.out_faults ∙ c.create.ensures.others.out_faults);
    })
    c.run_lines.ensures.steady

pub returns-clause-in_file : goal.returns-clause-in_file
returns-clause-in_file g c =
    where_well c.run_lines.result
    (λ steady.
    in_file c.args.log.now (g.D.Desk.outside c.args.desk.now) (g.D.Desk.outside c.create.new.self)
    (g.D.Desk.outside c.run_lines.new.desk) c.create.ensures.logged c.in-Ok.ensures.made
    (takes_then _ _ _ (takes_of_logs _ _ _ c.in-Ok-log_header.ensures.logged) c.run_lines.ensures.takes))
    c.run_lines.ensures.steady

pub returns-clause-filed : goal.returns-clause-filed
returns-clause-filed g c =
    inl (in_file c.args.log.now (g.D.Desk.outside c.args.desk.now) (g.D.Desk.outside c.create.new.self)
    (g.D.Desk.outside c.run_lines.new.desk) c.create.ensures.logged c.in-Ok.ensures.made
    (takes_then _ _ _ (takes_of_logs _ _ _ c.in-Ok-log_header.ensures.logged) c.run_lines.ensures.takes))
