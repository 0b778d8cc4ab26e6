use Rattle.std.proofs.Common.{◌≡◌, drop, take, ap, sym, subst, ◌∙◌, ℕ, Ok, Bool}
use Rattle.std.specs.Prelude.{unwrap_or}
use Rattle.std.proofs.lemmas.Result.{err_from_is_err_and}
use Rattle.mps_log_reader.specs.Input.{Buffered}
use Rattle.mps_log_reader.proofs.PartPut.{grows_by, puts_part}
use Rattle.mps_txt.specs.TextSteps.{progress, NextGives}
use Rattle.mps_txt.proofs.NextLine.{next_line, next_stops}
use Rattle.mps_txt.proofs.text_reader.read_next.Goals as goal

pub returns-in_err-size-clause-gives : goal.returns-in_err-size-clause-gives
returns-in_err-size-clause-gives g c =
    let p = err_from_is_err_and c.from_residual-in_err-size.result c.from_residual-in_err-size.ensures.1 in
    rw (p.1, p.2)
    (next_stops (g.D.Desk.outside c.args.desk.now) (g.D.Desk.outside c.fill.new.desk) (g.D.Desk.outside c.make_room.new.desk)
    c.args.input.now c.fill.new.self c.args.output.now c.make_room.new.output
    (record {
      at_end = c.requires;
      reads = c.fill.ensures.read;
      enough = c.fill.ensures.enough;
      kept = c.in_ok-make_room.ensures.flushed;
      input = c.make_room.ensures.input;
    })
    c.args.version c.args.number c.args.labels.now c.read_line.new.labels c.fill.new.self c.read_line.new.output _
    c.in_err-size.ensures.gives)

pub returns-clause-gives : goal.returns-clause-gives
returns-clause-gives g c =
    let room = g.D.Desk.outside c.make_room.new.desk in
    let old = progress c.args.labels.now (g.D.Desk.outside c.args.desk.now) c.args.input.now c.args.output.now in
    let after : c.take.new.self ≡ record c.fill.new.self { pending = drop (unwrap_or c.in_ok-size.size 0) c.fill.new.self.pending } =
    c.take.ensures ∙ ap (λ (n : ℕ). record c.fill.new.self { pending = drop n c.fill.new.self.pending }) c.unwrap_or.ensures in
    subst (λ (b : Buffered). NextGives c.args.version c.args.number old
    (progress c.read_line.new.labels room b c.read_line.new.output) room.input (Ok c.is_some.result)) (sym after)
    (subst (λ (some : Bool). NextGives c.args.version c.args.number old
    (progress c.read_line.new.labels room
    (record c.fill.new.self { pending = drop (unwrap_or c.in_ok-size.size 0) c.fill.new.self.pending }) c.read_line.new.output)
    room.input (Ok some))
    (sym c.is_some.ensures)
    (next_line (g.D.Desk.outside c.args.desk.now)
    (g.D.Desk.outside c.fill.new.desk) room c.args.input.now c.fill.new.self c.args.output.now c.make_room.new.output
    (record {
      at_end = c.requires;
      reads = c.fill.ensures.read;
      enough = c.fill.ensures.enough;
      kept = c.in_ok-make_room.ensures.flushed;
      input = c.make_room.ensures.input;
    })
    c.args.version c.args.number c.args.labels.now c.read_line.new.labels c.read_line.new.output c.in_ok-size.size
    c.in_ok-size.ensures.gives))

pub returns-in_err-make_room-clause-grows : goal.returns-in_err-make_room-clause-grows
returns-in_err-make_room-clause-grows g c =
    let p = c.in_err-make_room.ensures.part in
    grows_by (take p.count c.args.output.now) (g.D.Desk.outside c.args.desk.now).printed (g.D.Desk.outside c.fill.new.desk).printed
    (g.D.Desk.outside c.make_room.new.desk).printed
    c.fill.ensures.read.others.printed p.printed

pub returns-in_err-make_room-clause-cut : goal.returns-in_err-make_room-clause-cut
returns-in_err-make_room-clause-cut g c failed =
    puts_part (g.D.Desk.outside c.args.desk.now) (g.D.Desk.outside c.fill.new.desk)
    (g.D.Desk.outside c.make_room.new.desk) c.args.output.now c.fill.ensures.read.others.printed c.in_err-make_room.ensures.part

pub returns-in_err-size-clause-grows : goal.returns-in_err-size-clause-grows
returns-in_err-size-clause-grows g c =
    let k = c.in_ok-make_room.ensures.flushed in
    grows_by k.text (g.D.Desk.outside c.args.desk.now).printed (g.D.Desk.outside c.fill.new.desk).printed
    (g.D.Desk.outside c.make_room.new.desk).printed
    c.fill.ensures.read.others.printed k.printed.printed

pub returns-clause-grows : goal.returns-clause-grows
returns-clause-grows g c =
    let k = c.in_ok-make_room.ensures.flushed in
    grows_by k.text (g.D.Desk.outside c.args.desk.now).printed (g.D.Desk.outside c.fill.new.desk).printed
    (g.D.Desk.outside c.make_room.new.desk).printed
    c.fill.ensures.read.others.printed k.printed.printed
