use Rattle.std.proofs.Common.{◌≡◌, drop, take, ap, sym, subst, ◌∙◌, ℕ, Ok}
use Rattle.std.specs.Prelude.{unwrap_or}
use Rattle.std.proofs.lemmas.Result.{err_from_is_err_and}
use Rattle.mps_log_reader.specs.Input.{Buffered}
use Rattle.mps_event.specs.KindSet.{bits_of}
use Rattle.mps_log_reader.specs.Left.{left_of}
use Rattle.mps_log_reader.specs.PutOut.{put_out}
use Rattle.mps_cnv.specs.Converting.{NextConverts}
use Rattle.mps_log_reader.proofs.PartPut.{grows_by, puts_part}
use Rattle.mps_log_reader.proofs.Stops.{handed_on}
use Rattle.mps_cnv.proofs.ReadFault.{next_breaks}
use Rattle.mps_cnv.proofs.Converting.{next_gives, next_stops}
use Rattle.mps_cnv.proofs.conversion.convert_next.Goals as goal

pub returns-in_err-size-clause-gives : goal.returns-in_err-size-clause-gives
returns-in_err-size-clause-gives g c =
    let p = err_from_is_err_and c.from_residual-in_err-size.result c.from_residual-in_err-size.ensures.1 in
    rw (p.1, p.2)
    (next_stops c.args.version (bits_of c.args.kinds) c.args.offset (g.D.Desk.outside c.args.desk.now) (g.D.Desk.outside c.fill.new.desk)
    (g.D.Desk.outside c.make_room.new.desk)
    c.args.input.now c.fill.new.self (left_of (g.D.Desk.outside c.make_room.new.desk) c.fill.new.self) c.args.output.now
    c.make_room.new.output c.convert_record.new.output _
    c.requires c.fill.ensures.read c.in_ok-make_room.ensures.flushed c.in_err-size.ensures.gives)

pub returns-clause-gives : goal.returns-clause-gives
returns-clause-gives g c =
    let after : c.take.new.self ≡ record c.fill.new.self { pending = drop (unwrap_or c.in_ok-size.size 0) c.fill.new.self.pending } =
    c.take.ensures ∙ ap (λ (n : ℕ). record c.fill.new.self { pending = drop n c.fill.new.self.pending }) c.unwrap_or.ensures in
    subst (λ (b : Buffered). NextConverts c.args.version (bits_of c.args.kinds) c.args.offset
    (left_of (g.D.Desk.outside c.args.desk.now) c.args.input.now) (left_of (g.D.Desk.outside c.make_room.new.desk) b)
    (put_out (g.D.Desk.outside c.args.desk.now) c.args.output.now)
    (put_out (g.D.Desk.outside c.make_room.new.desk) c.convert_record.new.output) (Ok c.in_ok-size.size))
    (sym after)
    (next_gives c.args.version (bits_of c.args.kinds) c.args.offset (g.D.Desk.outside c.args.desk.now) (g.D.Desk.outside c.fill.new.desk)
    (g.D.Desk.outside c.make_room.new.desk)
    c.args.input.now c.fill.new.self c.args.output.now c.make_room.new.output c.convert_record.new.output c.in_ok-size.size
    c.requires c.fill.ensures.read c.fill.ensures.enough c.in_ok-make_room.ensures.flushed c.make_room.ensures.input
    c.in_ok-size.ensures.gives)

pub returns-in_err-size-clause-broken : goal.returns-in_err-size-clause-broken
returns-in_err-size-clause-broken g c failed =
    let p = err_from_is_err_and c.from_residual-in_err-size.result c.from_residual-in_err-size.ensures.1 in
    next_breaks c.args.version (g.D.Desk.outside c.args.desk.now) (g.D.Desk.outside c.fill.new.desk) (g.D.Desk.outside c.make_room.new.desk)
    c.args.input.now c.fill.new.self c.args.output.now c.make_room.new.output c.convert_record.new.output
    c.fill.ensures.read c.in_ok-make_room.ensures.flushed c.make_room.ensures.input
    (c.in_err-size.ensures.broken (handed_on _ _ c.from_residual-in_err-size.result p.0 _ _ p.1 p.2 failed))

pub returns-in_err-make_room-clause-grows : goal.returns-in_err-make_room-clause-grows
returns-in_err-make_room-clause-grows g c =
    let p = c.in_err-make_room.ensures.part in
    grows_by (take p.count c.args.output.now) (g.D.Desk.outside c.args.desk.now).printed (g.D.Desk.outside c.fill.new.desk).printed
    (g.D.Desk.outside c.make_room.new.desk).printed
    c.fill.ensures.read.others.printed p.printed

pub returns-in_err-make_room-clause-cut : goal.returns-in_err-make_room-clause-cut
returns-in_err-make_room-clause-cut g c failed =
    puts_part (g.D.Desk.outside c.args.desk.now) (g.D.Desk.outside c.fill.new.desk)
    (g.D.Desk.outside c.make_room.new.desk) c.args.output.now c.fill.ensures.read.others.printed c.in_err-make_room.ensures.part

pub returns-in_err-size-clause-grows : goal.returns-in_err-size-clause-grows
returns-in_err-size-clause-grows g c =
    let k = c.in_ok-make_room.ensures.flushed in
    grows_by k.text (g.D.Desk.outside c.args.desk.now).printed (g.D.Desk.outside c.fill.new.desk).printed
    (g.D.Desk.outside c.make_room.new.desk).printed
    c.fill.ensures.read.others.printed k.printed.printed

pub returns-clause-grows : goal.returns-clause-grows
returns-clause-grows g c =
    let k = c.in_ok-make_room.ensures.flushed in
    grows_by k.text (g.D.Desk.outside c.args.desk.now).printed (g.D.Desk.outside c.fill.new.desk).printed
    (g.D.Desk.outside c.make_room.new.desk).printed
    c.fill.ensures.read.others.printed k.printed.printed
