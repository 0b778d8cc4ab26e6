use Rattle.mps_log_reader.specs.declared.bad_log.BadLog.{BadLog}
use Rattle.std.proofs.Common.{◌∙◌, ◌+◌, ◌++◌, ℕ, List, Option, Ok, refl, sym, ap, subst, arith}
use Rattle.std.specs.Option.{option_map}
use Rattle.std.proofs.lemmas.Result.{err_from_is_err_and}
use Rattle.mps_log_reader.specs.Causes.{WorksOnInput}
use Rattle.mps_event.specs.KindSet.{bits_of}
use Rattle.mps_log_reader.specs.Input.{Buffered, IsAtEnd}
use Rattle.mps_log_reader.specs.Left.{left_of}
use Rattle.mps_log_reader.specs.PutOut.{put_out}
use Rattle.mps_log_reader.proofs.Causes.{works-then, works_value}
use Rattle.mps_log_reader.proofs.PartPut.{grows_none, grows_then}
use Rattle.mps_log_reader.proofs.Stops.{not_at_the_end, handed_on}
use Rattle.mps_cnv.proofs.WriteFault.{records_cut}
use Rattle.mps_cnv.proofs.ReadFault.{front_breaks, last_breaks}
use Rattle.mps_cnv.proofs.Converting.{SoFar, one_more, all_read, all_stop, all_counted}
use Rattle.mps_cnv.proofs.Skipping.{works_taken, skipped_more}
use Rattle.mps_cnv.proofs.conversion.convert_records.Goals as goal

pub loop-count-preserved : goal.loop-count-preserved
loop-count-preserved g c =
    let now = g.D.Desk.outside c.convert_next.new.desk in
    let works : WorksOnInput {T = Unit {0}} {E = BadLog} (g.D.Desk.outside c.args.desk.now)
    (g.D.Desk.outside c.loop-count.desk) c.args.input.now c.loop-count.input (Ok tt) = c.loop-count.invariant.works in
    let next = rw c.in-Some.is at c.in_ok-convert_next.ensures.gives in
    let step = c.in_ok-convert_next.ensures.works in
    let taken = c.skip_unwanted-skipped.ensures.taken in
    record {
      works = works_taken (g.D.Desk.outside c.args.desk.now) now c.args.input.now c.convert_next.new.input c.skip_unwanted-skipped.new.input
          _ taken (works-then _ _ _ _ _ _ tt (Ok tt) works (works_value _ _ _ _ _ tt step));
      counted = omega (arith, c.skip_unwanted-skipped.ensures.at_most, c.most_to_skip.ensures, c.loop-count-test.true);
      offset = let size = rw c.in-Some.is at c.in_ok-convert_next.ensures.size in
          omega (arith, size, c.loop-count.invariant.offset, c.skip_unwanted-skipped.ensures.size);
      reported = c.in_ok-convert_next.ensures.reported ∙ c.loop-count.invariant.reported;
      err_faults = c.in_ok-convert_next.ensures.err_faults ∙ c.loop-count.invariant.err_faults;
      at_end = subst (λ (b : Buffered). IsAtEnd now b) (sym taken) c.in_ok-convert_next.ensures.at_end;
      grows = grows_then (g.D.Desk.outside c.args.desk.now).printed (g.D.Desk.outside c.loop-count.desk).printed
          now.printed c.loop-count.invariant.grows c.convert_next.ensures.grows;
      so_far = subst (λ (b : Buffered). SoFar c.args.version (bits_of c.args.kinds)
          ((c.loop-count.count + 1) + c.skip_unwanted-skipped.result.count)
          ((c.loop-count.offset + c.in-Some.size) + c.skip_unwanted-skipped.result.size)
          (left_of (g.D.Desk.outside c.args.desk.now) c.args.input.now) (left_of now b)
          (put_out (g.D.Desk.outside c.args.desk.now) c.args.output.now) (put_out now c.convert_next.new.output)) (sym taken)
          (skipped_more c.args.version (bits_of c.args.kinds) (c.loop-count.count + 1) (c.loop-count.offset + c.in-Some.size)
          c.skip_unwanted-skipped.result.count c.skip_unwanted-skipped.result.size c.convert_next.new.input.pending
          (left_of (g.D.Desk.outside c.args.desk.now) c.args.input.now) (left_of now c.convert_next.new.input) now.input
          (put_out (g.D.Desk.outside c.args.desk.now) c.args.output.now) (put_out now c.convert_next.new.output)
          (one_more c.args.version (bits_of c.args.kinds) c.loop-count.count c.loop-count.offset c.in-Some.size
          (left_of (g.D.Desk.outside c.args.desk.now) c.args.input.now) (left_of (g.D.Desk.outside c.loop-count.desk) c.loop-count.input)
          (left_of now c.convert_next.new.input)
          (put_out (g.D.Desk.outside c.args.desk.now) c.args.output.now)
          (put_out (g.D.Desk.outside c.loop-count.desk) c.loop-count.output) (put_out now c.convert_next.new.output)
          c.loop-count.invariant.so_far next) refl c.skip_unwanted-skipped.ensures.skipped);
    }

pub returns-in_err-convert_next-clause-broken : goal.returns-in_err-convert_next-clause-broken
returns-in_err-convert_next-clause-broken g c failed bytes known =
    let p = err_from_is_err_and c.from_residual.result c.from_residual.ensures.1 in
    front_breaks c.args.version (bits_of c.args.kinds) c.loop-count.count c.loop-count.offset
    (left_of (g.D.Desk.outside c.args.desk.now) c.args.input.now) (left_of (g.D.Desk.outside c.loop-count.desk) c.loop-count.input)
    (g.D.Desk.outside c.convert_next.new.desk).input
    (put_out (g.D.Desk.outside c.args.desk.now) c.args.output.now) (put_out (g.D.Desk.outside c.loop-count.desk) c.loop-count.output)
    (put_out (g.D.Desk.outside c.convert_next.new.desk) c.convert_next.new.output)
    bytes (omega (arith, c.loop-count-test.true)) c.loop-count.invariant.so_far
    (c.in_err-convert_next.ensures.broken (handed_on _ _ c.from_residual.result p.0 _ _ p.1 p.2 failed)) known

pub returns-clause-broken : goal.returns-clause-broken
returns-clause-broken g c failed bytes known =
    front_breaks c.args.version (bits_of c.args.kinds) c.loop-count.count c.loop-count.offset
    (left_of (g.D.Desk.outside c.args.desk.now) c.args.input.now) (left_of (g.D.Desk.outside c.loop-count.desk) c.loop-count.input)
    (g.D.Desk.outside c.after_the_last.new.desk).input
    (put_out (g.D.Desk.outside c.args.desk.now) c.args.output.now) (put_out (g.D.Desk.outside c.loop-count.desk) c.loop-count.output)
    (put_out (g.D.Desk.outside c.after_the_last.new.desk) c.loop-count.output)
    bytes (omega (arith, c.loop-count-test.false, c.loop-count.invariant.counted)) c.loop-count.invariant.so_far
    (last_breaks c.args.version (left_of (g.D.Desk.outside c.loop-count.desk) c.loop-count.input)
    (g.D.Desk.outside c.after_the_last.new.desk).input
    (put_out (g.D.Desk.outside c.loop-count.desk) c.loop-count.output)
    (put_out (g.D.Desk.outside c.after_the_last.new.desk) c.loop-count.output)
    (c.after_the_last.ensures.unread failed) (ap
    (λ (o : Option (List ℕ)). option_map (λ printed. printed ++ c.loop-count.output) o) c.after_the_last.ensures.printed)) known

pub returns-in_err-convert_next-clause-grows : goal.returns-in_err-convert_next-clause-grows
returns-in_err-convert_next-clause-grows g c =
    grows_then (g.D.Desk.outside c.args.desk.now).printed (g.D.Desk.outside c.loop-count.desk).printed
    (g.D.Desk.outside c.convert_next.new.desk).printed c.loop-count.invariant.grows c.convert_next.ensures.grows

pub returns-in-None-clause-grows : goal.returns-in-None-clause-grows
returns-in-None-clause-grows g c =
    grows_then (g.D.Desk.outside c.args.desk.now).printed (g.D.Desk.outside c.loop-count.desk).printed
    (g.D.Desk.outside c.convert_next.new.desk).printed c.loop-count.invariant.grows c.convert_next.ensures.grows

pub returns-clause-grows : goal.returns-clause-grows
returns-clause-grows g c =
    grows_then (g.D.Desk.outside c.args.desk.now).printed (g.D.Desk.outside c.loop-count.desk).printed
    (g.D.Desk.outside c.after_the_last.new.desk).printed c.loop-count.invariant.grows
    (grows_none (g.D.Desk.outside c.loop-count.desk).printed
    (g.D.Desk.outside c.after_the_last.new.desk).printed c.after_the_last.ensures.printed)

pub returns-in_err-convert_next-clause-cut : goal.returns-in_err-convert_next-clause-cut
returns-in_err-convert_next-clause-cut g c failed bytes known =
    let p = err_from_is_err_and c.from_residual.result c.from_residual.ensures.1 in
    records_cut c.args.version (bits_of c.args.kinds) c.loop-count.count c.loop-count.offset
    (left_of (g.D.Desk.outside c.args.desk.now) c.args.input.now) (left_of (g.D.Desk.outside c.loop-count.desk) c.loop-count.input)
    (g.D.Desk.outside c.args.desk.now) (g.D.Desk.outside c.loop-count.desk)
    (g.D.Desk.outside c.convert_next.new.desk) c.args.output.now c.loop-count.output bytes
    (omega (arith, c.loop-count-test.true)) c.loop-count.invariant.so_far c.loop-count.invariant.grows
    (c.in_err-convert_next.ensures.cut (handed_on _ _ c.from_residual.result p.0 _ _ p.1 p.2 failed)) known

pub returns-clause-cut : goal.returns-clause-cut
returns-clause-cut g c failed bytes known =
    not_at_the_end _ (left_of (g.D.Desk.outside c.loop-count.desk) c.loop-count.input) c.after_the_last.result
    (c.after_the_last.ensures.gives c.loop-count.invariant.at_end) failed

pub returns-in_err-convert_next-clause-all : goal.returns-in_err-convert_next-clause-all
returns-in_err-convert_next-clause-all g c bytes known =
    let p = err_from_is_err_and c.from_residual.result c.from_residual.ensures.1 in
    rw (p.1, p.2)
    (all_stop c.args.version (bits_of c.args.kinds) c.loop-count.count c.loop-count.offset
    (left_of (g.D.Desk.outside c.args.desk.now) c.args.input.now) (left_of (g.D.Desk.outside c.loop-count.desk) c.loop-count.input)
    (put_out (g.D.Desk.outside c.args.desk.now) c.args.output.now) (put_out (g.D.Desk.outside c.loop-count.desk) c.loop-count.output) bytes
    (left_of (g.D.Desk.outside c.convert_next.new.desk) c.convert_next.new.input)
    (put_out (g.D.Desk.outside c.convert_next.new.desk) c.convert_next.new.output) _
    (omega (arith, c.loop-count-test.true)) c.loop-count.invariant.so_far c.in_err-convert_next.ensures.gives known)

pub returns-in-None-clause-all : goal.returns-in-None-clause-all
returns-in-None-clause-all g c bytes known =
    let next = rw c.in-None.is at c.in_ok-convert_next.ensures.gives in
    all_read c.args.version (bits_of c.args.kinds) c.loop-count.count c.loop-count.offset
    (left_of (g.D.Desk.outside c.args.desk.now) c.args.input.now) (left_of (g.D.Desk.outside c.loop-count.desk) c.loop-count.input)
    (put_out (g.D.Desk.outside c.args.desk.now) c.args.output.now) (put_out (g.D.Desk.outside c.loop-count.desk) c.loop-count.output) bytes
    (left_of (g.D.Desk.outside c.convert_next.new.desk) c.convert_next.new.input)
    (put_out (g.D.Desk.outside c.convert_next.new.desk) c.convert_next.new.output)
    (omega (arith, c.loop-count-test.true)) c.loop-count.invariant.so_far next known

pub returns-clause-all : goal.returns-clause-all
returns-clause-all g c bytes known =
    let printed = ap (λ (o : Option (List ℕ)). option_map (λ printed. printed ++ c.loop-count.output) o) c.after_the_last.ensures.printed in
    rw printed
    (all_counted c.args.version (bits_of c.args.kinds) c.loop-count.count c.loop-count.offset
    (left_of (g.D.Desk.outside c.args.desk.now) c.args.input.now) (left_of (g.D.Desk.outside c.loop-count.desk) c.loop-count.input)
    (put_out (g.D.Desk.outside c.args.desk.now) c.args.output.now) (put_out (g.D.Desk.outside c.loop-count.desk) c.loop-count.output) bytes
    c.after_the_last.result (omega (arith, c.loop-count-test.false, c.loop-count.invariant.counted)) c.loop-count.invariant.so_far
    (c.after_the_last.ensures.gives c.loop-count.invariant.at_end) known)
