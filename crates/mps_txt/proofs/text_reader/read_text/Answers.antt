use Rattle.std.proofs.Common.{◌++◌, ◌∙◌, ap, sym, subst, List, ℕ, arith}
use Rattle.mps_log_reader.specs.Left.{left_of}
use Rattle.mps_log_reader.specs.Opening.{first_line}
use Rattle.mps_log_reader.specs.PutOut.{IsToFlush}
use Rattle.mps_txt.specs.Text.{Ending}
use Rattle.mps_txt.proofs.WholeText.{left_known, whole_first_line, flushed, reads_ending}
use Rattle.mps_txt.proofs.FailedWrite.{text_cut_short}
use Rattle.mps_txt.proofs.text_reader.read_text.Goals as goal

pub returns-clause-read : goal.returns-clause-read
returns-clause-read g c bytes known =
    let version = c.in_ok-version.version in
    let a = g.D.Desk.outside c.args.desk.now in
    let opened = g.D.Desk.outside c.open_text.new.desk in
    let ended = g.D.Desk.outside c.read_lines-ending.new.desk in
    let last = g.D.Desk.outside c.flush_after.new.desk in
    let ending = c.read_lines-ending.result in
    let left = left_known version bytes (left_of opened c.open_text.new.input) (c.in_ok-version.ensures.opened bytes known) in
    flushed _ bytes a last ending c.flush_after.result c.flush_after.ensures.first (λ same.
    reads_ending version bytes left.0 c.put_first_line.new.output a opened
    (record {
      spelled = left.2;
      same = c.open_text.ensures.printed;
      line = c.put_first_line.ensures ∙ ap (λ (x : List ℕ). x ++ first_line version) c.in-Ok-new.ensures;
    })
    c.read_lines-ending.new.output ended last ending
    (record {
      whole = whole_first_line version bytes left.0 (left_of opened c.open_text.new.input) c.open_text.new.input ending
          (c.in_ok-version.ensures.whole bytes known)
          c.read_lines-ending.ensures.no_fault left.1;
      unread = c.flush_after.ensures.input;
      grown = c.read_lines-ending.ensures.grows;
      counted = omega (arith, c.open_text.ensures.runs.out_counted, c.read_lines-ending.ensures.works.runs.out_counted);
      printed = λ to_flush. c.flush_after.ensures.printed (subst (λ (r : Ending). IsToFlush r) (sym same) to_flush);
      far = λ failed. c.flush_after.ensures.front (same ∙ failed);
    })
    (c.read_lines-ending.ensures.gives left.0 left.1))

pub returns-clause-cut : goal.returns-clause-cut
returns-clause-cut g c failed bytes known =
    let version = c.in_ok-version.version in
    let opened = g.D.Desk.outside c.open_text.new.desk in
    let left = left_known version bytes (left_of opened c.open_text.new.input) (c.in_ok-version.ensures.opened bytes known) in
    text_cut_short version bytes left.0 c.put_first_line.new.output c.read_lines-ending.new.output
    (g.D.Desk.outside c.args.desk.now) opened (g.D.Desk.outside c.read_lines-ending.new.desk) (g.D.Desk.outside c.flush_after.new.desk)
    (record {
      spelled = left.2;
      same = c.open_text.ensures.printed;
      line = c.put_first_line.ensures ∙ ap (λ (x : List ℕ). x ++ first_line version) c.in-Ok-new.ensures;
    })
    c.read_lines-ending.result
    (record {
      grown = c.read_lines-ending.ensures.grows;
      no_more = c.flush_after.ensures.no_more;
      part = c.flush_after.ensures.part failed;
    })
    (λ e. c.read_lines-ending.ensures.cut e left.0 left.1) (c.read_lines-ending.ensures.gives left.0 left.1)
