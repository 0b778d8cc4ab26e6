use Rattle.std.proofs.Common.{sym, ap, ◌∙◌, subst, arith}
use Rattle.std.proofs.lemmas.Bool.{true≢false}
use Rattle.mps_amc.specs.Reclaiming.{IsReclaimed}
use Rattle.mps_amc.proofs.Found.{over_is_there}
use Rattle.mps_amc.proofs.Reclaimed.{reclaimed_is_swept}
use Rattle.mps_trace.specs.Trace.{TraceState}
use Rattle.mps_trace.proofs.Known.{format_at, within_at, same_format}
use Rattle.mps_format.specs.declared.pool.Policy.{Policy}
use Rattle.mps_trace.proofs.trace.Trace.reclaim.Goals as goal

pub segment-pool-requires : goal.segment-pool-requires
segment-pool-requires g c =
    let t = c.requires.segment in
    (t.segment, over_is_there c.args.segs.now.segments c.args.base.0 t.segment t.over, t.begins)

pub index-requires : goal.index-requires
index-requires g c =
    let s = c.args.segs.now in
    let t : TraceState g.row.F.Denot =
    record { formats = c.self.inside.formats.items; amc = c.self.inside.amc; chains = c.self.inside.chains }
    in
    let can = c.requires.segment in
    omega (
      arith,
      within_at c.args.self.now t c.self.view_is s c.args.base c.segment-pool.result can.segment c.requires.format can.over can.begins
          c.segment-pool.ensures c.requires.listed,
      c.self.inside.formats.ok,
    )

pub unreachable-requires : goal.unreachable-requires
unreachable-requires g c =
    let s = c.args.segs.now in
    let t : TraceState g.row.F.Denot =
    record { formats = c.self.inside.formats.items; amc = c.self.inside.amc; chains = c.self.inside.chains }
    in
    let can = c.requires.segment in
    c.in_default.not-Some c.requires.format
    (format_at c.args.self.now t c.self.view_is s c.args.base c.segment-pool.result can.segment c.requires.format can.over can.begins
    c.segment-pool.ensures c.requires.listed c.index.result.now c.index.ensures)

pub returns-then-format : goal.returns-then-format
returns-then-format g c =
    let s = c.args.segs.now in
    let t : TraceState g.row.F.Denot =
    record { formats = c.self.inside.formats.items; amc = c.self.inside.amc; chains = c.self.inside.chains }
    in
    let can = c.requires.segment in
    let read =
    format_at c.args.self.now t c.self.view_is s c.args.base c.segment-pool.result can.segment c.requires.format can.over can.begins
    c.segment-pool.ensures c.requires.listed c.index.result.now c.index.ensures
    in
    let got_is = same_format c.in-Some.format c.requires.format (sym c.in-Some.is ∙ read) in
    let P : Policy g.row.F.Denot → Type 0 =
    λ q. IsReclaimed (g.F.Format.layout q.format) s c.args.trail.now c.args.base c.reclaim_seg.new.segs c.reclaim_seg.new.trail
    in
    let reclaimed = subst P got_is c.reclaim_seg.ensures in
    let moves = c.if-format.true in
    record {
      segment = can.segment;
      over = can.over;
      format = c.requires.format;
      listed = c.requires.listed;
      swept =
          reclaimed_is_swept (g.F.Format.layout c.requires.format.format) s c.args.trail.now c.args.base c.reclaim_seg.new.segs
          c.reclaim_seg.new.trail reclaimed;
      padded = λ it. reclaimed;
      unwritten = λ stays. absurd (true≢false (sym moves ∙ ap (λ (q : Policy g.row.F.Denot). q.moves) got_is ∙ stays));
    }

pub returns-else-format : goal.returns-else-format
returns-else-format g c =
    let s = c.args.segs.now in
    let t : TraceState g.row.F.Denot =
    record { formats = c.self.inside.formats.items; amc = c.self.inside.amc; chains = c.self.inside.chains }
    in
    let can = c.requires.segment in
    let read =
    format_at c.args.self.now t c.self.view_is s c.args.base c.segment-pool.result can.segment c.requires.format can.over can.begins
    c.segment-pool.ensures c.requires.listed c.index.result.now c.index.ensures
    in
    let got_is = same_format c.in-Some.format c.requires.format (sym c.in-Some.is ∙ read) in
    let stays = c.if-format.false in
    record {
      segment = can.segment;
      over = can.over;
      format = c.requires.format;
      listed = c.requires.listed;
      swept = c.reclaim_seg-else-format.ensures.swept;
      padded = λ moves. absurd (true≢false (sym moves ∙ ap (λ (q : Policy g.row.F.Denot). q.moves) (sym got_is) ∙ stays));
      unwritten = λ it. c.reclaim_seg-else-format.ensures.words;
    }
