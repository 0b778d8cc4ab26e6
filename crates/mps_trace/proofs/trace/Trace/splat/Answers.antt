use Rattle.std.proofs.Common.{ℕ, sym, ap, subst}
use Rattle.std.specs.Prelude.{slice_index}
use Rattle.mps_base.specs.Address.{word_of}
use Rattle.mps_seg.specs.Segs.{SegsState}
use Rattle.mps_trace.specs.Trace.{Traced, traced}
use Rattle.mps_trace.specs.Splat.{AreSplatsReady, SplatsAll}
use Rattle.mps_trace.proofs.trace.Trace.splat.Goals as goal

pub splat_cells-requires-clause-ready : goal.splat_cells-requires-clause-ready
splat_cells-requires-clause-ready g c =
    let s = c.args.segs.now in
    let x = traced c.args.self.now s c.args.trail.now in
    let formats = c.args.self.now.formats in
    let got_is = c.format_over-format.ensures c.requires.segment c.requires.format c.requires.over c.requires.listed in
    let P : g.row.F.Denot → Type 0 =
    λ q. AreSplatsReady g.F.Format.layout (g.F.Format.layout q) formats (slice_index s.words (word_of c.args.at.0)) c.args.at x
    in
    let Q : ℕ → Type 0 =
    λ h. AreSplatsReady g.F.Format.layout (g.F.Format.layout c.format_over-format.result) formats h c.args.at x
    in
    subst Q (sym c.word-head.ensures) (subst P (sym got_is) c.requires.ready)

pub returns : goal.returns
returns g c =
    let s = c.args.segs.now in
    let x = traced c.args.self.now s c.args.trail.now in
    let y = traced c.args.self.now c.splat_cells.new.segs c.splat_cells.new.trail in
    let formats = c.args.self.now.formats in
    let got_is = c.format_over-format.ensures c.requires.segment c.requires.format c.requires.over c.requires.listed in
    let P : g.row.F.Denot → Type 0 =
    λ q. SplatsAll g.F.Format.layout (g.F.Format.layout q) formats (slice_index s.words (word_of c.args.at.0)) c.args.at x y
    in
    let Q : ℕ → Type 0 =
    λ h. SplatsAll g.F.Format.layout (g.F.Format.layout c.format_over-format.result) formats h c.args.at x y
    in
    record {
      segment = c.requires.segment;
      over = c.requires.over;
      format = c.requires.format;
      listed = c.requires.listed;
      before = y;
      all = subst P got_is (subst Q c.word-head.ensures c.splat_cells.ensures.all);
      black = ap (λ (u : SegsState). let z : Traced = record y { segs = u } in z) c.blacken.ensures;
    }
