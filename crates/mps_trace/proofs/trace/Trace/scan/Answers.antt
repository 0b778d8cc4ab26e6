use Rattle.std.proofs.Common.{ℕ, sym, ap, subst}
use Rattle.std.specs.Prelude.{slice_index}
use Rattle.mps_base.specs.Address.{word_of}
use Rattle.mps_seg.specs.Segs.{SegsState}
use Rattle.mps_trace.specs.Trace.{Traced, traced}
use Rattle.mps_trace.specs.Scan.{AreReadyIn, ScansAll}
use Rattle.mps_trace.proofs.trace.Trace.scan.Goals as goal

pub fix_cells-requires-clause-ready : goal.fix_cells-requires-clause-ready
fix_cells-requires-clause-ready g c =
    let s = c.args.segs.now in
    let got_is = c.format_over-format.ensures c.requires.segment c.requires.format c.requires.over c.requires.listed in
    let P : g.row.F.Denot → Type 0 =
    λ q. AreReadyIn g.F.Format.layout (g.F.Format.layout q) c.args.self.now s c.args.trail.now (slice_index s.words (word_of c.args.at.0))
    c.args.at
    in
    let Q : ℕ → Type 0 =
    λ h. AreReadyIn g.F.Format.layout (g.F.Format.layout c.format_over-format.result) c.args.self.now s c.args.trail.now h c.args.at
    in
    subst Q (sym c.held_word-head.ensures) (subst P (sym got_is) c.requires.ready)

pub returns-clause-scanned : goal.returns-clause-scanned
returns-clause-scanned g c =
    let s = c.args.segs.now in
    let got_is = c.format_over-format.ensures c.requires.segment c.requires.format c.requires.over c.requires.listed in
    let x = traced c.args.self.now s c.args.trail.now in
    let y = traced c.fix_cells.new.self c.fix_cells.new.segs c.fix_cells.new.trail in
    let formats = c.args.self.now.formats in
    let chains = c.args.self.now.chains in
    let P : g.row.F.Denot → Type 0 =
    λ q. ScansAll g.F.Format.layout (g.F.Format.layout q) formats chains (slice_index s.words (word_of c.args.at.0)) c.args.at x y
    in
    let Q : ℕ → Type 0 =
    λ h. ScansAll g.F.Format.layout (g.F.Format.layout c.format_over-format.result) formats chains h c.args.at x y
    in
    record {
      segment = c.requires.segment;
      over = c.requires.over;
      format = c.requires.format;
      listed = c.requires.listed;
      before = y;
      all = subst P got_is (subst Q c.held_word-head.ensures c.fix_cells.ensures.all);
      black = ap (λ (u : SegsState). let z : Traced = record y { segs = u } in z) c.blacken.ensures;
    }
