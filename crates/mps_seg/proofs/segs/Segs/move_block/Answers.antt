use Rattle.std.proofs.Common.{ℕ, ◌≡◌, ◌+◌, ◌-◌, sym, ap, subst, arith}
use Rattle.mps_base.specs.Address.{word_of}
use Rattle.mps_base.specs.Run.{with_run, without_run}
use Rattle.mps_seg.specs.Moving.{run_at}
use Rattle.mps_seg.specs.Segs.{SegsState, CanCover, IsOpenRun, held_runs}
use Rattle.mps_seg.proofs.OpenWords.{open_bounds}
use Rattle.mps_seg.proofs.PartCovered.{rest_is_open}
use Rattle.mps_seg.proofs.Reopening.{open_after_without}
use Rattle.mps_seg.proofs.segs.Segs.move_block.Goals as goal

pub returns-clause-rest : goal.returns-clause-rest
returns-clause-rest c = λ rest some free.
    let s = c.args.self.now in
    let n = c.args.words in
    let whole = run_at c.args.to.0 (n + rest) in
    let covered = without_run (word_of c.args.at.0) s.covered in
    let open_whole = open_after_without s.grains (held_runs s) s.covered whole (word_of c.args.at.0) free in
    let open_rest = rest_is_open whole n c.requires.nonzero s.grains (held_runs s) covered open_whole (omega (arith, some)) in
    let counted : n + rest - n ≡ rest = omega arith in
    let Q : ℕ → Type 0 =
    λ k. IsOpenRun s.grains (held_runs s) (with_run (run_at c.args.to.0 n) covered) (record { from = word_of c.args.to.0 + n; count = k })
    in
    let R : SegsState → Type 0 = λ x. CanCover x (record { from = word_of c.args.to.0 + n; count = rest }) in
    subst R (sym c.set_grey.ensures) (subst R (sym c.rehouse.ensures.state) (subst Q counted open_rest))

pub set_grey-requires : goal.set_grey-requires
set_grey-requires c =
    let s = c.args.self.now in
    let bounds = open_bounds s.grains (held_runs s) s.covered (run_at c.args.to.0 c.args.words) c.requires.free in
    let same = ap (λ (x : SegsState). x.grains) c.rehouse.ensures.state in
    omega (arith, bounds, same, c.requires.nonzero)
