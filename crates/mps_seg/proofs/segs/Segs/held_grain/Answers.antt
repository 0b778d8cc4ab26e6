use Rattle.std.proofs.Common.{ℕ, ◌≡◌, get_or, subst, arith}
use Rattle.mps_seg.proofs.HeldGrain.{grain_within, held_grain_is}
use Rattle.mps_seg.proofs.segs.Segs.held_grain.Goals as goal

pub index-requires : goal.index-requires
index-requires c =
    let s = c.self.inside in
    let within = grain_within s c.args.self.now c.args.at.0 c.self.invariant c.self.view_is c.requires.0 c.requires.1 in
    omega (arith, within, c.grain.ensures, s.firsts.ok.0)

pub returns : goal.returns
returns c =
    let s = c.self.inside in
    let P : ℕ → Type 0 = λ g. c.index.result.now ≡ get_or s.firsts.items g c.index.result.now in
    held_grain_is s c.args.self.now c.args.at.0 c.self.invariant c.self.view_is c.requires.0 c.index.result.now c.requires.1
    (subst P c.grain.ensures c.index.ensures)
