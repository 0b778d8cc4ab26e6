use Rattle.std.proofs.Common.{◌<◌, ◌≡◌, length, sym, arith}
use Rattle.mps_base.specs.Address.{grain_of}
use Rattle.mps_seg.proofs.AskedOver.{asked_past, asked_within}
use Rattle.mps_seg.proofs.segs.Segs.condemned_segment.Goals as goal

pub returns-then-grain-len : goal.returns-then-grain-len
returns-then-grain-len c =
    asked_past c.self.inside c.args.self.now c.args.at.0 c.self.invariant c.self.view_is
    (omega (arith, c.if-grain-len.true, c.len.ensures, c.grain-grain.ensures, c.self.inside.white.ok.0))

pub returns : goal.returns
returns c =
    let s = c.self.inside in
    let grain : c.grain-grain.result ≡ grain_of c.args.at.0 = c.grain-grain.ensures in
    let within : grain_of c.args.at.0 < length s.white.items =
    omega (arith, c.if-grain-len.false, c.len.ensures, c.grain-grain.ensures, s.white.ok.0)
    in
    asked_within s c.args.self.now c.args.at.0 c.self.invariant c.self.view_is c.index.result.now within (rw (sym grain) c.index.ensures)
