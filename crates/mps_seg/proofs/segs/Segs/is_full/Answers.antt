use Rattle.std.proofs.Common.{ℕ, sym, subst}
use Rattle.mps_base.specs.Address.{word_of}
use Rattle.mps_extents.specs.Extents.{AreWhole}
use Rattle.mps_seg.proofs.Spans.{searchable}
use Rattle.mps_seg.proofs.segs.Segs.is_full.Goals as goal

pub are_dense-requires-clause-whole : goal.are_dense-requires-clause-whole
are_dense-requires-clause-whole c =
    let covered = c.self.inside.extents.covered in
    let facts = searchable c.self.inside c.args.self.now c.args.base.0 c.args.end.0 c.self.invariant c.self.view_is c.requires in
    let P : ℕ → Type 0 = λ low. AreWhole low c.word-2.result covered in
    let Q : ℕ → Type 0 = λ high. AreWhole (word_of c.args.base.0) high covered in
    subst P (sym c.word.ensures) (subst Q (sym c.word-2.ensures) facts.whole)
