use Rattle.std.proofs.Common.{ℕ, ◌≡◌, sym, ap, ◌∙◌, subst}
use Rattle.mps_amc.specs.Moving.{BlockStands, IsBlockOf, size_at}
use Rattle.mps_amc.specs.Amc.{IsFixed}
use Rattle.mps_amc.proofs.amc.Amc.keep.Goals as goal

pub keep_block-requires-clause-stands : goal.keep_block-requires-clause-stands
keep_block-requires-clause-stands g c =
    let f = g.F.Format.layout c.args.format.now in
    let size_is : c.words-words.result ≡ size_at f c.args.segs.now.words c.args.at.0 = c.words-words.ensures ∙ ap f.size c.word.ensures in
    let P : ℕ → Type 0 = λ n. BlockStands f c.args.segs.now.words c.args.at.0 n in
    subst P (sym size_is) c.requires.stands

pub keep_block-requires-clause-block : goal.keep_block-requires-clause-block
keep_block-requires-clause-block g c =
    let f = g.F.Format.layout c.args.format.now in
    let size_is : c.words-words.result ≡ size_at f c.args.segs.now.words c.args.at.0 = c.words-words.ensures ∙ ap f.size c.word.ensures in
    let P : ℕ → Type 0 = λ n. IsBlockOf c.args.segs.now c.args.at.0 n in
    subst P (sym size_is) c.requires.block

pub returns-clause-kept : goal.returns-clause-kept
returns-clause-kept g c =
    let f = g.F.Format.layout c.args.format.now in
    let size_is : c.words-words.result ≡ size_at f c.args.segs.now.words c.args.at.0 = c.words-words.ensures ∙ ap f.size c.word.ensures in
    let P : ℕ → Type 0 =
    λ n. IsFixed f c.args.self.now c.keep_block.new.self c.args.segs.now c.keep_block.new.segs c.args.trail.now c.keep_block.new.trail
    c.args.at c.args.pool c.args.generation n c.keep_block.result
    in
    subst P size_is c.keep_block.ensures.fixed
