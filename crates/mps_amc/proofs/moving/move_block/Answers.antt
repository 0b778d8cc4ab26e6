use Rattle.std.proofs.Common.{ℕ, ◌+◌, ◌≤◌, ◌⊎◌, List, length, sym, ap, ◌∙◌, subst, inl, inr, arith}
use Rattle.std.specs.Prelude.{slice_index, slice_range}
use Rattle.mps_base.specs.Address.{word_of}
use Rattle.mps_extents.proofs.ApartRuns.{apart_from_put}
use Rattle.mps_format.specs.Blocks.{IsBlock}
use Rattle.mps_seg.specs.Segs.{SegsState, held_runs}
use Rattle.mps_seg.proofs.OpenWords.{open_bounds}
use Rattle.mps_amc.specs.Moving.{run_at}
use Rattle.mps_amc.proofs.Copying.{are_copied, block_stays}
use Rattle.mps_amc.proofs.moving.move_block.Goals as goal

pub forward_block-requires-clause-block : goal.forward_block-requires-clause-block
forward_block-requires-clause-block g c =
    let f = g.F.Format.layout c.args.format.now in
    let s = c.args.segs.now in
    let n = c.args.words in
    let sizes = (g.met.F.Format.lawful c.args.format.now).sizes _ c.requires.stands.valid in
    let bounds = open_bounds s.grains (held_runs s) s.covered (run_at c.args.to.0 n) c.requires.free in
    let apart : (word_of c.args.at.0 + n ≤ word_of c.args.to.0) ⊎ (word_of c.args.to.0 + n ≤ word_of c.args.at.0) =
    elim (apart_from_put 0 _ s.covered (run_at c.args.to.0 n) (run_at c.args.at.0 n) c.requires.free.free c.requires.block.covered)
    [ inl before ↦ inr before | inr after ↦ inl after ]
    in
    let at = word_of c.args.at.0 in
    let P : SegsState → Type 0 = λ x. IsBlock f (slice_range x.words at (at + n)) in
    subst P (sym c.move_block.ensures.state)
    (block_stays f s.words c.args.at.0 c.args.to.0 n c.requires.stands (omega (arith, bounds, c.grains.ensures.size)) apart
    (omega (arith, sizes, c.requires.stands.whole)))

pub returns-clause-words : goal.returns-clause-words
returns-clause-words g c =
    let s = c.args.segs.now in
    let n = c.args.words in
    let same = ap (λ (x : SegsState). x.words) c.move_block.ensures.state in
    let bounds = open_bounds s.grains (held_runs s) s.covered (run_at c.args.to.0 n) c.requires.free in
    let apart : (word_of c.args.at.0 + n ≤ word_of c.args.to.0) ⊎ (word_of c.args.to.0 + n ≤ word_of c.args.at.0) =
    elim (apart_from_put 0 _ s.covered (run_at c.args.to.0 n) (run_at c.args.at.0 n) c.requires.free.free c.requires.block.covered)
    [ inl before ↦ inr before | inr after ↦ inl after ]
    in
    are_copied (g.F.Format.layout c.args.format.now) s.words c.forward_block.new.segs.words c.args.at.0 c.args.to.0 n
    c.requires.stands.within (omega (arith, bounds, c.grains.ensures.size)) apart
    (c.forward_block.ensures.size ∙ ap (λ (ws : List ℕ). length ws) same) c.forward_block.ensures.forwarded c.forward_block.ensures.leads
    (λ i away. c.forward_block.ensures.others i away ∙ ap (λ (ws : List ℕ). slice_index ws i) same)
