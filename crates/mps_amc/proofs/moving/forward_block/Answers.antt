use Rattle.std.proofs.Common.{ℕ, ◌+◌, ◌-◌, ◌≤◌, List, drop, refl, sym, ap, ◌∙◌, subst, arith}
use Rattle.std.proofs.Math.ListN.{length-take, length-drop}
use Rattle.std.specs.Prelude.{slice_index}
use Rattle.mps_base.specs.Address.{word_of}
use Rattle.mps_format.specs.Blocks.{IsBlock, BeginsForwarded}
use Rattle.mps_amc.proofs.Borrowed.{first_borrowed, first_left, others_left}
use Rattle.mps_amc.proofs.moving.forward_block.Goals as goal

pub forward_first-requires-clause-whole : goal.forward_first-requires-clause-whole
forward_first-requires-clause-whole g c =
    let sizes = (g.met.F.Format.lawful c.args.format.now).sizes _ c.requires.block.valid in
    let words = c.args.segs.now.words in
    let at = word_of c.args.at.0 in
    let long = length-take (at + c.args.words - at) (drop at words) in
    let few : c.args.words ≤ 65536 = omega (arith, sizes, c.requires.block.whole, long, length-drop at words, c.requires.inside) in
    c.words_from_mut-memory.ensures.complete c.args.words few c.requires.inside

pub forward_first-requires-clause-block : goal.forward_first-requires-clause-block
forward_first-requires-clause-block g c =
    let words = c.args.segs.now.words in
    let at = word_of c.args.at.0 in
    let loan = c.words_from_mut-memory.result.now in
    let sizes = (g.met.F.Format.lawful c.args.format.now).sizes _ c.requires.block.valid in
    let long = length-take (at + c.args.words - at) (drop at words) in
    let few : c.args.words ≤ 65536 = omega (arith, sizes, c.requires.block.whole, long, length-drop at words, c.requires.inside) in
    let first = first_borrowed words loan loan at c.words_from_mut-memory.ensures.value (omega (arith, c.requires.inside)) refl c.args.words
    (c.words_from_mut-memory.ensures.complete c.args.words few c.requires.inside)
    in
    let P : List ℕ → Type 0 = λ ws. IsBlock (g.F.Format.layout c.args.format.now) ws in
    subst P (sym first) c.requires.block

pub returns-clause-forwarded : goal.returns-clause-forwarded
returns-clause-forwarded g c =
    let P : List ℕ → Type 0 = λ ws. BeginsForwarded (g.F.Format.layout c.args.format.now) ws c.args.words in
    subst P (sym (first_left c.args.segs.now.words c.words_from_mut-memory.result.now c.forward_first.new.memory (word_of c.args.at.0)
    c.words_from_mut-memory.ensures.value (omega (arith, c.requires.inside)) c.forward_first.auto.memory c.args.words
    (omega (
      arith,
      c.forward_first.ensures.forwarded.whole,
      length-take c.args.words c.forward_first.new.memory,
      c.forward_first.auto.memory,
    )))) c.forward_first.ensures.forwarded

pub returns-clause-leads : goal.returns-clause-leads
returns-clause-leads g c = ap (λ (ws : List ℕ). slice_index ws 1)
    (first_left c.args.segs.now.words c.words_from_mut-memory.result.now c.forward_first.new.memory (word_of c.args.at.0)
    c.words_from_mut-memory.ensures.value (omega (arith, c.requires.inside)) c.forward_first.auto.memory c.args.words
    (omega (
      arith,
      c.forward_first.ensures.forwarded.whole,
      length-take c.args.words c.forward_first.new.memory,
      c.forward_first.auto.memory,
    ))) ∙ c.forward_first.ensures.leads

pub returns-clause-others : goal.returns-clause-others
returns-clause-others g c =
    others_left c.args.segs.now.words c.words_from_mut-memory.result.now c.forward_first.new.memory (word_of c.args.at.0)
    c.words_from_mut-memory.ensures.value (omega (arith, c.requires.inside)) c.forward_first.auto.memory c.args.words
    c.forward_first.ensures.rest
