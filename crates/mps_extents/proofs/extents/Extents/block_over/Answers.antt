use Rattle.std.proofs.Common.{ℕ, ◌≡◌, Option, Some, None, IsSome, refl, sym, ap, ◌∙◌, subst, arith}
use Rattle.mps_bits.specs.Table.{previous_set}
use Rattle.mps_extents.specs.Extents.{ExtentLists, run_over}
use Rattle.mps_extents.proofs.WrittenBits.{bit_past}
use Rattle.mps_extents.proofs.EitherBits.{begins_of}
use Rattle.mps_extents.proofs.RunOver.{no_block_over, no_block_upto, found_block}
use Rattle.mps_extents.proofs.extents.Extents.block_over.Goals as goal

pub returns-then-word-len : goal.returns-then-word-len
returns-then-word-len c =
    let t = c.self.inside in
    let past = bit_past t.covered c.args.word (omega (arith, c.if-word-len.true, c.len.ensures)) in
    sym (no_block_over t.covered (begins_of t) t.ends t.blocks c.self.invariant.0 c.args.word past)
    ∙ ap (λ (e : ExtentLists). run_over e.blocks c.args.word) c.self.view_is

pub returns-then-not-test : goal.returns-then-not-test
returns-then-not-test c =
    let t = c.self.inside in
    sym (no_block_over t.covered (begins_of t) t.ends t.blocks c.self.invariant.0 c.args.word (sym c.test.ensures ∙ c.if-not-test.true))
    ∙ ap (λ (e : ExtentLists). run_over e.blocks c.args.word) c.self.view_is

pub returns-in_err-at : goal.returns-in_err-at
returns-in_err-at c =
    let t = c.self.inside in
    let none : previous_set t.blocks c.args.word ≡ None = sym c.previous_set.ensures ∙ c.in_err-at.was in
    c.from_residual.ensures
    ∙ sym (no_block_upto t.covered (begins_of t) t.ends t.blocks c.self.invariant.0 c.args.word none)
    ∙ ap (λ (e : ExtentLists). run_over e.blocks c.args.word) c.self.view_is

-- the last word that the search finds
last_found : {o : Option ℕ} {end last : ℕ} → o ≡ Some end → o ≡ Some last → last ≡ end
last_found found some = cc

pub unwrap-last-requires : goal.unwrap-last-requires
unwrap-last-requires c =
    let found = found_block c.self.inside c.args.word c.in_ok-at.at c.self.invariant.0 c.in_ok-at.ensures in
    let P : Option ℕ → Type 0 = λ o. IsSome o in
    subst P (sym (c.next_set.ensures ∙ found.last_is)) refl

pub returns-then-word-last : goal.returns-then-word-last
returns-then-word-last c =
    let found = found_block c.self.inside c.args.word c.in_ok-at.at c.self.invariant.0 c.in_ok-at.ensures in
    let last = last_found (c.next_set.ensures ∙ found.last_is) c.unwrap-last.ensures in
    found.is_over (omega (arith, last, c.if-word-last.true))
    ∙ ap (λ (e : ExtentLists). run_over e.blocks c.args.word) c.self.view_is

pub returns-else-word-last : goal.returns-else-word-last
returns-else-word-last c =
    let found = found_block c.self.inside c.args.word c.in_ok-at.at c.self.invariant.0 c.in_ok-at.ensures in
    let last = last_found (c.next_set.ensures ∙ found.last_is) c.unwrap-last.ensures in
    found.is_past (omega (arith, last, c.if-word-last.false))
    ∙ ap (λ (e : ExtentLists). run_over e.blocks c.args.word) c.self.view_is
