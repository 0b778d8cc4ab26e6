use Rattle.std.proofs.Common.{ℕ, ◌+◌, ◌-◌, ◌≡◌, Option, Some, IsSome, Contains, refl, sym, ap, ◌∙◌, subst, arith}
use Rattle.mps_extents.specs.Extents.{ExtentLists}
use Rattle.mps_extents.proofs.TakenExtent.{block_fits}
use Rattle.mps_extents.proofs.extents.Extents.block_words.Goals as goal

-- the last word that the search finds
last_found : {o : Option ℕ} {end last : ℕ} → o ≡ Some end → o ≡ Some last → last ≡ end
last_found found some = cc

pub unwrap-last-requires : goal.unwrap-last-requires
unwrap-last-requires c =
    let fits = (block_fits c.self.inside c.args.self.now c.args.at c.requires.0 c.self.invariant.0 c.self.view_is c.requires.1).fits in
    let P : Option ℕ → Type 0 = λ o. IsSome o in
    subst P (sym (c.next_set.ensures ∙ fits.last_is)) refl

pub overflow_sub-result : goal.overflow_sub-result
overflow_sub-result c =
    let fits = (block_fits c.self.inside c.args.self.now c.args.at c.requires.0 c.self.invariant.0 c.self.view_is c.requires.1).fits in
    let last = last_found (c.next_set.ensures ∙ fits.last_is) c.unwrap-last.ensures in
    omega arith

pub overflow_add-result : goal.overflow_add-result
overflow_add-result c =
    let fits = (block_fits c.self.inside c.args.self.now c.args.at c.requires.0 c.self.invariant.0 c.self.view_is c.requires.1).fits in
    let last = last_found (c.next_set.ensures ∙ fits.last_is) c.unwrap-last.ensures in
    omega arith

pub returns-clause-sound : goal.returns-clause-sound
returns-clause-sound c =
    let fits = (block_fits c.self.inside c.args.self.now c.args.at c.requires.0 c.self.invariant.0 c.self.view_is c.requires.1).fits in
    let last = last_found (c.next_set.ensures ∙ fits.last_is) c.unwrap-last.ensures in
    let count : c.requires.0 ≡ c.unwrap-last.result - c.args.at + 1 = omega arith in
    let P : ℕ → Type 0 = λ n. Contains c.args.self.now.blocks (record { from = c.args.at; count = n }) in
    subst P count c.requires.1

pub returns-clause-at_most : goal.returns-clause-at_most
returns-clause-at_most c =
    let fits = (block_fits c.self.inside c.args.self.now c.args.at c.requires.0 c.self.invariant.0 c.self.view_is c.requires.1).fits in
    let last = last_found (c.next_set.ensures ∙ fits.last_is) c.unwrap-last.ensures in
    omega (arith, ap (λ (e : ExtentLists). e.size) c.self.view_is)
