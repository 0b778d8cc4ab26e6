use Rattle.std.proofs.Common.{◌≡◌, ◌%◌, not, sym, subst}
use Rattle.std.specs.List.{All}
use Rattle.std.proofs.lemmas.List.Elements.{All-filter}
use Rattle.mps_base.specs.Address.{bytes_of_word}
use Rattle.mps_xform.specs.State.{TransformsState, is_of}
use Rattle.mps_xform.specs.declared.transforms.Pair.{Pair}
use Rattle.mps_transform_tests.proofs.applying.agree_in_turn.Goals as goal

pub returns-clause-aligned : goal.returns-clause-aligned
returns-clause-aligned c =
    let P : TransformsState → Type 0 = λ t. All (λ p. p.new.0 % bytes_of_word ≡ 0) t.pairs in
    let Q : Pair → Type 0 = λ p. p.new.0 % bytes_of_word ≡ 0 in
    subst P (sym c.drop_transform.ensures)
    (All-filter (λ p. not (is_of c.make-transform.result p)) Q c.loop.transforms.pairs c.loop.invariant.aligned)
