use Rattle.std.proofs.Common.{◌≡◌, ◌%◌, ◌&&◌, ◌==◌, ◌∙◌, Option, List, length, sym, ap, subst}
use Rattle.std.specs.Prelude.{option_map, nat_eq, slice_index}
use Rattle.std.specs.List.{find}
use Rattle.std.specs.Map.{lookup}
use Rattle.mps_base.specs.Address.{Address, bytes_of_word}
use Rattle.mps_seg.specs.Segs.{SegsState}
use Rattle.mps_xform.specs.declared.transforms.Pair.{Pair}
use Rattle.mps_xform.specs.Passing.{new_in}
use Rattle.mps_xform.specs.State.{TransformsState, is_of, new_address, pair_of}
use Rattle.mps_xform.specs.Applying.{CanApply}
use Rattle.mps_xform.specs.Summed.{AreBlocksSummed}
use Rattle.mps_xform.proofs.Again.{can_again}
use Rattle.mps_xform.proofs.Applied.{below_same}
use Rattle.mps_xform.proofs.Done.{found_has, word_is}
use Rattle.mps_xform.proofs.Skipped.{still_summed}
use Rattle.mps_xform.proofs.transforms.Transforms.apply.Goals as goal

pub apply_to_pool-requires-clause-aligned : goal.apply_to_pool-requires-clause-aligned
apply_to_pool-requires-clause-aligned g c = λ old p is.
    let t = c.args.self.now in
    let filled : lookup (nat_eq old) c.fill.new.self ≡ pair_of t c.args.transform old =
    c.fill.ensures old
    ∙ ap (λ (ps : List Pair). find (λ q. is_of c.args.transform q && (q.old.0 == old)) ps)
    (c.deref.ensures.value ∙ ap (λ (u : TransformsState). u.pairs) c.self.view_is) in
    found_has (λ q. q.new.0 % bytes_of_word ≡ 0) (λ q. is_of c.args.transform q && (q.old.0 == old)) t.pairs p c.requires.aligned
    (sym filled ∙ is)

pub returns-clause-state : goal.returns-clause-state
returns-clause-state g c =
    let t = c.args.self.now in
    let s = c.args.segs.now in
    let same : (old : Address) → new_in c.fill.new.self old ≡ new_address t c.args.transform old =
    λ old. ap (λ (o : Option Pair). option_map (λ p. p.new.0) o)
    (c.fill.ensures old
    ∙ ap (λ (ps : List Pair). find (λ q. is_of c.args.transform q && (q.old.0 == old)) ps)
    (c.deref.ensures.value ∙ ap (λ (u : TransformsState). u.pairs) c.self.view_is)) in
    c.apply_to_pool.ensures
    ∙ below_same (g.F.Format.layout c.args.format.now) (new_in c.fill.new.self) (new_address t c.args.transform) same s c.args.pool
    (length s.words)

pub returns-clause-words : goal.returns-clause-words
returns-clause-words g c = λ word.
    ap (λ (x : SegsState). slice_index x.words word) (returns-clause-state g c)
    ∙ word_is (g.F.Format.layout c.args.format.now) (new_address c.args.self.now c.args.transform) c.args.segs.now c.args.pool
    c.requires.can word

pub returns-clause-again : goal.returns-clause-again
returns-clause-again g c = λ layout other could.
    let P : SegsState → Type 0 = λ x. CanApply layout x other in
    subst P (sym (returns-clause-state g c))
    (can_again (g.F.Format.layout c.args.format.now) (g.met.F.Format.lawful c.args.format.now)
    (new_address c.args.self.now c.args.transform) c.args.segs.now c.args.pool c.requires.can layout other could)

pub returns-clause-summed : goal.returns-clause-summed
returns-clause-summed g c = λ layout other apart was.
    let P : SegsState → Type 0 = λ x. AreBlocksSummed layout x other in
    subst P (sym (returns-clause-state g c))
    (still_summed (g.F.Format.layout c.args.format.now) (new_address c.args.self.now c.args.transform) c.args.segs.now c.args.pool
    c.requires.can layout other apart was)
