use Rattle.std.proofs.Common.{ℕ, ◌≡◌, ◌&&◌, ◌==◌, ◌∙◌, Option, List, ap, subst, sym}
use Rattle.std.specs.Prelude.{option_map}
use Rattle.std.specs.List.{find}
use Rattle.mps_base.specs.Address.{Address}
use Rattle.mps_root.specs.State.{RootsState}
use Rattle.mps_xform.specs.declared.transforms.Pair.{Pair}
use Rattle.mps_xform.specs.Passing.{new_in}
use Rattle.mps_xform.specs.State.{TransformsState, is_of, new_address}
use Rattle.mps_xform.specs.Slots.{AreListedOnce}
use Rattle.mps_xform.proofs.Again.{listed_again}
use Rattle.mps_xform.proofs.Mapped.{tables_same}
use Rattle.mps_xform.proofs.transforms.Transforms.apply_slots.Goals as goal

pub returns-clause-slots : goal.returns-clause-slots
returns-clause-slots c =
    let t = c.args.self.now in
    let r = c.args.roots.now in
    let same : (old : Address) → new_in c.fill.new.self old ≡ new_address t c.args.transform old =
    λ old. ap (λ (o : Option Pair). option_map (λ p. p.new.0) o)
    (c.fill.ensures old
    ∙ ap (λ (ps : List Pair). find (λ q. is_of c.args.transform q && (q.old.0 == old)) ps)
    (c.deref.ensures.value ∙ ap (λ (u : TransformsState). u.pairs) c.self.view_is)) in
    c.apply_to_tables.ensures
    ∙ ap (λ (ts : List (Option (List ℕ))). let x : RootsState = record r { tables = ts } in x)
    (tables_same (new_in c.fill.new.self) (new_address t c.args.transform) same r.tables)

pub returns-clause-again : goal.returns-clause-again
returns-clause-again c =
    let P : RootsState → Type 0 = λ x. AreListedOnce x in
    subst P (sym (returns-clause-slots c))
    (listed_again (new_address c.args.self.now c.args.transform) c.args.roots.now c.requires)
