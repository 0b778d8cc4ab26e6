use Rattle.std.proofs.Common.{Bool, false, List, replicate, sym, ap, ◌∙◌, subst}
use Rattle.mps_extents.specs.Inside.{either, lists_of}
use Rattle.mps_extents.proofs.NewTables.{AreEmptyTables, either_nothing, new_are_empty, new_lists}
use Rattle.mps_extents.proofs.extents.Extents.new.Goals as goal

pub invariant_of-result : goal.invariant_of-result
invariant_of-result c =
    let n = c.args.size in
    let clear : List Bool = replicate n false in
    let P1 : List Bool → Type 0 = λ t. AreEmptyTables t c.in_ok-new-2.field-0 c.in_ok-new-3.field-0 c.in_ok-new-4.field-0 in
    let P2 : List Bool → Type 0 = λ t. AreEmptyTables clear t c.in_ok-new-3.field-0 c.in_ok-new-4.field-0 in
    let P3 : List Bool → Type 0 = λ t. AreEmptyTables clear clear t c.in_ok-new-4.field-0 in
    let P4 : List Bool → Type 0 = λ t. AreEmptyTables clear clear clear t in
    subst P1 (sym c.in_ok-new.ensures)
    (subst P2 (sym c.in_ok-new-2.ensures)
    (subst P3 (sym c.in_ok-new-3.ensures) (subst P4 (sym c.in_ok-new-4.ensures) (new_are_empty n c.requires))))

pub returns : goal.returns
returns c =
    let n = c.args.size in
    let clear : List Bool = replicate n false in
    ap (λ (t : List Bool). lists_of (either c.in_ok-new-3.field-0 t) c.in_ok-new-4.field-0 t) c.in_ok-new-2.ensures
    ∙ ap (λ (t : List Bool). lists_of (either t clear) c.in_ok-new-4.field-0 clear) c.in_ok-new-3.ensures
    ∙ ap (λ (t : List Bool). lists_of (either clear clear) t clear) c.in_ok-new-4.ensures
    ∙ ap (λ (t : List Bool). lists_of t clear clear) (either_nothing n)
    ∙ new_lists n
