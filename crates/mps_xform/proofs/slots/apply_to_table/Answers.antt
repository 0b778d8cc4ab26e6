use Rattle.std.proofs.Common.{ℕ, ◌≡◌, ◌∙◌, Option, List, length, sym, ap, subst, arith}
use Rattle.std.specs.Prelude.{slice_index_or, slice_set}
use Rattle.mps_root.specs.State.{RootsState, HasItem, items_of, kept, with_item}
use Rattle.mps_xform.specs.Passing.{new_in}
use Rattle.mps_xform.specs.Slots.{slot_after_apply}
use Rattle.mps_xform.proofs.Mapped.{partly, all_mapped, has_still, none_mapped, one_more, set_kept}
use Rattle.mps_xform.proofs.slots.apply_to_table.Goals as goal

pub loop-index-init : goal.loop-index-init
loop-index-init c =
    let r = c.args.roots.now in
    let g = slot_after_apply (new_in c.args.replacements.now) in
    ap (λ (ts : List (Option (List ℕ))). let x : RootsState = record r { tables = ts } in x)
    (set_kept r.tables c.args.key
    ∙ ap (λ (o : Option (List ℕ)). slice_set r.tables c.args.key o) (none_mapped g (kept r.tables c.args.key)))

pub slot-requires : goal.slot-requires
slot-requires c =
    let r = c.args.roots.now in
    let index = c.loop-index.index in
    let P : RootsState → Type 0 = λ x. HasItem x.tables c.args.key index in
    subst P (sym c.loop-index.invariant)
    (has_still (slot_after_apply (new_in c.args.replacements.now)) r.tables c.args.key index index
    (c.slots_of-index-end.ensures.listed index c.loop-index-test.true))

pub set_slot-requires : goal.set_slot-requires
set_slot-requires c =
    let r = c.args.roots.now in
    let index = c.loop-index.index in
    let P : RootsState → Type 0 = λ x. HasItem x.tables c.args.key index in
    subst P (sym c.loop-index.invariant)
    (has_still (slot_after_apply (new_in c.args.replacements.now)) r.tables c.args.key index index
    (c.slots_of-index-end.ensures.listed index c.loop-index-test.true))

pub loop-index-preserved : goal.loop-index-preserved
loop-index-preserved c =
    let r = c.args.roots.now in
    let key = c.args.key in
    let g = slot_after_apply (new_in c.args.replacements.now) in
    let index = c.loop-index.index in
    let rows : List (Option (List ℕ)) = slice_set r.tables key (partly g index (kept r.tables key)) in
    let read : c.slot.result ≡ slice_index_or (items_of rows key) index 0 =
    c.slot.ensures ∙ ap (λ (x : RootsState). slice_index_or (items_of x.tables key) index 0) c.loop-index.invariant in
    c.set_slot.ensures
    ∙ ap (λ (x : RootsState). let y : RootsState = record x { tables = with_item x.tables key index c.slot_after_apply-to.result } in y)
    c.loop-index.invariant
    ∙ ap (λ (to : ℕ). let y : RootsState = record r { tables = with_item rows key index to } in y) c.slot_after_apply-to.ensures
    ∙ ap (λ (ts : List (Option (List ℕ))). let y : RootsState = record r { tables = ts } in y)
    (one_more g r.tables key index c.slot.result (c.slots_of-index-end.ensures.listed index c.loop-index-test.true) read)

pub returns : goal.returns
returns c =
    let r = c.args.roots.now in
    let key = c.args.key in
    let g = slot_after_apply (new_in c.args.replacements.now) in
    let count : c.loop-index.index ≡ length (items_of r.tables key) =
    omega (arith, c.loop-index.auto.index-end, c.loop-index-test.false, c.slots_of-index-end.ensures.count) in
    c.loop-index.invariant
    ∙ ap (λ (o : Option (List ℕ)). let y : RootsState = record r { tables = slice_set r.tables key o } in y)
    (all_mapped g (kept r.tables key) c.loop-index.index count)
