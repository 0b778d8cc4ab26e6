use Rattle.std.proofs.Common.{ℕ, ◌≡◌, ◌+◌, ◌<◌, ◌∙◌, Option, List, length, sym, ap, subst, arith}
use Rattle.std.specs.Prelude.{slice_index_or, slice_set}
use Rattle.mps_root.specs.State.{RootsState, kept}
use Rattle.mps_xform.specs.Passing.{new_in}
use Rattle.mps_xform.specs.Slots.{table_after_apply}
use Rattle.mps_xform.proofs.Mapped.{AreMapped, all_done, one_table_more}
use Rattle.mps_xform.proofs.slots.apply_to_tables.Goals as goal

pub loop-index-preserved : goal.loop-index-preserved
loop-index-preserved c =
    let l = c.loop-index in
    let r = c.args.roots.now in
    let to = new_in c.args.replacements.now in
    let order_is = c.order.ensures ∙ ap (λ (x : RootsState). x.order) l.invariant.0 in
    let within : l.index < length r.order =
    omega (arith, c.loop-index-test.true, ap (λ (ks : List ℕ). length ks) c.order-index-end.ensures) in
    let key : ℕ = slice_index_or c.order.result.now l.index 0 in
    let key_is : key ≡ slice_index_or r.order l.index 0 = ap (λ (ks : List ℕ). slice_index_or ks l.index 0) order_is in
    let tables_are : c.apply_to_table.new.roots.tables ≡ slice_set l.roots.tables key (table_after_apply to (kept l.roots.tables key)) =
    ap (λ (x : RootsState). x.tables) c.apply_to_table.ensures in
    let P : List (Option (List ℕ)) → Type 0 = λ ts. AreMapped to r (l.index + 1) ts in (
      c.apply_to_table.ensures
          ∙ ap (λ (x : RootsState). let y : RootsState = record x
          { tables = slice_set l.roots.tables key (table_after_apply to (kept l.roots.tables key)) } in y)
          l.invariant.0
          ∙ ap (λ (ts : List (Option (List ℕ))). let y : RootsState = record r { tables = ts } in y) (sym tables_are),
      subst P (sym tables_are) (one_table_more to r c.requires l.index l.roots.tables key within key_is l.invariant.1),
    )

pub returns : goal.returns
returns c =
    let l = c.loop-index in
    let r = c.args.roots.now in
    let count : l.index ≡ length r.order =
    omega (arith, l.auto.index-end, c.loop-index-test.false, ap (λ (ks : List ℕ). length ks) c.order-index-end.ensures) in
    l.invariant.0
    ∙ ap (λ (ts : List (Option (List ℕ))). let y : RootsState = record r { tables = ts } in y)
    (all_done (new_in c.args.replacements.now) r c.requires l.index l.roots.tables count l.invariant.1)
