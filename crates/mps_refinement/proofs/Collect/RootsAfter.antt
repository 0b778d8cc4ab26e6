-- What the fixes of a flip leave of tables and messages: as many slots under the same keys and as many messages, and all else.
use Rattle.std.proofs.Common.{◌≡◌, ◌∙◌, ℕ, zero, suc, ◌<◌, ◌≤◌, refl, sym, ap, subst, List, [], ◌∷◌, length, Option, Some, None, IsSome, is_some, arith}
use Rattle.std.proofs.lemmas.Option.{none-some, same_Some}
use Rattle.std.specs.Prelude.{option_map}
use Rattle.std.specs.Option.{option_map_or}
use Rattle.mps_base.specs.Address.{Address}
use Rattle.mps_format.specs.Layout.{Layout}
use Rattle.mps_trace.specs.GenState.{ChainsState}
use Rattle.mps_root.specs.State.{RootsState, kept, items_of, with_item}
use Rattle.mps_changes.proofs.Lookups.{length-slice_set}
use Rattle.mps_trace.specs.Trace.{Traced}
use Rattle.mps_trace.specs.Roots.{FixesSlots, FixesTables, begins, goes_on, key_at, with_slot}
use Rattle.mps_format.specs.declared.pool.Policy.{Policy}

-- ---- rows

-- how many items there are, where there is a row
abbrev pub long_of : Option (List ℕ) → Option ℕ
long_of o = option_map (λ (items : List ℕ). length items) o

written_rows : (rows : List (Option (List ℕ))) (key index value k : ℕ) → index < length (items_of rows key)
    → long_of (kept (with_item rows key index value) k) ≡ long_of (kept rows k)
written_rows [] key index value k within = refl
written_rows (None ∷ rows) zero index value k within = absurd (omega (arith, within))
written_rows (Some items ∷ rows) zero index value zero within = ap Some (length-slice_set items index value)
written_rows (Some items ∷ rows) zero index value (suc k) within = refl
written_rows (row ∷ rows) (suc key) index value zero within = refl
written_rows (row ∷ rows) (suc key) index value (suc k) within = written_rows rows key index value k within

items_long : (o : Option (List ℕ)) → length (option_map_or (λ items. items) o []) ≡ option_map_or (λ n. n) (long_of o) 0
items_long None = refl
items_long (Some items) = refl

is_row : (o : Option (List ℕ)) → is_some (long_of o) ≡ is_some o
is_row None = refl
is_row (Some items) = refl

-- ---- roots

-- the same tables have as many slots, and nothing else changed
pub record AreRootsAfter (before after : RootsState) : Type 0 where
  pub order : after.order ≡ before.order
  pub areas : after.areas ≡ before.areas
  pub blocks : after.blocks ≡ before.blocks
  pub rows : (key : ℕ) → long_of (kept after.tables key) ≡ long_of (kept before.tables key)

pub roots_stay : (roots : RootsState) → AreRootsAfter roots roots
roots_stay roots = record { order = refl; areas = refl; blocks = refl; rows = λ key. refl }

pub roots_on : {a b c : RootsState} → AreRootsAfter a b → AreRootsAfter b c → AreRootsAfter a c
roots_on x y = record {
  order = y.order ∙ x.order;
  areas = y.areas ∙ x.areas;
  blocks = y.blocks ∙ x.blocks;
  rows = λ key. y.rows key ∙ x.rows key;
}

slot_after : (roots : RootsState) (key index : ℕ) (at : Address) → index < length (items_of roots.tables key)
    → AreRootsAfter roots (with_slot roots key index at)
slot_after roots key index at within = record {
  order = refl;
  areas = refl;
  blocks = refl;
  rows = λ k. written_rows roots.tables key index at k within;
}

as_many : (before after : RootsState) → AreRootsAfter before after → (key : ℕ)
    → length (items_of after.tables key) ≡ length (items_of before.tables key)
as_many before after a key =
    items_long (kept after.tables key) ∙ ap (λ o. option_map_or (λ n. n) o 0) (a.rows key) ∙ sym (items_long (kept before.tables key))

-- the table under a key was there before, with as many slots
pub was_there : (before after : RootsState) → AreRootsAfter before after → (key : ℕ) (slots' : List ℕ)
    → kept after.tables key ≡ Some slots' → (slots : List ℕ) × (kept before.tables key ≡ Some slots) × (length slots' ≡ length slots)
was_there before after a key slots' there = of_row (kept before.tables key) refl (sym (a.rows key) ∙ ap long_of there)
  where
    of_row : (o : Option (List ℕ)) → kept before.tables key ≡ o → long_of o ≡ Some (length slots')
        → (slots : List ℕ) × (kept before.tables key ≡ Some slots) × (length slots' ≡ length slots)
    of_row None e f = absurd (none-some (length slots') f)
    of_row (Some slots) e f = (slots, e, sym (same_Some (length slots) (length slots') f))

-- and one that was there is there
pub still_there : (before after : RootsState) → AreRootsAfter before after → (key : ℕ) → IsSome (kept before.tables key)
    → IsSome (kept after.tables key)
still_there before after a key there =
    sym (is_row (kept after.tables key)) ∙ ap is_some (a.rows key) ∙ (is_row (kept before.tables key) ∙ there)

-- ---- the fixes

module _ {F : Type 0} (layout : F → Layout) (formats : List (Option (Policy F))) (chains : ChainsState) where
  pub slots_after : (key : ℕ) (roots : RootsState) (x : Traced) (count : ℕ) (roots' : RootsState) (z : Traced)
      → FixesSlots layout formats chains key roots x count roots' z → count ≤ length (items_of roots.tables key)
      → AreRootsAfter roots roots'
  slots_after key roots x _ _ _ begins most = roots_stay roots
  slots_after key roots x _ roots'' z (goes_on {roots' = roots'} {y = y} count at row one is) most =
      let before = slots_after key roots x count roots' y row (omega (arith, most)) in
      let same = as_many roots roots' before key in
      subst (AreRootsAfter roots) (sym is) (roots_on before (slot_after roots' key count at (omega (arith, most, same))))

  pub tables_after : (roots : RootsState) (x : Traced) (count : ℕ) (roots' : RootsState) (z : Traced)
      → FixesTables layout formats chains roots x count roots' z → AreRootsAfter roots roots'
  tables_after roots x _ _ _ begins = roots_stay roots
  tables_after roots x _ roots'' z (goes_on {roots' = roots'} {y = y} count rows table) =
      let key = key_at roots count in
      roots_on (tables_after roots x count roots' y rows)
      (slots_after key roots' y (length (items_of roots'.tables key)) roots'' z table (omega arith))
