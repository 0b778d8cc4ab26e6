-- Slots of tables that lead to new addresses, one after the other.
use Rattle.std.proofs.Common.{ℕ, zero, suc, ◌+◌, ◌<◌, ◌≤◌, ◌≡◌, ◌≢◌, ◌⊎◌, Option, Some, None, IsSome, List, [], ◌∷◌, ◌++◌, length, take, drop, map, get_or, set, refl, sym, ap, ◌∙◌, subst, inl, inr, arith}
use Rattle.std.specs.Prelude.{slice_index_or, slice_set}
use Rattle.std.specs.Option.{option_map, option_map_or, IsSomeAnd}
use Rattle.std.proofs.lemmas.Bool.{cases_eq, cases_lt}
use Rattle.std.proofs.Math.ListN.{get_or-map}
use Rattle.std.proofs.lemmas.List.{length-set, length-map, get_or-set_same, get_or-set_other, get_or_default, take_all, drop_all, ext_get_or}
use Rattle.std.proofs.lemmas.List.Edits.{map_over_more}
use Rattle.mps_base.specs.Address.{Address}
use Rattle.mps_root.specs.State.{RootsState, kept, with_item, items_of, HasItem}
use Rattle.mps_xform.specs.Slots.{AreListedOnce, slot_after_apply, table_after_apply}

module _ {A : Type 0} where
  pub set_kept : (xs : List (Option A)) (key : ℕ) → xs ≡ set xs key (get_or xs key None)
  set_kept [] key = refl
  set_kept (x ∷ xs) zero = refl
  set_kept (x ∷ xs) (suc key) = ap (λ (ys : List (Option A)). x ∷ ys) (set_kept xs key)

  pub set_twice : (xs : List A) (key : ℕ) (x y : A) → set (set xs key x) key y ≡ set xs key y
  set_twice [] key x y = refl
  set_twice (z ∷ xs) zero x y = refl
  set_twice (z ∷ xs) (suc key) x y = ap (λ (ys : List A). z ∷ ys) (set_twice xs key x y)

  kept_below : (xs : List (Option A)) (key : ℕ) (a : A) → get_or xs key None ≡ Some a → key < length xs
  kept_below [] key a is = let left : Option A = None in let never : left ≡ Some a = is in cc
  kept_below (x ∷ xs) zero a is = omega arith
  kept_below (x ∷ xs) (suc key) a is = omega (arith, kept_below xs key a is)

  kept_past : (xs : List (Option A)) (key : ℕ) → length xs ≤ key → get_or xs key None ≡ None
  kept_past [] key past = refl
  kept_past (x ∷ xs) zero past = absurd (omega (arith, past))
  kept_past (x ∷ xs) (suc key) past = kept_past xs key (omega (arith, past))

-- the first slots of a table lead to new addresses
abbrev pub partly : (ℕ → ℕ) → (count : ℕ) → Option (List ℕ) → Option (List ℕ)
partly g count table = option_map (λ slots. map g (take count slots) ++ drop count slots) table

module _ (g : ℕ → ℕ) where
  pub none_mapped : (table : Option (List ℕ)) → table ≡ partly g 0 table
  none_mapped None = refl
  none_mapped (Some slots) = refl

  pub all_mapped : (table : Option (List ℕ)) (count : ℕ) → count ≡ length (option_map_or (λ items. items) table [])
      → partly g count table ≡ option_map (λ slots. map g slots) table
  all_mapped None count is = refl
  all_mapped (Some slots) count is =
      ap (λ (ys : List ℕ). Some (map g ys ++ drop count slots)) (take_all count slots (omega (arith, is)))
      ∙ ap (λ (ys : List ℕ). Some (map g slots ++ ys)) (drop_all count slots (omega (arith, is)))
      ∙ ap (λ (ys : List ℕ). Some ys) (append_none (map g slots))
    where
      append_none : (xs : List ℕ) → xs ++ [] ≡ xs
      append_none [] = refl
      append_none (x ∷ xs) = ap (λ (ys : List ℕ). x ∷ ys) (append_none xs)

  same_length : (count : ℕ) (ys : List ℕ) → length (map g (take count ys) ++ drop count ys) ≡ length ys
  same_length zero ys = refl
  same_length (suc count) [] = refl
  same_length (suc count) (y ∷ ys) = ap suc (same_length count ys)

  module _ (tables : List (Option (List ℕ))) (key : ℕ) where
    -- a slot that there was is there
    pub has_still : (count i : ℕ) → HasItem tables key i → HasItem (slice_set tables key (partly g count (kept tables key))) key i
    has_still count i has = go (kept tables key) refl has
      where
        go : (o : Option (List ℕ)) → get_or tables key None ≡ o → HasItem tables key i → HasItem (set tables key (partly g count o)) key i
        go None is has' =
            let P : Option (List ℕ) → Type 0 = λ o. IsSomeAnd o (λ items. i < length items) in
            absurd (subst P is has')
        go (Some ys) is has' =
            let P : Option (List ℕ) → Type 0 = λ o. IsSomeAnd o (λ items. i < length items) in
            let zs : List ℕ = map g (take count ys) ++ drop count ys in
            let within : i < length ys = subst P is has' in
            let within' : i < length zs = omega (arith, within, same_length count ys) in
            subst P (sym (get_or-set_same tables key (Some zs) None (kept_below tables key ys is))) within'

    -- one slot more
    pub one_more : (index v : ℕ) → HasItem tables key index
        → v ≡ slice_index_or (items_of (slice_set tables key (partly g index (kept tables key))) key) index 0
        → with_item (slice_set tables key (partly g index (kept tables key))) key index (g v)
        ≡ slice_set tables key (partly g (index + 1) (kept tables key))
    one_more index v has is = go (kept tables key) refl is
      where
        go : (o : Option (List ℕ)) → get_or tables key None ≡ o
            → v ≡ get_or (items_of (set tables key (partly g index o)) key) index 0
            → with_item (set tables key (partly g index o)) key index (g v) ≡ set tables key (partly g (index + 1) o)
        go None none is' =
            let P : Option (List ℕ) → Type 0 = λ o. IsSomeAnd o (λ items. index < length items) in
            absurd (subst P none has)
        go (Some ys) some is' =
            let P : Option (List ℕ) → Type 0 = λ o. IsSomeAnd o (λ items. index < length items) in
            let zs : List ℕ = map g (take index ys) ++ drop index ys in
            let rows : List (Option (List ℕ)) = set tables key (Some zs) in
            let e : get_or rows key None ≡ Some zs = get_or-set_same tables key (Some zs) None (kept_below tables key ys some) in
            let within : index < length ys = subst P some has in
            let within' : index < length zs = omega (arith, within, same_length index ys) in
            let read : v ≡ get_or zs index 0 =
            is' ∙ ap (λ (o : Option (List ℕ)). get_or (option_map_or (λ items. items) o []) index 0) e in
            ap (λ (o : Option (List ℕ)). set rows key (Some (set (option_map_or (λ items. items) o []) index (g v)))) e
            ∙ set_twice tables key (Some zs) (Some (set zs index (g v)))
            ∙ ap (λ (ws : List ℕ). set tables key (Some ws))
            (map_over_more g ys zs index v within refl (read ∙ get_or_default zs index 0 v within'))

-- the tables whose keys come first in the order lead to new addresses, and the others are as they were
module _ (to : Address → Option Address) (r : RootsState) where
  pub record AreMapped (count : ℕ) (tables : List (Option (List ℕ))) : Type 0 where
    pub size : length tables ≡ length r.tables
    pub done : (i : ℕ) → i < count
        → kept tables (slice_index_or r.order i 0) ≡ table_after_apply to (kept r.tables (slice_index_or r.order i 0))
    pub rest : (key : ℕ) → ((i : ℕ) → i < count → slice_index_or r.order i 0 ≢ key) → kept tables key ≡ kept r.tables key

  pub none_yet : AreMapped 0 r.tables
  none_yet = record { size = refl; done = λ i below. absurd (omega (arith, below)); rest = λ key none. refl }

  put_same : (tables : List (Option (List ℕ))) (key : ℕ)
      → kept (set tables key (table_after_apply to (kept tables key))) key ≡ table_after_apply to (kept tables key)
  put_same tables key =
      elim (cases_lt key (length tables)) [
        | inl within ↦ get_or-set_same tables key (table_after_apply to (kept tables key)) None within
        | inr past ↦
            let none = kept_past tables key past in
            kept_past (set tables key (table_after_apply to (kept tables key))) key
            (omega (arith, past, length-set tables key (table_after_apply to (kept tables key))))
            ∙ ap (λ (o : Option (List ℕ)). table_after_apply to o) (sym none)
      ]

  pub one_table_more : AreListedOnce r → (count : ℕ) (tables : List (Option (List ℕ))) (key : ℕ) → count < length r.order
      → key ≡ slice_index_or r.order count 0 → AreMapped count tables
      → AreMapped (count + 1) (slice_set tables key (table_after_apply to (kept tables key)))
  one_table_more listed count tables key within is before =
      let new : Option (List ℕ) = table_after_apply to (kept tables key) in
      let here : kept tables key ≡ kept r.tables key =
      before.rest key (λ i below same. omega (arith, below, listed.once i count (omega (arith, below, within)) within (same ∙ is))) in
      record {
        size = length-set tables key new ∙ before.size;
        done = λ i below.
            elim (cases_lt i count) [
              | inl earlier ↦
                  get_or-set_other tables key (slice_index_or r.order i 0) new None
                  (λ same. omega (arith, earlier, listed.once i count (omega (arith, earlier, within)) within (same ∙ is)))
                  ∙ before.done i earlier
              | inr last ↦
                  let same : i ≡ count = omega (arith, last, below) in
                  let at : slice_index_or r.order i 0 ≡ key = ap (λ (j : ℕ). slice_index_or r.order j 0) same ∙ sym is in
                  ap (λ (k : ℕ). kept (set tables key new) k) at ∙ put_same tables key
                  ∙ ap (λ (o : Option (List ℕ)). table_after_apply to o) here
                  ∙ ap (λ (k : ℕ). table_after_apply to (kept r.tables k)) (sym at)
            ];
        rest = λ k none.
            get_or-set_other tables key k new None (λ same. none count (omega arith) (sym is ∙ sym same))
            ∙ before.rest k (λ i below. none i (omega (arith, below)));
      }

  found : (key n : ℕ) → ((i : ℕ) × (i < n) × (slice_index_or r.order i 0 ≡ key)) ⊎ ((i : ℕ) → i < n → slice_index_or r.order i 0 ≢ key)
  found key zero = inr (λ i below same. omega (arith, below))
  found key (suc n) =
      elim (found key n) [
        | inl (i, below, is) ↦ inl (i, omega (arith, below), is)
        | inr none ↦
            elim (cases_eq (slice_index_or r.order n 0) key) [
              | inl same ↦ inl (n, omega arith, same)
              | inr other ↦
                  inr (λ i below same.
                  elim (cases_lt i n) [
                    | inl earlier ↦ none i earlier same
                    | inr last ↦
                        let at : i ≡ n = omega (arith, last, below) in
                        other (ap (λ (j : ℕ). slice_index_or r.order j 0) (sym at) ∙ same)
                  ])
            ]
      ]

  pub all_done : AreListedOnce r → (count : ℕ) (tables : List (Option (List ℕ))) → count ≡ length r.order → AreMapped count tables
      → tables ≡ map (table_after_apply to) r.tables
  all_done listed count tables is mapped =
      ext_get_or None tables (map (table_after_apply to) r.tables) (mapped.size ∙ sym (length-map r.tables (table_after_apply to)))
      (λ key below. each key ∙ sym (get_or-map (table_after_apply to) r.tables key None))
    where
      by_key : (key : ℕ) (o : Option (List ℕ)) → kept r.tables key ≡ o → kept tables key ≡ table_after_apply to (kept r.tables key)
      by_key key (Some slots) some =
          let P : Option (List ℕ) → Type 0 = λ o. IsSome o in
          let l = listed.listed key (subst P (sym some) refl) in
          let at : slice_index_or r.order l.0 0 ≡ key = get_or_default r.order l.0 0 key l.1 ∙ l.2 in
          ap (λ (k : ℕ). kept tables k) (sym at) ∙ mapped.done l.0 (omega (arith, l.1, is))
          ∙ ap (λ (k : ℕ). table_after_apply to (kept r.tables k)) at
      by_key key None none =
          elim (found key count) [
            | inl (i, below, at) ↦
                ap (λ (k : ℕ). kept tables k) (sym at) ∙ mapped.done i below
                ∙ ap (λ (k : ℕ). table_after_apply to (kept r.tables k)) at
            | inr other ↦ mapped.rest key other ∙ none ∙ ap (λ (o : Option (List ℕ)). table_after_apply to o) (sym none)
          ]

      each : (key : ℕ) → kept tables key ≡ table_after_apply to (kept r.tables key)
      each key = by_key key (kept r.tables key) refl

-- two ways to give the new addresses that agree make the same
module _ (to to' : Address → Option Address) (same : (at : Address) → to at ≡ to' at) where
  slots_same : (slots : List ℕ) → map (slot_after_apply to) slots ≡ map (slot_after_apply to') slots
  slots_same [] = refl
  slots_same (s ∷ ss) =
      ap (λ (o : Option Address). option_map_or (λ new. new) o s ∷ map (slot_after_apply to) ss) (same s)
      ∙ ap (λ (ys : List ℕ). slot_after_apply to' s ∷ ys) (slots_same ss)

  table_same : (table : Option (List ℕ)) → table_after_apply to table ≡ table_after_apply to' table
  table_same None = refl
  table_same (Some slots) = ap (λ (ys : List ℕ). Some ys) (slots_same slots)

  pub tables_same : (tables : List (Option (List ℕ))) → map (table_after_apply to) tables ≡ map (table_after_apply to') tables
  tables_same [] = refl
  tables_same (t ∷ ts) =
      ap (λ (o : Option (List ℕ)). o ∷ map (table_after_apply to) ts) (table_same t)
      ∙ ap (λ (ys : List (Option (List ℕ))). table_after_apply to' t ∷ ys) (tables_same ts)
