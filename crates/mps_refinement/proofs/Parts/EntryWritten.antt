-- What is kept under keys stands for the same numbers after an entry of one list is written in both.
use Rattle.std.proofs.Common.{◌≡◌, ◌∙◌, ℕ, sym, ap, subst, List, [], map, Option, Some, IsSome, is_some, inl, inr}
use Rattle.std.proofs.lemmas.Bool.{cases_eq}
use Rattle.std.specs.Prelude.{◌≢◌, slice_set}
use Rattle.std.specs.Option.{option_map_or}
use Rattle.mps_laws.proofs.Lookups.{map-slice_set}
use Rattle.mps_model.specs.Checked.{Found}
use Rattle.mps_model.specs.Graph.{entry_at}
use Rattle.mps_heap_spec.specs.declared.found.Entry.{Entry}
use Rattle.mps_refinement.specs.Numbering.{AreNumbered}
use Rattle.mps_refinement.proofs.Lookups.Found.{IsEntry, AreMapped, some_there}
use Rattle.mps_refinement.proofs.Parts.Numbering.{item_written, kept_other, numbered_written}
use Rattle.mps_root.specs.State.{kept, with_item}

module _ {A : Type 0} (rows : List (Option (List A))) (key index : ℕ) (value : A) where
  other_kept : (other : ℕ) → other ≢ key → kept (with_item rows key index value) other ≡ kept rows other
  other_kept other apart =
      kept_other rows key other (Some (slice_set (option_map_or (λ items. items) (kept rows key) []) index value)) apart

  -- where there is a list under a key there still is
  pub kept_still : (other : ℕ) → IsSome (kept rows other) → IsSome (kept (with_item rows key index value) other)
  kept_still other some = elim (cases_eq other key) [
    | inl same ↦
        let row = some_there (kept rows key) (subst (λ k. IsSome (kept rows k)) same some) in
        ap (λ k. is_some (kept (with_item rows key index value) k)) same ∙ ap is_some (item_written rows key index value row.0 row.1)
    | inr apart ↦ ap is_some (other_kept other apart) ∙ some
  ]

-- an entry of a list is written
pub entry_written : {A B : Type 0} (f : B → A) (numbers : ℕ → ℕ) (rows : List (Option (List A))) (entries : List (Option (List B)))
    (index : ℕ) (x : Entry A) (y : Found B) (a : A) (b : B) → AreNumbered (AreMapped f) numbers (kept rows) entries
    → IsEntry f numbers (kept rows) (entry_at entries) index x y → a ≡ f b
    → AreNumbered (AreMapped f) numbers (kept (with_item rows x.key x.index a))
    (slice_set entries y.number (Some (slice_set y.list y.index b)))
entry_written f numbers rows entries index x y a b are is same =
    let after = kept (with_item rows x.key x.index a) in
    let new = slice_set y.list y.index b in
    subst (λ n. AreNumbered (AreMapped f) numbers after (slice_set entries n (Some new))) (sym is.number)
    (numbered_written (AreMapped f) numbers (kept rows) after entries are x.key (other_kept rows x.key x.index a) is.list
    (slice_set is.list x.index a) new is.kept (item_written rows x.key x.index a is.list is.kept)
    (ap (λ items. slice_set items x.index a) is.lists ∙ ap (slice_set (map f y.list) x.index) same
    ∙ ap (λ i. slice_set (map f y.list) i (f b)) (is.index_is ∙ sym is.found_index)
    ∙ sym (map-slice_set f y.list y.index b)))
