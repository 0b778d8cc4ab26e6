-- The order of one table that was made.
use Rattle.std.proofs.Common.{ℕ, ◌≡◌, ◌≢◌, Option, None, IsSome, List, [], ◌∷◌, Contains, length, sym, ap, ◌∙◌, subst, inl, inr, arith}
use Rattle.std.specs.Prelude.{slice_set}
use Rattle.std.proofs.lemmas.Bool.{cases_eq, false≢true}
use Rattle.std.proofs.lemmas.List.{get_or-set_other}
use Rattle.mps_root.specs.State.{RootsState, kept}
use Rattle.mps_xform.specs.Slots.{AreListedOnce}

-- one table alone is there, and its key is the order
pub record IsAlone (key : ℕ) (r : RootsState) : Type 0 where
  pub order : r.order ≡ key ∷ []
  pub others : (other : ℕ) → other ≢ key → kept r.tables other ≡ None

pub alone_still : (key : ℕ) (r r' : RootsState) (table : Option (List ℕ)) → IsAlone key r → r'.order ≡ r.order
    → r'.tables ≡ slice_set r.tables key table → IsAlone key r'
alone_still key r r' table alone order tables = record {
  order = order ∙ alone.order;
  others = λ other apart.
      ap (λ (ts : List (Option (List ℕ))). kept ts other) tables ∙ get_or-set_other r.tables key other table None apart
      ∙ alone.others other apart;
}

pub alone_is_listed : (key : ℕ) (r : RootsState) → IsAlone key r → AreListedOnce r
alone_is_listed key r alone = record {
  listed = λ k there.
      let P : List ℕ → Type 0 = λ ks. Contains ks k in
      elim (cases_eq k key) [
        | inl same ↦ subst P (sym alone.order) (0, omega arith, sym same)
        | inr other ↦
            let Q : Option (List ℕ) → Type 0 = λ o. IsSome o in
            absurd (false≢true (subst Q (alone.others k other) there))
      ];
  once = λ i j below below'.
      let short = ap (λ (ks : List ℕ). length ks) alone.order in
      λ same. omega (arith, below, below', short);
}
