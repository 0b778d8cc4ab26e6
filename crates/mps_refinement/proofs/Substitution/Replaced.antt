-- The pairs of a transform give an old address its new one in a heap, as they give an old object its new one in a world.
use Rattle.std.proofs.Common.{◌≡◌, ◌∙◌, ℕ, ◌<◌, ◌≢◌, Bool, true, false, refl, sym, ap, List, [], ◌∷◌, Option, Some, None, inl, inr, arith}
use Rattle.std.proofs.lemmas.Bool.{and_parts, and_right, cases_eq, cond-false, eqb-true, ne_eqb}
use Rattle.std.proofs.lemmas.Option.{none-some, same_Some}
use Rattle.std.specs.Prelude.{◌==◌, ◌&&◌, ◌||◌, filter, if◌then◌else◌, option_map}
use Rattle.std.specs.List.{find, flat_map}
use Rattle.mps_abstract.specs.Colours.{AreDifferent}
use Rattle.mps_base.specs.Address.{Address, Id}
use Rattle.mps_model.specs.Graph.{contains, entry_at}
use Rattle.mps_model.specs.Transforms.{is_old, new_for}
use Rattle.mps_model.specs.World.{TransformPair, ids_of_pair}
use Rattle.mps_neighbours.specs.Transforms.{TransformsState, is_live, is_of, new_address, pair_of}
use Rattle.mps_xform.specs.declared.transforms.Pair.{Pair}
use Rattle.mps_refinement.specs.Transforms.{ArePairs, AreTransforms, IsPairOf}
use Rattle.mps_refinement.proofs.Parts.TransformChanges as changes

-- an object becomes another one, whose address is the new one, or it stays, and its address has no new one
pub data IsReplaced (addresses : List (Option Address)) (id new : Id) : Option Address → Type 0 where
  Stays : new ≡ id → IsReplaced addresses id new None
  Goes : {to : Address} → entry_at addresses new ≡ Some to → IsReplaced addresses id new (Some to)

-- a pair has an object's address and says whether a collection moves it, and the object is an old one; or neither
pub data IsPaired (moves : Id → Bool) (id : Id) : Option Pair → Bool → Type 0 where
  Unpaired : IsPaired moves id None false
  Paired : {q : Pair} → q.inside ≡ moves id → IsPaired moves id (Some q) true

module _ (number : ℕ → ℕ) (moves : Id → Bool) (addresses : List (Option Address)) (t : TransformsState) (transforms : List Bool)
    (pairs : List TransformPair) (are : AreTransforms number moves addresses t transforms pairs) (key : ℕ)
    (there : is_live t key ≡ true) where
  -- the new object is that of the first pair with the old one, and the new address is that of the first with its address
  pub replaced : AreDifferent addresses → (id : Id) (at : Address) → entry_at addresses id ≡ Some at
      → IsReplaced addresses id (new_for (filter (λ p. p.transform == number key) pairs) id) (new_address t key at)
  replaced different id at live = of_pairs t.pairs pairs are.pairs_are
    where
      same_object : (q : Pair) (p : TransformPair) → IsPairOf number moves addresses t.live q p → (q.old.0 == at) ≡ (p.old == id)
      same_object q p is =
          elim (cases_eq p.old id) [
            | inl same ↦ ap (λ n. n == at) (same_Some q.old.0 at (sym is.old ∙ ap (entry_at addresses) same ∙ live)) ∙ itself at
                ∙ sym (itself id) ∙ sym (ap (λ n. n == id) same)
            | inr apart ↦ unlike q.old.0 at (λ e. apart (different p.old id at (is.old ∙ ap Some e) live))
                ∙ sym (unlike p.old id apart)
          ]
        where
          itself : (n : ℕ) → (n == n) ≡ true
          itself n = grind arith

          unlike : (n m : ℕ) → n ≢ m → (n == m) ≡ false
          unlike n m apart = grind arith

      of_pairs : (qs : List Pair) (ps : List TransformPair) → ArePairs number moves addresses t.live qs ps
          → IsReplaced addresses id (new_for (filter (λ p. p.transform == number key) ps) id)
          (option_map (λ p. p.new.0) (find (λ p. is_of key p && (p.old.0 == at)) qs))
      of_pairs [] [] is = Stays refl
      of_pairs [] (p ∷ ps) is = absurd is
      of_pairs (q ∷ qs) [] is = absurd is
      of_pairs (q ∷ qs) (p ∷ ps) is = by_test (of_pairs qs ps is.1) (is_of key q) refl
        where
          by_object : IsReplaced addresses id (new_for (filter (λ p. p.transform == number key) ps) id)
              (option_map (λ p. p.new.0) (find (λ p. is_of key p && (p.old.0 == at)) qs)) → (b : Bool) → (q.old.0 == at) ≡ b
              → (p.old == id) ≡ b
              → IsReplaced addresses id (if p.old == id then p.new else new_for (filter (λ p. p.transform == number key) ps) id)
              (option_map (λ p. p.new.0) (if q.old.0 == at then Some q else find (λ p. is_of key p && (p.old.0 == at)) qs))
          by_object later true e f = rw (e, f) (Goes is.0.new)
          by_object later false e f = rw (e, f) later

          by_test : IsReplaced addresses id (new_for (filter (λ p. p.transform == number key) ps) id)
              (option_map (λ p. p.new.0) (find (λ p. is_of key p && (p.old.0 == at)) qs)) → (b : Bool) → is_of key q ≡ b
              → IsReplaced addresses id (new_for (filter (λ p. p.transform == number key) (p ∷ ps)) id)
              (option_map (λ p. p.new.0) (find (λ p. is_of key p && (p.old.0 == at)) (q ∷ qs)))
          by_test later true e =
              rw (e, sym (changes.same_transform number moves addresses t transforms pairs are key there q p is.0) ∙ e)
              (by_object later (q.old.0 == at) refl (sym (same_object q p is.0)))
          by_test later false e =
              rw (e, sym (changes.same_transform number moves addresses t transforms pairs are key there q p is.0) ∙ e) later

  -- null has no new address
  pub null_stays : ((id : Id) (at : Address) → entry_at addresses id ≡ Some at → 0 < at) → new_address t key 0 ≡ None
  null_stays positive = of_pairs t.pairs pairs are.pairs_are
    where
      of_pairs : (qs : List Pair) (ps : List TransformPair) → ArePairs number moves addresses t.live qs ps
          → option_map (λ p. p.new.0) (find (λ p. is_of key p && (p.old.0 == 0)) qs) ≡ None
      of_pairs [] ps is = refl
      of_pairs (q ∷ qs) [] is = absurd is
      of_pairs (q ∷ qs) (p ∷ ps) is =
          let some = positive p.old q.old.0 is.0.old in
          let other : (q.old.0 == 0) ≡ false = ne_eqb q.old.0 0 (λ e. omega (arith, e, some)) in
          ap (option_map (λ (x : Pair). x.new.0))
          (cond-false (is_of key q && (q.old.0 == 0)) (Some q) (find (λ x. is_of key x && (x.old.0 == 0)) qs)
          (and_right (is_of key q) (q.old.0 == 0) other))
          ∙ of_pairs qs ps is.1

  -- an object that isn't live is in no pair, so it stays
  pub dead_stays : (id : Id) → entry_at addresses id ≡ None → new_for (filter (λ p. p.transform == number key) pairs) id ≡ id
  dead_stays id dead = of_pairs t.pairs pairs are.pairs_are
    where
      of_pairs : (qs : List Pair) (ps : List TransformPair) → ArePairs number moves addresses t.live qs ps
          → new_for (filter (λ p. p.transform == number key) ps) id ≡ id
      of_pairs qs [] is = refl
      of_pairs [] (p ∷ ps) is = absurd is
      of_pairs (q ∷ qs) (p ∷ ps) is = by_test (of_pairs qs ps is.1) (p.transform == number key) refl
        where
          apart : (p.old == id) ≡ false
          apart = ne_eqb p.old id (λ e. none-some q.old.0 (sym dead ∙ ap (entry_at addresses) (sym e) ∙ is.0.old))

          by_test : new_for (filter (λ p. p.transform == number key) ps) id ≡ id → (b : Bool) → (p.transform == number key) ≡ b
              → new_for (filter (λ p. p.transform == number key) (p ∷ ps)) id ≡ id
          by_test later true e = rw (e, apart) later
          by_test later false e = rw e later

  -- ---- old objects

  pub paired : AreDifferent addresses → (id : Id) (at : Address) → entry_at addresses id ≡ Some at
      → IsPaired moves id (pair_of t key at) (is_old (filter (λ p. p.transform == number key) pairs) id)
  paired different id at live = of_pairs t.pairs pairs are.pairs_are
    where
      itself : (n : ℕ) → (n == n) ≡ true
      itself n = grind arith

      unlike : (n m : ℕ) → n ≢ m → (n == m) ≡ false
      unlike n m apart = grind arith

      of_pairs : (qs : List Pair) (ps : List TransformPair) → ArePairs number moves addresses t.live qs ps
          → IsPaired moves id (find (λ p. is_of key p && (p.old.0 == at)) qs) (is_old (filter (λ p. p.transform == number key) ps) id)
      of_pairs [] [] is = Unpaired
      of_pairs [] (p ∷ ps) is = absurd is
      of_pairs (q ∷ qs) [] is = absurd is
      of_pairs (q ∷ qs) (p ∷ ps) is = by_test (of_pairs qs ps is.1) (is_of key q) refl
        where
          by_object : IsPaired moves id (find (λ p. is_of key p && (p.old.0 == at)) qs)
              (is_old (filter (λ p. p.transform == number key) ps) id)
              → IsPaired moves id (if q.old.0 == at then Some q else find (λ p. is_of key p && (p.old.0 == at)) qs)
              ((p.old == id) || is_old (filter (λ p. p.transform == number key) ps) id)
          by_object later =
              elim (cases_eq p.old id) [
                | inl same ↦
                    let e : (q.old.0 == at) ≡ true =
                    ap (λ (n : ℕ). n == at) (same_Some q.old.0 at (sym is.0.old ∙ ap (entry_at addresses) same ∙ live)) ∙ itself at in
                    let f : (p.old == id) ≡ true = ap (λ (n : ℕ). n == id) same ∙ itself id in
                    rw (e, f) (Paired (is.0.inside ∙ ap moves same))
                | inr apart ↦
                    let e : (q.old.0 == at) ≡ false = unlike q.old.0 at (λ x. apart (different p.old id at (is.0.old ∙ ap Some x) live)) in
                    let f : (p.old == id) ≡ false = unlike p.old id apart in
                    rw (e, f) later
              ]

          by_test : IsPaired moves id (find (λ p. is_of key p && (p.old.0 == at)) qs)
              (is_old (filter (λ p. p.transform == number key) ps) id) → (b : Bool) → is_of key q ≡ b
              → IsPaired moves id (find (λ p. is_of key p && (p.old.0 == at)) (q ∷ qs))
              (is_old (filter (λ p. p.transform == number key) (p ∷ ps)) id)
          by_test later true e =
              rw (e, sym (changes.same_transform number moves addresses t transforms pairs are key there q p is.0) ∙ e) (by_object later)
          by_test later false e =
              rw (e, sym (changes.same_transform number moves addresses t transforms pairs are key there q p is.0) ∙ e) later

  -- an address that has a pair is that of a live object in a pair
  pub pair_is_live : (at : Address) (q : Pair) → pair_of t key at ≡ Some q
      → (id : Id) × (entry_at addresses id ≡ Some at) × (contains (flat_map ids_of_pair pairs) id ≡ true)
  pair_is_live at q found = of_pairs t.pairs pairs are.pairs_are found
    where
      of_pairs : (qs : List Pair) (ps : List TransformPair) → ArePairs number moves addresses t.live qs ps
          → find (λ p. is_of key p && (p.old.0 == at)) qs ≡ Some q
          → (id : Id) × (entry_at addresses id ≡ Some at) × (contains (flat_map ids_of_pair ps) id ≡ true)
      of_pairs [] ps is e = absurd (none-some q e)
      of_pairs (r ∷ qs) [] is e = absurd is
      of_pairs (r ∷ qs) (p ∷ ps) is e = by_test (of_pairs qs ps is.1) (is_of key r && (r.old.0 == at)) refl e
        where
          first : (a b : ℕ) (ids : List ℕ) → contains (a ∷ b ∷ ids) a ≡ true
          first a b ids = grind arith

          later_one : (a b : ℕ) (ids : List ℕ) (id : ℕ) → contains ids id ≡ true → contains (a ∷ b ∷ ids) id ≡ true
          later_one a b ids id there = grind arith

          by_test : (find (λ p. is_of key p && (p.old.0 == at)) qs ≡ Some q
              → (id : Id) × (entry_at addresses id ≡ Some at) × (contains (flat_map ids_of_pair ps) id ≡ true)) → (b : Bool)
              → (is_of key r && (r.old.0 == at)) ≡ b → find (λ p. is_of key p && (p.old.0 == at)) (r ∷ qs) ≡ Some q
              → (id : Id) × (entry_at addresses id ≡ Some at) × (contains (flat_map ids_of_pair (p ∷ ps)) id ≡ true)
          by_test later true b e =
              let same = eqb-true r.old.0 at (and_parts (is_of key r) (r.old.0 == at) b).1 in
              (p.old, is.0.old ∙ ap Some same, first p.old p.new (flat_map ids_of_pair ps))
          by_test later false b e =
              let x =
              later (sym (cond-false (is_of key r && (r.old.0 == at)) (Some r)
              (find (λ p. is_of key p && (p.old.0 == at)) qs) b) ∙ e) in
              (x.0, x.1, later_one p.old p.new (flat_map ids_of_pair ps) x.0 x.2)
