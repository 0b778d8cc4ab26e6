-- What is kept of caches is the same where the blocks that lie in them have the addresses that they had. And how often something stands
-- in a list.
use Rattle.std.proofs.Common.{◌≡◌, ◌∙◌, ◌≤◌, ℕ, Bool, true, false, true≢false, refl, sym, ap, List, [], ◌∷◌, map, Option, arith}
use Rattle.std.proofs.lemmas.Bool.{and_from, eq-eqb, false≢true, ne_eqb}
use Rattle.std.specs.Prelude.{◌==◌, ◌||◌, ◌≢◌, not, if◌then◌else◌}
use Rattle.std.specs.List.{flat_map, list_all}
use Rattle.std.specs.Option.{option_map_or}
use Rattle.mps_base.specs.Address.{Address, Id}
use Rattle.mps_changes.proofs.OneMore.{last_more, occurs_more}
use Rattle.mps_laws.proofs.Sound.HeldIds.{All}
use Rattle.mps_abstract.proofs.Lists.{contains_here, contains_later, contains_left, contains_right}
use Rattle.mps_model.specs.Graph.{Cache, CacheClass, contains, from_last, ids_of_cache, occurrences}
use Rattle.mps_model.proofs.Reaching.{list_all-contains}
use Rattle.mps_refinement.specs.Beside.{kept_cache, kept_class}
use Rattle.mps_refinement.specs.StandsFor.{address_of_id}
use Rattle.mps_refinement.proofs.Collect.SameAddresses.{AreSame}

-- what stands nowhere in a list is other than all in it
pub none_equal : (id : ℕ) (ids : List ℕ) → occurrences ids id ≡ 0 → All (λ j. not (id == j)) ids
none_equal id [] none = refl
none_equal id (j ∷ js) none = of_test (j == id) refl (λ rest. none_equal id js rest)
  where
    of_test : (b : Bool) → (j == id) ≡ b → (occurrences js id ≡ 0 → All (λ k. not (id == k)) js) → All (λ k. not (id == k)) (j ∷ js)
    of_test true e later =
        let one : ◌≡◌ {A = ℕ} (if j == id then 1 else 0) 1 = ap (λ b. if b then 1 else 0) e in absurd (omega (arith, one, none))
    of_test false e later =
        let first : ◌≡◌ {A = ℕ} (if j == id then 1 else 0) 0 = ap (λ b. if b then 1 else 0) e in
        and_from (not (id == j)) (list_all (λ k. not (id == k)) js)
        (ap not (ne_eqb id j (λ same. true≢false (sym (eq-eqb j id (sym same)) ∙ e))))
        (later (omega (arith, first, none)))

pub others_in : (id : ℕ) (ids : List ℕ) → occurrences ids id ≡ 0 → (j : ℕ) → contains ids j ≡ true → id ≢ j
others_in id ids none j there same =
    true≢false (sym (list_all-contains (λ k. not (id == k)) ids j (none_equal id ids none) there) ∙ ap not (eq-eqb id j same))

-- what stands in a list stands there as often from the last to the first
pub reversed_occurs : (j : ℕ) (ids : List ℕ) → occurrences (from_last ids) j ≡ occurrences ids j
reversed_occurs j [] = refl
reversed_occurs j (id ∷ ids) =
    let more = occurs_more j (last_more (from_last ids) id) in
    let rest = reversed_occurs j ids in
    omega (arith, more, rest)

-- what is in a list stands there
pub occurs_there : (ids : List ℕ) (id : ℕ) → contains ids id ≡ true → 1 ≤ occurrences ids id
occurs_there [] id there = absurd (false≢true there)
occurs_there (n ∷ ids) id there = of_test (n == id) refl (λ later. occurs_there ids id later) there
  where
    of_test : (b : Bool) → (n == id) ≡ b → (contains ids id ≡ true → 1 ≤ occurrences ids id)
        → (b || contains ids id) ≡ true → 1 ≤ occurrences (n ∷ ids) id
    of_test true e later is =
        let one : ◌≡◌ {A = ℕ} (if n == id then 1 else 0) 1 = ap (λ c. if c then 1 else 0) e in omega (arith, one)
    of_test false e later is = let some = later is in omega (arith, some)

module _ (before after : List (Option Address)) where
  same_ids : (ids : List Id) → AreSame before after ids → map (address_of_id before) ids ≡ map (address_of_id after) ids
  same_ids [] same = refl
  same_ids (id ∷ ids) same =
      ap (λ o. option_map_or (λ at. at) o 0 ∷ map (address_of_id before) ids) (sym (same id (contains_here id ids)))
      ∙ ap (λ rest. address_of_id after id ∷ rest) (same_ids ids (λ n h. same n (contains_later id ids n h)))

  same_classes : (ks : List CacheClass) → AreSame before after (flat_map (λ (k : CacheClass). k.cached) ks)
      → map (kept_class before) ks ≡ map (kept_class after) ks
  same_classes [] same = refl
  same_classes (k ∷ ks) same =
      ap (λ blocks. record { words = k.words; limit = k.limit; blocks = blocks } ∷ map (kept_class before) ks)
      (same_ids k.cached (λ n h. same n (contains_left k.cached (flat_map (λ (k : CacheClass). k.cached) ks) n h)))
      ∙ ap (λ rest. kept_class after k ∷ rest)
      (same_classes ks (λ n h. same n (contains_right k.cached (flat_map (λ (k : CacheClass). k.cached) ks) n h)))

  pub same_caches : (qs : List Cache) → AreSame before after (flat_map ids_of_cache qs)
      → map (kept_cache before) qs ≡ map (kept_cache after) qs
  same_caches [] same = refl
  same_caches (q ∷ qs) same =
      ap (λ classes. record { pool = q.pool; classes = classes } ∷ map (kept_cache before) qs)
      (same_classes q.classes (λ n h. same n (contains_left (ids_of_cache q) (flat_map ids_of_cache qs) n h)))
      ∙ ap (λ rest. kept_cache after q ∷ rest)
      (same_caches qs (λ n h. same n (contains_right (ids_of_cache q) (flat_map ids_of_cache qs) n h)))
