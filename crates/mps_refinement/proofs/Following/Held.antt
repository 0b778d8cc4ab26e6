-- What a legal step asks of the world after it, and what a call does with the collection that runs, where objects have dependents.
use Rattle.std.proofs.Common.{◌≡◌, ◌∙◌, ℕ, ◌+◌, Bool, true, false, refl, ap, List, [], ◌∷◌, ◌++◌, Option, Some, None, inl, inr}
use Rattle.std.proofs.lemmas.Bool.{and_from, and_parts, eq-eqb, or_cases, or_left, or_right}
use Rattle.std.specs.Prelude.{◌==◌, ◌&&◌, ◌||◌, not, option_map, IsTrue, nat_lt}
use Rattle.std.specs.List.{flat_map, list_all}
use Rattle.std.specs.Option.{option_map_or}
use Rattle.mps_base.specs.Address.{Id}
use Rattle.mps_model.specs.Collection.{Collection, is_condemned, is_kept_in_place}
use Rattle.mps_model.specs.Graph.{contains, ids_of_client, targets}
use Rattle.mps_model.specs.World.{World, is_live, is_running, live_ids}
use Rattle.mps_model.specs.History.{HeldAreLive, are_held_kept, asking, has_units_left, is_held_rightly, remembering, with_client_remembered}
use Rattle.mps_model.proofs.Reaching.{list_all-contains}
use Rattle.mps_refinement.specs.Following.{Following, followed, paired_at_flip}
use Rattle.mps_refinement.proofs.Following.Cleared.{cleared_targets}
use Rattle.mps_refinement.proofs.Following.Legal.{all_alike, copying_same, running_same}
use Rattle.mps_refinement.proofs.Following.Moves.{changed_follows}

-- ---- lists of fewer ids

all_contained : (p : ℕ → Bool) (xs : List ℕ) → ((n : ℕ) → contains xs n ≡ true → p n ≡ true) → list_all p xs ≡ true
all_contained p [] each = refl
all_contained p (x ∷ xs) each =
    and_from (p x) (list_all p xs) (each x (or_left (x == x) (contains xs x) (eq-eqb x x refl)))
    (all_contained p xs (λ n h. each n (or_right (x == n) (contains xs n) h)))

split_all : (p : ℕ → Bool) (xs ys : List ℕ) → list_all p (xs ++ ys) ≡ true → (list_all p xs ≡ true) × (list_all p ys ≡ true)
split_all p [] ys h = (refl, h)
split_all p (x ∷ xs) ys h =
    let parts = and_parts (p x) (list_all p (xs ++ ys)) h in
    let rest = split_all p xs ys parts.1 in
    (and_from (p x) (list_all p xs) parts.0 rest.0, rest.1)

join_all : (p : ℕ → Bool) (xs ys : List ℕ) → list_all p xs ≡ true → list_all p ys ≡ true → list_all p (xs ++ ys) ≡ true
join_all p [] ys h k = k
join_all p (x ∷ xs) ys h k =
    let parts = and_parts (p x) (list_all p xs) h in
    and_from (p x) (list_all p (xs ++ ys)) parts.0 (join_all p xs ys parts.1 k)

fewer_pass : (p : ℕ → Bool) (more fewer : ℕ → List ℕ) → ((id n : ℕ) → contains (fewer id) n ≡ true → contains (more id) n ≡ true)
    → (ids : List ℕ) → list_all p (flat_map more ids) ≡ true → list_all p (flat_map fewer ids) ≡ true
fewer_pass p more fewer each [] h = refl
fewer_pass p more fewer each (id ∷ ids) h =
    let parts = split_all p (more id) (flat_map more ids) h in
    join_all p (fewer id) (flat_map fewer ids)
    (all_contained p (fewer id) (λ n k. list_all-contains p (more id) n parts.0 (each id n k)))
    (fewer_pass p more fewer each ids parts.1)

-- ---- the world after a step

module _ (w : World) (f : Following) where
  abbrev none_weak : Id → Bool
  none_weak id = false

  or_still : (x : Bool) → IsTrue (is_running w || x) → (y : Bool) → (x ≡ true → y ≡ true) → IsTrue (is_running (followed w f) || y)
  or_still x h y each = elim (or_cases (is_running w) x h) [
    | inl runs ↦ or_left (is_running (followed w f)) y (running_same none_weak w f ∙ runs)
    | inr is ↦ or_right (is_running (followed w f)) y (each is)
  ]

  pub held_still : HeldAreLive w → HeldAreLive (followed w f)
  held_still h = record {
    client = h.client;
    blocks = h.blocks;
    referred = or_still (list_all (is_live w) (flat_map (targets w.graph) (live_ids w))) h.referred
        (list_all (is_live w) (flat_map (targets (followed w f).graph) (live_ids w)))
        (fewer_pass (is_live w) (targets w.graph) (targets (followed w f).graph)
        (λ id n. cleared_targets w.graph.objects f.cells id n) (live_ids w));
    transforms = or_still _ h.transforms _ (λ is. is);
  }

  pub held_kept_same : are_held_kept (followed w f) ≡ are_held_kept w
  held_kept_same = of_collection w.collection
    where
      of_collection : (o : Option Collection)
          → option_map_or (λ c. list_all (is_held_rightly (followed w f) c) (ids_of_client w.graph))
          (option_map (paired_at_flip f.at_flip) o) true
          ≡ option_map_or (λ c. list_all (is_held_rightly w c) (ids_of_client w.graph)) o true
      of_collection None = refl
      of_collection (Some c) =
          all_alike (is_held_rightly (followed w f) (paired_at_flip f.at_flip c)) (is_held_rightly w c) (ids_of_client w.graph) (λ id.
          ap (λ b. not (is_condemned c id && b) || is_kept_in_place c id) (copying_same none_weak w f id))

  pub units_left_same : has_units_left (followed w f) ≡ has_units_left w
  units_left_same = of_collection w.collection
    where
      of_collection : (o : Option Collection)
          → option_map_or (λ c. nat_lt c.spent c.units) (option_map (paired_at_flip f.at_flip) o) true
          ≡ option_map_or (λ c. nat_lt c.spent c.units) o true
      of_collection None = refl
      of_collection (Some c) = refl

  -- units are asked of a running collection
  pub asked_follows : (units : Option ℕ) → asking units (followed w f) ≡ followed (asking units w) f
  asked_follows None = refl
  asked_follows (Some units) = changed_follows w f (λ (c : Collection). record c { spent = c.spent + units }) (λ c. refl)

  -- what the client holds is remembered
  pub remembered_follows : with_client_remembered (followed w f) ≡ followed (with_client_remembered w) f
  remembered_follows = changed_follows w f (remembering (ids_of_client w.graph)) (λ c. refl)
