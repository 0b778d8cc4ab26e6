-- A block that is taken from a cache is of the pool of its cache, and of the size of its class.
use Rattle.std.proofs.Common.{◌≡◌, ℕ, Bool, true, false, refl, subst, List, [], ◌∷◌, Option, Some, None}
use Rattle.std.proofs.lemmas.Bool.{and_parts, eqb-true}
use Rattle.std.proofs.lemmas.Option.{none-some, same_Some}
use Rattle.std.specs.Prelude.{◌==◌, if◌then◌else◌, option_map}
use Rattle.std.specs.List.{list_all}
use Rattle.mps_base.specs.Address.{Id}
use Rattle.mps_model.specs.Caches.{last_of, taken_from, without_last}
use Rattle.mps_model.specs.Graph.{CacheClass}
use Rattle.mps_model.specs.WellFormed.{is_right_block, is_right_class}
use Rattle.mps_model.specs.World.{World}

-- the last of numbers that all pass a test passes it
last_passes : (test : ℕ → Bool) (ids : List ℕ) (id : ℕ) → list_all test ids ≡ true → last_of ids ≡ Some id → test id ≡ true
last_passes test [] id all e = absurd (none-some id e)
last_passes test (n ∷ []) id all e = subst (λ m. test m ≡ true) (same_Some n id e) (and_parts (test n) true all).0
last_passes test (n ∷ m ∷ ids) id all e = last_passes test (m ∷ ids) id (and_parts (test n) (list_all test (m ∷ ids)) all).1 e

-- whether a block that is taken is one of this pool and size
abbrev IsRight : World → (pool words : ℕ) → Id × List CacheClass → Type 0
IsRight w pool words taken = is_right_block w pool words taken.0 ≡ true

-- the block that is taken is of the pool and of the size of its class
pub taken_right : (w : World) (pool words : ℕ) (ks : List CacheClass) (id : ℕ) (left : List CacheClass)
    → list_all (is_right_class w pool) ks ≡ true → taken_from ks words ≡ Some (id, left) → is_right_block w pool words id ≡ true
taken_right w pool words [] id left all e = absurd (none-some (id, left) e)
taken_right w pool words (k ∷ ks) id left all e =
    let parts = and_parts (is_right_class w pool k) (list_all (is_right_class w pool) ks) all in
    of_size (k.words == words) refl (λ i rest is. taken_right w pool words ks i rest parts.1 is) parts.0 e
  where
    of_last : k.words ≡ words → list_all (is_right_block w pool k.words) k.cached ≡ true → (o : Option ℕ) → last_of k.cached ≡ o
        → option_map {U = Id × List CacheClass} (λ i. (i, record k { cached = without_last k.cached } ∷ ks)) o ≡ Some (id, left)
        → IsRight w pool words (id, left)
    of_last size all None is h = absurd (none-some (id, left) h)
    of_last size all (Some last) is h =
        subst (IsRight w pool words) (same_Some (last, record k { cached = without_last k.cached } ∷ ks) (id, left) h)
        (subst (λ n. is_right_block w pool n last ≡ true) size (last_passes (is_right_block w pool k.words) k.cached last all is))

    of_rest : ((i : Id) (rest : List CacheClass) → taken_from ks words ≡ Some (i, rest) → IsRight w pool words (i, rest))
        → (o : Option (Id × List CacheClass)) → taken_from ks words ≡ o
        → option_map {U = Id × List CacheClass} (λ t. (t.0, k ∷ t.1)) o ≡ Some (id, left) → IsRight w pool words (id, left)
    of_rest later None is h = absurd (none-some (id, left) h)
    of_rest later (Some t) is h = subst (IsRight w pool words) (same_Some (t.0, k ∷ t.1) (id, left) h) (later t.0 t.1 is)

    of_size : (b : Bool) → (k.words == words) ≡ b
        → ((i : Id) (rest : List CacheClass) → taken_from ks words ≡ Some (i, rest) → IsRight w pool words (i, rest))
        → is_right_class w pool k ≡ true
        → (if b then option_map {U = Id × List CacheClass} (λ i. (i, record k { cached = without_last k.cached } ∷ ks)) (last_of k.cached)
        else option_map {U = Id × List CacheClass} (λ t. (t.0, k ∷ t.1)) (taken_from ks words)) ≡ Some (id, left)
        → IsRight w pool words (id, left)
    of_size true same later all h = of_last (eqb-true k.words words same) all (last_of k.cached) refl h
    of_size false same later all h = of_rest later (taken_from ks words) refl h
