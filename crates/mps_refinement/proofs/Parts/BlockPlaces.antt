-- A place of a table of blocks is written in both, where the blocks in other places have the addresses that they had.
use Rattle.std.proofs.Common.{◌≡◌, ◌∙◌, ℕ, zero, suc, refl, ap, List, [], ◌∷◌, length, map, Option, Some, None, arith}
use Rattle.std.proofs.lemmas.List.Sums.{sum_by-set}
use Rattle.std.proofs.lemmas.Option.{slice_get_within, get_or_from_slice_get, slice_get-map}
use Rattle.std.specs.Prelude.{◌≢◌, slice_get, slice_set, slice_index_or, sum_by, option_map}
use Rattle.mps_base.specs.Address.{Address}
use Rattle.mps_laws.proofs.Lookups.{length-slice_set}
use Rattle.mps_model.specs.Graph.{Slots}
use Rattle.mps_root.specs.State.{with_place}
use Rattle.mps_refinement.proofs.Worlds.PlacedOnce.{IsIn}

-- ---- lists

map_same : {X Y : Type 0} (f g : X → Y) (xs : List X) → ((k : ℕ) (x : X) → slice_get xs k ≡ Some x → f x ≡ g x) → map f xs ≡ map g xs
map_same f g [] same = refl
map_same f g (x ∷ xs) same =
    ap (λ y. y ∷ map f xs) (same zero x refl) ∙ ap (λ ys. g x ∷ ys) (map_same f g xs (λ k y e. same (suc k) y e))

-- one entry is written, and the others are the same
map_written : {X Y : Type 0} (f g : X → Y) (xs : List X) (n : ℕ) (new : X)
    → ((k : ℕ) (x : X) → k ≢ n → slice_get xs k ≡ Some x → f x ≡ g x) → slice_set (map f xs) n (g new) ≡ map g (slice_set xs n new)
map_written f g [] n new same = refl
map_written f g (x ∷ xs) zero new same =
    ap (λ ys. g new ∷ ys) (map_same f g xs (λ k y e. same (suc k) y (λ z. let never : suc k ≡ zero = z in omega (arith, never)) e))
map_written f g (x ∷ xs) (suc n) new same =
    ap (λ y. y ∷ slice_set (map f xs) n (g new)) (same zero x (λ z. let never : zero ≡ suc n = z in omega (arith, never)) refl)
    ∙ ap (λ ys. g x ∷ ys) (map_written f g xs n new (λ k y other e. same (suc k) y (λ z. other (omega (arith, z))) e))

sum_still : {X : Type 0} (f : X → ℕ) (xs : List X) (i : ℕ) (old new : X) → slice_get xs i ≡ Some old → f new ≡ f old
    → sum_by f (slice_set xs i new) ≡ sum_by f xs
sum_still f xs i old new there same =
    let e = sum_by-set f xs i new old (slice_get_within xs i old there) in
    let was = ap f (get_or_from_slice_get xs i old old there) in
    omega (arith, e, was, same)

-- ---- places

module _ (blocks : List Slots) (n i : ℕ) (row : Slots) (x : Option ℕ) (has : slice_get blocks n ≡ Some row) where
  abbrev after : List Slots
  after = slice_set blocks n (slice_set row i x)

  pub places_count : length after ≡ length blocks
  places_count = length-slice_set blocks n (slice_set row i x)

  pub places_counted : sum_by length after ≡ sum_by length blocks
  places_counted = sum_still length blocks n row (slice_set row i x) has (length-slice_set row i x)

  pub place_written : (addresses others : Option ℕ → Address) → addresses None ≡ others None
      → ((m k id : ℕ) → IsIn blocks m k id → ((m ≡ n) × (k ≡ i) → ⊥) → addresses (Some id) ≡ others (Some id))
      → with_place (map (map addresses) blocks) n i (others x) ≡ map (map others) after
  place_written addresses others null same =
      ap (λ r. slice_set (map (map addresses) blocks) n (slice_set r i (others x))) row_is
      ∙ ap (λ r. slice_set (map (map addresses) blocks) n r) (map_written addresses others row i x own)
      ∙ map_written (map addresses) (map others) blocks n (slice_set row i x) (λ m r other e. map_same addresses others r (λ k y f.
      of_entry m k r e y f (λ z. other z.0)))
    where
      row_is : slice_index_or (map (map addresses) blocks) n [] ≡ map addresses row
      row_is =
          get_or_from_slice_get (map (map addresses) blocks) n (map addresses row) []
          (slice_get-map (map addresses) blocks n ∙ ap (option_map (map addresses)) has)

      of_entry : (m k : ℕ) (r : Slots) → slice_get blocks m ≡ Some r → (y : Option ℕ) → slice_get r k ≡ Some y → ((m ≡ n) × (k ≡ i) → ⊥)
          → addresses y ≡ others y
      of_entry m k r e None f apart = null
      of_entry m k r e (Some id) f apart = same m k id (record { row = r; table = e; entry = f }) apart

      own : (k : ℕ) (y : Option ℕ) → k ≢ i → slice_get row k ≡ Some y → addresses y ≡ others y
      own k y other e = of_entry n k row has y e (λ z. other z.1)

  pub place_length : (ours : List (List Address)) (at : Address) → length (with_place ours n i at) ≡ length ours
  place_length ours at = length-slice_set ours n (slice_set (slice_index_or ours n []) i at)
