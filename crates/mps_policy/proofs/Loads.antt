-- A table with a row for each chain has what the chains hold.
use Rattle.std.proofs.Common.{ℕ, suc, ◌+◌, ◌<◌, ◌≤◌, ◌≡◌, Option, List, [], ◌∷◌, length, get_or, refl, sym, ap, ◌∙◌, arith}
use Rattle.mps_base.specs.Generation.{Due, greatest_over, due_from, due_or, later}
use Rattle.mps_base.specs.Segment.{Segment}
use Rattle.mps_gen.specs.State.{ChainsState, loads, due_in}
use Rattle.mps_policy.specs.Due.{held_by_generation, held_by_generations, loads_from, due_now}

module _ (c : ChainsState) (ss : List Segment) where
  -- of a row only as many numbers are read as the chain has generations
  greatest_of_row : (chain generation : ℕ) (capacities row : List ℕ) → length capacities ≤ length row
      → ((i : ℕ) → i < length capacities → get_or row i 0 ≡ held_by_generation c ss chain (generation + i))
      → greatest_over generation capacities row
      ≡ greatest_over generation capacities (held_by_generations c ss chain generation (length capacities))
  greatest_of_row chain generation [] row enough each = refl
  greatest_of_row chain generation (k ∷ ks) [] enough each = absurd (omega (arith, enough))
  greatest_of_row chain generation (k ∷ ks) (n ∷ ns) enough each =
      let this : generation + 0 ≡ generation = omega arith in
      let head : n ≡ held_by_generation c ss chain generation =
      each 0 (omega arith) ∙ ap (λ (g : ℕ). held_by_generation c ss chain g) this
      in
      let tail =
      greatest_of_row chain (generation + 1) ks ns (omega (arith, enough))
      (λ i below.
      let next : generation + suc i ≡ generation + 1 + i = omega arith in
      each (suc i) (omega (arith, below)) ∙ ap (λ (g : ℕ). held_by_generation c ss chain g) next)
      in
      ap (λ (h : ℕ). greatest_over generation (k ∷ ks) (h ∷ ns)) head
      ∙ ap (λ (o : Option ℕ). later (greatest_over generation (k ∷ []) (held_by_generation c ss chain generation ∷ [])) o) tail

  due_of_rows : (chain : ℕ) (chains rows : List (List ℕ)) → length chains ≤ length rows
      → ((i : ℕ) → i < length chains → length (get_or chains i []) ≤ length (get_or rows i []))
      → ((i generation : ℕ) → i < length chains → generation < length (get_or chains i [])
      → get_or (get_or rows i []) generation 0 ≡ held_by_generation c ss (chain + i) generation)
      → due_from chain (loads chains rows) ≡ due_from chain (loads_from c ss chain chains)
  due_of_rows chain [] rows enough wide each = refl
  due_of_rows chain (k ∷ ks) [] enough wide each = absurd (omega (arith, enough))
  due_of_rows chain (k ∷ ks) (r ∷ rs) enough wide each =
      let this : chain + 0 ≡ chain = omega arith in
      let head =
      greatest_of_row chain 0 k r (wide 0 (omega arith))
      (λ i below.
      let young : 0 + i ≡ i = omega arith in
      each 0 i (omega arith) below ∙ ap (λ (n : ℕ). held_by_generation c ss n i) this
      ∙ ap (λ (g : ℕ). held_by_generation c ss chain g) (sym young))
      in
      let tail =
      due_of_rows (chain + 1) ks rs (omega (arith, enough)) (λ i below. wide (suc i) (omega (arith, below)))
      (λ i generation below within.
      let next : chain + suc i ≡ chain + 1 + i = omega arith in
      each (suc i) generation (omega (arith, below)) within ∙ ap (λ (n : ℕ). held_by_generation c ss n generation) next)
      in
      ap (λ (o : Option ℕ). due_or chain o (due_from (chain + 1) (loads ks rs))) head
      ∙ ap (λ (o : Option Due). due_or chain (greatest_over 0 k (held_by_generations c ss chain 0 (length k))) o) tail

  pub due_of_table : (rows : List (List ℕ)) → length c.chains ≤ length rows
      → ((i : ℕ) → i < length c.chains → length (get_or c.chains i []) ≤ length (get_or rows i []))
      → ((chain generation : ℕ) → chain < length c.chains → generation < length (get_or c.chains chain [])
      → get_or (get_or rows chain []) generation 0 ≡ held_by_generation c ss chain generation)
      → due_in c rows ≡ due_now c ss
  due_of_table rows enough wide each =
      due_of_rows 0 c.chains rows enough wide
      (λ i generation below within.
      let same : i ≡ 0 + i = omega arith in
      each i generation below within ∙ ap (λ (n : ℕ). held_by_generation c ss n generation) same)
