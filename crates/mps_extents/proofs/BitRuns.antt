-- The runs that begin where a table has a bit.
use Rattle.std.proofs.Common.{ℕ, zero, suc, ◌+◌, ◌<◌, ◌≡◌, Bool, true, false, List, [], ◌∷◌, length, get_or, set, Contains, refl, sym, ap, ◌∙◌, subst, inl, inr, arith}
use Rattle.std.proofs.lemmas.Bool.{true≢false, false≢true}
use Rattle.mps_base.specs.Run.{Run, with_run, without_run}
use Rattle.mps_base.proofs.Runs.{with_run_first, with_run_later, without_run_first, without_run_later, contains_cases, contains_first, contains_later}
use Rattle.mps_extents.specs.Inside.{runs_with}

-- a run before all others
run_before_all : (f : ℕ → ℕ) (at : ℕ) (bits : List Bool) (r : Run) → r.from < at
    → with_run r (runs_with f at bits) ≡ r ∷ runs_with f at bits
unfolding runs_with
run_before_all f at [] r before = refl
run_before_all f at (false ∷ bits) r before = run_before_all f (suc at) bits r (omega arith)
run_before_all f at (true ∷ bits) r before = with_run_first r (record { from = at; count = f at }) (runs_with f (suc at) bits) before

pub runs_with-put : (f : ℕ → ℕ) (at : ℕ) (bits : List Bool) (i : ℕ) → i < length bits → get_or bits i false ≡ false
    → runs_with f at (set bits i true) ≡ with_run (record { from = at + i; count = f (at + i) }) (runs_with f at bits)
unfolding runs_with
runs_with-put f at [] i within none = absurd (omega arith)
runs_with-put f at (true ∷ bits) zero within none = absurd (true≢false none)
runs_with-put f at (false ∷ bits) zero within none =
    let shifted : at ≡ at + 0 = omega arith in
    sym (run_before_all f (suc at) bits (record { from = at; count = f at }) (omega arith))
    ∙ ap (λ (a : ℕ). with_run (record { from = a; count = f a }) (runs_with f (suc at) bits)) shifted
runs_with-put f at (false ∷ bits) (suc i) within none =
    let shifted : suc at + i ≡ at + suc i = omega arith in
    runs_with-put f (suc at) bits i (omega arith) none
    ∙ ap (λ (a : ℕ). with_run (record { from = a; count = f a }) (runs_with f (suc at) bits)) shifted
runs_with-put f at (true ∷ bits) (suc i) within none =
    let shifted : suc at + i ≡ at + suc i = omega arith in
    let first : Run = record { from = at; count = f at } in
    let put : Run = record { from = at + suc i; count = f (at + suc i) } in
    ap (λ (rs : List Run). first ∷ rs)
    (runs_with-put f (suc at) bits i (omega arith) none
    ∙ ap (λ (a : ℕ). with_run (record { from = a; count = f a }) (runs_with f (suc at) bits)) shifted)
    ∙ sym (with_run_later put first (runs_with f (suc at) bits) (omega arith))

pub runs_with-taken : (f : ℕ → ℕ) (at : ℕ) (bits : List Bool) (i : ℕ) → i < length bits → get_or bits i false ≡ true
    → runs_with f at (set bits i false) ≡ without_run (at + i) (runs_with f at bits)
unfolding runs_with
runs_with-taken f at [] i within some = absurd (omega arith)
runs_with-taken f at (false ∷ bits) zero within some = absurd (false≢true some)
runs_with-taken f at (true ∷ bits) zero within some =
    sym (without_run_first (at + 0) (record { from = at; count = f at }) (runs_with f (suc at) bits) (omega arith))
runs_with-taken f at (false ∷ bits) (suc i) within some =
    let shifted : suc at + i ≡ at + suc i = omega arith in
    runs_with-taken f (suc at) bits i (omega arith) some ∙ ap (λ (a : ℕ). without_run a (runs_with f (suc at) bits)) shifted
runs_with-taken f at (true ∷ bits) (suc i) within some =
    let shifted : suc at + i ≡ at + suc i = omega arith in
    let first : Run = record { from = at; count = f at } in
    ap (λ (rs : List Run). first ∷ rs)
    (runs_with-taken f (suc at) bits i (omega arith) some ∙ ap (λ (a : ℕ). without_run a (runs_with f (suc at) bits)) shifted)
    ∙ sym (without_run_later (at + suc i) first (runs_with f (suc at) bits) (λ e. omega arith))

pub runs_with_same : (f g : ℕ → ℕ) (at : ℕ) (bits : List Bool) → ((i : ℕ) → get_or bits i false ≡ true → f (at + i) ≡ g (at + i))
    → runs_with f at bits ≡ runs_with g at bits
unfolding runs_with
runs_with_same f g at [] same = refl
runs_with_same f g at (false ∷ bits) same =
    runs_with_same f g (suc at) bits
    (λ i is. let shifted : suc at + i ≡ at + suc i = omega arith in ap f shifted ∙ same (suc i) is ∙ ap g (sym shifted))
runs_with_same f g at (true ∷ bits) same =
    let here : at + 0 ≡ at = omega arith in
    let first : f at ≡ g at = ap f (sym here) ∙ same 0 refl ∙ ap g here in
    let rest =
    runs_with_same f g (suc at) bits
    (λ i is. let shifted : suc at + i ≡ at + suc i = omega arith in ap f shifted ∙ same (suc i) is ∙ ap g (sym shifted))
    in
    ap (λ (n : ℕ). record { from = at; count = n } ∷ runs_with f (suc at) bits) first
    ∙ ap (λ (rs : List Run). record { from = at; count = g at } ∷ rs) rest

pub run_of_bit : (f : ℕ → ℕ) (at : ℕ) (bits : List Bool) (i : ℕ) → get_or bits i false ≡ true
    → Contains (runs_with f at bits) (record { from = at + i; count = f (at + i) })
unfolding runs_with
run_of_bit f at [] i is = absurd (false≢true is)
run_of_bit f at (false ∷ bits) zero is = absurd (false≢true is)
run_of_bit f at (true ∷ bits) zero is =
    let shifted : at ≡ at + 0 = omega arith in
    let P : ℕ → Type 0 = λ a. Contains (runs_with f at (true ∷ bits)) (record { from = a; count = f a }) in
    subst P shifted (contains_first (runs_with f (suc at) bits) (record { from = at; count = f at }))
run_of_bit f at (false ∷ bits) (suc i) is =
    let shifted : suc at + i ≡ at + suc i = omega arith in
    let P : ℕ → Type 0 = λ a. Contains (runs_with f (suc at) bits) (record { from = a; count = f a }) in
    subst P shifted (run_of_bit f (suc at) bits i is)
run_of_bit f at (true ∷ bits) (suc i) is =
    let shifted : suc at + i ≡ at + suc i = omega arith in
    let P : ℕ → Type 0 = λ a. Contains (runs_with f (suc at) bits) (record { from = a; count = f a }) in
    contains_later (runs_with f (suc at) bits) (record { from = at + suc i; count = f (at + suc i) }) (record { from = at; count = f at })
    (subst P shifted (run_of_bit f (suc at) bits i is))

pub bit_of_run : (f : ℕ → ℕ) (at : ℕ) (bits : List Bool) (r : Run) → Contains (runs_with f at bits) r
    → (i : ℕ) × (get_or bits i false ≡ true) × (r.from ≡ at + i) × (r.count ≡ f (at + i))
unfolding runs_with
bit_of_run f at [] r (k, within, is) = absurd (omega arith)
bit_of_run f at (false ∷ bits) r there =
    let later = bit_of_run f (suc at) bits r there in
    let shifted : suc at + later.0 ≡ at + suc later.0 = omega arith in
    (suc later.0, later.1, later.2 ∙ shifted, later.3 ∙ ap f shifted)
bit_of_run f at (true ∷ bits) r there =
    let first : Run = record { from = at; count = f at } in
    elim (contains_cases (runs_with f (suc at) bits) r first there) [
      | inl same ↦
          let shifted : at ≡ at + 0 = omega arith in
          (0, refl, sym (ap (λ (x : Run). x.from) same) ∙ shifted, sym (ap (λ (x : Run). x.count) same) ∙ ap f shifted)
      | inr other ↦
          let later = bit_of_run f (suc at) bits r other in
          let shifted : suc at + later.0 ≡ at + suc later.0 = omega arith in
          (suc later.0, later.1, later.2 ∙ shifted, later.3 ∙ ap f shifted)
    ]
