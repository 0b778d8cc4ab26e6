-- Where paths lead: nowhere from a set of ids that is closed under references.
use Rattle.std.proofs.Common.{◌≡◌, ℕ, Bool, true, false, refl, List, [], ◌∷◌, ◌&&◌, ◌||◌, subst}
use Rattle.std.proofs.lemmas.Bool.{eqb-true}
use Rattle.std.specs.Prelude.{IsTrue, ◌==◌}
use Rattle.std.specs.List.{list_all}
use Rattle.mps_model.specs.Graph.{contains}
use Rattle.mps_model.specs.Reachable.{PathLeads, begins, goes_on}

list_all-step : (p : ℕ → Bool) (x : ℕ) (xs : List ℕ) (y : ℕ) → (list_all p xs ≡ true → contains xs y ≡ true → p y ≡ true) → (b e : Bool)
    → p x ≡ b → (x == y) ≡ e → (b && list_all p xs) ≡ true → (e || contains xs y) ≡ true → p y ≡ true
list_all-step p x xs y next false e px xy all has = absurd cc
list_all-step p x xs y next true true px xy all has = subst (λ n. p n ≡ true) (eqb-true x y xy) px
list_all-step p x xs y next true false px xy all has = next all has

-- what holds of each element holds of each that is contained
pub list_all-contains : (p : ℕ → Bool) (xs : List ℕ) (y : ℕ) → list_all p xs ≡ true → contains xs y ≡ true → p y ≡ true
list_all-contains p [] y all has = absurd cc
list_all-contains p (x ∷ xs) y all has =
    list_all-step p x xs y (list_all-contains p xs y) (p x) (x == y) refl refl all has

-- whether each id of a set refers to ids of the set alone
abbrev pub is_closed : (next : ℕ → List ℕ) → List ℕ → Bool
is_closed next ids = list_all (λ from. list_all (contains ids) (next from)) ids

-- paths that begin in a closed set stay in it
pub PathLeads-closed : (next : ℕ → List ℕ) (seeds ids : List ℕ) → IsTrue (list_all (contains ids) seeds) → IsTrue (is_closed next ids)
    → {id : ℕ} → PathLeads next seeds id → IsTrue (contains ids id)
PathLeads-closed next seeds ids first closed (begins {id} h) = list_all-contains (contains ids) seeds id first h
PathLeads-closed next seeds ids first closed (goes_on {from} {to} path h) =
    list_all-contains (contains ids) (next from) to
    (list_all-contains (λ f. list_all (contains ids) (next f)) ids from closed (PathLeads-closed next seeds ids first closed path))
    h

-- what holds of the ids where paths begin, and is passed on by each step, holds wherever a path leads
pub PathLeads-holds : (next : ℕ → List ℕ) (seeds : List ℕ) (Holds : ℕ → Type 0) → ((id : ℕ) → IsTrue (contains seeds id) → Holds id)
    → ((from to : ℕ) → Holds from → IsTrue (contains (next from) to) → Holds to) → {id : ℕ} → PathLeads next seeds id → Holds id
PathLeads-holds next seeds Holds first step (begins {id} h) = first id h
PathLeads-holds next seeds Holds first step (goes_on {from} {to} path h) =
    step from to (PathLeads-holds next seeds Holds first step path) h
