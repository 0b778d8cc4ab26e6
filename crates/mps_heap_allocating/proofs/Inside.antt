-- A block that was made lies in the arena.
use Rattle.std.proofs.Common.{ℕ, ◌<◌, ◌≤◌, true, false, List, [], ◌∷◌, arith}
use Rattle.std.specs.Prelude.{nat_lt, if◌then◌else◌}
use Rattle.mps_base.specs.Run.{Run, IsAscending, end_of, with_run}

below : (low high : ℕ) (rs : List Run) → IsAscending low high rs → low ≤ high
below low high [] up = up
below low high (r ∷ rs) up =
    let first = up.0 in let some = up.1 in let rest = below (end_of r) high rs up.2 in omega (arith, first, some, rest)

pub begins_inside : (low high : ℕ) (r : Run) (rs : List Run) → IsAscending low high (with_run r rs) → r.from < high
begins_inside low high r [] up =
    let first = up.0 in let some = up.1 in let rest = below (end_of r) high [] up.2 in omega (arith, first, some, rest)
begins_inside low high r (x ∷ xs) up =
    elim (nat_lt r.from x.from) as (λ b. IsAscending low high (if b then r ∷ x ∷ xs else x ∷ with_run r xs) → r.from < high) [
      | true ↦ (λ now.
          let first = now.0 in let some = now.1 in let rest = below (end_of r) high (x ∷ xs) now.2 in omega (arith, first, some, rest))
      | false ↦ (λ now. begins_inside (end_of x) high r xs now.2)
    ] up
