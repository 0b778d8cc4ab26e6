-- What the placement of a new run can be, and what the arena answers.
use Rattle.std.proofs.Common.{ℕ, ◌+◌, ◌≡◌, List, length, refl, ap, ◌∙◌, inl, inr, arith, ◌≤◌, ◌*◌, Option, Some, None, Result, Ok, Err}
use Rattle.std.proofs.lemmas.Bool.{cases_lt, lt-ltb, le-ltb}
use Rattle.mps_base.specs.Address.{address_of_grain, grain_of, bytes_of_grain}
use Rattle.mps_base.specs.Placement.{NewSegment, run_placement, Placement, Place, OverLimit, NoFreeRun}
use Rattle.mps_base.specs.Run.{Run, total, gaps, lowest_fitting, longest}
use Rattle.mps_base.specs.declared.address.Addr.{Addr}
use Rattle.mps_base.specs.declared.refusal.Refusal.{Refusal}
use Rattle.mps_base.specs.declared.refusal.Refusal.TheVariants.{CommitLimit, NoRun}
use Rattle.mps_arena.specs.Arena.{ArenaMemory, answer_of_placement, placement_in, held_after}

-- a new run is placed at a grain, or refused
pub data PlacementCases (grains limit : ℕ) (held : List Run) (need : ℕ) : Type 0 where
  placed : (grain : ℕ) → run_placement grains limit held need ≡ NewSegment grain need
      → lowest_fitting need (gaps 1 (grains + 1) held) ≡ Some grain → PlacementCases grains limit held need
  refused : (why : Refusal) → answer_of_placement (run_placement grains limit held need) ≡ Err why → PlacementCases grains limit held need

pub placement_cases : (grains limit : ℕ) (held : List Run) (need : ℕ) → PlacementCases grains limit held need
placement_cases grains limit held need =
    elim (cases_lt limit (total held + need)) [
      | inl over ↦ refused (over_limit held limit need) (rw (lt-ltb limit (total held + need) over) refl)
      | inr room ↦ go (lowest_fitting need (gaps 1 (grains + 1) held)) refl room
    ]
  where
    over_limit : List Run → ℕ → ℕ → Refusal
    over_limit held limit need = CommitLimit (total held) need limit

    go : (o : Option ℕ) → lowest_fitting need (gaps 1 (grains + 1) held) ≡ o → total held + need ≤ limit
        → PlacementCases grains limit held need
    go (Some grain) is room = placed grain (rw (le-ltb limit (total held + need) room) (rw is refl)) is
    go None is room = refused (NoRun need (longest (gaps 1 (grains + 1) held))) (rw (le-ltb limit (total held + need) room) (rw is refl))

pub record TakenAt (arena : ArenaMemory) (need grain : ℕ) (base : Addr) : Type 0 where
  pub placement_is : placement_in arena need ≡ NewSegment grain need
  pub lowest : lowest_fitting need (gaps 1 (arena.grains + 1) arena.held) ≡ Some grain
  pub base_is : grain_of base.0 ≡ grain
  pub base_at : base.0 ≡ address_of_grain grain

pub taken_at : (arena : ArenaMemory) (need : ℕ) (base : Addr) → Ok base ≡ answer_of_placement (placement_in arena need)
    → (grain : ℕ) × TakenAt arena need grain base
taken_at arena need base answer =
    elim (placement_cases arena.grains arena.limit arena.held need) [
      | placed grain placement_is lowest ↦
          let left : Result Addr Refusal = Ok base in
          let right : Result Addr Refusal = Ok (record { 0 = address_of_grain grain }) in
          let both : left ≡ right = answer ∙ ap answer_of_placement placement_is in
          let same : base ≡ record { 0 = address_of_grain grain } = cc in
          let at : base.0 ≡ address_of_grain grain = ap (λ (a : Addr). a.0) same in
          (grain, record { placement_is = placement_is; lowest = lowest; base_is = omega (arith, at); base_at = at })
      | refused why refusal ↦
          let left : Result Addr Refusal = Ok base in
          let never : left ≡ Err why = answer ∙ refusal in
          cc
    ]

-- where the arena refuses, it holds the same runs
pub refused_held : (p : Placement) (why : Refusal) (held : List Run) → Err why ≡ answer_of_placement p → held_after p held ≡ held
refused_held (Place word) why held is =
    let left : Result Addr Refusal = Err why in let never : left ≡ Ok (record { 0 = 8 * word }) = is in cc
refused_held (NewSegment grain grains) why held is =
    let left : Result Addr Refusal = Err why in let never : left ≡ Ok (record { 0 = bytes_of_grain * grain }) = is in cc
refused_held (OverLimit committed need limit) why held is = refl
refused_held (NoFreeRun need length) why held is = refl
