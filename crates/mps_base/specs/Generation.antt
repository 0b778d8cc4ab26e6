-- Generations of a chain: where survivors go, and which generation is due for collection.
use Rattle.std.specs.Prelude.{◌≡◌, ℕ, ◌+◌, ◌-◌, min, nat_lt, if◌then◌else◌, Option, Some, None, List, [], ◌∷◌, refl}

-- a chain as a collection sees it: how many grains each generation may have before it is due, and how many it has
pub record Load : Type 0 where
  pub capacities : List ℕ
  pub held : List ℕ

-- the generation to which a block of this generation moves, on a chain of n generations
abbrev pub target_on_chain : (generations generation : ℕ) → ℕ
target_on_chain generations generation = min (generation + 1) (generations - 1)

-- the generation to which a block moves; a pool on no chain has generation 0 alone
abbrev pub target_generation : (generations : Option ℕ) (generation : ℕ) → ℕ
target_generation None generation = 0
target_generation (Some generations) generation = target_on_chain generations generation

-- the second if there is one, else the first
abbrev pub later : Option ℕ → Option ℕ → Option ℕ
later first None = first
later first (Some n) = Some n

-- the greatest generation, from this one on, that holds more grains than its capacity
abbrev pub greatest_over : (generation : ℕ) (capacities held : List ℕ) → Option ℕ
greatest_over generation [] held = None
greatest_over generation (c ∷ cs) [] = None
greatest_over generation (c ∷ cs) (h ∷ hs) =
    later (if nat_lt c h then Some generation else None) (greatest_over (generation + 1) cs hs)

-- a chain and a generation of it
pub record Due : Type 0 where
  pub chain : ℕ
  pub generation : ℕ

-- this chain's generation if it has one, else what the later chains have
abbrev pub due_or : (chain : ℕ) → Option ℕ → Option Due → Option Due
due_or chain (Some generation) others = Some (record { chain = chain; generation = generation })
due_or chain None others = others

-- the first chain, from this number on, with a generation over its capacity, and the greatest such generation of it
abbrev pub due_from : (chain : ℕ) → List Load → Option Due
due_from chain [] = None
due_from chain (l ∷ ls) = due_or chain (greatest_over 0 l.capacities l.held) (due_from (chain + 1) ls)

-- which generation of which chain is due, of the chains in the order of making
abbrev pub due_generation : List Load → Option Due
due_generation loads = due_from 0 loads

pub survivors_go_one_up : target_generation (Some 3) 0 ≡ 1
survivors_go_one_up = refl

pub the_oldest_stay : target_generation (Some 3) 2 ≡ 2
the_oldest_stay = refl

pub no_chain_is_generation_zero : target_generation None 0 ≡ 0
no_chain_is_generation_zero = refl

-- the first chain has no generation over its capacity, the second has two
abbrev example : List Load
example =
    record { capacities = 4 ∷ 8 ∷ []; held = 4 ∷ 8 ∷ [] }
    ∷ record { capacities = 1 ∷ 1 ∷ 1 ∷ []; held = 2 ∷ 2 ∷ 1 ∷ [] }
    ∷ record { capacities = 0 ∷ []; held = 1 ∷ [] }
    ∷ []

pub the_greatest_of_the_first_chain_over : due_generation example ≡ Some (record { chain = 1; generation = 1 })
the_greatest_of_the_first_chain_over = refl

pub a_full_generation_is_not_due : due_generation (record { capacities = 4 ∷ 8 ∷ []; held = 4 ∷ 8 ∷ [] } ∷ []) ≡ None
a_full_generation_is_not_due = refl

pub one_grain_more_is_due :
    due_generation (record { capacities = 4 ∷ 8 ∷ []; held = 5 ∷ 8 ∷ [] } ∷ []) ≡ Some (record { chain = 0; generation = 0 })
one_grain_more_is_due = refl
