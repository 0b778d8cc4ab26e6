-- Loans of words of the memory: the borrowed words are what the borrower leaves in them.
use Rattle.std.specs.Prelude.{ℕ, List, length, take}
use Rattle.std.specs.Borrow.{Lends, MutBor, Fml, Array, u64}
use Rattle.mps_arena.specs.Arena.{with_words}
use Rattle.mps_arena.specs.Memory.{StoredWords}
use Rattle.mps_arena.specs.contracts.memory.Memory.{the_row}

-- when the loan ends, the borrowed words are what the borrower left in them, and all words are stored
abbrev pub LendsMemoryWords : MutBor StoredWords → ℕ → MutBor (List ℕ) → Fml
LendsMemoryWords memory from loan =
    Lends the_row (Array u64 0) memory loan
    (λ ws. record { words = with_words memory.now.words from ws; stored = length memory.now.words })

-- when the loan ends, the borrowed words are what the borrower left in them, and no more words are stored
abbrev pub LendsStoredWords : MutBor StoredWords → ℕ → MutBor (List ℕ) → Fml
LendsStoredWords memory from loan =
    Lends the_row (Array u64 0) memory loan
    (λ ws. record memory.now { words = with_words memory.now.words from (take (length loan.now) ws) })
