-- A loan of words: what the borrower leaves in them is what the arena has there when the loan ends.
use Rattle.std.specs.Prelude.{ℕ, List, length, take}
use Rattle.std.specs.Borrow.{Lends, MutBor, Fml, Array, u64}
use Rattle.mps_base.specs.Address.{word_of}
use Rattle.mps_arena.specs.Arena.{with_words}
use Rattle.mps_seg.specs.Segs.{SegsState}
use Rattle.mps_seg.specs.contracts.segs.Segs.{the_row}

-- when the loan ends, the borrowed words are what the borrower left in them
abbrev pub LendsSegmentWords : MutBor SegsState → ℕ → MutBor (List ℕ) → Fml
LendsSegmentWords segs at loan =
    Lends the_row (Array u64 0) segs loan (λ ws. record segs.now { words = with_words segs.now.words (word_of at) ws })

-- the same of a loan of all words that are stored from an address on: it has as many words as it began with
abbrev pub LendsHeldWords : MutBor SegsState → ℕ → MutBor (List ℕ) → Fml
LendsHeldWords segs at loan =
    Lends the_row (Array u64 0) segs loan
    (λ ws. record segs.now { words = with_words segs.now.words (word_of at) (take (length loan.now) ws) })
