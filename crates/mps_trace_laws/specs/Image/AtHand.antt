-- The free words of the tails of copying pools and of the buffers of points, while a collection runs.
use Rattle.std.specs.Prelude.{◌≡◌, ◌≢◌, ℕ, ◌+◌, ◌<◌, false, ◌&&◌, nat_le, nat_lt, if◌then◌else◌, Option, Some, None, List, [], ◌∷◌, refl}
use Rattle.mps_base.specs.Address.{Address, Word}
use Rattle.mps_base.specs.Run.{end_of}
use Rattle.mps_model.specs.Graph.{Object, Reservation}
use Rattle.mps_model.specs.World.{Tail}
use Rattle.mps_trace_laws.specs.Image.Memory.{Setting, Lies, LiesReserved}

-- the pool for which a word is free, and the number of the tail or buffer to which it belongs
pub record Hand : Type 0 where
  pub pool : ℕ
  pub number : ℕ

-- the free words of tails: the first tail that covers the word
abbrev pub hand_in_tails : List Tail → Word → Option Hand
hand_in_tails [] n = None
hand_in_tails (t ∷ ts) n =
    if nat_le t.words.from n && nat_lt n (end_of t.words) then Some
    (record { pool = t.pool; number = t.generation }) else hand_in_tails ts n

-- free words of both lie in segments of their pool that aren't condemned, and nothing lies there. Else a copy could be put where a
-- block was that has moved, which nothing covers
pub record HandsStand (s : Setting) (hand : Word → Option Hand) (addresses : List (Option Address)) : Type 0 where
  pub within : (n : Word) (p : Hand) → hand n ≡ Some p → n < s.size
  pub not_condemned : (n : Word) (p : Hand) → hand n ≡ Some p → s.is_condemned_over n ≡ false
  pub home : (n : Word) (p : Hand) → hand n ≡ Some p → s.pool_over n ≡ Some p.pool
  pub free : (n : Word) (p : Hand) (id i : ℕ) (o : Object) → hand n ≡ Some p → Lies s.objects addresses id i o n → ⊥
  pub unreserved : (n : Word) (p : Hand) (point l : ℕ) (r : Reservation) → hand n ≡ Some p
      → LiesReserved s.points s.point_memories point l r n → ⊥

-- n free words were taken for a block
pub record AreTaken (hand hand' : Word → Option Hand) (from : Word) (size : ℕ) : Type 0 where
  pub was : (n : Word) (p : Hand) → hand' n ≡ Some p → hand n ≡ Some p
  pub gone : (n k : ℕ) (p : Hand) → hand' n ≡ Some p → k < size → n ≢ from + k

-- ---- vectors: two tails

abbrev tails : List Tail
tails =
    record { pool = 1; generation = 0; words = record { from = 512; count = 4 } }
    ∷ record { pool = 1; generation = 1; words = record { from = 1024; count = 2 } } ∷ []

pub a_word_of_a_tail : hand_in_tails tails 1025 ≡ Some (record { pool = 1; number = 1 })
a_word_of_a_tail = refl

pub a_word_after_a_tail : hand_in_tails tails 516 ≡ None
a_word_after_a_tail = refl
