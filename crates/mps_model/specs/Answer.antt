-- What a call answers, in a history. It is the reply of the program, but for `dump`: there the program's reply names the
-- place of the words, and the answer has the words themselves.
use Rattle.std.specs.Prelude.{◌≡◌, ℕ, Bool, true, false, List, [], ◌∷◌, take, drop, refl}
use Rattle.mps_base.specs.Address.{word_of}
use Rattle.mps_base.specs.declared.refusal.Refusal.{Refusal}
use Rattle.mps_model.specs.declared.reply.Reply.{Reply}
use Rattle.mps_model.specs.declared.reply.Reply.TheVariants as reply

pub data Answer : Type 0 where
  -- any reply but that of an accepted `dump`
  Replied : (given : Reply) → Answer
  -- the words that a `dump` prints
  Dumped : (words : List ℕ) → Answer

-- the answer that a reply represents, if the arena has these words, its word 0 at address 0
abbrev pub answer_of : (arena : List ℕ) → Reply → Answer
answer_of arena (reply.Words at count) = Dumped (take count (drop (word_of at.0) arena))
answer_of arena given = Replied given

-- the answer of a refused call
abbrev pub refused : Refusal → Answer
refused why = Replied (reply.Refused why)

-- whether the answer is `ok`
abbrev pub is_accepted : Answer → Bool
is_accepted (Replied reply.Ok) = true
is_accepted _ = false

-- whether the answer is `block`
abbrev pub is_block : Answer → Bool
is_block (Replied reply.Block) = true
is_block _ = false

-- whether the answer is a refusal
abbrev pub is_refused : Answer → Bool
is_refused (Replied (reply.Refused why)) = true
is_refused _ = false

pub a_dump_has_its_words : answer_of (0 ∷ 0x201 ∷ 7 ∷ 9 ∷ []) (reply.Words (record { 0 = 8 }) 2) ≡ Dumped (0x201 ∷ 7 ∷ [])
a_dump_has_its_words = refl
