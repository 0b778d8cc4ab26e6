-- The answers for which an address and the place of a block's words stand.
use Rattle.std.specs.Prelude.{◌≡◌, ℕ, List, [], ◌∷◌, refl}
use Rattle.mps_base.specs.declared.address.Addr.{Addr}
use Rattle.mps_model.specs.declared.reply.Reply.TheVariants as reply
use Rattle.mps_model.specs.Answer.{Answer, Replied, Dumped, answer_of}

abbrev pub says_address : Addr → Answer
says_address at = Replied (reply.Word at.0)

-- that many words of the arena from an address on
abbrev pub says_words : (arena : List ℕ) → Addr → (count : ℕ) → Answer
says_words arena at count = answer_of arena (reply.Words at count)

pub two_words_are_said : says_words (0 ∷ 0x201 ∷ 7 ∷ 9 ∷ []) (record { 0 = 8 }) 2 ≡ Dumped (0x201 ∷ 7 ∷ [])
two_words_are_said = refl
