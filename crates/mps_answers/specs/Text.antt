-- The answer line of a reply.
use Rattle.std.specs.Prelude.{ℕ, Bool, true, false, List}
use Rattle.mps_model.specs.declared.reply.Reply.{Reply}
use Rattle.mps_model.specs.declared.reply.Reply.TheVariants as reply
use Rattle.mps_model.specs.Answer.{Replied}
use Rattle.mps_model.specs.Text.{line_of_answer}

-- whether the text of a reply is known by the reply alone, as it is but for the words of a dump
abbrev pub is_printable : Reply → Bool
is_printable (reply.Words at words) = false
is_printable _ = true

-- the answer line of a reply
abbrev pub text_of : Reply → List ℕ
text_of r = line_of_answer (Replied r)
