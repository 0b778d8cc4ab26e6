-- A reply that says an answer, whatever words the arena has.
use Rattle.std.specs.Prelude.{◌≡◌, ℕ, List, refl}
use Rattle.mps_model.specs.Answer.{Answer, Replied, answer_of}
use Rattle.mps_model.specs.declared.reply.Reply.{Reply}
use Rattle.mps_model.specs.declared.reply.Reply.TheVariants as reply

pub record Tells (given : Reply) (answer : Answer) : Type 0 where
  pub told : (arena : List ℕ) → answer_of arena given ≡ answer

pub ok_tells_ok : Tells reply.Ok (Replied reply.Ok)
ok_tells_ok = record { told = λ arena. refl }
