-- Tables of calls on one world. A row is a call, and what it answers where it alone is made.
use Rattle.std.specs.Prelude.{◌≡◌, ℕ, false, List, map}
use Rattle.mps_base.specs.declared.refusal.Refusal.{Refusal}
use Rattle.mps_model.specs.declared.call.Call.{Call}
use Rattle.mps_model.specs.declared.reply.Reply.{Reply}
use Rattle.mps_model.specs.Answer.{Answer, Replied, Dumped, refused}
use Rattle.mps_model.specs.World.{World}
use Rattle.mps_model.specs.Reply.{reply_to}

pub record Row : Type 0 where
  pub call : Call
  pub answer : Answer

-- the call is refused so
abbrev pub refuses : Call → Refusal → Row
refuses call why = record { call = call; answer = refused why }

-- the call is accepted with this reply
abbrev pub replies : Call → Reply → Row
replies call given = record { call = call; answer = Replied given }

-- the call prints these words
abbrev pub dumps : Call → List ℕ → Row
dumps call words = record { call = call; answer = Dumped words }

-- in this world each call answers as its row says
abbrev pub AreAnswered : World → List Row → Type 0
AreAnswered w rows = map (λ r. reply_to false w w r.call) rows ≡ map (λ r. r.answer) rows
