-- Calls that change nothing: right where what they read and the model's act come to the same answer.
use Rattle.std.proofs.Common.{◌≡◌, Bool, true, false, refl, sym, ap, subst, [], Ok, Err}
use Rattle.mps_format.specs.Layout.{Layout}
use Rattle.mps_laws.proofs.Same as same
use Rattle.mps_laws.proofs.Same.{Same, fits}
use Rattle.mps_model.specs.declared.call.Call.{Call}
use Rattle.mps_model.specs.declared.reply.Reply.TheVariants as reply
use Rattle.mps_model.specs.Answer.{Answer, Replied}
use Rattle.mps_model.specs.Checked.{Act, Checked, ◌>>=◌, tells}
use Rattle.mps_model.specs.Reply.{act}
use Rattle.mps_model.specs.World.{World}
use Rattle.mps_heap_spec.specs.Coming.{Outcome, Comes}
use Rattle.mps_heap_spec.specs.State.{HeapState}
use Rattle.mps_refinement.proofs.Worlds.CollectorKept.{all_kept}
use Rattle.mps_refinement.specs.RightStep.{IsRight}
use Rattle.mps_refinement.specs.StandsFor.{AreParts, Past}
pub use Rattle.mps_refinement.specs.Answering.{says_bool}
use Rattle.mps_refinement.proofs.Worlds.Steps.{Leads, answer_to, quiet_is_right}
use Rattle.mps_refinement.proofs.Worlds.RunningActs.{is_plain}
use Rattle.mps_refinement.specs.QuietCalls.{never_moves}
use Rattle.mps_refinement.proofs.Worlds.Known.{IsKnown}

-- ---- answers

-- a call that says `ok` where it is accepted
abbrev pub says_ok : Unit {0} → Answer
says_ok done = Replied reply.Ok

-- ---- acts

-- an act that changes nothing
abbrev pub act_reading : World → Answer → Act
act_reading w answer = record { answer = answer; world = w }

-- what was read is what an act that changes nothing answers
abbrev pub IsReading : {A : Type 0} → World → (says : A → Answer) → A → Act → Type 0
IsReading w says value a = a ≡ act_reading w (says value)

pub tells_same : (w : World) (value asked : Bool) → value ≡ asked → Same (IsReading w says_bool) (Ok value) (tells asked w)
tells_same w value asked is = subst (λ b. Same (IsReading w says_bool) (Ok b) (tells asked w)) (sym is) (of_bool asked)
  where
    of_bool : (b : Bool) → Same (IsReading w says_bool) (Ok b) (tells b w)
    of_bool true = fits refl
    of_bool false = fits refl

module _ {F : Type 0} (layout : F → Layout) {A : Type 0} (says : A → Answer) (h : HeapState F) (c : Call) where
  -- the outcome of a call that changes nothing
  abbrev reading : Checked A → Checked (Outcome F A)
  reading x = x >>= (λ (a : A). Ok (record { answer = a; state = h }))

  reading_comes : (x : Checked A) → Comes h (reading x) x h
  reading_comes (Ok a) = record { answer = refl; state = refl }
  reading_comes (Err why) = record { answer = refl; state = refl }

  reading_leads : (w : World) (past : Past) → AreParts layout past h w → (x : Checked A) (y : Checked Act) → Same (IsReading w says) x y
      → Same (Leads layout says h past w) (reading x) y
  reading_leads w past parts x y (fits is) = fits (record {
    answer = ap (λ (a : Act). a.answer) is;
    keeps = all_kept h;
    formats = ap (λ (a : Act). a.world.formats) is;
    has = record { past = past; timed = refl; parts = subst (AreParts layout past h) (sym (ap (λ (a : Act). a.world) is)) parts };
  })
  reading_leads w past parts x y same.refused = same.refused

  pub reading_is_right : never_moves c ≡ true → is_plain c ≡ true → (x result : Checked A)
      → ((w : World) (past : Past) → AreParts layout past h w → IsKnown past.time w → Same (IsReading w says) x (act false w w c))
      → result ≡ x → IsRight layout h c [] (answer_to says result) h
  reading_is_right quiet arena x result reads is =
      subst (λ r. IsRight layout h c [] (answer_to says r) h) (sym is)
      (quiet_is_right layout says h c quiet arena (reading x) x h
      (λ w past parts reached. reading_leads w past parts x (act false w w c) (reads w past parts reached)) (reading_comes x))
