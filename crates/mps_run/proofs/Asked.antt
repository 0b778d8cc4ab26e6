-- A run asks its machine for each call in its turn: a line is good only there, and the arena is made by the first call and stays.
use Rattle.std.proofs.Common.{◌≡◌, ℕ, ◌<◌, ◌≤◌, Bool, true, false, not, if◌then◌else◌, nat_lt, Option, Some, None, Result, Ok, Err, List, [], ◌∷◌, refl, sym, ◌∙◌, ap, subst, arith}
use Rattle.std.specs.Prelude.{is_ok}
use Rattle.std.proofs.lemmas.Grind.{common_steps}
use Rattle.mps_model.specs.declared.call.Call.{Call}
use Rattle.mps_model.specs.declared.call.Call.TheVariants as call
use Rattle.mps_model.specs.FirstCall.{is_arena}
use Rattle.mps_model.specs.Step.{Step, History}
use Rattle.mps_model.specs.World.{World}
use Rattle.mps_model.specs.History.{world_after, world_after_steps}
use Rattle.mps_laws.specs.Change.{makes_arena}
use Rattle.mps_laws.proofs.WellFormedHistories.{step_grains}
use Rattle.mps_commands.specs.Asked.{IsAsked, has_arena}
use Rattle.mps_commands.specs.Range.{IsInRange}
use Rattle.mps_script.specs.declared.line.BadLine.{BadLine}
use Rattle.mps_script.specs.Line.{call_of_line}
use Rattle.mps_script.specs.Script.{has_turn, in_turn, has_arena_after}
use Rattle.mps_script.proofs.Scripts.{turn_taken}
use Rattle.mps_run.specs.declared.progress.Progress.{Progress}
use Rattle.mps_run.specs.Running.{HasComeTo}
use Rattle.mps_run.specs.Script.{Line, ScriptCommand, commands_of, commands_of_call, command_of_step}

-- ---- the turn of a call

-- the call where this holds
abbrev call_if : Bool → Call → Result (Option Call) BadLine
call_if holds c = if holds then Ok (Some c) else Err (record {})

call_if_true : (b : Bool) (c : Call) → is_ok (call_if b c) ≡ true → b ≡ true
call_if_true true c e = refl
call_if_true false c e = e

turn_is : (has_arena is_arena : Bool) → has_turn has_arena is_arena ≡ true → is_arena ≡ not has_arena
turn_is true true e = sym e
turn_is true false e = refl
turn_is false is_arena e = e

-- a good call has its turn
in_its_turn : (has_arena : Bool) (c : Call) → is_ok (in_turn has_arena (Ok (Some c))) ≡ true → is_arena c ≡ not has_arena
in_its_turn has_arena c good = turn_is has_arena (is_arena c) (call_if_true (has_turn has_arena (is_arena c)) c good)

-- a machine may be asked for the call of the next line
pub asked_in_turn : (stood : World → Type 0) (p : Progress) (line : Line) (c : Call)
    → in_turn p.has_arena (call_of_line line) ≡ Ok (Some c) → HasComeTo stood p → p.lines < 4294967295 → IsAsked stood c
asked_in_turn stood p line c turn come few =
    let good : is_ok (in_turn p.has_arena (Ok (Some c))) ≡ true =
    ap (λ r. is_ok (in_turn p.has_arena r)) (sym (turn_taken p.has_arena (call_of_line line) (Some c) turn)) ∙ ap is_ok turn in
    record {
      world = come.world;
      stands = come.stands;
      few = omega (arith, come.flips, few);
      turn = in_its_turn p.has_arena c good ∙ ap not (sym come.arena);
    }

-- ---- the arena after a line

makes_it : (c : Call) → makes_arena c ≡ is_arena c
makes_it (call.Arena grains limit) = refl
makes_it _ = refl

some_grains : (grains : ℕ) → 1 ≤ grains → nat_lt 0 grains ≡ true
some_grains grains some = grind (arith, common_steps)

-- `arena` makes it
made_by : (w : World) (s : Step) (c : Call) → s.call ≡ c → is_arena c ≡ true → IsInRange c → has_arena (world_after w s) ≡ true
made_by w s (call.Arena grains limit) is arena range =
    subst (λ (c : Call). has_arena (world_after w (record s { call = c })) ≡ true) (sym is) (some_grains grains range.0)
made_by w s c is arena range = absurd (let wrong : false ≡ true = arena in cc)

-- it is there after a call in its turn
made_after : (w : World) (has : Bool) (s : Step) (c : Call) → s.call ≡ c → is_arena c ≡ not has → IsInRange c → has_arena w ≡ has
    → has_arena (world_after w s) ≡ true
made_after w true s c is turn range made =
    ap (nat_lt 0) (step_grains s.line w s.call s.moves s.answer (makes_it s.call ∙ (ap is_arena is ∙ turn))) ∙ made
made_after w false s c is turn range made = made_by w s c is turn range

module _ (w : World) (has : Bool) (made : has_arena w ≡ has) where
  one_step : (c : Call) (n : ℕ) (steps : History) → commands_of steps ≡ record { line = n; call = c } ∷ [] → is_arena c ≡ not has
      → IsInRange c → has_arena (world_after_steps w steps) ≡ true
  one_step c n [] e turn range =
      absurd (let none : List ScriptCommand = [] in let wrong : none ≡ record { line = n; call = c } ∷ [] = e in cc)
  one_step c n (s ∷ []) e turn range =
      let same : command_of_step s ≡ record { line = n; call = c } = cc in
      made_after w has s c (ap (λ (command : ScriptCommand). command.call) same) turn range made
  one_step c n (s ∷ t ∷ ss) e turn range =
      absurd (let wrong : command_of_step s ∷ command_of_step t ∷ commands_of ss ≡ record { line = n; call = c } ∷ [] = e in cc)

  no_step : (steps : History) → commands_of steps ≡ [] → has_arena (world_after_steps w steps) ≡ has
  no_step [] e = made
  no_step (s ∷ ss) e = absurd (let none : List ScriptCommand = [] in let wrong : command_of_step s ∷ commands_of ss ≡ none = e in cc)

  -- whether it is there after the next line
  pub arena_after_line : (n : ℕ) (r : Result (Option Call) BadLine) (steps : History) → commands_of steps ≡ commands_of_call n r
      → is_ok (in_turn has r) ≡ true → ((c : Call) → r ≡ Ok (Some c) → IsInRange c)
      → has_arena (world_after_steps w steps) ≡ has_arena_after has r
  arena_after_line n (Ok (Some c)) steps e good range = one_step c n steps e (in_its_turn has c good) (range c refl)
  arena_after_line n (Ok None) steps e good range = no_step steps e
  arena_after_line n (Err bad) steps e good range = no_step steps e
