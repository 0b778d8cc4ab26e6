use Rattle.std.proofs.Common.{List, ℕ, option_map, ◌∙◌, ap, sym, arith}
use Rattle.std.proofs.lemmas.Grind.{common_steps}
use Rattle.mps_line_words.specs.Name.{slot_from}
use Rattle.mps_line_words.proofs.FirstName.{after_letter, before, long_name_of, named}
use Rattle.mps_line_words.proofs.FirstSlot.{dotted, not_a_slot, slot_without_name, slot_with_name, after_slot}
use Rattle.mps_line_words.proofs.slots.slot_at.Goals as goal

pub returns-in_default-after : goal.returns-in_default-after
returns-in_default-after c =
    let line : List ℕ = c.args.line.now in
    let rest : List ℕ = c.after_name-after.result.now in
    not_a_slot line rest (after_letter line rest (omega arith) (omega arith) c.after_name-after.ensures.rest)
    (grind (arith, common_steps))

pub returns-then-name-gt-MAX_NAME_BYTES : goal.returns-then-name-gt-MAX_NAME_BYTES
returns-then-name-gt-MAX_NAME_BYTES c =
    let line : List ℕ = c.args.line.now in
    let rest : List ℕ = c.after_name-after.result.now in
    let is = after_letter line rest (omega arith) (omega arith) c.after_name-after.ensures.rest in
    slot_without_name line rest is _ (dotted rest (omega arith) (omega arith)) (long_name_of (before line rest) (omega arith))

pub returns-in_err-index : goal.returns-in_err-index
returns-in_err-index c =
    let line : List ℕ = c.args.line.now in
    let rest : List ℕ = c.after_name-after.result.now in
    let is = after_letter line rest (omega arith) (omega arith) c.after_name-after.ensures.rest in
    rw c.from_residual.ensures
    (slot_with_name line rest is _ (dotted rest (omega arith) (omega arith)) (named line rest is (omega arith) (omega arith) (omega arith))
    ∙ ap (option_map (slot_from (before line rest))) c.in_err-index.ensures)

pub returns : goal.returns
returns c =
    let line : List ℕ = c.args.line.now in
    let rest : List ℕ = c.after_name-after.result.now in
    let is = after_letter line rest (omega arith) (omega arith) c.after_name-after.ensures.rest in
    let dot = dotted rest (omega arith) (omega arith) in (
      slot_with_name line rest is _ dot (named line rest is (omega arith) (omega arith) (omega arith))
          ∙ ap (option_map (slot_from (before line rest))) c.in_ok-index.ensures.0,
      c.in_ok-index.ensures.1 ∙ sym (after_slot line rest is _ dot),
      omega arith,
    )
