use Rattle.std.proofs.Common.{◌≡◌, List, ℕ, [], ◌∙◌, ap, sym, arith}
use Rattle.std.proofs.lemmas.Grind.{common_steps}
use Rattle.mps_line_words.specs.Name.{name_of}
use Rattle.mps_line_words.specs.Word.{word_at}
use Rattle.mps_line_words.proofs.FirstWord.{none_at_end, none_at_space, all_is_left}
use Rattle.mps_line_words.proofs.FirstName.{after_letter, no_name, before, word_is_before, long_name_of, named, after_names}
use Rattle.mps_line_words.proofs.names.name_at.Goals as goal

pub returns-in_default-rest : goal.returns-in_default-rest
returns-in_default-rest c =
    let line : List ℕ = c.args.line.now in
    let rest : List ℕ = c.after_name-rest.result.now in
    no_name line rest (after_letter line rest (omega arith) (omega arith) c.after_name-rest.ensures.rest) (omega arith) (omega arith)

pub returns-then-name-gt-MAX_NAME_BYTES : goal.returns-then-name-gt-MAX_NAME_BYTES
returns-then-name-gt-MAX_NAME_BYTES c =
    let line : List ℕ = c.args.line.now in
    let rest : List ℕ = c.after_name-rest.result.now in
    let is = after_letter line rest (omega arith) (omega arith) c.after_name-rest.ensures.rest in
    let none : word_at rest ≡ [] = grind (arith, common_steps, none_at_end, none_at_space) in
    ap name_of (word_is_before line rest is none) ∙ long_name_of (before line rest) (omega arith)

pub returns : goal.returns
returns c =
    let line : List ℕ = c.args.line.now in
    let rest : List ℕ = c.after_name-rest.result.now in
    let is = after_letter line rest (omega arith) (omega arith) c.after_name-rest.ensures.rest in
    let none : word_at rest ≡ [] = grind (arith, common_steps, none_at_end, none_at_space) in (
      ap name_of (word_is_before line rest is none) ∙ named line rest is (omega arith) (omega arith) (omega arith),
      sym (after_names line rest is ∙ all_is_left rest none),
      omega arith,
    )
