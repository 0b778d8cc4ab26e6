-- Numbers stay words, over any steps.
use Rattle.std.proofs.Common.{◌≡◌, true, refl, [], ◌∷◌}
use Rattle.std.proofs.lemmas.Bool.{and_parts}
use Rattle.mps_model.specs.Answer.{is_block}
use Rattle.mps_model.specs.Step.{Step}
use Rattle.mps_model.specs.World.{World, empty_world_of}
use Rattle.mps_model.specs.Reply.{act}
use Rattle.mps_model.specs.History.{judged_world, moved_world, world_after}
use Rattle.mps_changes.proofs.Checks.{for_world}
use Rattle.mps_client_laws.specs.Numbers.{HasWords, NumbersStayWords, ReachedNumbersAreWords, gives_word, give_words}
use Rattle.mps_client_laws.proofs.WordsKept.{moved_keeps_words}
use Rattle.mps_client_laws.proofs.WordsOfCalls.{words_of_act}

words_after : (w : World) (s : Step) → gives_word s.call ≡ true → HasWords w.graph → HasWords (world_after w s).graph
words_after w s given h =
    let v = moved_world w s.call s.moves in
    let judged = judged_world w s.call s.moves in
    let moved = moved_keeps_words w s.call s.moves h in
    for_world (λ u. HasWords u.graph) v (act (is_block s.answer) judged v s.call)
    (words_of_act (is_block s.answer) judged v moved s.call given) moved

pub numbers_stay_words : NumbersStayWords
numbers_stay_words w [] given h = h
numbers_stay_words w (s ∷ ss) given h =
    let parts = and_parts (gives_word s.call) (give_words ss) given in
    numbers_stay_words (world_after w s) ss parts.1 (words_after w s parts.0 h)

pub reached_numbers_are_words : ReachedNumbersAreWords
reached_numbers_are_words formats history given =
    numbers_stay_words (empty_world_of formats) history given (record { in_objects = refl; in_reservations = refl; in_areas = refl })
