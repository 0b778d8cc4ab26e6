-- The first colon ends the first number.
use Rattle.std.proofs.Common.{◌+◌, ◌∙◌, sym}
use Rattle.std.proofs.lemmas.List.{take_rest}
use Rattle.mps_format.proofs.Colons.{has_colon, cut_at_colon, sound_pair}
use Rattle.mps_format.proofs.pair.two_numbers.Goals as goal

pub returns-in-Some-clause-sound : goal.returns-in-Some-clause-sound
returns-in-Some-clause-sound c = sound_pair c.args.text.now c.in-Some.colon c.two_texts.result
    (sym c.in-Some.ensures.index) c.two_texts.ensures.sound

pub returns-in-Some-clause-complete : goal.returns-in-Some-clause-complete
returns-in-Some-clause-complete c = λ a b fa fb e.
    let cut = cut_at_colon c.args.text.now a b c.in-Some.colon fa e (sym c.in-Some.ensures.index) in
    c.two_texts.ensures.complete a b fa fb cut.before (take_rest c.args.text.now (c.in-Some.colon + 1) ∙ cut.after)

pub returns-in-None-clause-complete : goal.returns-in-None-clause-complete
returns-in-None-clause-complete c = λ a b fa fb e.
    let has = has_colon c.args.text.now a b fa e in
    let f = c.in-None.ensures.index in
    absurd cc
