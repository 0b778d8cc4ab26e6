use Rattle.std.proofs.Common.{arith}
use Rattle.mps_bits.proofs.Tables.{length_of_table}
use Rattle.mps_bits.proofs.TwoTables.{subset_if_none, none_if_subset}
use Rattle.mps_bits.proofs.bits.Bits.is_subset_of.Goals as goal

pub are_words_unless-requires-clause-in_row : goal.are_words_unless-requires-clause-in_row
are_words_unless-requires-clause-in_row c =
    let size = length_of_table c.self.inside.words.items c.self.inside.len c.args.self.now c.self.view_is in
    omega (arith, size, c.requires.in_table, c.requires.in_words, c.deref.ensures.len)

pub are_words_unless-requires-clause-in_others : goal.are_words_unless-requires-clause-in_others
are_words_unless-requires-clause-in_others c =
    let size = length_of_table c.others.inside.words.items c.others.inside.len c.args.others.now c.others.view_is in
    omega (arith, size, c.requires.in_others, c.requires.in_words, c.deref-2.ensures.len)

pub returns-clause-sound : goal.returns-clause-sound
returns-clause-sound c = λ known.
    let s = c.self.inside in
    let o = c.others.inside in
    let size = length_of_table s.words.items s.len c.args.self.now c.self.view_is in
    let size' = length_of_table o.words.items o.len c.args.others.now c.others.view_is in
    subset_if_none s.words.items s.len c.args.self.now o.words.items o.len c.args.others.now c.self.view_is c.others.view_is c.args.from
    c.args.to
    c.requires.in_words.0
    c.requires.in_words.1
    (omega (arith, size, c.requires.in_table))
    (omega (arith, size', c.requires.in_others))
    (rw (← c.deref.ensures.value, ← c.deref-2.ensures.value) (c.are_words_unless.ensures.sound known))

pub returns-clause-complete : goal.returns-clause-complete
returns-clause-complete c = λ all.
    let s = c.self.inside in
    let o = c.others.inside in
    let size = length_of_table s.words.items s.len c.args.self.now c.self.view_is in
    let size' = length_of_table o.words.items o.len c.args.others.now c.others.view_is in
    c.are_words_unless.ensures.complete (rw (c.deref.ensures.value, c.deref-2.ensures.value)
    (none_if_subset s.words.items s.len c.args.self.now o.words.items o.len c.args.others.now c.self.view_is c.others.view_is c.args.from
    c.args.to
    c.requires.in_words.0
    c.requires.in_words.1
    (omega (arith, size, c.requires.in_table))
    (omega (arith, size', c.requires.in_others))
    all))
