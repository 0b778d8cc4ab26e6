use Rattle.std.proofs.Common.{ℕ, ◌*◌, ◌/◌, ◌≡◌, List, ap, ◌∙◌, arith}
use Rattle.mps_bits.specs.OpenRuns.{is_one_unless}
use Rattle.mps_bits.proofs.Tables.{length_of_table}
use Rattle.mps_bits.proofs.SweptTables.{unless_is}
use Rattle.mps_bits.proofs.bits.Bits.word_unless.Goals as goal

pub word_unless-requires-clause-in_row : goal.word_unless-requires-clause-in_row
word_unless-requires-clause-in_row c =
    let size = length_of_table c.self.inside.words.items c.self.inside.len c.args.self.now c.self.view_is in
    omega (arith, size, c.requires.in_table, c.deref.ensures.len)

pub word_unless-requires-clause-in_others : goal.word_unless-requires-clause-in_others
word_unless-requires-clause-in_others c =
    let size = length_of_table c.others.inside.words.items c.others.inside.len c.args.others.now c.others.view_is in
    omega (arith, size, c.requires.in_others, c.deref-2.ensures.len)

pub returns : goal.returns
returns c = λ i within.
    let at = c.args.at in
    let size = length_of_table c.self.inside.words.items c.self.inside.len c.args.self.now c.self.view_is in
    let size' = length_of_table c.others.inside.words.items c.others.inside.len c.args.others.now c.others.view_is in
    let same : 64 * (at / 64) ≡ at = omega (arith, c.requires.in_words) in
    c.word_unless.ensures i within
    ∙ ap (λ (k : ℕ). is_one_unless c.deref.result.now c.deref-2.result.now k i) same
    ∙ ap (λ (ws : List ℕ). is_one_unless ws c.deref-2.result.now at i) c.deref.ensures.value
    ∙ ap (λ (ws : List ℕ). is_one_unless c.self.inside.words.items ws at i) c.deref-2.ensures.value
    ∙ unless_is c.self.inside.words.items c.self.inside.len c.args.self.now c.others.inside.words.items c.others.inside.len
    c.args.others.now c.self.view_is c.others.view_is at i
    (omega (arith, size, c.requires.in_table, within))
    (omega (arith, size', c.requires.in_others, within))
