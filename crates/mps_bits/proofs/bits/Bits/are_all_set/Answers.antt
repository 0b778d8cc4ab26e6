use Rattle.std.proofs.Common.{List, ℕ, sym, ◌∙◌, subst, arith}
use Rattle.std.proofs.lemmas.Bool.{eq-eqb, eqb-true}
use Rattle.mps_bits.specs.Row.{bit_in, IsSet}
use Rattle.mps_bits.proofs.Tables.{length_of_table, bit_of_table}
use Rattle.mps_bits.proofs.bits.Bits.are_all_set.Goals as goal

pub are_all_set-requires : goal.are_all_set-requires
are_all_set-requires c =
    let size = length_of_table c.self.inside.words.items c.self.inside.len c.args.self.now c.self.view_is in
    omega (arith, size, c.requires, c.deref.ensures.len)

pub returns-clause-sound : goal.returns-clause-sound
returns-clause-sound c = λ known i above below.
    let words = c.self.inside.words.items in
    let size = length_of_table words c.self.inside.len c.args.self.now c.self.view_is in
    let P : List ℕ → Type 0 = λ ws. IsSet ws c.args.from c.args.to in
    let set = subst P c.deref.ensures.value (c.are_all_set.ensures.sound known) in
    sym (bit_of_table words c.self.inside.len c.args.self.now i c.self.view_is (omega (arith, size, below, c.requires)))
    ∙ eq-eqb (bit_in words i) 1 (set i above below)

pub returns-clause-complete : goal.returns-clause-complete
returns-clause-complete c = λ all.
    let words = c.self.inside.words.items in
    let size = length_of_table words c.self.inside.len c.args.self.now c.self.view_is in
    let P : List ℕ → Type 0 = λ ws. IsSet ws c.args.from c.args.to in
    c.are_all_set.ensures.complete (subst P (sym c.deref.ensures.value) (λ i above below.
    eqb-true (bit_in words i) 1
    (bit_of_table words c.self.inside.len c.args.self.now i c.self.view_is (omega (arith, size, below, c.requires)) ∙ all i above below)))
