use Rattle.std.proofs.Common.{ℕ, ◌+◌, ◌≡◌, List, sym, ap, ◌∙◌, inl, inr, arith}
use Rattle.std.specs.List.{count_by}
use Rattle.std.specs.Vec.{with_items}
use Rattle.std.proofs.lemmas.List.{with_items_is}
use Rattle.mps_bits.specs.Table.{table_of, bit}
use Rattle.mps_bits.proofs.Tables.{length-table_of, length_of_table}
use Rattle.mps_bits.proofs.SweptTables.{bit_unwritten, counted_fewer, bit_of_both}
use Rattle.mps_bits.proofs.bits.Bits.clear_unless.Goals as goal

pub clear_unless-requires-clause-small : goal.clear_unless-requires-clause-small
clear_unless-requires-clause-small c =
    let size = length_of_table c.self.inside.words.items c.self.inside.len c.args.self.now c.self.view_is in
    omega (arith, size, c.requires.in_table, c.self.invariant.1)

pub clear_unless-requires-clause-in_row : goal.clear_unless-requires-clause-in_row
clear_unless-requires-clause-in_row c =
    let size = length_of_table c.self.inside.words.items c.self.inside.len c.args.self.now c.self.view_is in
    omega (arith, size, c.requires.in_table, c.deref_mut.ensures.len, c.self.invariant.0)

pub clear_unless-requires-clause-in_others : goal.clear_unless-requires-clause-in_others
clear_unless-requires-clause-in_others c =
    let size = length_of_table c.others.inside.words.items c.others.inside.len c.args.others.now c.others.view_is in
    omega (arith, size, c.requires.in_others, c.deref.ensures.len, c.others.invariant.0)

pub returns-clause-inside : goal.returns-clause-inside
returns-clause-inside c = λ i above below.
    let len = c.self.inside.len in
    let is : table_of c.deref_mut.result.now len ≡ c.args.self.now =
    ap (λ (ws : List ℕ). table_of ws len) c.deref_mut.ensures.value ∙ c.self.view_is
    in
    let size = length_of_table c.self.inside.words.items len c.args.self.now c.self.view_is in
    let others_are : table_of c.deref.result.now c.others.inside.len ≡ c.args.others.now =
    ap (λ (ws : List ℕ). table_of ws c.others.inside.len) c.deref.ensures.value ∙ c.others.view_is
    in
    let size' = length_of_table c.others.inside.words.items c.others.inside.len c.args.others.now c.others.view_is in
    let new = with_items_is c.self.inside.words c.clear_unless.new.words
    (omega (arith, c.clear_unless.auto.words, c.deref_mut.ensures.len)) in
    ap (λ (ws : List ℕ). bit (table_of ws len) i) new
    ∙ bit_of_both c.deref_mut.result.now c.clear_unless.new.words len c.args.self.now is c.deref.result.now c.others.inside.len
    c.args.others.now others_are i
    (omega (arith, size, below, c.requires.in_table))
    (omega (arith, size', below, c.requires.in_others))
    (c.clear_unless.ensures.inside i (omega (arith, above, c.requires.in_words.0)) (omega (arith, below, c.requires.in_words.1)))

pub returns-clause-outside : goal.returns-clause-outside
returns-clause-outside c = λ i out.
    let len = c.self.inside.len in
    let is : table_of c.deref_mut.result.now len ≡ c.args.self.now =
    ap (λ (ws : List ℕ). table_of ws len) c.deref_mut.ensures.value ∙ c.self.view_is
    in
    let size = length_of_table c.self.inside.words.items len c.args.self.now c.self.view_is in
    let new = with_items_is c.self.inside.words c.clear_unless.new.words
    (omega (arith, c.clear_unless.auto.words, c.deref_mut.ensures.len)) in
    ap (λ (ws : List ℕ). bit (table_of ws len) i) new
    ∙ bit_unwritten c.deref_mut.result.now c.clear_unless.new.words len c.args.self.now is i
    (c.clear_unless.ensures.outside i (elim out [
      | inl before ↦ inl (omega (arith, before, c.requires.in_words.0))
      | inr after ↦ inr (omega (arith, after, c.requires.in_words.1))
    ]))

pub returns-clause-counted : goal.returns-clause-counted
returns-clause-counted c =
    let len = c.self.inside.len in
    let is : table_of c.deref_mut.result.now len ≡ c.args.self.now =
    ap (λ (ws : List ℕ). table_of ws len) c.deref_mut.ensures.value ∙ c.self.view_is
    in
    let size = length_of_table c.self.inside.words.items len c.args.self.now c.self.view_is in
    let new = with_items_is c.self.inside.words c.clear_unless.new.words
    (omega (arith, c.clear_unless.auto.words, c.deref_mut.ensures.len)) in
    ap (λ (ws : List ℕ). count_by (λ b. b) (table_of ws len) + c.clear_unless.result) new
    ∙ counted_fewer c.deref_mut.result.now c.clear_unless.new.words len c.args.self.now is c.clear_unless.result
    (c.clear_unless.ensures.counted len (omega (arith, size, c.requires.in_table)))

pub returns-clause-len : goal.returns-clause-len
returns-clause-len c =
    length-table_of (with_items c.self.inside.words c.clear_unless.new.words).items c.self.inside.len
    ∙ sym (length_of_table c.self.inside.words.items c.self.inside.len c.args.self.now c.self.view_is)
