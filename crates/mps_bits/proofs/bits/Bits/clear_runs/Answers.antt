use Rattle.std.proofs.Common.{ℕ, ◌+◌, ◌-◌, ◌*◌, ◌/◌, ◌≡◌, Bool, false, List, sym, ap, ◌∙◌, inl, inr, arith, subst}
use Rattle.std.specs.Prelude.{if◌then◌else◌}
use Rattle.std.specs.List.{count_by}
use Rattle.std.specs.Vec.{with_items}
use Rattle.std.proofs.lemmas.List.{with_items_is}
use Rattle.mps_bits.specs.Row.{bit_in}
use Rattle.mps_bits.specs.Table.{table_of, bit}
use Rattle.mps_bits.specs.OpenRuns.{in_run, is_one_in, is_one_unless, is_set_from, is_set_unless, AreRunsApart}
use Rattle.mps_bits.proofs.Tables.{length-table_of, length_of_table}
use Rattle.mps_bits.proofs.SweptTables.{bit_unwritten, counted_fewer, bit_cleared_where, apart_by_words, in_run_by_words}
use Rattle.mps_bits.proofs.bits.Bits.clear_runs.Goals as goal

pub clear_runs-requires-clause-small : goal.clear_runs-requires-clause-small
clear_runs-requires-clause-small c =
    let size = length_of_table c.self.inside.words.items c.self.inside.len c.args.self.now c.self.view_is in
    omega (arith, size, c.requires.in_table, c.self.invariant.1)

pub clear_runs-requires-clause-in_row : goal.clear_runs-requires-clause-in_row
clear_runs-requires-clause-in_row c =
    let size = length_of_table c.self.inside.words.items c.self.inside.len c.args.self.now c.self.view_is in
    omega (arith, size, c.requires.in_table, c.deref_mut.ensures.len, c.self.invariant.0)

pub clear_runs-requires-clause-in_begins : goal.clear_runs-requires-clause-in_begins
clear_runs-requires-clause-in_begins c =
    let size = length_of_table c.begins.inside.words.items c.begins.inside.len c.args.begins.now c.begins.view_is in
    omega (arith, size, c.requires.in_begins, c.deref.ensures.len, c.begins.invariant.0)

pub clear_runs-requires-clause-in_others : goal.clear_runs-requires-clause-in_others
clear_runs-requires-clause-in_others c =
    let size = length_of_table c.others.inside.words.items c.others.inside.len c.args.others.now c.others.view_is in
    omega (arith, size, c.requires.in_others, c.deref-2.ensures.len, c.others.invariant.0)

pub clear_runs-requires-clause-in_ends : goal.clear_runs-requires-clause-in_ends
clear_runs-requires-clause-in_ends c =
    let size = length_of_table c.ends.inside.words.items c.ends.inside.len c.args.ends.now c.ends.view_is in
    omega (arith, size, c.requires.in_ends, c.deref-3.ensures.len, c.ends.invariant.0)

pub clear_runs-requires-clause-apart : goal.clear_runs-requires-clause-apart
clear_runs-requires-clause-apart c =
    let begins_are : table_of c.deref.result.now c.begins.inside.len ≡ c.args.begins.now =
    ap (λ (ws : List ℕ). table_of ws c.begins.inside.len) c.deref.ensures.value ∙ c.begins.view_is
    in
    let size_begins = length_of_table c.begins.inside.words.items c.begins.inside.len c.args.begins.now c.begins.view_is in
    let others_are : table_of c.deref-2.result.now c.others.inside.len ≡ c.args.others.now =
    ap (λ (ws : List ℕ). table_of ws c.others.inside.len) c.deref-2.ensures.value ∙ c.others.view_is
    in
    let size_others = length_of_table c.others.inside.words.items c.others.inside.len c.args.others.now c.others.view_is in
    let ends_are : table_of c.deref-3.result.now c.ends.inside.len ≡ c.args.ends.now =
    ap (λ (ws : List ℕ). table_of ws c.ends.inside.len) c.deref-3.ensures.value ∙ c.ends.view_is
    in
    let size_ends = length_of_table c.ends.inside.words.items c.ends.inside.len c.args.ends.now c.ends.view_is in
    let start : 64 * (c.args.from / 64) ≡ c.args.from = omega (arith, c.requires.in_words.0) in
    let long : 64 * (c.args.to / 64 - c.args.from / 64) ≡ c.args.to - c.args.from =
    omega (arith, c.requires.in_words.0, c.requires.in_words.1)
    in
    let P : ℕ → Type 0 =
    λ k. AreRunsApart false (is_one_unless c.deref.result.now c.deref-2.result.now k) (is_one_in c.deref-3.result.now k)
    (64 * (c.args.to / 64 - c.args.from / 64))
    in
    let Q : ℕ → Type 0 =
    λ n. AreRunsApart false (is_one_unless c.deref.result.now c.deref-2.result.now c.args.from)
    (is_one_in c.deref-3.result.now c.args.from) n
    in
    subst P (sym start) (subst Q (sym long)
    (apart_by_words c.deref.result.now c.begins.inside.len c.args.begins.now c.deref-2.result.now c.others.inside.len
    c.args.others.now c.deref-3.result.now c.ends.inside.len c.args.ends.now begins_are others_are ends_are c.args.from c.args.to
    (omega (arith, size_begins, c.requires.in_begins))
    (omega (arith, size_others, c.requires.in_others))
    (omega (arith, size_ends, c.requires.in_ends))
    c.requires.apart))

pub returns-clause-inside : goal.returns-clause-inside
returns-clause-inside c = λ n below.
    let len = c.self.inside.len in
    let is : table_of c.deref_mut.result.now len ≡ c.args.self.now =
    ap (λ (ws : List ℕ). table_of ws len) c.deref_mut.ensures.value ∙ c.self.view_is
    in
    let size = length_of_table c.self.inside.words.items len c.args.self.now c.self.view_is in
    let begins_are : table_of c.deref.result.now c.begins.inside.len ≡ c.args.begins.now =
    ap (λ (ws : List ℕ). table_of ws c.begins.inside.len) c.deref.ensures.value ∙ c.begins.view_is
    in
    let size_begins = length_of_table c.begins.inside.words.items c.begins.inside.len c.args.begins.now c.begins.view_is in
    let others_are : table_of c.deref-2.result.now c.others.inside.len ≡ c.args.others.now =
    ap (λ (ws : List ℕ). table_of ws c.others.inside.len) c.deref-2.ensures.value ∙ c.others.view_is
    in
    let size_others = length_of_table c.others.inside.words.items c.others.inside.len c.args.others.now c.others.view_is in
    let ends_are : table_of c.deref-3.result.now c.ends.inside.len ≡ c.args.ends.now =
    ap (λ (ws : List ℕ). table_of ws c.ends.inside.len) c.deref-3.ensures.value ∙ c.ends.view_is
    in
    let size_ends = length_of_table c.ends.inside.words.items c.ends.inside.len c.args.ends.now c.ends.view_is in
    let new = with_items_is c.self.inside.words c.clear_runs.new.words (omega (arith, c.clear_runs.auto.words, c.deref_mut.ensures.len)) in
    let start : 64 * (c.args.from / 64) ≡ c.args.from = omega (arith, c.requires.in_words.0) in
    let by_words = in_run_by_words c.deref.result.now c.begins.inside.len c.args.begins.now c.deref-2.result.now c.others.inside.len
    c.args.others.now c.deref-3.result.now c.ends.inside.len c.args.ends.now begins_are others_are ends_are c.args.from c.args.to
    (omega (arith, size_begins, c.requires.in_begins))
    (omega (arith, size_others, c.requires.in_others))
    (omega (arith, size_ends, c.requires.in_ends)) n below in
    let b = in_run false (is_set_unless c.args.begins.now c.args.others.now c.args.from) (is_set_from c.args.ends.now c.args.from) n in
    let P : ℕ → Type 0 = λ k. bit_in c.clear_runs.new.words (k + n)
    ≡ (if in_run false (is_one_unless c.deref.result.now c.deref-2.result.now k) (is_one_in c.deref-3.result.now k) n then 0
    else bit_in c.deref_mut.result.now (k + n)) in
    let written = subst P start
    (c.clear_runs.ensures.inside n (omega (arith, below, c.requires.in_words.0, c.requires.in_words.1)))
    ∙ ap (λ (x : Bool). if x then 0 else bit_in c.deref_mut.result.now (c.args.from + n)) by_words
    in
    ap (λ (ws : List ℕ). bit (table_of ws len) (c.args.from + n)) new
    ∙ bit_cleared_where c.deref_mut.result.now c.clear_runs.new.words len c.args.self.now is b (c.args.from + n)
    (omega (arith, size, below, c.requires.in_table)) written

pub returns-clause-outside : goal.returns-clause-outside
returns-clause-outside c = λ i out.
    let len = c.self.inside.len in
    let is : table_of c.deref_mut.result.now len ≡ c.args.self.now =
    ap (λ (ws : List ℕ). table_of ws len) c.deref_mut.ensures.value ∙ c.self.view_is
    in
    let size = length_of_table c.self.inside.words.items len c.args.self.now c.self.view_is in
    let new = with_items_is c.self.inside.words c.clear_runs.new.words (omega (arith, c.clear_runs.auto.words, c.deref_mut.ensures.len)) in
    ap (λ (ws : List ℕ). bit (table_of ws len) i) new
    ∙ bit_unwritten c.deref_mut.result.now c.clear_runs.new.words len c.args.self.now is i
    (c.clear_runs.ensures.outside i (elim out [
      | inl before ↦ inl (omega (arith, before, c.requires.in_words.0))
      | inr after ↦ inr (omega (arith, after, c.requires.in_words.1))
    ]))

pub returns-clause-counted : goal.returns-clause-counted
returns-clause-counted c =
    let len = c.self.inside.len in
    let is : table_of c.deref_mut.result.now len ≡ c.args.self.now =
    ap (λ (ws : List ℕ). table_of ws len) c.deref_mut.ensures.value ∙ c.self.view_is
    in
    let size = length_of_table c.self.inside.words.items len c.args.self.now c.self.view_is in
    let new = with_items_is c.self.inside.words c.clear_runs.new.words (omega (arith, c.clear_runs.auto.words, c.deref_mut.ensures.len)) in
    ap (λ (ws : List ℕ). count_by (λ b. b) (table_of ws len) + c.clear_runs.result) new
    ∙ counted_fewer c.deref_mut.result.now c.clear_runs.new.words len c.args.self.now is c.clear_runs.result
    (c.clear_runs.ensures.counted len (omega (arith, size, c.requires.in_table)))

pub returns-clause-len : goal.returns-clause-len
returns-clause-len c =
    length-table_of (with_items c.self.inside.words c.clear_runs.new.words).items c.self.inside.len
    ∙ sym (length_of_table c.self.inside.words.items c.self.inside.len c.args.self.now c.self.view_is)
