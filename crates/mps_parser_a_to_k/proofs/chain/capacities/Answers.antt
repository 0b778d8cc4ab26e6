use Rattle.std.proofs.Common.{◌≡◌, ℕ, List, [], ◌∷◌, subst, sym, ◌∙◌, arith}
use Rattle.mps_line_words.specs.Word.{words}
use Rattle.mps_parser_a_to_k.proofs.Capacities.{AreRead, one_more_read, too_many, no_capacity, no_words_read, all_read}
use Rattle.mps_parser_a_to_k.proofs.chain.capacities.Goals as goal

pub returns-then-count-eq0 : goal.returns-then-count-eq0
returns-then-count-eq0 c =
    let all : List (List ℕ) = words c.args.arguments.now in
    let none_left : words c.loop-count.rest.now ≡ [] = c.in_default.ensures in
    let read = subst (λ (ws : List (List ℕ)). AreRead all ws c.loop-count.numbers c.loop-count.count) none_left c.loop-count.invariant in
    no_words_read all c.loop-count.numbers c.loop-count.count read c.if-count-eq0.true

pub returns-else-count-eq0 : goal.returns-else-count-eq0
returns-else-count-eq0 c =
    let all : List (List ℕ) = words c.args.arguments.now in
    let none_left : words c.loop-count.rest.now ≡ [] = c.in_default.ensures in
    let read = subst (λ (ws : List (List ℕ)). AreRead all ws c.loop-count.numbers c.loop-count.count) none_left c.loop-count.invariant in
    all_read all c.loop-count.numbers c.loop-count.count read (omega (arith, c.if-count-eq0.false))

pub returns-in_err-numbers : goal.returns-in_err-numbers
returns-in_err-numbers c =
    let all : List (List ℕ) = words c.args.arguments.now in
    let one_left : words c.loop-count.rest.now ≡ c.in-Some.word.now ∷ words c.in-Some.after.now = c.in-Some.ensures in
    let read = subst (λ (ws : List (List ℕ)). AreRead all ws c.loop-count.numbers c.loop-count.count) one_left c.loop-count.invariant in
    c.from_residual.ensures ∙ no_capacity all (words c.in-Some.after.now) c.in-Some.word.now c.loop-count.numbers c.loop-count.count read
    (sym c.in_err-numbers.ensures)

pub loop-count-preserved : goal.loop-count-preserved
loop-count-preserved c =
    let all : List (List ℕ) = words c.args.arguments.now in
    let one_left : words c.loop-count.rest.now ≡ c.in-Some.word.now ∷ words c.in-Some.after.now = c.in-Some.ensures in
    let read = subst (λ (ws : List (List ℕ)). AreRead all ws c.loop-count.numbers c.loop-count.count) one_left c.loop-count.invariant in
    one_more_read all (words c.in-Some.after.now) c.in-Some.word.now c.loop-count.numbers c.loop-count.count c.in_ok-numbers.field-0 read
    (sym c.in_ok-numbers.ensures) c.loop-count-test.true

pub returns-in-None : goal.returns-in-None
returns-in-None c =
    let all : List (List ℕ) = words c.args.arguments.now in
    let eight : c.loop-count.count ≡ 8 = omega (arith, c.loop-count-test.false, c.loop-count.auto.count-end) in
    let none_left : words c.loop-count.rest.now ≡ [] = c.in-None.ensures in
    let read = subst (λ (ws : List (List ℕ)). AreRead all ws c.loop-count.numbers c.loop-count.count) none_left c.loop-count.invariant in
    let read_eight = subst (λ (n : ℕ). AreRead all [] c.loop-count.numbers n) eight read in
    all_read all c.loop-count.numbers 8 read_eight (omega arith)

pub returns-in-Some-next_word : goal.returns-in-Some-next_word
returns-in-Some-next_word c =
    let all : List (List ℕ) = words c.args.arguments.now in
    let eight : c.loop-count.count ≡ 8 = omega (arith, c.loop-count-test.false, c.loop-count.auto.count-end) in
    let left = c.in-Some-next_word.field-0 in
    let one_left : words c.loop-count.rest.now ≡ left.0.now ∷ words left.1.now = c.in-Some-next_word.ensures in
    let read = subst (λ (ws : List (List ℕ)). AreRead all ws c.loop-count.numbers c.loop-count.count) one_left c.loop-count.invariant in
    too_many all (words left.1.now) left.0.now c.loop-count.numbers c.loop-count.count read eight
