use Rattle.std.proofs.Common.{◌≡◌, ℕ, List, [], ◌∷◌, subst, sym, ap, ◌∙◌, arith}
use Rattle.mps_line_words.specs.Word.{words}
use Rattle.mps_parser_a_to_k.proofs.Classes.{AreRead, none_read, one_more_read, too_many, no_second_word, no_class_size, no_class_limit, no_words_read, all_read}
use Rattle.mps_parser_a_to_k.proofs.caches.classes.Goals as goal

pub loop-count-init : goal.loop-count-init
loop-count-init c = none_read (words c.args.arguments.now)

pub returns-then-count-eq0 : goal.returns-then-count-eq0
returns-then-count-eq0 c =
    let l = c.loop-count in
    let all : List (List ℕ) = words c.args.arguments.now in
    let none_left : words l.rest.now ≡ [] = c.in_default.ensures in
    let read = subst (λ (ws : List (List ℕ)). AreRead all ws l.sizes l.limits l.count) none_left l.invariant in
    no_words_read all l.sizes l.limits l.count read c.if-count-eq0.true

pub returns-else-count-eq0 : goal.returns-else-count-eq0
returns-else-count-eq0 c =
    let l = c.loop-count in
    let all : List (List ℕ) = words c.args.arguments.now in
    let none_left : words l.rest.now ≡ [] = c.in_default.ensures in
    let read = subst (λ (ws : List (List ℕ)). AreRead all ws l.sizes l.limits l.count) none_left l.invariant in
    all_read all l.sizes l.limits l.count read (omega (arith, c.if-count-eq0.false))

pub returns-in_err-limit : goal.returns-in_err-limit
returns-in_err-limit c =
    let l = c.loop-count in
    let all : List (List ℕ) = words c.args.arguments.now in
    let one_left : words l.rest.now ≡ c.in-Some.size.now ∷ []
    = c.in-Some.ensures ∙ ap (λ (ws : List (List ℕ)). c.in-Some.size.now ∷ ws) c.in_err-limit.ensures in
    let read = subst (λ (ws : List (List ℕ)). AreRead all ws l.sizes l.limits l.count) one_left l.invariant in
    c.from_residual.ensures ∙ no_second_word all c.in-Some.size.now l.sizes l.limits l.count read

pub returns-in_err-sizes : goal.returns-in_err-sizes
returns-in_err-sizes c =
    let l = c.loop-count in
    let all : List (List ℕ) = words c.args.arguments.now in
    let left : words l.rest.now ≡ c.in-Some.size.now ∷ c.in_ok-limit.limit.now ∷ words c.in_ok-limit.after.now
    = c.in-Some.ensures ∙ ap (λ (ws : List (List ℕ)). c.in-Some.size.now ∷ ws) c.in_ok-limit.ensures in
    let read = subst (λ (ws : List (List ℕ)). AreRead all ws l.sizes l.limits l.count) left l.invariant in
    c.from_residual-in_err-sizes.ensures
    ∙ no_class_size all (words c.in_ok-limit.after.now) c.in-Some.size.now c.in_ok-limit.limit.now l.sizes l.limits l.count read
    (sym c.in_err-sizes.ensures)

pub returns-in_err-limits : goal.returns-in_err-limits
returns-in_err-limits c =
    let l = c.loop-count in
    let all : List (List ℕ) = words c.args.arguments.now in
    let left : words l.rest.now ≡ c.in-Some.size.now ∷ c.in_ok-limit.limit.now ∷ words c.in_ok-limit.after.now
    = c.in-Some.ensures ∙ ap (λ (ws : List (List ℕ)). c.in-Some.size.now ∷ ws) c.in_ok-limit.ensures in
    let read = subst (λ (ws : List (List ℕ)). AreRead all ws l.sizes l.limits l.count) left l.invariant in
    c.from_residual-in_err-limits.ensures
    ∙ no_class_limit all (words c.in_ok-limit.after.now) c.in-Some.size.now c.in_ok-limit.limit.now l.sizes l.limits l.count read
    (sym c.in_err-limits.ensures)

pub loop-count-preserved : goal.loop-count-preserved
loop-count-preserved c =
    let l = c.loop-count in
    let all : List (List ℕ) = words c.args.arguments.now in
    let left : words l.rest.now ≡ c.in-Some.size.now ∷ c.in_ok-limit.limit.now ∷ words c.in_ok-limit.after.now
    = c.in-Some.ensures ∙ ap (λ (ws : List (List ℕ)). c.in-Some.size.now ∷ ws) c.in_ok-limit.ensures in
    let read = subst (λ (ws : List (List ℕ)). AreRead all ws l.sizes l.limits l.count) left l.invariant in
    one_more_read all (words c.in_ok-limit.after.now) c.in-Some.size.now c.in_ok-limit.limit.now l.sizes l.limits l.count
    c.in_ok-sizes.field-0 c.in_ok-limits.field-0 read (sym c.in_ok-sizes.ensures) (sym c.in_ok-limits.ensures) c.loop-count-test.true

pub returns-in-None : goal.returns-in-None
returns-in-None c =
    let l = c.loop-count in
    let all : List (List ℕ) = words c.args.arguments.now in
    let eight : l.count ≡ 8 = omega (arith, c.loop-count-test.false, l.auto.count-end) in
    let none_left : words l.rest.now ≡ [] = c.in-None.ensures in
    let read = subst (λ (ws : List (List ℕ)). AreRead all ws l.sizes l.limits l.count) none_left l.invariant in
    let read_eight = subst (λ (n : ℕ). AreRead all [] l.sizes l.limits n) eight read in
    all_read all l.sizes l.limits 8 read_eight (omega arith)

pub returns-in-Some-next_word : goal.returns-in-Some-next_word
returns-in-Some-next_word c =
    let l = c.loop-count in
    let all : List (List ℕ) = words c.args.arguments.now in
    let eight : l.count ≡ 8 = omega (arith, c.loop-count-test.false, l.auto.count-end) in
    let left = c.in-Some-next_word.field-0 in
    let one_left : words l.rest.now ≡ left.0.now ∷ words left.1.now = c.in-Some-next_word.ensures in
    let read = subst (λ (ws : List (List ℕ)). AreRead all ws l.sizes l.limits l.count) one_left l.invariant in
    too_many all (words left.1.now) left.0.now l.sizes l.limits l.count read eight
