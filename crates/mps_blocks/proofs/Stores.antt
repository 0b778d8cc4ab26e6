-- Blocks whose addresses ascend: what a store has at each address, which determines it.
use Rattle.std.proofs.Common.{◌≡◌, ℕ, ◌<◌, Bool, true, false, cond, eqb, ltb, [], ◌∷◌, Option, Some, None, refl, sym, ap, ◌∙◌, arith}
use Rattle.std.proofs.lemmas.Bool.{ltb-true, ltb-false, eq-eqb, eqb-true}
use Rattle.mps_model.specs.Replay.{Block, Store, block_at, with_block, without_block}
use Rattle.mps_blocks.proofs.Ascending.{Above, Ascends, not_same, lower_above}

-- two tests that do not both pass
abbrev NotBoth : Bool → Bool → Type 0
NotBoth c d = c ≡ true → d ≡ true → ⊥

-- two tests that never pass both may be made in either order
either_order : (c d : Bool) (x y r o : Option Block) → NotBoth c d → o ≡ cond c x r → cond d y o ≡ cond c x (cond d y r)
either_order true true x y r o apart h = absurd (apart refl refl)
either_order true false x y r o apart h = h
either_order false d x y r o apart h = ap (λ (z : Option Block). cond d y z) h

not_both : (a b q : ℕ) → eqb b a ≡ false → NotBoth (eqb a q) (eqb b q)
not_both a b q e h k = not_same b a e (eqb-true b q k ∙ sym (eqb-true a q h))

below_differs : (q n : ℕ) → q < n → eqb n q ≡ false
below_differs q n lt = grind (arith, lt)

-- no block begins below all of them
pub absent_below : (q : ℕ) (bs : Store) → Above q bs → block_at bs q ≡ None
absent_below q [] h = refl
absent_below q (b ∷ bs) h =
    ap (λ (c : Bool). cond c (Some b) (block_at bs q)) (below_differs q b.at h.0) ∙ absent_below q bs h.1

-- ---- one block more

there_or_later : (b : Block) (at : ℕ) (o : Option Block) (c : Bool) → eqb b.at at ≡ c → cond c (Some b) o ≡ None → (c ≡ false) × (o ≡ None)
there_or_later b at o true e h = absurd cc
there_or_later b at o false e h = (refl, h)

with_case : (c : Bool) (new b : Block) (bs added : Store) (q : ℕ) → eqb b.at new.at ≡ false
    → block_at added q ≡ cond (eqb new.at q) (Some new) (block_at bs q)
    → block_at (cond c (new ∷ b ∷ bs) (b ∷ added)) q ≡ cond (eqb new.at q) (Some new) (block_at (b ∷ bs) q)
with_case true new b bs added q apart h = refl
with_case false new b bs added q apart h =
    either_order (eqb new.at q) (eqb b.at q) (Some new) (Some b) (block_at bs q) (block_at added q) (not_both new.at b.at q apart) h

pub at_with : (new : Block) (bs : Store) (q : ℕ) → block_at bs new.at ≡ None
    → block_at (with_block new bs) q ≡ cond (eqb new.at q) (Some new) (block_at bs q)
at_with new [] q none = refl
at_with new (b ∷ bs) q none =
    let absent = there_or_later b new.at (block_at bs new.at) (eqb b.at new.at) refl none in
    with_case (ltb new.at b.at) new b bs (with_block new bs) q absent.0 (at_with new bs q absent.1)

-- ---- one block less

abbrev no_block : Option Block
no_block = None

none_either : (c : Bool) → no_block ≡ cond c no_block no_block
none_either true = refl
none_either false = refl

same_case : (c d : Bool) (b : Block) (bs : Store) (q : ℕ) → c ≡ d → (c ≡ true → block_at bs q ≡ None)
    → block_at bs q ≡ cond c None (cond d (Some b) (block_at bs q))
same_case true d b bs q e h = h refl
same_case false true b bs q e h = absurd cc
same_case false false b bs q e h = refl

without_case : (c : Bool) (b : Block) (bs rest : Store) (at q : ℕ) → eqb b.at at ≡ c → Above b.at bs
    → block_at rest q ≡ cond (eqb at q) None (block_at bs q)
    → block_at (cond c bs (b ∷ rest)) q ≡ cond (eqb at q) None (block_at (b ∷ bs) q)
without_case true b bs rest at q e above h =
    let same : b.at ≡ at = eqb-true b.at at e in
    same_case (eqb at q) (eqb b.at q) b bs q (ap (λ (n : ℕ). eqb n q) (sym same))
    (λ there. ap (block_at bs) (sym (eqb-true at q there) ∙ sym same) ∙ absent_below b.at bs above)
without_case false b bs rest at q e above h =
    either_order (eqb at q) (eqb b.at q) None (Some b) (block_at bs q) (block_at rest q) (not_both at b.at q e) h

pub at_without : (bs : Store) (at q : ℕ) → Ascends bs → block_at (without_block bs at) q ≡ cond (eqb at q) None (block_at bs q)
at_without [] at q h = none_either (eqb at q)
at_without (b ∷ bs) at q h =
    without_case (eqb b.at at) b bs (without_block bs at) at q refl h.0 (at_without bs at q h.1)

-- ---- stores that have the same at each address

some_first : (b : Block) (bs : Store) → block_at (b ∷ bs) b.at ≡ Some b
some_first b bs = ap (λ (c : Bool). cond c (Some b) (block_at bs b.at)) (eq-eqb b.at b.at refl)

not_empty : (b : Block) (bs : Store) → None ≡ block_at (b ∷ bs) b.at → ⊥
not_empty b bs h = absurd (let e : None ≡ Some b = h ∙ some_first b bs in cc)

not_below : (a b : Block) (others bs : Store) → Above b.at bs → block_at (a ∷ others) a.at ≡ block_at (b ∷ bs) a.at → a.at < b.at → ⊥
not_below a b others bs above h lt =
    let none : block_at (b ∷ bs) a.at ≡ None = absent_below a.at (b ∷ bs) (lt, lower_above a.at b.at bs lt above) in
    absurd (let e : Some a ≡ None = sym (some_first a others) ∙ h ∙ none in cc)

equal_between : (m n : ℕ) → (m < n → ⊥) → (n < m → ⊥) → m ≡ n
equal_between m n h k = by (ltb m n) (ltb n m) refl refl
  where
    by : (c d : Bool) → ltb m n ≡ c → ltb n m ≡ d → m ≡ n
    by true d e f = absurd (h (ltb-true m n e))
    by false true e f = absurd (k (ltb-true n m f))
    by false false e f = omega (arith, ltb-false m n e, ltb-false n m f)

some_same : (a b : Block) → Some a ≡ Some b → a ≡ b
some_same a b e = ap (λ (o : Option Block). first o) e
  where
    first : Option Block → Block
    first None = a
    first (Some x) = x

rest_case : (c : Bool) (b : Block) (x y : Option Block) → (c ≡ true → x ≡ y) → cond c (Some b) x ≡ cond c (Some b) y → x ≡ y
rest_case true b x y h e = h refl
rest_case false b x y h e = e

pub same_store : (s t : Store) → Ascends s → Ascends t → ((q : ℕ) → block_at s q ≡ block_at t q) → s ≡ t
same_store [] [] h k e = refl
same_store [] (b ∷ bs) h k e = absurd (not_empty b bs (e b.at))
same_store (a ∷ others) [] h k e = absurd (not_empty a others (sym (e a.at)))
same_store (a ∷ others) (b ∷ bs) h k e =
    let at : a.at ≡ b.at = equal_between a.at b.at (not_below a b others bs k.0 (e a.at)) (not_below b a bs others h.0 (sym (e b.at))) in
    let same : a ≡ b = some_same a b (sym (some_first a others) ∙ e a.at ∙ ap (block_at (b ∷ bs)) at ∙ some_first b bs) in
    let later : (q : ℕ) → block_at others q ≡ block_at bs q = λ q.
    rest_case (eqb a.at q) a (block_at others q) (block_at bs q)
    (λ there.
    ap (block_at others) (sym (eqb-true a.at q there)) ∙ absent_below a.at others h.0
    ∙ sym (ap (block_at bs) (sym (eqb-true a.at q there) ∙ at) ∙ absent_below b.at bs k.0))
    (e q ∙ ap (λ (x : Block). cond (eqb x.at q) (Some x) (block_at bs q)) (sym same)) in
    let rest : others ≡ bs = same_store others bs h.1 k.1 later in
    ap (λ (x : Block). x ∷ others) same ∙ ap (λ (xs : Store). b ∷ xs) rest
