-- Two rows of checks that come to the same: those of a heap, and those of the model. What is shown of each check holds of the whole
-- row, so a call's refusals, their order and their numbers follow from its checks.
use Rattle.std.proofs.Common.{◌≡◌, Bool, true, false, refl, subst, Option, Some, None, Ok, Err}
use Rattle.mps_base.specs.declared.refusal.Refusal.{Refusal}
use Rattle.mps_model.specs.Checked.{Checked, ◌>>=◌, ◌>>◌, required, refuse_when}

-- both succeed with related values, or both fail with the same refusal
pub data Same {A B : Type 0} (Fits : A → B → Type 0) : Checked A → Checked B → Type 0 where
  fits : {a : A} {b : B} → Fits a b → Same Fits (Ok a) (Ok b)
  refused : {why : Refusal} → Same Fits (Err why) (Err why)

-- both are refused alike, or come to something that doesn't matter
abbrev pub Alike : {A B : Type 0} → Checked A → Checked B → Type 0
Alike x y = Same (λ a b. Unit {0}) x y

-- what comes next, with the values of the first checks, comes to the same too
pub same_then : {A B C D : Type 0} {Fits : A → B → Type 0} {FitNext : C → D → Type 0} {x : Checked A} {y : Checked B} {f : A → Checked C}
    {g : B → Checked D} → Same Fits x y → ((a : A) (b : B) → Fits a b → Same FitNext (f a) (g b)) → Same FitNext (x >>= f) (y >>= g)
same_then (fits {a} {b} fit) next = next a b fit
same_then refused next = refused

-- the same where the values aren't used
pub same_next : {A B C D : Type 0} {Fits : A → B → Type 0} {FitNext : C → D → Type 0} {x : Checked A} {y : Checked B} {v : Checked C}
    {w : Checked D}
    → Same Fits x y → Same FitNext v w → Same FitNext (x >> v) (y >> w)
same_next (fits fit) next = next
same_next refused next = refused

-- a weaker fit
pub same_weaker : {A B : Type 0} {Fits Less : A → B → Type 0} {x : Checked A} {y : Checked B} → Same Fits x y
    → ((a : A) (b : B) → Fits a b → Less a b) → Same Less x y
same_weaker (fits {a} {b} fit) less = fits (less a b fit)
same_weaker refused less = refused

-- ---- checks

-- the same condition is refused alike
pub same_refuse_when : (these those : Bool) (why : Refusal) → these ≡ those → Alike (refuse_when these why) (refuse_when those why)
same_refuse_when these those why same = subst (λ b. Alike (refuse_when these why) (refuse_when b why)) same (itself these)
  where
    itself : (b : Bool) → Alike (refuse_when b why) (refuse_when b why)
    itself true = refused
    itself false = fits tt

-- two values that are there or not: both are there and fit, or neither is
pub data BothOrNeither {A B : Type 0} (Fits : A → B → Type 0) : Option A → Option B → Type 0 where
  both : {a : A} {b : B} → Fits a b → BothOrNeither Fits (Some a) (Some b)
  neither : BothOrNeither Fits None None

pub same_required : {A B : Type 0} {Fits : A → B → Type 0} {o : Option A} {p : Option B} (why : Refusal) → BothOrNeither Fits o p
    → Same Fits (required o why) (required p why)
same_required why (both fit) = fits fit
same_required why neither = refused

-- ---- what a row comes to

-- where the model's comes to something, so does the other, and they fit
pub record HasFit {A B : Type 0} (Fits : A → B → Type 0) (x : Checked A) (b : B) : Type 0 where
  pub value : A
  pub comes : x ≡ Ok value
  pub fit : Fits value b

pub same_ok : {A B : Type 0} (Fits : A → B → Type 0) (x : Checked A) (y : Checked B) (b : B) → Same Fits x y → y ≡ Ok b → HasFit Fits x b
same_ok Fits x y b (fits {a = value} {b = other} fit) e =
    let same : other ≡ b = cc in record { value = value; comes = refl; fit = subst (Fits value) same fit }
same_ok Fits x y b refused e = absurd cc

-- where one is refused, so is the other, and alike
pub same_err : {A B : Type 0} (Fits : A → B → Type 0) (x : Checked A) (y : Checked B) (why : Refusal) → Same Fits x y → x ≡ Err why
    → y ≡ Err why
same_err Fits x y why (fits fit) e = absurd cc
same_err Fits x y why refused e = cc
