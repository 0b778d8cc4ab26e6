-- Pieces after the bytes that are known.
use Rattle.std.proofs.Common.{◌≡◌, ℕ, Option, Some, None, List, [], ◌++◌, sym, ap, refl, ◌∙◌, append_assoc, append-nil}
use Rattle.mps_report.specs.Streams.{appended}

-- nothing after what is known
pub appended_empty : (known : Option (List ℕ)) → known ≡ appended known []
appended_empty None = refl
appended_empty (Some bytes) = ap Some (sym (append-nil bytes))

-- a piece after another
pub appended_twice : (known : Option (List ℕ)) (a b : List ℕ) → appended (appended known a) b ≡ appended known (a ++ b)
appended_twice None a b = refl
appended_twice (Some bytes) a b = ap Some (append_assoc bytes a b)

-- two pieces one after the other are one piece
pub appended_both : (x y : List ℕ) (a b c : Option (List ℕ)) → b ≡ appended a x → c ≡ appended b y → c ≡ appended a (x ++ y)
appended_both x y a b c e f = f ∙ ap (λ (known : Option (List ℕ)). appended known y) e ∙ appended_twice a x y

pub some_is : {A : Type 0} (x y : A) → Some x ≡ Some y → x ≡ y
some_is x y e = cc
