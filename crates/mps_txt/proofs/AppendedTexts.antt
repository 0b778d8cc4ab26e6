-- Texts that were put out one after the other.
use Rattle.std.proofs.Common.{◌≡◌, ℕ, List, [], ◌++◌, append_assoc}
use Rattle.std.proofs.lemmas.List.{append-nil}

pub three_appended : (out a b c first second third : List ℕ) → first ≡ out ++ a → second ≡ first ++ b → third ≡ second ++ c
    → third ≡ out ++ (a ++ (b ++ (c ++ [])))
three_appended out a b c first second third e f g = rw (g, f, e) (simp (append_assoc, append-nil))

pub four_appended : (out a b c d first second third fourth : List ℕ) → first ≡ out ++ a → second ≡ first ++ b
    → third ≡ second ++ c → fourth ≡ third ++ d
    → fourth ≡ out ++ (a ++ (b ++ (c ++ (d ++ []))))
four_appended out a b c d first second third fourth e f g h = rw (h, g, f, e) (simp (append_assoc, append-nil))

-- a text, and then a name after another text
pub name_appended : (out a lit name is first second third : List ℕ) → first ≡ out ++ a → second ≡ first ++ lit
    → third ≡ second ++ name → name ≡ is
    → third ≡ out ++ (a ++ ((lit ++ is) ++ []))
name_appended out a lit name is first second third e f g h = rw (g, f, e, h) (simp (append_assoc, append-nil))
