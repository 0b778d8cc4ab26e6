-- Texts without a byte, and texts that a separator begins.
use Rattle.std.specs.Prelude.{◌≢◌, ℕ, Option, Some, None, List, [], ◌∷◌, All}

-- the byte stands nowhere in the text
abbrev pub Lacks : (byte : ℕ) → List ℕ → Type 0
Lacks byte text = All (λ other. other ≢ byte) text

-- a separator and a text after it, or nothing at all
abbrev pub separated : (separator : ℕ) → Option (List ℕ) → List ℕ
separated separator None = []
separated separator (Some rest) = separator ∷ rest
