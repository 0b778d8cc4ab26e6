-- The pieces in which words are printed.
use Rattle.std.specs.Prelude.{ℕ, List, ◌∷◌}
use Rattle.mps_model.specs.Text.{word_text}

-- a space, and a word
abbrev pub and_word : ℕ → List ℕ
and_word word = 32 ∷ word_text word
