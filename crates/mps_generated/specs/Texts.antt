-- Lines as a generator gives them, each with its line feed.
use Rattle.std.specs.Prelude.{ℕ, ◌≡◌, ◌-◌, true, not, codes, List, [], ◌∷◌, ◌++◌, length, take, refl}
use Rattle.std.specs.List.{flat_map, list_all}
use Rattle.mps_script.specs.Lines.{is_line_feed}
use Rattle.mps_run.specs.Script.{Line}

-- the line of a text, without its line feed
abbrev pub line_of : List ℕ → Line
line_of text = take (length text - 1) text

-- the first line of texts
abbrev pub first_line : List (List ℕ) → Line
first_line [] = []
first_line (text ∷ texts) = line_of text

-- the texts together
abbrev pub text_of : List (List ℕ) → List ℕ
text_of texts = flat_map (λ line. line) texts

-- a text is a line and its line feed
pub record IsLineText (text : List ℕ) : Type 0 where
  pub line : Line
  pub is : text ≡ line ++ 10 ∷ []
  pub none : list_all (λ (b : ℕ). not (is_line_feed b)) line ≡ true

-- each of these is
abbrev pub AreLineTexts : List (List ℕ) → Type 0
AreLineTexts [] = Unit {0}
AreLineTexts (text ∷ texts) = IsLineText text × AreLineTexts texts

-- the most lines of a generated script: four for each of a million steps, and eight
abbrev pub max_lines_of_run : ℕ
max_lines_of_run = 4000008

pub a_text_without_its_line_feed : first_line (codes "live\n" ∷ codes "step 7\n" ∷ []) ≡ codes "live"
a_text_without_its_line_feed = refl

pub a_plain_line : IsLineText (codes "step 7\n")
a_plain_line = record { line = codes "step 7"; is = refl; none = refl }
