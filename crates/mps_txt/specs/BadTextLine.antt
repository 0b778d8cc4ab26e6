-- What is reported of a line of a portable text that is wrong.
use Rattle.std.specs.Prelude.{◌≡◌, ℕ, codes, decimal, List, ◌++◌, refl}
use Rattle.std.specs.Fmt.{digits}
use Rattle.mps_txt.specs.declared.bad_text_line.BadTextLine.{BadTextLine}

-- the line of this number
abbrev pub bad_line : (number : ℕ) → BadTextLine
bad_line number = record { line = number }

-- its report
abbrev pub text_of_bad_line : BadTextLine → List ℕ
text_of_bad_line bad = codes "mps: text line " ++ decimal bad.line ++ codes ": bad line\n"

pub the_second_line : text_of_bad_line (bad_line 2) ≡ codes "mps: text line 2: bad line\n"
unfolding digits
the_second_line = refl
