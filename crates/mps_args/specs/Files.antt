-- Words that name files.
use Rattle.std.specs.Prelude.{◌≡◌, ℕ, ◌==◌, Bool, true, false, ◌||◌, not, codes, List, [], ◌∷◌, refl}
use Rattle.std.specs.Str.{bytes_eq}
use Rattle.mps_desk.specs.Desk.{standard_input}

-- not empty, and not beginning with `-`
abbrev pub is_file : List ℕ → Bool
is_file [] = false
is_file (first ∷ _) = not (first == 45)

-- a file, or `-` for standard input
abbrev pub is_file_to_read : List ℕ → Bool
is_file_to_read word = bytes_eq word standard_input || is_file word

-- the log if none is named
abbrev pub usual_log : List ℕ
usual_log = codes "mpsio.log"

pub a_dash_inside_is_fine : is_file (codes "a-b") ≡ true
a_dash_inside_is_fine = refl

pub no_empty_name : is_file_to_read [] ≡ false
no_empty_name = refl

pub standard_input_is_only_read : is_file standard_input ≡ false
standard_input_is_only_read = refl

pub standard_input_is_read : is_file_to_read standard_input ≡ true
standard_input_is_read = refl

pub two_dashes_are_no_file : is_file_to_read (codes "--") ≡ false
two_dashes_are_no_file = refl
