-- The line of a record in portable text.
use Rattle.std.specs.Prelude.{◌≡◌, ℕ, codes, decimal, List, [], ◌∷◌, ◌++◌, refl}
use Rattle.std.specs.Fmt.{digits}
use Rattle.std.specs.List.{flat_map}
use Rattle.mps_base.specs.Record.{Record}
use Rattle.mps_report.specs.Hexadecimal.{hexadecimal}

-- a field, after a space
abbrev pub field_text : ℕ → List ℕ
field_text field = 32 ∷ hexadecimal field

-- the line of a record: its line and its code in decimal, and its fields in hexadecimal
abbrev pub record_line : Record → List ℕ
record_line r = decimal r.line ++ codes " " ++ decimal r.code ++ flat_map field_text r.fields ++ codes "\n"

pub the_line_of_a_move : record_line (record { line = 10; code = 82; fields = 0x1000 ∷ 0x2000 ∷ [] }) ≡ codes "10 82 1000 2000\n"
unfolding digits
the_line_of_a_move = refl
