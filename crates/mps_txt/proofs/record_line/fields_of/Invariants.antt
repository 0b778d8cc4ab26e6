use Rattle.std.proofs.Common.{◌≡◌, ◌<◌, ◌^◌, ◌++◌, ℕ, List, length, take, drop, option_copied}
use Rattle.std.specs.Prelude.{All}
use Rattle.std.specs.List.{flat_map}
use Rattle.mps_log_reader.specs.RecordLine.{field_text}
use Rattle.mps_txt.specs.Separators.{separated}
use Rattle.mps_txt.proofs.record_line.fields_of.Given as goal

abbrev pub invariant-loop-i : goal.invariant-loop-i
invariant-loop-i l = record {
  size : length l.fields ≡ 4;
  fits : All (λ field. field < 2 ^ 64) l.fields;
  spelled : separated 32 (option_copied l.text) ≡ flat_map field_text (take l.i l.fields) ++ separated 32 (option_copied l.rest);
  others : (all : List ℕ) → length all ≡ l.count → All (λ field. field < 2 ^ 64) all
      → separated 32 (option_copied l.text) ≡ flat_map field_text all
      → separated 32 (option_copied l.rest) ≡ flat_map field_text (drop l.i all);
}
