use Rattle.std.proofs.Common.{◌∙◌, ℕ, List, ap, arith}
use Rattle.std.specs.Int.{bytes_low_first}
use Rattle.mps_line_words.proofs.NameBytes.{bytes_of_gathered, short_bytes}
use Rattle.mps_line_words.proofs.names.name_from.Goals as goal

pub returns-then-name-le-GATHERED_BYTES : goal.returns-then-name-le-GATHERED_BYTES
returns-then-name-le-GATHERED_BYTES c =
    ap (λ (bytes : List ℕ). record { bytes = bytes })
    (short_bytes c.args.name.now c.copy_from_slice-then-name-le-GATHERED_BYTES.new.self
    (omega (arith, c.if-name-le-GATHERED_BYTES.true)) (λ i. omega (arith, c.type_inv.name i))
    (c.copy_from_slice-then-name-le-GATHERED_BYTES.ensures.after ∙ c.to_le_bytes-then-name-le-GATHERED_BYTES.ensures
    ∙ ap (bytes_low_first 0 8) c.gathered.ensures))

pub returns-else-name-le-GATHERED_BYTES : goal.returns-else-name-le-GATHERED_BYTES
returns-else-name-le-GATHERED_BYTES c =
    ap (λ (bytes : List ℕ). record { bytes = bytes })
    (c.copy_from_slice-else-name-le-GATHERED_BYTES.ensures.after ∙ c.to_le_bytes-else-name-le-GATHERED_BYTES.ensures
    ∙ ap (bytes_low_first 0 16) c.long_number.ensures
    ∙ bytes_of_gathered 16 c.args.name.now c.requires (λ i. omega (arith, c.type_inv.name i)))
