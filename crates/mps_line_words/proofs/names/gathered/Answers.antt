use Rattle.std.proofs.Common.{refl, arith}
use Rattle.mps_line_words.proofs.NameBytes.{four_below, halves}
use Rattle.mps_line_words.proofs.names.gathered.Goals as goal

pub overflow_mul-result : goal.overflow_mul-result
overflow_mul-result c =
    let both = halves c.args.bytes.now c.gathered_four-low.result c.gathered_four-last.result _ c.if-bytes-lt-HALF_BYTES.false c.requires
    (λ i. omega (arith, c.type_inv.bytes i)) c.gathered_four-low.ensures c.gathered_four-last.ensures refl
    in
    omega (arith, both.0)

pub overflow_add-result : goal.overflow_add-result
overflow_add-result c =
    let both = halves c.args.bytes.now c.gathered_four-low.result c.gathered_four-last.result _ c.if-bytes-lt-HALF_BYTES.false c.requires
    (λ i. omega (arith, c.type_inv.bytes i)) c.gathered_four-low.ensures c.gathered_four-last.ensures refl
    in
    let low = four_below c.args.bytes.now 0 (λ i. omega (arith, c.type_inv.bytes i)) in
    omega (arith, both.0, low, c.gathered_four-low.ensures)

pub returns : goal.returns
returns c =
    (halves c.args.bytes.now c.gathered_four-low.result c.gathered_four-last.result _ c.if-bytes-lt-HALF_BYTES.false c.requires
    (λ i. omega (arith, c.type_inv.bytes i)) c.gathered_four-low.ensures c.gathered_four-last.ensures refl).1
