use Rattle.std.proofs.Common.{◌∙◌, ◌-◌, ℕ, get_or, Some, ap, arith}
use Rattle.mps_format.specs.declared.head.Head.TheVariants.{Front}
use Rattle.mps_line_words.proofs.Heads.{short_front}
use Rattle.mps_line_words.proofs.head.short_head.Goals as goal

pub returns-in-102 : goal.returns-in-102
returns-in-102 c =
    let is = short_front c.args.text.now (omega arith) (omega arith) (omega arith) (omega arith) (omega arith) (omega arith) (omega arith)
    (omega arith) in (
      ap (λ (n : ℕ). Some (Front n c.from-in-102.result)) c.from.ensures
          ∙ ap (λ (n : ℕ). Some (Front (get_or c.args.text.now 2 0 - 48) n)) c.from-in-102.ensures ∙ is.0,
      is.1,
    )
