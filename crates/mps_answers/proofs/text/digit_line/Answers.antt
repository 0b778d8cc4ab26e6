use Rattle.std.proofs.Common.{◌++◌, ◌∷◌, [], ℕ, List, sym, ap}
use Rattle.std.proofs.lemmas.Fmt.{decimal_digit}
use Rattle.mps_answers.proofs.text.digit_line.Goals as goal

pub returns : goal.returns
returns c = ap (λ (text : List ℕ). text ++ 10 ∷ []) (sym (decimal_digit c.args.digit c.requires))
