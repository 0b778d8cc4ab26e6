use Rattle.std.proofs.Common.{◌∷◌, ◌+◌, subst}
use Rattle.std.specs.Prelude.{◌%◌, ◌^◌}
use Rattle.mps_format.specs.TailExample.{tail_layout}
use Rattle.mps_heap_examples.specs.Listed.{HasNumbers}
use Rattle.mps_heap_examples.proofs.Located.{first_lies}
use Rattle.mps_heap_examples.proofs.Setting.{first_read}
use Rattle.mps_heap_examples.proofs.addresses.add_to_first.Goals as goal

pub returns-clause-there : goal.returns-clause-there
returns-clause-there c w stands =
    c.in_ok-set_first.ensures.stays _ (first_lies (λ _. tail_layout) _ _ c.first.ensures _ c.in_ok-at.ensures.right w stands)

pub returns-clause-added : goal.returns-clause-added
returns-clause-added c number numbers has =
    let is = first_read (λ _. tail_layout) _ _ c.first-2.ensures number numbers has _ c.in_ok-number.ensures.right in
    subst (λ n. HasNumbers c.set_first.new.heap ((n + c.args.more) % 2 ^ 64 ∷ numbers)) is
    (c.in_ok-set_first.ensures.set number numbers has)
