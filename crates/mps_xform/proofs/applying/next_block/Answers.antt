use Rattle.std.proofs.Common.{ℕ, ◌≡◌, ◌%◌, Option, Some, None, IfSome, IfNone, ap, ◌∙◌, arith}
use Rattle.std.specs.Prelude.{option_map}
use Rattle.mps_base.specs.Address.{word_of, bytes_of_word}
use Rattle.mps_base.specs.declared.address.Addr.{Addr}
use Rattle.mps_seg.specs.Extents.{first_run}
use Rattle.mps_seg.specs.Segs.{at_word}
use Rattle.mps_xform.proofs.Walked.{none_found, word_found}
use Rattle.mps_xform.proofs.applying.next_block.Goals as goal

pub walk-requires : goal.walk-requires
walk-requires c =
    let span = c.requires.1 in
    (span.segment, span.there, span.begins)

answer : (c : goal.After-walk)
    → c.walk.result ≡ option_map at_word (first_run (word_of c.args.from.0) (word_of c.args.end.0) c.args.segs.now.blocks)
answer c =
    let span = c.requires.1 in
    c.walk.ensures span.segment span.there span.begins
    ∙ ap (λ (end : ℕ). option_map at_word (first_run (word_of c.args.from.0) (word_of end) c.args.segs.now.blocks)) span.ends

-- the block that a walk found
walked : (o : Option Addr) (w : Option ℕ) → o ≡ option_map at_word w
    → IfSome o (λ at. (w ≡ Some (word_of at.0)) × (at.0 % bytes_of_word ≡ 0))
walked None w is = tt
walked (Some at) w is =
    let found = word_found w at is in
    let number = ap (λ (a : Addr). a.0) found.2 in
    let same : found.0 ≡ word_of at.0 = omega (arith, number) in
    (found.1 ∙ ap (λ (n : ℕ). Some n) same, omega (arith, number))

not_walked : (o : Option Addr) (w : Option ℕ) → o ≡ option_map at_word w → IfNone o (w ≡ None)
not_walked None w is = none_found w is
not_walked (Some at) w is = tt

pub returns-clause-found : goal.returns-clause-found
returns-clause-found c = walked c.walk.result (first_run (word_of c.args.from.0) (word_of c.args.end.0) c.args.segs.now.blocks) (answer c)

pub returns-clause-none : goal.returns-clause-none
returns-clause-none c =
    not_walked c.walk.result (first_run (word_of c.args.from.0) (word_of c.args.end.0) c.args.segs.now.blocks) (answer c)
