use Rattle.std.proofs.Common.{rules, ◌≡◌, ◌∙◌, Some, None, option_map, lit<}
use Rattle.std.specs.Int.RustNames.{bit_or}
use Rattle.mps_event.specs.KindSet.{bits_of}
use Rattle.mps_args.specs.Kinds.{kind_named}
use Rattle.mps_args.proofs.NamedKinds.{cut_named, uncut_named}
use Rattle.mps_args.proofs.words.kinds_of.Goals as goal

pub returns-in_err-kinds : goal.returns-in_err-kinds
returns-in_err-kinds c =
    let cut = c.in-Some.ensures.byte (lit< tt) (λ w o h. h) in
    let failed : None ≡ option_map (bit_or (bits_of c.loop-name.kinds)) (kind_named c.in-Some.name.now) = search rules in
    let none : option_map bits_of c.from_residual.result ≡ None = search rules in
    none ∙ cut_named (bits_of c.loop-name.kinds) c.loop-name.rest.now c.in-Some.name.now c.in-Some.later.now None cut.0 cut.1 cut.2 failed
    ∙ c.loop-name.invariant.1

pub loop-name-preserved : goal.loop-name-preserved
loop-name-preserved c =
    let cut = c.in-Some.ensures.byte (lit< tt) (λ w o h. h) in
    let found : Some (bits_of c.in_ok-kinds.kinds) ≡ option_map (bit_or (bits_of c.loop-name.kinds)) (kind_named c.in-Some.name.now) =
    search rules in (
      search rules,
      cut_named (bits_of c.loop-name.kinds) c.loop-name.rest.now c.in-Some.name.now c.in-Some.later.now
          (Some (bits_of c.in_ok-kinds.kinds)) cut.0 cut.1 cut.2 found ∙ c.loop-name.invariant.1,
    )

pub returns : goal.returns
returns c =
    let uncut = c.in_default.ensures.byte (lit< tt) (λ w o h. h) in
    c.with_kind-2.ensures ∙ uncut_named (bits_of c.loop-name.kinds) c.loop-name.rest.now uncut ∙ c.loop-name.invariant.1
