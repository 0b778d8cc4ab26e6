use Rattle.std.proofs.Common.{◌<◌, ◌^◌, length, option_copied, arith}
use Rattle.std.proofs.lemmas.List.{length-set}
use Rattle.std.proofs.lemmas.List.Elements.{All-set}
use Rattle.mps_txt.specs.Separators.{separated}
use Rattle.mps_txt.proofs.NumberTexts.{if_none}
use Rattle.mps_txt.proofs.RecordWords.{no_field_left, no_field_leads, spelled_more, others_more}
use Rattle.mps_txt.proofs.record_line.fields_of.Goals as goal

pub returns-in_err-rest-clause-complete : goal.returns-in_err-rest-clause-complete
returns-in_err-rest-clause-complete c =
    if_none c.from_residual.result _ (λ all full fits e.
    let left = c.loop-i.invariant.others all full fits e in
    let within : c.loop-i.i < length all = omega (arith, full) in
    no_field_left c.loop-i.i all within (rw c.in_err-rest.was at left))

pub returns-in_err-field-clause-complete : goal.returns-in_err-field-clause-complete
returns-in_err-field-clause-complete c =
    if_none c.from_residual-in_err-field.result _ (λ all full fits e.
    let left = c.loop-i.invariant.others all full fits e in
    let within : c.loop-i.i < length all = omega (arith, full) in
    no_field_leads c.loop-i.i all c.in_ok-rest.field-0.now within fits (rw c.in_ok-rest.was at left) c.in_err-field.ensures.complete)

pub loop-i-preserved : goal.loop-i-preserved
loop-i-preserved c =
    let i = c.loop-i.i in
    let text = c.in_ok-rest.field-0.now in
    let found = c.in_ok-field.ensures.sound in
    record {
      size = rw length-set c.loop-i.invariant.size;
      fits = All-set (λ field. field < 2 ^ 64) c.loop-i.fields i c.in_ok-field.field c.in_ok-field.ensures.at_most c.loop-i.invariant.fits;
      spelled =
          spelled_more i c.in_ok-field.field c.loop-i.fields (separated 32 (option_copied c.args.text)) text
          (option_copied c.in_ok-field.others) (omega (arith, c.loop-i.invariant.size, c.requires))
          (rw c.in_ok-rest.was at c.loop-i.invariant.spelled) found;
      others = λ all full fits e.
          others_more i c.in_ok-field.field all text (option_copied c.in_ok-field.others)
          (omega (arith, full)) fits c.in_ok-field.ensures.at_most
          (rw c.in_ok-rest.was at (c.loop-i.invariant.others all full fits e)) found;
    }
