use Rattle.std.proofs.Common.{arith, refl, sym, subst}
use Rattle.mps_commands.specs.Range.{IsInRange}
use Rattle.mps_model.specs.declared.reply.Reply.TheVariants as reply
use Rattle.mps_session.specs.Standing.{BeginsRightly}
use Rattle.mps_session.proofs.machine.Session.begin.Goals as goal

pub returns-in_default-replace-clause-right : goal.returns-in_default-replace-clause-right
returns-in_default-replace-clause-right c =
    let range = subst IsInRange c.in-Arena.is c.requires.range in
    subst (BeginsRightly c.args.call.now reply.Ok) (sym c.replace.ensures.after)
    (record {
      grains = c.in-Arena.grains;
      limit = c.in-Arena.limit;
      is = c.in-Arena.is;
      some = omega (arith, range.0);
      told = refl;
      new = c.in_ok-made.ensures.right;
      unmoved = c.in_ok-made.ensures.unmoved;
    })
