use Rattle.mps_heap_code.proofs.Messages.{message_came}
use Rattle.mps_heap_code.proofs.finalizing.message.Goals as goal

pub returns : goal.returns
returns g c =
    message_came _ c.args.state.now c.state.view_is c.args.slot c.in_ok-into.into c.in_ok-into.ensures.value c.take.new.self
    c.in-Some.at.0 c.set_slot.new.self c.take.ensures.state c.in-Some.ensures.value c.set_slot.ensures
