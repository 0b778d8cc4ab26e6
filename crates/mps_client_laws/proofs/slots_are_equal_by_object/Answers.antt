use Rattle.mps_client_laws.proofs.Slots.{copy_gives_the_same_object, clear_leaves_null, yes_is_the_same_object, no_is_another_object, yes_is_no_object, no_is_an_object}
use Rattle.mps_client_laws.proofs.slots_are_equal_by_object.Goals as goal

pub returns : goal.returns
returns c = record {
  copy = copy_gives_the_same_object;
  clear = clear_leaves_null;
  same = yes_is_the_same_object;
  not_same = no_is_another_object;
  null = yes_is_no_object;
  not_null = no_is_an_object;
}
