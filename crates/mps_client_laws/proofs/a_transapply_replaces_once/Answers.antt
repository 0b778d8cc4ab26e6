use Rattle.mps_client_laws.proofs.Substituting.{no_changes_nothing, no_reference_is_to_old, no_slot_refers_to_old, yes_is_not_blocked, yes_is_the_substitution}
use Rattle.mps_client_laws.proofs.a_transapply_replaces_once.Goals as goal

pub returns : goal.returns
returns c = record {
  substitution = yes_is_the_substitution;
  not_blocked = yes_is_not_blocked;
  slots = no_slot_refers_to_old;
  references = no_reference_is_to_old;
  blocked = no_changes_nothing;
}
