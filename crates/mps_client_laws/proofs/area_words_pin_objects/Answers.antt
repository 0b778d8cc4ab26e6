use Rattle.mps_client_laws.proofs.Pinning.{addresses_lie_inside, pinned_objects_lie_still, shown_numbers_stay}
use Rattle.mps_client_laws.proofs.Poking.{peek_answers_what_is_shown, poke_shows_its_number}
use Rattle.mps_client_laws.proofs.area_words_pin_objects.Goals as goal

pub returns : goal.returns
returns c = record {
  poke = poke_shows_its_number;
  shown = shown_numbers_stay;
  peek = peek_answers_what_is_shown;
  inside = addresses_lie_inside;
  pinned = pinned_objects_lie_still;
}
