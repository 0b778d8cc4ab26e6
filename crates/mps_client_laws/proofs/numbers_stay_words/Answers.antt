use Rattle.mps_client_laws.proofs.Numbers.{numbers_stay_words, reached_numbers_are_words}
use Rattle.mps_client_laws.proofs.numbers_stay_words.Goals as goal

pub returns : goal.returns
returns c = record { steps = numbers_stay_words; reached = reached_numbers_are_words }
