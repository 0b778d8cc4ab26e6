use Rattle.std.proofs.Common.{refl}
use Rattle.mps_refusal_examples.specs.Allocating.{ReservationsAnswer, InitStores, ManualBlocksAnswer}

pub reservations_answer : ReservationsAnswer
reservations_answer = record {
  reserve = refl;
  reserve_heads = refl;
  init_number = refl;
  init_reference = refl;
  init_doomed = refl;
  commit = refl;
}

pub init_stores : InitStores
init_stores = record {
  a_number = refl;
  a_reference = refl;
  no_number = refl;
  no_reference = refl;
}

pub manual_blocks_answer : ManualBlocksAnswer
manual_blocks_answer = record {
  alloc = refl;
  free = refl;
  load = refl;
  store = refl;
}
