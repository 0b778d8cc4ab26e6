use Rattle.std.proofs.Common.{refl}
use Rattle.mps_refusal_examples.specs.Accessing.{CellsAnswer, SlotsAnswer, AreasAnswer}

pub cells_answer : CellsAnswer
cells_answer = record {
  get = refl;
  put = refl;
  num = refl;
  setnum = refl;
}

pub slots_answer : SlotsAnswer
slots_answer = record {
  copy = refl;
  clear = refl;
  same = refl;
  null = refl;
  head = refl;
  addr = refl;
}

pub areas_answer : AreasAnswer
areas_answer = record {
  poke = refl;
  peek = refl;
  pin = refl;
  take = refl;
}
