use Rattle.std.proofs.Common.{refl}
use Rattle.mps_refusal_examples.specs.Transforms.{TransformsAnswer}

pub transforms_answer : TransformsAnswer
transforms_answer = record {
  make = refl;
  make_where_one_is_left = refl;
  make_where_full = refl;
  add = refl;
  add_where_clamped = refl;
  add_where_full = refl;
  add_where_parked = refl;
  apply = refl;
  apply_where_open = refl;
  apply_where_blocked = refl;
  apply_where_parked = refl;
  apply_without_pairs = refl;
  drop = refl;
}
