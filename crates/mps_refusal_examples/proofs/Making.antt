use Rattle.std.proofs.Common.{refl}
use Rattle.mps_refusal_examples.specs.Making.{ArenaAnswers, PoolsAnswer, RootsAnswer, PointsAnswer}

pub arena_answers : ArenaAnswers
arena_answers = record {
  arena = refl;
  limit = refl;
  committed = refl;
}

pub pools_answer : PoolsAnswer
pools_answer = record {
  chain_where_full = refl;
  chain_where_one_is_left = refl;
  pool_where_full = refl;
  pool_where_one_is_left = refl;
  pool_on_chain_where_full = refl;
  pool_on_chain_where_one_is_left = refl;
  pool_mfs_where_full = refl;
  pool_mfs_where_one_is_left = refl;
  pool_mvff_where_full = refl;
  pool_mvff_where_one_is_left = refl;
}

pub roots_answer : RootsAnswer
roots_answer = record {
  table_where_full = refl;
  table_where_one_is_left = refl;
  area_where_full = refl;
  area_where_one_is_left = refl;
  blocks_where_full = refl;
  blocks_where_one_is_left = refl;
  droproot = refl;
}

pub points_answer : PointsAnswer
points_answer = record {
  ap_where_full = refl;
  ap_where_one_is_left = refl;
  dropap = refl;
  ld_where_full = refl;
  ld_where_one_is_left = refl;
}
