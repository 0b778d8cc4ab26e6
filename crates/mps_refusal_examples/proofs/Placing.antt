use Rattle.std.proofs.Common.{refl}
use Rattle.mps_refusal_examples.specs.Placing.{AreGapsByRank, AreBuffersByPoint}

pub gaps_are_by_rank : AreGapsByRank
gaps_are_by_rank = record {
  exact = refl;
  exact_does_not_fit = refl;
  weak = refl;
  weak_does_not_fit = refl;
}

pub buffers_are_by_point : AreBuffersByPoint
buffers_are_by_point = record {
  in_the_buffer = refl;
  past_the_buffer = refl;
  without_buffer = refl;
}
