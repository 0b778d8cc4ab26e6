use Rattle.std.proofs.Common.{refl}
use Rattle.mps_refusal_examples.specs.Frames.{FramesAnswer}

pub frames_answer : FramesAnswer
frames_answer = record {
  pool_of_frames = refl;
  pool_of_frames_where_full = refl;
  of_other_calls = refl;
  free = refl;
  push = refl;
  push_where_full = refl;
  pop = refl;
}
