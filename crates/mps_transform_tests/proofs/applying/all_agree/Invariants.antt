use Rattle.std.proofs.Common.{ℕ, ◌≡◌, ◌%◌}
use Rattle.std.specs.List.{All}
use Rattle.mps_base.specs.Address.{bytes_of_word}
use Rattle.mps_format.specs.Front.{front_layout}
use Rattle.mps_xform.specs.Applying.{CanApply}
use Rattle.mps_transform_tests.specs.Full.{AreFull}
use Rattle.mps_transform_tests.proofs.applying.all_agree.Given as goal

abbrev pub invariant-loop : goal.invariant-loop
invariant-loop l = record {
  aligned : All (λ p. p.new.0 % bytes_of_word ≡ 0) l.transforms.pairs;
  can : (pool : ℕ) → CanApply front_layout l.segs pool;
  full : AreFull l.segs;
}
