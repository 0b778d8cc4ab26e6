-- Segments that hold what others hold, and more.
use Rattle.std.specs.Prelude.{◌≡◌}
use Rattle.mps_base.specs.Address.{Word}
use Rattle.mps_seg.specs.Segs.{SegsState}
use Rattle.mps_trace_laws.specs.Image.Memory.{pool_over_word, is_condemned_word}
use Rattle.mps_trace_laws.specs.Image.Scanning.{HoldsMore}

-- segments hold what they held, and as much of it is condemned
pub record Grows (s s' : SegsState) : Type 0 where
  pub same_grains : s'.grains ≡ s.grains
  pub pools : HoldsMore (pool_over_word s) (pool_over_word s')
  pub condemned : (n : Word) → is_condemned_word s' n ≡ is_condemned_word s n
