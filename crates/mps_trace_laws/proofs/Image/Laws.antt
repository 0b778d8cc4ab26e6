-- The laws, as they are stated.
use Rattle.mps_trace_laws.proofs.Image.Shaped.{are_shaped_objects}
use Rattle.std.specs.Prelude.{ℕ}
use Rattle.mps_format.specs.Layout.{IsLawful}
use Rattle.mps_model.specs.World.{World}
use Rattle.mps_model.specs.WellFormed.{IsWellFormed}
use Rattle.mps_trace_laws.specs.Image.Memory.{pool_layout}
use Rattle.mps_trace_laws.specs.Image.Image.{AreShaped}

-- the objects of a well-formed world whose formats are lawful are blocks of their formats
pub well_formed_is_shaped : (w : World) → ((n : ℕ) → IsLawful (w.formats n)) → IsWellFormed w → AreShaped w.graph.objects (pool_layout w)
well_formed_is_shaped w lawful right = are_shaped_objects w lawful right.objects
