-- What the collector finds at an address that means an object.
use Rattle.std.specs.Prelude.{◌≡◌, true, false, Option, Some, None, List}
use Rattle.mps_base.specs.Address.{Address, Id}
use Rattle.mps_base.specs.declared.address.Addr.{Addr}
use Rattle.mps_format.specs.Layout.{Layout}
use Rattle.mps_format.specs.declared.pool.Policy.{Policy}
use Rattle.mps_trace.specs.GenState.{ChainsState}
use Rattle.mps_trace.specs.Finding.{FindsTo}
use Rattle.mps_trace.specs.Trace.{Traced}
use Rattle.mps_model.specs.Graph.{Object}
use Rattle.mps_abstract.specs.Collecting.{Collecting, is_white_in}
use Rattle.mps_trace_laws.specs.Image.Memory.{pool_layout}
use Rattle.mps_trace_laws.specs.Image.Image.{CellSet, AreShaped}
use Rattle.mps_trace_laws.specs.Image.Fixing.{Target}
use Rattle.mps_trace_laws.specs.Fix.Tracing.{TracingStands, setting_of}

-- an object is found where it is now, or it is white, and then it lies at the address itself
pub data FindsObject (y : Collecting) (t : Id) (at now : Address) : Option Addr → Type 0 where
  there : (to : Addr) → to.0 ≡ now → is_white_in y t ≡ false → FindsObject y t at now (Some to)
  white : at ≡ now → is_white_in y t ≡ true → FindsObject y t at now None

-- what is found at an address that means a live automatic object is where that lies, and nothing is found exactly if it is white
abbrev pub AnObjectIsFound : (F : Type 0) → Type 0
AnObjectIsFound F =
    (layout : F → Layout) (formats : List (Option (Policy F))) (of : ChainsState) (at_flip : List (Option Address)) (done : CellSet)
    (x : Traced) (y : Collecting) (at : Addr) (t : Id) (now : Address) (o : Object) (found : Option Addr)
    → AreShaped y.world.graph.objects (pool_layout y.world) → TracingStands layout formats of at_flip done x y
    → Target (setting_of x.segs at_flip y) y.world.addresses t at.0 now o → FindsTo layout formats x.segs at found
    → FindsObject y t at.0 now found
