-- Worlds in which no collection runs: what a call does to the running collection is nothing.
use Rattle.std.proofs.Common.{◌≡◌, sym, ◌∙◌, ap, false, None}
use Rattle.std.specs.Prelude.{option_map}
use Rattle.mps_model.specs.Collection.{Collection}
use Rattle.mps_model.specs.Graph.{ids_of_client}
use Rattle.mps_model.specs.World.{World, is_running}
use Rattle.mps_model.specs.Effect.{with_collection}
use Rattle.mps_model.specs.History.{with_client_remembered, remembering}

-- where no collection runs, none is changed
pub with_collection-none : (w : World) (change : Collection → Collection) → w.collection ≡ None → with_collection w change ≡ w
with_collection-none w change rest =
    ap (λ c. record w { collection = option_map change c }) rest ∙ ap (λ c. record w { collection = c }) (sym rest)

-- where no collection runs, nothing is remembered of what the client holds
pub with_client_remembered-none : (w : World) → w.collection ≡ None → with_client_remembered w ≡ w
with_client_remembered-none w rest = with_collection-none w (remembering (ids_of_client w.graph)) rest

-- where no collection runs, none is running
pub is_running-none : (w : World) → w.collection ≡ None → is_running w ≡ false
is_running-none w rest = ap (λ c. is_running (record w { collection = c })) rest
