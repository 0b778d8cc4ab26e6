-- What holds of a graph in which a reference was made null, and stays if another one is, holds after a splat.
use Rattle.std.proofs.Common.{ℕ, Option, Some, None}
use Rattle.std.specs.Option.{option_map_or}
use Rattle.mps_model.specs.Graph.{Graph, dependent_in}
use Rattle.mps_model.specs.Effect.{graph_nulled, graph_splatted}

pub splatted_holds : (Holds : Graph → Type 0) (g : Graph) (holder cell : ℕ) → Holds (graph_nulled g holder cell)
    → ((dependent : ℕ) → Holds (graph_nulled (graph_nulled g holder cell) dependent cell)) → Holds (graph_splatted g holder cell)
splatted_holds Holds g holder cell first second = of_dependent (dependent_in g.dependents holder)
  where
    of_dependent : (o : Option ℕ)
        → Holds (record g {
          objects = option_map_or (λ dependent. (graph_nulled (graph_nulled g holder cell) dependent cell).objects) o
              (graph_nulled g holder cell).objects;
        })
    of_dependent None = first
    of_dependent (Some dependent) = second dependent
