-- What splats leave of the abstract collector: all but cells of the objects, and the phase of its collection.
use Rattle.std.proofs.Common.{◌≡◌, ◌∙◌, ℕ, zero, suc, Bool, refl, sym, ap, List, [], ◌∷◌, length, map, Option, Some, None}
use Rattle.std.proofs.lemmas.List.{length-set}
use Rattle.std.proofs.lemmas.Option.{none-some, same_Some, slice_get-map}
use Rattle.std.specs.Prelude.{slice_get, slice_set, option_map}
use Rattle.std.specs.Option.{option_map_or}
use Rattle.mps_base.specs.Address.{Id}
use Rattle.mps_model.specs.Effect.{graph_nulled, graph_splatted}
use Rattle.mps_model.specs.Graph.{Graph, Body, Automatic, Manual, Cell, Object, dependent_in, is_automatic, is_weak_object, object_with_cells, object_at, retargeted, size_of, with_target_cell}
use Rattle.mps_abstract.specs.Collecting.{Collecting}
use Rattle.mps_abstract.specs.Units.{Splats, splats_no_more, splats_cell}

-- ---- objects

-- all of an object but its cells
pub record Outline : Type 0 where
  pub pool : ℕ
  pub size : ℕ
  pub is_weak : Bool
  pub is_automatic : Bool

abbrev pub outline_of : Object → Outline
outline_of o = record { pool = o.pool; size = size_of o; is_weak = is_weak_object o; is_automatic = is_automatic o }

-- the reference in a cell is null
abbrev null_in : (cell : ℕ) → List Cell → List Cell
null_in cell cells = with_target_cell cells cell None

long_as_before : (cells : List Cell) (k : ℕ) → length (null_in k cells) ≡ length cells
long_as_before cells k = go (slice_get cells k)
  where
    go : (o : Option Cell) → length (option_map_or (λ c. slice_set cells k (retargeted c None)) o cells) ≡ length cells
    go None = refl
    go (Some c) = length-set cells k (retargeted c None)

outline_nulled : (o : Object) (cell : ℕ) → outline_of (object_with_cells o (null_in cell)) ≡ outline_of o
outline_nulled o cell = of_body o.pool o.body
  where
    of_body : (pool : ℕ) (b : Body)
        → outline_of (object_with_cells (record { pool = pool; body = b }) (null_in cell)) ≡ outline_of (record { pool = pool; body = b })
    of_body pool (Automatic head cells is_weak) =
        ap (λ (n : ℕ). let v : Outline = record {
          pool = pool;
          size = n;
          is_weak = is_weak;
          is_automatic = is_automatic
              (record { pool = pool; body = Automatic head cells is_weak });
        } in v) (long_as_before cells cell)
    of_body pool (Manual words) = refl

map_written : (os : List Object) (id : Id) (o new : Object) → slice_get os id ≡ Some o → outline_of new ≡ outline_of o
    → map outline_of (slice_set os id new) ≡ map outline_of os
map_written [] id o new there same = absurd (none-some o there)
map_written (p ∷ os) zero o new there same =
    ap (λ v. v ∷ map outline_of os) (same ∙ ap outline_of (sym (same_Some p o there)))
map_written (p ∷ os) (suc id) o new there same = ap (λ vs. outline_of p ∷ vs) (map_written os id o new there same)

nulled_outlines : (g : Graph) (id cell : ℕ) → map outline_of (graph_nulled g id cell).objects ≡ map outline_of g.objects
nulled_outlines g id cell = go (object_at g id) refl
  where
    go : (o : Option Object) → object_at g id ≡ o
        → map outline_of (option_map_or (λ (p : Object). slice_set g.objects id (object_with_cells p (null_in cell))) o g.objects)
        ≡ map outline_of g.objects
    go None e = refl
    go (Some o) e = map_written g.objects id o (object_with_cells o (null_in cell)) e (outline_nulled o cell)

splatted_outlines : (g : Graph) (holder cell : ℕ) → map outline_of (graph_splatted g holder cell).objects ≡ map outline_of g.objects
splatted_outlines g holder cell = go (dependent_in g.dependents holder)
  where
    go : (d : Option ℕ) → map outline_of (option_map_or (λ dependent. (graph_nulled (graph_nulled g holder cell) dependent cell).objects) d
        (graph_nulled g holder cell).objects)
        ≡ map outline_of g.objects
    go None = nulled_outlines g holder cell
    go (Some dependent) = nulled_outlines (graph_nulled g holder cell) dependent cell ∙ nulled_outlines g holder cell

-- ---- the collector

-- a collector is another one but for cells of objects and its phase
pub record IsButSplatted (x y : Collecting) : Type 0 where
  pub outlines : map outline_of y.world.graph.objects ≡ map outline_of x.world.graph.objects
  pub world : y.world ≡ record x.world {
    graph = record x.world.graph { objects = y.world.graph.objects };
    collection = y.world.collection;
  }
  pub running : y.running ≡ record x.running { phase = y.running.phase }
  pub colours : y.colours ≡ x.colours
  pub band : y.band ≡ x.band
  pub next : y.next ≡ x.next
  pub cursor : y.cursor ≡ x.cursor

pub splats_leave : {holder : Id} {x y : Collecting} {cells : List ℕ} → Splats holder x cells y → IsButSplatted x y
splats_leave (splats_no_more kept) = record {
  outlines = refl;
  world = refl;
  running = refl;
  colours = refl;
  band = refl;
  next = refl;
  cursor = refl;
}
splats_leave {holder} {x} {y} (splats_cell {cell = cell} refers white rest) =
    let later = splats_leave rest in
    record {
      outlines = later.outlines ∙ splatted_outlines x.world.graph holder cell;
      world = later.world;
      running = later.running;
      colours = later.colours;
      band = later.band;
      next = later.next;
      cursor = later.cursor;
    }

-- ---- one of the objects

-- an object has the outline of the one that stood there
pub record HasOutlineOf (os : List Object) (id : Id) (o : Object) : Type 0 where
  pub object : Object
  pub there : slice_get os id ≡ Some object
  pub same : outline_of object ≡ outline_of o

pub outlines_at : (os ps : List Object) (id : Id) → map outline_of ps ≡ map outline_of os
    → option_map outline_of (slice_get ps id) ≡ option_map outline_of (slice_get os id)
outlines_at os ps id same =
    sym (slice_get-map outline_of ps id) ∙ ap (λ vs. slice_get vs id) same ∙ slice_get-map outline_of os id

pub outlined : (os ps : List Object) (id : Id) (o : Object) → map outline_of ps ≡ map outline_of os → slice_get ps id ≡ Some o
    → HasOutlineOf os id o
outlined os ps id o same there =
    go (slice_get os id) refl (sym (ap (option_map outline_of) there) ∙ outlines_at os ps id same)
  where
    go : (p : Option Object) → slice_get os id ≡ p → Some (outline_of o) ≡ option_map outline_of p → HasOutlineOf os id o
    go None e never = absurd (none-some (outline_of o) (sym never))
    go (Some p) e is = record { object = p; there = e; same = sym (same_Some (outline_of o) (outline_of p) is) }
