-- A get: what the client reads after a read barrier. No move of a collection changes a table or a name.
use Rattle.std.proofs.Common.{◌≡◌, ◌∙◌, ℕ, Bool, true, false, refl, ap, List, [], ◌∷◌, map, Option, Some, None, subst}
use Rattle.std.specs.Prelude.{Ok, slice_get, if◌then◌else◌, option_and_then}
use Rattle.std.specs.Option.{option_map_or}
use Rattle.mps_base.specs.Address.{Id}
use Rattle.mps_base.specs.Segment.{Segment, words_of_segment}
use Rattle.mps_base.specs.declared.moves.Move.{Move}
use Rattle.mps_base.specs.declared.moves.Move.TheVariants as moves
use Rattle.mps_base.specs.declared.names.Slot.{Slot}
use Rattle.mps_base.specs.declared.refusal.Refusal.TheVariants as refusal
use Rattle.mps_model.specs.Graph.{Cell, HeadCell, NumberCell, ReferenceCell, Body, Automatic, Manual, Object, NamedThing, Slots, contains, entry_at, thing_in, object_at, targets, targets_of, targets_of_body, targets_of_cells, target_of_cell, is_automatic}
use Rattle.mps_model.specs.World.{World, is_copying_pool, with_tail, id_at, object_is, is_live}
use Rattle.mps_model.specs.Checked.{Checked, Found, Numbered, ◌>>=◌, required, slot_in, numbered, entry_in, as_table, object_in, cells_of_body, reference_at, reference_in}
use Rattle.mps_model.specs.Effect.{holding, segment_of_move, with_collection, reclaiming, segment_base_of, where_one, after_moved, after_splat, after_post, after_free, placing, world_after_move, world_after_moves, without_object}
use Rattle.mps_abstract.specs.Collecting.{Collecting, Running, is_white_in}
use Rattle.mps_abstract.proofs.Calls.ClientLists.{among_entries, map-slice_get}
use Rattle.mps_abstract.proofs.Calls.ClientBeside.{same_Ok, not_Ok, slot_found, slot_held}
use Rattle.mps_abstract.proofs.Calls.ClientRoots.{object_found}

-- ---- tables and names stay

pub record HasTables (w v : World) : Type 0 where
  pub tables : v.graph.tables ≡ w.graph.tables
  pub names : v.graph.names ≡ w.graph.names

same_tables : (w : World) → HasTables w w
same_tables w = record { tables = refl; names = refl }

tables_where : (w : World) (o : Option ℕ) (change : (id : Id) → World) → ((id : Id) → HasTables w (change id))
    → HasTables w (where_one w o change)
tables_where w None change each = same_tables w
tables_where w (Some id) change each = each id

tables_of_segment : (w : World) (s : Segment) (b : Bool)
    → HasTables w (if b then with_tail (holding w s) s.pool s.generation (words_of_segment s) else holding w s)
tables_of_segment w s true = record { tables = refl; names = refl }
tables_of_segment w s false = record { tables = refl; names = refl }

tables_of_free : (w : World) (id at : ℕ) (b : Bool)
    → HasTables w (if b then with_collection (without_object w id) (reclaiming (segment_base_of w at)) else without_object w id)
tables_of_free w id at true = record { tables = refl; names = refl }
tables_of_free w id at false = record { tables = refl; names = refl }

move_leaves : (w : World) (m : Move) → HasTables w (world_after_move w m)
move_leaves w (moves.Seg base grains pool generation) = tables_of_segment w (segment_of_move base.0 grains pool generation)
    (is_copying_pool w pool)
move_leaves w (moves.Unseg base) = record { tables = refl; names = refl }
move_leaves w (moves.Flip zones chain generation) = record { tables = refl; names = refl }
move_leaves w moves.End = record { tables = refl; names = refl }
move_leaves w (moves.Moved from to) =
    tables_where w (id_at w from.0) (λ id. after_moved w id to.0) (λ id. record { tables = refl; names = refl })
move_leaves w (moves.Stay at) = tables_where w (id_at w at.0) (λ id. with_collection w (placing id))
    (λ id. record { tables = refl; names = refl })
move_leaves w (moves.Splat holder cell) =
    tables_where w (id_at w holder.0) (λ id. after_splat w id cell) (λ id. record { tables = refl; names = refl })
move_leaves w (moves.Post at) = tables_where w (id_at w at.0) (after_post w) (λ id. record { tables = refl; names = refl })
move_leaves w (moves.Commit at words pool) = same_tables w
move_leaves w (moves.Alloc at words pool) = same_tables w
move_leaves w (moves.Free at) =
    tables_where w (id_at w at.0) (λ id. after_free w id at.0) (λ id. tables_of_free w id at.0 (object_is is_automatic w id))

pub moves_leave : (w : World) (ms : List Move) → HasTables w (world_after_moves w ms)
moves_leave w [] = same_tables w
moves_leave w (m ∷ ms) =
    let first = move_leaves w m in
    let rest = moves_leave (world_after_move w m) ms in
    record { tables = rest.tables ∙ first.tables; names = rest.names ∙ first.names }

-- a slot is found by names and tables alone
abbrev slot_of : List NamedThing → List (Option Slots) → Slot → Checked (Found (Option ℕ))
slot_of names tables slot =
    required (option_and_then as_table (thing_in names slot.name)) refusal.BadName >>= (λ number. numbered number (entry_at tables number)
    >>= (λ table. entry_in table slot.index))

pub slot_same : (w v : World) (slot : Slot) → HasTables w v → slot_in v slot ≡ slot_in w slot
slot_same w v slot same = ap (λ names. slot_of names v.graph.tables slot) same.names
    ∙ ap (λ tables. slot_of w.graph.names tables slot) same.tables

-- ---- a reference that is read

read_cell : (cells : List Cell) (k : ℕ) (reference : Option ℕ) (o : Option Cell) → slice_get cells k ≡ o
    → (required o refusal.BadIndex >>= reference_in) ≡ Ok reference → (id : Id) → reference ≡ Some id
    → contains (targets_of_cells cells) id ≡ true
read_cell cells k reference None e h id is = absurd (not_Ok refusal.BadIndex reference h)
read_cell cells k reference (Some HeadCell) e h id is = absurd (not_Ok refusal.NotARef reference h)
read_cell cells k reference (Some (NumberCell number)) e h id is = absurd (not_Ok refusal.NotARef reference h)
read_cell cells k reference (Some (ReferenceCell target tag)) e h id is =
    among_entries (map target_of_cell cells) k id
    (map-slice_get target_of_cell cells k (ReferenceCell target tag) e ∙ ap Some (same_Ok target reference h ∙ is))

read_body : (b : Body) (k : ℕ) (reference : Option ℕ) → reference_at (cells_of_body b) k ≡ Ok reference → (id : Id) → reference ≡ Some id
    → contains (targets_of_body b) id ≡ true
read_body (Automatic head cells is_weak) k reference h id is = read_cell cells k reference (slice_get cells k) refl h id is
read_body (Manual words) k reference h id is = absurd (not_Ok refusal.BadIndex reference h)

object_value : (w : World) (target : Option ℕ) (object : Numbered Object) → object_in w target ≡ Ok object
    → object_at w.graph object.number ≡ Some object.value
object_value w None object h = absurd (not_Ok refusal.NullRef object h)
object_value w (Some id) object h = of_object (object_at w.graph id) refl h
  where
    of_object : (o : Option Object) → object_at w.graph id ≡ o
        → (required o refusal.NullRef >>= (λ object. Ok (record { number = id; value = object }))) ≡ Ok object
        → object_at w.graph object.number ≡ Some object.value
    of_object None e g = absurd (not_Ok refusal.NullRef object g)
    of_object (Some o) e g =
        subst (λ (p : Numbered Object). object_at w.graph p.number ≡ Some p.value) (same_Ok (record { number = id; value = o }) object g) e

-- ---- get

module _ (x : Collecting) (run : Running x) (judged : World) (tables : HasTables judged x.world) (target source : Slot) (k : ℕ)
    (read_kept : (from : Found (Option ℕ)) (id read : Id) → slot_in x.world source ≡ Ok from → from.value ≡ Some id
    → contains (targets x.world.graph id) read ≡ true → is_white_in x read ≡ false) where
  pub read_right : (from : Found (Option ℕ)) (now : Numbered Object) (reference : Option ℕ) → slot_in x.world source ≡ Ok from
      → object_in x.world from.value ≡ Ok now → reference_at (cells_of_body now.value.body) k ≡ Ok reference → (id : Id)
      → reference ≡ Some id
      → (is_live x.world id ≡ true) × (is_white_in x id ≡ false)
  read_right from now reference e f g id is =
      let it = object_found x.world from.value now f in
      let refers = ap (λ o. contains (option_map_or targets_of o []) id) (object_value x.world from.value now f)
      ∙ read_body now.value.body k reference g id is in
      let held = slot_held x.world.graph from now.number (slot_found x.world source from e) it in (
        run.coloured.referred_live now.number id (run.coloured.held_live now.number held) (run.coloured.held now.number held) refers,
        read_kept from now.number id e it refers,
      )
