-- A cell of an object whose words nothing reads is cleared: the memory represents the objects as it did. So it is with an object that lies
-- nowhere any more, and once segments are reclaimed with one that isn't kept.
use Rattle.std.proofs.Common.{◌≡◌, ◌≢◌, ◌∙◌, ◌⊎◌, ℕ, ◌+◌, ◌<◌, ◌++◌, Option, Some, None, List, refl, sym, ap, subst, inl, inr}
use Rattle.std.specs.Prelude.{IsTrue, drop, slice_get, slice_index, slice_set}
use Rattle.std.specs.Option.{option_map_or}
use Rattle.mps_base.specs.Address.{Address, Id, Word, word_of}
use Rattle.mps_base.specs.Run.{in_order}
use Rattle.mps_abstract.specs.Colours.{Colours, is_black}
use Rattle.mps_changes.proofs.Lookups.{slice_set-same}
use Rattle.mps_format.specs.Blocks.{BeginsForwarded}
use Rattle.mps_format.specs.Layout.{Layout}
use Rattle.mps_model.specs.Checked.{with_graph}
use Rattle.mps_model.specs.Effect.{graph_nulled}
use Rattle.mps_model.specs.Graph.{Automatic, Body, Cell, Graph, Manual, Object, body_with_cells, entry_at, object_at, object_with_cells, retargeted, size_of, with_target_cell}
use Rattle.mps_model.specs.World.{World, reserved_extents}
use Rattle.mps_trace_laws.proofs.Image.CellChanged.{graph_cell_changed}
use Rattle.mps_trace_laws.specs.Image.Changes.{IsCellChanged, setting_with_objects}
use Rattle.mps_trace_laws.specs.Image.Image.{FixedCellsStand, IsCellWord, IsFixedWord, IsForwardedObject, LieApart, Stands, WordsStand, black_cells}
use Rattle.mps_trace_laws.specs.Image.Memory.{Lies, Memory, Setting, memory_in}
use Rattle.mps_heap_spec.specs.State.{HeapState}
use Rattle.mps_refinement.specs.StandsFor.{AreParts, Past, setting_at}
use Rattle.mps_refinement.proofs.Parts.PartsWritten.{words_written}

-- ---- the image

-- where an object lies, nothing reads its words, and it isn't black
abbrev pub IsUnread : Setting → List (Option Address) → Colours → Id → Type 0
IsUnread s addresses k id =
    (at : Address) → entry_at addresses id ≡ Some at → (IsTrue (s.is_read id) → ⊥) × (IsTrue (is_black s.condemned k id) → ⊥)

module _ (s : Setting) (objects' : List Object) (m : Memory) (addresses : List (Option Address)) (k : Colours) (holder i : ℕ) (new : Cell)
    (changed : IsCellChanged s.objects objects' holder i new) (st : Stands s m addresses k) (unread : IsUnread s addresses k holder) where
  lay : (id j : ℕ) (p : Object) (l : Word) (there : Lies objects' addresses id j p l)
      → Lies s.objects addresses id j (changed.was id p there.object).object l
  lay id j p l there =
      let w = changed.was id p there.object in
      record {
        at = there.at;
        address = there.address;
        object = w.there;
        within = subst (λ x. j < x) (sym w.size) there.within;
        is = there.is;
      }

  placed_still : LieApart (setting_with_objects s objects') addresses
  placed_still = record {
    exists = λ id at e. let q = st.placed.exists id at e in changed.still id q.0 q.1;
    positive = λ id at p e x. let w = changed.was id p x in subst (λ y. 0 < y) w.size (st.placed.positive id at w.object e w.there);
    address = st.placed.address;
    address_at_flip = st.placed.address_at_flip;
    within = λ id j p l there. st.placed.within id j (changed.was id p there.object).object l (lay id j p l there);
    apart = λ a b j l p q x there there'.
        st.placed.apart a b j l (changed.was a p there.object).object (changed.was b q there'.object).object x (lay a j p x there)
        (lay b l q x there');
    home = λ id j p l there.
        st.placed.home id j (changed.was id p there.object).object l (lay id j p l there)
        ∙ ap Some (changed.was id p there.object).pool;
    whole = λ id j p l at there e. st.placed.whole id j (changed.was id p there.object).object l at (lay id j p l there) e;
    reserved_positive = st.placed.reserved_positive;
    reserved_within = st.placed.reserved_within;
    reserved_alone = st.placed.reserved_alone;
    reserved_apart = λ id point j l p r x there.
        st.placed.reserved_apart id point j l (changed.was id p there.object).object r x (lay id j p x there);
  }

  forwarded_still : (id from to : ℕ) (p : Object) → entry_at s.at_flip id ≡ Some from → entry_at addresses id ≡ Some to → from ≢ to
      → slice_get objects' id ≡ Some p → IsForwardedObject (setting_with_objects s objects') m.words addresses p from to
  forwarded_still id from to p was now x object =
      let w = changed.was id p object in
      let g = st.words.forwarded id from to w.object was now x w.there in
      let lower : (q : ℕ) → q < size_of p → q < size_of w.object = λ q lt. subst (λ y. q < y) (sym w.size) lt in
      record {
        begins =
            subst (λ y. BeginsForwarded (s.layout y) (drop (word_of from) m.words) (size_of p)) w.pool
            (subst (λ y. BeginsForwarded (s.layout w.object.pool) (drop (word_of from) m.words) y) w.size g.begins);
        leads = g.leads;
        condemned = λ q lt. g.condemned q (lower q lt);
        home = λ q lt. g.home q (lower q lt) ∙ ap Some w.pool;
        free = λ q j l r lt there. g.free q j l (changed.was j r there.object).object (lower q lt) (lay j l r (word_of from + q) there);
        unreserved = λ q point l r lt there. g.unreserved q point l r (lower q lt) there;
      }

  unread_at : (id j : ℕ) (p : Object) (l : Word) → Lies objects' addresses id j p l → id ≡ holder
      → (IsTrue (s.is_read id) → ⊥) × (IsTrue (is_black s.condemned k id) → ⊥)
  unread_at id j p l there same =
      let none = unread there.at (ap (entry_at addresses) (sym same) ∙ there.address) in (
        λ read. none.0 (subst (λ y. IsTrue (s.is_read y)) same read),
        λ black. none.1 (subst (λ y. IsTrue (is_black s.condemned k y)) same black),
      )

  words_still : WordsStand (setting_with_objects s objects') m.words addresses
  words_still = record {
    long = st.words.long;
    cells = λ id j p l c read there cell.
        let w = changed.was id p there.object in
        elim (w.cells j c cell) [
          | inl x ↦
              subst (λ y. IsCellWord addresses s.at_flip y c (slice_index m.words l)) w.head
              (st.words.cells id j w.object l c read (lay id j p l there) x.1)
          | inr x ↦ absurd ((unread_at id j p l there x.0).0 read)
        ];
    forwarded = forwarded_still;
  }

  fixed_still : FixedCellsStand (setting_with_objects s objects') m.words addresses k (black_cells s.condemned k)
  fixed_still = record {
    cells = λ id j p l c black there cell.
        let w = changed.was id p there.object in
        elim (w.cells j c cell) [
          | inl x ↦
              subst (λ z. IsFixedWord s.condemned addresses k z c (slice_index m.words l)) w.head
              (st.fixed.cells id j w.object l c black (lay id j p l there) x.1)
          | inr x ↦ absurd ((unread_at id j p l there x.0).1 black)
        ];
    reserved = st.fixed.reserved;
  }

  pub unread_stands : Stands (setting_with_objects s objects') m addresses k
  unread_stands = record {
    placed = placed_still;
    words = words_still;
    fixed = fixed_still;
    marks = record {
      white_there = st.marks.white_there;
      grey_there = st.marks.grey_there;
      marked = st.marks.marked;
      unmoved = st.marks.unmoved;
    };
    runs = record {
      blocks = st.runs.blocks ∙ sym (ap in_order (changed.extents addresses));
      reservations = st.runs.reservations;
      covered = st.runs.covered ∙ sym (ap (λ rs. in_order (rs ++ reserved_extents s.points s.point_memories)) (changed.extents addresses));
    };
  }

-- ---- a cell is cleared, where it is a reference

abbrev pub null_in : (cell : ℕ) → List Cell → List Cell
null_in cell cells = with_target_cell cells cell None

pub nulled_cases : (g : Graph) (id cell : ℕ)
    → (graph_nulled g id cell ≡ g) ⊎ ((new : Cell) × IsCellChanged g.objects (graph_nulled g id cell).objects id cell new)
nulled_cases g id cell = of_object (object_at g id) refl
  where
    of_object : (x : Option Object) → object_at g id ≡ x
        → (graph_nulled g id cell ≡ g) ⊎ ((new : Cell) × IsCellChanged g.objects (graph_nulled g id cell).objects id cell new)
    of_object None e =
        inl (ap (λ x. record g {
          objects = option_map_or (λ o. slice_set g.objects id (object_with_cells o (null_in cell))) x g.objects;
        }) e)
    of_object (Some o) e = of_body o.body refl
      where
        stays : body_with_cells o.body (null_in cell) ≡ o.body → graph_nulled g id cell ≡ g
        stays same =
            ap (λ os. record g { objects = os })
            (ap (λ x. option_map_or (λ (p : Object). slice_set g.objects id (object_with_cells p (null_in cell))) x g.objects) e
            ∙ ap (λ b. slice_set g.objects id (record o { body = b })) same
            ∙ slice_set-same g.objects id o e)

        of_body : (b : Body) → o.body ≡ b
            → (graph_nulled g id cell ≡ g) ⊎ ((new : Cell) × IsCellChanged g.objects (graph_nulled g id cell).objects id cell new)
        of_body (Manual words) f = inl (stays (ap (λ b. body_with_cells b (null_in cell)) f ∙ sym f))
        of_body (Automatic head cells is_weak) f = of_cell (slice_get cells cell) refl
          where
            of_cell : (x : Option Cell) → slice_get cells cell ≡ x
                → (graph_nulled g id cell ≡ g) ⊎ ((new : Cell) × IsCellChanged g.objects (graph_nulled g id cell).objects id cell new)
            of_cell None h =
                inl (stays (ap (λ b. body_with_cells b (null_in cell)) f
                ∙ ap (λ x. Automatic head (option_map_or (λ c. slice_set cells cell (retargeted c None)) x cells) is_weak) h ∙ sym f))
            of_cell (Some c) h =
                inr (
                  retargeted c None,
                  graph_cell_changed g id o head cells is_weak cell (retargeted c None) (null_in cell) e f
                      (ap (λ x. option_map_or (λ c. slice_set cells cell (retargeted c None)) x cells) h),
                )

module _ {F : Type 0} (layout : F → Layout) (past : Past) (h : HeapState F) (w : World) (parts : AreParts layout past h w) (id cell : ℕ)
    (unread : IsUnread (setting_at past.time h.segs w) w.addresses past.time.colours id) where
  abbrev IsClearedIn : Graph → Type 0
  IsClearedIn g = AreParts layout past h (with_graph w g)

  -- so a heap represents the world in which it is cleared
  pub unread_cleared : AreParts layout past h (with_graph w (graph_nulled w.graph id cell))
  unread_cleared = of_cases (nulled_cases w.graph id cell)
    where
      of_cases : (graph_nulled w.graph id cell ≡ w.graph)
          ⊎ ((new : Cell) × IsCellChanged w.graph.objects (graph_nulled w.graph id cell).objects id cell new)
          → IsClearedIn (graph_nulled w.graph id cell)
      of_cases (inl same) = subst IsClearedIn (sym same) parts
      of_cases (inr change) =
          words_written layout past h w parts h.segs.words h.segs.summaries (graph_nulled w.graph id cell).objects
          (unread_stands (setting_at past.time h.segs w) (graph_nulled w.graph id cell).objects (memory_in h.segs) w.addresses
          past.time.colours id cell change.0 change.1 parts.image unread) parts.summed
