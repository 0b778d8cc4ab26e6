-- A new arena, segments that are taken and given back, points that are made and dropped.
use Rattle.std.proofs.Common.{◌≡◌, ◌∙◌, ℕ, ◌+◌, ◌*◌, Bool, false, refl, sym, ap, ◌++◌, replicate, Some, inl, inr, arith}
use Rattle.std.proofs.lemmas.Bool.{false≢true, cases_lt}
use Rattle.std.proofs.lemmas.Option.{none-some}
use Rattle.std.proofs.lemmas.List.{length-replicate, get_or-replicate, get_or_past}
use Rattle.std.specs.Prelude.{not, ◌&&◌, ◌||◌, IsTrue, Option, List, slice_get, []}
use Rattle.mps_base.specs.Address.{Address, Id, Word, word_of, words_of_grain}
use Rattle.mps_base.specs.Run.{in_order}
use Rattle.mps_extents.specs.Table.{bit}
use Rattle.mps_model.specs.Graph.{Reservation, entry_at, Point}
use Rattle.mps_model.specs.World.{extents_of, PointMemory, reserved_extents}
use Rattle.mps_seg.specs.Segs.{new_segments}
use Rattle.mps_trace_laws.specs.Image.Memory.{LiesReserved, memory_in, words_of_arena, Setting, Memory, live_reservation, setting_at_rest}
use Rattle.mps_trace_laws.specs.Image.ArenaLaws.{AreSegmentsKept, setting_with_segments}
use Rattle.mps_trace_laws.proofs.Image.Marked.{begins_there}
use Rattle.mps_trace_laws.proofs.Image.Reservations.{apart_still, reserved_unforwarded}
use Rattle.mps_trace_laws.proofs.Image.Reserved.{image_reserved}
use Rattle.mps_abstract.specs.Colours.{Colours}
use Rattle.mps_trace_laws.specs.Image.Image.{CellSet, ImageStands, Stands, no_colours}
use Rattle.mps_trace_laws.specs.Image.Changes.{setting_with_points}
use Rattle.mps_format.specs.Layout.{Layout}

-- ---- a new arena

-- no bit of a row of clear ones is set
pub clear_bit : (count n : ℕ) → bit (replicate count false) n ≡ false
unfolding bit
clear_bit count n =
    elim (cases_lt n count) [
      | inl within ↦ get_or-replicate count n false false within
      | inr past ↦ get_or_past (replicate count false) n false (omega (arith, past, length-replicate {A = Bool} count false))
    ]

-- a new arena stands for no object
pub new_arena_stands : (grains limit : ℕ) (layout : ℕ → Layout)
    → Stands (setting_at_rest (new_segments grains limit) [] [] [] layout) (memory_in (new_segments grains limit)) [] no_colours
new_arena_stands grains limit layout = record {
  placed = record {
    exists = λ id at e. absurd (none-some at e);
    positive = λ id at o e x. absurd (none-some at e);
    address = λ id at e. absurd (none-some at e);
    address_at_flip = λ id at e. absurd (none-some at e);
    within = λ id k o n l. absurd (none-some l.at l.address);
    apart = λ i j k l o p n a b. absurd (none-some a.at a.address);
    home = λ id k o n l. absurd (none-some l.at l.address);
    whole = λ id k o n at l e. absurd (none-some at e);
    reserved_positive = λ point r e. absurd (none-some r e);
    reserved_within = λ point k r n l. absurd (none-some r l.reserved);
    reserved_alone = λ i j k l r q n a b. absurd (none-some r a.reserved);
    reserved_apart = λ id point k l o r n a b. none-some r b.reserved;
  };
  words = record {
    long = length-replicate {A = ℕ} (words_of_arena grains) 0;
    cells = λ id i o n c read l cell. absurd (none-some l.at l.address);
    forwarded = λ id from to o was now x object. absurd (none-some from was);
  };
  fixed = record {
    cells = λ id i o n c d l cell. absurd (none-some l.at l.address);
    reserved = λ point i r n c l cell. absurd (none-some r l.reserved);
  };
  marks = record {
    white_there = λ id at e. absurd (none-some at e);
    grey_there = λ id at e. absurd (none-some at e);
    marked = λ n is. absurd (none_marked n is);
    unmoved = λ id at e read white. absurd (none-some at e);
  };
  runs = record { blocks = refl; reservations = refl; covered = refl };
}
  where
    none_marked : (n : Word) → IsTrue ((memory_in (new_segments grains limit)).kept n || (memory_in (new_segments grains limit)).grey n) → ⊥
    none_marked n is =
        let off = clear_bit (words_of_grain * (grains + 1)) n in
        false≢true (sym (ap (λ b. b || (b || b)) off) ∙ is)

-- ---- segments

-- segments are taken, or given back where nothing lies
pub segments_change : (s : Setting) (m : Memory) (addresses : List (Option Address)) (k : Colours) (done : CellSet) (pools : Word
    → Option ℕ)
    (condemned : Word → Bool) → ImageStands s m addresses k done → AreSegmentsKept s addresses pools condemned
    → ImageStands (setting_with_segments s pools condemned) m addresses k done
segments_change s m addresses k done pools condemned st kept = record {
  placed = record {
    exists = st.placed.exists;
    positive = st.placed.positive;
    address = st.placed.address;
    address_at_flip = st.placed.address_at_flip;
    within = st.placed.within;
    apart = st.placed.apart;
    home = λ id i o n l. kept.pool id i o n l ∙ st.placed.home id i o n l;
    whole = λ id i o n at l e. kept.is_condemned id i o n l ∙ st.placed.whole id i o n at l e ∙ sym (first id at e);
    reserved_positive = st.placed.reserved_positive;
    reserved_within = st.placed.reserved_within;
    reserved_alone = st.placed.reserved_alone;
    reserved_apart = st.placed.reserved_apart;
  };
  words = record {
    long = st.words.long;
    cells = st.words.cells;
    forwarded = λ id from to o was now x object.
        let f = st.words.forwarded id from to o was now x object in
        record {
          begins = f.begins;
          leads = f.leads;
          condemned = λ q lt. kept.was_condemned id from to o q was now x object lt ∙ f.condemned q lt;
          home = λ q lt. kept.old_pool id from to o q was now x object lt ∙ f.home q lt;
          free = f.free;
          unreserved = f.unreserved;
        };
  };
  fixed = record { cells = st.fixed.cells; reserved = st.fixed.reserved };
  marks = record {
    white_there = λ id at e. st.marks.white_there id at e ∙ ap (λ b. b && not (m.kept (word_of at))) (sym (first id at e));
    grey_there = st.marks.grey_there;
    marked = st.marks.marked;
    unmoved = st.marks.unmoved;
  };
  runs = record { blocks = st.runs.blocks; reservations = st.runs.reservations; covered = st.runs.covered };
}
  where
    first : (id : Id) (at : Address) → entry_at addresses id ≡ Some at → condemned (word_of at) ≡ s.is_condemned_over (word_of at)
    first id at e =
        let o = st.placed.exists id at e in
        kept.is_condemned id 0 o.0 (word_of at) (begins_there s addresses st.placed id at o.0 e o.1)

-- ---- points

-- points are made and dropped that have no live reservation: all live reservations were there
pub points_change : (s : Setting) (m : Memory) (addresses : List (Option Address)) (k : Colours) (done : CellSet) (points : List
    (Option Point))
    (memories : List PointMemory) → ImageStands s m addresses k done
    → ((i : ℕ) (r : Reservation) (memory : PointMemory) → live_reservation (entry_at points i) ≡ Some r
    → slice_get memories i ≡ Some memory
    → (live_reservation (entry_at s.points i) ≡ Some r) × (slice_get s.point_memories i ≡ Some memory))
    → ((i : ℕ) (r : Reservation) → live_reservation (entry_at points i) ≡ Some r → live_reservation (entry_at s.points i) ≡ Some r)
    → reserved_extents points memories ≡ reserved_extents s.points s.point_memories
    → ImageStands (setting_with_points s points memories) m addresses k done
points_change s m addresses k done points memories st back live same =
    image_reserved s m m addresses k done points memories st (record {
      placed =
          apart_still s addresses points memories st.placed (λ i r e. st.placed.reserved_positive i r (live i r e))
          (λ i l r n x. (r, there i l r n x));
      runs = record {
        blocks = st.runs.blocks;
        reservations = st.runs.reservations ∙ ap in_order (sym same);
        covered = st.runs.covered ∙ ap (λ rs. in_order (extents_of s.objects addresses ++ rs)) (sym same);
      };
      kept_same = λ n. refl;
      grey_same = λ n. refl;
      long = refl;
      cells = λ i l r n c x cell. inl (r, there i l r n x, cell, refl, refl);
      written = λ n. inl refl;
      clear = λ i l r n x. reserved_unforwarded s m addresses k done st i l r n (there i l r n x);
    })
  where
    there : (i l : ℕ) (r : Reservation) (n : Word) → LiesReserved points memories i l r n
        → LiesReserved s.points s.point_memories i l r n
    there i l r n x =
        let y = back i r x.memory x.reserved x.has in
        record { memory = x.memory; reserved = y.0; has = y.1; within = x.within; is = x.is }
