-- Cells of many objects change at once in an arena at rest, where no reservation is live: the memory represents the objects as they are
-- then, if each of their words is that of its cell.
use Rattle.std.proofs.Common.{◌≡◌, ◌∙◌, ℕ, ◌<◌, sym, ap, subst, List, ◌++◌, length, Option, Some, None}
use Rattle.std.proofs.lemmas.Option.{none-some}
use Rattle.std.specs.Prelude.{slice_get, slice_index}
use Rattle.mps_base.specs.Address.{Address, Id, Word}
use Rattle.mps_base.specs.Run.{in_order}
use Rattle.mps_abstract.specs.Colours.{Colours}
use Rattle.mps_model.specs.Checked.{head_of_body}
use Rattle.mps_model.specs.Graph.{Cell, Object, Reservation, entry_at, size_of}
use Rattle.mps_model.specs.World.{extents_of, reserved_extents}
use Rattle.mps_trace_laws.proofs.Image.Written.{holds_still}
use Rattle.mps_trace_laws.specs.Image.Changes.{setting_with_objects}
use Rattle.mps_trace_laws.specs.Image.Image.{CellSet, FixedCellsStand, ImageStands, IsFixedWord, LieApart, WordsStand}
use Rattle.mps_trace_laws.specs.Image.Memory.{Lies, LiesReserved, Memory, Setting, all_cells}

-- what an object was: of this pool and size
pub record WasOfSize (objects : List Object) (id : Id) (p : Object) : Type 0 where
  pub object : Object
  pub there : slice_get objects id ≡ Some object
  pub pool : object.pool ≡ p.pool
  pub size : size_of object ≡ size_of p

-- objects keep their pools and sizes, and each word is that of its cell
pub record AreRewritten (s : Setting) (m : Memory) (addresses : List (Option Address)) (k : Colours) (objects : List Object)
    (words : List ℕ) : Type 0 where
  pub was : (id : Id) (p : Object) → slice_get objects id ≡ Some p → WasOfSize s.objects id p
  pub still : (id : Id) (o : Object) → slice_get s.objects id ≡ Some o → (p : Object) × (slice_get objects id ≡ Some p)
  pub extents : extents_of objects addresses ≡ extents_of s.objects addresses
  pub long : length words ≡ length m.words
  pub none_at_flip : (id : Id) → entry_at s.at_flip id ≡ None
  pub unreserved : (point i : ℕ) (r : Reservation) (n : Word) → LiesReserved s.points s.point_memories point i r n → ⊥
  pub cells : (id i : ℕ) (p : Object) (n : Word) (c : Cell) → Lies objects addresses id i p n → slice_get (all_cells p.body) i ≡ Some c
      → IsFixedWord s.condemned addresses k (head_of_body p.body) c (slice_index words n)

module _ (s : Setting) (m : Memory) (addresses : List (Option Address)) (k : Colours) (done : CellSet) (objects : List Object)
    (words : List ℕ) (st : ImageStands s m addresses k done) (are : AreRewritten s m addresses k objects words) where
  lay : (id j : ℕ) (p : Object) (l : Word) (there : Lies objects addresses id j p l)
      → Lies s.objects addresses id j (are.was id p there.object).object l
  lay id j p l there =
      let w = are.was id p there.object in
      record {
        at = there.at;
        address = there.address;
        object = w.there;
        within = subst (λ x. j < x) (sym w.size) there.within;
        is = there.is;
      }

  placed_rewritten : LieApart (setting_with_objects s objects) addresses
  placed_rewritten = record {
    exists = λ id at e. let q = st.placed.exists id at e in are.still id q.0 q.1;
    positive = λ id at p e x. let w = are.was id p x in subst (λ y. 0 < y) w.size (st.placed.positive id at w.object e w.there);
    address = st.placed.address;
    address_at_flip = st.placed.address_at_flip;
    within = λ id j p l there. st.placed.within id j (are.was id p there.object).object l (lay id j p l there);
    apart = λ a b j l p q x there there'.
        st.placed.apart a b j l (are.was a p there.object).object (are.was b q there'.object).object x (lay a j p x there)
        (lay b l q x there');
    home = λ id j p l there.
        st.placed.home id j (are.was id p there.object).object l (lay id j p l there) ∙ ap Some (are.was id p there.object).pool;
    whole = λ id j p l at there e. st.placed.whole id j (are.was id p there.object).object l at (lay id j p l there) e;
    reserved_positive = st.placed.reserved_positive;
    reserved_within = st.placed.reserved_within;
    reserved_alone = st.placed.reserved_alone;
    reserved_apart = λ id point j l p r x there.
        st.placed.reserved_apart id point j l (are.was id p there.object).object r x (lay id j p x there);
  }

  words_rewritten : WordsStand (setting_with_objects s objects) words addresses
  words_rewritten = record {
    long = are.long ∙ st.words.long;
    cells = λ id j p l c read there cell.
        holds_still addresses s.at_flip (head_of_body p.body) c (slice_index words l) (are.cells id j p l c there cell).holds;
    forwarded = λ id from to p was. absurd (none-some from (sym (are.none_at_flip id) ∙ was));
  }

  fixed_rewritten : FixedCellsStand (setting_with_objects s objects) words addresses k done
  fixed_rewritten = record {
    cells = λ id j p l c d there cell. are.cells id j p l c there cell;
    reserved = λ point j r l c there cell. absurd (are.unreserved point j r l there);
  }

  pub image_rewritten : ImageStands (setting_with_objects s objects) (record m { words = words }) addresses k done
  image_rewritten = record {
    placed = placed_rewritten;
    words = words_rewritten;
    fixed = fixed_rewritten;
    marks = record {
      white_there = st.marks.white_there;
      grey_there = st.marks.grey_there;
      marked = st.marks.marked;
      unmoved = st.marks.unmoved;
    };
    runs = record {
      blocks = st.runs.blocks ∙ sym (ap in_order are.extents);
      reservations = st.runs.reservations;
      covered = st.runs.covered ∙ sym (ap (λ rs. in_order (rs ++ reserved_extents s.points s.point_memories)) are.extents);
    };
  }
