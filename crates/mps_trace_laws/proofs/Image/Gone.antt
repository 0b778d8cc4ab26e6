-- A block goes to which nothing refers that is read: a client frees a manual one, or a collection a white one.
use Rattle.std.proofs.Common.{◌≡◌, ◌∙◌, ℕ, ◌+◌, Bool, true, false, refl, sym, ap, List, ◌∷◌, ◌++◌, Option, Some, None, inl, inr}
use Rattle.std.proofs.lemmas.Bool.{false≢true, and_from, cases_eq, or_cases, or_left, or_right}
use Rattle.std.proofs.lemmas.Option.{none-some, same_Some}
use Rattle.std.proofs.lemmas.List.{append_assoc}
use Rattle.std.specs.Prelude.{slice_get, slice_set, not, ◌&&◌, ◌||◌, ◌≢◌, IsTrue}
use Rattle.mps_base.specs.Address.{Address, Id, Word, word_of}
use Rattle.mps_base.specs.Run.{Run, in_order, without_run}
use Rattle.mps_model.specs.Graph.{Cell, HeadCell, NumberCell, ReferenceCell, Object, Reservation, entry_at, size_of, is_automatic, target_of_cell}
use Rattle.mps_model.specs.World.{extent, extents_of, reserved_extents}
use Rattle.mps_abstract.specs.Colours.{Colours, is_white, is_grey, is_black}
use Rattle.mps_trace_laws.specs.Image.Memory.{Setting, Memory, Lies, BlockBegins, all_cells, live_reservation}
use Rattle.mps_trace_laws.specs.Image.Image.{LieApart, CellSet, MarksStand, RunsStand, ImageStands, black_cells, Stands}
use Rattle.mps_trace_laws.specs.Image.Fixing.{IsMarkCleared}
use Rattle.mps_trace_laws.specs.Image.Changes.{memory_without_block, MayGo}
use Rattle.mps_trace_laws.proofs.Image.Entries.{entry_left, entry_at-set_other}
use Rattle.mps_trace_laws.proofs.Image.InOrder.{in_order-without}
use Rattle.mps_laws.proofs.InOrder.{all_append}
use Rattle.mps_trace_laws.proofs.Image.Extents.{parted}
use Rattle.mps_trace_laws.proofs.Image.Marked.{begins_there, begins_apart}
use Rattle.mps_trace_laws.proofs.Image.Runs.{reserved_elsewhere}
use Rattle.mps_trace_laws.proofs.Image.Changing.{Change, CallChanges, words_changed, fixed_changed}

module _ (s : Setting) (m : Memory) (addresses : List (Option Address)) (k : Colours) (done : CellSet) (t : Id) (from : Address)
    (o : Object)
    (kept' grey' : Word → Bool) (st : ImageStands s m addresses k done) (v : MayGo s m addresses done t from o kept' grey') where
  abbrev left : List (Option Address)
  left = slice_set addresses t None

  abbrev change : Change
  change = record {
    before = s;
    objects = s.objects;
    points = s.points;
    memories = s.point_memories;
    words = m.words;
    words_after = m.words;
    addresses = addresses;
    addresses_after = left;
  }

  was_left : (id : Id) (a : Address) → entry_at left id ≡ Some a → (id ≢ t) × (entry_at addresses id ≡ Some a)
  was_left id a e = entry_left addresses t from v.there id a e

  lay : (id i : ℕ) (p : Object) (n : Word) → Lies s.objects left id i p n → (id ≢ t) × Lies s.objects addresses id i p n
  lay id i p n l =
      let e = was_left id l.at l.address in
      (e.0, record { at = l.at; address = e.1; object = l.object; within = l.within; is = l.is })

  still : (id : Id) → id ≢ t → (a : Address) → entry_at addresses id ≡ Some a → entry_at left id ≡ Some a
  still id other a e = entry_at-set_other addresses t id None other ∙ e

  placed_left : LieApart s left
  placed_left = record {
    exists = λ id a e. st.placed.exists id a (was_left id a e).1;
    positive = λ id a p e x. st.placed.positive id a p (was_left id a e).1 x;
    address = λ id a e. st.placed.address id a (was_left id a e).1;
    address_at_flip = st.placed.address_at_flip;
    within = λ id i p n l. st.placed.within id i p n (lay id i p n l).1;
    apart = λ a b i j p q n l r. st.placed.apart a b i j p q n (lay a i p n l).1 (lay b j q n r).1;
    home = λ id i p n l. st.placed.home id i p n (lay id i p n l).1;
    whole = λ id i p n a l e. st.placed.whole id i p n a (lay id i p n l).1 (was_left id a e).1;
    reserved_positive = st.placed.reserved_positive;
    reserved_within = st.placed.reserved_within;
    reserved_alone = st.placed.reserved_alone;
    reserved_apart = λ id point i j p r n l there. st.placed.reserved_apart id point i j p r n (lay id i p n l).1 there;
  }

  changes : CallChanges change k done
  changes = record {
    long = refl;
    cells = λ id i p n c there cell.
        let l = lay id i p n there in
        inl (record {
          was = p;
          lies = l.1;
          cell = cell;
          head = refl;
          word = refl;
          target = λ u e any. still u (λ same. v.unreferred id i p n c any l.0 l.1 cell (e ∙ ap Some same));
        });
    reserved = λ point i r n c there cell. inl (record {
      point = point;
      i = i;
      was = r;
      lies = there;
      cell = cell;
      head = refl;
      word = refl;
      target = λ u e. still u (λ same. v.unreserved point i r n c there cell (e ∙ ap Some same));
    });
    forwarded = λ id from' to p was now apart object.
        let e = was_left id to now in
        let f = st.words.forwarded id from' to p was e.1 apart object in
        record {
          was = p;
          there = e.1;
          object = object;
          pool = refl;
          size = refl;
          words = λ q lt. refl;
          free = λ q j l p' lt there. f.free q j l p' lt (lay j l p' (word_of from' + q) there).1;
          unreserved = f.unreserved;
        };
  }

  apart : (id : Id) (a : Address) → entry_at addresses id ≡ Some a → id ≢ t → word_of a ≢ word_of from
  apart id a e other = begins_apart s addresses st.placed id t a from e v.there other

  still_begins : (n : Word) → n ≢ word_of from → BlockBegins addresses n → BlockBegins left n
  still_begins n other x =
      let not_it : x.id ≢ t = λ same.
      other (x.is ∙ ap (λ y. word_of y) (same_Some x.at from (sym x.address ∙ ap (entry_at addresses) same ∙ v.there)))
      in
      record { id = x.id; at = x.at; address = still x.id not_it x.at x.address; is = x.is }

  marked_word : (n : Word) → IsTrue (kept' n || grey' n) → BlockBegins left n
  marked_word n is =
      elim (cases_eq n (word_of from)) [
        | inl same ↦
            absurd (elim (or_cases (kept' n) (grey' n) is) [
              | inl e ↦ false≢true (sym v.kept_cleared.clear ∙ ap kept' (sym same) ∙ e)
              | inr e ↦ false≢true (sym v.grey_cleared.clear ∙ ap grey' (sym same) ∙ e)
            ])
        | inr other ↦
            still_begins n other (st.marks.marked n (elim (or_cases (kept' n) (grey' n) is) [
              | inl e ↦ or_left (m.kept n) (m.grey n) (sym (v.kept_cleared.others n other) ∙ e)
              | inr e ↦ or_right (m.kept n) (m.grey n) (sym (v.grey_cleared.others n other) ∙ e)
            ]))
      ]

  marks_left : MarksStand s kept' grey' left k
  marks_left = record {
    white_there = λ id a e.
        let x = was_left id a e in
        st.marks.white_there id a x.1
        ∙ ap (λ b. s.is_condemned_over (word_of a) && not b) (sym (v.kept_cleared.others (word_of a) (apart id a x.1 x.0)));
    grey_there = λ id a e.
        let x = was_left id a e in st.marks.grey_there id a x.1 ∙ sym (v.grey_cleared.others (word_of a) (apart id a x.1 x.0));
    marked = marked_word;
    unmoved = λ id a e read white. st.marks.unmoved id a (was_left id a e).1 read white;
  }

  runs_left : RunsStand s (memory_without_block m kept' grey' from) left
  runs_left =
      let d = parted s.objects addresses t from o v.object v.there in
      let others =
      d.others (λ (x : Run). x.from ≢ word_of from)
      (λ j bt p x e h. begins_apart s addresses st.placed j t bt from e v.there x)
      in
      let reserved = reserved_extents s.points s.point_memories in
      let free =
      reserved_elsewhere s addresses (word_of from) st.placed (λ point l r there.
      st.placed.reserved_apart t point 0 l o r (word_of from) (begins_there s addresses st.placed t from o v.there v.object) there)
      in
      let old : extents_of s.objects addresses ++ reserved ≡ d.before ++ extent from (size_of o) ∷ (d.after ++ reserved) =
      ap (λ rs. rs ++ reserved) d.is ∙ append_assoc d.before (extent from (size_of o) ∷ d.after) reserved
      in
      let new : extents_of s.objects left ++ reserved ≡ d.before ++ (d.after ++ reserved) =
      ap (λ rs. rs ++ reserved) d.gone ∙ append_assoc d.before d.after reserved
      in
      record {
        blocks =
            ap (without_run (word_of from)) (st.runs.blocks ∙ ap in_order d.is)
            ∙ sym (ap in_order d.gone ∙ in_order-without d.before (extent from (size_of o)) d.after others.0 others.1);
        reservations = st.runs.reservations;
        covered =
            ap (without_run (word_of from)) (st.runs.covered ∙ ap in_order old)
            ∙ sym (ap in_order new
            ∙ in_order-without d.before (extent from (size_of o)) (d.after ++ reserved) others.0
            (all_append (λ (x : Run). x.from ≢ word_of from) d.after reserved others.1 free));
      }

  pub image_gone : ImageStands s (memory_without_block m kept' grey' from) left k done
  image_gone = record {
    placed = placed_left;
    words = words_changed change k done changes st.words;
    fixed = fixed_changed change k done changes st.fixed;
    marks = marks_left;
    runs = runs_left;
  }

-- ---- which block may go

module _ (s : Setting) (m : Memory) (addresses : List (Option Address)) (k : Colours) (t : Id) (from : Address) (o : Object)
    (kept' grey' : Word → Bool) (st : Stands s m addresses k) (there : entry_at addresses t ≡ Some from)
    (object : slice_get s.objects t ≡ Some o) (kept_cleared : IsMarkCleared m.kept kept' (word_of from))
    (grey_cleared : IsMarkCleared m.grey grey' (word_of from)) where
  -- a white one, once nothing is grey and white objects aren't read: what isn't white refers to nothing white
  pub white_may_go : is_white s.condemned k t ≡ true
      → ((id : Id) → IsTrue (s.is_read id) → is_white s.condemned k id ≡ false)
      → ((id : Id) (at : Address) → entry_at addresses id ≡ Some at → is_grey k id ≡ false)
      → MayGo s m addresses (black_cells s.condemned k) t from o kept' grey'
  white_may_go white read none_grey = record {
    there = there;
    object = object;
    unreferred = λ id i p n c any other l cell target.
        let black : IsTrue (is_black s.condemned k id) =
        elim any [
          | inl r ↦
              and_from (not (is_white s.condemned k id)) (not (is_grey k id)) (ap not (read id r)) (ap not (none_grey id l.at l.address))
          | inr d ↦ d
        ]
        in
        false≢true (sym ((st.fixed.cells id i p n c black l cell).not_white t target) ∙ white);
    unreserved = λ point i r n c l cell target.
        false≢true (sym ((st.fixed.reserved point i r n c l cell).not_white t target) ∙ white);
    kept_cleared = kept_cleared;
    grey_cleared = grey_cleared;
  }

  -- a manual one, at any time: references lead to automatic objects
  pub manual_may_go : is_automatic o ≡ false
      → ((id i u tag : ℕ) (p : Object) → slice_get s.objects id ≡ Some p
      → slice_get (all_cells p.body) i ≡ Some (ReferenceCell (Some u) tag)
      → (q : Object) × (slice_get s.objects u ≡ Some q) × IsTrue (is_automatic q))
      → ((point i : ℕ) (r : Reservation) (u tag : ℕ) → live_reservation (entry_at s.points point) ≡ Some r
      → slice_get r.cells i ≡ Some (ReferenceCell (Some u) tag) → (q : Object) × (slice_get s.objects u ≡ Some q) × IsTrue (is_automatic q))
      → MayGo s m addresses (black_cells s.condemned k) t from o kept' grey'
  manual_may_go manual targets reserved = record {
    there = there;
    object = object;
    unreferred = λ id i p n c any other l cell target. of_cell c target (λ u tag e. targets id i u tag p l.object (cell ∙ ap Some e));
    unreserved = λ point i r n c l cell target. of_cell c target (λ u tag e. reserved point i r u tag l.reserved (cell ∙ ap Some e));
    kept_cleared = kept_cleared;
    grey_cleared = grey_cleared;
  }
    where
      never : (q : Object) → slice_get s.objects t ≡ Some q → IsTrue (is_automatic q) → ⊥
      never q e automatic = false≢true (sym manual ∙ ap (λ (x : Object). is_automatic x) (same_Some o q (sym object ∙ e)) ∙ automatic)

      of_cell : (c : Cell) → target_of_cell c ≡ Some t
          → ((u tag : ℕ) → c ≡ ReferenceCell (Some u) tag → (q : Object) × (slice_get s.objects u ≡ Some q) × IsTrue (is_automatic q)) → ⊥
      of_cell HeadCell e f = none-some t e
      of_cell (NumberCell n) e f = none-some t e
      of_cell (ReferenceCell None tag) e f = none-some t e
      of_cell (ReferenceCell (Some u) tag) e f =
          let q = f u tag refl in never q.0 (ap (slice_get s.objects) (sym (same_Some u t e)) ∙ q.1) q.2
