-- A word is written that is that of one cell: by a client, where the cell changes too, or by a collector, where it doesn't. The
-- word then holds the address of what the cell refers to, which isn't white; or, if only the tag changes, the address that it held.
use Rattle.std.proofs.Common.{refl, ◌≡◌, ◌∙◌, ◌⊎◌, ℕ, ◌+◌, ◌<◌, sym, ap, List, [], ◌++◌, Option, Some, None, subst, inl, inr, arith, slice_index}
use Rattle.std.proofs.lemmas.Bool.{cases_eq}
use Rattle.std.proofs.lemmas.Option.{none-some, same_Some}
use Rattle.std.proofs.lemmas.List.{get_or-set_same, get_or-set_other, length-set}
use Rattle.std.specs.Prelude.{slice_get, slice_set, drop, ◌≢◌, IsTrue}
use Rattle.mps_base.specs.Address.{Address, Id, Word, word_of}
use Rattle.mps_base.specs.Run.{in_order}
use Rattle.mps_format.specs.Blocks.{BeginsForwarded}
use Rattle.mps_model.specs.Graph.{Cell, HeadCell, NumberCell, ReferenceCell, Object, entry_at, size_of}
use Rattle.mps_model.specs.Checked.{head_of_body}
use Rattle.mps_model.specs.World.{reserved_extents}
use Rattle.mps_abstract.specs.Colours.{Colours}
use Rattle.mps_trace_laws.specs.Image.Memory.{Setting, Memory, Lies, LiesReserved, all_cells}
use Rattle.mps_trace_laws.specs.Image.Image.{IsCellWord, LieApart, IsForwardedObject, WordsStand, IsFixedWord, CellSet, with_cell, FixedCellsStand, ImageStands}
use Rattle.mps_trace_laws.specs.Image.Changes.{setting_with_objects, memory_with_word, IsCellChanged}
use Rattle.mps_trace_laws.proofs.Image.Targets.{cell_cases}
use Rattle.mps_trace_laws.proofs.Image.Forwarded.{forwarded_still}

-- a word that holds addresses of now means the same where addresses of the flip count too
pub holds_still : (addresses at_flip : List (Option Address)) (head : ℕ) (c : Cell) (word : ℕ) → IsCellWord addresses [] head c word
    → IsCellWord addresses at_flip head c word
holds_still addresses at_flip head HeadCell word h = h
holds_still addresses at_flip head (NumberCell number) word h = h
holds_still addresses at_flip head (ReferenceCell None tag) word h = h
holds_still addresses at_flip head (ReferenceCell (Some id) tag) word h =
    record { address = h.address; is = h.is; means = elim h.means [ inl e ↦ inl e | inr e ↦ absurd (none-some h.address e) ] }

-- the same address with another tag is the word of the cell with that tag
pub retagged_word : (addresses at_flip : List (Option Address)) (head : ℕ) (target : Option Id) (old tag : ℕ) (was : Address)
    → IsCellWord addresses at_flip head (ReferenceCell target old) (was + old)
    → IsCellWord addresses at_flip head (ReferenceCell target tag) (was + tag)
retagged_word addresses at_flip head None old tag was h = omega (arith, h)
retagged_word addresses at_flip head (Some id) old tag was h =
    record { address = h.address; is = (let e = h.is in omega (arith, e)); means = h.means }

pub retagged_fixed : (condemned : List Id) (addresses : List (Option Address)) (k : Colours) (head : ℕ) (target : Option Id)
    (old tag : ℕ) (was : Address) → IsFixedWord condemned addresses k head (ReferenceCell target old) (was + old)
    → IsFixedWord condemned addresses k head (ReferenceCell target tag) (was + tag)
retagged_fixed condemned addresses k head target old tag was fixed =
    record { holds = retagged_word addresses [] head target old tag was fixed.holds; not_white = fixed.not_white }

-- the cells that are fixed then may be others. The new one holds what its cell refers to as far as it is read, and as it is fixed
module _ (s : Setting) (objects' : List Object) (m : Memory) (addresses : List (Option Address)) (k : Colours) (done then_fixed : CellSet)
    (holder i : ℕ) (o : Object) (n : Word) (new : Cell) (word : ℕ) (changed : IsCellChanged s.objects objects' holder i new)
    (st : ImageStands s m addresses k done) (lies : Lies s.objects addresses holder i o n)
    (holds : IsTrue (s.is_read holder) → IsCellWord addresses s.at_flip (head_of_body o.body) new word)
    (fixed : IsTrue (then_fixed holder i) → IsFixedWord s.condemned addresses k (head_of_body o.body) new word)
    (were : (id j : ℕ) → IsTrue (then_fixed id j) → ((id ≡ holder) × (j ≡ i)) ⊎ IsTrue (done id j)) where
  lay : (id j : ℕ) (p : Object) (l : Word) (there : Lies objects' addresses id j p l)
      → Lies s.objects addresses id j (changed.was id p there.object).object l
  lay id j p l there =
      let w = changed.was id p there.object in
      record {
        at = there.at;
        address = there.address;
        object = w.there;
        within = subst (λ x. j < x)
            (sym w.size) there.within;
        is = there.is;
      }

  -- another cell has another word
  other_word : (id j : ℕ) (p : Object) (l : Word) → Lies objects' addresses id j p l → ((id ≡ holder) × (j ≡ i) → ⊥) → l ≢ n
  other_word id j p l there apart e =
      let was = (changed.was id p there.object).object in
      let a : Lies s.objects addresses id j was n = subst (λ x. Lies s.objects addresses id j was x) e (lay id j p l there) in
      let one : id ≡ holder = st.placed.apart id holder j i was o n a lies in
      let same : a.at ≡ lies.at = same_Some a.at lies.at (sym a.address ∙ ap (entry_at addresses) one ∙ lies.address) in
      apart (one, let w : word_of a.at ≡ word_of lies.at = ap (λ q. word_of q) same in omega (arith, a.is, lies.is, w))

  placed_written : LieApart (setting_with_objects s objects') addresses
  placed_written = record {
    exists = λ id at e. let q = st.placed.exists id at e in changed.still id q.0 q.1;
    positive = λ id at p e x. let w = changed.was id p x in subst (λ y. 0 < y) w.size (st.placed.positive id at w.object e w.there);
    address = st.placed.address;
    address_at_flip = st.placed.address_at_flip;
    within = λ id j p l there. st.placed.within id j (changed.was id p there.object).object l (lay id j p l there);
    apart = λ a b j l p q x there there'.
        st.placed.apart a b j l (changed.was a p there.object).object (changed.was b q there'.object).object x (lay a j p x there)
        (lay b l q x there');
    home = λ id j p l there.
        st.placed.home id j (changed.was id p there.object).object l (lay id j p l there)
        ∙ ap Some (changed.was id p there.object).pool;
    whole = λ id j p l at there e. st.placed.whole id j (changed.was id p there.object).object l at (lay id j p l there) e;
    reserved_positive = st.placed.reserved_positive;
    reserved_within = st.placed.reserved_within;
    reserved_alone = st.placed.reserved_alone;
    reserved_apart = λ id point j l p r x there.
        st.placed.reserved_apart id point j l (changed.was id p there.object).object r x (lay id j p x there);
  }

  abbrev words_after : List ℕ
  words_after = slice_set m.words n word

  here : slice_index words_after n ≡ word
  here = get_or-set_same m.words n word 0 (omega (arith, st.placed.within holder i o n lies, st.words.long))

  elsewhere : (l : Word) → l ≢ n → slice_index words_after l ≡ slice_index m.words l
  elsewhere l x = get_or-set_other m.words n l word 0 x

  -- what is so of the new cell's word is so of it in the object with this head
  new_word : (Holds : (head : ℕ) → Cell → (word : ℕ) → Type 0) → Holds (head_of_body o.body) new word → (id j : ℕ) (p : Object)
      (l : Word) (c : Cell) → Lies objects' addresses id j p l → (id ≡ holder) × (j ≡ i) × (c ≡ new)
      → Holds (head_of_body p.body) c (slice_index words_after l)
  new_word Holds holds id j p l c there e =
      let w = changed.was id p there.object in
      let same : there.at ≡ lies.at = same_Some there.at lies.at (sym there.address ∙ ap (entry_at addresses) e.0 ∙ lies.address) in
      let at_n : l ≡ n = there.is ∙ ap (λ x. word_of x + j) same ∙ ap (λ x. word_of lies.at + x) e.1 ∙ sym lies.is in
      let is_o : o ≡ w.object = same_Some o w.object (sym lies.object ∙ ap (slice_get s.objects) (sym e.0) ∙ w.there) in
      let head : head_of_body o.body ≡ head_of_body p.body = ap (λ (q : Object). head_of_body q.body) is_o ∙ w.head in
      subst (λ x. Holds (head_of_body p.body) x (slice_index words_after l)) (sym e.2)
      (subst (λ x. Holds x new (slice_index words_after l)) head
      (subst (λ x. Holds (head_of_body o.body) new x) (sym (ap (slice_index words_after) at_n ∙ here)) holds))

  forwarded_written : (id from to : ℕ) (p : Object) → entry_at s.at_flip id ≡ Some from → entry_at addresses id ≡ Some to → from ≢ to
      → slice_get objects' id ≡ Some p → IsForwardedObject (setting_with_objects s objects') words_after addresses p from to
  forwarded_written id from to p was now x object =
      let w = changed.was id p object in
      let f = st.words.forwarded id from to w.object was now x w.there in
      let not_n : (q : ℕ) → q < size_of w.object → word_of from + q ≢ n =
      λ q lt e. f.free q holder i o lt (subst (λ y. Lies s.objects addresses holder i o y) (sym e) lies)
      in
      let g =
      forwarded_still s m.words words_after addresses w.object from to (length-set m.words n word)
      (λ q lt. elsewhere (word_of from + q) (not_n q lt)) f
      in
      let lower : (q : ℕ) → q < size_of p → q < size_of w.object = λ q lt. subst (λ y. q < y) (sym w.size) lt in
      record {
        begins =
            subst (λ y. BeginsForwarded (s.layout y) (drop (word_of from) words_after) (size_of p)) w.pool
            (subst (λ y. BeginsForwarded (s.layout w.object.pool) (drop (word_of from) words_after) y) w.size g.begins);
        leads = g.leads;
        condemned = λ q lt. g.condemned q (lower q lt);
        home = λ q lt. g.home q (lower q lt) ∙ ap Some w.pool;
        free = λ q j l r lt there. g.free q j l (changed.was j r there.object).object (lower q lt) (lay j l r (word_of from + q) there);
        unreserved = λ q point l r lt there. g.unreserved q point l r (lower q lt) there;
      }

  words_written : WordsStand (setting_with_objects s objects') words_after addresses
  words_written = record {
    long = length-set m.words n word ∙ st.words.long;
    cells = λ id j p l c read there cell.
        let w = changed.was id p there.object in
        elim (w.cells j c cell) [
          | inl x ↦
              subst (λ y. IsCellWord addresses s.at_flip y c (slice_index words_after l)) w.head
              (subst (λ y. IsCellWord addresses s.at_flip (head_of_body w.object.body) c y)
              (sym (elsewhere l (other_word id j p l there x.0)))
              (st.words.cells id j w.object l c read (lay id j p l there) x.1))
          | inr x ↦
              new_word (λ head d v. IsCellWord addresses s.at_flip head d v) (holds (subst (λ y. IsTrue (s.is_read y)) x.0 read))
              id j p l c there x
        ];
    forwarded = forwarded_written;
  }

  fixed_written : FixedCellsStand (setting_with_objects s objects') words_after addresses k then_fixed
  fixed_written = record {
    cells = λ id j p l c d there cell.
        let w = changed.was id p there.object in
        elim (w.cells j c cell) [
          | inl x ↦
              elim (were id j d) [
                | inl y ↦ absurd (x.0 y)
                | inr y ↦
                    subst (λ z. IsFixedWord s.condemned addresses k z c (slice_index words_after l)) w.head
                    (subst (λ z. IsFixedWord s.condemned addresses k (head_of_body w.object.body) c z)
                    (sym (elsewhere l (other_word id j p l there x.0))) (st.fixed.cells id j w.object l c y (lay id j p l there) x.1))
              ]
          | inr x ↦
              new_word (λ head e v. IsFixedWord s.condemned addresses k head e v)
              (fixed (subst (λ y. IsTrue (then_fixed holder y)) x.1 (subst (λ y. IsTrue (then_fixed y j)) x.0 d))) id j p l c there x
        ];
    reserved = λ point j r l c there cell.
        let not_n : l ≢ n =
        λ e. st.placed.reserved_apart holder point i j o r n lies (subst (λ y. LiesReserved s.points s.point_memories point j r y) e there)
        in
        subst (λ y. IsFixedWord s.condemned addresses k r.head c y) (sym (elsewhere l not_n)) (st.fixed.reserved point j r l c there cell);
  }

  pub word_written : ImageStands (setting_with_objects s objects') (memory_with_word m n word) addresses k then_fixed
  word_written = record {
    placed = placed_written;
    words = words_written;
    fixed = fixed_written;
    marks = record {
      white_there = st.marks.white_there;
      grey_there = st.marks.grey_there;
      marked = st.marks.marked;
      unmoved = st.marks.unmoved;
    };
    runs = record {
      blocks = st.runs.blocks ∙ sym (ap in_order (changed.extents addresses));
      reservations = st.runs.reservations;
      covered = st.runs.covered ∙ sym (ap (λ rs. in_order (rs ++ reserved_extents s.points s.point_memories)) (changed.extents addresses));
    };
  }

-- a word that holds the address of what its cell refers to, which isn't white: the cell is fixed then
pub cell_written : (s : Setting) (objects' : List Object) (m : Memory) (addresses : List (Option Address)) (k : Colours) (done : CellSet)
    (holder i : ℕ) (o : Object) (n : Word) (new : Cell) (word : ℕ) → IsCellChanged s.objects objects' holder i new
    → ImageStands s m addresses k done → Lies s.objects addresses holder i o n
    → IsFixedWord s.condemned addresses k (head_of_body o.body) new word
    → ImageStands (setting_with_objects s objects') (memory_with_word m n word) addresses k (with_cell done holder i)
cell_written s objects' m addresses k done holder i o n new word changed st lies fixed =
    word_written s objects' m addresses k done (with_cell done holder i) holder i o n new word changed st lies
    (λ read. holds_still addresses s.at_flip (head_of_body o.body) new word fixed.holds) (λ d. fixed)
    (λ id j d. cell_cases done holder i id j d)

-- the tag of a reference is written, and the address in its word stays, of now or of the flip: what was fixed is fixed then
pub tag_written : (s : Setting) (objects' : List Object) (m : Memory) (addresses : List (Option Address)) (k : Colours) (done : CellSet)
    (holder i : ℕ) (o : Object) (n : Word) (target : Option Id) (old tag : ℕ) (was : Address)
    → IsCellChanged s.objects objects' holder i (ReferenceCell target tag) → ImageStands s m addresses k done
    → Lies s.objects addresses holder i o n → slice_get (all_cells o.body) i ≡ Some (ReferenceCell target old)
    → slice_index m.words n ≡ was + old
    → ImageStands (setting_with_objects s objects') (memory_with_word m n (was + tag)) addresses k done
tag_written s objects' m addresses k done holder i o n target old tag was changed st lies cell has =
    word_written s objects' m addresses k done done holder i o n (ReferenceCell target tag) (was + tag) changed st lies
    (λ read. retagged_word addresses s.at_flip (head_of_body o.body) target old tag was
    (subst (λ v. IsCellWord addresses s.at_flip (head_of_body o.body) (ReferenceCell target old) v) has
    (st.words.cells holder i o n (ReferenceCell target old) read lies cell)))
    (λ d. retagged_fixed s.condemned addresses k (head_of_body o.body) target old tag was
    (subst (λ v. IsFixedWord s.condemned addresses k (head_of_body o.body) (ReferenceCell target old) v) has
    (st.fixed.cells holder i o n (ReferenceCell target old) d lies cell)))
    (λ id j d. inr d)

-- ---- which cell changed

-- none, where the cell is the one that was there
pub no_cell_changed : (objects : List Object) (holder i : ℕ) (o : Object) (c : Cell) → slice_get objects holder ≡ Some o
    → slice_get (all_cells o.body) i ≡ Some c → IsCellChanged objects objects holder i c
no_cell_changed objects holder i o c object cell = record {
  was = λ id p there. record {
    object = p;
    there = there;
    pool = refl;
    size = refl;
    head = refl;
    cells = λ j d is. which id p there j d is (cases_eq id holder) (cases_eq j i);
  };
  still = λ id p there. (p, there);
  extents = λ addresses. refl;
}
  where
    which : (id : Id) (p : Object) → slice_get objects id ≡ Some p → (j : ℕ) (d : Cell) → slice_get (all_cells p.body) j ≡ Some d
        → (id ≡ holder) ⊎ (id ≢ holder) → (j ≡ i) ⊎ (j ≢ i)
        → (((id ≡ holder) × (j ≡ i) → ⊥) × (slice_get (all_cells p.body) j ≡ Some d)) ⊎ ((id ≡ holder) × (j ≡ i) × (d ≡ c))
    which id p there j d is (inr n) at = inl ((λ e. n e.0), is)
    which id p there j d is (inl e) (inr n) = inl ((λ e'. n e'.1), is)
    which id p there j d is (inl e) (inl f) =
        let same : p ≡ o = same_Some p o (sym there ∙ ap (slice_get objects) e ∙ object) in
        inr (
          e,
          f,
          same_Some d c (sym is ∙ ap (slice_get (all_cells p.body)) f ∙ ap (λ (q : Object). slice_get (all_cells q.body) i) same ∙ cell),
        )
