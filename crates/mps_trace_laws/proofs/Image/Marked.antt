-- A white block is kept where it is: it is marked.
use Rattle.std.proofs.Common.{◌≡◌, ◌∙◌, Bool, true, false, refl, sym, ap, List, Option, Some, subst, inl, inr, arith}
use Rattle.std.proofs.lemmas.Bool.{false≢true, cases_eq, eq-eqb, ne_eqb, and_right, or_cases, or_left, or_right}
use Rattle.std.proofs.lemmas.Option.{same_Some}
use Rattle.std.specs.Prelude.{slice_get, not, ◌&&◌, ◌||◌, ◌≢◌, IsTrue}
use Rattle.mps_base.specs.Address.{Address, Id, Word, word_of}
use Rattle.mps_model.specs.Graph.{Object, contains, entry_at}
use Rattle.mps_abstract.specs.Colours.{Colours, is_white, is_grey, keeping}
use Rattle.mps_trace_laws.specs.Image.Memory.{Setting, Memory, Lies, BlockBegins}
use Rattle.mps_trace_laws.specs.Image.Image.{LieApart, CellSet, FixedCellsStand, MarksStand, ImageStands}
use Rattle.mps_trace_laws.specs.Image.Fixing.{IsMarkSet, marked_in}

-- ---- colours of objects

module _ (condemned : List Id) (k : Colours) (t : Id) where
  pub kept_not_white : is_white condemned (keeping k t) t ≡ false
  kept_not_white = rw (eq-eqb t t refl) (and_right (contains condemned t) false refl)

  pub grey_now : is_grey (keeping k t) t ≡ true
  grey_now = rw (eq-eqb t t refl)

  pub others_white : (id : Id) → id ≢ t → is_white condemned (keeping k t) id ≡ is_white condemned k id
  others_white id n = rw (ne_eqb t id (λ e. n (sym e)))

  pub others_grey : (id : Id) → id ≢ t → is_grey (keeping k t) id ≡ is_grey k id
  others_grey id n = rw (ne_eqb t id (λ e. n (sym e)))

  -- what isn't white stays so
  pub still_not_white : (id : Id) → is_white condemned k id ≡ false → is_white condemned (keeping k t) id ≡ false
  still_not_white id h =
      elim (cases_eq id t) [
        | inl e ↦ subst (λ x. is_white condemned (keeping k t) x ≡ false) (sym e) kept_not_white
        | inr n ↦ others_white id n ∙ h
      ]

-- ---- blocks lie apart

module _ (s : Setting) (addresses : List (Option Address)) (placed : LieApart s addresses) where
  -- a block begins at its first word
  pub begins_there : (id : Id) (at : Address) (o : Object) → entry_at addresses id ≡ Some at → slice_get s.objects id ≡ Some o
      → Lies s.objects addresses id 0 o (word_of at)
  begins_there id at o there object =
      record { at = at; address = there; object = object; within = placed.positive id at o there object; is = omega arith }

  pub begins_apart : (i j : Id) (at bt : Address) → entry_at addresses i ≡ Some at → entry_at addresses j ≡ Some bt → i ≢ j
      → word_of at ≢ word_of bt
  begins_apart i j at bt a b n e =
      let o = placed.exists i at a in
      let p = placed.exists j bt b in
      n (placed.apart i j 0 0 o.0 p.0 (word_of at) (begins_there i at o.0 a o.1)
      (subst (λ x. Lies s.objects addresses j 0 p.0 x) (sym e) (begins_there j bt p.0 b p.1)))

-- ---- the marks are set

module _ (s : Setting) (m : Memory) (addresses : List (Option Address)) (k : Colours) (done : CellSet) (t : Id) (now : Address)
    (kept' grey' : Word → Bool) (st : ImageStands s m addresses k done) (there : entry_at addresses t ≡ Some now)
    (keeps : IsMarkSet m.kept kept' (word_of now)) (greys : IsMarkSet m.grey grey' (word_of now)) where
  fixed_marked : FixedCellsStand s m.words addresses (keeping k t) done
  fixed_marked = record {
    cells = λ id j p l d d' there' cell.
        let f = st.fixed.cells id j p l d d' there' cell in
        record { holds = f.holds; not_white = λ u e. still_not_white s.condemned k t u (f.not_white u e) };
    reserved = λ point j r l c there' cell.
        let f = st.fixed.reserved point j r l c there' cell in
        record { holds = f.holds; not_white = λ u e. still_not_white s.condemned k t u (f.not_white u e) };
  }

  marked_word : (n : Word) → IsTrue (kept' n || grey' n) → BlockBegins addresses n
  marked_word n is =
      elim (cases_eq n (word_of now)) [
        | inl same ↦ record { id = t; at = now; address = there; is = same }
        | inr other ↦
            st.marks.marked n (elim (or_cases (kept' n) (grey' n) is) [
              | inl e ↦ or_left (m.kept n) (m.grey n) (sym (keeps.others n other) ∙ e)
              | inr e ↦ or_right (m.kept n) (m.grey n) (sym (greys.others n other) ∙ e)
            ])
      ]

  apart : (id : Id) (at : Address) → entry_at addresses id ≡ Some at → id ≢ t → word_of at ≢ word_of now
  apart id at e n = begins_apart s addresses st.placed id t at now e there n

  here : (id : Id) (at : Address) → entry_at addresses id ≡ Some at → id ≡ t → now ≡ at
  here id at e same = same_Some now at (sym there ∙ subst (λ x. entry_at addresses x ≡ Some at) same e)

  marks_marked : MarksStand s kept' grey' addresses (keeping k t)
  marks_marked = record {
    white_there = λ id at e. elim (cases_eq id t) [
      | inl same ↦
          let set : kept' (word_of at) ≡ true = subst (λ x. kept' (word_of x) ≡ true) (here id at e same) keeps.set in
          subst (λ x. is_white s.condemned (keeping k t) x ≡ false) (sym same) (kept_not_white s.condemned k t)
          ∙ sym (and_right (s.is_condemned_over (word_of at)) (not (kept' (word_of at))) (ap not set))
      | inr n ↦
          others_white s.condemned k t id n ∙ st.marks.white_there id at e
          ∙ ap (λ b. s.is_condemned_over (word_of at) && not b) (sym (keeps.others (word_of at) (apart id at e n)))
    ];
    grey_there = λ id at e. elim (cases_eq id t) [
      | inl same ↦
          subst (λ x. is_grey (keeping k t) x ≡ true) (sym same) (grey_now s.condemned k t)
          ∙ sym (subst (λ x. grey' (word_of x) ≡ true) (here id at e same) greys.set)
      | inr n ↦ others_grey s.condemned k t id n ∙ st.marks.grey_there id at e ∙ sym (greys.others (word_of at) (apart id at e n))
    ];
    marked = marked_word;
    unmoved = λ id at e read white_now. elim (cases_eq id t) [
      | inl same ↦
          absurd (false≢true (sym (kept_not_white s.condemned k t)
          ∙ subst (λ x. is_white s.condemned (keeping k t) x ≡ true) same white_now))
      | inr n ↦ st.marks.unmoved id at e read (sym (others_white s.condemned k t id n) ∙ white_now)
    ];
  }

  pub image_marked : ImageStands s (marked_in m kept' grey') addresses (keeping k t) done
  image_marked = record {
    placed = st.placed;
    words = st.words;
    fixed = fixed_marked;
    marks = marks_marked;
    runs = record { blocks = st.runs.blocks; reservations = st.runs.reservations; covered = st.runs.covered };
  }
