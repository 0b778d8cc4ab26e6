-- What code finds at an address tells what the object is that the address means, and where it is now.
use Rattle.std.proofs.Common.{◌≡◌, ◌∙◌, ◌⊎◌, ℕ, ◌+◌, ◌<◌, false, sym, ap, List, Option, Some, subst, inl, inr, arith, slice_index}
use Rattle.std.proofs.lemmas.Bool.{false≢true, cases_Bool, cases_eq, and_left, or_cases, and_parts, eqb-true}
use Rattle.std.proofs.lemmas.Option.{same_Some}
use Rattle.std.specs.Prelude.{slice_get, not, ◌&&◌, ◌==◌, ◌≢◌, IsTrue}
use Rattle.mps_base.specs.Address.{Address, Word, word_of}
use Rattle.mps_format.specs.Layout.{IsBlockSize}
use Rattle.mps_model.specs.Graph.{Cell, HeadCell, Object, entry_at, size_of}
use Rattle.mps_model.specs.Checked.{head_of_body}
use Rattle.mps_abstract.specs.Colours.{Colours, is_white}
use Rattle.mps_trace_laws.specs.Image.Memory.{Setting, Memory, Lies, all_cells}
use Rattle.mps_trace_laws.specs.Image.Image.{AreShaped, IsForwardedObject, IsFixedWord, CellSet, with_cell, FixedCellsStand, ImageStands}
use Rattle.mps_trace_laws.specs.Image.Fixing.{Target, IsNotForwarded}

-- ---- the words of an object

-- an object has one place
pub same_word : {objects : List Object} {addresses : List (Option Address)} {id i j : ℕ} {o p : Object} {n l : Word}
    → Lies objects addresses id i o n → Lies objects addresses id j p l → i ≡ j → (o ≡ p) × (n ≡ l)
same_word {i = i} {j = j} {o = o} {p = p} a b e =
    let same : a.at ≡ b.at = same_Some a.at b.at (sym a.address ∙ b.address) in
    (same_Some o p (sym a.object ∙ b.object), a.is ∙ ap (λ at. word_of at + i) same ∙ ap (λ k. word_of b.at + k) e ∙ sym b.is)

-- ---- one fixed cell more

-- a cell of one set and one more
pub cell_cases : (done : CellSet) (holder i id j : ℕ) → IsTrue (with_cell done holder i id j)
    → ((id ≡ holder) × (j ≡ i)) ⊎ IsTrue (done id j)
cell_cases done holder i id j d =
    elim (or_cases (id == holder && j == i) (done id j) d) [
      | inl e ↦ let p = and_parts (id == holder) (j == i) e in inl (eqb-true id holder p.0, eqb-true j i p.1)
      | inr e ↦ inr e
    ]

module _ (s : Setting) (addresses : List (Option Address)) (k : Colours) (done : CellSet) (holder i : ℕ) (o : Object) (n : Word) (c : Cell)
    (lies : Lies s.objects addresses holder i o n) (cell : slice_get (all_cells o.body) i ≡ Some c) where
  -- where a cell is fixed, it is one more
  pub one_more_fixed : (words : List ℕ) → IsFixedWord s.condemned addresses k (head_of_body o.body) c (slice_index words n)
      → FixedCellsStand s words addresses k done → FixedCellsStand s words addresses k (with_cell done holder i)
  one_more_fixed words fixed a = record {
    cells = λ id j p l d done' there cell'. elim (cell_cases done holder i id j done') [
      | inl e ↦
          let there' : Lies s.objects addresses holder j p l = subst (λ x. Lies s.objects addresses x j p l) e.0 there in
          let same = same_word lies there' (sym e.1) in
          let cell'' : slice_get (all_cells o.body) i ≡ Some d =
          subst (λ x. slice_get (all_cells o.body) x ≡ Some d) e.1
          (subst (λ (q : Object). slice_get (all_cells q.body) j ≡ Some d) (sym same.0) cell')
          in
          subst (λ x. IsFixedWord s.condemned addresses k (head_of_body p.body) d (slice_index words x)) same.1
          (subst (λ (q : Object). IsFixedWord s.condemned addresses k (head_of_body q.body) d (slice_index words n)) same.0
          (subst (λ x. IsFixedWord s.condemned addresses k (head_of_body o.body) x (slice_index words n))
          (same_Some c d (sym cell ∙ cell''))
          fixed))
      | inr e ↦ a.cells id j p l d e there cell'
    ];
    reserved = a.reserved;
  }

  -- nothing is written where the word is right already
  pub passed : (m : Memory) → IsFixedWord s.condemned addresses k (head_of_body o.body) c (slice_index m.words n)
      → ImageStands s m addresses k done
      → ImageStands s m addresses k (with_cell done holder i)
  passed m fixed st = record {
    placed = st.placed;
    words = st.words;
    fixed = one_more_fixed m.words fixed st.fixed;
    marks = st.marks;
    runs = st.runs;
  }

-- ---- what code finds at an address

module _ (s : Setting) (m : Memory) (addresses : List (Option Address)) (k : Colours) (done : CellSet)
    (shaped : AreShaped s.objects s.layout)
    (st : ImageStands s m addresses k done) (t address now : ℕ) (p : Object) (x : Target s addresses t address now p) where
  -- it is there, or it was there and has moved
  there_or_moved : (address ≡ now)
      ⊎ ((address ≢ now) × (entry_at s.at_flip t ≡ Some address) × IsForwardedObject s m.words addresses p address now)
  there_or_moved =
      elim (cases_eq address now) [
        | inl e ↦ inl e
        | inr n ↦
            elim x.means [
              | inl e ↦ absurd (n (same_Some address now (sym e ∙ x.there)))
              | inr e ↦ inr (n, e, st.words.forwarded t address now p e x.there n x.object)
            ]
      ]

  positive : 0 < size_of p
  positive = let sizes = shaped.sizes t p x.object x.automatic in omega (arith, sizes.0)

  -- what has moved isn't white
  moved_not_white : address ≢ now → entry_at s.at_flip t ≡ Some address → is_white s.condemned k t ≡ false
  moved_not_white n was =
      elim (cases_Bool (is_white s.condemned k t)) [
        | inl is ↦ absurd (n (same_Some address now (sym was ∙ st.marks.unmoved t now x.there x.read is)))
        | inr isnt ↦ isnt
      ]

  -- no condemned segment is there
  pub not_condemned : s.is_condemned_over (word_of address) ≡ false → (address ≡ now) × (is_white s.condemned k t ≡ false)
  not_condemned h =
      elim there_or_moved [
        | inl e ↦ (
          e,
          st.marks.white_there t now x.there
              ∙ and_left (s.is_condemned_over (word_of now)) (not (m.kept (word_of now)))
              (subst (λ n. s.is_condemned_over (word_of n) ≡ false) e h),
        )
        | inr f ↦
            absurd (false≢true (sym h ∙ ap s.is_condemned_over (let e : word_of address ≡ word_of address + 0 = omega arith in e)
            ∙ f.2.condemned 0 positive))
      ]

  -- the head of a live block is valid, and no forwarded head
  head_there : slice_index m.words (word_of now) ≡ head_of_body p.body
  head_there =
      st.words.cells t 0 p (word_of now) HeadCell x.read
      (record { at = now; address = x.there; object = x.object; within = positive; is = omega arith })
      (shaped.first t p x.object x.automatic)

  not_forwarded_there : IsNotForwarded s m.words now p.pool
  not_forwarded_there size sizes e =
      (shaped.lawful p.pool).disjoint.valid_or_forwarded (head_of_body p.body) size (shaped.valid t p x.object x.automatic) sizes
      (sym head_there ∙ e)

  -- it is forwarded
  pub is_forwarded : (size : ℕ) → IsBlockSize size → slice_index m.words (word_of address) ≡ (s.layout p.pool).forwarded_head size
      → (slice_index m.words (word_of address + 1) ≡ now) × (is_white s.condemned k t ≡ false)
  is_forwarded size sizes e =
      elim there_or_moved [
        | inl same ↦
            absurd (not_forwarded_there size sizes
            (subst (λ n. slice_index m.words (word_of n) ≡ (s.layout p.pool).forwarded_head size) same e))
        | inr f ↦ (f.2.leads, moved_not_white f.0 f.1)
      ]

  -- the segment over the address is of the object's pool, wherever the object is now
  pub pool_at_target : s.pool_over (word_of address) ≡ Some p.pool
  pool_at_target =
      let first : (at : ℕ) → word_of at ≡ word_of at + 0 = λ at. omega arith in
      elim there_or_moved [
        | inl e ↦
            ap (λ y. s.pool_over (word_of y)) e
            ∙ st.placed.home t 0 p (word_of now)
            (record { at = now; address = x.there; object = x.object; within = positive; is = first now })
        | inr f ↦ ap s.pool_over (first address) ∙ f.2.home 0 positive
      ]
