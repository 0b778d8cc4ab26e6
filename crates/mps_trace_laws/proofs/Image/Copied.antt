-- A white block is copied to words at hand.
use Rattle.std.proofs.Common.{◌≡◌, ◌∙◌, ◌⊎◌, ℕ, ◌+◌, ◌<◌, Bool, true, false, refl, sym, ap, List, [], Option, Some, None, subst, inl, inr, arith, slice_index}
use Rattle.std.proofs.lemmas.Bool.{false≢true, cases_eq, and_left, or_cases, or_left, or_right}
use Rattle.std.proofs.lemmas.Option.{none-some, same_Some}
use Rattle.std.specs.Prelude.{slice_get, not, ◌&&◌, ◌||◌, ◌≢◌, IsTrue}
use Rattle.mps_base.specs.Address.{Address, Id, Word, word_of}
use Rattle.mps_model.specs.Graph.{Cell, HeadCell, NumberCell, ReferenceCell, Object, entry_at, size_of, target_of_cell}
use Rattle.mps_model.specs.Checked.{head_of_body}
use Rattle.mps_abstract.specs.Colours.{Colours, is_white, is_grey, keeping}
use Rattle.mps_trace_laws.specs.Image.Memory.{Setting, Lies, LiesReserved, BlockBegins}
use Rattle.mps_trace_laws.specs.Image.Image.{MeansAt, IsCellWord, IsAddress, LieApart, IsForwardedObject, WordsStand, IsFixedWord, CellSet, FixedCellsStand, MarksStand}
use Rattle.mps_trace_laws.specs.Image.Fixing.{AreAtHand, AreMarksMoved, address_moved}
use Rattle.mps_amc.specs.Moving.{AreCopied}
use Rattle.mps_trace_laws.proofs.Image.Entries.{entry_at-set_same, entry_at-set_other, entry_replaced}
use Rattle.mps_trace_laws.proofs.Image.Forwarded.{forwarded_still}
use Rattle.mps_trace_laws.proofs.Image.Marked.{kept_not_white, others_white, others_grey, grey_now, still_not_white, begins_there, begins_apart}

-- which object is moved, from where and to where, and that it may be
pub record IsMove (s : Setting) (addresses : List (Option Address)) (k : Colours) (t : Id) (from to : Address) (o : Object) : Type 0 where
  pub there : entry_at addresses t ≡ Some from
  pub object : slice_get s.objects t ≡ Some o
  pub white : is_white s.condemned k t ≡ true
  pub at_flip : entry_at s.at_flip t ≡ Some from
  pub condemned : s.is_condemned_over (word_of from) ≡ true
  pub hand : AreAtHand s addresses to (size_of o) o.pool

module _ (s : Setting) (addresses : List (Option Address)) (k : Colours) (t : Id) (from to : Address) (o : Object)
    (placed : LieApart s addresses) (v : IsMove s addresses k t from to o) where
  abbrev addresses_after : List (Option Address)
  addresses_after = address_moved addresses t to

  entry_moved : (id : Id) (at : Address) → entry_at addresses_after id ≡ Some at
      → ((id ≡ t) × (at ≡ to)) ⊎ ((id ≢ t) × (entry_at addresses id ≡ Some at))
  entry_moved id at e = entry_replaced addresses t from v.there to id at e

  -- word i of an object after the move: of the block that moved at its new address, of others where it was
  pub lies_moved : (id i : ℕ) (p : Object) (n : Word) → Lies s.objects addresses_after id i p n
      → ((id ≡ t) × (p ≡ o) × (i < size_of o) × (n ≡ word_of to + i)) ⊎ ((id ≢ t) × Lies s.objects addresses id i p n)
  lies_moved id i p n l =
      elim (entry_moved id l.at l.address) [
        | inl e ↦
            let same : p ≡ o = same_Some p o (sym l.object ∙ ap (slice_get s.objects) e.0 ∙ v.object) in
            inl (e.0, same, subst (λ (q : Object). i < size_of q) same l.within, l.is ∙ ap (λ x. word_of x + i) e.1)
        | inr e ↦ inr (e.0, record { at = l.at; address = e.1; object = l.object; within = l.within; is = l.is })
      ]

  -- word i of the block before the move
  pub was_there : (i : ℕ) → i < size_of o → Lies s.objects addresses t i o (word_of from + i)
  was_there i lt = record { at = from; address = v.there; object = v.object; within = lt; is = refl }

  -- the words of others are neither where it was nor where it comes
  not_from : (id i : ℕ) (p : Object) (n : Word) → id ≢ t → Lies s.objects addresses id i p n → (q : ℕ) → q < size_of o
      → n ≢ word_of from + q
  not_from id i p n x l q lt e =
      x (placed.apart id t i q p o (word_of from + q) (subst (λ y. Lies s.objects addresses id i p y) e l) (was_there q lt))

  not_to : (id i : ℕ) (p : Object) (n : Word) → Lies s.objects addresses id i p n → (q : ℕ) → q < size_of o → n ≢ word_of to + q
  not_to id i p n l q lt e = v.hand.free q id i p lt (subst (λ y. Lies s.objects addresses id i p y) e l)

  -- a fact of words that holds of all blocks and of the words at hand holds after the move
  of_lying : (P : Object → Word → Type 0) → ((id i : ℕ) (p : Object) (n : Word) → Lies s.objects addresses id i p n → P p n)
      → ((i : ℕ) → i < size_of o → P o (word_of to + i)) → (id i : ℕ) (p : Object) (n : Word)
      → Lies s.objects addresses_after id i p n → P p n
  of_lying P others new id i p n l =
      elim (lies_moved id i p n l) [
        | inl e ↦ subst (λ y. P p y) (sym e.3) (subst (λ (q : Object). P q (word_of to + i)) (sym e.1) (new i e.2))
        | inr e ↦ others id i p n e.1
      ]

  positive : 0 < size_of o
  positive = placed.positive t from o v.there v.object

  not_condemned_there : s.is_condemned_over (word_of to) ≡ false
  not_condemned_there =
      ap s.is_condemned_over (let e : word_of to ≡ word_of to + 0 = omega arith in e) ∙ v.hand.not_condemned 0 positive

  pub placed_moved : LieApart s addresses_after
  placed_moved = record {
    exists = λ id at e. elim (entry_moved id at e) [
      | inl x ↦ (o, ap (slice_get s.objects) x.0 ∙ v.object)
      | inr x ↦ placed.exists id at x.1
    ];
    positive = λ id at p e object. elim (entry_moved id at e) [
      | inl x ↦ placed.positive id from p (ap (entry_at addresses) x.0 ∙ v.there) object
      | inr x ↦ placed.positive id at p x.1 object
    ];
    address = λ id at e. elim (entry_moved id at e) [
      | inl x ↦ subst IsAddress (sym x.1) v.hand.address
      | inr x ↦ placed.address id at x.1
    ];
    address_at_flip = placed.address_at_flip;
    within = of_lying (λ p n. n < s.size) placed.within (λ i lt. omega (arith, lt, v.hand.within));
    apart = λ i j a b p q n l r. elim (lies_moved i a p n l) [
      | inl x ↦
          elim (lies_moved j b q n r) [
            | inl y ↦ x.0 ∙ sym y.0
            | inr y ↦ absurd (v.hand.free a j b q x.2 (subst (λ z. Lies s.objects addresses j b q z) x.3 y.1))
          ]
      | inr x ↦
          elim (lies_moved j b q n r) [
            | inl y ↦ absurd (v.hand.free b i a p y.2 (subst (λ z. Lies s.objects addresses i a p z) y.3 x.1))
            | inr y ↦ placed.apart i j a b p q n x.1 y.1
          ]
    ];
    home = of_lying (λ p n. s.pool_over n ≡ Some p.pool) placed.home v.hand.home;
    whole = λ id i p n at l e. elim (lies_moved id i p n l) [
      | inl x ↦
          let at_to : at ≡ to =
          same_Some at to (sym e ∙ ap (entry_at addresses_after) x.0 ∙ entry_at-set_same addresses t from v.there (Some to))
          in
          ap s.is_condemned_over x.3 ∙ v.hand.not_condemned i x.2
          ∙ sym (ap (λ y. s.is_condemned_over (word_of y)) at_to ∙ not_condemned_there)
      | inr x ↦ placed.whole id i p n at x.1 (sym (entry_at-set_other addresses t id (Some to) x.0) ∙ e)
    ];
    reserved_positive = placed.reserved_positive;
    reserved_within = placed.reserved_within;
    reserved_alone = placed.reserved_alone;
    reserved_apart = λ id point i j p r n l there. elim (lies_moved id i p n l) [
      | inl x ↦ v.hand.unreserved i point j r x.2 (subst (λ y. LiesReserved s.points s.point_memories point j r y) x.3 there)
      | inr x ↦ placed.reserved_apart id point i j p r n x.1 there
    ];
  }

  -- ---- words

  means_moved : (address : Address) (id : Id) → MeansAt addresses s.at_flip address id → MeansAt addresses_after s.at_flip address id
  means_moved address id (inr e) = inr e
  means_moved address id (inl e) =
      elim (cases_eq id t) [
        | inl same ↦ inr (ap (entry_at s.at_flip) same ∙ v.at_flip ∙ sym v.there ∙ sym (ap (entry_at addresses) same) ∙ e)
        | inr n ↦ inl (entry_at-set_other addresses t id (Some to) n ∙ e)
      ]

  cell_moved : (head : ℕ) (c : Cell) (word : ℕ) → IsCellWord addresses s.at_flip head c word
      → IsCellWord addresses_after s.at_flip head c word
  cell_moved head HeadCell word h = h
  cell_moved head (NumberCell number) word h = h
  cell_moved head (ReferenceCell None tag) word h = h
  cell_moved head (ReferenceCell (Some id) tag) word h =
      record { address = h.address; is = h.is; means = means_moved h.address id h.means }

  -- a cell that is fixed refers to nothing white, so not to what moves
  fixed_cell_moved : (head : ℕ) (c : Cell) (word : ℕ) → IsCellWord addresses [] head c word
      → ((u : Id) → target_of_cell c ≡ Some u → is_white s.condemned k u ≡ false) → IsCellWord addresses_after [] head c word
  fixed_cell_moved head HeadCell word h n = h
  fixed_cell_moved head (NumberCell number) word h n = h
  fixed_cell_moved head (ReferenceCell None tag) word h n = h
  fixed_cell_moved head (ReferenceCell (Some id) tag) word h n = record {
    address = h.address;
    is = h.is;
    means = elim h.means [
      | inl e ↦
          let other : id ≢ t = λ same. false≢true (sym (n id refl) ∙ ap (is_white s.condemned k) same ∙ v.white) in
          inl (entry_at-set_other addresses t id (Some to) other ∙ e)
      | inr e ↦ absurd (none-some h.address e)
    ];
  }

  fixed_moved : (head : ℕ) (c : Cell) (word : ℕ) → IsFixedWord s.condemned addresses k head c word
      → IsFixedWord s.condemned addresses_after (keeping k t) head c word
  fixed_moved head c word f = record {
    holds = fixed_cell_moved head c word f.holds f.not_white;
    not_white = λ u e. still_not_white s.condemned k t u (f.not_white u e);
  }

  module _ (words words' : List ℕ) (copy : AreCopied (s.layout o.pool) words words' from to (size_of o)) where
    -- nothing that was forwarded is where it was or where it comes
    forwarded_moved : (id : Id) (from' to' : Address) (p : Object) → id ≢ t → IsForwardedObject s words addresses p from' to'
        → IsForwardedObject s words' addresses_after p from' to'
    forwarded_moved id from' to' p x f =
        let apart_to : (q a : ℕ) → q < size_of p → a < size_of o → word_of from' + q ≢ word_of to + a =
        λ q a lt la e. false≢true (sym (v.hand.not_condemned a la) ∙ ap s.is_condemned_over (sym e) ∙ f.condemned q lt)
        in
        let apart_from : (q a : ℕ) → q < size_of p → a < size_of o → word_of from' + q ≢ word_of from + a =
        λ q a lt la e. f.free q t a o lt (subst (λ y. Lies s.objects addresses t a o y) (sym e) (was_there a la))
        in
        let same : (q : ℕ) → q < size_of p → slice_index words' (word_of from' + q) ≡ slice_index words (word_of from' + q) =
        λ q lt. copy.others (word_of from' + q) (λ a la. apart_from q a lt la) (λ a la. apart_to q a lt la)
        in
        let still = forwarded_still s words words' addresses p from' to' copy.long same f in
        record {
          begins = still.begins;
          leads = still.leads;
          condemned = f.condemned;
          home = f.home;
          free = λ q j l r lt there. elim (lies_moved j l r (word_of from' + q) there) [
            | inl e ↦ apart_to q l lt e.2 e.3
            | inr e ↦ f.free q j l r lt e.1
          ];
          unreserved = f.unreserved;
        }

    now_forwarded : IsForwardedObject s words' addresses_after o from to
    now_forwarded =
        let condemned : (q : ℕ) → q < size_of o → s.is_condemned_over (word_of from + q) ≡ true =
        λ q lt. placed.whole t q o (word_of from + q) from (was_there q lt) v.there ∙ v.condemned
        in
        record {
          begins = copy.begins;
          leads = copy.leads;
          condemned = condemned;
          home = λ q lt. placed.home t q o (word_of from + q) (was_there q lt);
          free = λ q j l r lt there. elim (lies_moved j l r (word_of from + q) there) [
            | inl e ↦ false≢true (sym (v.hand.not_condemned l e.2) ∙ ap s.is_condemned_over (sym e.3) ∙ condemned q lt)
            | inr e ↦ e.0 (placed.apart j t l q r o (word_of from + q) e.1 (was_there q lt))
          ];
          unreserved = λ q point l r lt there. placed.reserved_apart t point q l o r (word_of from + q) (was_there q lt) there;
        }

    -- each word of a block is what a word of it was
    came_from : (id i : ℕ) (p : Object) (n : Word) → Lies s.objects addresses_after id i p n
        → (n₀ : Word) × Lies s.objects addresses id i p n₀ × (slice_index words' n ≡ slice_index words n₀)
    came_from id i p n l =
        elim (lies_moved id i p n l) [
          | inl e ↦
              let there : Lies s.objects addresses id i p (word_of from + i) =
              subst (λ x. Lies s.objects addresses x i p (word_of from + i)) (sym e.0)
              (subst (λ (q : Object). Lies s.objects addresses t i q (word_of from + i)) (sym e.1) (was_there i e.2))
              in
              (word_of from + i, there, ap (slice_index words') e.3 ∙ copy.copied i e.2)
          | inr e ↦ (n, e.1, copy.others n (not_from id i p n e.0 e.1) (not_to id i p n e.1))
        ]

    pub words_copied : WordsStand s words addresses → WordsStand s words' addresses_after
    words_copied w = record {
      long = copy.long ∙ w.long;
      cells = λ id i p n c read l cell.
          let was = came_from id i p n l in
          cell_moved (head_of_body p.body) c (slice_index words' n)
          (subst (λ y. IsCellWord addresses s.at_flip (head_of_body p.body) c y) (sym was.2) (w.cells id i p was.0 c read was.1 cell));
      forwarded = λ id from' to' p was now x object. elim (entry_moved id to' now) [
        | inl e ↦
            let is_o : p ≡ o = same_Some p o (sym object ∙ ap (slice_get s.objects) e.0 ∙ v.object) in
            let at_from : from' ≡ from = same_Some from' from (sym was ∙ ap (entry_at s.at_flip) e.0 ∙ v.at_flip) in
            subst (λ y. IsForwardedObject s words' addresses_after p y to') (sym at_from)
            (subst (λ y. IsForwardedObject s words' addresses_after p from y) (sym e.1)
            (subst (λ (q : Object). IsForwardedObject s words' addresses_after q from to) (sym is_o) now_forwarded))
        | inr e ↦ forwarded_moved id from' to' p e.0 (w.forwarded id from' to' p was e.1 x object)
      ];
    }

    pub fixed_copied : (done : CellSet) → FixedCellsStand s words addresses k done
        → FixedCellsStand s words' addresses_after (keeping k t) done
    fixed_copied done f = record {
      cells = λ id i p n c d l cell.
          let was = came_from id i p n l in
          fixed_moved (head_of_body p.body) c (slice_index words' n)
          (subst (λ y. IsFixedWord s.condemned addresses k (head_of_body p.body) c y) (sym was.2) (f.cells id i p was.0 c d was.1 cell));
      reserved = λ point i r n c there cell.
          let not_from' : (q : ℕ) → q < size_of o → n ≢ word_of from + q =
          λ q lt x. placed.reserved_apart t point q i o r (word_of from + q) (was_there q lt)
          (subst (λ y. LiesReserved s.points s.point_memories point i r y) x there)
          in
          let not_to' : (q : ℕ) → q < size_of o → n ≢ word_of to + q =
          λ q lt x. v.hand.unreserved q point i r lt (subst (λ y. LiesReserved s.points s.point_memories point i r y) x there)
          in
          fixed_moved r.head c (slice_index words' n)
          (subst (λ y. IsFixedWord s.condemned addresses k r.head c y) (sym (copy.others n not_from' not_to'))
          (f.reserved point i r n c there cell));
    }

  -- ---- marks

  pub to_apart : (id : Id) (at : Address) → entry_at addresses id ≡ Some at → word_of at ≢ word_of to
  to_apart id at e x =
      let p = placed.exists id at e in
      not_to id 0 p.0 (word_of at) (begins_there s addresses placed id at p.0 e p.1) 0 positive
      (x ∙ (let z : word_of to ≡ word_of to + 0 = omega arith in z))

  from_apart : (id : Id) (at : Address) → entry_at addresses id ≡ Some at → id ≢ t → word_of at ≢ word_of from
  from_apart id at e n = begins_apart s addresses placed id t at from e v.there n

  module _ (kept grey kept' grey' : Word → Bool) (b : AreMarksMoved kept grey kept' grey' (word_of from) (word_of to))
      (marks : MarksStand s kept grey addresses k) where
    still_begins : (n : Word) → n ≢ word_of from → BlockBegins addresses n → BlockBegins addresses_after n
    still_begins n other x = record {
      id = x.id;
      at = x.at;
      address =
          let apart : x.id ≢ t = λ same.
          other (x.is ∙ ap (λ y. word_of y) (same_Some x.at from (sym x.address ∙ ap (entry_at addresses) same ∙ v.there)))
          in
          entry_at-set_other addresses t x.id (Some to) apart ∙ x.address;
      is = x.is;
    }

    marked_word : (n : Word) → IsTrue (kept' n || grey' n) → BlockBegins addresses_after n
    marked_word n is =
        elim (cases_eq n (word_of to)) [
          | inl same ↦ record { id = t; at = to; address = entry_at-set_same addresses t from v.there (Some to); is = same }
          | inr not_there ↦
              elim (cases_eq n (word_of from)) [
                | inl same ↦
                    absurd (elim (or_cases (kept' n) (grey' n) is) [
                      | inl e ↦ false≢true (sym b.kept_clear ∙ ap kept' (sym same) ∙ e)
                      | inr e ↦ false≢true (sym b.grey_clear ∙ ap grey' (sym same) ∙ e)
                    ])
                | inr other ↦
                    still_begins n other (marks.marked n (elim (or_cases (kept' n) (grey' n) is) [
                      | inl e ↦ or_left (kept n) (grey n) (sym (b.kept_others n other not_there) ∙ e)
                      | inr e ↦ or_right (kept n) (grey n) (sym (b.grey_others n other not_there) ∙ e)
                    ]))
              ]
        ]

    pub marks_moved : MarksStand s kept' grey' addresses_after (keeping k t)
    marks_moved = record {
      white_there = λ id at e. elim (entry_moved id at e) [
        | inl x ↦
            subst (λ y. is_white s.condemned (keeping k t) y ≡ false) (sym x.0) (kept_not_white s.condemned k t)
            ∙ sym (and_left (s.is_condemned_over (word_of at)) (not (kept' (word_of at)))
            (ap (λ y. s.is_condemned_over (word_of y)) x.1 ∙ not_condemned_there))
        | inr x ↦
            others_white s.condemned k t id x.0 ∙ marks.white_there id at x.1
            ∙ ap (λ y. s.is_condemned_over (word_of at) && not y)
            (sym (b.kept_others (word_of at) (from_apart id at x.1 x.0) (to_apart id at x.1)))
      ];
      grey_there = λ id at e. elim (entry_moved id at e) [
        | inl x ↦
            subst (λ y. is_grey (keeping k t) y ≡ true) (sym x.0) (grey_now s.condemned k t)
            ∙ sym (ap (λ y. grey' (word_of y)) x.1 ∙ b.set)
        | inr x ↦
            others_grey s.condemned k t id x.0 ∙ marks.grey_there id at x.1
            ∙ sym (b.grey_others (word_of at) (from_apart id at x.1 x.0) (to_apart id at x.1))
      ];
      marked = marked_word;
      unmoved = λ id at e read white_now. elim (entry_moved id at e) [
        | inl x ↦
            absurd (false≢true (sym (kept_not_white s.condemned k t)
            ∙ subst (λ y. is_white s.condemned (keeping k t) y ≡ true) x.0 white_now))
        | inr x ↦ marks.unmoved id at x.1 read (sym (others_white s.condemned k t id x.0) ∙ white_now)
      ];
    }
