-- A copy that meets all premises of a fix, so that they can be met together: two blocks in an arena of eight words, of which one
-- is condemned and white, and is copied.
use Rattle.std.proofs.Common.{◌≡◌, ◌∙◌, ◌⊎◌, ℕ, zero, suc, ◌+◌, ◌*◌, ◌<◌, ◌≤◌, Bool, true, false, refl, sym, ap, List, [], ◌∷◌, Option, Some, subst, inl, inr, arith, lit<, lit≤, slice_index}
use Rattle.std.proofs.lemmas.Bool.{false≢true, ne_eqb, eqb-true}
use Rattle.std.proofs.lemmas.Option.{none-some, same_Some}
use Rattle.std.specs.Prelude.{slice_get, ◌==◌, ◌||◌, ◌≢◌}
use Rattle.mps_base.specs.Address.{Address, Word, word_of}
use Rattle.mps_format.specs.Layout.{IsBlockSize}
use Rattle.mps_format.specs.Front.{front_layout}
use Rattle.mps_format.specs.Laws.{front_is_lawful}
use Rattle.mps_model.specs.Graph.{Cell, HeadCell, NumberCell, ReferenceCell, Automatic, Object, Reservation, entry_at, size_of, is_automatic, is_reference_cell, target_of_cell}
use Rattle.mps_model.specs.Checked.{head_of_body}
use Rattle.mps_abstract.specs.Colours.{Colours, is_white, is_grey}
use Rattle.mps_trace_laws.specs.Image.Memory.{Setting, Memory, Lies, LiesReserved, all_cells}
use Rattle.mps_trace_laws.specs.Image.Image.{IsCellWord, AreShaped, IsAddress, LieApart, CellSet, ImageStands, is_white_over}
use Rattle.mps_trace_laws.specs.Image.Fixing.{AreAtHand, copies, FixWord, writes}
use Rattle.mps_amc.specs.Moving.{AreCopied}

abbrev one : Object
one = record { pool = 0; body = Automatic 0x100000201 (HeadCell ∷ ReferenceCell (Some 1) 3 ∷ []) false }

abbrev two : Object
two = record { pool = 0; body = Automatic 0x201 (HeadCell ∷ NumberCell 7 ∷ []) false }

abbrev objects : List Object
objects = one ∷ two ∷ []

abbrev addresses : List (Option Address)
addresses = Some 8 ∷ Some 24 ∷ []

abbrev is_low : Word → Bool
is_low n = n == 3 || n == 4

abbrev setting : Setting
setting = record {
  objects = objects;
  points = [];
  point_memories = [];
  layout = λ pool. front_layout;
  at_flip = addresses;
  condemned = 1 ∷ [];
  is_read = λ id. true;
  size = 8;
  pool_over = λ n. Some 0;
  is_condemned_over = is_low;
}

abbrev before : Memory
before = record {
  words = 0 ∷ 0x100000201 ∷ 27 ∷ 0x201 ∷ 7 ∷ 0 ∷ 0 ∷ 0 ∷ [];
  kept = λ n. false;
  grey = λ n. n == 1;
  blocks = record { from = 1; count = 2 } ∷ record { from = 3; count = 2 } ∷ [];
  reservations = [];
  covered = record { from = 1; count = 2 } ∷ record { from = 3; count = 2 } ∷ [];
}

abbrev colours : Colours
colours = record { kept = []; grey = 0 ∷ [] }

abbrev none_done : CellSet
none_done = λ id i. false

entry : (id at : ℕ) → entry_at addresses id ≡ Some at → ((id ≡ 0) × (at ≡ 8)) ⊎ ((id ≡ 1) × (at ≡ 24))
entry zero at e = inl (refl, sym (same_Some 8 at e))
entry (suc zero) at e = inr (refl, sym (same_Some 24 at e))
entry (suc (suc id)) at e = absurd (none-some at e)

object : (id : ℕ) (o : Object) → slice_get objects id ≡ Some o → ((id ≡ 0) × (o ≡ one)) ⊎ ((id ≡ 1) × (o ≡ two))
object zero o e = inl (refl, sym (same_Some one o e))
object (suc zero) o e = inr (refl, sym (same_Some two o e))
object (suc (suc id)) o e = absurd (none-some o e)

cell_of_one : (k : ℕ) (c : Cell) → slice_get (all_cells one.body) k ≡ Some c
    → ((k ≡ 0) × (c ≡ HeadCell)) ⊎ ((k ≡ 1) × (c ≡ ReferenceCell (Some 1) 3))
cell_of_one zero c e = inl (refl, sym (same_Some HeadCell c e))
cell_of_one (suc zero) c e = inr (refl, sym (same_Some (ReferenceCell (Some 1) 3) c e))
cell_of_one (suc (suc k)) c e = absurd (none-some c e)

cell_of_two : (k : ℕ) (c : Cell) → slice_get (all_cells two.body) k ≡ Some c → ((k ≡ 0) × (c ≡ HeadCell)) ⊎ ((k ≡ 1) × (c ≡ NumberCell 7))
cell_of_two zero c e = inl (refl, sym (same_Some HeadCell c e))
cell_of_two (suc zero) c e = inr (refl, sym (same_Some (NumberCell 7) c e))
cell_of_two (suc (suc k)) c e = absurd (none-some c e)

-- the facts of each object and cell, from the two of each
of_objects : (P : ℕ → Object → Type 0) → P 0 one → P 1 two → (id : ℕ) (o : Object) → slice_get objects id ≡ Some o → P id o
of_objects P a b id o e = elim (object id o e) [
  | inl x ↦ subst (λ i. P i o) (sym x.0) (subst (λ q. P 0 q) (sym x.1) a)
  | inr x ↦ subst (λ i. P i o) (sym x.0) (subst (λ q. P 1 q) (sym x.1) b)
]

of_addresses : (P : ℕ → ℕ → Type 0) → P 0 8 → P 1 24 → (id at : ℕ) → entry_at addresses id ≡ Some at → P id at
of_addresses P a b id at e = elim (entry id at e) [
  | inl x ↦ subst (λ i. P i at) (sym x.0) (subst (λ q. P 0 q) (sym x.1) a)
  | inr x ↦ subst (λ i. P i at) (sym x.0) (subst (λ q. P 1 q) (sym x.1) b)
]

of_cells_of : (P : ℕ → Object → ℕ → Cell → Type 0) → P 0 one 0 HeadCell → P 0 one 1 (ReferenceCell (Some 1) 3) → P 1 two 0 HeadCell
    → P 1 two 1 (NumberCell 7) → (id : ℕ) (o : Object) (k : ℕ) (c : Cell) → slice_get objects id ≡ Some o
    → slice_get (all_cells o.body) k ≡ Some c → P id o k c
of_cells_of P a b d e id o k c is = of_objects (λ i q. slice_get (all_cells q.body) k ≡ Some c → P i q k c)
    (λ x. elim (cell_of_one k c x) [
      | inl y ↦ subst (λ j. P 0 one j c) (sym y.0) (subst (λ j. P 0 one 0 j) (sym y.1) a)
      | inr y ↦ subst
          (λ j. P 0 one j c) (sym y.0) (subst (λ j. P 0 one 1 j) (sym y.1) b)
    ])
    (λ x. elim (cell_of_two k c x) [
      | inl y ↦ subst (λ j. P 1 two j c) (sym y.0) (subst (λ j. P 1 two 0 j) (sym y.1) d)
      | inr y ↦ subst
          (λ j. P 1 two j c) (sym y.0) (subst (λ j. P 1 two 1 j) (sym y.1) e)
    ])
    id o is

-- the words of the two blocks
of_lying : (P : ℕ → ℕ → Object → ℕ → Type 0) → P 0 0 one 1 → P 0 1 one 2 → P 1 0 two 3 → P 1 1 two 4 → (id k : ℕ) (o : Object) (n : ℕ)
    → Lies objects addresses id k o n → P id k o n
of_lying P a b c d id k o n l = go id o l.at (object id o l.object) (entry id l.at l.address) l.is l.within
  where
    below : (i : ℕ) (q : Object) (base : ℕ) → P i 0 q base → P i 1 q (base + 1) → (k n : ℕ) → k < 2 → n ≡ base + k → P i k q n
    below i q base x y zero n lt e = subst (λ m. P i 0 q m) (sym (let z : n ≡ base = omega (arith, e) in z)) x
    below i q base x y (suc zero) n lt e = subst (λ m. P i 1 q m) (sym e) y
    below i q base x y (suc (suc k)) n lt e = absurd (omega (arith, lt))

    go : (id : ℕ) (o : Object) (at : ℕ) → ((id ≡ 0) × (o ≡ one)) ⊎ ((id ≡ 1) × (o ≡ two))
        → ((id ≡ 0) × (at ≡ 8)) ⊎ ((id ≡ 1) × (at ≡ 24)) → n ≡ word_of at + k → k < size_of o → P id k o n
    go id o at (inl x) (inl y) is lt = subst (λ i. P i k o n) (sym x.0)
        (subst (λ q. P 0 k q n) (sym x.1) (below 0 one 1 a b k n (subst (λ q. k < size_of q) x.1 lt) (is ∙ ap (λ z. word_of z + k) y.1)))
    go id o at (inr x) (inr y) is lt = subst (λ i. P i k o n) (sym x.0)
        (subst (λ q. P 1 k q n) (sym x.1) (below 1 two 3 c d k n (subst (λ q. k < size_of q) x.1 lt) (is ∙ ap (λ z. word_of z + k) y.1)))
    go id o at (inl x) (inr y) is lt = absurd (omega (arith, x.0, y.0))
    go id o at (inr x) (inl y) is lt = absurd (omega (arith, x.0, y.0))

side : (id k : ℕ) (o : Object) (n : ℕ) → Lies objects addresses id k o n → ((id ≡ 0) × (n ≤ 2)) ⊎ ((id ≡ 1) × (3 ≤ n))
side = of_lying (λ i k o n. ((i ≡ 0) × (n ≤ 2)) ⊎ ((i ≡ 1) × (3 ≤ n))) (inl (refl, lit≤ tt)) (inl (refl, lit≤ tt)) (inr (refl, lit≤ tt))
    (inr (refl, lit≤ tt))

same_side : (i j n : ℕ) → ((i ≡ 0) × (n ≤ 2)) ⊎ ((i ≡ 1) × (3 ≤ n)) → ((j ≡ 0) × (n ≤ 2)) ⊎ ((j ≡ 1) × (3 ≤ n)) → i ≡ j
same_side i j n a b = omega (arith, a, b)

abbrev tag_of_cell : Cell → ℕ
tag_of_cell HeadCell = 0
tag_of_cell (NumberCell number) = 0
tag_of_cell (ReferenceCell target tag) = tag

shaped : AreShaped objects (λ pool. front_layout)
shaped = record {
  lawful = λ pool. front_is_lawful;
  tags = λ id k o t tag e c. subst (λ n. n < 8) refl
      (of_cells_of (λ i q j d. tag_of_cell d < 8) (lit< tt) (lit< tt) (lit< tt) (lit< tt) id o k (ReferenceCell t tag) e c);
  targets = λ id k o t tag e c. of_cells_of
      (λ i q j d. target_of_cell d ≡ Some t → (p : Object) × (slice_get objects t ≡ Some p) × (is_automatic p ≡ true))
      (λ x. absurd (none-some t x)) (λ x. (two, ap (slice_get objects) (sym (same_Some 1 t x)), refl)) (λ x. absurd (none-some t x))
      (λ x. absurd (none-some t x)) id o k (ReferenceCell (Some t) tag) e c refl;
  first = λ id o e a. of_objects (λ i q. slice_get (all_cells q.body) 0 ≡ Some HeadCell) refl refl id o e;
  valid = λ id o e a. of_objects (λ i q. front_layout.is_valid (head_of_body q.body) ≡ true) refl refl id o e;
  kinds = λ id k o c e a d. of_cells_of (λ i q j b. is_reference_cell b ≡ front_layout.is_reference (head_of_body q.body) j) refl refl
      refl refl id o k c e d;
  whole = λ id o e a. of_objects (λ i q. front_layout.size (head_of_body q.body) ≡ size_of q) refl refl id o e;
  sizes = λ id o e a. of_objects (λ i q. IsBlockSize (size_of q)) (lit≤ tt, lit≤ tt) (lit≤ tt, lit≤ tt) id o e;
}

no_reservation : {r : Reservation} {point l : ℕ} {n : Word} → LiesReserved [] [] point l r n → ⊥
no_reservation {r} x = none-some r x.reserved

placed : LieApart setting addresses
placed = record {
  exists = of_addresses (λ i at. (o : Object) × (slice_get objects i ≡ Some o)) (one, refl) (two, refl);
  positive = λ id at o e x. of_objects (λ i q. 0 < size_of q) (lit< tt) (lit< tt) id o x;
  address = of_addresses (λ i at. IsAddress at) (record { not_null = lit< tt; aligned = refl; small = lit≤ tt })
      (record { not_null = lit< tt; aligned = refl; small = lit≤ tt });
  address_at_flip = of_addresses (λ i at. IsAddress at) (record { not_null = lit< tt; aligned = refl; small = lit≤ tt })
      (record { not_null = lit< tt; aligned = refl; small = lit≤ tt });
  within = of_lying (λ i k o n. n < 8) (lit< tt) (lit< tt) (lit< tt) (lit< tt);
  apart = λ i j k l o p n a b. same_side i j n (side i k o n a) (side j l p n b);
  home = of_lying (λ i k o n. ◌≡◌ {A = Option ℕ} (Some 0) (Some o.pool)) refl refl refl refl;
  whole = λ id k o n at l e. of_lying (λ i k' o' n'. (at' : ℕ) → entry_at addresses i ≡ Some at' → is_low n' ≡ is_low (word_of at'))
      (λ a x. ap (λ y. is_low (word_of y)) (same_Some 8 a x)) (λ a x. ap (λ y. is_low (word_of y)) (same_Some 8 a x))
      (λ a x. ap (λ y. is_low (word_of y)) (same_Some 24 a x)) (λ a x. ap (λ y. is_low (word_of y)) (same_Some 24 a x)) id k o n l at e;
  reserved_positive = λ point r e. absurd (none-some r e);
  reserved_within = λ point k r n x. absurd (no_reservation x);
  reserved_alone = λ i j k l r q n x y. absurd (no_reservation x);
  reserved_apart = λ id point k l o r n x y. no_reservation y;
}

stands : ImageStands setting before addresses colours none_done
stands = record {
  placed = placed;
  words = record {
    long = refl;
    cells = λ id i o n c read l e. of_lying (λ j k q m. (d : Cell) → slice_get (all_cells q.body) k ≡ Some d
        → IsCellWord addresses addresses (head_of_body q.body) d (slice_index before.words m))
        (λ d x. subst (λ y. IsCellWord addresses addresses 0x100000201 y 0x100000201) (same_Some HeadCell d x) refl)
        (λ d x. subst (λ y. IsCellWord addresses addresses 0x100000201 y 27) (same_Some (ReferenceCell (Some 1) 3) d x)
        (record { address = 24; is = refl; means = inl refl }))
        (λ d x. subst (λ y. IsCellWord addresses addresses 0x201 y 0x201) (same_Some HeadCell d x) refl)
        (λ d x. subst (λ y. IsCellWord addresses addresses 0x201 y 7) (same_Some (NumberCell 7) d x) refl)
        id i o n l c e;
    forwarded = λ id from to o was now x object. absurd (x (same_Some from to (sym was ∙ now)));
  };
  fixed = record {
    cells = λ id i o n c d. absurd (false≢true d);
    reserved = λ point i r n c l e. absurd (no_reservation l);
  };
  marks = record {
    white_there = of_addresses (λ i at. is_white (1 ∷ []) colours i ≡ is_white_over is_low before.kept (word_of at)) refl refl;
    grey_there = of_addresses (λ i at. is_grey colours i ≡ before.grey (word_of at)) refl refl;
    marked = λ n is. record { id = 0; at = 8; address = refl; is = eqb-true n 1 is };
    unmoved = λ id at e read white. e;
  };
  runs = record { blocks = refl; reservations = refl; covered = refl };
}

abbrev copied_words : List ℕ
copied_words = 0 ∷ 0x100000201 ∷ 27 ∷ 0x204 ∷ 40 ∷ 0x201 ∷ 7 ∷ 0 ∷ []

at_hand : AreAtHand setting addresses 40 2 0
at_hand = record {
  address = record { not_null = lit< tt; aligned = refl; small = lit≤ tt };
  within = lit≤ tt;
  free = λ k j l p lt there. high k (side_low j l p (5 + k) there);
  unreserved = λ k point l r lt there. no_reservation there;
  not_condemned = λ k lt. low k lt;
  home = λ k lt. refl;
}
  where
    side_low : (j l : ℕ) (p : Object) (n : ℕ) → Lies objects addresses j l p n → n ≤ 4
    side_low = of_lying (λ i k o n. n ≤ 4) (lit≤ tt) (lit≤ tt) (lit≤ tt) (lit≤ tt)

    high : (k : ℕ) → 5 + k ≤ 4 → ⊥
    high k h = omega (arith, h)

    low : (k : ℕ) → k < 2 → is_low (5 + k) ≡ false
    low zero h = refl
    low (suc zero) h = refl
    low (suc (suc k)) h = absurd (omega (arith, h))

copied : AreCopied front_layout before.words copied_words 24 40 2
copied = record {
  long = refl;
  copied = same;
  begins = record { in_range = (lit≤ tt, lit≤ tt); whole = lit≤ tt; head = refl };
  leads = refl;
  others = λ n from to. other n (from 0 (lit< tt)) (from 1 (lit< tt)) (to 0 (lit< tt)) (to 1 (lit< tt));
}
  where
    same : (k : ℕ) → k < 2 → slice_index copied_words (5 + k) ≡ slice_index before.words (3 + k)
    same zero h = refl
    same (suc zero) h = refl
    same (suc (suc k)) h = absurd (omega (arith, h))

    other : (n : ℕ) → n ≢ 3 → n ≢ 4 → n ≢ 5 → n ≢ 6 → slice_index copied_words n ≡ slice_index before.words n
    other zero a b c d = refl
    other (suc zero) a b c d = refl
    other (suc (suc zero)) a b c d = refl
    other (suc (suc (suc zero))) a b c d = absurd (a refl)
    other (suc (suc (suc (suc zero)))) a b c d = absurd (b refl)
    other (suc (suc (suc (suc (suc zero))))) a b c d = absurd (c refl)
    other (suc (suc (suc (suc (suc (suc zero)))))) a b c d = absurd (d refl)
    other (suc (suc (suc (suc (suc (suc (suc n))))))) a b c d = refl

-- the reference in word 2 is fixed: its target is copied from 24 to 40, and the word keeps its tag, 3
abbrev after : Memory
after = record {
  words = 0 ∷ 0x100000201 ∷ 43 ∷ 0x204 ∷ 40 ∷ 0x201 ∷ 7 ∷ 0 ∷ [];
  kept = λ n. false;
  grey = λ n. n == 1 || n == 5;
  blocks = record { from = 1; count = 2 } ∷ record { from = 5; count = 2 } ∷ [];
  reservations = [];
  covered = record { from = 1; count = 2 } ∷ record { from = 5; count = 2 } ∷ [];
}

fixed : FixWord setting addresses front_layout before 2 24 after
fixed = writes 40 (lit< tt) (copies 0 40 2 copied_words (λ n. false) (λ n. n == 1 || n == 5)
    (record {
      condemned = refl;
      over = refl;
      not_forwarded = λ size r e. let x : 0x201 ≡ 4 + 256 * size + 4294967296 * 0 = e in omega
          (arith, x);
      not_kept = refl;
    })
    refl at_hand copied
    (record {
      set = refl;
      kept_clear = refl;
      grey_clear = refl;
      kept_others = λ n a b. refl;
      grey_others = λ n a b. ap (λ t. n == 1 || t)
          (ne_eqb n 5 b) ∙ or_false (n == 1);
    }))
  where
    or_false : (b : Bool) → (b || false) ≡ b
    or_false true = refl
    or_false false = refl
