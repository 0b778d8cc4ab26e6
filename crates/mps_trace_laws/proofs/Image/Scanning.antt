-- A whole scan: it begins with the cells of black objects fixed, fixes one cell after the other, and ends with one object more
-- that is black.
use Rattle.std.proofs.Common.{◌≡◌, ◌∙◌, ℕ, ◌<◌, ◌≤◌, Bool, true, false, refl, sym, ap, List, [], ◌∷◌, length, Option, Some, subst, inl, inr, arith, zero, suc}
use Rattle.std.proofs.lemmas.Bool.{false≢true, cases_eq, eq-eqb, ne_eqb, or_left, or_right, or_cases, and_parts}
use Rattle.std.proofs.lemmas.Option.{same_Some}
use Rattle.std.specs.Prelude.{slice_get, not, ◌&&◌, ◌||◌, ◌==◌, ◌≢◌, filter, map, if◌then◌else◌, IsTrue}
use Rattle.mps_base.specs.Address.{Address, Id, Word, word_of}
use Rattle.mps_model.specs.Graph.{Cell, NumberCell, Body, Automatic, Manual, Object, contains, entry_at, size_of, size_of_body}
use Rattle.mps_abstract.specs.Colours.{Colours, is_white, is_grey, is_black, keeping, blackened}
use Rattle.mps_trace_laws.specs.Image.Memory.{Setting, Memory, Lies, BlockBegins, all_cells}
use Rattle.mps_trace_laws.specs.Image.Image.{CellSet, black_cells, ImageStands, Stands}
use Rattle.mps_trace_laws.specs.Image.Fixing.{IsMarkCleared, address_moved, FixesOne, nothing, passed, kept, moved}
use Rattle.mps_trace_laws.specs.Image.Scanning.{setting_with_pools, LeavesOthers}
use Rattle.mps_trace_laws.proofs.Image.Entries.{entry_at-set_same, entry_at-set_other}
use Rattle.mps_trace_laws.proofs.Image.Marked.{still_not_white, others_white, others_grey, grey_now, begins_apart}

-- ---- what a fix leaves of objects

module _ (condemned : List Id) where
  -- what is kept is grey, so nothing is black that wasn't
  keeping_blackens_none : (k : Colours) (u id : Id) → IsTrue (is_black condemned (keeping k u) id) → IsTrue (is_black condemned k id)
  keeping_blackens_none k u id b =
      elim (cases_eq id u) [
        | inl same ↦
            let grey : is_grey (keeping k u) id ≡ true =
            subst (λ x. is_grey (keeping k u) x ≡ true) (sym same) (grey_now condemned k u)
            in
            let not_grey = (and_parts (not (is_white condemned (keeping k u) id)) (not (is_grey (keeping k u) id)) b).1 in
            absurd (false≢true (sym (ap not grey) ∙ not_grey))
        | inr n ↦
            ap (λ w. not w && not (is_grey k id)) (sym (others_white condemned k u id n))
            ∙ ap (λ g. not (is_white condemned (keeping k u) id) && not g) (sym (others_grey condemned k u id n)) ∙ b
      ]

  all_left : (addresses : List (Option Address)) (k : Colours) → LeavesOthers condemned addresses addresses k k
  all_left addresses k = record { there = λ id at w e. e; not_white = λ id w. w; live = λ id at e. (at, e); black = λ id b. b }

  pub fix_leaves : (addresses addresses' : List (Option Address)) (k k' : Colours) (t : Option Id)
      → FixesOne condemned addresses k t addresses' k' → LeavesOthers condemned addresses addresses' k k'
  fix_leaves addresses addresses' k k' t nothing = all_left addresses k
  fix_leaves addresses addresses' k k' t (passed u w) = all_left addresses k
  fix_leaves addresses addresses' k k' t (kept u w) = record {
    there = λ id at x e. e;
    not_white = λ id x. still_not_white condemned k u id x;
    live = λ id at e. (at, e);
    black = λ id b. keeping_blackens_none k u id b;
  }
  fix_leaves addresses addresses' k k' t (moved u from to w e) = record {
    there = λ id at x e'.
        let other : id ≢ u = λ same. false≢true (sym x ∙ ap (is_white condemned k) same ∙ w) in
        entry_at-set_other addresses u id (Some to) other ∙ e';
    not_white = λ id x. still_not_white condemned k u id x;
    live = λ id at e'. elim (cases_eq id u) [
      | inl same ↦ (to, ap (entry_at (address_moved addresses u to)) same ∙ entry_at-set_same addresses u from e (Some to))
      | inr n ↦ (at, entry_at-set_other addresses u id (Some to) n ∙ e')
    ];
    black = λ id b. keeping_blackens_none k u id b;
  }

  pub both_leave : (a b c : List (Option Address)) (k l n : Colours) → LeavesOthers condemned a b k l → LeavesOthers condemned b c l n
      → LeavesOthers condemned a c k n
  both_leave a b c k l n x y = record {
    there = λ id at w e. y.there id at (x.not_white id w) (x.there id at w e);
    not_white = λ id w. y.not_white id (x.not_white id w);
    live = λ id at e. let e' = x.live id at e in y.live id e'.0 e'.1;
    black = λ id e. x.black id (y.black id e);
  }

-- ---- a run over cells

-- after the cells from i on were scanned
pub record Scanned (s : Setting) (pools : Word → Option ℕ) (m' : Memory) (addresses : List (Option Address)) (k : Colours)
    (done : CellSet) (id i size : ℕ) : Type 0
  where
    pub addresses_after : List (Option Address)
    pub colours_after : Colours
    pub done_after : CellSet
    pub leaves : LeavesOthers s.condemned addresses addresses_after k colours_after
    pub more : (j l : ℕ) → IsTrue (done j l) → IsTrue (done_after j l)
    pub all : (l : ℕ) → i ≤ l → l < size → IsTrue (done_after id l)
    pub stands : ImageStands (setting_with_pools s pools) m' addresses_after colours_after done_after

-- each word of an object has a cell
in_range : {X : Type 0} (xs : List X) (i : ℕ) → i < length xs → (x : X) × (slice_get xs i ≡ Some x)
in_range [] i lt = absurd (omega (arith, lt))
in_range (x ∷ xs) zero lt = (x, refl)
in_range (x ∷ xs) (suc i) lt = in_range xs i (omega (arith, lt))

length-map : (words : List ℕ) → length (map NumberCell words) ≡ length words
length-map [] = refl
length-map (w ∷ ws) = ap suc (length-map ws)

pub cell_there : (b : Body) (i : ℕ) → i < size_of_body b → (c : Cell) × (slice_get (all_cells b) i ≡ Some c)
cell_there (Automatic head cells is_weak) i lt = in_range cells i lt
cell_there (Manual words) i lt = in_range (map NumberCell words) i (omega (arith, lt, length-map words))

-- ---- the end of a scan

grey_without : (grey : List Id) (id j : Id) → j ≢ id → contains (filter (λ n. not (n == id)) grey) j ≡ contains grey j
grey_without [] id j x = refl
grey_without (m ∷ ms) id j x =
    elim (cases_eq m id) [
      | inl e ↦
          ap (λ b. contains (if not b then m ∷ filter (λ n. not (n == id)) ms else filter (λ n. not (n == id)) ms) j) (eq-eqb m id e)
          ∙ grey_without ms id j x ∙ sym (ap (λ b. b || contains ms j) (ne_eqb m j (λ e'. x (sym e' ∙ e))))
      | inr n ↦
          ap (λ b. contains (if not b then m ∷ filter (λ n. not (n == id)) ms else filter (λ n. not (n == id)) ms) j) (ne_eqb m id n)
          ∙ ap (λ b. (m == j) || b) (grey_without ms id j x)
    ]

grey_gone : (grey : List Id) (id : Id) → contains (filter (λ n. not (n == id)) grey) id ≡ false
grey_gone [] id = refl
grey_gone (m ∷ ms) id =
    elim (cases_eq m id) [
      | inl e ↦
          ap (λ b. contains (if not b then m ∷ filter (λ n. not (n == id)) ms else filter (λ n. not (n == id)) ms) id) (eq-eqb m id e)
          ∙ grey_gone ms id
      | inr n ↦
          ap (λ b. contains (if not b then m ∷ filter (λ n. not (n == id)) ms else filter (λ n. not (n == id)) ms) id) (ne_eqb m id n)
          ∙ ap (λ b. b || contains (filter (λ n. not (n == id)) ms) id) (ne_eqb m id n) ∙ grey_gone ms id
    ]

module _ (s : Setting) (m : Memory) (addresses : List (Option Address)) (k₀ k : Colours) (done : CellSet) (id at : ℕ) (o : Object)
    (grey' : Word → Bool) (st : ImageStands s m addresses k done) (there : entry_at addresses id ≡ Some at)
    (object : slice_get s.objects id ≡ Some o) (more : (j i : ℕ) → IsTrue (black_cells s.condemned k₀ j i) → IsTrue (done j i))
    (all : (i : ℕ) → i < size_of o → IsTrue (done id i))
    (black : (j : Id) → IsTrue (is_black s.condemned k j) → IsTrue (is_black s.condemned k₀ j))
    (off : IsMarkCleared m.grey grey' (word_of at))
  where
    is_done : (j i : ℕ) (p : Object) (n : Word) → IsTrue (black_cells s.condemned (blackened k id) j i) → Lies s.objects addresses j i p n
        → IsTrue (done j i)
    is_done j i p n b l =
        elim (cases_eq j id) [
          | inl same ↦
              let is_o : p ≡ o = same_Some p o (sym l.object ∙ ap (slice_get s.objects) same ∙ object) in
              subst (λ x. done x i ≡ true) (sym same) (all i (subst (λ (q : Object). i < size_of q) is_o l.within))
          | inr x ↦
              more j i (black j (ap (λ g. not (is_white s.condemned k j) && not g) (sym (grey_without k.grey id j x)) ∙ b))
        ]

    marked_word : (n : Word) → IsTrue (m.kept n || grey' n) → BlockBegins addresses n
    marked_word n is =
        elim (cases_eq n (word_of at)) [
          | inl same ↦ record { id = id; at = at; address = there; is = same }
          | inr other ↦
              st.marks.marked n (elim (or_cases (m.kept n) (grey' n) is) [
                | inl e ↦ or_left (m.kept n) (m.grey n) e
                | inr e ↦ or_right (m.kept n) (m.grey n) (sym (off.others n other) ∙ e)
              ])
        ]

    pub scan_ends : Stands s (record m { grey = grey' }) addresses (blackened k id)
    scan_ends = record {
      placed = st.placed;
      words = st.words;
      fixed = record {
        cells = λ j i p n c b l cell.
            let f = st.fixed.cells j i p n c (is_done j i p n b l) l cell in record { holds = f.holds; not_white = f.not_white };
        reserved = λ point i r n c l cell.
            let f = st.fixed.reserved point i r n c l cell in record { holds = f.holds; not_white = f.not_white };
      };
      marks = record {
        white_there = st.marks.white_there;
        grey_there = λ j bt e. elim (cases_eq j id) [
          | inl same ↦
              let here : at ≡ bt = same_Some at bt (sym there ∙ subst (λ x. entry_at addresses x ≡ Some bt) same e) in
              subst (λ x. is_grey (blackened k id) x ≡ false) (sym same) (grey_gone k.grey id)
              ∙ sym (subst (λ x. grey' (word_of x) ≡ false) here off.clear)
          | inr n ↦
              grey_without k.grey id j n ∙ st.marks.grey_there j bt e
              ∙ sym (off.others (word_of bt) (begins_apart s addresses st.placed j id bt at e there n))
        ];
        marked = marked_word;
        unmoved = st.marks.unmoved;
      };
      runs = record { blocks = st.runs.blocks; reservations = st.runs.reservations; covered = st.runs.covered };
    }
