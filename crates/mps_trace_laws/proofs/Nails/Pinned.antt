-- The marks that words of areas set, against the objects that are pinned.
use Rattle.std.proofs.Common.{◌≡◌, ◌∙◌, ℕ, ◌+◌, ◌*◌, Bool, true, false, List, [], ◌∷◌, Option, Some, None, refl, sym, ap, subst, inl, inr, arith}
use Rattle.std.proofs.lemmas.Bool.{cases_Bool, cases_eq, eq-eqb, eqb-true, ne_eqb, le-leb, lt-ltb, and_parts, and_from, both_ways, false_from_ne_true, false≢true, or_cases}
use Rattle.std.proofs.lemmas.Option.{same_Some}
use Rattle.std.specs.Prelude.{◌&&◌, ◌||◌, ◌==◌, not, nat_le, nat_lt, slice_get}
use Rattle.std.specs.Option.{option_map_or}
use Rattle.std.specs.List.{list_any}
use Rattle.mps_base.specs.Address.{Address, Id, Word, word_of, address_of_word}
use Rattle.mps_base.specs.Run.{Run}
use Rattle.mps_extents.specs.Extents.{run_over}
use Rattle.mps_root.specs.declared.roots.Stored.{Stored}
use Rattle.mps_seg.specs.Segs.{SegsState}
use Rattle.mps_trace.specs.Begin.{nailed_by_areas}
use Rattle.mps_trace.specs.Flip.{moves_blocks}
use Rattle.mps_format.specs.declared.pool.Policy.{Policy}
use Rattle.mps_model.specs.Graph.{Object, contains, entry_at, size_of}
use Rattle.mps_model.specs.World.{is_word_in}
use Rattle.mps_abstract.specs.Colours.{Colours, is_white}
use Rattle.mps_trace_laws.specs.Image.Memory.{Setting, Memory, BlockBegins, memory_in, is_condemned_word, pool_over_word}
use Rattle.mps_trace_laws.specs.Image.Image.{CellSet, LieApart, WordsStand, FixedCellsStand, ImageStands, MarksStand, RunsStand, no_colours}
use Rattle.mps_trace_laws.proofs.Image.Marked.{begins_apart, begins_there}
use Rattle.mps_trace_laws.specs.Nails.Nailed.{IsBlockWithWord, AreTablesWhole, AreMarkedAt, ArePinned, begins_at, is_moving_word, pins_block, nails, pinned_colours, words_of_areas}
use Rattle.mps_trace_laws.proofs.Nails.OneWord.{block_over}
use Rattle.mps_trace_laws.proofs.Nails.Marks.{areas_marked}

-- ---- lists of words

any_alike : (p q : Stored → Bool) (ws : List Stored) → ((w : Stored) → p w ≡ q w) → list_any p ws ≡ list_any q ws
any_alike p q [] same = refl
any_alike p q (w ∷ ws) same =
    ap (λ (b : Bool). b || list_any p ws) (same w) ∙ ap (λ (b : Bool). q w || b) (any_alike p q ws same)

any_one : (p : Stored → Bool) (ws : List Stored) → list_any p ws ≡ true → (w : Stored) × (p w ≡ true)
any_one p [] is = absurd (false≢true is)
any_one p (w ∷ ws) is =
    elim (or_cases (p w) (list_any p ws) is) [
      | inl here ↦ (w, here)
      | inr later ↦ any_one p ws later
    ]

begins_some : (o : Option Word) (n : Word) → begins_at o n ≡ true → o ≡ Some n
begins_some None n is = absurd (false≢true is)
begins_some (Some m) n is = ap (λ (i : ℕ). Some i) (eqb-true m n is)

-- ---- booleans

without_true : (x y : Bool) → (x && true) ≡ (y && true) → x ≡ y
without_true true true e = refl
without_true true false e = absurd cc
without_true false true e = absurd cc
without_true false false e = refl

with_true : (x : Bool) → x ≡ true → (x && true) ≡ true
with_true x is = and_from x true is refl

where_true : (a b : Bool) → b ≡ true → a ≡ (a && b)
where_true true b is = sym is
where_true false b is = refl

none_passes : (x : Bool) → (x && false) ≡ false
none_passes true = refl
none_passes false = refl

module _ (s : Setting) (m : Memory) (addresses : List (Option Address)) (moves : ℕ → Bool) (words : List Stored) (pinned : List Id)
    (placed : LieApart s addresses) (runs : RunsStand s m addresses) (clear : (n : Word) → m.kept n ≡ false)
    (before : MarksStand s m.kept m.grey addresses no_colours)
    (pins : ArePinned s.objects addresses moves s.condemned pinned words) where
  abbrev after : Colours
  after = pinned_colours pinned

  -- whether the blocks of the pool over a word move
  abbrev moves_over : Word → Bool
  moves_over n = option_map_or moves (s.pool_over n) false

  -- ---- one object

  module _ (id : Id) (at : Address) (o : Object) (there : entry_at addresses id ≡ Some at) (object : slice_get s.objects id ≡ Some o)
    where
      same_object : (word : ℕ) (n : Word) → n ≡ word_of at → IsBlockWithWord s.objects addresses word n
          → is_word_in true at (size_of o) word ≡ true
      same_object word n e b =
          elim (cases_eq b.id id) [
            | inl same ↦
                let at_same : b.at ≡ at = same_Some b.at at (sym b.lies.address ∙ ap (entry_at addresses) same ∙ there) in
                let o_same : b.lies.object ≡ o = same_Some b.lies.object o (sym b.lies.there ∙ ap (slice_get s.objects) same ∙ object) in
                subst (λ (x : Address). is_word_in true x (size_of o) word ≡ true) at_same
                (subst (λ (x : Object). is_word_in true b.at (size_of x) word ≡ true) o_same b.lies.inside)
            | inr other ↦ absurd (begins_apart s addresses placed b.id id b.at at b.lies.address there other (sym b.begins ∙ e))
          ]

      -- a word lies in the bytes of the object if the block over it begins at the object
      abbrev begins : Stored → Bool
      begins w = begins_at (run_over m.blocks (word_of w.word)) (word_of at)

      begins_where_inside : (w : Stored) → is_word_in true at (size_of o) w.word ≡ true → begins w ≡ true
      begins_where_inside w inside =
          let found = (block_over s m addresses w.word placed runs).found id at
          (record { object = o; address = there; there = object; inside = inside }) in
          ap (λ (x : Option Word). begins_at x (word_of at)) found ∙ eq-eqb (word_of at) (word_of at) refl

      inside_alike : (w : Stored) → is_word_in true at (size_of o) w.word ≡ begins w
      inside_alike w =
          elim (cases_Bool (is_word_in true at (size_of o) w.word)) [
            | inl inside ↦ inside ∙ sym (begins_where_inside w inside)
            | inr outside ↦
                outside ∙ sym (false_from_ne_true (begins w) (λ is.
                both_ways (is_word_in true at (size_of o) w.word) outside
                (same_object w.word (word_of at) refl
                ((block_over s m addresses w.word placed runs).only (word_of at)
                (begins_some (run_over m.blocks (word_of w.word)) (word_of at) is)))))
          ]

      its_address : address_of_word (word_of at) ≡ at
      its_address = let aligned = (placed.address id at there).aligned in omega (arith, aligned)

      -- the address of a block lies in its bytes
      address_inside : (word : ℕ) → word ≡ at → is_word_in true at (size_of o) word ≡ true
      address_inside word e =
          let some = placed.positive id at o there object in
          and_from (nat_le at word) (nat_lt word (at + 8 * size_of o)) (le-leb at word (omega (arith, e)))
          (lt-ltb word (at + 8 * size_of o) (omega (arith, e, some)))

      -- the pool over its first word is its own
      pool_there : moves_over (word_of at) ≡ moves o.pool
      pool_there =
          ap (λ (p : Option ℕ). option_map_or moves p false)
          (placed.home id 0 o (word_of at) (begins_there s addresses placed id at o there object))

      -- a word pins the object, by the kind of its pool, exactly if it pins its block
      abbrev pins_with : Bool → Stored → Bool
      pins_with kind w = begins w && (kind || w.word == address_of_word (word_of at))

      exactly_there : (w : Stored) → (w.word == at) ≡ (begins w && w.word == at)
      exactly_there w =
          elim (cases_eq w.word at) [
            | inl here ↦ sym (ap (λ (b : Bool). b && w.word == at) (begins_where_inside w (address_inside w.word here)))
            | inr other ↦
                let never = ne_eqb w.word at other in
                never ∙ sym (ap (λ (b : Bool). begins w && b) never ∙ none_passes (begins w))
          ]

      by_kind : (kind : Bool) (w : Stored) → is_word_in kind at (size_of o) w.word ≡ pins_with kind w
      by_kind true w = inside_alike w ∙ where_true (begins w) true refl
      by_kind false w = exactly_there w ∙ sym (ap (λ (a : Address). begins w && w.word == a) its_address)

      over_alike : (w : Stored) → is_word_in (moves o.pool) at (size_of o) w.word ≡ pins_block m.blocks moves_over (word_of at) w
      over_alike w = by_kind (moves o.pool) w ∙ sym (ap (λ (b : Bool). pins_with b w) pool_there)

      condemned_alike : contains s.condemned id ≡ s.is_condemned_over (word_of at)
      condemned_alike =
          without_true (contains s.condemned id) (s.is_condemned_over (word_of at))
          (before.white_there id at there ∙ ap (λ (b : Bool). s.is_condemned_over (word_of at) && not b) (clear (word_of at)))

      pinned_alike : contains pinned id ≡ nails m.blocks s.is_condemned_over moves_over words (word_of at)
      pinned_alike =
          let inside : Stored → Bool = λ w. is_word_in (moves o.pool) at (size_of o) w.word in
          pins id at o there object ∙ ap (λ (b : Bool). b && list_any inside words) condemned_alike
          ∙ ap (λ (b : Bool). s.is_condemned_over (word_of at) && b)
          (any_alike inside (pins_block m.blocks moves_over (word_of at)) words over_alike)

  pinned_at : (id : Id) (at : Address) → entry_at addresses id ≡ Some at
      → contains pinned id ≡ nails m.blocks s.is_condemned_over moves_over words (word_of at)
  pinned_at id at there = let o = placed.exists id at there in pinned_alike id at o.0 there o.1

  condemned_at : (id : Id) (at : Address) → entry_at addresses id ≡ Some at → contains s.condemned id ≡ s.is_condemned_over (word_of at)
  condemned_at id at there = let o = placed.exists id at there in condemned_alike id at o.0 there o.1

  -- what was white with no colours
  condemned_white : (id : Id) → contains s.condemned id ≡ true → is_white s.condemned no_colours id ≡ true
  condemned_white id is = with_true (contains s.condemned id) is

  -- ---- the marks

  block_begins : (n : Word) → nails m.blocks s.is_condemned_over moves_over words n ≡ true → BlockBegins addresses n
  block_begins n is =
      let parts = and_parts (s.is_condemned_over n) (list_any (pins_block m.blocks moves_over n) words) is in
      let one = any_one (pins_block m.blocks moves_over n) words parts.1 in
      let found = run_over m.blocks (word_of one.0.word) in
      let over = block_over s m addresses one.0.word placed runs in
      let begins = (and_parts (begins_at found n) (moves_over n || one.0.word == address_of_word n) one.1).0 in
      let b = over.only n (begins_some found n begins) in
      record { id = b.id; at = b.at; address = b.lies.address; is = b.begins }

  pub pinned_marks : (kept' grey' : Word → Bool) → ((n : Word) → kept' n ≡ nails m.blocks s.is_condemned_over moves_over words n)
      → ((n : Word) → grey' n ≡ nails m.blocks s.is_condemned_over moves_over words n) → MarksStand s kept' grey' addresses after
  pinned_marks kept' grey' keeps greys = record {
    white_there = λ id at there.
        ap (λ (b : Bool). b && not (contains pinned id)) (condemned_at id at there)
        ∙ ap (λ (b : Bool). s.is_condemned_over (word_of at) && not b) (pinned_at id at there ∙ sym (keeps (word_of at)));
    grey_there = λ id at there. pinned_at id at there ∙ sym (greys (word_of at));
    marked = λ n is. elim (or_cases (kept' n) (grey' n) is) [
      | inl kept ↦ block_begins n (sym (keeps n) ∙ kept)
      | inr grey ↦ block_begins n (sym (greys n) ∙ grey)
    ];
    unmoved = λ id at there read white.
        before.unmoved id at there read
        (condemned_white id (and_parts (contains s.condemned id) (not (contains pinned id)) white).0);
  }

-- ---- the cells of black objects

module _ (condemned pinned : List Id) where
  -- what isn't condemned isn't white
  still_not_white : (id : Id) → is_white condemned no_colours id ≡ false → is_white condemned (pinned_colours pinned) id ≡ false
  still_not_white id h =
      false_from_ne_true (is_white condemned (pinned_colours pinned) id) (λ white.
      both_ways (is_white condemned no_colours id) h
      (with_true (contains condemned id) (and_parts (contains condemned id) (not (contains pinned id)) white).0))

fixed_still : (s : Setting) (words : List ℕ) (addresses : List (Option Address)) (pinned : List Id) (done done' : CellSet)
    → ((id i : ℕ) → done' id i ≡ true → done id i ≡ true) → FixedCellsStand s words addresses no_colours done
    → FixedCellsStand s words addresses (pinned_colours pinned) done'
fixed_still s words addresses pinned done done' fewer fixed = record {
  cells = λ id i o n c is lies cell.
      let f = fixed.cells id i o n c (fewer id i is) lies cell in
      record { holds = f.holds; not_white = λ t e. still_not_white s.condemned pinned t (f.not_white t e) };
  reserved = λ point i r n c lies cell.
      let f = fixed.reserved point i r n c lies cell in
      record { holds = f.holds; not_white = λ t e. still_not_white s.condemned pinned t (f.not_white t e) };
}

-- ---- the image

nails_alike : (blocks : List Run) (c d e f : Word → Bool) (words : List Stored) (n : Word) → c n ≡ d n → e n ≡ f n
    → (nails blocks d f words n || false) ≡ nails blocks c e words n
nails_alike blocks c d e f words n same moving =
    without_false (nails blocks d f words n) ∙ ap (λ (b : Bool). b && list_any (pins_block blocks f n) words) (sym same)
    ∙ ap (λ (b : Bool). c n && list_any (λ (w : Stored).
    begins_at (run_over blocks (word_of w.word)) n && (b || w.word == address_of_word n)) words) (sym moving)
  where
    without_false : (x : Bool) → (x || false) ≡ x
    without_false true = refl
    without_false false = refl

pub pinned_image : {F : Type 0} (formats : List (Option (Policy F))) (s : Setting) (g : SegsState) (addresses : List (Option Address))
    (areas : List (Option (List Stored))) (pinned : List Id) (done done' : CellSet)
    → ((id i : ℕ) → done' id i ≡ true → done id i ≡ true) → ImageStands s (memory_in g) addresses no_colours done → AreTablesWhole g
    → AreMarkedAt g (λ n. false) → ((n : Word) → s.is_condemned_over n ≡ is_condemned_word g n)
    → ((n : Word) → s.pool_over n ≡ pool_over_word g n)
    → ArePinned s.objects addresses (moves_blocks formats) s.condemned pinned (words_of_areas areas)
    → ImageStands s (memory_in (nailed_by_areas formats areas g)) addresses (pinned_colours pinned) done'
pinned_image formats s g addresses areas pinned done done' fewer st whole none same pools pins =
    let g' = nailed_by_areas formats areas g in
    let words = words_of_areas areas in
    let moves = moves_blocks formats in
    let moves_over : Word → Bool = λ n. option_map_or moves (s.pool_over n) false in
    let now = areas_marked formats g areas (λ n. false) whole none in
    let alike = λ (n : Word).
    nails_alike g.blocks s.is_condemned_over (is_condemned_word g) moves_over (is_moving_word formats g) words n (same n)
    (ap (λ (p : Option ℕ). option_map_or moves p false) (pools n)) in
    let marks : MarksStand s (memory_in g').kept (memory_in g').grey addresses (pinned_colours pinned) =
    pinned_marks s (memory_in g) addresses moves words pinned st.placed st.runs none.kept st.marks pins (memory_in g').kept
    (memory_in g').grey (λ n. now.marks.kept n ∙ alike n) (λ n. now.marks.grey n ∙ alike n)
    in
    rebuilt g' now.same marks
  where
    rebuilt : (x : SegsState) → x ≡ record g { marks = x.marks }
        → MarksStand s (memory_in x).kept (memory_in x).grey addresses (pinned_colours pinned)
        → ImageStands s (memory_in x) addresses (pinned_colours pinned) done'
    rebuilt x e ms = let k = pinned_colours pinned in record {
      placed = st.placed;
      words = subst (λ (ws : List ℕ). WordsStand s ws addresses) (sym (ap (λ (y : SegsState). y.words) e)) st.words;
      fixed = subst (λ (ws : List ℕ). FixedCellsStand s ws addresses k done')
          (sym (ap (λ (y : SegsState). y.words) e)) (fixed_still s g.words addresses pinned done done' fewer st.fixed);
      marks = ms;
      runs = record {
        blocks = ap (λ (y : SegsState). y.blocks) e ∙ st.runs.blocks;
        reservations = ap (λ (y : SegsState). y.reservations) e ∙ st.runs.reservations;
        covered = ap (λ (y : SegsState). y.covered) e ∙ st.runs.covered;
      };
    }
