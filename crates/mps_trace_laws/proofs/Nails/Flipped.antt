-- The image right after a flip, once words of areas have nailed blocks.
use Rattle.std.proofs.Common.{◌≡◌, ◌∙◌, ℕ, Bool, true, false, List, [], ◌∷◌, ◌++◌, Option, Some, length, slice_index, refl, sym, ap, subst}
use Rattle.std.proofs.lemmas.Bool.{false≢true, and_left}
use Rattle.std.proofs.lemmas.Option.{same_Some}
use Rattle.std.specs.Prelude.{◌&&◌, ◌||◌, ◌==◌, not, slice_get}
use Rattle.mps_base.specs.Address.{Address, Id, Word, word_of}
use Rattle.mps_root.specs.declared.roots.Stored.{Stored}
use Rattle.mps_seg.specs.Segs.{SegsState}
use Rattle.mps_trace.specs.Begin.{nailed_by_areas}
use Rattle.mps_trace.specs.Flip.{moves_blocks}
use Rattle.mps_format.specs.declared.pool.Policy.{Policy}
use Rattle.mps_model.specs.Checked.{head_of_body}
use Rattle.mps_model.specs.Graph.{Cell, Object, Point, contains}
use Rattle.mps_model.specs.World.{PointMemory}
use Rattle.mps_abstract.specs.Colours.{Colours}
use Rattle.mps_trace_laws.specs.Image.Image.{CellSet, ImageStands, IsCellWord, MarksStand, black_cells, no_colours}
use Rattle.mps_trace_laws.specs.Image.Memory.{Setting, Memory, Lies, all_cells, is_condemned_word, memory_in}
use Rattle.mps_trace_laws.proofs.Image.Bands.{holds_now}
use Rattle.mps_trace_laws.proofs.Image.Placed.{placed_otherwise, placed_unreserved, setting_otherwise}
use Rattle.mps_trace_laws.proofs.Image.Written.{holds_still}
use Rattle.mps_trace_laws.specs.Nails.Flipped.{IsFlipped, setting_flipped_in}
use Rattle.mps_trace_laws.specs.Nails.Nailed.{ArePinned, colours_at_flip, pinned_colours, words_of_areas}
use Rattle.mps_trace_laws.proofs.Nails.Pinned.{pinned_image}

either_false : (a b : Bool) → a ≡ false → b ≡ false → (a || b) ≡ true → ⊥
either_false true b ea eb is = absurd cc
either_false false true ea eb is = absurd cc
either_false false false ea eb is = false≢true is

neither_of : (c r : Bool) → (not (c && true) && not r) ≡ true → (c ≡ false) × (r ≡ false)
neither_of true r black = absurd cc
neither_of false true black = absurd cc
neither_of false false black = (refl, refl)

-- what is black once objects are pinned was neither condemned nor remembered
black_before : (c p r : Bool) → (not (c && not p) && not (p || r)) ≡ true → (not (c && true) && not r) ≡ true
black_before true true r black = absurd cc
black_before true false r black = absurd cc
black_before false true r black = absurd cc
black_before false false true black = absurd cc
black_before false false false black = refl

-- what two lists contain together
pub contains_both : (xs ys : List Id) (id : Id) → contains (xs ++ ys) id ≡ (contains xs id || contains ys id)
contains_both [] ys id = refl
contains_both (x ∷ xs) ys id =
    ap (λ (b : Bool). x == id || b) (contains_both xs ys id) ∙ again (x == id) (contains xs id) (contains ys id)
  where
    again : (a b c : Bool) → (a || (b || c)) ≡ ((a || b) || c)
    again true b c = refl
    again false b c = refl

module _ (s : Setting) (m : Memory) (g : SegsState) (addresses : List (Option Address)) (k : Colours) (done : CellSet)
    (points : List (Option Point)) (memories : List PointMemory) (condemned remembered : List Id) (st : ImageStands s m addresses k done)
    (f : IsFlipped s m g addresses points memories condemned remembered) where
  abbrev after : Setting
  after = setting_flipped_in s g addresses points memories condemned

  no_marks : MarksStand after (memory_in g).kept (memory_in g).grey addresses no_colours
  no_marks = record {
    white_there = λ id at there.
        ap (λ (b : Bool). b && true) (f.condemned_there id at there)
        ∙ sym (ap (λ (b : Bool). is_condemned_word g (word_of at) && not b) (f.unmarked.kept (word_of at)));
    grey_there = λ id at there. sym (f.unmarked.grey (word_of at));
    marked = λ n is.
        absurd (either_false ((memory_in g).kept n) ((memory_in g).grey n) (f.unmarked.kept n) (f.unmarked.grey n) is);
    unmoved = λ id at there read white. there;
  }

  -- the words are as they were, and hold addresses of now
  cell_word : (id i : ℕ) (o : Object) (n : Word) (c : Cell) → Lies s.objects addresses id i o n → slice_get (all_cells o.body) i ≡ Some c
      → IsCellWord addresses [] (head_of_body o.body) c (slice_index g.words n)
  cell_word id i o n c l cell =
      subst (λ ws. IsCellWord addresses [] (head_of_body o.body) c (slice_index ws n)) (sym f.words)
      (holds_now s addresses (head_of_body o.body) c (slice_index m.words n) f.at_rest (st.words.cells id i o n c (f.all_read id) l cell))

  -- the cells of what is neither condemned nor remembered
  abbrev neither : CellSet
  neither = black_cells condemned (colours_at_flip [] remembered)

  -- no more is asked than of live objects: those that are gone may refer to what is condemned
  unmarked_image : ImageStands after (memory_in g) addresses no_colours neither
  unmarked_image = record {
    placed = placed_unreserved (setting_otherwise s s.layout addresses condemned (λ id. true) (is_condemned_word g)) addresses
        (placed_otherwise s addresses st.placed s.layout addresses condemned (λ id. true) (is_condemned_word g) st.placed.address f.over)
        points memories f.doomed;
    words = record {
      long = ap length f.words ∙ st.words.long;
      cells = λ id i o n c read l cell.
          holds_still addresses addresses (head_of_body o.body) c (slice_index g.words n) (cell_word id i o n c l cell);
      forwarded = λ id from to o was now x object. absurd (x (same_Some from to (sym was ∙ now)));
    };
    fixed = record {
      cells = λ id i o n c black l cell.
          record {
            holds = cell_word id i o n c l cell;
            not_white = λ target e.
                and_left (contains condemned target) true
                (let parts = neither_of (contains condemned id) (contains remembered id) black in
                f.outside id i o n c target parts.0 parts.1 l cell e);
          };
      reserved = λ point i r n c l cell. absurd (f.doomed point r l.reserved);
    };
    marks = no_marks;
    runs = f.runs;
  }

  -- the cells of what is black once objects are pinned
  abbrev pub black_at_flip : (pinned : List Id) → CellSet
  black_at_flip pinned = black_cells condemned (colours_at_flip pinned remembered)

  fewer : (pinned : List Id) (id i : ℕ) → black_at_flip pinned id i ≡ true → neither id i ≡ true
  fewer pinned id i black =
      black_before (contains condemned id) (contains pinned id) (contains remembered id)
      (ap (λ (b : Bool). not (contains condemned id && not (contains pinned id)) && not b)
      (sym (contains_both pinned remembered id)) ∙ black)

  pub flip_pins : {F : Type 0} (formats : List (Option (Policy F))) (areas : List (Option (List Stored))) (pinned : List Id)
      → ArePinned s.objects addresses (moves_blocks formats) condemned pinned (words_of_areas areas)
      → ImageStands after (memory_in (nailed_by_areas formats areas g)) addresses (pinned_colours pinned) (black_at_flip pinned)
  flip_pins formats areas pinned pins =
      pinned_image formats after g addresses areas pinned neither (black_at_flip pinned) (fewer pinned) unmarked_image f.tables
      f.unmarked (λ n. refl) f.pools pins
