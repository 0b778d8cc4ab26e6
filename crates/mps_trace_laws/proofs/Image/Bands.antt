-- The image where no collection runs, at a flip, and once blocks are freed.
use Rattle.std.proofs.Common.{◌≡◌, ◌∙◌, ℕ, Bool, true, false, refl, sym, ap, List, [], length, Option, Some, slice_index, subst}
use Rattle.std.proofs.lemmas.Bool.{true≢false, and_from}
use Rattle.std.proofs.lemmas.Option.{none-some}
use Rattle.std.specs.Prelude.{slice_get, not, IsTrue}
use Rattle.mps_base.specs.Address.{Address, Id, Word, word_of}
use Rattle.mps_format.specs.Layout.{Layout}
use Rattle.mps_model.specs.Graph.{Cell, Object, Point, entry_at}
use Rattle.mps_model.specs.Checked.{head_of_body}
use Rattle.mps_model.specs.World.{PointMemory}
use Rattle.mps_abstract.specs.Colours.{Colours, is_white, is_grey}
use Rattle.mps_trace_laws.specs.Image.Memory.{Setting, Memory, Lies, all_cells}
use Rattle.mps_trace_laws.specs.Image.Image.{IsCellWord, IsFixedWord, CellSet, MarksStand, RunsStand, ImageStands, Stands, black_cells}
use Rattle.mps_trace_laws.specs.Image.Bands.{setting_flipped, setting_freeing}
use Rattle.mps_trace_laws.proofs.Image.Placed.{placed_otherwise}

-- ---- at rest, and at a flip

-- where no addresses of a flip count, the words hold addresses of now
pub holds_now : (s : Setting) (addresses : List (Option Address)) (head : ℕ) (c : Cell) (word : ℕ) → s.at_flip ≡ []
    → IsCellWord addresses s.at_flip head c word → IsCellWord addresses [] head c word
holds_now s addresses head c word none h = subst (λ old. IsCellWord addresses old head c word) none h

module _ (s : Setting) (m m' : Memory) (addresses : List (Option Address)) (k k' : Colours) (done : CellSet) (points : List (Option Point))
    (memories : List PointMemory) (condemned : List Id) (is_condemned_over : Word → Bool) (none : s.at_flip ≡ [])
    (all_read : (id : Id) → IsTrue (s.is_read id)) (same : m'.words ≡ m.words) where
  abbrev after : Setting
  after = setting_flipped s addresses points memories condemned is_condemned_over

-- ---- the last band

-- where words that are read hold addresses of now, those of the flip count no more; nor do the formats, as no block has moved
pub unmoved_stands : (s : Setting) (m : Memory) (addresses : List (Option Address)) (k : Colours) (done : CellSet)
    (layout : (pool : ℕ) → Layout) (is_read : Id → Bool) → ImageStands s m addresses k done
    → ((id i : ℕ) (o : Object) (n : Word) (c : Cell) → IsTrue (is_read id) → Lies s.objects addresses id i o n
    → slice_get (all_cells o.body) i ≡ Some c → IsCellWord addresses [] (head_of_body o.body) c (slice_index m.words n))
    → ((id : Id) → IsTrue (is_read id) → is_white s.condemned k id ≡ false)
    → ImageStands (record s { layout = layout; at_flip = []; is_read = is_read }) m addresses k done
unmoved_stands s m addresses k done layout is_read st holds none_white = record {
  placed =
      placed_otherwise s addresses st.placed layout [] s.condemned is_read s.is_condemned_over (λ id at e. absurd (none-some at e))
      st.placed.whole;
  words = record {
    long = st.words.long;
    cells = holds;
    forwarded = λ id from to o was now x object. absurd (none-some from was);
  };
  fixed = record { cells = st.fixed.cells; reserved = st.fixed.reserved };
  marks = record {
    white_there = st.marks.white_there;
    grey_there = st.marks.grey_there;
    marked = st.marks.marked;
    unmoved = λ id at e read white. absurd (true≢false (sym white ∙ none_white id read));
  };
  runs = record { blocks = st.runs.blocks; reservations = st.runs.reservations; covered = st.runs.covered };
}

-- once nothing is grey, addresses of the flip are used no more, and white objects aren't read any more
pub freeing_begins : (s : Setting) (m : Memory) (addresses : List (Option Address)) (k : Colours)
    → ((id : Id) (at : Address) → entry_at addresses id ≡ Some at → is_grey k id ≡ false) → Stands s m addresses k
    → Stands (setting_freeing s k) m addresses k
freeing_begins s m addresses k none_grey st =
    unmoved_stands s m addresses k (black_cells s.condemned k) s.layout (λ id. not (is_white s.condemned k id)) st
    (λ id i o n c read l cell.
    let black = and_from (not (is_white s.condemned k id)) (not (is_grey k id)) read (ap not (none_grey id l.at l.address)) in
    (st.fixed.cells id i o n c black l cell).holds)
    (λ id read. not_true (is_white s.condemned k id) read)
  where
    not_true : (b : Bool) → not b ≡ true → b ≡ false
    not_true false is = refl
    not_true true is = absurd (true≢false (sym is))

-- where a collection ends, no white object is live, so all words are read and hold addresses of now
pub collection_ends : (s : Setting) (m m' : Memory) (addresses : List (Option Address)) (k k' : Colours) (is_condemned_over : Word → Bool)
    → ((id : Id) (at : Address) → entry_at addresses id ≡ Some at → is_white s.condemned k id ≡ false)
    → ((id : Id) (at : Address) → entry_at addresses id ≡ Some at → is_grey k id ≡ false) → m'.words ≡ m.words
    → Stands s m addresses k
    → ((id i : ℕ) (o : Object) (n : Word) (at : Address) → Lies s.objects addresses id i o n → entry_at addresses id ≡ Some at
    → is_condemned_over n ≡ is_condemned_over (word_of at))
    → MarksStand (setting_flipped s [] s.points s.point_memories [] is_condemned_over) m'.kept m'.grey addresses k'
    → RunsStand (setting_flipped s [] s.points s.point_memories [] is_condemned_over) m' addresses
    → Stands (setting_flipped s [] s.points s.point_memories [] is_condemned_over) m' addresses k'
collection_ends s m m' addresses k k' is_condemned_over none_white none_grey same st whole marks runs = record {
  placed =
      placed_otherwise s addresses st.placed s.layout [] [] (λ id. true) is_condemned_over (λ id at e. absurd (none-some at e)) whole;
  words = record {
    long = ap length same ∙ st.words.long;
    cells = λ id i o n c read l cell. (fixed id i o n c l cell).holds;
    forwarded = λ id from to o was now x object. absurd (none-some from was);
  };
  fixed = record {
    cells = λ id i o n c d l cell. record { holds = (fixed id i o n c l cell).holds; not_white = λ t x. refl };
    reserved = λ point i r n c l cell.
        record {
          holds = subst (λ ws. IsCellWord addresses [] r.head c (slice_index ws n)) (sym same)
              (st.fixed.reserved point i r n c l cell).holds;
          not_white = λ t x. refl;
        };
  };
  marks = marks;
  runs = runs;
}
  where
    fixed : (id i : ℕ) (o : Object) (n : Word) (c : Cell) → Lies s.objects addresses id i o n → slice_get (all_cells o.body) i ≡ Some c
        → IsFixedWord s.condemned addresses k (head_of_body o.body) c (slice_index m'.words n)
    fixed id i o n c l cell =
        let black =
        and_from (not (is_white s.condemned k id)) (not (is_grey k id)) (ap not (none_white id l.at l.address))
        (ap not (none_grey id l.at l.address))
        in
        subst (λ ws. IsFixedWord s.condemned addresses k (head_of_body o.body) c (slice_index ws n)) (sym same)
        (st.fixed.cells id i o n c black l cell)
