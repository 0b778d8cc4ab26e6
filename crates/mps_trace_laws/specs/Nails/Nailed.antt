-- The blocks that words of areas nail at a flip, against the live objects in which those words lie.
use Rattle.std.specs.Prelude.{◌≡◌, ℕ, Bool, true, false, ◌&&◌, ◌||◌, ◌==◌, Option, Some, None, List, [], ◌∷◌, ◌++◌, map, slice_get, refl}
use Rattle.std.specs.List.{list_any}
use Rattle.mps_base.specs.Address.{Address, Id, Word, word_of, address_of_word}
use Rattle.mps_base.specs.Run.{Run, IsAscending}
use Rattle.mps_extents.specs.Table.{bit}
use Rattle.mps_extents.specs.Extents.{run_over}
use Rattle.mps_root.specs.declared.roots.Stored.{Stored}
use Rattle.mps_seg.specs.Segs.{SegsState}
use Rattle.mps_seg.specs.Table.{IsMarked}
use Rattle.mps_trace.specs.Flip.{moves_at}
use Rattle.mps_format.specs.declared.pool.Policy.{Policy}
use Rattle.mps_model.specs.Graph.{Object, contains, entry_at, size_of}
use Rattle.mps_model.specs.World.{is_word_in}
use Rattle.mps_abstract.specs.Colours.{Colours}
use Rattle.mps_trace_laws.specs.Image.Memory.{words_of_arena}

-- ---- one word

-- a word lies in the bytes of a live object
pub record LiesInBytes (objects : List Object) (addresses : List (Option Address)) (word : ℕ) (id : Id) (at : Address) : Type 0 where
  pub object : Object
  pub address : entry_at addresses id ≡ Some at
  pub there : slice_get objects id ≡ Some object
  pub inside : is_word_in true at (size_of object) word ≡ true

-- a block begins at a word, and is that of a live object in which a word of an area lies
pub record IsBlockWithWord (objects : List Object) (addresses : List (Option Address)) (word : ℕ) (n : Word) : Type 0 where
  pub id : Id
  pub at : Address
  pub lies : LiesInBytes objects addresses word id at
  pub begins : n ≡ word_of at

-- the block over a word is that of the live object in which the word lies, and there is none if it lies in none
pub record IsBlockOver (objects : List Object) (addresses : List (Option Address)) (blocks : List Run) (word : ℕ) : Type 0 where
  pub found : (id : Id) (at : Address) → LiesInBytes objects addresses word id at → run_over blocks (word_of word) ≡ Some (word_of at)
  pub only : (n : Word) → run_over blocks (word_of word) ≡ Some n → IsBlockWithWord objects addresses word n
  pub none : ((id : Id) (at : Address) → LiesInBytes objects addresses word id at → ⊥) → run_over blocks (word_of word) ≡ None

-- ---- marks

-- whether a word is where a run begins, if there is one
abbrev pub begins_at : Option Word → (n : Word) → Bool
begins_at None n = false
begins_at (Some from) n = from == n

-- whether the block over a word is of a pool whose blocks a collection moves
abbrev pub is_moving_word : {F : Type 0} → (formats : List (Option (Policy F))) → SegsState → Word → Bool
is_moving_word formats s n = moves_at formats s (address_of_word n)

-- whether a word of an area pins the block that begins at a word: it lies in its bytes, and is its address if the block doesn't move
abbrev pub pins_block : (blocks : List Run) → (moves_over : Word → Bool) → (n : Word) → Stored → Bool
pins_block blocks moves_over n w = begins_at (run_over blocks (word_of w.word)) n && (moves_over n || w.word == address_of_word n)

-- whether these words of areas nail the block that begins at a word
abbrev pub nails : (blocks : List Run) → (is_condemned_over moves_over : Word → Bool) → List Stored → (n : Word) → Bool
nails blocks is_condemned_over moves_over words n = is_condemned_over n && list_any (pins_block blocks moves_over n) words

-- exactly these blocks are kept, and exactly these are grey, by the words at which they begin
pub record AreMarkedAt (s : SegsState) (marked : Word → Bool) : Type 0 where
  pub kept : (n : Word) → bit s.marks.kept n ≡ marked n
  pub grey : (n : Word) → (bit s.marks.exact n || bit s.marks.weak n) ≡ marked n

-- the tables of segments have their sizes, and blocks lie in order in the arena
pub record AreTablesWhole (s : SegsState) : Type 0 where
  pub sizes : IsMarked s.grains s.marks s.condemned s.summaries
  pub order : IsAscending 0 (words_of_arena s.grains) s.blocks

-- the words of these areas, area by area
abbrev pub words_of_areas : List (Option (List Stored)) → List Stored
words_of_areas [] = []
words_of_areas (None ∷ areas) = words_of_areas areas
words_of_areas (Some words ∷ areas) = words ++ words_of_areas areas

-- nothing but marks has changed, and these are the marks now
pub record AreMarkedTo (s s' : SegsState) (marked' : Word → Bool) : Type 0 where
  pub same : s' ≡ record s { marks = s'.marks }
  pub whole : AreTablesWhole s'
  pub marks : AreMarkedAt s' marked'

-- ---- pinned objects

-- of the live objects exactly the condemned ones are pinned in which one of these words lies: by bytes in a pool that moves blocks, and
-- else at the object's own address
abbrev pub ArePinned : (objects : List Object) → (addresses : List (Option Address)) → (moves : ℕ → Bool) → (condemned pinned : List Id)
    → List Stored → Type 0
ArePinned objects addresses moves condemned pinned words =
    (id : Id) (at : Address) (o : Object) → entry_at addresses id ≡ Some at → slice_get objects id ≡ Some o
    → contains pinned id
    ≡ (contains condemned id && list_any (λ (w : Stored). is_word_in (moves o.pool) at (size_of o) w.word) words)

-- these numbers are exactly those of words of areas
abbrev pub AreWordsShown : List Stored → (shown : List ℕ) → Type 0
AreWordsShown words shown = (n : ℕ) → contains (map (λ (w : Stored). w.word) words) n ≡ contains shown n

-- what is pinned is kept, and is to be scanned
abbrev pub pinned_colours : (pinned : List Id) → Colours
pinned_colours pinned = record { kept = pinned; grey = pinned }

-- and so are these, which aren't condemned
abbrev pub colours_at_flip : (pinned remembered : List Id) → Colours
colours_at_flip pinned remembered = record { kept = pinned; grey = pinned ++ remembered }

-- ---- vectors: blocks of two words and of three

abbrev blocks : List Run
blocks = record { from = 512; count = 2 } ∷ record { from = 514; count = 3 } ∷ []

abbrev stored : ℕ → Stored
stored word = record { word = word; holds = false }

pub a_word_inside_nails : nails blocks (λ n. true) (λ n. true) (stored 0x1019 ∷ []) 514 ≡ true
a_word_inside_nails = refl

pub only_where_the_block_begins : nails blocks (λ n. true) (λ n. true) (stored 0x1019 ∷ []) 515 ≡ false
only_where_the_block_begins = refl

pub only_what_is_condemned : nails blocks (λ n. false) (λ n. true) (stored 0x1019 ∷ []) 514 ≡ false
only_what_is_condemned = refl

pub a_word_after_nails_nothing : nails blocks (λ n. true) (λ n. true) (stored 0x1028 ∷ []) 514 ≡ false
a_word_after_nails_nothing = refl

pub in_a_block_that_stays_it_nails_nothing : nails blocks (λ n. true) (λ n. false) (stored 0x1018 ∷ stored 0x1011 ∷ []) 514 ≡ false
in_a_block_that_stays_it_nails_nothing = refl

pub but_its_address_does : nails blocks (λ n. true) (λ n. false) (stored 0x1010 ∷ []) 514 ≡ true
but_its_address_does = refl
