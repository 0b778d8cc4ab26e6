-- The first class that passes a test, by its index.
use Rattle.std.proofs.Common.{ℕ, zero, suc, ◌+◌, ◌<◌, ◌≡◌, Bool, true, false, List, [], ◌∷◌, ◌++◌, length, get_or, set, cond, refl, sym, ap, ◌∙◌, subst, arith}
use Rattle.std.specs.Prelude.{Option, Some, None, if◌then◌else◌}
use Rattle.std.specs.List.{position, position_from}
use Rattle.std.proofs.lemmas.Bool.{false≢true}
use Rattle.std.proofs.lemmas.Iterator.Adapters.{position_from-zero}
use Rattle.std.proofs.lemmas.List.Quantifiers.{position-Some}
use Rattle.std.proofs.lemmas.List.{length-set, set-get_or}
use Rattle.std.specs.List.{refill}
use Rattle.arrayvec.proofs.ArrayVecLemmas.{items-with_items}
use Rattle.mps_sac.specs.State.{ClassState, CacheState, class_keeps, blocks_where, with_blocks_where, keeps_where, last_of, without_last}

-- the class at an index is the first that passes a test
pub record IsFirst (test : ClassState → Bool) (classes : List ClassState) (index : ℕ) (class : ClassState) : Type 0 where
  pub within : index < length classes
  pub blocks : blocks_where test classes ≡ class.blocks
  pub with_blocks : (blocks : List ℕ) → with_blocks_where test classes blocks ≡ set classes index (record class { blocks = blocks })
  pub keeps : keeps_where test classes ≡ class_keeps class

-- no class passes a test
pub record AreNone (test : ClassState → Bool) (classes : List ClassState) : Type 0 where
  pub blocks : blocks_where test classes ≡ []
  pub with_blocks : (blocks : List ℕ) → with_blocks_where test classes blocks ≡ classes
  pub keeps : keeps_where test classes ≡ false

-- a cache of these parts
abbrev pub the_cache : ℕ → List ClassState → CacheState
the_cache pool classes = record { pool = pool; classes = classes }

chosen : {A : Type 0} (b : Bool) (x y : A) → b ≡ true → (if b then x else y) ≡ x
chosen true x y is = refl
chosen false x y is = absurd (false≢true is)

pub left_out : {A : Type 0} (b : Bool) (x y : A) → b ≡ false → (if b then x else y) ≡ y
left_out false x y is = refl
left_out true x y is = absurd (false≢true (sym is))

module _ (test : ClassState → Bool) where
  first_at : (cs : List ClassState) (i : ℕ) (d : ClassState) → i < length cs → test (get_or cs i d) ≡ true
      → ((k : ℕ) → k < i → test (get_or cs k d) ≡ false)
      → IsFirst test cs i (get_or cs i d)
  first_at [] i d within is before = absurd (omega (arith, within))
  first_at (c ∷ cs) zero d within is before = record {
    within = within;
    blocks = chosen (test c) c.blocks (blocks_where test cs) is;
    with_blocks = λ blocks. chosen (test c) (record c { blocks = blocks } ∷ cs) (c ∷ with_blocks_where test cs blocks) is;
    keeps = chosen (test c) (class_keeps c) (keeps_where test cs) is;
  }
  first_at (c ∷ cs) (suc i) d within is before =
      let not_this : test c ≡ false = before 0 (omega arith) in
      let rest = first_at cs i d (omega (arith, within)) is (λ k below. before (suc k) (omega (arith, below))) in
      record {
        within = within;
        blocks = left_out (test c) c.blocks (blocks_where test cs) not_this ∙ rest.blocks;
        with_blocks = λ blocks.
            left_out (test c) (record c { blocks = blocks } ∷ cs) (c ∷ with_blocks_where test cs blocks) not_this
            ∙ ap (λ (xs : List ClassState). c ∷ xs) (rest.with_blocks blocks);
        keeps = left_out (test c) (class_keeps c) (keeps_where test cs) not_this ∙ rest.keeps;
      }

  pub is_first : (cs : List ClassState) (i : ℕ) (class : ClassState) → position test cs ≡ Some i → class ≡ get_or cs i class
      → IsFirst test cs i class
  is_first cs i class found there =
      let at = position-Some test cs i class found in
      let P : ClassState → Type 0 = λ c. IsFirst test cs i c in
      subst P (sym there) (first_at cs i class at.0 at.1 at.2)

  none_here : (c : ClassState) (cs : List ClassState) → test c ≡ false → AreNone test cs → AreNone test (c ∷ cs)
  none_here c cs is rest = record {
    blocks = left_out (test c) c.blocks (blocks_where test cs) is ∙ rest.blocks;
    with_blocks = λ blocks.
        left_out (test c) (record c { blocks = blocks } ∷ cs) (c ∷ with_blocks_where test cs blocks) is
        ∙ ap (λ (xs : List ClassState). c ∷ xs) (rest.with_blocks blocks);
    keeps = left_out (test c) (class_keeps c) (keeps_where test cs) is ∙ rest.keeps;
  }

  -- a search that ends without an index went past each class
  passed : (b : Bool) (from : ℕ) (rest : Option ℕ) → cond b (Some from) rest ≡ None → (b ≡ false) × (rest ≡ None)
  passed true from rest none = cc
  passed false from rest none = (refl, none)

  none_from : (cs : List ClassState) (from : ℕ) → position_from test from cs ≡ None → AreNone test cs
  none_from [] from none = record { blocks = refl; with_blocks = λ blocks. refl; keeps = refl }
  none_from (c ∷ cs) from none =
      let here = passed (test c) from (position_from test (from + 1) cs) none in
      none_here c cs here.0 (none_from cs (from + 1) here.1)

  pub are_none : (cs : List ClassState) → position test cs ≡ None → AreNone test cs
  are_none cs none = none_from cs 0 (sym (position_from-zero test cs) ∙ none)

  -- where no class passes, there is nothing to take, and nothing changes
  pub nothing_taken : (cs : List ClassState) → AreNone test cs → last_of (blocks_where test cs) ≡ None
  nothing_taken cs none = ap (λ (blocks : List ℕ). last_of blocks) none.blocks

  -- the class at the index is written
  pub class_written : (cs ds : List ClassState) (i : ℕ) (class new : ClassState) (blocks : List ℕ) → ds ≡ cs
      → IsFirst test cs i class → new ≡ record class { blocks = blocks }
      → refill (length cs) cs (set ds i new) ≡ with_blocks_where test cs blocks
  class_written cs ds i class new blocks same first is =
      items-with_items (record { items = cs }) (set ds i new) (length-set ds i new ∙ ap length same)
      ∙ ap (λ (xs : List ClassState). set xs i new) same
      ∙ ap (λ (c : ClassState). set cs i c) is ∙ sym (first.with_blocks blocks)

  -- its last block is taken
  pub last_taken : (cs ds : List ClassState) (i : ℕ) (class new : ClassState) → ds ≡ cs
      → IsFirst test cs i class → new ≡ record class { blocks = without_last class.blocks }
      → refill (length cs) cs (set ds i new) ≡ with_blocks_where test cs (without_last (blocks_where test cs))
  last_taken cs ds i class new same first is =
      class_written cs ds i class new (without_last class.blocks) same first is
      ∙ ap (λ (blocks : List ℕ). with_blocks_where test cs (without_last blocks)) (sym first.blocks)

  -- a block is kept in it, where it has room
  pub kept_last : (pool : ℕ) (cs ds : List ClassState) (i at : ℕ) (class new : ClassState) → ds ≡ cs → class ≡ get_or cs i class
      → IsFirst test cs i class → new ≡ (if class_keeps class then record class { blocks = class.blocks ++ at ∷ [] } else class)
      → the_cache pool (refill (length cs) cs (set ds i new))
      ≡ (if keeps_where test cs then the_cache pool (with_blocks_where test cs (blocks_where test cs ++ at ∷ [])) else the_cache pool cs)
  kept_last pool cs ds i at class new same there first is =
      ap (λ (xs : List ClassState). the_cache pool xs)
      (items-with_items (record { items = cs }) (set ds i new) (length-set ds i new ∙ ap length same)
      ∙ ap (λ (xs : List ClassState). set xs i new) same ∙ ap (λ (c : ClassState). set cs i c) is)
      ∙ by_room (class_keeps class)
      ∙ ap (λ (b : Bool).
      if b then the_cache pool (with_blocks_where test cs (blocks_where test cs ++ at ∷ [])) else the_cache pool cs) (sym first.keeps)
    where
      by_room : (b : Bool)
          → the_cache pool (set cs i (if b then record class { blocks = class.blocks ++ at ∷ [] } else class))
          ≡ (if b then the_cache pool (with_blocks_where test cs (blocks_where test cs ++ at ∷ [])) else the_cache pool cs)
      by_room true =
          ap (λ (xs : List ClassState). the_cache pool xs) (sym (first.with_blocks (class.blocks ++ at ∷ []))
          ∙ ap (λ (blocks : List ℕ). with_blocks_where test cs (blocks ++ at ∷ [])) (sym first.blocks))
      by_room false =
          ap (λ (xs : List ClassState). the_cache pool xs) (ap (λ (c : ClassState). set cs i c) there ∙ set-get_or cs i class)
