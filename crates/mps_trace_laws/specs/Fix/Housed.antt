-- In which segments objects lie: each in one of its rank.
use Rattle.std.proofs.Common.{◌∙◌, ap, arith}
use Rattle.std.specs.Prelude.{◌≡◌, ℕ, zero, suc, ◌+◌, ◌≤◌, true, false, if◌then◌else◌, Option, Some, List, [], ◌∷◌, slice_get, Contains, refl}
use Rattle.mps_base.specs.Address.{Address, Id, word_of}
use Rattle.mps_base.specs.Segment.{Segment, end_of_segment}
use Rattle.mps_base.specs.declared.names.Rank.{Rank}
use Rattle.mps_base.specs.declared.names.Rank.TheVariants.{Exact, Weak}
use Rattle.mps_model.specs.Graph.{Object, contains, entry_at, is_weak_object, size_of}
use Rattle.mps_model.specs.World.{World, is_copying_object, is_live, object_is}

-- n words from an address on lie in one held segment, of this rank
pub record LieInOne (segments : List Segment) (at : Address) (size : ℕ) (rank : Rank) : Type 0 where
  pub segment : Segment
  pub held : Contains segments segment
  pub rank_is : segment.rank ≡ rank
  pub above : word_of segment.base ≤ word_of at
  pub below : word_of at + size ≤ word_of (end_of_segment segment)

-- the rank of an object
abbrev pub rank_of_object : Object → Rank
rank_of_object o = if is_weak_object o then Weak else Exact

-- the words of each live object do, in one of its rank
abbrev pub AreHoused : List Object → List Segment → List (Option Address) → Type 0
AreHoused objects segments addresses =
    (id : Id) (at : Address) (o : Object) → entry_at addresses id ≡ Some at → slice_get objects id ≡ Some o
    → LieInOne segments at (size_of o) (rank_of_object o)

-- objects of pools that move their blocks aren't weak
abbrev pub AreStrongMoving : World → Type 0
AreStrongMoving w = (id : Id) → is_copying_object w id ≡ true → object_is is_weak_object w id ≡ false

-- these objects are live
abbrev pub AreLive : List Id → World → Type 0
AreLive ids w = (id : Id) → contains ids id ≡ true → is_live w id ≡ true

-- ---- vectors: two segments of one grain, the second of which begins where the first ends

abbrev first_segment : Segment
first_segment = record { base = 0x1000; grains = 1; pool = 0; generation = 0; rank = Exact }

abbrev two_segments : List Segment
two_segments = first_segment ∷ record first_segment { base = 0x2000 } ∷ []

pub the_last_two_words_of_one : LieInOne two_segments 0x1ff0 2 Exact
the_last_two_words_of_one =
    record { segment = first_segment; held = (0, omega arith, refl); rank_is = refl; above = omega arith; below = omega arith }

pub two_words_over_its_end : LieInOne two_segments 0x1ff8 2 Exact → ⊥
two_words_over_its_end one = of_one one.segment one.held one.above one.below
  where
    of_one : (t : Segment) → Contains two_segments t → word_of t.base ≤ 1023 → 1025 ≤ word_of (end_of_segment t) → ⊥
    of_one t (zero, within, is) above below =
        let ends = ap (λ (u : Segment). word_of (end_of_segment u)) is in omega (arith, ends, below)
    of_one t (suc zero, within, is) above below =
        let begins = ap (λ (u : Segment). word_of u.base) is in omega (arith, begins, above)
    of_one t (suc (suc k), within, is) above below = omega (arith, within)

pub weak_words_in_exact_segments : LieInOne two_segments 0x1ff0 2 Weak → ⊥
weak_words_in_exact_segments one = of_one one.segment one.held one.rank_is
  where
    of_one : (t : Segment) → Contains two_segments t → t.rank ≡ Weak → ⊥
    of_one t (zero, within, is) rank = let never : Exact ≡ Weak = ap (λ (u : Segment). u.rank) is ∙ rank in cc
    of_one t (suc zero, within, is) rank = let never : Exact ≡ Weak = ap (λ (u : Segment). u.rank) is ∙ rank in cc
    of_one t (suc (suc k), within, is) rank = omega (arith, within)
