-- What a transform can be applied to, another can be applied to after it.
use Rattle.std.proofs.Common.{ℕ, zero, suc, ◌-◌, ◌≤◌, ◌≡◌, ◌==◌, Bool, true, false, IsTrue, Option, Some, None, IsSome, List, [], ◌∷◌, Contains, length, map, refl, sym, ap, ◌∙◌, subst, inl, inr, arith}
use Rattle.std.specs.Prelude.{slice_index}
use Rattle.std.specs.Option.{option_map_or}
use Rattle.std.proofs.lemmas.Bool.{cases_Bool, eqb-true}
use Rattle.mps_base.specs.Address.{Address, word_of, address_of_word}
use Rattle.mps_base.specs.Run.{Run, IsAscending}
use Rattle.mps_base.specs.Segment.{Segment, segment_over, end_of_segment}
use Rattle.mps_extents.proofs.RunOver.{run_over_in}
use Rattle.mps_format.specs.Layout.{IsLawful, Layout}
use Rattle.mps_root.specs.State.{RootsState, kept}
use Rattle.mps_seg.specs.Extents.{run_over, AreWhole}
use Rattle.mps_seg.specs.Segs.{SegsState}
use Rattle.mps_xform.specs.Applying.{AreSegmentsApart, CanApply, after_apply, is_in_pool, is_reference_word}
use Rattle.mps_xform.specs.Slots.{AreListedOnce, slots_after_apply, table_after_apply}
use Rattle.mps_xform.proofs.Applied.{SameParts, none_elsewhere, none_of_numbers, parts_below}
use Rattle.mps_xform.proofs.Done.{word_is}
use Rattle.mps_xform.proofs.Walked.{bounds, over_is}

-- ---- segments

module _ (f : Layout) (lawful : IsLawful f) (to : Address → Option Address) (s : SegsState) (pool : ℕ) (can : CanApply f s pool) where
  -- a block of the pool has a head of the format that says its size
  headed : (r : Run) → Contains s.blocks r → is_in_pool s pool r.from ≡ true
      → IsTrue (f.is_valid (slice_index s.words r.from)) × (f.size (slice_index s.words r.from) ≡ r.count)
  headed r there inside = by_segment (segment_over s.segments (address_of_word r.from)) refl
    where
      by_segment : (o : Option Segment) → segment_over s.segments (address_of_word r.from) ≡ o
          → IsTrue (f.is_valid (slice_index s.words r.from)) × (f.size (slice_index s.words r.from) ≡ r.count)
      by_segment None is =
          let never : false ≡ true = sym (ap (λ (o : Option Segment). option_map_or (λ t. t.pool == pool) o false) is) ∙ inside in
          cc
      by_segment (Some t) is =
          let o = over_is s.segments (address_of_word r.from) t is in
          let b = bounds 0 s.segments t can.segments o.there in
          let same : (t.pool == pool) ≡ true =
          sym (ap (λ (o : Option Segment). option_map_or (λ t. t.pool == pool) o false) is) ∙ inside
          in
          can.heads t r o.there (eqb-true t.pool pool same) there (omega (arith, o.above, b.aligned)) (omega (arith, o.below, b.aligned))

  -- the head of a block is no reference
  no_reference_at : (r : Run) → Contains s.blocks r → is_in_pool s pool r.from ≡ true → is_reference_word f s r.from ≡ false
  no_reference_at r there inside = by_value (f.is_reference (slice_index s.words r.from) (r.from - r.from)) refl
    where
      head : IsTrue (f.is_valid (slice_index s.words r.from)) × (f.size (slice_index s.words r.from) ≡ r.count)
      head = headed r there inside

      long : 2 ≤ r.count
      long = let sizes = (lawful.sizes (slice_index s.words r.from) head.0).0 in omega (arith, sizes, head.1)

      over : run_over s.blocks r.from ≡ Some r.from
      over = run_over_in 0 (length s.words) s.blocks r r.from can.blocks there (omega arith) (omega (arith, long))

      is_value : is_reference_word f s r.from ≡ f.is_reference (slice_index s.words r.from) (r.from - r.from)
      is_value =
          ap (λ (o : Option ℕ). option_map_or (λ from. f.is_reference (slice_index s.words from) (r.from - from)) o false) over

      by_value : (b : Bool) → f.is_reference (slice_index s.words r.from) (r.from - r.from) ≡ b → is_reference_word f s r.from ≡ false
      by_value false is = is_value ∙ is
      by_value true is =
          let low = (lawful.references (slice_index s.words r.from) (r.from - r.from) head.0 is).0 in
          absurd (omega (arith, low))

  -- the head of each block stays
  head_stays : (r : Run) → Contains s.blocks r → slice_index (after_apply f to s pool).words r.from ≡ slice_index s.words r.from
  head_stays r there =
      word_is f to s pool can r.from
      ∙ ap (λ (o : Option Address). option_map_or (λ at. f.retarget (slice_index s.words r.from) at) o (slice_index s.words r.from))
      (elim (cases_Bool (is_in_pool s pool r.from)) [
        | inl inside ↦ none_of_numbers f to s pool r.from (no_reference_at r there inside)
        | inr outside ↦ none_elsewhere f to s pool r.from outside
      ])

  parts : SameParts s (after_apply f to s pool)
  parts = parts_below f to s pool (length s.words)

  segment_was : (t : Segment) → Contains (after_apply f to s pool).segments t → Contains s.segments t
  segment_was t there = let P : List Segment → Type 0 = λ ts. Contains ts t in subst P parts.segments there

  block_was : (r : Run) → Contains (after_apply f to s pool).blocks r → Contains s.blocks r
  block_was r there = let P : List Run → Type 0 = λ rs. Contains rs r in subst P parts.blocks there

  pub can_again : (other : Layout) (number : ℕ) → CanApply other s number → CanApply other (after_apply f to s pool) number
  can_again other number could = record {
    blocks =
        let P : List Run → Type 0 = λ rs. IsAscending 0 (length s.words) rs in
        let Q : ℕ → Type 0 = λ n. IsAscending 0 n (after_apply f to s pool).blocks in
        subst Q (sym parts.size) (subst P (sym parts.blocks) could.blocks);
    segments = let P : List Segment → Type 0 = λ ts. AreSegmentsApart 0 ts in subst P (sym parts.segments) could.segments;
    in_arena = λ t there. let had = could.in_arena t (segment_was t there) in omega (arith, had, parts.size);
    whole = λ t there.
        let P : List Run → Type 0 = λ rs. AreWhole (word_of t.base) (word_of (end_of_segment t)) rs in
        subst P (sym parts.blocks) (could.whole t (segment_was t there));
    heads = λ t r there of_pool listed above below.
        let P : ℕ → Type 0 = λ head. IsTrue (other.is_valid head) × (other.size head ≡ r.count) in
        subst P (sym (head_stays r (block_was r listed)))
        (could.heads t r (segment_was t there) of_pool (block_was r listed) above below);
  }

-- ---- slots

module _ (to : Address → Option Address) (r : RootsState) where
  kept_after : (tables : List (Option (List ℕ))) (key : ℕ) → kept (map (table_after_apply to) tables) key
      ≡ table_after_apply to (kept tables key)
  kept_after [] key = refl
  kept_after (t ∷ ts) zero = refl
  kept_after (t ∷ ts) (suc key) = kept_after ts key

  there_was : (o : Option (List ℕ)) → IsSome (table_after_apply to o) → IsSome o
  there_was None there = there
  there_was (Some slots) there = refl

  pub listed_again : AreListedOnce r → AreListedOnce (slots_after_apply to r)
  listed_again listed = record {
    listed = λ key there.
        let P : Option (List ℕ) → Type 0 = λ o. IsSome o in
        listed.listed key (there_was (kept r.tables key) (subst P (kept_after r.tables key) there));
    once = listed.once;
  }
