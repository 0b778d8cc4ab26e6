-- The words of a block and those of a segment lie in runs of grains that the arena holds.
use Rattle.std.proofs.Common.{ℕ, ◌+◌, ◌*◌, ◌≡◌, ◌≤◌, ◌<◌, Bool, Contains, List, [], ◌∷◌, Option, Some, None, leb, ltb, refl, sym, ap, ◌∙◌, subst, inl, inr, arith, option_map}
use Rattle.std.proofs.lemmas.Bool.{cases_Bool, cond-true, cond-false, and_parts, leb-true, ltb-true}
use Rattle.mps_base.specs.Address.{word_of, grain_of, words_of_grain}
use Rattle.mps_base.specs.Run.{Run, end_of}
use Rattle.mps_base.proofs.Runs.{contained_bounds}
use Rattle.mps_base.specs.Segment.{Segment, segment_over, is_in_segment, end_of_segment}
use Rattle.mps_base.specs.declared.address.Addr.{Addr}
use Rattle.mps_arena.specs.Arena.{AreHeldWords}
use Rattle.mps_extents.specs.Extents.{AreWhole}
use Rattle.mps_seg.specs.Segs.{SegsState, LiesIn, base_address, held_runs}
use Rattle.mps_seg.specs.declared.segs.Segs.TheInside.{Inside}
use Rattle.mps_seg.proofs.Entries.{entry_at_seen_base, entry_is_held}
use Rattle.mps_seg.proofs.FirstGrain.{over_contains}
use Rattle.mps_seg.proofs.HeldSegments.{whole_in}
use Rattle.mps_seg.proofs.Seen.{seen_by, IsSoundInside}

-- where the base of a segment was found, there is the segment
pub segment_there : (o : Option Segment) (base : Addr) → Some base ≡ option_map base_address o → (t : Segment) × (o ≡ Some t)
segment_there None base is = let never : Some base ≡ None = is in cc
segment_there (Some t) base is = (t, refl)

-- an address lies in the segment that is found over it
pub over_is_in : (ss : List Segment) (at : ℕ) (t : Segment) → segment_over ss at ≡ Some t → (t.base ≤ at) × (at < end_of_segment t)
over_is_in [] at t is = let never : None ≡ Some t = is in cc
over_is_in (s ∷ ss) at t is =
    let here : Bool = is_in_segment s at in
    elim (cases_Bool here) [
      | inl has ↦
          let both : Some s ≡ Some t = sym (cond-true here (Some s) (segment_over ss at) has) ∙ is in
          let same : s ≡ t = cc in
          let parts = and_parts (leb s.base at) (ltb at (end_of_segment s)) has in
          let P : Segment → Type 0 = λ x. (x.base ≤ at) × (at < end_of_segment x) in
          subst P same (leb-true s.base at parts.0, ltb-true at (end_of_segment s) parts.1)
      | inr other ↦ over_is_in ss at t (sym (cond-false here (Some s) (segment_over ss at) other) ∙ is)
    ]

module _ (s : Inside) (seen : SegsState) (sound : IsSoundInside s) (is : seen_by s ≡ seen) where
  pub block_is_held : (at words : ℕ) → ((r : Run) → Contains s.extents.blocks r → Contains s.extents.covered r)
      → Contains seen.blocks (record { from = word_of at; count = words }) → AreHeldWords s.arena.held (word_of at) words
  block_is_held at words covered there =
      let r : Run = record { from = word_of at; count = words } in
      let P : SegsState → Type 0 = λ st. Contains st.blocks r in
      let lies = sound.0.inside r (covered r (subst P (sym is) there)) in
      record { run = lies.grains; listed = lies.there; after = lies.after; before = lies.before }

  pub word_is_held : (at : ℕ) (t : Segment) → segment_over seen.segments at ≡ Some t → AreHeldWords s.arena.held (word_of at) 1
  word_is_held at t over =
      let entry = entry_at_seen_base s seen t.base t is (over_contains seen.segments at t over) refl in
      let listed = entry_is_held s.table.items (grain_of t.base) t.grains t.pool t.generation t.rank entry.is in
      let inside = over_is_in seen.segments at t over in
      let r : Run = record { from = grain_of t.base; count = t.grains } in
      let P : List Run → Type 0 = λ rs. Contains rs r in
      record {
        run = r;
        listed = subst P (sym sound.0.held) listed;
        after = omega (arith, inside.0);
        before = omega (arith, inside.1, entry.aligned);
      }

  pub segment_is_held : (t : Segment) → Contains seen.segments t
      → LiesIn (held_runs seen) (record { from = word_of t.base; count = words_of_grain * t.grains })
  segment_is_held t there =
      let entry = entry_at_seen_base s seen t.base t is there refl in
      let listed = entry_is_held s.table.items (grain_of t.base) t.grains t.pool t.generation t.rank entry.is in
      let r : Run = record { from = grain_of t.base; count = t.grains } in
      let P : SegsState → Type 0 = λ st. Contains (held_runs st) r in
      record { grains = r; there = subst P is listed; after = omega (arith, entry.aligned); before = omega (arith, entry.aligned) }

  pub segment_is_whole : (t : Segment) → Contains seen.segments t
      → AreWhole (word_of t.base) (word_of (end_of_segment t)) seen.covered
  segment_is_whole t there =
      let entry = entry_at_seen_base s seen t.base t is there refl in
      let listed = entry_is_held s.table.items (grain_of t.base) t.grains t.pool t.generation t.rank entry.is in
      let r : Run = record { from = grain_of t.base; count = t.grains } in
      let P : List Run → Type 0 = λ rs. Contains rs r in
      let low : words_of_grain * r.from ≡ word_of t.base = omega (arith, entry.aligned) in
      let high : words_of_grain * end_of r ≡ word_of (end_of_segment t) = omega (arith, entry.aligned) in
      let Q : ℕ → Type 0 = λ n. AreWhole n (words_of_grain * end_of r) s.extents.covered in
      let R : ℕ → Type 0 = λ n. AreWhole (word_of t.base) n s.extents.covered in
      let S : SegsState → Type 0 = λ st. AreWhole (word_of t.base) (word_of (end_of_segment t)) st.covered in
      subst S is (subst R high (subst Q low
      (whole_in s.arena s.table.items s.extents sound.0 r (subst P (sym sound.0.held) listed) s.extents.covered (λ u listed'. listed'))))

  pub segment_in_arena : (t : Segment) → Contains seen.segments t
      → word_of (end_of_segment t) ≤ words_of_grain * (seen.grains + 1)
  segment_in_arena t there =
      let entry = entry_at_seen_base s seen t.base t is there refl in
      let listed = entry_is_held s.table.items (grain_of t.base) t.grains t.pool t.generation t.rank entry.is in
      let r : Run = record { from = grain_of t.base; count = t.grains } in
      let P : List Run → Type 0 = λ rs. Contains rs r in
      let bounds = contained_bounds 1 (s.arena.grains + 1) s.arena.held r sound.0.ascending (subst P (sym sound.0.held) listed) in
      omega (arith, bounds.2, entry.aligned, ap (λ (x : SegsState). x.grains) is)
