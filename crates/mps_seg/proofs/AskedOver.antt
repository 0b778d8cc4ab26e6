-- What the table says of the condemned segment over an address.
use Rattle.std.proofs.Common.{ℕ, zero, suc, ◌<◌, ◌≤◌, ◌≡◌, ◌≢◌, length, get_or, List, Bool, Option, Some, None, option_map, refl, sym, ap, ◌∙◌, arith}
use Rattle.std.specs.Prelude.{if◌then◌else◌}
use Rattle.std.proofs.lemmas.List.{get_or_read, get_or_default}
use Rattle.mps_base.specs.Address.{grain_of}
use Rattle.mps_base.specs.Segment.{Segment, segment_over}
use Rattle.mps_bits.specs.Table.{bit}
use Rattle.mps_seg.specs.Collecting.{asked_if_condemned, asked_of}
use Rattle.mps_seg.specs.Segs.{SegsState, base_address}
use Rattle.mps_seg.specs.Table.{asked_of_entry, asked_of_first}
use Rattle.mps_seg.specs.declared.entry.CondemnedSegment.{CondemnedSegment}
use Rattle.mps_seg.specs.declared.entry.Entry.{Entry}
use Rattle.mps_seg.specs.declared.segs.Segs.TheInside.{Inside}
use Rattle.mps_seg.proofs.FirstGrain.{EntryOver, entry_over, first_of, first_grain_is}
use Rattle.mps_seg.proofs.Seen.{seen_by, IsSoundInside}
use Rattle.mps_seg.proofs.SegmentOver.{no_segment_past, segment_of_first}

none_asked_of : (s : SegsState) (o : Option Segment) → None ≡ option_map base_address o → None ≡ asked_if_condemned s o
none_asked_of s None is = refl
none_asked_of s (Some t) is = let never : None ≡ Some (base_address t) = is in cc

-- what is asked of the segment whose entry stands at a grain that isn't 0
asked_there : (table : List Entry) (condemned : List Bool) (grain : ℕ) (t : Segment) → grain ≢ 0 → EntryOver table t grain
    → asked_of_first table condemned grain ≡ (if bit condemned grain then Some (asked_of t) else None)
asked_there table condemned zero t some entry = absurd (some refl)
asked_there table condemned (suc k) t some entry =
    ap (λ (e : Entry). if bit condemned (suc k) then asked_of_entry e else None) entry.is

module _ (s : Inside) (seen : SegsState) (at : ℕ) (sound : IsSoundInside s) (is : seen_by s ≡ seen) where
  pub asked_past : length s.white.items ≤ grain_of at → None ≡ asked_if_condemned seen (segment_over seen.segments at)
  asked_past past =
      none_asked_of seen (segment_over seen.segments at)
      (no_segment_past s seen at sound is (omega (arith, past, sound.4.white_size, sound.1.firsts_size)))

  asked_by : (first : ℕ) → first ≡ get_or s.firsts.items (grain_of at) first → grain_of at < length s.firsts.items
      → asked_of_first s.table.items s.condemned first ≡ asked_if_condemned seen (segment_over seen.segments at)
  asked_by zero read within =
      none_asked_of seen (segment_over seen.segments at) ((segment_of_first s seen at sound is 0 within read).0 refl)
  asked_by (suc k) read within =
      let some : suc k ≢ 0 = λ e. let never : suc k ≡ 0 = e in omega (arith, never) in
      let over = entry_over s seen at (suc k) is
      (first_grain_is (segment_over seen.segments at) (suc k) ((segment_of_first s seen at sound is (suc k) within read).1 some))
      in
      let both : Some (suc k) ≡ Some (grain_of over.0.base) =
      first_grain_is (segment_over seen.segments at) (suc k) ((segment_of_first s seen at sound is (suc k) within read).1 some)
      ∙ ap (λ (o : Option Segment). first_of o) over.1
      in
      let first : suc k ≡ grain_of over.0.base = cc in
      asked_there s.table.items s.condemned (suc k) over.0 some over.2
      ∙ ap (λ (g : ℕ). if bit s.condemned g then Some (asked_of over.0) else None) first
      ∙ ap (λ (x : SegsState). asked_if_condemned x (Some over.0)) is
      ∙ sym (ap (λ (o : Option Segment). asked_if_condemned seen o) over.1)

  pub asked_within : (x : Option CondemnedSegment) → grain_of at < length s.white.items → x ≡ get_or s.white.items (grain_of at) x
      → x ≡ asked_if_condemned seen (segment_over seen.segments at)
  asked_within x within read =
      let inside : grain_of at < length s.firsts.items = omega (arith, within, sound.4.white_size, sound.1.firsts_size) in
      get_or_read s.white.items (grain_of at) x within read None
      ∙ sound.4.white_are (grain_of at) (omega (arith, within, sound.4.white_size))
      ∙ asked_by (get_or s.firsts.items (grain_of at) 0)
      (get_or_default s.firsts.items (grain_of at) 0 (get_or s.firsts.items (grain_of at) 0) inside) inside
