-- A condemned segment is reclaimed: given back, or some of its blocks are left. The image stands for the objects that are left.
use Rattle.std.proofs.Common.{◌≡◌, ◌∙◌, ◌⊎◌, ℕ, ◌+◌, ◌<◌, ◌≤◌, Bool, true, false, not, refl, sym, ap, subst, List, [], ◌∷◌, ◌++◌, Option, Some, Contains, inl, inr, arith}
use Rattle.std.proofs.lemmas.Bool.{cases_eq, ne_eqb, false≢true}
use Rattle.std.proofs.lemmas.Option.{none-some, same_Some}
use Rattle.std.specs.Prelude.{slice_get, slice_index, option_map, ◌==◌}
use Rattle.mps_base.specs.Address.{Address, Id, Word, word_of, address_of_word, grain_of}
use Rattle.mps_base.specs.Run.{Run, runs_within}
use Rattle.mps_base.specs.Segment.{Segment, segment_over, end_of_segment, without_segment}
use Rattle.mps_base.specs.Trail.{Moves}
use Rattle.mps_base.specs.declared.address.Addr.{Addr}
use Rattle.mps_extents.specs.Table.{bit}
use Rattle.mps_format.specs.Layout.{Layout}
use Rattle.mps_seg.specs.Segs.{SegsState}
use Rattle.mps_seg.specs.Collecting.{bit_of}
use Rattle.mps_seg.specs.Reclaiming.{lost_of, freed_in, without_block, without_blocks, AreBlocksUnwritten, IsSwept, is_given, is_used}
use Rattle.mps_seg.proofs.Lost.{segments_after, words_after}
use Rattle.mps_model.specs.Graph.{Object, Point, entry_at, size_of}
use Rattle.mps_model.specs.World.{PointMemory, extent, extents_of, reserved_extents}
use Rattle.mps_abstract.specs.Colours.{Colours, is_white, AreAllScanned}
use Rattle.mps_trace_laws.specs.Image.Memory.{Setting, Lies, memory_in, pool_over_word, is_condemned_word}
use Rattle.mps_trace_laws.specs.Image.Image.{Stands, ImageStands, black_cells}
use Rattle.mps_trace_laws.proofs.Image.ArenaLaws.{segments_change}
use Rattle.mps_trace_laws.specs.Reclaim.Freed.{addresses_of, addresses_without}
use Rattle.mps_trace_laws.specs.Fix.Housed.{AreHoused}
use Rattle.mps_trace_laws.specs.Reclaim.Left.{AreReservationsUnwritten, setting_freeing_in, StandsFreeing, IsReclaimShown}
use Rattle.mps_trace_laws.proofs.Reclaim.Around.{image_around, among_within, covered_by, contains_left}
use Rattle.mps_trace_laws.proofs.Image.BlockRuns.{extent_there, run_there, contained_in_order}
use Rattle.mps_trace_laws.proofs.Reclaim.FreedImage.{lost_blocks_are_freed}
use Rattle.mps_trace_laws.proofs.Reclaim.HeldSegments.{over, over_base, same_base, beside, over_left, held_filtered, order_left}
use Rattle.mps_trace_laws.proofs.Reclaim.LostRuns.{contains_none}
use Rattle.mps_trace_laws.proofs.Reclaim.Without.{left_was}

pub condemned_after : (rs : List Run) (g : SegsState) → (without_blocks rs g).condemned ≡ g.condemned
condemned_after [] g = refl
condemned_after (r ∷ rs) g = condemned_after rs (without_block r g)

pub grains_after : (rs : List Run) (g : SegsState) → (without_blocks rs g).grains ≡ g.grains
grains_after [] g = refl
grains_after (r ∷ rs) g = grains_after rs (without_block r g)

-- a reclaim writes no word outside its segment
pub outside_unwritten : (g : SegsState) (moves : Moves) (base : Addr) (g' : SegsState) (moves' : Moves) (t : Segment) → t.base ≡ base.0
    → segment_over g.segments t.base ≡ Some t → IsSwept g moves base g' moves' → (n : Word)
    → (n < word_of t.base) ⊎ (word_of (end_of_segment t) ≤ n) → slice_index g'.words n ≡ slice_index g.words n
outside_unwritten g moves base g' moves' t begins over (is_given u found empty state trail) n outside =
    ap (λ (s : SegsState). slice_index s.words n) state ∙ ap (λ ws. slice_index ws n) (words_after (lost_of g u) g)
outside_unwritten g moves base g' moves' t begins over (is_used u found used state unwritten trail) n outside =
    let same : t ≡ u = same_Some t u (sym over ∙ ap (segment_over g.segments) begins ∙ found) in
    let end = ap (λ (v : Segment). word_of (end_of_segment v)) same in
    unwritten.outside n (elim outside [ inl low ↦ inl (omega (arith, low, begins)) | inr high ↦ inr (omega (arith, high, end)) ])

white_unread : (w : Bool) → not w ≡ true → w ≡ false
white_unread true h = absurd (false≢true h)
white_unread false h = refl

module _ (g : SegsState) (objects : List Object) (points : List (Option Point)) (memories : List PointMemory) (layout : ℕ → Layout)
    (condemned : List Id) (k : Colours) (addresses : List (Option Address)) (t : Segment)
    (swept : StandsFreeing g objects points memories layout condemned k addresses) (scanned : AreAllScanned k)
    (held : Contains g.segments t) (is_condemned : bit g.condemned (grain_of t.base) ≡ true) where
  abbrev s : Setting
  s = setting_freeing_in g objects points memories layout condemned k

  abbrev low : Word
  low = word_of t.base

  abbrev high : Word
  high = word_of (end_of_segment t)

  abbrev freed : SegsState
  freed = freed_in g t

  abbrev left : List (Option Address)
  left = addresses_without (addresses_of (lost_of g t)) addresses

  pub freed_stands : Stands s (memory_in freed) left k
  freed_stands =
      lost_blocks_are_freed s g addresses k t swept.image
      (record { order = swept.order; held = held; condemned = is_condemned; same = λ n. refl }) scanned
      (λ id read. white_unread (is_white condemned k id) read)

  -- a live object lies in one held segment, as before
  home_left : AreHoused objects g.segments left
  home_left id at o there object = swept.housed id at o (left_was (addresses_of (lost_of g t)) addresses id at there).0 object

  -- the run of one that begins in the segment
  own_run : (id : Id) (at : Address) (o : Object) → entry_at left id ≡ Some at → slice_get objects id ≡ Some o → low ≤ word_of at
      → word_of at < high → Contains (runs_within low high freed.blocks) (extent at (size_of o))
  own_run id at o there object above below =
      among_within low high freed.blocks (extent at (size_of o))
      (subst (λ rs. Contains rs (extent at (size_of o))) (sym freed_stands.runs.blocks) (run_there objects left id at o there object))
      above below

  own_covered : (id : Id) (at : Address) (o : Object) → entry_at left id ≡ Some at → slice_get objects id ≡ Some o → low ≤ word_of at
      → word_of at < high → Contains (runs_within low high freed.covered) (extent at (size_of o))
  own_covered id at o there object above below =
      among_within low high freed.covered (extent at (size_of o))
      (subst (λ rs. Contains rs (extent at (size_of o))) (sym freed_stands.runs.covered)
      (contained_in_order (extents_of objects left ++ reserved_extents points memories) (extent at (size_of o))
      (contains_left (extents_of objects left) (reserved_extents points memories) (extent at (size_of o))
      (extent_there objects left id at o there object))))
      above below

  -- the setting by the segments, their bits and the number of grains
  abbrev settled : SegsState → ℕ → List Segment → List Bool → Setting
  settled h grains segments bits =
      setting_freeing_in (record h { grains = grains; segments = segments; condemned = bits }) objects points memories layout condemned k

  stands_for : (h : SegsState) → h.grains ≡ g.grains → h.segments ≡ g.segments → h.condemned ≡ g.condemned → Stands s (memory_in h) left k
      → Stands (setting_freeing_in h objects points memories layout condemned k) (memory_in h) left k
  stands_for h grains segments bits st =
      subst (λ n. Stands (settled h n h.segments h.condemned) (memory_in h) left k) (sym grains)
      (subst (λ ss. Stands (settled h g.grains ss h.condemned) (memory_in h) left k) (sym segments)
      (subst (λ bs. Stands (settled h g.grains g.segments bs) (memory_in h) left k) (sym bits) st))

  -- ---- something is left in the segment

  module _ (words : List ℕ) (unwritten : AreBlocksUnwritten low high (runs_within low high freed.blocks) g.words words)
      (reserved : AreReservationsUnwritten points memories g.words words) where
    abbrev used_state : SegsState
    used_state = record freed { words = words }

    old_words : freed.words ≡ g.words
    old_words = words_after (lost_of g t) g

    pub inside_same : (id i : ℕ) (o : Object) (n : Word) → Lies objects left id i o n → slice_index words n ≡ slice_index g.words n
    inside_same id i o n l =
        let h = home_left id l.at o l.address l.object in
        let is = l.is in
        let within = l.within in
        let above = h.above in
        let below = h.below in
        elim (cases_eq h.segment.base t.base) [
          | inl same ↦
              let one = same_base g.segments swept.order h.segment t h.held held same in
              let up : low ≤ word_of l.at = subst (λ (x : Segment). word_of x.base ≤ word_of l.at) one above in
              let down : word_of l.at + size_of o ≤ high =
              subst (λ (x : Segment). word_of l.at + size_of o ≤ word_of (end_of_segment x)) one below
              in
              unwritten.inside n
              (covered_by (runs_within low high freed.blocks) (extent l.at (size_of o)) n
              (own_run id l.at o l.address l.object up (omega (arith, down, within)))
              (omega (arith, is)) (omega (arith, is, within)))
          | inr other ↦
              unwritten.outside n
              (beside g.segments swept.order h.segment t n h.held held other (omega (arith, is, above)) (omega (arith, is, within, below)))
        ]

    used_stands : Stands s (memory_in used_state) left k
    used_stands =
        image_around s (memory_in freed) words left k (black_cells condemned k) refl
        (unwritten.long ∙ ap (λ ws. Rattle.std.specs.Prelude.length ws) (sym old_words))
        (λ id i o n l. inside_same id i o n l ∙ ap (λ ws. slice_index ws n) (sym old_words))
        (λ point i r n l. reserved point i r n l ∙ ap (λ ws. slice_index ws n) (sym old_words))
        freed_stands

    pub swept_used : IsReclaimShown g objects points memories layout condemned k addresses t used_state
    swept_used =
        let segments = segments_after (lost_of g t) g in
        record {
          swept = record {
            image =
                stands_for used_state (grains_after (lost_of g t) g) segments (condemned_after (lost_of g t) g) used_stands;
            order = subst Rattle.mps_trace_laws.specs.Image.SegmentWords.AreSegmentsInOrder (sym segments) swept.order;
            housed = subst (λ ss. AreHoused objects ss left) (sym segments) home_left;
          };
          segments = inl segments;
          condemned_same = condemned_after (lost_of g t) g;
          grains_same = grains_after (lost_of g t) g;
        }

  -- ---- the segment is given back

  module _ (empty : runs_within low high freed.covered ≡ []) where
    abbrev given_state : SegsState
    given_state = record freed { segments = without_segment g.segments t.base }

    -- a live object lies in another segment
    elsewhere : (id : Id) (at : Address) (o : Object) (there : entry_at left id ≡ Some at) (object : slice_get objects id ≡ Some o)
        → (home_left id at o there object).segment.base ≡ t.base → ⊥
    elsewhere id at o there object same =
        let h = home_left id at o there object in
        let one = same_base g.segments swept.order h.segment t h.held held same in
        let up : low ≤ word_of at = subst (λ (x : Segment). word_of x.base ≤ word_of at) one h.above in
        let down : word_of at + size_of o ≤ high =
        subst (λ (x : Segment). word_of at + size_of o ≤ word_of (end_of_segment x)) one h.below
        in
        let some = freed_stands.placed.positive id at o there object in
        contains_none (extent at (size_of o))
        (subst (λ rs. Contains rs (extent at (size_of o))) empty
        (own_covered id at o there object up (omega (arith, down, some))))

    -- the segment over each of its words is as before
    over_before : (id i : ℕ) (o : Object) (n : Word) (l : Lies objects left id i o n)
        → segment_over g.segments (address_of_word n) ≡ Some (home_left id l.at o l.address l.object).segment
    over_before id i o n l =
        let h = home_left id l.at o l.address l.object in
        let is = l.is in
        let within = l.within in
        let above = h.above in
        let below = h.below in
        over g.segments swept.order h.segment n h.held (omega (arith, is, above)) (omega (arith, is, within, below))

    over_same : (id i : ℕ) (o : Object) (n : Word) (l : Lies objects left id i o n)
        → segment_over (without_segment g.segments t.base) (address_of_word n) ≡ segment_over g.segments (address_of_word n)
    over_same id i o n l =
        let h = home_left id l.at o l.address l.object in
        let before = over_before id i o n l in
        over_left g.segments t.base (address_of_word n) h.segment before (elsewhere id l.at o l.address l.object) ∙ sym before

    bits_same : freed.condemned ≡ g.condemned
    bits_same = condemned_after (lost_of g t) g

    given_stands : ImageStands (Rattle.mps_trace_laws.specs.Image.ArenaLaws.setting_with_segments s (pool_over_word given_state)
        (is_condemned_word given_state)) (memory_in given_state) left k (black_cells condemned k)
    given_stands =
        segments_change s (memory_in freed) left k (black_cells condemned k) (pool_over_word given_state) (is_condemned_word given_state)
        freed_stands (record {
          pool = λ id i o n l. ap (option_map (λ (x : Segment). x.pool)) (over_same id i o n l);
          is_condemned = λ id i o n l.
              ap (λ bs. bit_of bs (option_map (λ (x : Segment). grain_of x.base) (segment_over (without_segment g.segments t.base)
              (address_of_word n)))) bits_same
              ∙ ap (λ x. bit_of g.condemned (option_map (λ (x : Segment). grain_of x.base) x)) (over_same id i o n l);
          old_pool = λ id from to o i was now apart object lt. absurd (none-some from was);
          was_condemned = λ id from to o i was now apart object lt. absurd (none-some from was);
        })

    pub swept_given : IsReclaimShown g objects points memories layout condemned k addresses t given_state
    swept_given = record {
      swept = record {
        image =
            subst (λ n. Stands (settled given_state n given_state.segments given_state.condemned) (memory_in given_state) left k)
            (sym (grains_after (lost_of g t) g)) given_stands;
        order = order_left g.segments t.base swept.order;
        housed = λ id at o there object.
            let h = home_left id at o there object in
            record {
              segment = h.segment;
              held =
                  held_filtered (λ x. not (x.base == t.base)) g.segments h.segment h.held
                  (ap not (ne_eqb h.segment.base t.base (elsewhere id at o there object)));
              rank_is = h.rank_is;
              above = h.above;
              below = h.below;
            };
      };
      segments = inr refl;
      condemned_same = bits_same;
      grains_same = grains_after (lost_of g t) g;
    }

  -- ---- either

  pub same_segment : (base : Addr) (u : Segment) → t.base ≡ base.0 → segment_over g.segments base.0 ≡ Some u → t ≡ u
  same_segment base u is found = same_Some t u (sym (over_base g.segments swept.order t held) ∙ ap (segment_over g.segments) is ∙ found)

  pub reclaimed_sweeps : (moves : Moves) (base : Addr) (g' : SegsState) (moves' : Moves) → t.base ≡ base.0
      → IsSwept g moves base g' moves' → AreReservationsUnwritten points memories g.words g'.words
      → IsReclaimShown g objects points memories layout condemned k addresses t g'
  reclaimed_sweeps moves base g' moves' is (is_given u found empty state trail) reserved =
      let one = same_segment base u is found in
      let emptied : runs_within low high freed.covered ≡ [] =
      subst (λ (x : Segment). runs_within (word_of x.base) (word_of (end_of_segment x)) (freed_in g x).covered ≡ []) (sym one) empty.empty
      in
      let given : g' ≡ given_state emptied =
      state
      ∙ ap (λ (x : Segment). record (freed_in g x) { segments = without_segment g.segments base.0 }) (sym one)
      ∙ ap (λ b. record freed { segments = without_segment g.segments b }) (sym is)
      in
      subst (IsReclaimShown g objects points memories layout condemned k addresses t) (sym given) (swept_given emptied)
  reclaimed_sweeps moves base g' moves' is (is_used u found used state unwritten trail) reserved =
      let one = same_segment base u is found in
      let same : AreBlocksUnwritten low high (runs_within low high freed.blocks) g.words g'.words =
      subst (λ b. AreBlocksUnwritten (word_of b) high (runs_within (word_of b) high freed.blocks) g.words g'.words) (sym is)
      (subst (λ (x : Segment). AreBlocksUnwritten (word_of base.0) (word_of (end_of_segment x))
      (runs_within (word_of base.0) (word_of (end_of_segment x)) (freed_in g x).blocks) g.words g'.words) (sym one) unwritten)
      in
      let left_state : g' ≡ used_state g'.words same reserved =
      state ∙ ap (λ (x : Segment). record (freed_in g x) { words = g'.words }) (sym one)
      in
      subst (IsReclaimShown g objects points memories layout condemned k addresses t) (sym left_state)
      (swept_used g'.words same reserved)
