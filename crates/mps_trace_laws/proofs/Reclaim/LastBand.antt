-- The last band begins once nothing is grey; while it goes on a condemned segment is left, and the last one is known.
use Rattle.std.proofs.Common.{◌≡◌, ◌∙◌, ◌⊎◌, ℕ, suc, ◌≤◌, true, false, sym, ap, subst, Contains, inl, inr, arith}
use Rattle.std.proofs.lemmas.Bool.{cases_Bool, cases_lt, true≢false, leb-true, le-leb, eqb-true, ne_eqb}
use Rattle.std.specs.Prelude.{IsTrue, ◌↔◌, nat_le, find, ◌==◌, not, Option, List}
use Rattle.mps_base.specs.Address.{Address, grain_of}
use Rattle.mps_base.specs.Segment.{Segment, without_segment}
use Rattle.mps_extents.specs.Table.{bit}
use Rattle.mps_seg.specs.Segs.{SegsState}
use Rattle.mps_model.proofs.Reaching.{list_all-contains}
use Rattle.mps_model.specs.Graph.{contains}
use Rattle.mps_model.specs.World.{segment_at, is_automatic_kind, pool_is, World}
use Rattle.mps_model.specs.Units.{is_last_condemned}
use Rattle.mps_abstract.specs.Collecting.{Collecting, Running}
use Rattle.mps_abstract.proofs.KeptRunning.{one_that_is}
use Rattle.mps_abstract.proofs.Lists.{find-passes, list_all-members}
use Rattle.mps_trace_laws.specs.Image.Memory.{memory_in, setting_in}
use Rattle.mps_trace_laws.proofs.Image.Bands.{freeing_begins}
use Rattle.mps_trace.specs.Condemned.{NoneLeft}
use Rattle.mps_trace_laws.specs.Reclaim.Units.{FreesFor}
use Rattle.mps_trace_laws.proofs.Reclaim.HeldSegments.{found_held, held_filtered, was_held}
use Rattle.mps_format.specs.Layout.{Layout}
use Rattle.mps_model.specs.Collection.{Collection}
use Rattle.mps_abstract.specs.Colours.{Colours, AreAllScanned}
use Rattle.mps_trace_laws.specs.Image.SegmentWords.{AreSegmentsInOrder}
use Rattle.mps_trace_laws.specs.Image.Image.{Stands}
use Rattle.mps_trace_laws.specs.Fix.Housed.{AreHoused}

-- once nothing is grey, an arena whose image stands for a world in which a collection runs stands for it in the last band
pub the_last_band_begins : (g : SegsState) (w : World) (c : Collection) (k : Colours) (layout : ℕ → Layout) (at_flip : List
    (Option Address)) → AreAllScanned k
    → Stands (setting_in g w.graph.objects w.graph.points w.point_memories layout at_flip c.condemned (λ id. true)) (memory_in g)
    w.addresses k
    → AreSegmentsInOrder g.segments → AreHoused w.graph.objects g.segments w.addresses → w.segments ≡ g.segments
    → ((t : Segment) → Contains g.segments t → bit g.condemned (grain_of t.base) ≡ contains c.condemned_segments t.base)
    → FreesFor g w c k layout
the_last_band_begins g w c k layout at_flip scanned st order housed segments bits = record {
  stands = record {
    image =
        freeing_begins (setting_in g w.graph.objects w.graph.points w.point_memories layout at_flip c.condemned (λ id. true)) (memory_in g)
        w.addresses k (λ id at e. scanned id) st;
    order = order;
    housed = housed;
  };
  segments = segments;
  bits = bits;
}

-- ---- condemned segments are held, and have their bit

-- the condemned segment at a base
pub record IsCondemnedAt (g : SegsState) (base : Address) : Type 0 where
  pub segment : Segment
  pub held : Contains g.segments segment
  pub begins : segment.base ≡ base
  pub condemned : bit g.condemned (grain_of segment.base) ≡ true

module _ (x : Collecting) (g : SegsState) (layout : ℕ → Rattle.mps_format.specs.Layout.Layout) (run : Running x)
    (f : FreesFor g x.world x.running x.colours layout) where
  condemned_at : (base : Address) → contains x.running.condemned_segments base ≡ true → IsCondemnedAt g base
  condemned_at base h =
      let u = one_that_is (λ s. IsTrue (pool_is is_automatic_kind x.world s.pool)) (segment_at x.world base)
      (run.condemned.segments base h) in
      let there = ap (λ ss. find (λ (s : Segment). s.base == base) ss) (sym f.segments) ∙ u.1.0 in
      let held = found_held (λ s. s.base == base) g.segments u.0 there in
      let begins = eqb-true u.0.base base (find-passes (λ (s : Segment). s.base == base) x.world.segments u.0 u.1.0) in
      record {
        segment = u.0;
        held = held;
        begins = begins;
        condemned = f.bits u.0 held ∙ ap (contains x.running.condemned_segments) begins ∙ h;
      }

  pub one_left : ((t : Segment) → Contains g.segments t → x.cursor ≤ t.base → bit g.condemned (grain_of t.base) ≡ false) → ⊥
  one_left none =
      let one = run.swept.one_left in
      let c = condemned_at one.0 one.1 in
      let begins = c.begins in
      let from = one.2 in
      true≢false (sym c.condemned ∙ none c.segment c.held (omega (arith, begins, from)))

  -- ---- the last one is known

  module _ (t : Segment) (g' : SegsState) (bits_same : g'.condemned ≡ g.condemned)
      (segments_left : (g'.segments ≡ g.segments) ⊎ (g'.segments ≡ without_segment g.segments t.base)) where
    was_there : (u : Segment) → Contains g'.segments u → Contains g.segments u
    was_there u held =
        elim segments_left [
          | inl same ↦ subst (λ ss. Contains ss u) same held
          | inr without ↦
              (was_held (λ s. not (s.base == t.base)) g.segments u (subst (λ ss. Contains ss u) without held)).0
        ]

    still_there : (u : Segment) → Contains g.segments u → (u.base ≡ t.base → ⊥) → Contains g'.segments u
    still_there u held other =
        elim segments_left [
          | inl same ↦ subst (λ ss. Contains ss u) (sym same) held
          | inr without ↦
              subst (λ ss. Contains ss u) (sym without)
              (held_filtered (λ s. not (s.base == t.base)) g.segments u held (ap not (ne_eqb u.base t.base other)))
        ]

    none_after_last : is_last_condemned x.running t.base ≡ true → NoneLeft g' (suc t.base)
    none_after_last last u held above =
        let there = was_there u held in
        ap (λ bs. bit bs (grain_of u.base)) bits_same
        ∙ f.bits u there
        ∙ elim (cases_Bool (contains x.running.condemned_segments u.base)) [
          | inr out ↦ out
          | inl is ↦
              let below =
              leb-true u.base t.base
              (list_all-contains (λ other. nat_le other t.base) x.running.condemned_segments u.base last is)
              in
              absurd (omega (arith, above, below))
        ]

    last_where_none : NoneLeft g' (suc t.base) → is_last_condemned x.running t.base ≡ true
    last_where_none none =
        list_all-members (λ other. nat_le other t.base) x.running.condemned_segments (λ base h.
        elim (cases_lt t.base base) [
          | inr up_to ↦ le-leb base t.base up_to
          | inl above ↦
              let c = condemned_at base h in
              let begins = c.begins in
              let held = still_there c.segment c.held (λ e. omega (arith, e, begins, above)) in
              absurd (true≢false (sym (ap (λ bs. bit bs (grain_of c.segment.base)) bits_same ∙ c.condemned)
              ∙ none c.segment held (omega (arith, begins, above))))
        ])

    pub known : is_last_condemned x.running t.base ≡ true ↔ NoneLeft g' (suc t.base)
    known = (none_after_last, last_where_none)

-- while a collection runs, a condemned segment is left from the cursor on
pub one_is_left : (x : Collecting) (g : SegsState) (layout : ℕ → Layout) → Running x → FreesFor g x.world x.running x.colours layout
    → NoneLeft g x.cursor → ⊥
one_is_left x g layout run f none = one_left x g layout run f none
