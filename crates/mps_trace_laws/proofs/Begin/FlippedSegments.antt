-- The segments right after a flip.
use Rattle.std.proofs.Common.{◌≡◌, ◌∙◌, ℕ, ◌+◌, ◌*◌, false, List, length, Contains, sym, ap, subst}
use Rattle.std.proofs.lemmas.Bool.{false≢true, or_left, or_right}
use Rattle.std.specs.Prelude.{◌||◌, IsTrue}
use Rattle.mps_base.specs.Address.{Address, grain_of, words_of_grain}
use Rattle.mps_base.specs.Run.{IsAscending}
use Rattle.mps_base.specs.Segment.{Segment}
use Rattle.mps_base.specs.Trail.{Moves}
use Rattle.mps_extents.specs.Table.{bit}
use Rattle.mps_format.specs.Layout.{Layout}
use Rattle.mps_seg.specs.Marks.{MarkTables}
use Rattle.mps_buffer.specs.Points.{PointsState}
use Rattle.mps_seg.specs.Segs.{SegsState}
use Rattle.mps_trace.specs.Flip as flip
use Rattle.mps_trace.specs.Trace.{TraceState, traced}
use Rattle.mps_trace.specs.declared.condemn.Condemn.{Condemn}
use Rattle.mps_model.specs.Graph.{contains}
use Rattle.mps_model.specs.World.{World}
use Rattle.mps_abstract.specs.Collecting.{Collecting}
use Rattle.mps_trace_laws.specs.Image.Memory.{words_of_arena}
use Rattle.mps_trace_laws.specs.Flip.Condemned.{IsFlipOf, AreCondemnedToo, bases_of}
use Rattle.mps_trace_laws.specs.Flip.CondemnedWords.{AreWordsCondemned}
use Rattle.mps_trace_laws.specs.Flip.Reservations.{IsNothingMoved}
use Rattle.mps_trace_laws.proofs.Flip.Condemned.{flip_is_the_models, flip_condemns}
use Rattle.mps_trace_laws.proofs.Flip.CondemnedWords.{flip_condemns_words}
use Rattle.mps_trace_laws.proofs.Flip.Reservations.{flip_moves_nothing}
use Rattle.mps_trace_laws.specs.Nails.Nailed.{AreTablesWhole, AreMarkedAt}
use Rattle.mps_trace_laws.specs.Begin.Before.{StandsBefore}
use Rattle.mps_trace_laws.specs.Begin.Condemning.{MayCondemn, collecting_at_flip}
use Rattle.mps_trace_laws.proofs.Begin.HeldSegments.{begin_in_table, ready_to_condemn}
use Rattle.mps_trace_laws.specs.Fix.Ranks.{AreMarksRanked}

module _ {F : Type 0} (layout : F → Layout) (t : TraceState F) (s : SegsState) (m : Moves) (points : PointsState) (w : World)
    (what : Condemn) (b : StandsBefore layout t s m points w) (may : MayCondemn t s w what) where
  abbrev pub segments_flipped : SegsState
  segments_flipped = (flip.at_flip t.formats t.chains what points (traced t s m)).segs

  abbrev g : SegsState
  g = segments_flipped

  abbrev y : Collecting
  y = collecting_at_flip s w what

  none_condemned : (u : Segment) → Contains s.segments u → bit s.condemned (grain_of u.base) ≡ false
  none_condemned u there = b.segments.not_condemned (grain_of u.base)

  pub moved : IsNothingMoved s g
  moved = flip_moves_nothing t.formats t.chains what points (traced t s m)

  -- the segments that are condemned
  abbrev these : List Segment
  these = flip.condemned_of t.formats t.chains what s.segments

  pub models : IsFlipOf what these (flip.moving_of t.formats these) w
  models = flip_is_the_models t.formats t.chains what s.segments w b.segments.segments.same_segments may.alike b.pools.moves

  pub condemns : AreCondemnedToo s g (bases_of these)
  condemns = flip_condemns t.formats t.chains what points (traced t s m) (begin_in_table s b.segments.held b.segments.tables)

  pub condemns_words : AreWordsCondemned (λ u. flip.condemns t.formats t.chains what u.pool u.generation) s g
  condemns_words =
      flip_condemns_words t.formats t.chains what points (traced t s m)
      (ready_to_condemn s b.segments.held b.segments.tables none_condemned)

  -- ---- which are condemned

  bases : bases_of these ≡ y.running.condemned_segments
  bases = models.bases

  pub bit_is : (u : Segment) → Contains g.segments u
      → bit g.condemned (grain_of u.base) ≡ contains y.running.condemned_segments u.base
  bit_is u there = condemns.exactly none_condemned u there ∙ ap (λ (bs : List Address). contains bs u.base) bases

  pub is_held : (base : Address) → IsTrue (contains y.running.condemned_segments base)
      → (u : Segment) × Contains g.segments u × (u.base ≡ base)
  is_held base listed = condemns.held base (ap (λ (bs : List Address). contains bs base) bases ∙ listed)

  -- ---- tables and marks

  pub whole : AreTablesWhole g
  whole =
      let before = b.segments.whole.sizes in
      let words : words_of_grain * (s.grains + 1) ≡ words_of_grain * (g.grains + 1) =
      ap (λ (n : ℕ). words_of_grain * (n + 1)) (sym moved.grains)
      in
      let grains : s.grains + 1 ≡ g.grains + 1 = ap (λ (n : ℕ). n + 1) (sym moved.grains) in
      record {
        sizes = record {
          kept_size = ap (λ (k : MarkTables). length k.kept) moved.marks ∙ before.kept_size ∙ words;
          exact_size = ap (λ (k : MarkTables). length k.exact) moved.marks ∙ before.exact_size ∙ words;
          weak_size = ap (λ (k : MarkTables). length k.weak) moved.marks ∙ before.weak_size ∙ words;
          condemned_size = condemns.entries ∙ before.condemned_size ∙ grains;
          summaries_size = ap (λ (zones : List ℕ). length zones) moved.summaries ∙ before.summaries_size ∙ grains;
        };
        order =
            subst (λ (n : ℕ). IsAscending 0 (words_of_arena n) g.blocks) (sym moved.grains)
            (subst (IsAscending 0 (words_of_arena s.grains)) (sym moved.blocks) b.segments.whole.order);
      }

  pub unmarked : AreMarkedAt g (λ n. false)
  unmarked = record {
    kept = λ n. ap (λ (k : MarkTables). bit k.kept n) moved.marks ∙ b.segments.unmarked.kept n;
    grey = λ n. ap (λ (k : MarkTables). bit k.exact n || bit k.weak n) moved.marks ∙ b.segments.unmarked.grey n;
  }

  -- no block is grey
  pub ranked : AreMarksRanked g
  ranked = record {
    exact = λ n is. absurd (false≢true (sym (unmarked.grey n) ∙ or_left (bit g.marks.exact n) (bit g.marks.weak n) is));
    weak = λ n is. absurd (false≢true (sym (unmarked.grey n) ∙ or_right (bit g.marks.exact n) (bit g.marks.weak n) is));
  }
