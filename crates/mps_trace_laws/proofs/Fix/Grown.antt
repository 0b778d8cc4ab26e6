-- A segment was taken for a copy: the state stands for the world with that segment, whose words are at hand.
use Rattle.std.proofs.Common.{◌≡◌, ◌∙◌, ℕ, ◌*◌, true, false, sym, ap, List, Option, Contains, subst, inl, inr}
use Rattle.std.proofs.lemmas.Bool.{cases_Bool}
use Rattle.mps_base.specs.Address.{Address, word_of, grain_of, words_of_grain}
use Rattle.mps_base.specs.Segment.{Segment, words_of_segment, with_segment}
use Rattle.mps_base.specs.declared.names.Rank.TheVariants.{Exact}
use Rattle.mps_extents.specs.Table.{bit}
use Rattle.mps_format.specs.Layout.{Layout}
use Rattle.mps_seg.specs.Segs.{SegsState}
use Rattle.mps_seg.specs.declared.buffer.Buffer.{Buffer}
use Rattle.mps_seg.specs.Buffer.{run_of}
use Rattle.mps_amc.specs.Amc.{AmcState, HasTail}
use Rattle.mps_amc.specs.Amc as amc
use Rattle.mps_amc.proofs.Tails.{tail_written}
use Rattle.mps_trace.specs.GenState.{ChainsState}
use Rattle.mps_laws.proofs.Positions.Segments.{among_with, among_cases}
use Rattle.mps_laws.proofs.Positions.Tails.{own_tail, other_tail}
use Rattle.mps_model.specs.Graph.{contains}
use Rattle.mps_model.specs.World.{with_tail, tail_of}
use Rattle.mps_model.specs.Effect.{holding}
use Rattle.mps_abstract.specs.Collecting.{Collecting}
use Rattle.mps_trace_laws.specs.Image.Memory.{memory_in, pool_layout}
use Rattle.mps_trace_laws.specs.Image.Image.{CellSet}
use Rattle.mps_trace_laws.specs.Fix.Tracing.{StateStands}
use Rattle.mps_trace_laws.proofs.Fix.Growing.{IsFree, with_one, held_more, tables_more, grows, its_bit, other_bit, other_grain}
use Rattle.mps_trace_laws.proofs.Fix.Hands.{contains_among}
use Rattle.mps_trace_laws.proofs.Fix.Taking.{which}
use Rattle.mps_trace_laws.proofs.Fix.NewTail.{IsNewTail, among_contains, new_tails}
use Rattle.mps_trace_laws.proofs.Fix.Copied.{has_still, other_buffer}
use Rattle.mps_trace_laws.proofs.Fix.OneFix.{image_grown}
use Rattle.mps_format.specs.declared.pool.Policy.{Policy}

-- the words of a segment
abbrev pub buffer_of : Segment → Buffer
buffer_of u = record { from = word_of u.base; count = words_of_grain * u.grains }

-- the abstract collector with a segment more, whose words are at hand
abbrev pub grown_in : Collecting → Segment → Collecting
grown_in y u = record y { world = with_tail (holding y.world u) u.pool u.generation (words_of_segment u) }

module _ (F : Type 0) (layout : F → Layout) (formats : List (Option (Policy F))) (of : ChainsState) (at_flip : List (Option Address))
    (done : CellSet) (state : AmcState) (s : SegsState) (y : Collecting)
    (stands : StateStands layout formats of at_flip done state s y) (u : Segment) (exact : u.rank ≡ Exact)
    (free : IsFree s u)
    (has : HasTail state u.pool u.generation) where
  abbrev after : Collecting
  after = grown_in y u

  abbrev state_after : AmcState
  state_after = amc.with_tail state u.pool u.generation (buffer_of u)

  new : IsNewTail (tail_of y.world) (tail_of after.world) u
  new = record {
    own = own_tail y.world.tails u.pool u.generation (words_of_segment u);
    others = λ p g other. other_tail y.world.tails u.pool u.generation p g (words_of_segment u) (λ e f. other (sym e) (sym f));
  }

  same_tails : (p g : ℕ) → run_of (amc.tail_of state_after p g) ≡ tail_of after.world p g
  same_tails p g =
      elim (which p g u.pool u.generation) [
        | inl same ↦
            let own : run_of (amc.tail_of state_after u.pool u.generation) ≡ tail_of after.world u.pool u.generation =
            ap run_of (tail_written state u.pool u.generation (buffer_of u) has) ∙ sym new.own
            in
            subst (λ q. run_of (amc.tail_of state_after q g) ≡ tail_of after.world q g) (sym same.0)
            (subst (λ h. run_of (amc.tail_of state_after u.pool h) ≡ tail_of after.world u.pool h) (sym same.1) own)
        | inr other ↦
            ap run_of (other_buffer state u.pool u.generation (buffer_of u) has p g other) ∙ stands.tails.same p g
            ∙ sym (new.others p g other)
      ]

  -- it is condemned neither by its bit nor by its address
  not_listed : contains y.running.condemned_segments u.base ≡ false
  not_listed =
      elim (cases_Bool (contains y.running.condemned_segments u.base)) [
        | inl is ↦
            let held = stands.condemned.is_held u.base is in
            absurd (other_grain s stands.held stands.tables u free held.0 (contains_among s.segments held.0 held.1) (ap grain_of held.2))
        | inr isnt ↦ isnt
      ]

  bit_is : (t : Segment) → Contains (with_one s u).segments t
      → bit (with_one s u).condemned (grain_of t.base) ≡ contains y.running.condemned_segments t.base
  bit_is t there =
      elim (among_cases u t s.segments (contains_among (with_one s u).segments t there)) [
        | inl same ↦
            subst (λ (v : Segment). bit (with_one s u).condemned (grain_of v.base) ≡ contains y.running.condemned_segments v.base) same
            (its_bit s stands.held stands.tables u free ∙ sym not_listed)
        | inr old ↦
            other_bit s stands.held stands.tables u free t old ∙ stands.condemned.is_bit t (among_contains s.segments t old)
      ]

  pub grown_stands : StateStands layout formats of at_flip done state_after (with_one s u) after
  grown_stands =
      let grown = grows s stands.held stands.tables u free in
      record {
        segments = record {
          same_grains = stands.segments.same_grains;
          same_limit = stands.segments.same_limit;
          same_segments = ap (with_segment u) stands.segments.same_segments;
        };
        held = held_more s stands.held stands.tables u free;
        tables = tables_more s stands.held stands.tables u free;
        covered = stands.covered;
        reserved = λ point l r n there. let old = stands.reserved point l r n there in (old.0, grown.pools n old.0 old.1);
        condemned = record {
          is_bit = bit_is;
          is_held = λ base is.
              let old = stands.condemned.is_held base is in (
                old.0,
                among_contains (with_one s u).segments old.0
                    (among_with u old.0 s.segments (contains_among s.segments old.0 old.1)),
                old.2,
              );
        };
        image =
            image_grown s (with_one s u) grown at_flip y (memory_in s) y.world.addresses y.colours done stands.image;
        pools = stands.pools;
        collected = stands.collected;
        still = stands.still;
        tails = record {
          has = λ p g is. has_still state u.pool u.generation (buffer_of u) has p _ (stands.tails.has p g is);
          same = same_tails;
        };
        hands =
            new_tails s stands.held y.world.graph.objects y.world.graph.points y.world.point_memories (pool_layout y.world) at_flip
            y.running.condemned (λ id. true) y.world.addresses stands.tables stands.image.placed stands.reserved u exact free
            (tail_of y.world)
            (tail_of after.world) stands.hands new;
      }
