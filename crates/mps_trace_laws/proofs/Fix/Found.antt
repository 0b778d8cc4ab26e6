-- What stands at an address that means a live automatic object.
use Rattle.std.proofs.Common.{◌≡◌, ◌∙◌, ◌⊎◌, ℕ, zero, suc, ◌+◌, ◌-◌, ◌%◌, ◌<◌, true, refl, sym, ap, List, [], ◌∷◌, ◌++◌, length, slice_index, map, Option, Some, None, Contains, subst, inl, inr, arith, false}
use Rattle.std.proofs.lemmas.Bool.{cases_eq}
use Rattle.std.proofs.lemmas.Option.{none-some, same_Some}
use Rattle.std.proofs.lemmas.List.{get_or-drop, length-drop}
use Rattle.std.specs.Prelude.{IsTrue, option_map, slice_get}
use Rattle.std.specs.List.{AllByRecursion}
use Rattle.mps_base.specs.Address.{Address, Id, Word, word_of, address_of_word}
use Rattle.mps_base.specs.Run.{Run, Covers}
use Rattle.mps_base.specs.Segment.{Segment, segment_over, grains_of_segment}
use Rattle.mps_base.proofs.Runs.{contains_first, contains_later, contains_cases}
use Rattle.mps_format.specs.Layout.{Layout, IsLawful}
use Rattle.mps_seg.specs.Segs.{held_runs, IsOpenRun, LiesIn}
use Rattle.mps_amc.specs.Moving.{IsForwarded, IsUnforwarded, BlockStands, IsBlockOf, size_at, run_at}
use Rattle.mps_trace.specs.GenState.{ChainsState}
use Rattle.mps_model.specs.Graph.{HeadCell, Object, size_of}
use Rattle.mps_model.specs.Checked.{head_of_body}
use Rattle.mps_model.specs.World.{extent, extents_of, reserved_extents, is_copying_pool, tail_of, pool_is, is_automatic_kind}
use Rattle.mps_abstract.specs.Collecting.{Collecting}
use Rattle.mps_trace_laws.specs.Image.Memory.{Setting, Lies, memory_in, pool_layout, words_of_arena}
use Rattle.mps_trace_laws.specs.Image.Image.{CellSet, AreShaped}
use Rattle.mps_trace_laws.specs.Image.Image as image
use Rattle.mps_trace_laws.specs.Image.Fixing.{Target}
use Rattle.mps_trace_laws.proofs.Image.BlockRuns.{contained_in_order}
use Rattle.mps_trace_laws.proofs.Image.Extents.{all_extents, all_reserved, parted}
use Rattle.mps_laws.proofs.InOrder.{all_append}
use Rattle.mps_trace_laws.proofs.Image.Targets.{pool_at_target}
use Rattle.mps_laws.proofs.Positions.ApartRuns.{AreApart, all_in_order, ascending_with_run}
use Rattle.mps_laws.proofs.Positions.Segments.{among_aligned}
use Rattle.mps_trace.specs.Trace.{Traced}
use Rattle.mps_trace_laws.specs.Fix.Tracing.{setting_of, TracingStands}
use Rattle.mps_trace_laws.proofs.Fix.Hands.{contains_among, in_hand}
use Rattle.mps_format.specs.declared.pool.Policy.{Policy}

-- ---- runs

there_between : (xs ys : List Run) (r : Run) → Contains (xs ++ r ∷ ys) r
there_between [] ys r = contains_first ys r
there_between (x ∷ xs) ys r = contains_later (xs ++ r ∷ ys) r x (there_between xs ys r)

there_before : (xs ys : List Run) (r : Run) → Contains xs r → Contains (xs ++ ys) r
there_before [] ys r (k, within, is) = absurd (omega (arith, within))
there_before (x ∷ xs) ys r there =
    elim (contains_cases xs r x there) [
      | inl same ↦ subst (λ (z : Run). Contains (x ∷ xs ++ ys) z) same (contains_first (xs ++ ys) x)
      | inr later ↦ contains_later (xs ++ ys) r x (there_before xs ys r later)
    ]

grains_there : (ss : List Segment) (t : Segment) → Contains ss t → Contains (map grains_of_segment ss) (grains_of_segment t)
grains_there [] t (k, within, is) = absurd (omega (arith, within))
grains_there (s ∷ ss) t (zero, within, is) =
    subst (λ (x : Segment). Contains (grains_of_segment s ∷ map grains_of_segment ss) (grains_of_segment x)) is
    (contains_first (map grains_of_segment ss) (grains_of_segment s))
grains_there (s ∷ ss) t (suc k, within, is) =
    contains_later (map grains_of_segment ss) (grains_of_segment t) (grains_of_segment s)
    (grains_there ss t (k, omega (arith, within), is))

-- the segment over an address, where its pool is known
pub over_of_pool : (o : Option Segment) (pool : ℕ) → option_map (λ (t : Segment). t.pool) o ≡ Some pool
    → (t : Segment) × (o ≡ Some t) × (t.pool ≡ pool)
over_of_pool None pool is = absurd (none-some pool is)
over_of_pool (Some t) pool is = (t, refl, same_Some t.pool pool is)

module _ (F : Type 0) (layout : F → Layout) (formats : List (Option (Policy F))) (of : ChainsState) (at_flip : List (Option Address))
    (done : CellSet) (x : Traced) (y : Collecting)
    (shaped : AreShaped y.world.graph.objects (pool_layout y.world))
    (stands : TracingStands layout formats of at_flip done x y) where
  abbrev setting : Setting
  setting = setting_of x.segs at_flip y

  -- ---- words at hand

  -- each run of a block or of a reservation lies apart from a tail
  module _ (pool generation : ℕ) (some : 0 < (tail_of y.world pool generation).count) where
    abbrev words : Run
    words = tail_of y.world pool generation

    apart_from_all : AllByRecursion (AreApart words) x.segs.covered
    apart_from_all =
        let hands = stands.state.hands.hands pool generation in
        let held : (n : Word) → Covers words n → _ ≡ _ =
        λ n covers. in_hand x.segs stands.state.held y.world.graph.objects y.world.graph.points y.world.point_memories
        (pool_layout y.world) at_flip
        y.running.condemned (λ id. true) y.world.addresses (tail_of y.world) stands.state.hands pool generation n covers
        in
        subst (AllByRecursion (AreApart words)) (sym stands.state.image.runs.covered)
        (all_in_order (AreApart words)
        (extents_of y.world.graph.objects y.world.addresses ++ reserved_extents y.world.graph.points y.world.point_memories)
        (all_append (AreApart words) (extents_of y.world.graph.objects y.world.addresses)
        (reserved_extents y.world.graph.points y.world.point_memories)
        (all_extents (AreApart words) y.world.graph.objects y.world.addresses (λ id at o e object n c d.
        hands.free n (record { pool = pool; number = generation }) id (n - word_of at) o (held n c)
        (record { at = at; address = e; object = object; within = omega (arith, d.0, d.1); is = omega (arith, d.0) })))
        (all_reserved (AreApart words) y.world.graph.points y.world.point_memories (λ i r m live has n c d.
        hands.unreserved n (record { pool = pool; number = generation }) i (n - word_of m.reserved_at) r (held n c)
        (record { memory = m; reserved = live; has = has; within = omega (arith, d.0, d.1); is = omega (arith, d.0) })))))

    lies_in : LiesIn (held_runs x.segs) words
    lies_in =
        let home = stands.state.hands.home pool generation some in
        let aligned = among_aligned home.segment x.segs.segments stands.state.held.aligned
        (contains_among x.segs.segments home.segment home.held) in
        record {
          grains = grains_of_segment home.segment;
          there = grains_there x.segs.segments home.segment home.held;
          after = omega (arith, home.above, aligned);
          before = omega (arith, home.ends, aligned);
        }

    pub is_open : IsOpenRun x.segs.grains (held_runs x.segs) x.segs.covered words
    is_open =
        let hands = stands.state.hands.hands pool generation in
        let last = in_hand x.segs stands.state.held y.world.graph.objects y.world.graph.points y.world.point_memories
        (pool_layout y.world) at_flip
        y.running.condemned (λ id. true) y.world.addresses (tail_of y.world) stands.state.hands pool generation (words.from +
        (words.count - 1))
        (omega arith, omega (arith, some))
        in
        let within = hands.within (words.from + (words.count - 1)) (record { pool = pool; number = generation }) last in
        record {
          free =
              ascending_with_run 0 (words_of_arena x.segs.grains) words x.segs.covered
              (record { above = omega arith; below = omega (arith, within, some); some = some }) apart_from_all stands.state.covered;
          inside = lies_in;
        }

  -- ---- an address that means an object

  module _ (at : Address) (t : Id) (now : Address) (o : Object) (target : Target setting y.world.addresses t at now o) where
    positive : 0 < size_of o
    positive = let sizes = shaped.sizes t o target.object target.automatic in omega (arith, sizes.0)

    lies : (k : ℕ) → k < size_of o → Lies y.world.graph.objects y.world.addresses t k o (word_of now + k)
    lies k lt = record { at = now; address = target.there; object = target.object; within = lt; is = refl }

    pub collected : IsTrue (pool_is is_automatic_kind y.world o.pool)
    collected = stands.state.collected t o target.object target.automatic

    pub head_there : slice_index x.segs.words (word_of now) ≡ head_of_body o.body
    head_there =
        stands.state.image.words.cells t 0 o (word_of now) HeadCell refl
        (record { at = now; address = target.there; object = target.object; within = positive; is = omega arith })
        (shaped.first t o target.object target.automatic)

    -- where it is now, or where a forwarded block leads to that
    there_or_moved : (at ≡ now) ⊎ image.IsForwardedObject setting x.segs.words y.world.addresses o at now
    there_or_moved =
        elim (cases_eq at now) [
          | inl e ↦ inl e
          | inr n ↦
              elim target.means [
                | inl e ↦ absurd (n (same_Some at now (sym e ∙ target.there)))
                | inr e ↦ inr (stands.state.image.words.forwarded t at now o e target.there n target.object)
              ]
        ]

    -- an object of a pool that doesn't move its blocks is there
    pub there_if_still : is_copying_pool y.world o.pool ≡ false → at ≡ now
    there_if_still isnt =
        elim target.means [
          | inl e ↦ same_Some at now (sym e ∙ target.there)
          | inr e ↦ stands.state.still t o at now target.object isnt e target.there
        ]

    pub is_aligned : at % 8 ≡ 0
    is_aligned =
        elim target.means [
          | inl e ↦ (stands.state.image.placed.address t at e).aligned
          | inr e ↦ (stands.state.image.placed.address_at_flip t at e).aligned
        ]

    pub in_arena : word_of at < length x.segs.words
    in_arena =
        elim there_or_moved [
          | inl e ↦
              let within = stands.state.image.placed.within t 0 o (word_of now + 0) (lies 0 positive) in
              omega (arith, within, stands.state.image.words.long, e)
          | inr f ↦
              let whole = f.begins.whole in
              omega (arith, whole, f.begins.in_range.0, length-drop (word_of at) x.segs.words)
        ]

    -- the segment over it
    pub its_segment : (s : Segment) × (segment_over x.segs.segments at ≡ Some s) × (s.pool ≡ o.pool)
    its_segment =
        let begins : address_of_word (word_of at) ≡ at = omega (arith, is_aligned) in
        over_of_pool (segment_over x.segs.segments at) o.pool
        (ap (λ a. option_map (λ (s : Segment). s.pool) (segment_over x.segs.segments a)) (sym begins)
        ∙ pool_at_target setting (memory_in x.segs) y.world.addresses y.colours done shaped stands.state.image t at now o target)

    module _ (format : Policy F) (listed : slice_get formats o.pool ≡ Some (Some format)) where
      abbrev f : Layout
      f = pool_layout y.world o.pool

      -- where no forwarded block is the object is
      pub unforwarded_there : IsUnforwarded f x.segs.words at → at ≡ now
      unforwarded_there isnt =
          elim there_or_moved [
            | inl e ↦ e
            | inr moved ↦ absurd (isnt (size_of o) moved.begins)
          ]

      pub size_is : at ≡ now → size_at f x.segs.words at ≡ size_of o
      size_is e =
          ap (λ a. size_at f x.segs.words a) e ∙ ap f.size head_there ∙ shaped.whole t o target.object target.automatic

      pub block_stands : at ≡ now → BlockStands f x.segs.words at (size_at f x.segs.words at)
      block_stands e =
          let within = stands.state.image.placed.within t (size_of o - 1) o (word_of now + (size_of o - 1)) (lies (size_of o - 1) (omega
          (arith, positive))) in
          record {
            valid =
                subst (λ h. IsTrue (f.is_valid h)) (sym (ap (λ a. slice_index x.segs.words (word_of a)) e ∙ head_there))
                (shaped.valid t o target.object target.automatic);
            whole = refl;
            within = omega (arith, within, positive, stands.state.image.words.long, e, size_is e);
          }

      pub block_of : at ≡ now → IsBlockOf x.segs at (size_at f x.segs.words at)
      block_of e =
          let run : run_at at (size_at f x.segs.words at) ≡ extent now (size_of o) =
          ap (λ n. run_at at n) (size_is e) ∙ ap (λ a. run_at a (size_of o)) e
          in
          let parts = parted y.world.graph.objects y.world.addresses t now o target.object target.there in
          let among : Contains (extents_of y.world.graph.objects y.world.addresses) (extent now (size_of o)) =
          subst (λ rs. Contains rs (extent now (size_of o))) (sym parts.is) (there_between parts.before parts.after (extent now
          (size_of o)))
          in
          record {
            there =
                subst (Contains x.segs.blocks) (sym run)
                (subst (λ rs. Contains rs (extent now (size_of o))) (sym stands.state.image.runs.blocks)
                (contained_in_order (extents_of y.world.graph.objects y.world.addresses) (extent now (size_of o)) among));
            covered =
                subst (Contains x.segs.covered) (sym run)
                (subst (λ rs. Contains rs (extent now (size_of o))) (sym stands.state.image.runs.covered)
                (contained_in_order
                (extents_of y.world.graph.objects y.world.addresses ++ reserved_extents y.world.graph.points y.world.point_memories)
                (extent now (size_of o))
                (there_before (extents_of y.world.graph.objects y.world.addresses)
                (reserved_extents y.world.graph.points y.world.point_memories) (extent now (size_of o)) among)));
          }

      its_lawful : IsLawful f
      its_lawful = shaped.lawful o.pool

      pub leads_to : (to : Address) → IsForwarded f x.segs.words at to → to % 8 ≡ 0
      leads_to to is =
          elim there_or_moved [
            | inl e ↦
                absurd (its_lawful.disjoint.valid_or_forwarded (slice_index x.segs.words (word_of at)) is.size (block_stands e).valid
                is.begins.in_range
                (ap (slice_index x.segs.words) (let z : word_of at ≡ word_of at + 0 = omega arith in z)
                ∙ sym (get_or-drop (word_of at) x.segs.words 0 0) ∙ is.begins.head))
            | inr moved ↦
                let aligned = (stands.state.image.placed.address t now target.there).aligned in omega
                (arith, aligned, is.leads, moved.leads)
          ]
