-- A flip that condemns everything condemns each live automatic object: it lies in a held segment of its pool.
use Rattle.std.proofs.Common.{◌≡◌, inl, inr, ℕ, ◌+◌, ◌*◌, ◌/◌, ◌<◌, ◌≤◌, Bool, true, false, refl, sym, ◌∙◌, ap, subst, List, [], ◌∷◌, Option, Some, None, arith}
use Rattle.std.proofs.lemmas.Bool.{false≢true, and_parts, and_from, le-leb, lt-ltb, or_left, or_right}
use Rattle.std.specs.Prelude.{not, ◌||◌, ◌&&◌, filter, if◌then◌else◌, nat_le, nat_lt}
use Rattle.std.specs.List.{list_any}
use Rattle.std.specs.Option.{option_map_or}
use Rattle.mps_base.specs.Address.{word_of}
use Rattle.mps_base.specs.Run.{Run, end_of}
use Rattle.mps_base.specs.Segment.{Segment, end_of_segment, is_in_segment}
use Rattle.mps_model.specs.Graph.{Object, Body, Automatic, Manual, contains, entry_at, is_automatic, object_at}
use Rattle.mps_model.specs.World.{World, Pool, address_of, extent, is_automatic_kind, is_live_and, is_weak_kind, live_automatic_ids, pool_at, pool_is}
use Rattle.mps_model.specs.WellFormed.{are_right_cells, is_right_body}
use Rattle.mps_model.specs.Effect.{Everything, condemned_by, condemned_ids, lies_in_one}
use Rattle.mps_laws.proofs.Positions.Segments.{IsAmong, among_aligned}
use Rattle.mps_laws.proofs.Positions.Occupancy.{OfBlock, Shape, occupancy_of, shape_of, run_of, run_of_block}
use Rattle.mps_laws.proofs.Positions.LegalMoves.{HasLayout, live_at}
use Rattle.mps_laws.proofs.Sound.SoundGraph.{IsSoundGraph, auto}
use Rattle.mps_client_laws.proofs.Contained.{among_is_live_automatic, contains_filtered}

-- an address at which a block begins lies in the segment in whose words the block lies
in_by_words : (base at grains words : ℕ) → 4096 * (base / 4096) ≡ base → 0 < words → base / 8 ≤ at / 8
    → at / 8 + words ≤ base / 8 + 512 * grains → (base ≤ at) × (at < base + 4096 * grains)
in_by_words base at grains words on_grain some low high =
    (omega (arith, on_grain, some, low, high), omega (arith, on_grain, some, low, high))

any_filtered : (test looked : Segment → Bool) (ss : List Segment) (s : Segment) → IsAmong s ss → test s ≡ true → looked s ≡ true
    → list_any looked (filter test ss) ≡ true
any_filtered test looked [] s among passes is = absurd among
any_filtered test looked (t ∷ ts) s (inl e) passes is =
    ap (λ b. list_any looked (if b then t ∷ filter test ts else filter test ts)) (ap test e ∙ passes)
    ∙ or_left (looked t) (list_any looked (filter test ts)) (ap looked e ∙ is)
any_filtered test looked (t ∷ ts) s (inr among) passes is = by_case (test t) (any_filtered test looked ts s among passes is)
  where
    by_case : (b : Bool) → list_any looked (filter test ts) ≡ true
        → list_any looked (if b then t ∷ filter test ts else filter test ts) ≡ true
    by_case true rest = or_right (looked t) (list_any looked (filter test ts)) rest
    by_case false rest = rest

-- the held segment in which a live object lies
pub record IsLyingIn (w : World) (id at : ℕ) : Type 0 where
  pub segment : Segment
  pub held : IsAmong segment w.segments
  pub inside : is_in_segment segment at ≡ true
  pub object : Object
  pub there : object_at w.graph id ≡ Some object
  pub of_pool : segment.pool ≡ object.pool

pub lying_in : (limit : ℕ) (w : World) (id at : ℕ) → HasLayout limit w → address_of w id ≡ Some at → IsLyingIn w id at
lying_in limit w id at laid lies =
    let live = live_at limit w at id laid lies in
    let words = (shape_of live.object).words in
    let run : run_of (occupancy_of w) (OfBlock id) ≡ extent at words =
    ap (λ s. run_of_block s (entry_at w.addresses id)) live.shape ∙ ap (run_of_block (Some (shape_of live.object))) lies in
    let some = (laid.shapes id (shape_of live.object) live.shape).some in
    let home = laid.placed.homes (OfBlock id) (subst (λ (r : Run). 0 < r.count) (sym run) some) in
    let bounds = in_by_words home.segment.base at home.segment.grains words
    (among_aligned home.segment w.segments laid.aligned home.held) some
    (subst (λ (r : Run). word_of home.segment.base ≤ r.from) run home.above)
    (subst (λ (r : Run). end_of r ≤ word_of home.segment.base + 512 * home.segment.grains) run home.below) in
    record {
      segment = home.segment;
      held = home.held;
      inside =
          and_from (nat_le home.segment.base at) (nat_lt at (end_of_segment home.segment)) (le-leb home.segment.base at bounds.0)
          (lt-ltb at (end_of_segment home.segment) bounds.1);
      object = live.object;
      there = live.there;
      of_pool = home.of_pool ∙ ap (λ o. option_map_or (λ (s : Shape). s.pool) o 0) live.shape;
    }

-- the pool of an automatic object is automatic
pub pool_of_automatic : (w : World) (id : ℕ) (o : Object) → IsSoundGraph w → object_at w.graph id ≡ Some o → auto w id ≡ true
    → pool_is is_automatic_kind w o.pool ≡ true
pool_of_automatic w id o s there automatic =
    of_pool (pool_at w o.pool) (s.objects id o there) (ap (λ x. option_map_or is_automatic x false) (sym there) ∙ automatic)
  where
    of_body : (p : Pool) (b : Body) → is_right_body w p b ≡ true → Rattle.mps_model.specs.Graph.is_automatic_body b ≡ true
        → is_automatic_kind p.kind ≡ true
    of_body p (Automatic head cells is_weak) right is =
        (and_parts (is_automatic_kind p.kind) (are_right_cells w p head cells)
        (and_parts (is_automatic_kind p.kind && are_right_cells w p head cells) (not is_weak || is_weak_kind p.kind) right).0).0
    of_body p (Manual words) right is = absurd (false≢true is)

    of_pool : (p : Option Pool) → option_map_or (λ q. is_right_body w q o.body) p false ≡ true → is_automatic o ≡ true
        → option_map_or (λ q. is_automatic_kind q.kind) p false ≡ true
    of_pool None right is = absurd (false≢true right)
    of_pool (Some p) right is = of_body p o.body right is

pub all_are_condemned : (limit : ℕ) (w : World) (id : ℕ) → HasLayout limit w → IsSoundGraph w → contains (live_automatic_ids w) id ≡ true
    → contains (condemned_ids w Everything) id ≡ true
all_are_condemned limit w id laid s among =
    let parts = among_is_live_automatic w id among in
    contains_filtered (lies_in_one w (condemned_by w Everything)) (live_automatic_ids w) id among
    (of_address (address_of w id) refl parts.0 parts.1)
  where
    of_address : (o : Option ℕ) → address_of w id ≡ o → Rattle.std.specs.Prelude.is_some o ≡ true → auto w id ≡ true
        → lies_in_one w (condemned_by w Everything) id ≡ true
    of_address None lies live automatic = absurd (false≢true live)
    of_address (Some at) lies live automatic =
        let l = lying_in limit w id at laid lies in
        any_filtered (Rattle.mps_model.specs.Effect.is_condemned_by w Everything) (λ t. is_live_and (is_in_segment t) w id) w.segments
        l.segment l.held
        (ap (pool_is is_automatic_kind w) l.of_pool ∙ pool_of_automatic w id l.object s l.there automatic)
        (ap (λ o. option_map_or (is_in_segment l.segment) o false) lies ∙ l.inside)
