-- What an arena that is laid out gives of well-formedness: segments, extents apart, and where objects, reservations and words at
-- hand lie.
use Rattle.std.proofs.Common.{◌≡◌, ◌∙◌, ◌⊎◌, ℕ, zero, suc, ◌+◌, ◌*◌, ◌<◌, ◌≤◌, Bool, true, false, refl, sym, ap, List, [], ◌∷◌, ◌++◌, Option, Some, None, subst, inl, inr, arith}
use Rattle.std.proofs.lemmas.Bool.{cases_Bool, false≢true, true≢false, and_parts, and_from, le-leb, lt-ltb, ltb-true, eq-eqb, eqb-true, or_left, or_right}
use Rattle.std.proofs.lemmas.List.Elements.{filter-append}
use Rattle.std.specs.Prelude.{map, slice_get, filter, find, ◌≢◌, ◌==◌, ◌&&◌, ◌||◌, not, nat_le, nat_lt, if◌then◌else◌, is_some}
use Rattle.std.specs.Option.{option_map_or}
use Rattle.std.specs.List.{AllByRecursion, list_all, list_any}
use Rattle.mps_base.specs.Address.{address_of_grain, grain_of}
use Rattle.mps_base.specs.Run.{Run, Covers, IsAscending, end_of, in_order}
use Rattle.mps_base.specs.Segment.{Segment, words_of_segment, grains_of_segment, same_rank}
use Rattle.mps_base.specs.declared.names.Rank.{Rank}
use Rattle.mps_base.specs.declared.names.Rank.TheVariants as rank
use Rattle.mps_model.specs.Graph.{Object, entry_at, size_of, is_weak_object}
use Rattle.mps_model.specs.World.{World, PointMemory, Tail, covered, extent, is_tail_of, live_ids, numbers_of, pool_of, words_of, object_is, is_weak_kind, pool_is, empty_run}
use Rattle.mps_model.specs.Making.{is_weak_rank}
use Rattle.mps_model.specs.WellFormed.{are_apart, lies_within, is_in_segment_of, is_home, is_right_segment, is_right_place, is_right_at_hand, at_hand}
use Rattle.mps_laws.proofs.InOrder.{all_weaker, all_append}
use Rattle.mps_laws.proofs.Positions.ApartRuns.{AreApart, AreAllApart, IsRunWithin, all_above, all_in_order, apart_append, ascending_in_order}
use Rattle.mps_laws.proofs.Positions.Segments.{IsAmong, AreAligned, segment_bounds}
use Rattle.mps_laws.proofs.Positions.Tails.{AreKeyed}
use Rattle.mps_laws.proofs.Positions.Occupancy.{Occupancy, Occupant, OfBlock, OfBuffer, OfTail, shape_of, occupancy_of, run_of, run_of_block, run_of_buffer, run_of_tail, pool_of_occupant, rank_of_occupant, rank_where}
use Rattle.mps_laws.proofs.Positions.LaidOut.{Home, IsLaidOut, IsRightlyRanked, is_at_hand}
use Rattle.mps_laws.proofs.Positions.Covered.{covered_in, covered-shapes, listed, all_listed, covered_ascending, occupant_within}
use Rattle.mps_laws.proofs.Positions.LegalMoves.{HasLayout, live_at}

-- ---- runs that ascend

pub ascending_apart : (low high : ℕ) (rs : List Run) → IsAscending low high rs → are_apart rs ≡ true
ascending_apart low high [] asc = refl
ascending_apart low high (r ∷ []) asc = refl
ascending_apart low high (r ∷ s ∷ rs) asc =
    and_from (nat_le (end_of r) s.from) (are_apart (s ∷ rs)) (le-leb (end_of r) s.from (asc.2).0)
    (ascending_apart (end_of r) high (s ∷ rs) asc.2)

ascending_all_apart : (low high : ℕ) (rs : List Run) → IsAscending low high rs → AreAllApart rs
ascending_all_apart low high [] asc = tt
ascending_all_apart low high (r ∷ rs) asc = (
  all_weaker (λ s. end_of r ≤ s.from) (AreApart r) rs (λ s h n i j. omega (arith, h, i.1, j.0)) (all_above (end_of r) high rs asc.2),
  ascending_all_apart (end_of r) high rs asc.2,
)

-- ---- segments

any_among : {X : Type 0} (p : X → Bool) (xs : List X) (x : X) → IsAmong x xs → p x ≡ true → list_any p xs ≡ true
any_among p [] x h k = absurd h
any_among p (y ∷ ys) x (inl e) k = or_left (p y) (list_any p ys) (subst (λ z. p z ≡ true) (sym e) k)
any_among p (y ∷ ys) x (inr h) k = or_right (p y) (list_any p ys) (any_among p ys x h k)

pub segments_right : (w : World) (ss : List Segment) (low : ℕ) → 0 < low → IsAscending low (w.grains + 1) (map grains_of_segment ss)
    → AreAligned ss
    → AllByRecursion (IsRightlyRanked w.pools) ss → list_all (is_right_segment w) ss ≡ true
segments_right w [] low some asc aligned ranked = refl
segments_right w (s ∷ ss) low some asc aligned ranked =
    let a = aligned.0 in
    let bounds = segment_bounds low (w.grains + 1) (s ∷ ss) s asc (inl refl) in
    and_from (is_right_segment w s) (list_all (is_right_segment w) ss)
    (and_from (address_of_grain (grains_of_segment s).from ==
    s.base && nat_lt 0 s.grains && lies_within (record { from = 1; count = w.grains }) (grains_of_segment s))
    (not (is_weak_rank s.rank) || pool_is is_weak_kind w s.pool)
    (and_from (address_of_grain (grains_of_segment s).from == s.base && nat_lt 0 s.grains)
    (lies_within (record { from = 1; count = w.grains }) (grains_of_segment s))
    (and_from (address_of_grain (grains_of_segment s).from == s.base) (nat_lt 0 s.grains)
    (eq-eqb (address_of_grain (grains_of_segment s).from) s.base a)
    (lt-ltb 0 s.grains bounds.1))
    (and_from (nat_le 1 (grain_of s.base)) (nat_le (grain_of s.base + s.grains) (1 + w.grains))
    (le-leb 1 (grain_of s.base) (omega (arith, some, bounds.0)))
    (le-leb (grain_of s.base + s.grains) (1 + w.grains) (omega (arith, bounds.2)))))
    (ranked_or (is_weak_rank s.rank) (pool_is is_weak_kind w s.pool) ranked.0))
    (segments_right w ss (end_of (grains_of_segment s)) (omega (arith, some, bounds.0, bounds.1)) asc.2 aligned.1 ranked.1)
  where
    ranked_or : (b c : Bool) → (b ≡ true → c ≡ true) → (not b || c) ≡ true
    ranked_or true c h = h refl
    ranked_or false c h = refl

-- ---- words at hand, as a list

abbrev has_some : Run → Bool
has_some r = nat_lt 0 r.count

abbrev buffer_in : PointMemory → Run
buffer_in m = m.buffer

abbrev words_in : Tail → Run
words_in t = t.words

all_somewhere : (P : Run → Type 0) (rs : List Run) → AllByRecursion (λ (r : Run). 0 < r.count → P r) rs
    → AllByRecursion P (filter has_some rs)
all_somewhere P [] all = tt
all_somewhere P (r ∷ rs) all =
    elim (has_some r) as (λ b. has_some r ≡ b → AllByRecursion P (if b then r ∷ filter has_some rs else filter has_some rs)) [
      | true ↦ (λ is. (all.0 (ltb-true 0 r.count is), all_somewhere P rs all.1))
      | false ↦ (λ isnt. all_somewhere P rs all.1)
    ] refl

-- apart, where they have any words
abbrev AreApartWhereSome : List Run → Type 0
AreApartWhereSome [] = Unit {0}
AreApartWhereSome (r ∷ rs) = (0 < r.count → AllByRecursion (λ (s : Run). 0 < s.count → AreApart r s) rs) × AreApartWhereSome rs

some_apart : (rs : List Run) → AreApartWhereSome rs → AreAllApart (filter has_some rs)
some_apart [] apart = tt
some_apart (r ∷ rs) apart =
    elim (has_some r) as (λ b. has_some r ≡ b → AreAllApart (if b then r ∷ filter has_some rs else filter has_some rs)) [
      | true ↦ (λ is. (all_somewhere (AreApart r) rs (apart.0 (ltb-true 0 r.count is)), some_apart rs apart.1))
      | false ↦ (λ isnt. some_apart rs apart.1)
    ] refl

all_buffers : (P : Run → Type 0) (ms : List PointMemory) → ((n : ℕ) (m : PointMemory) → slice_get ms n ≡ Some m → P m.buffer)
    → AllByRecursion P (map buffer_in ms)
all_buffers P [] each = tt
all_buffers P (m ∷ ms) each = (each zero m refl, all_buffers P ms (λ n k e. each (suc n) k e))

buffers_apart : (ms : List PointMemory)
    → ((i j : ℕ) (m k : PointMemory) → i ≢ j → slice_get ms i ≡ Some m → slice_get ms j ≡ Some k → AreApart m.buffer k.buffer)
    → AreApartWhereSome (map buffer_in ms)
buffers_apart [] each = tt
buffers_apart (m ∷ ms) each = (
  (λ some. all_buffers (λ (s : Run). 0 < s.count → AreApart m.buffer s) ms
      (λ n k e some'. each zero (suc n) m k (λ h. omega (arith, h)) refl e)),
  buffers_apart ms (λ i j m' k n e f. each (suc i) (suc j) m' k (λ h. n (omega (arith, h))) e f),
)

module _ (limit : ℕ) (g : Occupancy) (laid : IsLaidOut limit g) where
  -- each tail is the one that is found
  abbrev IsFound : Tail → Type 0
  IsFound t = run_of_tail g.tails t.pool t.generation ≡ t.words

  skipped : (ts : List Tail) (t u : Tail) → is_tail_of t.pool t.generation u ≡ false
      → find (is_tail_of u.pool u.generation) (t ∷ ts) ≡ find (is_tail_of u.pool u.generation) ts
  skipped ts t u h =
      ap (λ b. if b then Some t else find (is_tail_of u.pool u.generation) ts) (other (cases_Bool (is_tail_of u.pool u.generation t)))
    where
      other : (is_tail_of u.pool u.generation t ≡ true) ⊎ (is_tail_of u.pool u.generation t ≡ false)
          → is_tail_of u.pool u.generation t ≡ false
      other (inr isnt) = isnt
      other (inl is) =
          let parts = and_parts (t.pool == u.pool) (t.generation == u.generation) is in
          absurd (false≢true (sym h ∙ and_from (u.pool == t.pool) (u.generation == t.generation)
          (eq-eqb u.pool t.pool (sym (eqb-true t.pool u.pool parts.0)))
          (eq-eqb u.generation t.generation (sym (eqb-true t.generation u.generation parts.1)))))

  found_in : (ts : List Tail) → AreKeyed ts → AllByRecursion (λ (t : Tail). find (is_tail_of t.pool t.generation) ts ≡ Some t) ts
  found_in [] keyed = tt
  found_in (t ∷ ts) keyed = (
    ap (λ b. if b then Some t else find (is_tail_of t.pool t.generation) ts)
        (and_from (t.pool == t.pool) (t.generation == t.generation) (eq-eqb t.pool t.pool refl) (eq-eqb t.generation t.generation refl)),
    later ts keyed.0 (found_in ts keyed.1),
  )
    where
      later : (us : List Tail) → AllByRecursion (λ (u : Tail). is_tail_of t.pool t.generation u ≡ false) us
          → AllByRecursion (λ (u : Tail). find (is_tail_of u.pool u.generation) ts ≡ Some u) us
          → AllByRecursion (λ (u : Tail). find (is_tail_of u.pool u.generation) (t ∷ ts) ≡ Some u) us
      later [] others all = tt
      later (u ∷ us) others all = (skipped ts t u others.0 ∙ all.0, later us others.1 all.1)

  pub all_found : AllByRecursion IsFound g.tails
  all_found =
      all_weaker (λ (t : Tail). find (is_tail_of t.pool t.generation) g.tails ≡ Some t) IsFound g.tails
      (λ t e. ap (λ o. option_map_or (λ (x : Tail). x.words) o empty_run) e) (found_in g.tails laid.keyed)

  apart_by : (a b : Occupant) (r s : Run) → run_of g a ≡ r → run_of g b ≡ s → (a ≡ b → ⊥) → AreApart r s
  apart_by a b r s e f n k c d =
      n (laid.placed.apart a b k (subst (λ (x : Run). Covers x k) (sym e) c) (subst (λ (x : Run). Covers x k) (sym f) d))

  abbrev pool_in : Occupant → ℕ
  pool_in (OfTail pool generation) = pool
  pool_in _ = 0

  abbrev generation_in : Occupant → ℕ
  generation_in (OfTail pool generation) = generation
  generation_in (OfBuffer point) = point
  generation_in _ = 0

  abbrev is_buffer : Occupant → Bool
  is_buffer (OfBuffer point) = true
  is_buffer _ = false

  all_tails : (P : Run → Type 0) (ts : List Tail) → AllByRecursion (λ (t : Tail). P t.words) ts → AllByRecursion P (map words_in ts)
  all_tails P [] all = tt
  all_tails P (t ∷ ts) all = (all.0, all_tails P ts all.1)

  both : (P Q R : Tail → Type 0) (ts : List Tail) → ((t : Tail) → P t → Q t → R t) → AllByRecursion P ts → AllByRecursion Q ts
      → AllByRecursion R ts
  both P Q R [] f all all' = tt
  both P Q R (t ∷ ts) f all all' = (f t all.0 all'.0, both P Q R ts f all.1 all'.1)

  tails_apart : (ts : List Tail) → AreKeyed ts → AllByRecursion IsFound ts → AreApartWhereSome (map words_in ts)
  tails_apart [] keyed found = tt
  tails_apart (t ∷ ts) keyed found = (
    (λ some. all_tails (λ (s : Run). 0 < s.count → AreApart t.words s) ts
        (both (λ (u : Tail). is_tail_of t.pool t.generation u ≡ false) IsFound
        (λ (u : Tail). 0 < u.words.count → AreApart t.words u.words) ts
        (λ u other e some'. apart_by (OfTail t.pool t.generation) (OfTail u.pool u.generation) t.words u.words found.0 e
        (λ same. false≢true (sym other ∙ and_from (u.pool == t.pool) (u.generation == t.generation)
        (eq-eqb u.pool t.pool (sym (ap pool_in same))) (eq-eqb u.generation t.generation
        (sym (ap generation_in same)))))) keyed.0 found.1)),
    tails_apart ts keyed.1 found.1,
  )

  abbrev hand_list : List Run
  hand_list = filter has_some (map buffer_in g.memories ++ map words_in g.tails)

  -- what holds of the words at hand of each occupant holds of all of the list
  all_hand : (P : Run → Type 0) → ((o : Occupant) → is_at_hand o ≡ true → 0 < (run_of g o).count → P (run_of g o))
      → AllByRecursion P hand_list
  all_hand P each =
      all_somewhere P (map buffer_in g.memories ++ map words_in g.tails)
      (all_append (λ (r : Run). 0 < r.count → P r) (map buffer_in g.memories) (map words_in g.tails)
      (all_buffers (λ (r : Run). 0 < r.count → P r) g.memories (λ n m e some.
      let is : run_of g (OfBuffer n) ≡ m.buffer = ap run_of_buffer e in
      subst P is (each (OfBuffer n) refl (subst (λ (r : Run). 0 < r.count) (sym is) some))))
      (all_tails (λ (r : Run). 0 < r.count → P r) g.tails
      (all_weaker IsFound (λ (t : Tail). 0 < t.words.count → P t.words) g.tails
      (λ t e some. subst P e (each (OfTail t.pool t.generation) refl (subst (λ (r : Run). 0 < r.count) (sym e) some))) all_found)))

  hand_apart : AreAllApart hand_list
  hand_apart =
      subst AreAllApart (sym (filter-append has_some (map buffer_in g.memories) (map words_in g.tails)))
      (apart_append (filter has_some (map buffer_in g.memories)) (filter has_some (map words_in g.tails))
      (some_apart (map buffer_in g.memories) (buffers_apart g.memories (λ i j m k n e f.
      apart_by (OfBuffer i) (OfBuffer j) m.buffer k.buffer (ap run_of_buffer e) (ap run_of_buffer f) (λ h. n (ap generation_in h)))))
      (some_apart (map words_in g.tails) (tails_apart g.tails laid.keyed all_found))
      (all_somewhere (λ x. AllByRecursion (AreApart x) (filter has_some (map words_in g.tails))) (map buffer_in g.memories)
      (all_buffers (λ (x : Run). 0 < x.count → AllByRecursion (AreApart x) (filter has_some (map words_in g.tails))) g.memories
      (λ n m e some.
      all_somewhere (AreApart m.buffer) (map words_in g.tails)
      (all_tails (λ (r : Run). 0 < r.count → AreApart m.buffer r) g.tails
      (all_weaker IsFound (λ (t : Tail). 0 < t.words.count → AreApart m.buffer t.words) g.tails
      (λ t f some'. apart_by (OfBuffer n) (OfTail t.pool t.generation) m.buffer t.words (ap run_of_buffer e) f
      (λ h. true≢false (ap is_buffer h))) all_found))))))

  -- what lies somewhere lies apart from all else, and from the words at hand
  pub all_apart : are_apart (in_order (covered_in g ++ hand_list)) ≡ true
  all_apart =
      let high = 512 * limit in
      ascending_apart 0 high (in_order (covered_in g ++ hand_list))
      (ascending_in_order high (covered_in g ++ hand_list)
      (all_append (IsRunWithin 0 high) (covered_in g) hand_list
      (all_in_order (IsRunWithin 0 high) (listed limit g laid)
      (all_listed limit g laid (IsRunWithin 0 high) (λ o h some. occupant_within limit g laid o some)))
      (all_hand (IsRunWithin 0 high) (λ o h some. occupant_within limit g laid o some)))
      (apart_append (covered_in g) hand_list (ascending_all_apart 0 high (covered_in g) (covered_ascending limit g laid)) hand_apart
      (all_in_order (λ x. AllByRecursion (AreApart x) hand_list) (listed limit g laid)
      (all_listed limit g laid (λ x. AllByRecursion (AreApart x) hand_list) (λ a h some.
      all_hand (AreApart (run_of g a)) (λ b k some' n c d.
      false≢true (sym h ∙ ap is_at_hand (laid.placed.apart a b n c d) ∙ k)))))))

-- ---- homes

module _ (w : World) where
  within : (s : Segment) (r : Run) → (words_of_segment s).from ≤ r.from → end_of r ≤ end_of (words_of_segment s)
      → lies_within (words_of_segment s) r ≡ true
  within s r above below =
      and_from (nat_le (words_of_segment s).from r.from) (nat_le (end_of r) (end_of (words_of_segment s)))
      (le-leb (words_of_segment s).from r.from above)
      (le-leb (end_of r) (end_of (words_of_segment s)) below)

  same_as : (s : Rank) (b : Bool) → s ≡ rank_where b → same_rank s (if b then rank.Weak else rank.Exact) ≡ true
  same_as s true e = ap (λ r. same_rank r rank.Weak) e
  same_as s false e = ap (λ r. same_rank r rank.Exact) e

  -- a home of a pool and a rank
  pub home_is : (o : Occupant) (pool : ℕ) (b : Bool) (at_rank : Rank) (r : Run) {condemned : List ℕ} → at_rank ≡ rank_where b
      → Home w.segments w.pools condemned o pool at_rank r → is_home w pool b r ≡ true
  home_is o pool b at_rank r e home =
      any_among (λ s. s.pool == pool && same_rank s.rank (if b then rank.Weak else rank.Exact) && lies_within
      (words_of_segment s) r) w.segments home.segment home.held
      (and_from (home.segment.pool == pool && same_rank home.segment.rank (if b then rank.Weak else rank.Exact))
      (lies_within (words_of_segment home.segment) r)
      (and_from (home.segment.pool == pool) (same_rank home.segment.rank (if b then rank.Weak else rank.Exact))
      (eq-eqb home.segment.pool pool home.of_pool)
      (same_as home.segment.rank b (home.of_rank ∙ e)))
      (within home.segment r home.above home.below))

  pub at_hand_is : (o : Occupant) (pool : ℕ) (at_rank : Rank) (r : Run) {condemned : List ℕ}
      → (0 < r.count → Home w.segments w.pools condemned o pool at_rank r) → is_right_at_hand w pool r ≡ true
  at_hand_is o pool at_rank r {condemned} home =
      elim (cases_Bool (r.count == 0)) [
        | inl none ↦ or_left (r.count == 0) (is_in_segment_of w pool (λ s. true) r) none
        | inr some ↦
            or_right (r.count == 0) (is_in_segment_of w pool (λ s. true) r)
            (in_one (home (has r.count some)))
      ]
    where
      has : (n : ℕ) → (n == 0) ≡ false → 0 < n
      has zero h = absurd (true≢false h)
      has (suc n) h = omega arith

      in_one : Home w.segments w.pools condemned o pool at_rank r → is_in_segment_of w pool (λ s. true) r ≡ true
      in_one h =
          any_among (λ s. s.pool == pool && true && lies_within (words_of_segment s) r) w.segments h.segment h.held
          (and_from (h.segment.pool == pool && true) (lies_within (words_of_segment h.segment) r)
          (and_from (h.segment.pool == pool) true (eq-eqb h.segment.pool pool h.of_pool) refl) (within h.segment r h.above h.below))

-- ---- objects, and tails

module _ (limit : ℕ) (w : World) (laid : HasLayout limit w) where
  pub place_right : (id at : ℕ) → entry_at w.addresses id ≡ Some at → is_right_place w id ≡ true
  place_right id at e =
      let x = live_at limit w at id laid e in
      let run : run_of (occupancy_of w) (OfBlock id) ≡ extent at (words_of w id) =
      ap (λ o. run_of_block o (entry_at w.addresses id)) x.shape ∙ ap (run_of_block (Some (shape_of x.object))) e
      ∙ ap (λ o. extent at (option_map_or size_of o 0)) (sym x.there) in
      let some : 0 < (run_of (occupancy_of w) (OfBlock id)).count =
      subst (λ (r : Run). 0 < r.count) (sym (ap (λ o. run_of_block o (entry_at w.addresses id)) x.shape
      ∙ ap (run_of_block (Some (shape_of x.object))) e))
      (laid.shapes id (shape_of x.object) x.shape).some in
      let home = laid.placed.homes (OfBlock id) some in
      let pool : pool_of_occupant (occupancy_of w) (OfBlock id) ≡ pool_of w id =
      ap (λ o. option_map_or (λ s. s.pool) o 0) x.shape ∙ sym (ap (λ o. option_map_or (λ (y : Object). y.pool) o 0) x.there) in
      let ranked : rank_of_occupant (occupancy_of w) (OfBlock id) ≡ rank_where (object_is is_weak_object w id) =
      ap (λ o. option_map_or (λ s. rank_where s.is_weak) o rank.Exact) x.shape
      ∙ sym (ap (λ o. rank_where (option_map_or is_weak_object o false)) x.there) in
      ap (λ o. option_map_or (λ a. is_home w (pool_of w id) (object_is is_weak_object w id) (extent a (words_of w id))) o false) e
      ∙ home_is w (OfBlock id) (pool_of w id) (object_is is_weak_object w id) (rank_of_occupant (occupancy_of w) (OfBlock id))
      (extent at (words_of w id)) ranked
      (subst (λ (p : ℕ). Home w.segments w.pools (occupancy_of w).condemned (OfBlock id) p
      (rank_of_occupant (occupancy_of w) (OfBlock id)) (extent at (words_of w id))) pool
      (subst (Home w.segments w.pools (occupancy_of w).condemned (OfBlock id) (pool_of_occupant (occupancy_of w) (OfBlock id))
      (rank_of_occupant (occupancy_of w) (OfBlock id))) run home))

  -- a fact of each number whose entry passes holds of all of them
  all_numbers : (p : ℕ → Bool) (xs : List (Option ℕ)) (first : ℕ) → ((i at : ℕ) → entry_at xs i ≡ Some at → p (first + i) ≡ true)
      → list_all p (numbers_of is_some first xs) ≡ true
  all_numbers p [] first each = refl
  all_numbers p (None ∷ xs) first each =
      all_numbers p xs (first + 1) (λ i at e. subst (λ (n : ℕ). p n ≡ true) (let f : first + suc i ≡ first + 1 + i = omega arith in f)
      (each (suc i) at e))
  all_numbers p (Some a ∷ xs) first each =
      and_from (p first) (list_all p (numbers_of is_some (first + 1) xs))
      (subst (λ (n : ℕ). p n ≡ true) (let f : first + 0 ≡ first = omega arith in f) (each zero a refl))
      (all_numbers p xs (first + 1) (λ i at e. subst (λ (n : ℕ). p n ≡ true) (let f : first + suc i ≡ first + 1 + i = omega arith in f)
      (each (suc i) at e)))

  pub places_right : list_all (is_right_place w) (live_ids w) ≡ true
  places_right =
      all_numbers (is_right_place w) w.addresses 0
      (λ i at e. subst (λ (n : ℕ). is_right_place w n ≡ true) (let f : i ≡ 0 + i = omega arith in f) (place_right i at e))

  tail_right : (t : Tail) → run_of_tail w.tails t.pool t.generation ≡ t.words → is_right_at_hand w t.pool t.words ≡ true
  tail_right t e =
      at_hand_is w (OfTail t.pool t.generation) t.pool rank.Exact t.words (λ some.
      subst (Home w.segments w.pools (occupancy_of w).condemned (OfTail t.pool t.generation) t.pool rank.Exact) e
      (laid.placed.homes (OfTail t.pool t.generation) (subst (λ (r : Run). 0 < r.count) (sym e) some)))

  pub tails_right : list_all (λ (t : Tail). is_right_at_hand w t.pool t.words) w.tails ≡ true
  tails_right = each_tail w.tails (all_found limit (occupancy_of w) laid)
    where
      each_tail : (ts : List Tail) → AllByRecursion (λ (t : Tail). run_of_tail w.tails t.pool t.generation ≡ t.words) ts
          → list_all (λ (t : Tail). is_right_at_hand w t.pool t.words) ts ≡ true
      each_tail [] all = refl
      each_tail (t ∷ ts) all =
          and_from (is_right_at_hand w t.pool t.words) (list_all (λ (u : Tail). is_right_at_hand w u.pool u.words) ts)
          (tail_right t all.0) (each_tail ts all.1)

  pub apart_right : are_apart (in_order (covered w ++ at_hand w)) ≡ true
  apart_right = ap (λ rs. are_apart (in_order (rs ++ at_hand w))) (covered-shapes w) ∙ all_apart limit (occupancy_of w) laid
