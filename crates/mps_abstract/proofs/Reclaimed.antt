-- A condemned segment is reclaimed: what is left of the world, and what the invariant needs of it.
use Rattle.std.proofs.Common.{◌≡◌, ◌∙◌, ℕ, zero, suc, ◌+◌, ◌<◌, ◌≤◌, Bool, true, false, refl, sym, ap, List, [], ◌∷◌, ◌++◌, Option, Some, None, subst, inl, inr, arith}
use Rattle.std.proofs.lemmas.Bool.{false≢true, cases_eq, cases_lt, cases_Bool, leb-true, le-leb}
use Rattle.std.specs.Prelude.{is_some, nat_le, slice_get, count_by}
use Rattle.mps_base.specs.Address.{Id, Address}
use Rattle.mps_base.specs.Segment.{Segment}
use Rattle.mps_base.specs.declared.moves.Move.{Move}
use Rattle.mps_model.specs.Graph.{contains, entry_at}
use Rattle.mps_model.specs.Collection.{Collection}
use Rattle.mps_model.specs.World.{World, is_live, live_ids, numbers_of}
use Rattle.mps_model.specs.Accessing.{address_or_null}
use Rattle.mps_model.specs.Effect.{segment_base_of, world_after_moves}
use Rattle.mps_model.specs.LegalMove.{holds_something}
use Rattle.mps_model.specs.Units.{frees_at, give_back_where, nothing_left}
use Rattle.mps_model.proofs.Cutting.{world_after_moves-append}
use Rattle.mps_abstract.specs.Colours.{is_to_scan}
use Rattle.mps_abstract.specs.Collecting.{Reclaim, Collecting, is_white_in, IsToGo, objects_left, segments_left, units_left, Running}
use Rattle.mps_abstract.specs.Units.{IsReclaimedNext}
use Rattle.mps_abstract.proofs.Lists.{contains_cases, count_by-cons, count_by-lt}
use Rattle.mps_abstract.proofs.Addresses.{address_of-live}
use Rattle.mps_abstract.proofs.Joining.{AreLegalAnywhere, legal_append}
use Rattle.mps_abstract.proofs.Covering.{still_holds}
use Rattle.mps_abstract.proofs.Sweeping.{IsSweeping, AreFreed, are_freed, sweeping_on, contains-above, with_freed}
use Rattle.mps_abstract.proofs.GivingBack.{IsCleared, IsGivenBack, is_given_back}

-- ---- lists

-- what is contained stands somewhere
pub stands_somewhere : (xs : List ℕ) (n : ℕ) → contains xs n ≡ true → (i : ℕ) × (slice_get xs i ≡ Some n)
stands_somewhere [] n h = absurd (false≢true h)
stands_somewhere (x ∷ xs) n h = elim (contains_cases x xs n h) [
  | inl same ↦ (zero, ap Some same)
  | inr later ↦ let rest = stands_somewhere xs n later in (suc rest.0, rest.1)
]

-- where fewer objects are live, fewer pass a test
pub count_by-fewer : (p : ℕ → Bool) (first : ℕ) (xs ys : List (Option ℕ))
    → ((n : ℕ) → is_some (entry_at xs n) ≡ true → is_some (entry_at ys n) ≡ true)
    → count_by p (numbers_of is_some first xs) ≤ count_by p (numbers_of is_some first ys)
count_by-fewer p first [] ys sub = omega arith
count_by-fewer p first (None ∷ xs) [] sub = count_by-fewer p (first + 1) xs [] (λ n h. sub (suc n) h)
count_by-fewer p first (Some x ∷ xs) [] sub = absurd (false≢true (sub 0 refl))
count_by-fewer p first (None ∷ xs) (None ∷ ys) sub = count_by-fewer p (first + 1) xs ys (λ n h. sub (suc n) h)
count_by-fewer p first (None ∷ xs) (Some y ∷ ys) sub =
    let step = count_by-cons p first (numbers_of is_some (first + 1) ys) in
    let rest = count_by-fewer p (first + 1) xs ys (λ n h. sub (suc n) h) in
    omega (arith, step, rest)
count_by-fewer p first (Some x ∷ xs) (None ∷ ys) sub = absurd (false≢true (sub 0 refl))
count_by-fewer p first (Some x ∷ xs) (Some y ∷ ys) sub =
    let here = count_by-cons p first (numbers_of is_some (first + 1) xs) in
    let there = count_by-cons p first (numbers_of is_some (first + 1) ys) in
    let rest = count_by-fewer p (first + 1) xs ys (λ n h. sub (suc n) h) in
    omega (arith, here, there, rest)

-- ---- a segment is reclaimed

module _ (x : Collecting) (run : Running x) (s : Segment) (freed : List Address) (next : IsReclaimedNext x s freed) where
  pub registered_black : (n : Id) → contains x.world.graph.registered n ≡ true → is_white_in x n ≡ false
  registered_black n h =
      let at = stands_somewhere x.world.graph.registered n h in
      elim (cases_lt at.0 x.next) [
        | inl less ↦ run.examined.examined at.0 n at.1 (inl less)
        | inr most ↦ run.examined.examined at.0 n at.1 (inr (let all = next.examined in omega (arith, all, most)))
      ]

  pub sweeping : IsSweeping x.world x.running x.colours
  sweeping = record {
    runs = run.runs;
    different = run.different;
    coloured = run.coloured;
    scanned = next.scanned;
    settled = run.settled;
    registered = registered_black;
    automatic = run.condemned.objects;
  }

  -- the frees
  pub frees : AreFreed x.world x.running x.colours s.base freed
  frees = are_freed x.colours s.base 0 freed x.world x.running sweeping next.ascending (λ at h.
      let white = next.white at h in
      record { id = white.id; address = white.address; white = white.white; in_base = white.base })

  abbrev pub swept_collection : Collection
  swept_collection = sweeping_on x.running frees.phase frees.reclaimed_to

  abbrev pub swept_world : World
  swept_world = with_freed x.world frees.addresses frees.dependents (Some swept_collection)

  -- the segment is given back where nothing is left in it
  pub given : IsGivenBack swept_world swept_collection s refl run.condemned.bases next.condemned next.held
      (give_back_where s.base (nothing_left (world_after_moves x.world (frees_at freed)) s.base))
  given = is_given_back swept_world swept_collection s refl run.condemned.bases next.condemned next.held
      (nothing_left (world_after_moves x.world (frees_at freed)) s.base)
      (sym (ap (λ v. nothing_left v s.base) frees.leads))

  abbrev pub moves_made : List Move
  moves_made = frees_at freed ++ give_back_where s.base (nothing_left (world_after_moves x.world (frees_at freed)) s.base)

  pub made_lead : world_after_moves x.world moves_made ≡ given.cleared.after
  made_lead =
      world_after_moves-append x.world (frees_at freed)
      (give_back_where s.base (nothing_left (world_after_moves x.world (frees_at freed)) s.base))
      ∙ ap (λ v. world_after_moves v (give_back_where s.base (nothing_left (world_after_moves x.world (frees_at freed)) s.base)))
      frees.leads
      ∙ given.leads

  pub made_legal : AreLegalAnywhere x.world moves_made
  made_legal =
      legal_append x.world (frees_at freed)
      (give_back_where s.base (nothing_left (world_after_moves x.world (frees_at freed)) s.base)) frees.legal
      (subst (λ v. AreLegalAnywhere v (give_back_where s.base (nothing_left (world_after_moves x.world (frees_at freed)) s.base)))
      (sym frees.leads) given.legal)

  -- ---- what is left

  abbrev pub cleared : IsCleared swept_world swept_collection s.base
  cleared = given.cleared

  abbrev pub final_collection : Collection
  final_collection = record x.running { condemned_segments = cleared.bases; phase = cleared.phase; reclaimed_to = cleared.reclaimed_to }

  abbrev pub final_world : World
  final_world =
      record (with_freed x.world frees.addresses frees.dependents (Some final_collection)) { segments = cleared.segments }

  pub final_lead : world_after_moves x.world moves_made ≡ final_world
  final_lead = made_lead ∙ cleared.leads

  pub live_before : (n : Id) → is_live final_world n ≡ true → is_live x.world n ≡ true
  live_before n h = ap is_some (frees.fewer n (address_or_null final_world n) (address_of-live final_world n h))

  pub not_freed : (n : Id) (at : Address) → is_white_in x n ≡ false → entry_at x.world.addresses n ≡ Some at → contains freed at ≡ false
  not_freed n at black e = elim (cases_Bool (contains freed at)) [
    | inl is ↦
        let white = next.white at is in
        absurd (false≢true (sym black ∙ subst (λ m. is_white_in x m ≡ true) (run.different white.id n at white.address e) white.white))
    | inr isnt ↦ isnt
  ]

  -- what isn't white is still live
  pub black_left : (n : Id) → is_white_in x n ≡ false → is_live x.world n ≡ true → is_live final_world n ≡ true
  black_left n black h =
      let at = address_or_null x.world n in
      let e = address_of-live x.world n h in
      ap is_some (frees.left n at e (not_freed n at black e))

  pub above_zero : (base : Address) → contains x.running.condemned_segments base ≡ true → 0 ≡ base → ⊥
  above_zero base h zero_base = let up = contains-above 0 x.running.condemned_segments base run.condemned.bases h in
      omega (arith, up, zero_base)

  -- what is still white lies in another segment, from the next one on
  pub white_elsewhere : (n : Id) (at : Address) → entry_at frees.addresses n ≡ Some at → is_white_in x n ≡ true
      → segment_base_of x.world at ≡ s.base → ⊥
  white_elsewhere n at e white in_it = frees.gone at (next.all n at (frees.fewer n at e) white in_it) n e

  pub to_go : (n : Id) (at : Address) → entry_at frees.addresses n ≡ Some at → is_white_in x n ≡ true
      → IsToGo (segment_base_of final_world) cleared.bases (suc s.base) at
  to_go n at e white =
      let base = segment_base_of x.world at in
      let go = run.swept.to_go n at (frees.fewer n at e) white in
      let other = white_elsewhere n at e white in
      let same : segment_base_of final_world at ≡ base = cleared.in_other at other (above_zero base go.condemned) in
      record {
        condemned = ap (contains cleared.bases) same ∙ cleared.are base other go.condemned;
        above = subst (λ b. suc s.base ≤ b) (sym same) (let up = next.first base go.condemned go.above in above base up other);
      }
    where
      above : (base : Address) → s.base ≤ base → (base ≡ s.base → ⊥) → suc s.base ≤ base
      above base up other = elim (cases_lt s.base base) [ inl less ↦ less | inr most ↦ absurd (other (omega (arith, up, most))) ]

  -- segments below the next one that are held hold something
  pub others_hold : (base : Address) → contains x.running.condemned_segments base ≡ true → (base ≡ s.base → ⊥) → base < suc s.base
      → holds_something final_world base ≡ true
  others_hold base h other below =
      still_holds x.world frees.addresses cleared.segments (Some final_collection) base (cleared.held base other)
      (λ t held n at e begins. frees.left n at e (elim (cases_Bool (contains freed at)) [
        | inl is ↦ absurd (false≢true (sym (next.apart base t at held other is) ∙ begins))
        | inr isnt ↦ isnt
      ]))
      (run.swept.hold base h (elim (cases_lt base x.cursor) [
        | inl less ↦ less
        | inr most ↦ absurd (let up = next.first base h most in other (omega (arith, up, below)))
      ]))

  pub hold : (base : Address) → contains cleared.bases base ≡ true → base < suc s.base → holds_something final_world base ≡ true
  hold base h below =
      let was = cleared.were base h in
      elim (cases_eq base s.base) [
        | inl same ↦ elim was.1.1 [
          | inl other ↦ absurd (other same)
          | inr holds ↦ subst (λ b. holds_something final_world b ≡ true) (sym same)
              (sym (ap (λ v. holds_something v s.base) cleared.leads) ∙ holds)
        ]
        | inr other ↦ others_hold base was.0 other below
      ]

  -- ---- the units that are left

  pub segments_fewer : segments_left cleared.bases (suc s.base) < segments_left x.running.condemned_segments x.cursor
  segments_fewer =
      let less = cleared.count (nat_le (suc s.base)) in
      let from = next.from_cursor in
      let fewer : count_by (nat_le (suc s.base)) x.running.condemned_segments < count_by (nat_le x.cursor) x.running.condemned_segments =
      count_by-lt (nat_le (suc s.base)) (nat_le x.cursor) x.running.condemned_segments s.base
      (λ n h. let up = leb-true (suc s.base) n h in le-leb x.cursor n (omega (arith, up, from)))
      next.condemned (not_le (suc s.base) s.base (omega arith)) (le-leb x.cursor s.base from) in
      omega (arith, less, fewer)
    where
      not_le : (a b : ℕ) → b < a → nat_le a b ≡ false
      not_le a b h = elim (cases_Bool (nat_le a b)) [ inl is ↦ absurd (let up = leb-true a b is in omega (arith, h, up)) | inr isnt ↦ isnt ]

  pub objects_no_more : objects_left x.running.condemned x.colours (live_ids final_world) ≤ objects_left x.running.condemned x.colours
      (live_ids x.world)
  objects_no_more = count_by-fewer (is_to_scan x.running.condemned x.colours) 0 frees.addresses x.world.addresses live_before

  abbrev pub final_state : Collecting
  final_state = record x { world = final_world; running = final_collection; band = Reclaim; cursor = suc s.base }

  pub fewer : units_left final_state < units_left x
  fewer = let objects = objects_no_more in let segments = segments_fewer in omega (arith, objects, segments)
