-- Summaries tell which objects a flip has to scan besides those that it condemns.
use Rattle.std.proofs.Common.{◌≡◌, ◌∙◌, ℕ, zero, suc, ◌*◌, ◌<◌, ◌≤◌, ◌^◌, Bool, true, false, refl, sym, ap, ap₂, List, [], ◌∷◌, Option, Some, None, Contains, inl, inr, arith, min}
use Rattle.std.proofs.lemmas.Bool.{false≢true, true≢false, and_parts, cases_Bool, or_left, or_right, eqb-true}
use Rattle.std.proofs.lemmas.Nat.{and_comm}
use Rattle.std.proofs.lemmas.Nat.Bits.{bit_at_and, bit_at-lt, bit_at-zero, and_pow}
use Rattle.std.specs.Int.{bit_at}
use Rattle.std.specs.Prelude.{bit_and, not, ◌&&◌, ◌==◌}
use Rattle.std.specs.Option.{option_map_or}
use Rattle.std.specs.List.{list_any}
use Rattle.mps_base.specs.Address.{Id, Address, zone_of}
use Rattle.mps_base.specs.Segment.{Segment, is_in_segment}
use Rattle.mps_base.specs.Zones.{zones_meet, zone_bit}
use Rattle.mps_model.specs.Accessing.{address_or_null}
use Rattle.mps_model.specs.Graph.{Object, contains, targets, is_automatic, object_at}
use Rattle.mps_model.specs.World.{World, is_live, is_live_and, live_ids, live_automatic_ids, object_is}
use Rattle.mps_model.specs.WellFormed.{is_right_object}
use Rattle.mps_model.specs.Effect.{Condemnation, Everything, Generations, condemned_ids, condemned_zones, condemned_by, lies_in_one}
use Rattle.mps_abstract.specs.FlipLaws.{IsAtRest, AreRemembered, collecting_after_flip}
use Rattle.mps_abstract.specs.Remembered.{AreSummed, AreAllZoned, RefersToNothingElse, RememberedIsEnough, SummariesRemember, may_lead, remembered}
use Rattle.mps_abstract.proofs.Addresses.{address_of-live, automatic_is_live, is_listed_automatic}
use Rattle.mps_abstract.proofs.Calls.ClientThings.{list_all-at}
use Rattle.mps_abstract.proofs.FlipActs.Flipped.{refers_automatic}
use Rattle.mps_abstract.proofs.HeldSegments.{IsAmong}
use Rattle.mps_abstract.proofs.Homes.{lies_at}
use Rattle.mps_abstract.proofs.Lists.{contains-filter, contains_filtered}
use Rattle.mps_abstract.proofs.RightObjects.{object_has_words}
use Rattle.mps_abstract.proofs.WholeCollections.WholeBegins.{everything, nothing_remembered}

-- ---- zones

positive : (b : ℕ) → (b == 0) ≡ false → 1 ≤ b
positive zero h = absurd (true≢false h)
positive (suc b) h = omega arith

none_times : (n : ℕ) → 0 * n ≡ 0
none_times n = omega arith

-- a set that meets a zone has its bit
has_bit : (a k : ℕ) → zones_meet (zone_bit k) a ≡ true → bit_at a k ≡ 1
has_bit a k h = of_bit (bit_at a k) refl (bit_at-lt a k)
  where
    of_bit : (b : ℕ) → bit_at a k ≡ b → bit_at a k < 2 → bit_at a k ≡ 1
    of_bit b e low = elim (cases_Bool (b == 0)) [
      | inl z ↦
          let is0 : bit_at a k ≡ 0 = e ∙ eqb-true b 0 z in
          let none : bit_and (2 ^ k) a ≡ 0 =
          and_comm (2 ^ k) a ∙ and_pow a k ∙ ap (λ (n : ℕ). n * 2 ^ k) is0 ∙ none_times (2 ^ k)
          in
          absurd (false≢true (ap (λ (n : ℕ). not (n == 0)) (sym none) ∙ h))
      | inr nz ↦ omega (arith, low, positive b nz, e)
    ]

-- two sets that meet one zone meet
both_meet : (a b k : ℕ) → zones_meet (zone_bit k) a ≡ true → zones_meet (zone_bit k) b ≡ true → zones_meet a b ≡ true
both_meet a b k h g = elim (cases_Bool (bit_and a b == 0)) [
  | inl z ↦
      let none : bit_at (bit_and a b) k ≡ 0 = ap (λ (n : ℕ). bit_at n k) (eqb-true (bit_and a b) 0 z) ∙ bit_at-zero k in
      let one : min (bit_at a k) (bit_at b k) ≡ 1 = ap₂ min (has_bit a k h) (has_bit b k g) in
      absurd (omega (arith, none, sym (bit_at_and a b k) ∙ none, one))
  | inr nz ↦ ap not nz
]

-- ---- segments

held_in : (ss : List Segment) (s : Segment) → IsAmong s ss → Contains ss s
held_in [] s among = absurd among
held_in (t ∷ ts) s (inl same) = (0, omega arith, same)
held_in (t ∷ ts) s (inr later) = let there = held_in ts s later in (suc there.0, omega (arith, there.1), there.2)

pub any_of : (test : Segment → Bool) (ss : List Segment) (s : Segment) → Contains ss s → test s ≡ true → list_any test ss ≡ true
any_of test [] s (k, within, is) h = absurd (omega (arith, within))
any_of test (t ∷ ts) s (zero, within, is) h = or_left (test t) (list_any test ts) (ap test is ∙ h)
any_of test (t ∷ ts) s (suc k, within, is) h =
    or_right (test t) (list_any test ts) (any_of test ts s (k, omega (arith, within), is) h)

-- ---- what is remembered

not_true : (b : Bool) → not b ≡ true → b ≡ false
not_true true e = absurd (false≢true e)
not_true false e = refl

module _ (w : World) (chain generation : ℕ) (summary : Address → ℕ) (rest : IsAtRest w) where
  abbrev what : Condemnation
  what = Generations chain generation

  abbrev others : List Id
  others = remembered summary w what

  abbrev leads : Id → Segment → Bool
  leads = may_lead w summary (condemned_zones w what)

  abbrev passes : Id → Bool
  passes id = not (contains (condemned_ids w what) id) && list_any (leads id) w.segments

  listed : (id : Id) → contains others id ≡ true → contains (live_automatic_ids w) id ≡ true
  listed id h = (contains-filter passes (live_automatic_ids w) id h).0

  outside : (id : Id) → contains others id ≡ true → contains (condemned_ids w what) id ≡ false
  outside id h =
      not_true (contains (condemned_ids w what) id)
      (and_parts (not (contains (condemned_ids w what) id)) (list_any (leads id) w.segments)
      (contains-filter passes (live_automatic_ids w) id h).1).0

  are_remembered : RefersToNothingElse summary w what → AreRemembered (collecting_after_flip w what others) others
  are_remembered nothing_else = record {
    live = λ id h. automatic_is_live w id (listed id h);
    automatic = λ id h. (contains-filter (object_is is_automatic w) (live_ids w) id (listed id h)).1;
    outside = outside;
    rest = λ id target live out unlisted refers.
        ap (λ (b : Bool). b && not (contains (collecting_after_flip w what others).colours.kept target))
        (nothing_else id target live out unlisted refers);
  }

  -- a live automatic object lies in a held segment
  home : (id : Id) → contains (live_automatic_ids w) id ≡ true
      → (s : Segment) × Contains w.segments s × (is_in_segment s (address_or_null w id) ≡ true)
  home id h = of_object (object_at w.graph id) refl (contains-filter (object_is is_automatic w) (live_ids w) id h).1
    where
      of_object : (o : Option Object) → object_at w.graph id ≡ o → option_map_or is_automatic o false ≡ true
          → (s : Segment) × Contains w.segments s × (is_in_segment s (address_or_null w id) ≡ true)
      of_object None e g = absurd (false≢true g)
      of_object (Some o) e g =
          let right = list_all-at (is_right_object w) w.graph.objects id o rest.well_formed.objects e in
          let lying = address_of-live w id (automatic_is_live w id h) in
          let there = lies_at w rest.well_formed id o (address_or_null w id) e lying (object_has_words w o right) in
          (there.segment, held_in w.segments there.segment there.among, there.inside)

  module _ (summed : AreSummed w summary) (zoned : AreAllZoned w (Generations chain generation)) where
    -- what refers to a condemned object, and isn't condemned, is remembered
    caught : (id target : Id) → is_live w id ≡ true → contains (condemned_ids w what) id ≡ false
        → contains (targets w.graph id) target ≡ true → contains (condemned_ids w what) target ≡ true → contains others id ≡ true
    caught id target live out refers condemned =
        let here = is_listed_automatic w id live (refers_automatic (object_at w.graph id) target refers) in
        let of_target = contains-filter (lies_in_one w (condemned_by w what)) (live_automatic_ids w) target condemned in
        let at = address_of-live w id live in
        let to = address_of-live w target (automatic_is_live w target of_target.0) in
        let s = home id here in
        let meets = both_meet (summary s.0.base) (condemned_zones w what) (zone_of (address_or_null w target))
        (summed id target (address_or_null w id) (address_or_null w target) s.0 at s.1 s.2 refers to)
        (zoned target (address_or_null w target) condemned to) in
        let inside : is_live_and (is_in_segment s.0) w id ≡ true = ap (λ o. option_map_or (is_in_segment s.0) o false) at ∙ s.2 in
        contains_filtered passes (live_automatic_ids w) id
        (ap₂ (λ a b. a && b) (ap not out) (any_of (leads id) w.segments s.0 s.1 (ap₂ (λ a b. a && b) inside meets))) here

    nothing_else : RefersToNothingElse summary w what
    nothing_else id target live out unlisted refers =
        elim (cases_Bool (contains (condemned_ids w what) target)) [
          | inl condemned ↦ absurd (true≢false (sym (caught id target live out refers condemned) ∙ unlisted))
          | inr outside ↦ outside
        ]

-- a full flip condemns whatever refers to anything
pub everything_refers_nowhere_else : (w : World) (summary : Address → ℕ) → IsAtRest w → RefersToNothingElse summary w Everything
everything_refers_nowhere_else w summary rest id target live out none refers =
    absurd (true≢false (sym (everything w rest id (is_listed_automatic w id live (refers_automatic (object_at w.graph id) target refers)))
    ∙ out))

pub summaries_remember : SummariesRemember
summaries_remember w Everything summary rest summed zoned = everything_refers_nowhere_else w summary rest
summaries_remember w (Generations chain generation) summary rest summed zoned = nothing_else w chain generation summary rest summed zoned

pub remembered_is_enough : RememberedIsEnough
remembered_is_enough w Everything summary rest refers = nothing_remembered w rest
remembered_is_enough w (Generations chain generation) summary rest refers =
    are_remembered w chain generation summary rest refers
