-- The blocks that were added to dependencies: each lies where it was when it was added or is gone, or there was a flip of its zone
-- since the epoch.
use Rattle.std.proofs.Common.{◌≡◌, ◌⊎◌, inl, inr, ℕ, zero, suc, ◌-◌, ◌≤◌, Bool, true, false, refl, ◌∙◌, ap, subst, List, [], ◌∷◌, ◌++◌, drop, length, min, Some, arith}
use Rattle.std.proofs.lemmas.Bool.{or_left, or_right}
use Rattle.std.proofs.lemmas.Option.{none-some, same_Some}
use Rattle.std.specs.Prelude.{bit_or, nat_le, if◌then◌else◌, slice_get, slice_set}
use Rattle.std.specs.List.{AllByRecursion, list_any}
use Rattle.mps_base.specs.Staleness.{is_stale}
use Rattle.mps_base.specs.Zones.{zones_meet, zone_bit_of}
use Rattle.mps_model.specs.Graph.{with_last}
use Rattle.mps_model.specs.World.{World, Dependency}
use Rattle.mps_model.specs.Dependency.{with_added, merged}
use Rattle.mps_laws.proofs.Entries.{slice_get-there}
use Rattle.mps_laws.proofs.Positions.Zones.{union_meets}
use Rattle.mps_laws.proofs.Positions.Places.{IsPutIn}

-- ---- flips since an epoch

-- a flip of the zone of an address came since an epoch
pub record IsFlippedSince (flips : List ℕ) (epoch at : ℕ) : Type 0 where
  pub index : ℕ
  pub zones : ℕ
  pub since : epoch ≤ index
  pub there : slice_get flips index ≡ Some zones
  pub of_zone : zones_meet (zone_bit_of at) zones ≡ true

pub flipped_earlier : (flips : List ℕ) (earlier epoch at : ℕ) → earlier ≤ epoch → IsFlippedSince flips epoch at
    → IsFlippedSince flips earlier at
flipped_earlier flips earlier epoch at before f = record {
  index = f.index;
  zones = f.zones;
  since = let since : epoch ≤ f.index = f.since in omega (arith, since, before);
  there = f.there;
  of_zone = f.of_zone;
}

pub flipped_before : (flips more : List ℕ) (epoch at : ℕ) → IsFlippedSince flips epoch at → IsFlippedSince (flips ++ more) epoch at
flipped_before flips more epoch at f = record {
  index = f.index;
  zones = f.zones;
  since = f.since;
  there = slice_get-there flips more f.index f.zones f.there;
  of_zone = f.of_zone;
}

last_there : (xs : List ℕ) (x : ℕ) → slice_get (xs ++ x ∷ []) (length xs) ≡ Some x
last_there [] x = refl
last_there (y ∷ ys) x = last_there ys x

pub flipped_now : (flips : List ℕ) (epoch at zones : ℕ) → epoch ≤ length flips → zones_meet (zone_bit_of at) zones ≡ true
    → IsFlippedSince (with_last flips zones) epoch at
flipped_now flips epoch at zones since of_zone =
    record { index = length flips; zones = zones; since = since; there = last_there flips zones; of_zone = of_zone }

any_at : (p : ℕ → Bool) (xs : List ℕ) (i x : ℕ) → slice_get xs i ≡ Some x → p x ≡ true → list_any p xs ≡ true
any_at p [] i x there passes = absurd (none-some x there)
any_at p (y ∷ ys) zero x there passes = or_left (p y) (list_any p ys) (ap p (same_Some y x there) ∙ passes)
any_at p (y ∷ ys) (suc i) x there passes = or_right (p y) (list_any p ys) (any_at p ys i x there passes)

any_from : (p : ℕ → Bool) (xs : List ℕ) (from i x : ℕ) → from ≤ i → slice_get xs i ≡ Some x → p x ≡ true → list_any p (drop from xs) ≡ true
any_from p xs zero i x le there passes = any_at p xs i x there passes
any_from p [] (suc from) i x le there passes = absurd (none-some x there)
any_from p (y ∷ ys) (suc from) zero x le there passes = absurd (omega (arith, le))
any_from p (y ∷ ys) (suc from) (suc i) x le there passes = any_from p ys from i x (omega (arith, le)) there passes

-- zones meet whatever the zone of an address meets
abbrev pub HasZoneOf : (at zones : ℕ) → Type 0
HasZoneOf at zones = (flipped : ℕ) → zones_meet (zone_bit_of at) flipped ≡ true → zones_meet zones flipped ≡ true

-- then a dependency with these zones is stale
pub flipped_is_stale : (flips : List ℕ) (epoch zones at : ℕ) → HasZoneOf at zones → IsFlippedSince flips epoch at
    → is_stale flips epoch zones ≡ true
flipped_is_stale flips epoch zones at has f = by_case (nat_le (length flips - epoch) 4)
  where
    by_case : (b : Bool) → list_any (λ flipped. zones_meet zones flipped) (if b then drop epoch flips else flips) ≡ true
    by_case true = any_from (λ flipped. zones_meet zones flipped) flips epoch f.index f.zones f.since f.there (has f.zones f.of_zone)
    by_case false = any_at (λ flipped. zones_meet zones flipped) flips f.index f.zones f.there (has f.zones f.of_zone)

pub has_zone_itself : (zones at : ℕ) → HasZoneOf at (bit_or zones (zone_bit_of at))
has_zone_itself zones at =
    λ flipped h. union_meets zones (zone_bit_of at) flipped ∙ or_right (zones_meet zones flipped) (zones_meet (zone_bit_of at) flipped) h

pub has_zone_first : (zones more at : ℕ) → HasZoneOf at zones → HasZoneOf at (bit_or zones more)
has_zone_first zones more at has =
    λ flipped h. union_meets zones more flipped ∙ or_left (zones_meet zones flipped) (zones_meet more flipped) (has flipped h)

pub has_zone_second : (zones more at : ℕ) → HasZoneOf at more → HasZoneOf at (bit_or zones more)
has_zone_second zones more at has =
    λ flipped h. union_meets zones more flipped ∙ or_right (zones_meet zones flipped) (zones_meet more flipped) (has flipped h)

-- ---- blocks of a dependency

-- a block that was added lies there or is gone, and may not be moved now; or there was a flip of its zone
abbrev pub IsAccounted : World → (epoch id at : ℕ) → Type 0
IsAccounted w epoch id at = IsFlippedSince w.flips epoch at ⊎ IsPutIn id at w

pub record IsBlockOf (w : World) (epoch zones : ℕ) (block : ℕ × ℕ) : Type 0 where
  pub has_zone : HasZoneOf block.1 zones
  pub accounted : IsAccounted w epoch block.0 block.1

pub record IsAccountOf (w : World) (d : Dependency) : Type 0 where
  pub epoch : d.epoch ≤ length w.flips
  pub blocks : AllByRecursion (IsBlockOf w d.epoch d.zones) d.blocks

abbrev pub AreAccounts : World → List Dependency → Type 0
AreAccounts w ds = AllByRecursion (IsAccountOf w) ds

-- what is accounted for in one world is in another
pub record Accounts (w v : World) : Type 0 where
  pub flips : length w.flips ≤ length v.flips
  pub blocks : (epoch id at : ℕ) → epoch ≤ length w.flips → IsAccounted w epoch id at → IsAccounted v epoch id at

module _ (w v : World) (a : Accounts w v) where
  blocks_carried : (epoch zones : ℕ) (blocks : List (ℕ × ℕ)) → epoch ≤ length w.flips → AllByRecursion (IsBlockOf w epoch zones) blocks
      → AllByRecursion (IsBlockOf v epoch zones) blocks
  blocks_carried epoch zones [] within are = tt
  blocks_carried epoch zones (b ∷ bs) within are = (
    record { has_zone = are.0.has_zone; accounted = a.blocks epoch b.0 b.1 within are.0.accounted },
    blocks_carried epoch zones bs within are.1,
  )

  pub accounts_carried : (ds : List Dependency) → AreAccounts w ds → AreAccounts v ds
  accounts_carried [] are = tt
  accounts_carried (d ∷ ds) are = (
    record {
      epoch = let within : d.epoch ≤ length w.flips = are.0.epoch in let more : length w.flips ≤ length v.flips = a.flips in omega
          (arith, within, more);
      blocks = blocks_carried d.epoch d.zones d.blocks are.0.epoch are.0.blocks;
    },
    accounts_carried ds are.1,
  )

-- ---- one dependency changes

module _ (w : World) where
  -- a fresh one
  pub fresh_account : IsAccountOf w (record { epoch = length w.flips; zones = 0; blocks = [] })
  fresh_account = record { epoch = omega arith; blocks = tt }

  more_zones : (epoch zones more : ℕ) (blocks : List (ℕ × ℕ)) → AllByRecursion (IsBlockOf w epoch zones) blocks
      → AllByRecursion (IsBlockOf w epoch (bit_or zones more)) blocks
  more_zones epoch zones more [] are = tt
  more_zones epoch zones more (b ∷ bs) are = (
    record { has_zone = has_zone_first zones more b.1 are.0.has_zone; accounted = are.0.accounted },
    more_zones epoch zones more bs
        are.1,
  )

  more_zones_second : (epoch zones more : ℕ) (blocks : List (ℕ × ℕ)) → AllByRecursion (IsBlockOf w epoch more) blocks
      → AllByRecursion (IsBlockOf w epoch (bit_or zones more)) blocks
  more_zones_second epoch zones more [] are = tt
  more_zones_second epoch zones more (b ∷ bs) are = (
    record { has_zone = has_zone_second zones more b.1 are.0.has_zone; accounted = are.0.accounted },
    more_zones_second epoch zones more bs are.1,
  )

  earlier_epoch : (earlier epoch zones : ℕ) (blocks : List (ℕ × ℕ)) → earlier ≤ epoch → AllByRecursion (IsBlockOf w epoch zones) blocks
      → AllByRecursion (IsBlockOf w earlier zones) blocks
  earlier_epoch earlier epoch zones [] before are = tt
  earlier_epoch earlier epoch zones (b ∷ bs) before are =
      (record { has_zone = are.0.has_zone; accounted = back are.0.accounted }, earlier_epoch earlier epoch zones bs before are.1)
    where
      back : IsAccounted w epoch b.0 b.1 → IsAccounted w earlier b.0 b.1
      back (inl f) = inl (flipped_earlier w.flips earlier epoch b.1 before f)
      back (inr put) = inr put

  all-append : (epoch zones : ℕ) (xs ys : List (ℕ × ℕ)) → AllByRecursion (IsBlockOf w epoch zones) xs
      → AllByRecursion (IsBlockOf w epoch zones) ys → AllByRecursion (IsBlockOf w epoch zones) (xs ++ ys)
  all-append epoch zones [] ys these those = those
  all-append epoch zones (x ∷ xs) ys these those = (these.0, all-append epoch zones xs ys these.1 those)

  -- one to which a block is added where it lies
  pub added_account : (d : Dependency) (id at : ℕ) → IsAccountOf w d → IsPutIn id at w → IsAccountOf w (with_added d id at)
  added_account d id at a put = record {
    epoch = a.epoch;
    blocks = all-append d.epoch (bit_or d.zones (zone_bit_of at)) d.blocks ((id, at) ∷ [])
        (more_zones d.epoch d.zones (zone_bit_of at) d.blocks a.blocks)
        (record { has_zone = has_zone_itself d.zones at; accounted = inr put }, tt);
  }

  -- two that are merged
  pub merged_account : (d e : Dependency) → IsAccountOf w d → IsAccountOf w e → IsAccountOf w (merged d e)
  merged_account d e a b = record {
    epoch = let within : d.epoch ≤ length w.flips = a.epoch in omega (arith, within);
    blocks = all-append (min d.epoch e.epoch) (bit_or d.zones e.zones) d.blocks e.blocks
        (more_zones (min d.epoch e.epoch) d.zones e.zones d.blocks
        (earlier_epoch (min d.epoch e.epoch) d.epoch d.zones d.blocks (omega arith) a.blocks))
        (more_zones_second (min d.epoch e.epoch) d.zones e.zones e.blocks
        (earlier_epoch (min d.epoch e.epoch) e.epoch e.zones e.blocks (omega arith) b.blocks));
  }

  pub account_at : (ds : List Dependency) (n : ℕ) (d : Dependency) → AreAccounts w ds → slice_get ds n ≡ Some d → IsAccountOf w d
  account_at [] n d are there = absurd (none-some d there)
  account_at (x ∷ xs) zero d are there = subst (IsAccountOf w) (same_Some x d there) are.0
  account_at (x ∷ xs) (suc n) d are there = account_at xs n d are.1 there

  pub accounts-set : (ds : List Dependency) (n : ℕ) (d : Dependency) → AreAccounts w ds → IsAccountOf w d → AreAccounts w (slice_set ds n d)
  accounts-set [] n d are a = tt
  accounts-set (x ∷ xs) zero d are a = (a, are.1)
  accounts-set (x ∷ xs) (suc n) d are a = (are.0, accounts-set xs n d are.1 a)

  pub accounts-last : (ds : List Dependency) (d : Dependency) → AreAccounts w ds → IsAccountOf w d → AreAccounts w (with_last ds d)
  accounts-last [] d are a = (a, tt)
  accounts-last (x ∷ xs) d are a = (are.0, accounts-last xs d are.1 a)
