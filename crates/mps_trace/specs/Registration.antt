-- Which registration a block has, by where the blocks of all registrations lie now.
use Rattle.std.specs.Prelude.{◌≡◌, ◌≢◌, ℕ, zero, suc, ◌<◌, true, false, Option, Some, List, [], ◌∷◌, length, slice_get, refl, MatchOption}
use Rattle.std.specs.Option.{option_map_or}
use Rattle.std.proofs.Common.{◌∙◌, arith}
use Rattle.mps_base.specs.Address.{Address}
use Rattle.mps_base.specs.declared.address.Addr.{Addr}
use Rattle.mps_base.specs.declared.names.Rank.TheVariants.{Exact}
use Rattle.mps_format.specs.Layout.{Layout}
use Rattle.mps_format.specs.declared.pool.Policy.{Policy}
use Rattle.mps_amc.specs.Moving.{IsForwarded}
use Rattle.mps_seg.specs.BitsTable as table
use Rattle.mps_seg.specs.Segs.{SegsState, new_segments}
use Rattle.mps_trace.specs.Finding.{CanFind, FindsTo, has_moved, in_pool, passes}

module _ {F : Type 0} (layout : F → Layout) (formats : List (Option (Policy F))) (s : SegsState) where
  -- the block to which an address leads lies here now: where it is found, or where it was, if it is white
  pub record LeadsTo (from now : Address) : Type 0 where
    pub found : Option Addr
    pub finds : FindsTo layout formats s (record { 0 = from }) found
    pub is : now ≡ option_map_or (λ (a : Addr). a.0) found from

  -- each registration's block can be found
  abbrev pub AreFindable : (registered : List Address) → Type 0
  AreFindable registered =
      (position : ℕ) (from : Address) → slice_get registered position ≡ Some from → CanFind layout formats s (record { 0 = from })

  -- the blocks of the first n registrations lie elsewhere than at an address
  abbrev pub LieElsewhere : (n : ℕ) → (registered : List Address) → (at : Address) → Type 0
  LieElsewhere n registered at =
      (position : ℕ) (from : Address) → position < n → slice_get registered position ≡ Some from
      → (now : Address) × LeadsTo from now × (now ≢ at)

  -- the registration at a position is the first one whose block lies at an address now
  pub record IsFirstOf (registered : List Address) (at : Address) (position : ℕ) : Type 0 where
    pub from : Address
    pub listed : slice_get registered position ≡ Some from
    pub leads : LeadsTo from at
    pub earlier : LieElsewhere position registered at

  -- the position of the first registration of the block that lies at an address now, None if it has none
  abbrev pub FindsRegistration : (registered : List Address) → (at : Address) → (position : Option ℕ) → Type 0
  FindsRegistration registered at position =
      MatchOption position (LieElsewhere (length registered) registered at) (IsFirstOf registered at)

-- ---- vectors: two blocks that lie where they were registered, and one that moved from 0x1000 to 0x1010

abbrev still : SegsState
still = new_segments 1 1

abbrev stays_at : {F : Type 0} (layout : F → Layout) (at : Address) → LeadsTo layout [] still at at
stays_at layout at = record { found = Some (record { 0 = at }); finds = passes refl; is = refl }

pub the_second_is_its_first : {F : Type 0} (layout : F → Layout)
    → FindsRegistration layout [] still (24 ∷ 40 ∷ 40 ∷ []) 40 (Some 1)
the_second_is_its_first layout = record {
  from = 40;
  listed = refl;
  leads = stays_at layout 40;
  earlier = λ position from low is. before position from low is;
}
  where
    before : (position : ℕ) (from : Address) → position < 1 → slice_get (24 ∷ 40 ∷ 40 ∷ []) position ≡ Some from
        → (now : Address) × LeadsTo layout [] still from now × (now ≢ 40)
    before zero from low is = let e : 24 ≡ from = cc in (from, stays_at layout from, λ same. omega (arith, e, same))
    before (suc n) from low is = absurd (omega (arith, low))

pub a_later_one_is_not_its_first : {F : Type 0} (layout : F → Layout)
    → FindsRegistration layout [] still (40 ∷ 40 ∷ []) 40 (Some 1) → ⊥
a_later_one_is_not_its_first layout first =
    let other = first.earlier 0 40 (omega arith) refl in other.2 (leads other.1)
  where
    finds_there : (found : Option Addr) → FindsTo layout [] still (record { 0 = 40 }) found
        → option_map_or (λ (a : Addr). a.0) found 40 ≡ 40
    finds_there found (passes calm) = refl
    finds_there found (in_pool t format condemned over listed finds) = let never : false ≡ true = condemned in absurd cc

    leads : {now : Address} → LeadsTo layout [] still 40 now → now ≡ 40
    leads to = to.is ∙ finds_there to.found to.finds

abbrev moved : (words : List ℕ) → SegsState
moved words = record still {
  words = words;
  segments = record { base = 0x1000; grains = 1; pool = 0; generation = 0; rank = Exact } ∷ [];
  condemned = false ∷ true ∷ [];
}

abbrev copying : {F : Type 0} → F → List (Option (Policy F))
copying format = Some (record { format = format; moves = true }) ∷ []

-- a block that moved is registered by where it was
pub a_block_that_moved : {F : Type 0} (layout : F → Layout) (format : F) (words : List ℕ) → IsForwarded (layout format) words 0x1000 0x1010
    → FindsRegistration layout (copying format) (moved words) (0x1000 ∷ []) 0x1010 (Some 0)
unfolding table.bit
a_block_that_moved layout format words forwarded = record {
  from = 0x1000;
  listed = refl;
  leads = record {
    found = Some (record { 0 = 0x1010 });
    finds = in_pool (record { base = 0x1000; grains = 1; pool = 0; generation = 0; rank = Exact }) (record {
      format = format;
      moves = true;
    }) refl refl refl (has_moved (record { 0 = 0x1010 }) refl forwarded);
    is = refl;
  };
  earlier = λ position from low is. absurd (omega (arith, low));
}
