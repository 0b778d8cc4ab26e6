-- What a caller sees of epochs and of a dependency, and what the calls make of them.
use Rattle.std.specs.Prelude.{ℕ, ◌≡◌, ◌+◌, min, bit_or, List, [], ◌∷◌, ◌++◌, drop, refl}
use Rattle.mps_base.specs.Address.{Address}
use Rattle.mps_base.specs.Zones.{zone_bit_of}

-- How many flips there were, the zone sets of the last four of them, the latest last, and the union of all zone sets. Flips
-- that never came have no zones.
pub record EpochsState : Type 0 where
  pub count : ℕ
  pub recent : List ℕ
  pub all : ℕ

-- before the first flip
abbrev pub no_flips : EpochsState
no_flips = record { count = 0; recent = 0 ∷ 0 ∷ 0 ∷ 0 ∷ []; all = 0 }

-- after one more flip, of these zones
abbrev pub epochs_after_flip : EpochsState → (zones : ℕ) → EpochsState
epochs_after_flip e zones = record { count = e.count + 1; recent = drop 1 e.recent ++ zones ∷ []; all = bit_or e.all zones }

-- the epoch from which a dependency counts, and the zones of what was added since
pub record LdState : Type 0 where
  pub epoch : ℕ
  pub zones : ℕ

-- a dependency on nothing, as of now
abbrev pub reset_at : EpochsState → LdState
reset_at e = record { epoch = e.count; zones = 0 }

-- with what lies at an address
abbrev pub with_address : LdState → Address → LdState
with_address d at = record d { zones = bit_or d.zones (zone_bit_of at) }

-- the earlier epoch, and the zones of both
abbrev pub after_merge : LdState → LdState → LdState
after_merge d from = record { epoch = min d.epoch from.epoch; zones = bit_or d.zones from.zones }

pub the_oldest_of_four_goes : epochs_after_flip (record { count = 4; recent = 1 ∷ 2 ∷ 4 ∷ 8 ∷ []; all = 15 }) 16
    ≡ record { count = 5; recent = 2 ∷ 4 ∷ 8 ∷ 16 ∷ []; all = 31 }
the_oldest_of_four_goes = refl

pub an_address_adds_its_zone : with_address (record { epoch = 3; zones = 2 }) 0x43008 ≡ record { epoch = 3; zones = 10 }
an_address_adds_its_zone = refl

pub the_earlier_epoch_stays : after_merge (record { epoch = 3; zones = 2 }) (record { epoch = 1; zones = 4 })
    ≡ record { epoch = 1; zones = 6 }
the_earlier_epoch_stays = refl
