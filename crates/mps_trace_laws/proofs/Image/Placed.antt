-- Live objects lie apart in a setting of which only what no place depends on is another, or only its reservations.
use Rattle.std.proofs.Common.{◌≡◌, ℕ, ◌<◌, List, length, Option, Some, Bool}
use Rattle.mps_base.specs.Address.{Address, Id, Word, word_of}
use Rattle.mps_format.specs.Layout.{Layout}
use Rattle.mps_model.specs.Graph.{Object, Point, Reservation, entry_at}
use Rattle.mps_model.specs.World.{PointMemory}
use Rattle.mps_trace_laws.specs.Image.Changes.{setting_with_points}
use Rattle.mps_trace_laws.specs.Image.Image.{IsAddress, LieApart}
use Rattle.mps_trace_laws.specs.Image.Memory.{Setting, Lies, LiesReserved, live_reservation}

-- the setting with other formats, addresses of a flip, objects and segments that are condemned, and objects that are read
abbrev pub setting_otherwise : Setting → (layout : (pool : ℕ) → Layout) → (at_flip : List (Option Address)) → (condemned : List Id)
    → (is_read : Id → Bool) → (is_condemned_over : Word → Bool) → Setting
setting_otherwise s layout at_flip condemned is_read is_condemned_over = record s {
  layout = layout;
  at_flip = at_flip;
  condemned = condemned;
  is_read = is_read;
  is_condemned_over = is_condemned_over;
}

module _ (s : Setting) (addresses : List (Option Address)) (placed : LieApart s addresses) where
  pub placed_otherwise : (layout : (pool : ℕ) → Layout) (at_flip : List (Option Address)) (condemned : List Id) (is_read : Id → Bool)
      (is_condemned_over : Word → Bool) → ((id : Id) (at : Address) → entry_at at_flip id ≡ Some at → IsAddress at)
      → ((id i : ℕ) (o : Object) (n : Word) (at : Address) → Lies s.objects addresses id i o n → entry_at addresses id ≡ Some at
      → is_condemned_over n ≡ is_condemned_over (word_of at))
      → LieApart (setting_otherwise s layout at_flip condemned is_read is_condemned_over) addresses
  placed_otherwise layout at_flip condemned is_read is_condemned_over before whole = record {
    exists = placed.exists;
    positive = placed.positive;
    address = placed.address;
    address_at_flip = before;
    within = placed.within;
    apart = placed.apart;
    home = placed.home;
    whole = whole;
    reserved_positive = placed.reserved_positive;
    reserved_within = placed.reserved_within;
    reserved_alone = placed.reserved_alone;
    reserved_apart = placed.reserved_apart;
  }

  module _ (points : List (Option Point)) (memories : List PointMemory) where
    -- the setting with other reservations, which lie apart
    pub placed_with_points : ((i : ℕ) (r : Reservation) → live_reservation (entry_at points i) ≡ Some r → 0 < length r.cells)
        → ((i l : ℕ) (r : Reservation) (n : Word) → LiesReserved points memories i l r n → n < s.size)
        → ((i j k l : ℕ) (r q : Reservation) (n : Word) → LiesReserved points memories i k r n → LiesReserved points memories j l q n
        → i ≡ j)
        → ((id i k l : ℕ) (o : Object) (r : Reservation) (n : Word) → Lies s.objects addresses id k o n
        → LiesReserved points memories i l r n → ⊥)
        → LieApart (setting_with_points s points memories) addresses
    placed_with_points positive within alone apart = record {
      exists = placed.exists;
      positive = placed.positive;
      address = placed.address;
      address_at_flip = placed.address_at_flip;
      within = placed.within;
      apart = placed.apart;
      home = placed.home;
      whole = placed.whole;
      reserved_positive = positive;
      reserved_within = within;
      reserved_alone = alone;
      reserved_apart = apart;
    }

    -- the setting where no reservation is live
    pub placed_unreserved : ((i : ℕ) (r : Reservation) → live_reservation (entry_at points i) ≡ Some r → ⊥)
        → LieApart (setting_with_points s points memories) addresses
    placed_unreserved none =
        placed_with_points (λ i r live. absurd (none i r live)) (λ i l r n x. absurd (none i r x.reserved))
        (λ i j k l r q n x y. absurd (none i r x.reserved)) (λ id i k l o r n x y. none i r y.reserved)
