-- What an arena is laid out by: whoever has words has them alone, and in a held segment. By components, not by worlds.
use Rattle.std.proofs.Common.{◌≡◌, ◌∙◌, ◌⊎◌, ℕ, ◌<◌, ◌≤◌, Bool, true, false, sym, List, [], ◌∷◌, length, Option, Some, subst, inl, inr, arith}
use Rattle.std.specs.Prelude.{map, slice_get, ◌≢◌, not}
use Rattle.std.specs.Option.{option_map_or}
use Rattle.std.specs.List.{AllByRecursion}
use Rattle.mps_base.specs.Address.{Address}
use Rattle.mps_base.specs.Run.{Run, Covers, IsAscending, end_of}
use Rattle.mps_base.specs.Segment.{Segment, grains_of_segment, words_of_segment}
use Rattle.mps_base.specs.declared.names.Rank.{Rank}
use Rattle.mps_model.specs.Graph.{contains, entry_at}
use Rattle.mps_model.specs.Making.{is_weak_rank}
use Rattle.mps_model.specs.World.{Pool, PoolKind, PointMemory, Tail, is_copying_kind, is_weak_kind}
use Rattle.mps_laws.proofs.Positions.Occupancy.{Occupancy, Occupant, OfBlock, OfReservation, OfBuffer, OfTail, Shape, PointShape, run_of, pool_of_occupant, rank_of_occupant}
use Rattle.mps_laws.proofs.Positions.Segments.{IsAmong, AreAligned}
use Rattle.mps_laws.proofs.Positions.Tails.{AreKeyed}

-- whether there is a pool of this number among these, and its kind passes a test
abbrev pub kind_in : (PoolKind → Bool) → List Pool → (number : ℕ) → Bool
kind_in test pools number = option_map_or (λ p. test p.kind) (slice_get pools number) false

abbrev pub is_at_hand : Occupant → Bool
is_at_hand (OfBlock id) = false
is_at_hand (OfReservation point) = false
is_at_hand (OfBuffer point) = true
is_at_hand (OfTail pool generation) = true

-- a reservation
abbrev pub is_reserved : Occupant → Bool
is_reserved (OfBlock id) = false
is_reserved (OfReservation point) = true
is_reserved (OfBuffer point) = false
is_reserved (OfTail pool generation) = false

-- blocks of these pools don't move
abbrev pub is_staying_kind : PoolKind → Bool
is_staying_kind kind = not (is_copying_kind kind)

abbrev pub is_tail : Occupant → Bool
is_tail (OfBlock id) = false
is_tail (OfReservation point) = false
is_tail (OfBuffer point) = false
is_tail (OfTail pool generation) = true

-- the held segment in which an occupant's words lie. What is at hand lies in a copying pool and not in a condemned segment,
-- and what is at hand for blocks that move goes to the segment's end
pub record Home (segments : List Segment) (pools : List Pool) (condemned : List Address) (o : Occupant) (pool : ℕ) (rank : Rank)
    (r : Run) : Type 0 where
  pub segment : Segment
  pub held : IsAmong segment segments
  pub of_pool : segment.pool ≡ pool
  pub of_rank : segment.rank ≡ rank
  pub above : (words_of_segment segment).from ≤ r.from
  pub below : end_of r ≤ end_of (words_of_segment segment)
  pub copying : is_at_hand o ≡ true → kind_in is_copying_kind pools segment.pool ≡ true
  pub spared : is_at_hand o ≡ true → contains condemned segment.base ≡ false
  pub to_end : is_tail o ≡ true → end_of r ≡ end_of (words_of_segment segment)
  -- a reservation lies in no condemned segment, unless blocks of its pool don't move
  pub uncondemned : is_reserved o ≡ true → (contains condemned segment.base ≡ false) ⊎ (kind_in is_staying_kind pools segment.pool ≡ true)

-- the segment of a home serves with other pools and condemned segments too
pub home_otherwise : {segments : List Segment} {pools : List Pool} {condemned : List Address} {o : Occupant} {pool : ℕ} {rank : Rank}
    {r : Run} (pools' : List Pool) (condemned' : List Address) (home : Home segments pools condemned o pool rank r)
    → (is_at_hand o ≡ true → kind_in is_copying_kind pools' home.segment.pool ≡ true)
    → (is_at_hand o ≡ true → contains condemned' home.segment.base ≡ false)
    → (is_reserved o ≡ true → (contains condemned' home.segment.base ≡ false) ⊎ (kind_in is_staying_kind pools' home.segment.pool ≡ true))
    → Home segments pools' condemned' o pool rank r
home_otherwise pools' condemned' home copying spared uncondemned = record {
  segment = home.segment;
  held = home.held;
  of_pool = home.of_pool;
  of_rank = home.of_rank;
  above = home.above;
  below = home.below;
  copying = copying;
  spared = spared;
  to_end = home.to_end;
  uncondemned = uncondemned;
}

abbrev pub HomeOf : Occupancy → Occupant → Type 0
HomeOf g o = Home g.segments g.pools g.condemned o (pool_of_occupant g o) (rank_of_occupant g o) (run_of g o)

pub record ArePlaced (g : Occupancy) : Type 0 where
  pub apart : (a b : Occupant) (n : ℕ) → Covers (run_of g a) n → Covers (run_of g b) n → a ≡ b
  pub homes : (o : Occupant) → 0 < (run_of g o).count → HomeOf g o

-- an object has a word, and only a pool of weak references has weak objects
pub record IsRightShape (pools : List Pool) (s : Shape) : Type 0 where
  pub some : 0 < s.words
  pub weak : s.is_weak ≡ true → kind_in is_weak_kind pools s.pool ≡ true

pub record IsRightPointShape (pools : List Pool) (p : PointShape) : Type 0 where
  pub some : (words : ℕ) → p.reserved ≡ Some words → 0 < words
  pub weak : is_weak_rank p.rank ≡ true → kind_in is_weak_kind pools p.pool ≡ true

abbrev pub IsRightlyRanked : List Pool → Segment → Type 0
IsRightlyRanked pools s = is_weak_rank s.rank ≡ true → kind_in is_weak_kind pools s.pool ≡ true

-- each number stands once
abbrev pub AreDistinct : List ℕ → Type 0
AreDistinct [] = Unit {0}
AreDistinct (n ∷ ns) = (contains ns n ≡ false) × AreDistinct ns

-- an arena whose segments lie in the grains from 1 on and below a limit
pub record IsLaidOut (limit : ℕ) (g : Occupancy) : Type 0 where
  pub in_range : g.grains < limit
  pub lengths : length g.addresses ≡ length g.shapes
  pub memories : length g.memories ≡ length g.points
  pub shapes : (id : ℕ) (s : Shape) → slice_get g.shapes id ≡ Some s → IsRightShape g.pools s
  pub points : (n : ℕ) (p : PointShape) → entry_at g.points n ≡ Some p → IsRightPointShape g.pools p
  pub ascending : IsAscending 1 limit (map grains_of_segment g.segments)
  pub aligned : AreAligned g.segments
  pub ranked : AllByRecursion (IsRightlyRanked g.pools) g.segments
  pub condemned : (base : Address) → contains g.condemned base ≡ true → (s : Segment) × IsAmong s g.segments × (s.base ≡ base)
  pub distinct : AreDistinct g.condemned
  pub keyed : AreKeyed g.tails
  pub placed : ArePlaced g

-- ---- who has words after a change, where segments stay

abbrev pub changed : Occupancy → List Shape → List (Option Address) → List (Option PointShape) → List PointMemory → List Tail → Occupancy
changed g shapes addresses points memories tails =
    record g { shapes = shapes; addresses = addresses; points = points; memories = memories; tails = tails }

-- an occupant has the words that it had
pub record IsSame (g g' : Occupancy) (o : Occupant) : Type 0 where
  pub run : run_of g' o ≡ run_of g o
  pub pool : pool_of_occupant g' o ≡ pool_of_occupant g o
  pub rank : rank_of_occupant g' o ≡ rank_of_occupant g o

-- or none
abbrev pub IsKept : (g g' : Occupancy) → Occupant → Type 0
IsKept g g' o = IsSame g g' o ⊎ ((run_of g' o).count ≡ 0)

kept_covers : (g g' : Occupancy) (o : Occupant) (n : ℕ) → IsKept g g' o → Covers (run_of g' o) n → Covers (run_of g o) n
kept_covers g g' o n (inl same) c = subst (λ (r : Run). Covers r n) same.run c
kept_covers g g' o n (inr none) c = absurd (omega (arith, none, c.0, c.1))

module _ (g : Occupancy) (shapes : List Shape) (addresses : List (Option Address)) (points : List (Option PointShape))
    (memories : List PointMemory) (tails : List Tail) where
  abbrev after : Occupancy
  after = changed g shapes addresses points memories tails

  home_kept : (o : Occupant) → ArePlaced g → IsKept g after o → 0 < (run_of after o).count → HomeOf after o
  home_kept o placed (inl same) some =
      subst (λ (pool : ℕ). Home g.segments g.pools g.condemned o pool (rank_of_occupant after o) (run_of after o)) (sym same.pool)
      (subst (λ (rank : Rank). Home g.segments g.pools g.condemned o (pool_of_occupant g o) rank (run_of after o)) (sym same.rank)
      (subst (Home g.segments g.pools g.condemned o (pool_of_occupant g o) (rank_of_occupant g o)) (sym same.run)
      (placed.homes o (subst (λ (r : Run). 0 < r.count) same.run some))))
  home_kept o placed (inr none) some = absurd (omega (arith, none, some))

  -- all have what they had, or nothing
  pub placed_kept : ((o : Occupant) → IsKept g after o) → ArePlaced g → ArePlaced after
  placed_kept kept placed = record {
    apart = λ a b n c d. placed.apart a b n (kept_covers g after a n (kept a) c) (kept_covers g after b n (kept b) d);
    homes = λ o some. home_kept o placed (kept o) some;
  }

  -- one has words that none had
  pub placed_new : (new : Occupant) → ((o : Occupant) → (o ≡ new) ⊎ IsKept g after o) → (0 < (run_of after new).count → HomeOf after new)
      → ((o : Occupant) (n : ℕ) → Covers (run_of g o) n → Covers (run_of after new) n → ⊥) → ArePlaced g → ArePlaced after
  placed_new new kept home free placed = record {
    apart = λ a b n c d.
        elim (kept a) [
          | inl e ↦
              elim (kept b) [
                | inl f ↦ e ∙ sym f
                | inr k ↦
                    absurd (free b n (kept_covers g after b n k d) (subst (λ (o : Occupant). Covers (run_of after o) n) e c))
              ]
          | inr k ↦
              elim (kept b) [
                | inl f ↦
                    absurd (free a n (kept_covers g after a n k c) (subst (λ (o : Occupant). Covers (run_of after o) n) f d))
                | inr l ↦ placed.apart a b n (kept_covers g after a n k c) (kept_covers g after b n l d)
              ]
        ];
    homes = λ o some.
        elim (kept o) [
          | inl e ↦ subst (HomeOf after) (sym e) (home (subst (λ (p : Occupant). 0 < (run_of after p).count) e some))
          | inr k ↦ home_kept o placed k some
        ];
  }

  -- one has words that another had, which keeps others of its own
  pub record IsGiven (from to : Occupant) : Type 0 where
    pub kept : (o : Occupant) → (o ≡ to) ⊎ ((o ≡ from) ⊎ ((o ≢ from) × IsKept g after o))
    pub home : 0 < (run_of after to).count → HomeOf after to
    pub rest_home : 0 < (run_of after from).count → HomeOf after from
    pub given : (n : ℕ) → Covers (run_of after to) n → Covers (run_of g from) n
    pub rest : (n : ℕ) → Covers (run_of after from) n → Covers (run_of g from) n
    pub cut : (n : ℕ) → Covers (run_of after to) n → Covers (run_of after from) n → ⊥

  at_occupant : (a b : Occupant) (n : ℕ) → a ≡ b → Covers (run_of after a) n → Covers (run_of after b) n
  at_occupant a b n e c = subst (λ (o : Occupant). Covers (run_of after o) n) e c

  pub placed_given : (from to : Occupant) → IsGiven from to → ArePlaced g → ArePlaced after
  placed_given from to h placed = record {
    apart = λ a b n c d. both a b n (h.kept a) (h.kept b) c d;
    homes = λ o some.
        elim (h.kept o) [
          | inl e ↦ subst (HomeOf after) (sym e) (h.home (subst (λ (p : Occupant). 0 < (run_of after p).count) e some))
          | inr (inl e) ↦ subst (HomeOf after) (sym e) (h.rest_home (subst (λ (p : Occupant). 0 < (run_of after p).count) e some))
          | inr (inr k) ↦ home_kept o placed k.1 some
        ];
  }
    where
      both : (a b : Occupant) (n : ℕ) → (a ≡ to) ⊎ ((a ≡ from) ⊎ ((a ≢ from) × IsKept g after a))
          → (b ≡ to) ⊎ ((b ≡ from) ⊎ ((b ≢ from) × IsKept g after b)) → Covers (run_of after a) n → Covers (run_of after b) n → a ≡ b
      both a b n (inl e) (inl f) c d = e ∙ sym f
      both a b n (inl e) (inr (inl f)) c d = absurd (h.cut n (at_occupant a to n e c) (at_occupant b from n f d))
      both a b n (inl e) (inr (inr f)) c d =
          absurd (f.0 (placed.apart b from n (kept_covers g after b n f.1 d) (h.given n (at_occupant a to n e c))))
      both a b n (inr (inl e)) (inl f) c d = absurd (h.cut n (at_occupant b to n f d) (at_occupant a from n e c))
      both a b n (inr (inl e)) (inr (inl f)) c d = e ∙ sym f
      both a b n (inr (inl e)) (inr (inr f)) c d =
          absurd (f.0 (placed.apart b from n (kept_covers g after b n f.1 d) (h.rest n (at_occupant a from n e c))))
      both a b n (inr (inr e)) (inl f) c d =
          absurd (e.0 (placed.apart a from n (kept_covers g after a n e.1 c) (h.given n (at_occupant b to n f d))))
      both a b n (inr (inr e)) (inr (inl f)) c d =
          absurd (e.0 (placed.apart a from n (kept_covers g after a n e.1 c) (h.rest n (at_occupant b from n f d))))
      both a b n (inr (inr e)) (inr (inr f)) c d =
          placed.apart a b n (kept_covers g after a n e.1 c) (kept_covers g after b n f.1 d)

-- an arena whose segments stay
pub laid_out_again : (limit : ℕ) (g : Occupancy) (shapes : List Shape) (addresses : List (Option Address))
    (points : List (Option PointShape)) (memories : List PointMemory) (tails : List Tail)
    → IsLaidOut limit g → AreKeyed tails → length addresses ≡ length shapes → length memories ≡ length points
    → ((id : ℕ) (s : Shape) → slice_get shapes id ≡ Some s → IsRightShape g.pools s)
    → ((n : ℕ) (p : PointShape) → entry_at points n ≡ Some p → IsRightPointShape g.pools p)
    → ArePlaced (changed g shapes addresses points memories tails) → IsLaidOut limit (changed g shapes addresses points memories tails)
laid_out_again limit g shapes addresses points memories tails laid keyed lengths lengths' right right' placed = record {
  in_range = laid.in_range;
  lengths = lengths;
  memories = lengths';
  shapes = right;
  points = right';
  ascending = laid.ascending;
  aligned = laid.aligned;
  ranked = laid.ranked;
  condemned = laid.condemned;
  distinct = laid.distinct;
  keyed = keyed;
  placed = placed;
}

-- and in which words are at hand elsewhere
pub at_hand_again : (limit : ℕ) (g : Occupancy) (memories : List PointMemory) (tails : List Tail) → IsLaidOut limit g → AreKeyed tails
    → length memories ≡ length g.memories → ArePlaced (record g { memories = memories; tails = tails })
    → IsLaidOut limit (record g { memories = memories; tails = tails })
at_hand_again limit g memories tails laid keyed same placed =
    laid_out_again limit g g.shapes g.addresses g.points memories tails laid keyed laid.lengths
    (same ∙ laid.memories) laid.shapes laid.points placed
