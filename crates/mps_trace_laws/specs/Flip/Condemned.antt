-- What a flip condemns, in words and in the model.
use Rattle.std.specs.Prelude.{◌≡◌, ℕ, ◌<◌, Bool, true, false, ◌||◌, IsTrue, Option, Some, None, List, [], ◌∷◌, map, length, Contains, refl}
use Rattle.std.proofs.Common.{◌∙◌, arith, lit<}
use Rattle.mps_base.specs.Address.{Address, address_of_grain, grain_of}
use Rattle.mps_base.specs.Segment.{Segment}
use Rattle.mps_base.specs.declared.moves.Move.TheVariants.{Flip}
use Rattle.mps_base.specs.declared.names.Rank.TheVariants.{Exact}
use Rattle.mps_extents.specs.Table.{bit}
use Rattle.mps_trace.specs.GenState.{ChainsState, no_chains}
use Rattle.mps_model.specs.Graph.{contains}
use Rattle.mps_model.specs.World.{World}
use Rattle.mps_model.specs.Effect.{Condemnation, condemned_by, condemned_zones, collection_at_flip, is_condemned_by, world_flipped}
use Rattle.mps_model.specs.Effect as model
use Rattle.mps_model.specs.Flip.{flip_of}
use Rattle.mps_seg.specs.Segs.{SegsState}
use Rattle.mps_trace.specs.Flip.{is_automatic, moves_blocks, automatic_of, chain_of, condemns, oldest_of, zones_of}
use Rattle.mps_trace.specs.declared.condemn.Condemn.{Condemn}
use Rattle.mps_trace.specs.declared.condemn.Condemn.TheVariants.{Everything, Generations}
use Rattle.mps_format.specs.declared.pool.Policy.{Policy}

-- a collector has the format of a pool exactly if the pool is automatic
abbrev pub AreFormatsOf : {F : Type 0} → (formats : List (Option (Policy F))) → (is_automatic_pool : ℕ → Bool) → Type 0
AreFormatsOf formats is_automatic_pool = (pool : ℕ) → is_automatic formats pool ≡ is_automatic_pool pool

-- a collector moves the blocks of a pool exactly if the pool is one that copies
abbrev pub AreMovesOf : {F : Type 0} → (formats : List (Option (Policy F))) → (is_copying : ℕ → Bool) → Type 0
AreMovesOf formats is_copying = (pool : ℕ) → moves_blocks formats pool ≡ is_copying pool

-- the addresses at which segments begin
abbrev pub bases_of : List Segment → List Address
bases_of ts = map (λ (t : Segment). t.base) ts

-- what a flip condemns, as the model has it
abbrev pub condemnation : Condemn → Condemnation
condemnation Everything = model.Everything
condemnation (Generations chain oldest) = model.Generations chain oldest

-- a flip condemns a segment exactly if the model's does
abbrev pub CondemnsAlike : {F : Type 0} → (formats : List (Option (Policy F))) → ChainsState → Condemn → World → Type 0
CondemnsAlike formats chains what w =
    (t : Segment) → condemns formats chains what t.pool t.generation ≡ is_condemned_by w (condemnation what) t

-- ---- the model's flip

-- a flip that condemns these segments, of which these move blocks, is a flip of the model
pub record IsFlipOf (what : Condemn) (condemned moving : List Segment) (w : World) : Type 0 where
  pub segments : condemned ≡ condemned_by w (condemnation what)
  -- in the model's order
  pub bases : bases_of condemned
      ≡ (collection_at_flip (world_flipped w (zones_of moving)) (condemnation what)).condemned_segments
  pub zones : zones_of moving ≡ condemned_zones w (condemnation what)
  pub move : Flip (record { 0 = zones_of moving }) (chain_of what) (oldest_of what) ≡ flip_of w (condemnation what)

-- ---- the segments after a flip

-- segments begin with a grain for which there is a bit in a table of this many
pub record BeginInTable (ts : List Segment) (entries : ℕ) : Type 0 where
  pub aligned : (t : Segment) → Contains ts t → address_of_grain (grain_of t.base) ≡ t.base
  pub within : (t : Segment) → Contains ts t → grain_of t.base < entries

-- the segments that begin at these addresses are condemned too, all of them are held, and no other one is condemned
pub record AreCondemnedToo (s after : SegsState) (bases : List Address) : Type 0 where
  pub segments : after.segments ≡ s.segments
  pub entries : length after.condemned ≡ length s.condemned
  pub bits : (t : Segment) → Contains after.segments t
      → bit after.condemned (grain_of t.base) ≡ (contains bases t.base || bit s.condemned (grain_of t.base))
  pub held : (base : Address) → IsTrue (contains bases base) → (t : Segment) × Contains after.segments t × (t.base ≡ base)
  -- if none was condemned before, exactly these are
  pub exactly : ((t : Segment) → Contains s.segments t → bit s.condemned (grain_of t.base) ≡ false) → (t : Segment)
      → Contains after.segments t → bit after.condemned (grain_of t.base) ≡ contains bases t.base

-- ---- vectors: pool 1 alone is automatic

abbrev pub known_formats : List (Option (Policy ℕ))
known_formats = None ∷ Some (record { format = 0; moves = true }) ∷ []

abbrev pub segment_at : (base pool : ℕ) → Segment
segment_at base pool = record { base = base; grains = 2; pool = pool; generation = 0; rank = Exact }

pub a_format_of_a_manual_pool : AreFormatsOf known_formats (λ pool. false) → ⊥
a_format_of_a_manual_pool known = let e : true ≡ false = known 1 in absurd cc

pub an_automatic_pool_without_a_format : AreFormatsOf known_formats (λ pool. true) → ⊥
an_automatic_pool_without_a_format known = let e : false ≡ true = known 0 in absurd cc

pub a_pool_that_moves_blocks : AreMovesOf known_formats (λ pool. false) → ⊥
a_pool_that_moves_blocks moves = let e : true ≡ false = moves 1 in absurd cc

pub a_generation_is_not_everything : (w : World) → CondemnsAlike known_formats no_chains (Generations 0 0) w
    → is_condemned_by w model.Everything (segment_at 0x1000 1) ≡ true
    → is_condemned_by w (model.Generations 0 0) (segment_at 0x1000 1) ≡ true → ⊥
a_generation_is_not_everything w alike all young =
    let e : false ≡ is_condemned_by w (model.Generations 0 0) (segment_at 0x1000 1) = alike (segment_at 0x1000 1) in
    let f : false ≡ true = e ∙ young in absurd cc

pub the_base_of_a_condemned_segment : bases_of (automatic_of known_formats (segment_at 0x1000 0 ∷ segment_at 0x3000 1 ∷ [])) ≡ 0x3000 ∷ []
the_base_of_a_condemned_segment = refl

pub a_segment_within_a_grain : BeginInTable (segment_at 0x1008 1 ∷ []) 4 → ⊥
a_segment_within_a_grain begin =
    let there : Contains (segment_at 0x1008 1 ∷ []) (segment_at 0x1008 1) = (0, lit< tt, refl) in
    let e : 0x1000 ≡ 0x1008 = begin.aligned (segment_at 0x1008 1) there in omega (arith, e)

pub a_segment_past_the_table : BeginInTable (segment_at 0x4000 1 ∷ []) 4 → ⊥
a_segment_past_the_table begin =
    let there : Contains (segment_at 0x4000 1 ∷ []) (segment_at 0x4000 1) = (0, lit< tt, refl) in
    let e : 4 < 4 = begin.within (segment_at 0x4000 1) there in omega (arith, e)
