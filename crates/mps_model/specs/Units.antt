-- The units of a collection, into which its moves are cut, and the read barrier.
use Rattle.std.specs.Prelude.{◌≡◌, ℕ, suc, Bool, true, false, not, ◌&&◌, ◌⊎◌, ◌<◌, nat_lt, nat_le, IsTrue, List, [], ◌∷◌, ◌++◌, map}
use Rattle.std.specs.List.{list_all}
use Rattle.std.specs.Option.{option_map_or}
use Rattle.mps_base.specs.Address.{Id, Address}
use Rattle.mps_base.specs.declared.address.Addr.{Addr}
use Rattle.mps_base.specs.declared.moves.Move.{Move}
use Rattle.mps_base.specs.declared.moves.Move.TheVariants as moves
use Rattle.mps_base.specs.Segment.{Segment, is_in_segment}
use Rattle.mps_model.specs.Graph.{contains, targets, is_automatic, is_weak_object}
use Rattle.mps_model.specs.Collection.{Collection}
use Rattle.mps_model.specs.World.{World, is_running, is_live, is_live_and, id_at, object_is, segment_at, is_empty_segment}
use Rattle.mps_model.specs.Effect.{world_after_move, world_after_moves}
use Rattle.mps_model.specs.LegalMove.{ForOne, MayBeScanned}
use Rattle.mps_model.specs.Flip.{at_address, end_where}

-- ---- scanning

-- whether an object refers to the one at an address
abbrev pub refers_to : World → (holder : Id) → (address : Address) → Bool
refers_to w holder address = option_map_or (contains (targets w.graph holder)) (id_at w address) false

-- an object that is scanned refers to the one at an address
pub record IsScannedTarget (IsScanned : World → (holder : Id) → Type 0) (w : World) (address : Address) : Type 0 where
  pub holder : ℕ
  pub scanned : IsScanned w holder
  pub refers : IsTrue (refers_to w holder address)

-- moves that keep what scanned objects refer to, each judged in the world that the moves before it leave
pub data Scans (IsScanned : World → (holder : Id) → Type 0) : World → List Move → Type 0 where
  scans_no_more : {w : World} → Scans IsScanned w []
  moves_target : {w : World} {from to : Addr} {rest : List Move} → IsScannedTarget IsScanned w from.0
      → Scans IsScanned (world_after_move w (moves.Moved from to)) rest → Scans IsScanned w (moves.Moved from to ∷ rest)
  moves_target_to_segment : {w : World} {base from to : Addr} {grains pool generation : ℕ} {rest : List Move}
      → IsScannedTarget IsScanned w from.0
      → Scans IsScanned (world_after_moves w (moves.Seg base grains pool generation ∷ moves.Moved from to ∷ [])) rest
      → Scans IsScanned w (moves.Seg base grains pool generation ∷ moves.Moved from to ∷ rest)
  makes_target_stay : {w : World} {at : Addr} {rest : List Move} → IsScannedTarget IsScanned w at.0
      → Scans IsScanned (world_after_move w (moves.Stay at)) rest → Scans IsScanned w (moves.Stay at ∷ rest)

-- the object that a unit scans: it is live, isn't weak and may be scanned
pub record IsScannedByUnit (w : World) (id : Id) : Type 0 where
  pub live : IsTrue (is_live w id && object_is is_automatic w id)
  pub not_weak : IsTrue (not (object_is is_weak_object w id))
  pub may_be_scanned : ForOne w.collection (λ c. MayBeScanned w c id)

-- ---- examining one registration

-- an examination that finds its object unreachable: it is kept first, if it moves or stays, and then posted
pub data IsExamination : List Move → Type 0 where
  posts : {at : Addr} → IsExamination (moves.Post at ∷ [])
  stays_and_posts : {at : Addr} → IsExamination (moves.Stay at ∷ moves.Post at ∷ [])
  moves_and_posts : {from to : Addr} → IsExamination (moves.Moved from to ∷ moves.Post to ∷ [])
  moves_to_segment_and_posts : {base from to : Addr} {grains pool generation : ℕ}
      → IsExamination (moves.Seg base grains pool generation ∷ moves.Moved from to ∷ moves.Post to ∷ [])

-- ---- splatting one object

-- the splats of these cells of the object at an address
abbrev pub splats_of : (holder : Addr) → (cells : List ℕ) → List Move
splats_of holder cells = map (λ cell. moves.Splat holder cell) cells

-- ---- reclaiming one segment

-- the frees of blocks at these addresses
abbrev pub frees_at : List ℕ → List Move
frees_at addresses = map (λ address. moves.Free (at_address address)) addresses

-- each is above the one before, and above this
abbrev pub is_ascending : (above : ℕ) → List ℕ → Bool
is_ascending above [] = true
is_ascending above (n ∷ ns) = nat_lt above n && is_ascending n ns

-- the segment at a base is given back exactly if nothing is left in it
abbrev pub give_back_where : (base : Address) → Bool → List Move
give_back_where base true = moves.Unseg (at_address base) ∷ []
give_back_where base false = []

abbrev pub nothing_left : World → (base : Address) → Bool
nothing_left w base = option_map_or (is_empty_segment w) (segment_at w base) false

-- whether no condemned segment lies after this one
abbrev pub is_last_condemned : Collection → (base : Address) → Bool
is_last_condemned c base = list_all (λ other. nat_le other base) c.condemned_segments

-- the moves that reclaim a segment in which blocks at these addresses go
abbrev pub reclaim_of : World → Collection → (base : Address) → (freed : List ℕ) → List Move
reclaim_of w c base freed =
    frees_at freed ++ give_back_where base (nothing_left (world_after_moves w (frees_at freed)) base)
    ++ end_where (is_last_condemned c base)

-- a unit that reclaims one condemned segment, above those that were reclaimed before
pub record IsReclaim (w : World) (piece : List Move) (c : Collection) : Type 0 where
  pub base : Address
  pub freed : List ℕ
  pub condemned : IsTrue (contains c.condemned_segments base)
  pub in_turn : IsTrue (nat_lt c.reclaimed_to base)
  pub ascending : IsTrue (is_ascending 0 freed)
  pub in_segment : ForOne (segment_at w base) (λ s. IsTrue (list_all (is_in_segment s) freed))
  pub whole : piece ≡ reclaim_of w c base freed

-- ---- units

-- what one unit does
pub data IsUnitPiece (w : World) (piece : List Move) : Type 0 where
  -- it scans one object
  scans : (id : Id) → IsScannedByUnit w id → Scans (λ now holder. holder ≡ id) w piece → IsUnitPiece w piece
  examines : IsExamination piece → IsUnitPiece w piece
  splats : (holder : Addr) (cells : List ℕ) → piece ≡ splats_of holder cells → IsUnitPiece w piece
  reclaims : ForOne w.collection (IsReclaim w piece) → IsUnitPiece w piece
  does_nothing : piece ≡ [] → IsUnitPiece w piece

-- n units, one after the other, each begun while the collection runs
pub data UnitsDone (w : World) : (count : ℕ) → List Move → Type 0 where
  none_yet : UnitsDone w 0 []
  one_more : {count : ℕ} {done piece : List Move} → UnitsDone w count done → IsTrue (is_running (world_after_moves w done))
      → IsUnitPiece (world_after_moves w done) piece → UnitsDone w (suc count) (done ++ piece)

-- whether the collection ends in these moves
abbrev pub ends_in : World → List Move → Bool
ends_in w moves = not (is_running (world_after_moves w moves))

-- n units, or fewer if the collection ends in them
abbrev pub AreUnits : World → (count : ℕ) → List Move → Type 0
AreUnits w count moves = UnitsDone w count moves ⊎ ((fewer : ℕ) × (fewer < count) × UnitsDone w fewer moves × IsTrue (ends_in w moves))

-- units up to the end of the collection
abbrev pub AreUnitsToEnd : World → List Move → Type 0
AreUnitsToEnd w moves = ((count : ℕ) × UnitsDone w count moves) × IsTrue (ends_in w moves)

-- ---- the read barrier

-- the objects that a read barrier scans: those in the segment that is read, weak ones too
pub record IsScannedByBarrier (s : Segment) (w : World) (id : Id) : Type 0 where
  pub in_segment : IsTrue (is_live_and (is_in_segment s) w id && object_is is_automatic w id)
  pub may_be_scanned : ForOne w.collection (λ c. MayBeScanned w c id)

-- a splat of an object in a segment
abbrev pub splats_in : Segment → Move → Bool
splats_in s (moves.Splat holder cell) = is_in_segment s holder.0
splats_in s _ = false

-- what a read barrier does for a segment: it scans, also what it moved there itself, or it splats
abbrev pub IsBarrier : World → Segment → List Move → Type 0
IsBarrier w s moves = Scans (IsScannedByBarrier s) w moves ⊎ IsTrue (list_all (splats_in s) moves)
