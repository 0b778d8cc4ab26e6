-- Steps of a small collection, right ones and wrong ones.
use Rattle.std.specs.Prelude.{◌≡◌, ◌≤◌, ◌<◌, true, false, Some, None, List, [], ◌∷◌, refl}
use Rattle.std.proofs.Common.{arith}
use Rattle.mps_base.specs.Address.{Id, Address}
use Rattle.mps_base.specs.Segment.{Segment}
use Rattle.mps_base.specs.declared.moves.Move.TheVariants as moves
use Rattle.mps_base.specs.declared.names.Kind.TheVariants as kind
use Rattle.mps_base.specs.declared.names.Rank.TheVariants as rank
use Rattle.mps_model.specs.Graph.{Object, HeadCell, NumberCell, ReferenceCell, Automatic, is_weak_object, targets, empty_graph}
use Rattle.mps_model.specs.Collection.{Collection, empty_collection}
use Rattle.mps_model.specs.World.{World, Collected, object_is, is_copying_object, empty_world}
use Rattle.mps_model.specs.Placement.{ForMove, placement_of}
use Rattle.mps_model.specs.Effect.{placing}
use Rattle.mps_model.specs.LegalMove.{has_no_room}
use Rattle.mps_model.specs.Flip.{at_address}
use Rattle.mps_abstract.specs.Collecting.{Exact, Collecting, is_white_in, IsDrainedIn, units_left}
use Rattle.mps_abstract.specs.Fixing.{Keeps, marks, stays, Fixes, fixes_no_more, passes, keeps, kept_by}
use Rattle.mps_abstract.specs.Units.{collecting_after_splat, IsExaminedNext, collecting_after_post, IsReclaimedNext, reclaim_by, collecting_after_reclaim, IsUnit, scans, is_grey_in}

-- ---- a pool that doesn't move: object 0 refers to 1, and 2, which is weak, refers to 1 and 3. 0 and 2 are held

abbrev objects : List Object
objects =
    record { pool = 0; body = Automatic 0x201 (HeadCell ∷ ReferenceCell (Some 1) 0 ∷ []) false }
    ∷ record { pool = 0; body = Automatic 0x200 (HeadCell ∷ NumberCell 7 ∷ []) false }
    ∷ record { pool = 0; body = Automatic 0x302 (HeadCell ∷ ReferenceCell (Some 1) 0 ∷ ReferenceCell (Some 3) 0 ∷ []) true }
    ∷ record { pool = 0; body = Automatic 0x200 (HeadCell ∷ NumberCell 8 ∷ []) false } ∷ []

abbrev exact_segment : Segment
exact_segment = record { base = 0x1000; grains = 1; pool = 0; generation = 0; rank = rank.Exact }

abbrev weak_segment : Segment
weak_segment = record { base = 0x2000; grains = 1; pool = 0; generation = 0; rank = rank.Weak }

abbrev small_collection : Collection
small_collection = record (empty_collection empty_graph) {
  condemned_segments = 0x1000 ∷ 0x2000 ∷ [];
  condemned = 0 ∷ 1 ∷ 2 ∷ 3 ∷ [];
  had = 0 ∷ 2 ∷ [];
  units = 6;
}

abbrev small_world : World
small_world = record empty_world {
  graph = record empty_graph { objects = objects; tables = Some (Some 0 ∷ Some 2 ∷ []) ∷ [] };
  pools = record { kind = Collected kind.Awl; format = 1; chain = None } ∷ [];
  segments = exact_segment ∷ weak_segment ∷ [];
  addresses = Some 0x1000 ∷ Some 0x1010 ∷ Some 0x2000 ∷ Some 0x1020 ∷ [];
  collection = Some small_collection;
}

-- right after the flip: what is held is kept, and to be scanned
abbrev begun : Collecting
begun = record {
  world = small_world;
  running = small_collection;
  colours = record { kept = 0 ∷ 2 ∷ []; grey = 0 ∷ 2 ∷ [] };
  band = Exact;
  next = 0;
  cursor = 0;
}

-- four objects to be scanned, and two segments to be reclaimed
pub six_units_at_the_most : units_left begun ≡ 6
six_units_at_the_most = refl

-- ---- a scan

abbrev first_scanned : Collecting
first_scanned = record begun { colours = record { kept = 1 ∷ 0 ∷ 2 ∷ []; grey = 1 ∷ 2 ∷ [] } }

-- its white target is marked, and it isn't grey any more
pub a_scan_marks : IsUnit begun [] first_scanned
a_scan_marks = scans 0 refl refl (keeps refl (marks refl) fixes_no_more)

pub a_scan_is_one_unit : units_left first_scanned ≡ 5
a_scan_is_one_unit = refl

-- a target that isn't white is passed, and one that is white may not be
pub a_kept_target_is_passed : Fixes begun (2 ∷ []) [] begun
a_kept_target_is_passed = passes refl fixes_no_more

pub a_white_target_may_not_be_passed : is_white_in begun 1 ≡ false → ⊥
a_white_target_may_not_be_passed h = absurd cc

-- a weak object is scanned by no unit of the first bands
pub no_weak_object_as_an_exact_one : object_is is_weak_object begun.world 2 ≡ false → ⊥
no_weak_object_as_an_exact_one h = absurd cc

-- ---- the same in a pool that moves, if no more segments may be held

abbrev full_world : World
full_world = record small_world { pools = record { kind = Collected kind.Amc; format = 1; chain = None } ∷ []; grains = 8; limit = 2 }

pub an_object_stays_without_room : Keeps full_world small_collection 1 (moves.Stay (at_address 0x1010) ∷ []) (placing 1 small_collection)
an_object_stays_without_room = stays refl refl

pub it_is_not_marked : is_copying_object full_world 1 ≡ false → ⊥
it_is_not_marked h = absurd cc

pub nor_may_it_stay_where_there_is_room : has_no_room (placement_of (record full_world { limit = 3 }) (ForMove 1)) ≡ true → ⊥
nor_may_it_stay_where_there_is_room h = absurd cc

-- ---- splats

-- nothing but the weak object is grey
abbrev drained : Collecting
drained = record begun { colours = record { kept = 1 ∷ 0 ∷ 2 ∷ []; grey = 2 ∷ [] } }

-- the reference to 3 is splatted, the one to 1 isn't
pub a_white_target_is_splatted : targets (collecting_after_splat drained 2 2).world.graph 2 ≡ 1 ∷ []
a_white_target_is_splatted = refl

pub its_target_is_white : is_white_in drained 3 ≡ true
its_target_is_white = refl

pub a_kept_target_is_not_splatted : is_white_in drained 1 ≡ true → ⊥
a_kept_target_is_not_splatted h = absurd cc

-- not before all else is scanned
pub no_splat_before_all_else_is_scanned : IsDrainedIn first_scanned → ⊥
no_splat_before_all_else_is_scanned is = let h : false ≡ true = is 1 refl in absurd cc

-- ---- a registration

abbrev registered : Collecting
registered = record drained {
  world = record small_world { graph = record small_world.graph { registered = 3 ∷ [] } };
  running = record small_collection { registered_before = 1 };
}

-- once the collection is drained, the white object of a registration is kept and posted
pub a_post_keeps_first : is_white_in (collecting_after_post (kept_by registered 3 [] registered.running) 3) 3 ≡ false
a_post_keeps_first = refl

pub a_post_is_a_message : (collecting_after_post (kept_by registered 3 [] registered.running) 3).world.graph.messages ≡ 3 ∷ []
a_post_is_a_message = refl

pub none_is_examined_while_a_strong_object_is_grey :
    IsExaminedNext (record registered { colours = record { kept = 1 ∷ 0 ∷ 2 ∷ []; grey = 1 ∷ [] } }) 3 → ⊥
none_is_examined_while_a_strong_object_is_grey next = let h : false ≡ true = next.drained 1 refl in absurd cc

pub none_after_the_last : IsExaminedNext (record registered { next = 1 }) 3 → ⊥
none_after_the_last next = let h : 1 < 1 = next.before_flip in omega (arith, h)

-- ---- a reclaim

-- all is scanned, and only 3 is white
abbrev all_scanned : Collecting
all_scanned = record drained { colours = record { kept = 1 ∷ 0 ∷ 2 ∷ []; grey = [] } }

pub it_is_freed : reclaim_by all_scanned 0x1000 (0x1020 ∷ []) ≡ moves.Free (at_address 0x1020) ∷ []
it_is_freed = refl

pub one_unit_is_left : units_left (collecting_after_reclaim all_scanned 0x1000 (0x1020 ∷ []) all_scanned.running) ≡ 1
one_unit_is_left = refl

pub no_reclaim_while_an_object_is_grey : (freed : List Address) → IsReclaimedNext drained exact_segment freed → ⊥
no_reclaim_while_an_object_is_grey freed next = let h : true ≡ false = next.scanned 2 in absurd cc

pub no_reclaim_below_the_cursor : (freed : List Address) → IsReclaimedNext (record all_scanned { cursor = 0x1001 }) exact_segment freed → ⊥
no_reclaim_below_the_cursor freed next = let h : 0x1001 ≤ 0x1000 = next.from_cursor in omega (arith, h)

pub nothing_white_is_left : IsReclaimedNext all_scanned exact_segment [] → ⊥
nothing_white_is_left next = let h : false ≡ true = next.all 3 0x1020 refl refl refl in absurd cc

-- ---- a read barrier

pub a_grey_object_in_the_segment : is_grey_in exact_segment first_scanned 1 ≡ true
a_grey_object_in_the_segment = refl

pub not_of_another_segment : is_grey_in weak_segment first_scanned 1 ≡ false
not_of_another_segment = refl

-- it isn't done while an object in the segment is grey
pub a_barrier_leaves_none_grey : ((id : Id) → is_grey_in exact_segment first_scanned id ≡ false) → ⊥
a_barrier_leaves_none_grey none = let h : true ≡ false = none 1 in absurd cc
