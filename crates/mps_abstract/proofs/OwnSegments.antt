-- The moves of units never end with a segment that is taken: if a unit takes one, a block moves into it next.
use Rattle.std.proofs.Common.{◌≡◌, ℕ, Bool, true, false, refl, List, [], ◌∷◌, ◌++◌}
use Rattle.mps_base.specs.Address.{Address, Id}
use Rattle.mps_base.specs.declared.address.Addr.{Addr}
use Rattle.mps_base.specs.declared.moves.Move.{Move}
use Rattle.mps_base.specs.declared.moves.Move.TheVariants as moves
use Rattle.mps_model.specs.Accessing.{address_or_null}
use Rattle.mps_model.specs.Collection.{Collection}
use Rattle.mps_model.specs.Effect.{world_after_moves}
use Rattle.mps_model.specs.Flip.{at_address, end_where}
use Rattle.mps_model.specs.History.{own_segment}
use Rattle.mps_model.specs.Units.{frees_at, give_back_where, is_last_condemned, nothing_left, splats_of}
use Rattle.mps_model.specs.World.{World}
use Rattle.mps_abstract.specs.Collecting.{Collecting}
use Rattle.mps_abstract.specs.Fixing.{Fixes, Keeps, fixes_no_more, keeps, marks, moves_to_place, moves_to_segment, passes, stays}
use Rattle.mps_abstract.specs.Units.{Ends, GoesOn, IsLastUnit, IsUnit, begun, by_last, by_one_more, examines, posts, reclaim_by, reclaims, reclaims_last, scans, splats}

-- the last of these moves takes no segment
abbrev pub EndsInNoSegment : List Move → Type 0
EndsInNoSegment ms = own_segment ms ≡ []

both_end_so : (these those : List Move) → EndsInNoSegment these → EndsInNoSegment those → EndsInNoSegment (these ++ those)
both_end_so [] those first last = last
both_end_so (m ∷ []) [] first last = first
both_end_so (m ∷ []) (n ∷ those) first last = last
both_end_so (m ∷ n ∷ these) those first last = both_end_so (n ∷ these) those first last

splats_end_so : (holder : Addr) (cells : List ℕ) → EndsInNoSegment (splats_of holder cells)
splats_end_so holder [] = refl
splats_end_so holder (cell ∷ []) = refl
splats_end_so holder (cell ∷ next ∷ cells) = splats_end_so holder (next ∷ cells)

frees_end_so : (freed : List ℕ) → EndsInNoSegment (frees_at freed)
frees_end_so [] = refl
frees_end_so (at ∷ []) = refl
frees_end_so (at ∷ next ∷ freed) = frees_end_so (next ∷ freed)

giving_back_ends_so : (base : Address) (b : Bool) → EndsInNoSegment (give_back_where base b)
giving_back_ends_so base true = refl
giving_back_ends_so base false = refl

end_ends_so : (b : Bool) → EndsInNoSegment (end_where b)
end_ends_so true = refl
end_ends_so false = refl

keeping_ends_so : {w : World} {c : Collection} {id : Id} {ms : List Move} {c' : Collection} → Keeps w c id ms c' → EndsInNoSegment ms
keeping_ends_so (marks still) = refl
keeping_ends_so (moves_to_place copying placed free) = refl
keeping_ends_so (moves_to_segment copying placed unused) = refl
keeping_ends_so (stays copying full) = refl

fixing_ends_so : {x y : Collecting} {ids : List Id} {ms : List Move} → Fixes x ids ms y → EndsInNoSegment ms
fixing_ends_so fixes_no_more = refl
fixing_ends_so (passes black rest) = fixing_ends_so rest
fixing_ends_so (keeps {these = these} {those = those} white keep rest) = both_end_so these those (keeping_ends_so keep)
    (fixing_ends_so rest)

reclaim_ends_so : (x : Collecting) (base : Address) (freed : List ℕ) → EndsInNoSegment (reclaim_by x base freed)
reclaim_ends_so x base freed =
    both_end_so (frees_at freed ++ give_back_where base (nothing_left (world_after_moves x.world (frees_at freed)) base))
    (end_where (is_last_condemned x.running base))
    (both_end_so (frees_at freed) (give_back_where base (nothing_left (world_after_moves x.world (frees_at freed)) base))
    (frees_end_so freed) (giving_back_ends_so base (nothing_left (world_after_moves x.world (frees_at freed)) base)))
    (end_ends_so (is_last_condemned x.running base))

unit_ends_so : {x y : Collecting} {ms : List Move} → IsUnit x ms y → EndsInNoSegment ms
unit_ends_so (scans id grey strong fixes) = fixing_ends_so fixes
unit_ends_so (examines id due black) = refl
unit_ends_so {x} (posts id {ms} due white keep) =
    both_end_so ms (moves.Post (at_address (address_or_null (world_after_moves x.world ms) id)) ∷ []) (keeping_ends_so keep) refl
unit_ends_so {x} (splats id {cells = cells} drained examined grey done) = splats_end_so (at_address (address_or_null x.world id)) cells
unit_ends_so {x} (reclaims {s = s} {freed = freed} next not_last runs) =
    reclaim_ends_so x s.base freed

pub units_end_so : {x y : Collecting} {count : ℕ} {ms : List Move} → GoesOn x count ms y → EndsInNoSegment ms
units_end_so begun = refl
units_end_so (by_one_more {done = done} {piece = piece} row unit) = both_end_so done piece (units_end_so row) (unit_ends_so unit)

last_unit_ends_so : {x : Collecting} {ms : List Move} → IsLastUnit x ms → EndsInNoSegment ms
last_unit_ends_so {x} (reclaims_last {s = s} {freed = freed} next last) = reclaim_ends_so x s.base freed

pub last_units_end_so : {x : Collecting} {count : ℕ} {ms : List Move} → Ends x count ms → EndsInNoSegment ms
last_units_end_so (by_last {done = done} {piece = piece} row last) = both_end_so done piece (units_end_so row) (last_unit_ends_so last)
