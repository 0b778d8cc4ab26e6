-- The moves of a flip never end with a segment that is taken: if the act takes one, a block moves into it next.
use Rattle.std.proofs.Common.{◌≡◌, refl, List, [], ◌∷◌, ◌++◌}
use Rattle.mps_base.specs.Address.{Id}
use Rattle.mps_base.specs.declared.moves.Move.{Move}
use Rattle.mps_model.specs.Collection.{Collection}
use Rattle.mps_model.specs.History.{own_segment}
use Rattle.mps_model.specs.World.{World}
use Rattle.mps_abstract.specs.Collecting.{Collecting}
use Rattle.mps_abstract.specs.Fixing.{Fixes, Keeps, fixes_no_more, keeps, marks, moves_to_place, moves_to_segment, passes, stays}

both_take_none : (these those : List Move) → own_segment these ≡ [] → own_segment those ≡ [] → own_segment (these ++ those) ≡ []
both_take_none [] those first last = last
both_take_none (m ∷ []) [] first last = first
both_take_none (m ∷ []) (n ∷ those) first last = last
both_take_none (m ∷ n ∷ these) those first last = both_take_none (n ∷ these) those first last

keep_takes_none : {w : World} {c : Collection} {id : Id} {ms : List Move} {c' : Collection} → Keeps w c id ms c' → own_segment ms ≡ []
keep_takes_none (marks still) = refl
keep_takes_none (moves_to_place copying placed free) = refl
keep_takes_none (moves_to_segment copying placed unused) = refl
keep_takes_none (stays copying full) = refl

fixes_take_none : {x y : Collecting} {ids : List Id} {ms : List Move} → Fixes x ids ms y → own_segment ms ≡ []
fixes_take_none fixes_no_more = refl
fixes_take_none (passes black rest) = fixes_take_none rest
fixes_take_none (keeps {these = these} {those = those} white keep rest) =
    both_take_none these those (keep_takes_none keep) (fixes_take_none rest)

-- after the record of the flip, which takes none
pub flip_takes_none : (flip : Move) → own_segment (flip ∷ []) ≡ [] → {x y : Collecting} {ids : List Id} {ms : List Move} → Fixes x ids ms y
    → own_segment (flip ∷ ms) ≡ []
flip_takes_none flip none {ms = ms} fixes = both_take_none (flip ∷ []) ms none (fixes_take_none fixes)
