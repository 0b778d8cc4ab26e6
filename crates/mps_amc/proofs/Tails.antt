-- Rows, each seen as the list of its items, one item of which is written.
use Rattle.std.proofs.Common.{ℕ, ◌≡◌, ◌<◌, List, [], length, map, get_or, sym, ap, ◌∙◌, arith}
use Rattle.std.specs.Prelude.{slice_set}
use Rattle.std.proofs.lemmas.List.{map-set, length-map, get_or-map, get_or-set_same}
use Rattle.mps_seg.specs.declared.buffer.Buffer.{Buffer}
use Rattle.mps_seg.specs.Buffer.{empty_buffer}
use Rattle.mps_amc.specs.Amc.{AmcState, HasTail, tails_of, tail_of, with_tail}

pub item_written : {A B : Type 0} (items : A → List B) (xs : List A) (number index : ℕ) (value : B) (old new : A)
    → number < length (map items xs) → old ≡ get_or xs number old → items new ≡ slice_set (items old) index value
    → map items (slice_set xs number new)
    ≡ slice_set (map items xs) number (slice_set (get_or (map items xs) number []) index value)
item_written {A} {B} items xs number index value old new within there is =
    let row_is : get_or (map items xs) number [] ≡ items old =
    get_or-map items xs number old [] (omega (arith, within, length-map xs items)) ∙ ap items (sym there) in
    map-set items xs number new
    ∙ ap (λ (bs : List B). slice_set (map items xs) number bs) (is ∙ ap (λ (bs : List B). slice_set bs index value) (sym row_is))

-- what is at hand for a generation of a pool once it is written
pub tail_written : (amc : AmcState) (pool generation : ℕ) (tail : Buffer) → HasTail amc pool generation
    → tail_of (with_tail amc pool generation tail) pool generation ≡ tail
tail_written amc pool generation tail there =
    ap (λ (row : List Buffer). get_or row generation empty_buffer)
    (get_or-set_same amc.tails pool (slice_set (tails_of amc pool) generation tail) [] there.pool_listed)
    ∙ get_or-set_same (tails_of amc pool) generation tail empty_buffer there.generation_listed
