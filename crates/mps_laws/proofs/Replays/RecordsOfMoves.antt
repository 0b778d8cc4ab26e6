-- The record of a move tells the move.
use Rattle.std.proofs.Common.{◌≡◌, ◌∙◌, ℕ, refl, sym, ap, List, [], ◌∷◌}
use Rattle.std.specs.Prelude.{◌==◌, if◌then◌else◌, slice_get, map}
use Rattle.std.specs.Option.{option_map_or}
use Rattle.mps_base.specs.Record.{Record, flip_code, end_code, seg_alloc_code, seg_free_code, splat_code, commit_code, alloc_code, move_code, stay_code, post_code}
use Rattle.mps_base.specs.declared.address.Addr.{Addr}
use Rattle.mps_base.specs.declared.moves.Move.{Move}
use Rattle.mps_base.specs.declared.moves.Move.TheVariants as moves
use Rattle.mps_model.specs.Log.{record_of, records_of}

-- a field of a record, counted from 0
abbrev field : Record → ℕ → ℕ
field r index = option_map_or (λ number. number) (slice_get r.fields index) 0

abbrev address_in : Record → ℕ → Addr
address_in r index = record { 0 = field r index }

-- the move that a record tells
abbrev move_in : Record → Move
move_in r =
    if r.code == seg_alloc_code then moves.Seg (address_in r 0) (field r 1) (field r 2) (field r 3)
    else if r.code == seg_free_code then moves.Unseg (address_in r 0)
    else if r.code == flip_code then moves.Flip (record { 0 = field r 0 }) (field r 1) (field r 2)
    else if r.code == end_code then moves.End
    else if r.code == move_code then moves.Moved (address_in r 0) (address_in r 1)
    else if r.code == stay_code then moves.Stay (address_in r 0)
    else if r.code == splat_code then moves.Splat (address_in r 0) (field r 1)
    else if r.code == post_code then moves.Post (address_in r 0)
    else if r.code == commit_code then moves.Commit (address_in r 0) (field r 1) (field r 2)
    else if r.code == alloc_code then moves.Alloc (address_in r 0) (field r 1) (field r 2)
    else moves.Free (address_in r 0)

move_in-record_of : (m : Move) (line : ℕ) → move_in (record_of m line) ≡ m
move_in-record_of (moves.Seg base grains pool generation) line = refl
move_in-record_of (moves.Unseg base) line = refl
move_in-record_of (moves.Flip zones chain generation) line = refl
move_in-record_of moves.End line = refl
move_in-record_of (moves.Moved from to) line = refl
move_in-record_of (moves.Stay at) line = refl
move_in-record_of (moves.Splat holder cell) line = refl
move_in-record_of (moves.Post at) line = refl
move_in-record_of (moves.Commit at words pool) line = refl
move_in-record_of (moves.Alloc at words pool) line = refl
move_in-record_of (moves.Free at) line = refl

moves_in-records_of : (ms : List Move) (line : ℕ) → map move_in (records_of ms line) ≡ ms
moves_in-records_of [] line = refl
moves_in-records_of (m ∷ ms) line =
    ap (λ x. x ∷ map move_in (records_of ms line)) (move_in-record_of m line) ∙ ap (λ xs. m ∷ xs) (moves_in-records_of ms line)

-- moves with the same records are the same
pub records_of-injective : (ms ns : List Move) (line : ℕ) → records_of ms line ≡ records_of ns line → ms ≡ ns
records_of-injective ms ns line same = sym (moves_in-records_of ms line) ∙ ap (map move_in) same ∙ moves_in-records_of ns line
