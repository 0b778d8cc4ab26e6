-- The log of a history: per command the records of its moves, in order, and then the record of the command itself, which
-- the accepted `arena`, `limit` and `pool` have. In version 2 an accepted `intern` or `label` has one too.
use Rattle.std.specs.Prelude.{◌≡◌, ℕ, ◌+◌, ◌==◌, if◌then◌else◌, List, [], ◌∷◌, ◌++◌, map, take, drop, codes, replicate, slice_index, refl}
use Rattle.mps_base.specs.Record.{Record, records_bytes, header_bytes, arena_create_code, limit_set_code, pool_create_code, flip_code, end_code, seg_alloc_code, seg_free_code, splat_code, commit_code, alloc_code, move_code, stay_code, post_code, free_code, intern_code, label_code, number_of_bytes}
use Rattle.mps_base.specs.declared.names.Name.{Name}
use Rattle.mps_base.specs.declared.moves.Move.{Move}
use Rattle.mps_base.specs.declared.moves.Move.TheVariants as moves
use Rattle.mps_base.specs.PoolKind.{kind_number, mfs_number, mvff_number, snc_number}
use Rattle.mps_model.specs.declared.call.Call.{Call}
use Rattle.mps_model.specs.declared.call.Call.TheVariants as call
use Rattle.mps_model.specs.declared.reply.Reply.TheVariants as reply
use Rattle.mps_model.specs.Answer.{Answer, Replied, is_accepted}
use Rattle.mps_model.specs.Step.{Step, History}

-- a record, by its parts
abbrev pub record_with : (line code : ℕ) (fields : List ℕ) → Record
record_with line code fields = record { line = line; code = code; fields = fields }

-- the record of a move of the command in this line
abbrev pub record_of : Move → (line : ℕ) → Record
record_of (moves.Seg base grains pool generation) line = record_with line seg_alloc_code (base.0 ∷ grains ∷ pool ∷ generation ∷ [])
record_of (moves.Unseg base) line = record_with line seg_free_code (base.0 ∷ [])
record_of (moves.Flip zones chain generation) line = record_with line flip_code (zones.0 ∷ chain ∷ generation ∷ [])
record_of moves.End line = record_with line end_code []
record_of (moves.Moved from to) line = record_with line move_code (from.0 ∷ to.0 ∷ [])
record_of (moves.Stay at) line = record_with line stay_code (at.0 ∷ [])
record_of (moves.Splat holder cell) line = record_with line splat_code (holder.0 ∷ cell ∷ [])
record_of (moves.Post at) line = record_with line post_code (at.0 ∷ [])
record_of (moves.Commit at words pool) line = record_with line commit_code (at.0 ∷ words ∷ pool ∷ [])
record_of (moves.Alloc at words pool) line = record_with line alloc_code (at.0 ∷ words ∷ pool ∷ [])
record_of (moves.Free at) line = record_with line free_code (at.0 ∷ [])

-- the records of moves of the command in this line
abbrev pub records_of : List Move → (line : ℕ) → List Record
records_of moves line = map (λ move. record_of move line) moves

-- the record of a command that was accepted, where n pools were made before it
abbrev pub records_of_accepted : (pools : ℕ) → Call → (line : ℕ) → List Record
records_of_accepted pools (call.Arena grains limit) line = record_with line arena_create_code (grains ∷ limit ∷ []) ∷ []
records_of_accepted pools (call.Limit limit) line = record_with line limit_set_code (limit ∷ []) ∷ []
records_of_accepted pools (call.Pool pool kind format) line =
    record_with line pool_create_code (pools ∷ kind_number kind ∷ format ∷ []) ∷ []
records_of_accepted pools (call.PoolOnChain pool kind format chain) line =
    record_with line pool_create_code (pools ∷ kind_number kind ∷ format ∷ []) ∷ []
records_of_accepted pools (call.PoolMfs pool words) line = record_with line pool_create_code (pools ∷ mfs_number ∷ words ∷ []) ∷ []
records_of_accepted pools (call.PoolMvff pool) line = record_with line pool_create_code (pools ∷ mvff_number ∷ 0 ∷ []) ∷ []
records_of_accepted pools (call.PoolFrames pool) line = record_with line pool_create_code (pools ∷ snc_number ∷ 0 ∷ []) ∷ []
records_of_accepted pools _ line = []

-- the record of a command itself
abbrev pub records_of_command : (pools : ℕ) → Call → Answer → (line : ℕ) → List Record
records_of_command pools call answer line = if is_accepted answer then records_of_accepted pools call line else []

-- how many pools a command makes if it is accepted
abbrev pub pools_of_accepted : Call → ℕ
pools_of_accepted (call.Pool pool kind format) = 1
pools_of_accepted (call.PoolOnChain pool kind format chain) = 1
pools_of_accepted (call.PoolMfs pool words) = 1
pools_of_accepted (call.PoolMvff pool) = 1
pools_of_accepted (call.PoolFrames pool) = 1
pools_of_accepted _ = 0

-- how many pools a command makes
abbrev pub pools_made_by : Call → Answer → ℕ
pools_made_by call answer = if is_accepted answer then pools_of_accepted call else 0

-- the records of a step, where n pools were made before it
abbrev pub records_of_step : (pools : ℕ) → Step → List Record
records_of_step pools s = records_of s.moves s.line ++ records_of_command pools s.call s.answer s.line

-- the records of a history that goes on from where n pools were made
abbrev pub log_from : (pools : ℕ) → History → List Record
log_from pools [] = []
log_from pools (s ∷ ss) = records_of_step pools s ++ log_from (pools + pools_made_by s.call s.answer) ss

-- how many pools a history makes
abbrev pub pools_made : History → ℕ
pools_made [] = 0
pools_made (s ∷ ss) = pools_made_by s.call s.answer + pools_made ss

-- the records of a history, in version 1
abbrev pub log_of : History → List Record
log_of history = log_from 0 history

-- ---- labels, in version 2

-- the bytes 0 to 7 of a name and its bytes 8 to 15, as numbers
abbrev pub fields_of_name : Name → List ℕ
fields_of_name name = number_of_bytes (take 8 name.bytes) ∷ number_of_bytes (drop 8 name.bytes) ∷ []

-- the record of an `intern` or a `label` that was accepted
abbrev pub records_of_label : Call → Answer → (line : ℕ) → List Record
records_of_label (call.Intern label) (Replied (reply.Interned number)) line =
    record_with line intern_code (number ∷ fields_of_name label) ∷ []
records_of_label (call.Label slot label) (Replied (reply.Labelled at number)) line = record_with line label_code (at.0 ∷ number ∷ []) ∷ []
records_of_label _ _ line = []

-- all records of a command itself
abbrev pub records_of_answered : (pools : ℕ) → Call → Answer → (line : ℕ) → List Record
records_of_answered pools call answer line = records_of_command pools call answer line ++ records_of_label call answer line

-- the records of a step, and that of its label
abbrev pub records_with_label : (pools : ℕ) → Step → List Record
records_with_label pools s = records_of_step pools s ++ records_of_label s.call s.answer s.line

-- the same of a history that goes on from where n pools were made
abbrev pub labelled_log_from : (pools : ℕ) → History → List Record
labelled_log_from pools [] = []
labelled_log_from pools (s ∷ ss) = records_with_label pools s ++ labelled_log_from (pools + pools_made_by s.call s.answer) ss

-- the records of a history, in a version
abbrev pub log_in_version : (version : ℕ) → History → List Record
log_in_version version history = if version == 2 then labelled_log_from 0 history else log_of history

-- the version of the logs that runs write
abbrev pub written_version : ℕ
written_version = 2

-- the records of a history, as a run writes them
abbrev pub written_log : History → List Record
written_log history = log_in_version written_version history

-- the bytes of a history's log
abbrev pub log_bytes : History → List ℕ
log_bytes history = header_bytes written_version ++ records_bytes (written_log history)

-- ---- vectors

-- `intern ring` in line 9, the first label
abbrev ring : Name
ring = record { bytes = codes "ring" ++ replicate 12 0 }

abbrev interned : (number : ℕ) → Step
interned number = record { line = 9; call = call.Intern ring; moves = []; answer = Replied (reply.Interned number) }

pub an_interned_name_is_recorded :
    log_in_version 2 (interned 0 ∷ []) ≡ record_with 9 intern_code (0 ∷ 0x676e6972 ∷ 0 ∷ []) ∷ []
an_interned_name_is_recorded = refl

pub no_log_of_version_one_has_it : log_in_version 1 (interned 0 ∷ []) ≡ []
no_log_of_version_one_has_it = refl

pub no_other_number : map (λ (r : Record). slice_index r.fields 0) (log_in_version 2 (interned 1 ∷ [])) ≡ 0 ∷ [] → ⊥
no_other_number e = absurd cc
