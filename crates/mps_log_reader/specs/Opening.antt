-- The header of a log that was opened, and the first line of a text.
use Rattle.std.specs.Prelude.{◌≡◌, ◌≢◌, ℕ, ◌<◌, ◌≤◌, true, codes, Option, Some, None, IsSome, Result, Ok, Err, List, ◌++◌, length}
use Rattle.std.specs.Option.{option_map}
use Rattle.mps_desk.specs.Desk.{Outside}
use Rattle.mps_base.specs.Record.{header_bytes}
use Rattle.mps_event.specs.declared.version.Version.{Version}
use Rattle.mps_event.specs.declared.version.Version.TheVariants.{One, Two}
use Rattle.mps_event.specs.Event.{number_of_version}
use Rattle.mps_report.specs.declared.stop.Stop.{Stop}
use Rattle.mps_report.specs.declared.stop.Stop.TheVariants as stop
use Rattle.mps_log_reader.specs.Input.{Buffered}

-- it is known what the desk opens, and by this name it opens nothing
abbrev pub OpensNothing : Outside → (name : List ℕ) → Type 0
OpensNothing o name = IsSome o.input × (o.text name ≡ None)

-- the bytes begin with the header of no version
abbrev pub HasNoHeader : List ℕ → Type 0
HasNoHeader bytes = (version : Version) (rest : List ℕ) → bytes ≢ header_bytes (number_of_version version) ++ rest

-- the header was taken from what is pending, or there is none
abbrev pub TakesHeader : {E : Type 0} → (before after : Buffered) → Result Version (Stop E) → Type 0
TakesHeader before after (Ok version) =
    (before.pending ≡ header_bytes (number_of_version version) ++ after.pending) × (after.ended ≡ before.ended)
TakesHeader before after (Err (stop.Bad place)) = HasNoHeader before.pending × ((before.failed ≡ true) → 8 ≤ length before.pending)
TakesHeader before after (Err stop.ReadFailed) = length before.pending < 8
TakesHeader before after result = ⊥

-- fewer of these bytes had come than a header has, and what follows is still unread
pub record IsCutHeader (bytes : List ℕ) (unread : Option (List ℕ)) : Type 0 where
  pub part : List ℕ
  pub others : List ℕ
  pub split : bytes ≡ part ++ others
  pub short : length part < 8
  pub still : unread ≡ Some others

-- a log of these bytes was opened, and this is left after its header, or it has none
abbrev pub OpensWith : {E : Type 0} → (bytes : List ℕ) → (left : Option (List ℕ)) → Result Version (Stop E) → Type 0
OpensWith bytes left (Ok version) = Some bytes ≡ option_map (λ rest. header_bytes (number_of_version version) ++ rest) left
OpensWith bytes left (Err (stop.Bad place)) = HasNoHeader bytes
OpensWith bytes left (Err stop.ReadFailed) = Unit {0}
OpensWith bytes left result = ⊥

-- the first line
abbrev pub first_line : Version → List ℕ
first_line One = codes "mpslog 1\n"
first_line Two = codes "mpslog 2\n"
