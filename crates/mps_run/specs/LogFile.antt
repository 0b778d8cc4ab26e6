-- What becomes of the files in a run.
use Rattle.std.specs.Prelude.{◌≡◌, ◌⊎◌, List, ℕ, Some, None, [], ◌∷◌, codes, refl}
use Rattle.std.specs.Option.{option_map}
use Rattle.mps_desk.specs.Desk.{Outside, Files, with_file}
use Rattle.mps_report.specs.Streams.{appended}

-- the files, with exactly these bytes in the file of this name, to which the log goes
abbrev pub with_log : (name bytes : List ℕ) → Files → Files
with_log name bytes files = record { all = with_file files.all name bytes; log = Some name }

-- what was logged is exactly what the file of this name holds, and no other file has changed
pub record IsInFile (name : List ℕ) (old new : Outside) : Type 0 where
  pub bytes : List ℕ
  pub logged : new.logged ≡ appended old.logged bytes
  pub files : new.files ≡ option_map (with_log name bytes) old.files

-- nothing was logged, and no file has changed
pub record IsUnlogged (old new : Outside) : Type 0 where
  pub logged : new.logged ≡ old.logged
  pub files : new.files ≡ old.files

-- one of the two
abbrev pub LogsInto : (name : List ℕ) → (old new : Outside) → Type 0
LogsInto name old new = IsInFile name old new ⊎ IsUnlogged old new

pub the_log_takes_the_place_of_a_file :
    with_log (codes "b") (codes "log") (record { all = record { name = codes "b"; bytes = codes "old" } ∷ []; log = None })
    ≡ record { all = record { name = codes "b"; bytes = codes "log" } ∷ []; log = Some (codes "b") }
the_log_takes_the_place_of_a_file = refl
