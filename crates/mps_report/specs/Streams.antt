-- What a program does to the outside: it prints, logs and reports whole pieces.
use Rattle.std.specs.Prelude.{◌≡◌, ℕ, ◌≤◌, ◌⊎◌, Option, Some, None, List, ◌++◌, take, codes, refl}
use Rattle.std.specs.Option.{option_map}
use Rattle.mps_desk.specs.Desk.{Outside, HasRisen, OnlyLogs, OnlyPrints, OnlyReports, after_log}

-- the known bytes, and a piece after them
abbrev pub appended : Option (List ℕ) → List ℕ → Option (List ℕ)
appended known piece = option_map (λ before. before ++ piece) known

-- all of a text was printed, and no fault came
pub record Prints (old new : Outside) (text : List ℕ) : Type 0 where
  pub printed : new.printed ≡ appended old.printed text
  pub steady : new.out_faults ≡ old.out_faults
  pub others : OnlyPrints old new

-- a prefix of a text was printed, and then a fault came
pub record PrintsPart (old new : Outside) (text : List ℕ) : Type 0 where
  pub count : ℕ
  pub printed : new.printed ≡ appended old.printed (take count text)
  pub counted : old.out_faults ≤ new.out_faults
  pub fault : HasRisen old.out_faults new.out_faults
  pub others : OnlyPrints old new

-- all of a piece was logged, and went after what the log's file held, and no fault came
pub record Logs (old new : Outside) (piece : List ℕ) : Type 0 where
  pub logged : new.logged ≡ appended old.logged piece
  pub filed : new.files ≡ option_map (after_log piece) old.files
  pub steady : new.log_faults ≡ old.log_faults
  pub others : OnlyLogs old new

-- a prefix of a piece was logged, and then a fault came
pub record LogsPart (old new : Outside) (piece : List ℕ) : Type 0 where
  pub count : ℕ
  pub logged : new.logged ≡ appended old.logged (take count piece)
  pub filed : new.files ≡ option_map (after_log (take count piece)) old.files
  pub counted : old.log_faults ≤ new.log_faults
  pub fault : HasRisen old.log_faults new.log_faults
  pub others : OnlyLogs old new

-- some bytes were logged, and went after what the log's file held; nothing was asked for by name
pub record LogTakes (old new : Outside) : Type 0 where
  pub asked : new.asked ≡ old.asked
  pub bytes : List ℕ
  pub logged : new.logged ≡ appended old.logged bytes
  pub filed : new.files ≡ option_map (after_log bytes) old.files

-- a text stands reported after what stood there before, or a fault came
abbrev pub HasReported : (old new : Outside) → (text : List ℕ) → Type 0
HasReported old new text = HasRisen old.err_faults new.err_faults ⊎ (new.reported ≡ appended old.reported text)

-- a text was reported, if no fault came, and nothing else happened
pub record Reports (old new : Outside) (text : List ℕ) : Type 0 where
  pub reported : HasReported old new text
  pub counted : old.err_faults ≤ new.err_faults
  pub others : OnlyReports old new

-- some of what was gathered was printed, and what is printed and gathered together stays the same
pub record FlushedPrefix (old new : Outside) (gathered_before gathered : List ℕ) : Type 0 where
  pub text : List ℕ
  pub printed : Prints old new text
  pub same : gathered_before ≡ text ++ gathered

-- the log stays as it is, and so do the files and what opening a name gives; no count falls
pub record LeavesLogAlone (old new : Outside) : Type 0 where
  pub in_counted : old.in_faults ≤ new.in_faults
  pub out_counted : old.out_faults ≤ new.out_faults
  pub err_counted : old.err_faults ≤ new.err_faults
  pub files : new.files ≡ old.files
  pub text : new.text ≡ old.text
  pub logged : new.logged ≡ old.logged
  pub log_faults : new.log_faults ≡ old.log_faults

-- a text was gathered after what was gathered before, and some of all that was printed
pub record Gathers (old new : Outside) (before after text : List ℕ) : Type 0 where
  pub front : List ℕ
  pub printed : Prints old new front
  pub same : before ++ text ≡ front ++ after

pub a_piece_after_another : appended (Some (codes "a")) (codes "bc") ≡ Some (codes "abc")
a_piece_after_another = refl

pub what_is_not_known_stays_so : appended None (codes "bc") ≡ None
what_is_not_known_stays_so = refl
