-- What is known of the outside through a desk that gathers over another desk.
use Rattle.std.specs.Prelude.{ℕ, ◌≡◌, ◌≤◌, Bool, true, false, if◌then◌else◌, Option, Some, None, IsNone, IfSome, List, [], ◌∷◌, refl}
use Rattle.std.specs.Option.{option_map}
use Rattle.mps_desk.specs.Desk.{Outside, Files, OnlyLogs, OnlyPrints, after_log, text_in}
use Rattle.mps_report.specs.Streams.{appended}
use Rattle.mps_gathering.specs.Held.{Waiting}

-- What a desk that gathers has beside the inner desk.
pub record Gathered : Type 0 where
  pub log : Waiting
  pub out : Waiting
  -- a name was refused that the inner desk wasn't asked for
  pub requests_unknown : Bool
  pub in_faults : ℕ
  pub log_faults : ℕ
  pub out_faults : ℕ

pub record DeskThatGathers (D : Type 0) : Type 0 where
  pub inner : D
  pub gathered : Gathered

-- what opening a name gives: from the files where they are known
abbrev pub text_over : Option Files → (List ℕ → Option (List ℕ)) → List ℕ → Option (List ℕ)
text_over None text = text
text_over (Some files) text = text_in files.all

-- where the files are known, so is what opening a name gives
pub text_law : (known : Option Files) (text : List ℕ → Option (List ℕ)) (name : List ℕ)
    → IfSome known (λ files. text_over known text name ≡ text_in files.all name)
text_law None text name = tt
text_law (Some files) text name = refl

-- bytes wait here, or further in
abbrev pub some_wait : List ℕ → Bool → Bool
some_wait [] further_in = further_in
some_wait (b ∷ bs) further_in = true

-- What is known through it: the inner desk's, with what waits after what the inner desk took. The faults are its own.
abbrev pub outside_with : Outside → Gathered → Outside
outside_with inner g = record {
  files = option_map (after_log g.log.bytes) inner.files;
  text = text_over (option_map (after_log g.log.bytes) inner.files) inner.text;
  asked = if g.requests_unknown then None else inner.asked;
  input = inner.input;
  logged = appended inner.logged g.log.bytes;
  printed = appended inner.printed g.out.bytes;
  reported = inner.reported;
  in_faults = g.in_faults;
  log_faults = g.log_faults;
  out_faults = g.out_faults;
  err_faults = inner.err_faults;
  log_waits = some_wait g.log.bytes inner.log_waits;
  out_waits = some_wait g.out.bytes inner.out_waits;
}

-- what is known through such a desk, where this is known of the inner one
abbrev pub outside_through : {D : Type 0} → (D → Outside) → DeskThatGathers D → Outside
outside_through outside d = outside_with (outside d.inner) d.gathered

-- as a desk begins to gather over another: what is known of that one, with counts of faults of its own
abbrev pub begun : Outside → Outside
begun inner = record inner { in_faults = 0; log_faults = 0; out_faults = 0 }

-- the log took these bytes and maybe failed then
pub record LogsPrefix (old new : Outside) (prefix : List ℕ) : Type 0 where
  pub logged : new.logged ≡ appended old.logged prefix
  pub filed : new.files ≡ option_map (after_log prefix) old.files
  pub text : IsNone old.files → new.text ≡ old.text
  pub counted : old.log_faults ≤ new.log_faults
  pub others : OnlyLogs old new

-- these bytes were printed, and maybe a fault came then
pub record PrintsPrefix (old new : Outside) (prefix : List ℕ) : Type 0 where
  pub printed : new.printed ≡ appended old.printed prefix
  pub counted : old.out_faults ≤ new.out_faults
  pub others : OnlyPrints old new

-- the log took these bytes, and no fault came
pub record TakesForLog (old new : Outside) (piece : List ℕ) : Type 0 where
  pub logged : new.logged ≡ appended old.logged piece
  pub filed : new.files ≡ option_map (after_log piece) old.files
  pub text : IsNone old.files → new.text ≡ old.text
  pub steady : new.log_faults ≡ old.log_faults
  pub others : OnlyLogs old new

-- these bytes were printed, and no fault came
pub record TakesToPrint (old new : Outside) (piece : List ℕ) : Type 0 where
  pub printed : new.printed ≡ appended old.printed piece
  pub steady : new.out_faults ≡ old.out_faults
  pub others : OnlyPrints old new

-- all that is known stays but for what waits: no bytes wait for the log that didn't
pub record OnlyHandsOn (old new : Outside) : Type 0 where
  pub files : new.files ≡ old.files
  pub text : new.text ≡ old.text
  pub asked : new.asked ≡ old.asked
  pub input : new.input ≡ old.input
  pub logged : new.logged ≡ old.logged
  pub printed : new.printed ≡ old.printed
  pub reported : new.reported ≡ old.reported
  pub in_faults : new.in_faults ≡ old.in_faults
  pub log_faults : new.log_faults ≡ old.log_faults
  pub out_faults : new.out_faults ≡ old.out_faults
  pub err_faults : new.err_faults ≡ old.err_faults
  pub log_waits : new.log_waits ≡ true → old.log_waits ≡ true

-- the same, where bytes were handed to the log alone
pub record OnlyHandsToLog (old new : Outside) : Type 0 where
  pub kept : OnlyHandsOn old new
  pub out_waits : new.out_waits ≡ old.out_waits

-- the log took nothing
pub record RefusesForLog (old new : Outside) : Type 0 where
  pub logged : new.logged ≡ old.logged
  pub files : new.files ≡ old.files
  pub text : new.text ≡ old.text
  pub others : OnlyLogs old new

-- nothing more was taken to be printed
pub record RefusesToPrint (old new : Outside) : Type 0 where
  pub printed : new.printed ≡ old.printed
  pub others : OnlyPrints old new

-- Where nothing waits, the inner desk took all: its log, its files and what it printed are what is known here.
pub record HasAll (inner known : Outside) : Type 0 where
  pub files : known.files ≡ inner.files
  pub logged : known.logged ≡ inner.logged
  pub printed : known.printed ≡ inner.printed

abbrev pub InnerHasAll : Type 0
InnerHasAll = (inner : Outside) (g : Gathered) → (outside_with inner g).log_waits ≡ false → (outside_with inner g).out_waits ≡ false
    → HasAll inner (outside_with inner g)
