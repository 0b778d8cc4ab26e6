-- What is known of the outside world through a desk, and how its calls change it. A desk is where a program gets its input and
-- leaves its output: it opens one input at a time, writes one log, and prints and reports.
use Rattle.std.specs.Prelude.{ℕ, ◌≡◌, ◌≢◌, ◌-◌, ◌^◌, ◌<◌, ◌≤◌, ◌⊎◌, Bool, true, false, if◌then◌else◌, Option, Some, None, unwrap_or, List, [], ◌∷◌, ◌++◌, take, refl}
use Rattle.std.specs.Option.{option_map}
use Rattle.std.specs.Str.{bytes_eq}

-- a file, by the bytes of its name
pub record File : Type 0 where
  pub name : List ℕ
  pub bytes : List ℕ

-- the files; standard input is the file `-`
pub record Files : Type 0 where
  pub all : List File
  -- the name of the one that the log goes to, where one was made for it
  pub log : Option (List ℕ)

-- what a desk was asked for by name
pub record Request : Type 0 where
  pub name : List ℕ
  -- to make the file for the log; else to open it as the input
  pub for_log : Bool

abbrev pub opening : (name : List ℕ) → Request
opening name = record { name = name; for_log = false }

abbrev pub making : (name : List ℕ) → Request
making name = record { name = name; for_log = true }

-- All that a desk knows. A desk may know some of it and not the rest: what it doesn't know is None.
pub record Outside : Type 0 where
  pub files : Option Files
  -- what an accepted open of a name gives as the input
  pub text : List ℕ → Option (List ℕ)
  -- what it was asked for by name so far, in order, also where that failed
  pub asked : Option (List Request)
  -- the input that is left to read
  pub input : Option (List ℕ)
  -- the bytes taken so far: by the log, as printed, and as reported
  pub logged : Option (List ℕ)
  pub printed : Option (List ℕ)
  pub reported : Option (List ℕ)
  -- how often the outside failed: at opening and reading, at the log, at printing, at reporting
  pub in_faults : ℕ
  pub log_faults : ℕ
  pub out_faults : ℕ
  pub err_faults : ℕ
  -- whether bytes that the log took may wait to be written, and bytes that are to be printed
  pub log_waits : Bool
  pub out_waits : Bool

-- the name of standard input
abbrev pub standard_input : List ℕ
standard_input = 45 ∷ []

-- the bytes of the file of this name
abbrev pub file_named : List File → List ℕ → Option (List ℕ)
file_named [] name = None
file_named (f ∷ fs) name = if bytes_eq f.name name then Some f.bytes else file_named fs name

-- the files with these bytes as the file of this name, which is new or takes the place of the one there
abbrev pub with_file : List File → List ℕ → List ℕ → List File
with_file [] name bytes = record { name = name; bytes = bytes } ∷ []
with_file (f ∷ fs) name bytes =
    if bytes_eq f.name name then record { name = f.name; bytes = bytes } ∷ fs else f ∷ with_file fs name bytes

-- the files with these bytes after those of the file of this name
abbrev pub with_more : List File → List ℕ → List ℕ → List File
with_more [] name bytes = []
with_more (f ∷ fs) name bytes =
    if bytes_eq f.name name then record { name = f.name; bytes = f.bytes ++ bytes } ∷ fs else f ∷ with_more fs name bytes

-- the files after a file of this name was made for the log: it is empty
abbrev pub made_for_log : List ℕ → Files → Files
made_for_log name files = record { all = with_file files.all name []; log = Some name }

-- the files with these bytes after those of the file that the log goes to: in none of them before one was made for it
abbrev pub with_logged : List File → Option (List ℕ) → List ℕ → List File
with_logged files None bytes = files
with_logged files (Some name) bytes = with_more files name bytes

-- the files after the log took these bytes
abbrev pub after_log : List ℕ → Files → Files
after_log bytes files = record { all = with_logged files.all files.log bytes; log = files.log }

-- what opening a name gives over these files: without a file `-` standard input is empty
abbrev pub text_in : List File → List ℕ → Option (List ℕ)
text_in files name =
    if bytes_eq name standard_input then Some (unwrap_or (file_named files name) []) else file_named files name

-- the bytes that are known, and the first n of a piece after them
abbrev pub added : Option (List ℕ) → List ℕ → ℕ → Option (List ℕ)
added known piece n = option_map (λ before. before ++ take n piece) known

-- the last value of a count, which a u64 holds
abbrev pub last_count : ℕ
last_count = 2 ^ 64 - 1

-- a count rose, or stands at its last value
abbrev pub HasRisen : ℕ → ℕ → Type 0
HasRisen before now = (before < now) ⊎ (last_count ≤ now)

-- no call failed but those that report: the other counts are as they were
pub record IsSteady (old new : Outside) : Type 0 where
  pub in_faults : new.in_faults ≡ old.in_faults
  pub log_faults : new.log_faults ≡ old.log_faults
  pub out_faults : new.out_faults ≡ old.out_faults

-- These are the next requests, in this order, and there were no others. A desk may forget all that it was asked for: then
-- nothing is said.
abbrev pub AreNext : Option (List Request) → List Request → Option (List Request) → Type 0
AreNext before requests None = Unit {0}
AreNext before requests (Some now) = Some now ≡ option_map (λ all. all ++ requests) before

-- the desk was asked for exactly these by name, in this order
abbrev pub Asks : (old new : Outside) → List Request → Type 0
Asks old new requests = AreNext old.asked requests new.asked

-- only the input, its count and the requests may have changed
pub record OnlyOpens (old new : Outside) : Type 0 where
  pub files : new.files ≡ old.files
  pub text : new.text ≡ old.text
  pub logged : new.logged ≡ old.logged
  pub log_faults : new.log_faults ≡ old.log_faults
  pub printed : new.printed ≡ old.printed
  pub out_faults : new.out_faults ≡ old.out_faults
  pub reported : new.reported ≡ old.reported
  pub err_faults : new.err_faults ≡ old.err_faults
  pub log_waits : new.log_waits ≡ true → old.log_waits ≡ true
  pub out_waits : new.out_waits ≡ true → old.out_waits ≡ true

-- only the input and its count may have changed
pub record OnlyReads (old new : Outside) : Type 0 where
  pub files : new.files ≡ old.files
  pub text : new.text ≡ old.text
  pub asked : new.asked ≡ old.asked
  pub logged : new.logged ≡ old.logged
  pub log_faults : new.log_faults ≡ old.log_faults
  pub printed : new.printed ≡ old.printed
  pub out_faults : new.out_faults ≡ old.out_faults
  pub reported : new.reported ≡ old.reported
  pub err_faults : new.err_faults ≡ old.err_faults
  pub log_waits : new.log_waits ≡ true → old.log_waits ≡ true
  pub out_waits : new.out_waits ≡ true → old.out_waits ≡ true

-- only the files, the bytes logged, their count and the requests may have changed
pub record OnlyCreates (old new : Outside) : Type 0 where
  pub input : new.input ≡ old.input
  pub in_faults : new.in_faults ≡ old.in_faults
  pub printed : new.printed ≡ old.printed
  pub out_faults : new.out_faults ≡ old.out_faults
  pub reported : new.reported ≡ old.reported
  pub err_faults : new.err_faults ≡ old.err_faults
  pub out_waits : new.out_waits ≡ old.out_waits

-- only the files, the bytes logged and their count may have changed
pub record OnlyLogs (old new : Outside) : Type 0 where
  pub asked : new.asked ≡ old.asked
  pub input : new.input ≡ old.input
  pub in_faults : new.in_faults ≡ old.in_faults
  pub printed : new.printed ≡ old.printed
  pub out_faults : new.out_faults ≡ old.out_faults
  pub reported : new.reported ≡ old.reported
  pub err_faults : new.err_faults ≡ old.err_faults
  pub out_waits : new.out_waits ≡ old.out_waits

-- only the bytes printed and their count may have changed
pub record OnlyPrints (old new : Outside) : Type 0 where
  pub files : new.files ≡ old.files
  pub text : new.text ≡ old.text
  pub asked : new.asked ≡ old.asked
  pub input : new.input ≡ old.input
  pub in_faults : new.in_faults ≡ old.in_faults
  pub logged : new.logged ≡ old.logged
  pub log_faults : new.log_faults ≡ old.log_faults
  pub reported : new.reported ≡ old.reported
  pub err_faults : new.err_faults ≡ old.err_faults
  pub log_waits : new.log_waits ≡ true → old.log_waits ≡ true

-- only the bytes reported and their count may have changed
pub record OnlyReports (old new : Outside) : Type 0 where
  pub files : new.files ≡ old.files
  pub text : new.text ≡ old.text
  pub asked : new.asked ≡ old.asked
  pub input : new.input ≡ old.input
  pub in_faults : new.in_faults ≡ old.in_faults
  pub logged : new.logged ≡ old.logged
  pub log_faults : new.log_faults ≡ old.log_faults
  pub printed : new.printed ≡ old.printed
  pub out_faults : new.out_faults ≡ old.out_faults
  pub log_waits : new.log_waits ≡ old.log_waits
  pub out_waits : new.out_waits ≡ old.out_waits

-- no byte that was taken waits to be written
pub record NothingWaits (o : Outside) : Type 0 where
  pub log : o.log_waits ≡ false
  pub out : o.out_waits ≡ false

-- the files are as they were
pub record SameFiles (old new : Outside) : Type 0 where
  pub files : new.files ≡ old.files
  pub text : new.text ≡ old.text

-- every name but this one opens what it opened before
abbrev pub SameElsewhere : List ℕ → Outside → Outside → Type 0
SameElsewhere name old new = (other : List ℕ) → other ≢ name → new.text other ≡ old.text other

-- files named `a` and `b`
abbrev two_files : List File
two_files = record { name = 97 ∷ []; bytes = 1 ∷ [] } ∷ record { name = 98 ∷ []; bytes = 2 ∷ [] } ∷ []

pub a_file_by_its_name : file_named two_files (98 ∷ []) ≡ Some (2 ∷ [])
a_file_by_its_name = refl

pub no_file_by_another_name : file_named two_files (98 ∷ 98 ∷ []) ≡ None
no_file_by_another_name = refl

pub a_file_takes_the_place : file_named (with_file two_files (97 ∷ []) []) (97 ∷ []) ≡ Some []
a_file_takes_the_place = refl

pub the_others_stay : file_named (with_file two_files (97 ∷ []) []) (98 ∷ []) ≡ Some (2 ∷ [])
the_others_stay = refl

pub the_log_goes_after_its_file :
    after_log (3 ∷ []) (record { all = two_files; log = Some (98 ∷ []) })
    ≡ record { all = record { name = 97 ∷ []; bytes = 1 ∷ [] } ∷ record { name = 98 ∷ []; bytes = 2 ∷ 3 ∷ [] } ∷ []; log = Some (98 ∷ []) }
the_log_goes_after_its_file = refl

pub without_a_file_the_log_goes_nowhere :
    after_log (3 ∷ []) (record { all = two_files; log = None }) ≡ record { all = two_files; log = None }
without_a_file_the_log_goes_nowhere = refl

pub standard_input_may_be_missing : text_in two_files standard_input ≡ Some []
standard_input_may_be_missing = refl

pub a_missing_file_has_no_text : text_in two_files (99 ∷ []) ≡ None
a_missing_file_has_no_text = refl

pub a_piece_is_taken_from_its_front : added (Some (1 ∷ [])) (2 ∷ 3 ∷ []) 1 ≡ Some (1 ∷ 2 ∷ [])
a_piece_is_taken_from_its_front = refl

pub a_request_comes_after_the_others :
    AreNext (Some (opening (97 ∷ []) ∷ [])) (making (98 ∷ []) ∷ []) (Some (opening (97 ∷ []) ∷ making (98 ∷ []) ∷ []))
a_request_comes_after_the_others = refl

pub what_was_forgotten_says_nothing : AreNext (Some []) (opening (97 ∷ []) ∷ []) None
what_was_forgotten_says_nothing = tt
