-- A desk in memory: its files, what was read and written, and which of its calls are to fail.
use Rattle.std.specs.Prelude.{ℕ, ◌≡◌, ◌+◌, ◌-◌, ◌^◌, nat_lt, Option, Some, None, List, [], ◌∷◌, ◌++◌, false, Contains, if◌then◌else◌, refl}
use Rattle.std.specs.Str.{bytes_eq}
use Rattle.mps_desk.specs.Desk.{Outside, File, Files, Request, text_in, last_count}
use Rattle.mps_desk.specs.declared.mem_desk.DeskCall.{DeskCall}
use Rattle.mps_desk.specs.declared.mem_desk.DeskCall.TheVariants.{Open, Read, Create, Log, Out, Err}

-- the calls of one kind: how many were made, and the numbers of those that are to fail, counted from 1
pub record Calls : Type 0 where
  pub made : ℕ
  pub failing : List ℕ

pub record DeskInMemory : Type 0 where
  pub files : Files
  -- what it was asked for by name so far, unless there was no memory to remember that
  pub requests : Option (List Request)
  -- the input that is left to read
  pub input : List ℕ
  pub logged : List ℕ
  pub printed : List ℕ
  pub reported : List ℕ
  -- the most bytes that one read or write handles
  pub most : ℕ
  pub opens : Calls
  pub reads : Calls
  pub creates : Calls
  pub logs : Calls
  pub outs : Calls
  pub errs : Calls
  pub in_faults : ℕ
  pub log_faults : ℕ
  pub out_faults : ℕ
  pub err_faults : ℕ

-- a desk with no files, at which no call was made and none is to fail
abbrev pub new_desk : DeskInMemory
new_desk = record {
  files = record { all = []; log = None };
  requests = Some [];
  input = [];
  logged = [];
  printed = [];
  reported = [];
  most = 2 ^ 64 - 1;
  opens = no_calls;
  reads = no_calls;
  creates = no_calls;
  logs = no_calls;
  outs = no_calls;
  errs = no_calls;
  in_faults = 0;
  log_faults = 0;
  out_faults = 0;
  err_faults = 0;
}
  where
    no_calls : Calls
    no_calls = record { made = 0; failing = [] }

-- one more, but the last value of a count stays
abbrev pub next_count : ℕ → ℕ
next_count n = if nat_lt n last_count then n + 1 else n

abbrev pub one_more_call : Calls → Calls
one_more_call calls = record calls { made = next_count calls.made }

-- the next call is one of those that are to fail
abbrev pub IsNextListed : Calls → Type 0
IsNextListed calls = Contains calls.failing (next_count calls.made)

-- the desk knows all of it
abbrev pub outside_of : DeskInMemory → Outside
outside_of d = record {
  files = Some d.files;
  text = text_in d.files.all;
  asked = d.requests;
  input = Some d.input;
  logged = Some d.logged;
  printed = Some d.printed;
  reported = Some d.reported;
  in_faults = d.in_faults;
  log_faults = d.log_faults;
  out_faults = d.out_faults;
  err_faults = d.err_faults;
  log_waits = false;
  out_waits = false;
}

-- the index of the first file of this name, or after the last where there is none
abbrev pub index_of_file : List File → List ℕ → ℕ
index_of_file [] name = 0
index_of_file (f ∷ fs) name = if bytes_eq f.name name then 0 else index_of_file fs name + 1

abbrev pub one_more_failing : Calls → ℕ → Calls
one_more_failing calls number = record calls { failing = calls.failing ++ number ∷ [] }

-- the desk with one call more that is to fail
abbrev pub with_failing : DeskInMemory → DeskCall → ℕ → DeskInMemory
with_failing d Open number = record d { opens = one_more_failing d.opens number }
with_failing d Read number = record d { reads = one_more_failing d.reads number }
with_failing d Create number = record d { creates = one_more_failing d.creates number }
with_failing d Log number = record d { logs = one_more_failing d.logs number }
with_failing d Out number = record d { outs = one_more_failing d.outs number }
with_failing d Err number = record d { errs = one_more_failing d.errs number }

-- files named `a` and `b`
abbrev two_files : List File
two_files = record { name = 97 ∷ []; bytes = 1 ∷ [] } ∷ record { name = 98 ∷ []; bytes = 2 ∷ [] } ∷ []

pub an_index_counts_from_0 : index_of_file two_files (98 ∷ []) ≡ 1
an_index_counts_from_0 = refl

pub a_new_file_comes_last : index_of_file two_files (99 ∷ []) ≡ 2
a_new_file_comes_last = refl
