-- The meaning of the words of a command line after the program's name: this table, and no others. An option and its value
-- are two words, stand before the operands, and come at most once.
--
--   run [-o LOG] [SCRIPT]          LOG is `mpsio.log` and SCRIPT `-` if they are not given
--   cnv [-f LOG] [-k KINDS]        in either order; LOG is `mpsio.log` and KINDS all kinds if they are not given
--   txt [-l TEXT]                  TEXT is `-` if it is not given
--   blocks [-f LOG]                LOG is `mpsio.log` if it is not given
--   gen [-r] SEED COUNT            decimal numbers below 2^64; COUNT is at most 1,000,000; with `-r` the log is `mpsio.log`
use Rattle.std.specs.Prelude.{◌≡◌, ℕ, nat_le, ◌&&◌, if◌then◌else◌, codes, Option, Some, None, option_and_then, List, [], ◌∷◌, refl}
use Rattle.std.specs.Str.{bytes_eq}
use Rattle.mps_numerals.specs.Decimal.{decimal_number}
use Rattle.mps_args.specs.Meaning.{Meaning, Runs, Converts, Reads, Lists, Generates, RunsGenerated}
use Rattle.mps_desk.specs.Desk.{standard_input}
use Rattle.mps_args.specs.Files.{is_file, is_file_to_read, usual_log}
use Rattle.mps_args.specs.Kinds.{kinds_named, all_kinds}

-- ---- what is asked, if the files may be named so
abbrev pub running : (log script : List ℕ) → Option Meaning
running log script = if is_file log && is_file_to_read script then Some (Runs log script) else None

abbrev pub converting : (log : List ℕ) (kinds : Option ℕ) → Option Meaning
converting log kinds = option_and_then (λ set. if is_file_to_read log then Some (Converts log set) else None) kinds

abbrev pub reading : (text : List ℕ) → Option Meaning
reading text = if is_file_to_read text then Some (Reads text) else None

abbrev pub listing : (log : List ℕ) → Option Meaning
listing log = if is_file_to_read log then Some (Lists log) else None

abbrev pub generating : (seed count : Option ℕ) → Option Meaning
generating seed count =
    option_and_then (λ s. option_and_then (λ n. if nat_le n 1000000 then Some (Generates s n) else None) count) seed

abbrev pub running_generated : (seed count : Option ℕ) → Option Meaning
running_generated seed count =
    option_and_then (λ s. option_and_then (λ n. if nat_le n 1000000 then Some (RunsGenerated usual_log s n) else None) count) seed

-- ---- the words after the name of each command
abbrev pub run_meaning : List (List ℕ) → Option Meaning
run_meaning [] = running usual_log standard_input
run_meaning (script ∷ []) = running usual_log script
run_meaning (name ∷ log ∷ []) = if bytes_eq name (codes "-o") then running log standard_input else None
run_meaning (name ∷ log ∷ script ∷ []) = if bytes_eq name (codes "-o") then running log script else None
run_meaning _ = None

abbrev pub cnv_meaning : List (List ℕ) → Option Meaning
cnv_meaning [] = converting usual_log (Some all_kinds)
cnv_meaning (name ∷ value ∷ []) =
    if bytes_eq name (codes "-f") then converting value (Some all_kinds)
    else (if bytes_eq name (codes "-k") then converting usual_log (kinds_named value) else None)
cnv_meaning (first ∷ value ∷ second ∷ other ∷ []) =
    if bytes_eq first (codes "-f") && bytes_eq second (codes "-k") then converting value (kinds_named other)
    else (if bytes_eq first (codes "-k") && bytes_eq second (codes "-f") then converting other (kinds_named value) else None)
cnv_meaning _ = None

abbrev pub txt_meaning : List (List ℕ) → Option Meaning
txt_meaning [] = reading standard_input
txt_meaning (name ∷ text ∷ []) = if bytes_eq name (codes "-l") then reading text else None
txt_meaning _ = None

abbrev pub blocks_meaning : List (List ℕ) → Option Meaning
blocks_meaning [] = listing usual_log
blocks_meaning (name ∷ log ∷ []) = if bytes_eq name (codes "-f") then listing log else None
blocks_meaning _ = None

abbrev pub gen_meaning : List (List ℕ) → Option Meaning
gen_meaning (seed ∷ count ∷ []) = generating (decimal_number seed) (decimal_number count)
gen_meaning (name ∷ seed ∷ count ∷ []) =
    if bytes_eq name (codes "-r") then running_generated (decimal_number seed) (decimal_number count) else None
gen_meaning _ = None

-- ---- the whole line
abbrev pub meaning_after : (name : List ℕ) (words : List (List ℕ)) → Option Meaning
meaning_after name words =
    if bytes_eq name (codes "run") then run_meaning words
    else (if bytes_eq name (codes "cnv") then cnv_meaning words
    else (if bytes_eq name (codes "txt") then txt_meaning words
    else (if bytes_eq name (codes "blocks") then blocks_meaning words
    else (if bytes_eq name (codes "gen") then gen_meaning words
    else None))))

abbrev pub meaning : List (List ℕ) → Option Meaning
meaning [] = None
meaning (name ∷ words) = meaning_after name words

-- ---- lines with a meaning
pub runs_standard_input : meaning (codes "run" ∷ []) ≡ Some (Runs (codes "mpsio.log") (codes "-"))
runs_standard_input = refl

pub runs_a_script : meaning (codes "run" ∷ codes "s" ∷ []) ≡ Some (Runs (codes "mpsio.log") (codes "s"))
runs_a_script = refl

pub runs_into_a_log : meaning (codes "run" ∷ codes "-o" ∷ codes "a.log" ∷ codes "b" ∷ []) ≡ Some (Runs (codes "a.log") (codes "b"))
runs_into_a_log = refl

pub runs_input_into_a_log : meaning (codes "run" ∷ codes "-o" ∷ codes "a.log" ∷ []) ≡ Some (Runs (codes "a.log") (codes "-"))
runs_input_into_a_log = refl

pub converts_in_this_order :
    meaning (codes "cnv" ∷ codes "-f" ∷ codes "-" ∷ codes "-k" ∷ codes "seg,object" ∷ []) ≡ Some (Converts (codes "-") 40)
converts_in_this_order = refl

pub converts_in_the_other :
    meaning (codes "cnv" ∷ codes "-k" ∷ codes "user" ∷ codes "-f" ∷ codes "a" ∷ []) ≡ Some (Converts (codes "a") 64)
converts_in_the_other = refl

pub converts_all : meaning (codes "cnv" ∷ []) ≡ Some (Converts (codes "mpsio.log") 127)
converts_all = refl

pub converts_a_log : meaning (codes "cnv" ∷ codes "-f" ∷ codes "a" ∷ []) ≡ Some (Converts (codes "a") 127)
converts_a_log = refl

pub converts_repeated_kinds : meaning (codes "cnv" ∷ codes "-k" ∷ codes "seg,seg" ∷ []) ≡ Some (Converts (codes "mpsio.log") 8)
converts_repeated_kinds = refl

pub reads_standard_input : meaning (codes "txt" ∷ codes "-l" ∷ codes "-" ∷ []) ≡ Some (Reads (codes "-"))
reads_standard_input = refl

pub reads_where_no_text_is_named : meaning (codes "txt" ∷ []) ≡ Some (Reads (codes "-"))
reads_where_no_text_is_named = refl

pub lists_a_log : meaning (codes "blocks" ∷ codes "-f" ∷ codes "a" ∷ []) ≡ Some (Lists (codes "a"))
lists_a_log = refl

pub lists_the_usual_log : meaning (codes "blocks" ∷ []) ≡ Some (Lists (codes "mpsio.log"))
lists_the_usual_log = refl

pub generates_the_most : meaning (codes "gen" ∷ codes "7" ∷ codes "1000000" ∷ []) ≡ Some (Generates 7 1000000)
generates_the_most = refl

pub runs_a_generated_script : meaning (codes "gen" ∷ codes "-r" ∷ codes "7" ∷ codes "0" ∷ []) ≡ Some (RunsGenerated (codes "mpsio.log") 7 0)
runs_a_generated_script = refl

-- ---- lines without one
pub nothing_is_asked : meaning [] ≡ None
nothing_is_asked = refl

pub no_other_command : meaning (codes "Run" ∷ []) ≡ None
no_other_command = refl

pub no_help : meaning (codes "run" ∷ codes "--help" ∷ []) ≡ None
no_help = refl

pub no_log_on_standard_output : meaning (codes "run" ∷ codes "-o" ∷ codes "-" ∷ []) ≡ None
no_log_on_standard_output = refl

pub no_option_twice : meaning (codes "run" ∷ codes "-o" ∷ codes "a" ∷ codes "-o" ∷ codes "b" ∷ []) ≡ None
no_option_twice = refl

pub no_option_after_a_script : meaning (codes "run" ∷ codes "s" ∷ codes "-o" ∷ codes "a" ∷ []) ≡ None
no_option_after_a_script = refl

pub no_value_missing : meaning (codes "run" ∷ codes "-o" ∷ []) ≡ None
no_value_missing = refl

pub no_value_in_the_same_word : meaning (codes "run" ∷ codes "-oa" ∷ []) ≡ None
no_value_in_the_same_word = refl

pub no_value_after_an_equals_sign : meaning (codes "run" ∷ codes "-o=a" ∷ []) ≡ None
no_value_after_an_equals_sign = refl

pub no_end_of_options : meaning (codes "run" ∷ codes "--" ∷ codes "s" ∷ []) ≡ None
no_end_of_options = refl

pub no_empty_script : meaning (codes "run" ∷ [] ∷ []) ≡ None
no_empty_script = refl

pub no_option_of_another_command : meaning (codes "run" ∷ codes "-f" ∷ codes "a" ∷ []) ≡ None
no_option_of_another_command = refl

pub no_log_twice : meaning (codes "cnv" ∷ codes "-f" ∷ codes "a" ∷ codes "-f" ∷ codes "b" ∷ []) ≡ None
no_log_twice = refl

pub no_operand_of_cnv : meaning (codes "cnv" ∷ codes "a" ∷ []) ≡ None
no_operand_of_cnv = refl

pub no_text_without_its_option : meaning (codes "txt" ∷ codes "a" ∷ []) ≡ None
no_text_without_its_option = refl

pub no_blocks_of_two_logs : meaning (codes "blocks" ∷ codes "-f" ∷ codes "a" ∷ codes "b" ∷ []) ≡ None
no_blocks_of_two_logs = refl

pub no_seed_alone : meaning (codes "gen" ∷ codes "7" ∷ []) ≡ None
no_seed_alone = refl

pub not_one_more : meaning (codes "gen" ∷ codes "7" ∷ codes "1000001" ∷ []) ≡ None
not_one_more = refl

pub no_zero_in_front : meaning (codes "gen" ∷ codes "07" ∷ codes "1" ∷ []) ≡ None
no_zero_in_front = refl

pub no_run_of_one_step_more : meaning (codes "gen" ∷ codes "-r" ∷ codes "7" ∷ codes "1000001" ∷ []) ≡ None
no_run_of_one_step_more = refl

pub no_run_without_a_count : meaning (codes "gen" ∷ codes "-r" ∷ codes "7" ∷ []) ≡ None
no_run_without_a_count = refl

pub no_option_after_the_numbers : meaning (codes "gen" ∷ codes "7" ∷ codes "1" ∷ codes "-r" ∷ []) ≡ None
no_option_after_the_numbers = refl

pub no_other_option_of_gen : meaning (codes "gen" ∷ codes "-o" ∷ codes "7" ∷ codes "1" ∷ []) ≡ None
no_other_option_of_gen = refl
