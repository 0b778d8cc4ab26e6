-- The log: one piece after another.
use Rattle.std.proofs.Common.{◌≡◌, ℕ, ◌+◌, ◌-◌, ◌≤◌, Option, Some, None, List, [], ◌∷◌, ◌++◌, length, take, drop, refl, sym, ◌∙◌, ap, subst, arith, append_assoc, append-nil}
use Rattle.std.specs.Option.{option_map}
use Rattle.std.proofs.Math.Seq.{take-add, take-append_seam}
use Rattle.std.proofs.lemmas.List.{take_rest, take-append-drop}
use Rattle.mps_desk.specs.Desk.{Outside, File, Files, HasRisen, OnlyLogs, OnlyReads, with_more, with_logged, after_log}
use Rattle.mps_report.proofs.Outside.{risen_earlier}
use Rattle.mps_report.specs.Streams.{appended, Logs, LogsPart, LogTakes}
use Rattle.mps_report.proofs.Appended.{appended_empty, appended_twice}

-- ---- files

with_more-nothing : (fs : List File) (name : List ℕ) → with_more fs name [] ≡ fs
with_more-nothing [] name = refl
with_more-nothing (f ∷ fs) name = grind (arith, append-nil f.bytes, with_more-nothing fs name)

with_more-twice : (fs : List File) (name first second : List ℕ)
    → with_more (with_more fs name first) name second ≡ with_more fs name (first ++ second)
with_more-twice [] name first second = refl
with_more-twice (f ∷ fs) name first second = grind (arith, append_assoc f.bytes first second, with_more-twice fs name first second)

with_logged-nothing : (fs : List File) (log : Option (List ℕ)) → with_logged fs log [] ≡ fs
with_logged-nothing fs None = refl
with_logged-nothing fs (Some name) = with_more-nothing fs name

with_logged-twice : (fs : List File) (log : Option (List ℕ)) (first second : List ℕ)
    → with_logged (with_logged fs log first) log second ≡ with_logged fs log (first ++ second)
with_logged-twice fs None first second = refl
with_logged-twice fs (Some name) first second = with_more-twice fs name first second

-- nothing after what the log's file holds
pub filed_nothing : (known : Option Files) → known ≡ option_map (after_log []) known
filed_nothing None = refl
filed_nothing (Some files) = ap (λ (all : List File). Some (record files { all = all })) (sym (with_logged-nothing files.all files.log))

-- a piece after another
pub filed_twice : (known : Option Files) (first second : List ℕ)
    → option_map (after_log second) (option_map (after_log first) known) ≡ option_map (after_log (first ++ second)) known
filed_twice None first second = refl
filed_twice (Some files) first second =
    ap (λ (all : List File). Some (record files { all = all })) (with_logged-twice files.all files.log first second)

-- ---- some bytes

-- neither the log nor the files changed
pub takes_nothing : (old new : Outside) → new.logged ≡ old.logged → new.files ≡ old.files → new.asked ≡ old.asked → LogTakes old new
takes_nothing old new logged files asked = record {
  asked = asked;
  bytes = [];
  logged = logged ∙ appended_empty old.logged;
  filed = files ∙ filed_nothing old.files;
}

pub takes_self : (a : Outside) → LogTakes a a
takes_self a = takes_nothing a a refl refl refl

pub takes_then : (a b c : Outside) → LogTakes a b → LogTakes b c → LogTakes a c
takes_then a b c f g = record {
  asked = g.asked ∙ f.asked;
  bytes = f.bytes ++ g.bytes;
  logged = g.logged ∙ (ap (λ known. appended known g.bytes) f.logged ∙ appended_twice a.logged f.bytes g.bytes);
  filed = g.filed ∙ (ap (λ known. option_map (after_log g.bytes) known) f.filed ∙ filed_twice a.files f.bytes g.bytes);
}

pub takes_of_logs : (a b : Outside) (piece : List ℕ) → Logs a b piece → LogTakes a b
takes_of_logs a b piece l = record { asked = l.others.asked; bytes = piece; logged = l.logged; filed = l.filed }

pub takes_of_part : (a b : Outside) (piece : List ℕ) → LogsPart a b piece → LogTakes a b
takes_of_part a b piece p = record { asked = p.others.asked; bytes = take p.count piece; logged = p.logged; filed = p.filed }

-- the input was read, and then the log took some bytes
pub takes_after_reading : (a b c d : Outside) → LogTakes a b → OnlyReads b c → LogTakes c d → LogTakes a d
takes_after_reading a b c d f reads g = takes_then a b d f (takes_then b c d (takes_nothing b c reads.logged reads.files reads.asked) g)

-- ---- pieces

only_logs_self : (a : Outside) → OnlyLogs a a
only_logs_self a = record {
  asked = refl;
  input = refl;
  in_faults = refl;
  printed = refl;
  out_faults = refl;
  reported = refl;
  err_faults = refl;
  out_waits = refl;
}

pub only_logs_then : (a b c : Outside) → OnlyLogs a b → OnlyLogs b c → OnlyLogs a c
only_logs_then a b c f g = record {
  asked = g.asked ∙ f.asked;
  input = g.input ∙ f.input;
  in_faults = g.in_faults ∙ f.in_faults;
  printed = g.printed ∙ f.printed;
  out_faults = g.out_faults ∙ f.out_faults;
  reported = g.reported ∙ f.reported;
  err_faults = g.err_faults ∙ f.err_faults;
  out_waits = g.out_waits ∙ f.out_waits;
}

pub logs_none : (o : Outside) → Logs o o []
logs_none o = record { logged = appended_empty o.logged; filed = filed_nothing o.files; steady = refl; others = only_logs_self o }

pub logs_then : (a b c : Outside) (first second : List ℕ) → Logs a b first → Logs b c second → Logs a c (first ++ second)
unfolding takes_then takes_of_logs
logs_then a b c first second f g =
    let both = takes_then a b c (takes_of_logs a b first f) (takes_of_logs b c second g) in
    record {
      logged = both.logged;
      filed = both.filed;
      steady = g.steady ∙ f.steady;
      others =
          only_logs_then a b c f.others g.others;
    }

logs_as : (a b : Outside) (first second : List ℕ) → first ≡ second → Logs a b first → Logs a b second
logs_as a b first second e l = subst (λ (piece : List ℕ). Logs a b piece) e l

-- a part of a piece, and then the next part of it
pub logs_more : (a b c : Outside) (bytes : List ℕ) (at count : ℕ) → Logs a b (take at bytes)
    → Logs b c (take count (take (length bytes - at) (drop at bytes))) → Logs a c (take (at + count) bytes)
logs_more a b c bytes at count before next =
    let text : take at bytes ++ take count (take (length bytes - at) (drop at bytes)) ≡ take (at + count) bytes =
    ap (λ (x : List ℕ). take at bytes ++ take count x) (take_rest bytes at) ∙ sym (take-add at count bytes) in
    logs_as a c _ _ text (logs_then a b c (take at bytes) _ before next)

-- a fault after a prefix of the bytes was logged
pub part_logged : (a b c : Outside) (bytes : List ℕ) (at : ℕ) → Logs a b (take at bytes) → c.logged ≡ b.logged → c.files ≡ b.files
    → b.log_faults ≤ c.log_faults → OnlyLogs b c → HasRisen b.log_faults c.log_faults → LogsPart a c bytes
part_logged a b c bytes at before logged files counted others fault = record {
  count = at;
  logged = logged ∙ before.logged;
  filed = files ∙ before.filed;
  counted = omega (arith, before.steady, counted);
  fault = risen_earlier a.log_faults b.log_faults c.log_faults (omega (arith, before.steady)) fault;
  others = only_logs_then a b c before.others others;
}

-- ---- two pieces, of which not all was logged

-- of the first a prefix was logged
pub part_of_first : (a b : Outside) (first second : List ℕ) → LogsPart a b first → LogsPart a b (first ++ second)
part_of_first a b first second p =
    let some = take p.count first in
    let parts : first ++ second ≡ some ++ (drop p.count first ++ second) =
    ap (λ (xs : List ℕ). xs ++ second) (sym (take-append-drop p.count first)) ∙ append_assoc some (drop p.count first) second in
    let taken : take (length some) (first ++ second) ≡ some = ap (take (length some)) parts
    ∙ take-append_seam some (drop p.count first ++ second) in
    record {
      count = length some;
      logged = rw taken p.logged;
      filed = rw taken p.filed;
      counted = p.counted;
      fault = p.fault;
      others = p.others;
    }

-- the first was logged whole, and then a prefix of the second
pub part_of_second : (a b c : Outside) (first second : List ℕ) → Logs a b first → LogsPart b c second → LogsPart a c (first ++ second)
unfolding takes_then takes_of_logs takes_of_part
part_of_second a b c first second l p =
    let some = first ++ take p.count second in
    let parts : first ++ second ≡ some ++ drop p.count second =
    ap (λ (xs : List ℕ). first ++ xs) (sym (take-append-drop p.count second))
    ∙ sym (append_assoc first (take p.count second) (drop p.count second)) in
    let taken : take (length some) (first ++ second) ≡ some = ap (take (length some)) parts ∙ take-append_seam some (drop p.count
    second) in
    let both = takes_then a b c (takes_of_logs a b first l) (takes_of_part b c second p) in
    record {
      count = length some;
      logged = rw taken both.logged;
      filed = rw taken both.filed;
      counted = omega (arith, l.steady, p.counted);
      fault = risen_earlier a.log_faults b.log_faults c.log_faults (omega (arith, l.steady)) p.fault;
      others = only_logs_then a b c l.others p.others;
    }
