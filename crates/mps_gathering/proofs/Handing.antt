-- What is known through a desk that gathers stays as it hands on what waits.
use Rattle.std.proofs.Common.{◌≡◌, ◌≢◌, ℕ, Bool, true, Option, Some, None, IsNone, List, [], ◌∷◌, ◌++◌, length, take, drop, refl, sym, ap, subst, ◌∙◌, arith}
use Rattle.std.specs.Option.{option_map}
use Rattle.std.proofs.lemmas.List.{take_all, take-append-drop}
use Rattle.mps_desk.specs.Desk.{Outside, Files, OnlyLogs, OnlyPrints, after_log}
use Rattle.mps_report.specs.Streams.{appended}
use Rattle.mps_report.proofs.Appended.{appended_empty, appended_twice}
use Rattle.mps_report.proofs.Logging.{filed_nothing, filed_twice}
use Rattle.mps_gathering.specs.Gathering.{Gathered, outside_with, text_over, some_wait, LogsPrefix, PrintsPrefix, TakesForLog, TakesToPrint, OnlyHandsOn, OnlyHandsToLog, RefusesForLog, RefusesToPrint}

-- where the files are known, so is what opening a name gives
text_stays : (known : Option Files) (old new : List ℕ → Option (List ℕ)) → (IsNone known → new ≡ old)
    → text_over known new ≡ text_over known old
text_stays None old new same = same refl
text_stays (Some files) old new same = refl

unknown_before : (known : Option Files) (piece : List ℕ) → IsNone (option_map (after_log piece) known) → IsNone known
unknown_before None piece none = none
unknown_before (Some files) piece none = none

fewer_wait : (prefix left : List ℕ) (old new : Bool) → (prefix ++ left ≡ [] → new ≡ old)
    → some_wait left new ≡ true → some_wait (prefix ++ left) old ≡ true
fewer_wait [] [] old new same waits = sym (same refl) ∙ waits
fewer_wait [] (b ∷ bs) old new same waits = refl
fewer_wait (b ∷ bs) left old new same waits = refl

pub waits_still : (waiting : List ℕ) (old new : Bool) → (new ≡ true → old ≡ true) → some_wait waiting new ≡ true
    → some_wait waiting old ≡ true
waits_still [] old new still waits = still waits
waits_still (b ∷ bs) old new still waits = refl

text_unknown : (known : Option Files) (before after : List ℕ) (old new : List ℕ → Option (List ℕ))
    → IsNone (option_map (after_log before) known) → new ≡ old
    → text_over (option_map (after_log after) known) new ≡ text_over (option_map (after_log before) known) old
text_unknown None before after old new none same = same
text_unknown (Some files) before after old new none same = cc none

text_unknown_after : (i j : Outside) (g h : Gathered) (piece : List ℕ) → TakesForLog i j piece → h ≡ g
    → IsNone (option_map (after_log g.log.bytes) i.files)
    → text_over (option_map (after_log h.log.bytes) j.files) j.text ≡ text_over (option_map (after_log g.log.bytes) i.files) i.text
text_unknown_after i j g h piece t same none =
    let known : option_map (after_log h.log.bytes) j.files
    ≡ option_map (after_log (piece ++ g.log.bytes)) i.files =
    cc (t.filed, same, filed_twice i.files piece g.log.bytes) in
    ap (λ (f : Option Files). text_over f j.text) known
    ∙ text_unknown i.files g.log.bytes (piece ++ g.log.bytes) i.text j.text none (t.text (unknown_before i.files g.log.bytes none))

-- the log was handed some of what waits for it
pub log_handed_on : (i j : Outside) (g h : Gathered) (prefix : List ℕ) → LogsPrefix i j prefix → (g.log.bytes ≡ [] → j ≡ i)
    → g.log.bytes ≡ prefix ++ h.log.bytes → h ≡ record g { log = h.log } → OnlyHandsToLog (outside_with i g) (outside_with j h)
log_handed_on i j g h prefix f idle bytes rest =
    let files : option_map (after_log h.log.bytes) j.files ≡ option_map (after_log g.log.bytes) i.files =
    ap (λ (known : Option Files). option_map (after_log h.log.bytes) known) f.filed
    ∙ filed_twice i.files prefix h.log.bytes
    ∙ ap (λ (piece : List ℕ). option_map (after_log piece) i.files) (sym bytes) in
    let text : text_over (option_map (after_log h.log.bytes) j.files) j.text
    ≡ text_over (option_map (after_log g.log.bytes) i.files) i.text =
    ap (λ (known : Option Files). text_over known j.text) files
    ∙ text_stays (option_map (after_log g.log.bytes) i.files) i.text j.text
    (λ none. f.text (unknown_before i.files g.log.bytes none)) in
    let logged : appended j.logged h.log.bytes ≡ appended i.logged g.log.bytes =
    ap (λ (known : Option (List ℕ)). appended known h.log.bytes) f.logged
    ∙ appended_twice i.logged prefix h.log.bytes
    ∙ ap (λ (piece : List ℕ). appended i.logged piece) (sym bytes) in
    record {
      kept = record {
        files = files;
        text = text;
        asked = cc (rest, f.others.asked);
        input = f.others.input;
        logged = logged;
        printed = cc (rest, f.others.printed);
        reported = f.others.reported;
        in_faults = cc rest;
        log_faults = cc rest;
        out_faults = cc rest;
        err_faults = f.others.err_faults;
        log_waits = λ waits.
            subst (λ (all : List ℕ). some_wait all i.log_waits ≡ true) (sym bytes)
            (fewer_wait prefix h.log.bytes i.log_waits j.log_waits (λ none. ap (λ (o : Outside). o.log_waits) (idle (bytes ∙ none))) waits);
      };
      out_waits = cc (rest, f.others.out_waits);
    }

-- some of what is to be printed was handed on
pub out_handed_on : (i j : Outside) (g h : Gathered) (prefix : List ℕ) → PrintsPrefix i j prefix
    → g.out.bytes ≡ prefix ++ h.out.bytes → h ≡ record g { out = h.out } → OnlyHandsOn (outside_with i g) (outside_with j h)
out_handed_on i j g h prefix f bytes rest =
    let printed : appended j.printed h.out.bytes ≡ appended i.printed g.out.bytes =
    ap (λ (known : Option (List ℕ)). appended known h.out.bytes) f.printed
    ∙ appended_twice i.printed prefix h.out.bytes
    ∙ ap (λ (piece : List ℕ). appended i.printed piece) (sym bytes) in
    record {
      files = cc (rest, f.others.files);
      text = cc (rest, f.others.files, f.others.text);
      asked = cc (rest, f.others.asked);
      input = f.others.input;
      logged = cc (rest, f.others.logged);
      printed = printed;
      reported = f.others.reported;
      in_faults = cc rest;
      log_faults = cc rest;
      out_faults = cc rest;
      err_faults = f.others.err_faults;
      log_waits = λ waits. waits_still g.log.bytes i.log_waits j.log_waits f.others.log_waits (cc (waits, rest));
    }

-- a piece is held for the log
pub log_held : (i : Outside) (g h : Gathered) (piece : List ℕ) → h.log.bytes ≡ g.log.bytes ++ piece → h ≡ record g { log = h.log }
    → TakesForLog (outside_with i g) (outside_with i h) (take (length piece) piece)
log_held i g h piece bytes rest =
    let whole : take (length piece) piece ≡ piece = take_all (length piece) piece (omega arith) in
    let all : h.log.bytes ≡ g.log.bytes ++ take (length piece) piece =
    bytes ∙ ap (λ (p : List ℕ). g.log.bytes ++ p) (sym whole) in
    let files : option_map (after_log h.log.bytes) i.files
    ≡ option_map (after_log (take (length piece) piece)) (option_map (after_log g.log.bytes) i.files) =
    ap (λ (p : List ℕ). option_map (after_log p) i.files) all ∙ sym (filed_twice i.files g.log.bytes (take (length piece) piece)) in
    record {
      logged = ap (λ (p : List ℕ). appended i.logged p) all ∙ sym (appended_twice i.logged g.log.bytes (take (length piece) piece));
      filed = files;
      text = λ none. text_unknown i.files g.log.bytes h.log.bytes i.text i.text none refl;
      steady = cc rest;
      others = record {
        asked = cc rest;
        input = refl;
        in_faults = cc rest;
        printed = cc rest;
        out_faults = cc rest;
        reported = refl;
        err_faults = refl;
        out_waits = cc rest;
      };
    }

-- a piece is handed to the log at once, where none waits
pub log_passed_on : (i j : Outside) (g h : Gathered) (piece : List ℕ) → TakesForLog i j piece → g.log.bytes ≡ [] → h ≡ g
    → TakesForLog (outside_with i g) (outside_with j h) piece
log_passed_on i j g h piece t none same =
    let logged : appended j.logged [] ≡ appended (appended i.logged []) piece =
    sym (appended_empty j.logged) ∙ t.logged ∙ ap (λ (known : Option (List ℕ)). appended known piece) (appended_empty i.logged) in
    let files : option_map (after_log []) j.files ≡ option_map (after_log piece) (option_map (after_log []) i.files) =
    sym (filed_nothing j.files) ∙ t.filed ∙ ap (λ (known : Option Files). option_map (after_log piece) known) (filed_nothing i.files) in
    record {
      logged = cc (logged, none, same);
      filed = cc (files, none, same);
      text = λ unknown. text_unknown_after i j g h piece t same unknown;
      steady = cc same;
      others = record {
        asked = cc (same, t.others.asked);
        input = t.others.input;
        in_faults = cc same;
        printed = cc (same, t.others.printed);
        out_faults = cc same;
        reported = t.others.reported;
        err_faults = t.others.err_faults;
        out_waits = cc (same, t.others.out_waits);
      };
    }

-- a piece is held to be printed
pub out_held : (i : Outside) (g h : Gathered) (piece : List ℕ) → h.out.bytes ≡ g.out.bytes ++ piece → h ≡ record g { out = h.out }
    → TakesToPrint (outside_with i g) (outside_with i h) (take (length piece) piece)
out_held i g h piece bytes rest =
    let whole : take (length piece) piece ≡ piece = take_all (length piece) piece (omega arith) in
    let all : h.out.bytes ≡ g.out.bytes ++ take (length piece) piece =
    bytes ∙ ap (λ (p : List ℕ). g.out.bytes ++ p) (sym whole) in
    record {
      printed = ap (λ (p : List ℕ). appended i.printed p) all ∙ sym (appended_twice i.printed g.out.bytes (take (length piece) piece));
      steady = cc rest;
      others = record {
        files = cc rest;
        text = cc rest;
        asked = cc rest;
        input = refl;
        in_faults = cc rest;
        logged = cc rest;
        log_faults = cc rest;
        reported = refl;
        err_faults = refl;
        log_waits = λ waits. cc (waits, rest);
      };
    }

-- the log was handed the first of what waits for it
pub log_counted_on : (i j : Outside) (g h : Gathered) (count : ℕ) → LogsPrefix i j (take count g.log.bytes)
    → g.log.bytes ≢ []
    → h.log.bytes ≡ drop count g.log.bytes → h ≡ record g { log = h.log } → OnlyHandsToLog (outside_with i g) (outside_with j h)
log_counted_on i j g h count f some left rest =
    log_handed_on i j g h (take count g.log.bytes) f (λ none. absurd (some none))
    (sym (take-append-drop count g.log.bytes) ∙ ap (λ (p : List ℕ). take count g.log.bytes ++ p) (sym left)) rest

-- some of what is to be printed was handed on
pub out_counted_on : (i j : Outside) (g h : Gathered) (count : ℕ) → PrintsPrefix i j (take count g.out.bytes)
    → h.out.bytes ≡ drop count g.out.bytes → h ≡ record g { out = h.out } → OnlyHandsOn (outside_with i g) (outside_with j h)
out_counted_on i j g h count f left rest =
    out_handed_on i j g h (take count g.out.bytes) f
    (sym (take-append-drop count g.out.bytes) ∙ ap (λ (p : List ℕ). take count g.out.bytes ++ p) (sym left)) rest

only_logs_after : (a b c : Outside) → OnlyHandsToLog a b → OnlyLogs b c → OnlyLogs a c
only_logs_after a b c h l = record {
  asked = l.asked ∙ h.kept.asked;
  input = l.input ∙ h.kept.input;
  in_faults = l.in_faults ∙ h.kept.in_faults;
  printed = l.printed ∙ h.kept.printed;
  out_faults = l.out_faults ∙ h.kept.out_faults;
  reported = l.reported ∙ h.kept.reported;
  err_faults = l.err_faults ∙ h.kept.err_faults;
  out_waits = l.out_waits ∙ h.out_waits;
}

-- what waited was handed on, and then the log took a piece
pub log_after : (a b c : Outside) (piece : List ℕ) → OnlyHandsToLog a b → TakesForLog b c piece → TakesForLog a c piece
log_after a b c piece h t = record {
  logged = t.logged ∙ ap (λ (known : Option (List ℕ)). appended known piece) h.kept.logged;
  filed = t.filed ∙ ap (λ (known : Option Files). option_map (after_log piece) known) h.kept.files;
  text = λ none. t.text (subst (λ (known : Option Files). IsNone known) (sym h.kept.files) none) ∙ h.kept.text;
  steady = t.steady ∙ h.kept.log_faults;
  others = only_logs_after a b c h t.others;
}

-- what waited was handed on, and then a piece was printed
pub out_after : (a b c : Outside) (piece : List ℕ) → OnlyHandsOn a b → TakesToPrint b c piece → TakesToPrint a c piece
out_after a b c piece h t = record {
  printed = t.printed ∙ ap (λ (known : Option (List ℕ)). appended known piece) h.printed;
  steady = t.steady ∙ h.out_faults;
  others = record {
    files = t.others.files ∙ h.files;
    text = t.others.text ∙ h.text;
    asked = t.others.asked ∙ h.asked;
    input = t.others.input ∙ h.input;
    in_faults = t.others.in_faults ∙ h.in_faults;
    logged = t.others.logged ∙ h.logged;
    log_faults = t.others.log_faults ∙ h.log_faults;
    reported = t.others.reported ∙ h.reported;
    err_faults = t.others.err_faults ∙ h.err_faults;
    log_waits = λ waits. h.log_waits (t.others.log_waits waits);
  };
}

pub hands_on_twice : (a b c : Outside) → OnlyHandsOn a b → OnlyHandsOn b c → OnlyHandsOn a c
hands_on_twice a b c f g = record {
  files = g.files ∙ f.files;
  text = g.text ∙ f.text;
  asked = g.asked ∙ f.asked;
  input = g.input ∙ f.input;
  logged = g.logged ∙ f.logged;
  printed = g.printed ∙ f.printed;
  reported = g.reported ∙ f.reported;
  in_faults = g.in_faults ∙ f.in_faults;
  log_faults = g.log_faults ∙ f.log_faults;
  out_faults = g.out_faults ∙ f.out_faults;
  err_faults = g.err_faults ∙ f.err_faults;
  log_waits = λ waits. f.log_waits (g.log_waits waits);
}

only_hands : (a b : Outside) → OnlyHandsToLog a b → OnlyLogs a b
only_hands a b h = record {
  asked = h.kept.asked;
  input = h.kept.input;
  in_faults = h.kept.in_faults;
  printed = h.kept.printed;
  out_faults = h.kept.out_faults;
  reported = h.kept.reported;
  err_faults = h.kept.err_faults;
  out_waits = h.out_waits;
}

-- the log failed as it was handed what waits
pub log_refused : (a b : Outside) → OnlyHandsToLog a b → RefusesForLog a b
log_refused a b h = record { logged = h.kept.logged; files = h.kept.files; text = h.kept.text; others = only_hands a b h }

-- a call of the inner desk for the log failed
log_passed_over : (i j : Outside) (g h : Gathered) → j.logged ≡ i.logged → j.files ≡ i.files → j.text ≡ i.text → OnlyLogs i j
    → h.log.bytes ≡ g.log.bytes → h ≡ record g { log = h.log }
    → RefusesForLog (outside_with i g) (outside_with j h)
log_passed_over i j g h logged files text others left rest = record {
  files = cc (files, left);
  text = cc (files, text, left);
  logged = cc (logged, left);
  others = record {
    asked = cc (rest, others.asked);
    input = others.input;
    in_faults = cc rest;
    printed = cc (rest, others.printed);
    out_faults = cc rest;
    reported = others.reported;
    err_faults = others.err_faults;
    out_waits = cc (rest, others.out_waits);
  };
}

pub log_refused_after : (a : Outside) (i j : Outside) (g h : Gathered) → OnlyHandsToLog a (outside_with i g) → j.logged ≡ i.logged
    → j.files ≡ i.files → j.text ≡ i.text → OnlyLogs i j
    → h.log.bytes ≡ g.log.bytes → h ≡ record g { log = h.log } → RefusesForLog a (outside_with j h)
log_refused_after a i j g h hands logged files text others left rest =
    let over = log_passed_over i j g h logged files text others left rest in
    record {
      logged = over.logged ∙ hands.kept.logged;
      files = over.files ∙ hands.kept.files;
      text = over.text ∙ hands.kept.text;
      others = only_logs_after a (outside_with i g) (outside_with j h) hands over.others;
    }

-- what waited was handed on, and then the inner desk's log took a piece
pub log_took_after : (a : Outside) (i j : Outside) (g h : Gathered) (piece : List ℕ) → OnlyHandsToLog a (outside_with i g)
    → TakesForLog i j piece → g.log.bytes ≡ [] → h ≡ g → TakesForLog a (outside_with j h) piece
log_took_after a i j g h piece hands t none same =
    log_after a (outside_with i g) (outside_with j h) piece hands (log_passed_on i j g h piece t none same)

hands_prints : (a b : Outside) → OnlyHandsOn a b → OnlyPrints a b
hands_prints a b h = record {
  files = h.files;
  text = h.text;
  asked = h.asked;
  input = h.input;
  in_faults = h.in_faults;
  logged = h.logged;
  log_faults = h.log_faults;
  reported = h.reported;
  err_faults = h.err_faults;
  log_waits = h.log_waits;
}

-- what waits to be printed couldn't be handed on
pub refused : (a b : Outside) → OnlyHandsOn a b → RefusesToPrint a b
refused a b h = record { printed = h.printed; others = hands_prints a b h }

pub refused_twice : (a b c : Outside) → OnlyHandsOn a b → OnlyHandsOn b c → RefusesToPrint a c
refused_twice a b c f g = refused a c (hands_on_twice a b c f g)

pub held_after : (a b c d : Outside) (piece : List ℕ) → OnlyHandsOn a b → OnlyHandsOn b c → TakesToPrint c d piece
    → TakesToPrint a d piece
held_after a b c d piece first second t = out_after a c d piece (hands_on_twice a b c first second) t

pub log_held_at : (i j : Outside) (g h : Gathered) (piece : List ℕ) → j ≡ i → h.log.bytes ≡ g.log.bytes ++ piece
    → h ≡ record g { log = h.log }
    → TakesForLog (outside_with i g) (outside_with j h) (take (length piece) piece)
log_held_at i j g h piece same bytes rest =
    subst (λ (o : Outside). TakesForLog (outside_with i g) (outside_with o h) (take (length piece) piece)) (sym same)
    (log_held i g h piece bytes rest)

pub log_took_then : (a b : Outside) (i j : Outside) (g h : Gathered) (piece : List ℕ) → OnlyHandsToLog a b → outside_with i g ≡ b
    → TakesForLog i j piece → g.log.bytes ≡ [] → h ≡ g → TakesForLog a (outside_with j h) piece
log_took_then a b i j g h piece hands is t none same =
    log_took_after a i j g h piece (subst (λ (o : Outside). OnlyHandsToLog a o) (sym is) hands) t none same

pub log_refused_then : (a b : Outside) (i j : Outside) (g h : Gathered) → OnlyHandsToLog a b → outside_with i g ≡ b → j.logged ≡ i.logged
    → j.files ≡ i.files → j.text ≡ i.text → OnlyLogs i j
    → h.log.bytes ≡ g.log.bytes → h ≡ record g { log = h.log } → RefusesForLog a (outside_with j h)
log_refused_then a b i j g h hands is logged files text others left rest =
    log_refused_after a i j g h (subst (λ (o : Outside). OnlyHandsToLog a o) (sym is) hands) logged files text others left rest
