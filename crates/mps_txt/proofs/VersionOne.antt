-- A text of version 1 has no names and no labels, and none of its records takes memory.
use Rattle.std.proofs.Common.{rules, ◌≡◌, ℕ, Bool, true, false, cond, List, [], ◌∷◌, Option, Some, None, refl, sym, subst, ◌∙◌}
use Rattle.std.specs.Prelude.{◌==◌, IfSome, find, option_and_then}
use Rattle.std.specs.List.{AllByRecursion}
use Rattle.mps_base.specs.Record.{Record}
use Rattle.mps_event.specs.declared.version.Version.{Version}
use Rattle.mps_event.specs.declared.version.Version.TheVariants.{One, Two}
use Rattle.mps_event.specs.declared.event.Event.{Event}
use Rattle.mps_event.specs.Event.{code_of, common_events, event_of}
use Rattle.mps_txt.specs.Labels.{Naming, no_names, after_event, after_record, after_records, takes_memory, record_takes_memory}
use Rattle.mps_txt.proofs.LinesSoFar.{naming_is, first_step}

-- ---- the events of both versions

-- without names and labels an event makes none and takes no memory
record KeepsNone (fields : List ℕ) (event : Event) : Type 0 where
  after : after_event event fields no_names ≡ Some no_names
  takes : takes_memory event fields no_names ≡ false

all_keep_none : (fields : List ℕ) → AllByRecursion (KeepsNone fields) common_events
all_keep_none fields = search rules

first_or_later : {X : Type 0} (P : X → Type 0) (passes : Bool) (x : X) (later : Option X) → P x → IfSome later P
    → IfSome (cond passes (Some x) later) P
first_or_later P true x later here following = here
first_or_later P false x later here following = following

-- what holds of each holds of the one that is found
found_among : {X : Type 0} (P : X → Type 0) (test : X → Bool) (xs : List X) → AllByRecursion P xs → IfSome (find test xs) P
found_among P test [] h = tt
found_among P test (x ∷ xs) h = first_or_later P (test x) x (find test xs) h.0 (found_among P test xs h.1)

keeps_none : (code : ℕ) (fields : List ℕ) → IfSome (event_of One code) (KeepsNone fields)
keeps_none code fields = found_among (KeepsNone fields) (λ e. code_of e == code) common_events (all_keep_none fields)

-- ---- the records of a text of version 1

event_after : (o : Option Event) (fields : List ℕ) (t : Naming) → IfSome o (KeepsNone fields)
    → option_and_then (λ event. after_event event fields no_names) o ≡ Some t → t ≡ no_names
event_after None fields t h e = absurd (let f : None ≡ Some t = e in cc)
event_after (Some event) fields t h e = naming_is t no_names (sym e ∙ h.after)

record_after : (r : Record) (s t : Naming) → s ≡ no_names → after_record One s r ≡ Some t → t ≡ no_names
record_after r s t none e =
    event_after (event_of One r.code) r.fields t (keeps_none r.code r.fields) (subst (λ (n : Naming). after_record One n r ≡ Some t) none e)

none_after : (records : List Record) (s named : Naming) → s ≡ no_names → after_records One s records ≡ Some named → named ≡ no_names
none_after [] s named none e = sym (naming_is s named e) ∙ none
none_after (r ∷ rs) s named none e =
    let g = first_step One (after_record One s r) rs named e in
    none_after rs g.0 named (record_after r s g.0 none g.1) g.2

event_takes : (version : Version) (s : Naming) (r : Record) (o : Option Event) → event_of version r.code ≡ o
    → IfSome o (λ event. takes_memory event r.fields s ≡ false)
    → record_takes_memory version s r ≡ false
event_takes version s r None e h = rw e refl
event_takes version s r (Some event) e h = rw e h

takes_none : (o : Option Event) (fields : List ℕ) → IfSome o (KeepsNone fields)
    → IfSome o (λ event. takes_memory event fields no_names ≡ false)
takes_none None fields h = tt
takes_none (Some event) fields h = h.takes

none_taken : (records : List Record) (named : Naming) (r : Record) → after_records One no_names records ≡ Some named
    → record_takes_memory One named r ≡ false
none_taken records named r e =
    subst (λ (n : Naming). record_takes_memory One n r ≡ false) (sym (none_after records no_names named refl e))
    (event_takes One no_names r (event_of One r.code) refl (takes_none (event_of One r.code) r.fields (keeps_none r.code r.fields)))

-- only a text of version 2 has records that take memory
pub is_second : (version : Version) (records : List Record) (named : Naming) (r : Record)
    → after_records version no_names records ≡ Some named
    → record_takes_memory version named r ≡ true → version ≡ Two
is_second One records named r e takes = absurd (let f : false ≡ true = sym (none_taken records named r e) ∙ takes in cc)
is_second Two records named r e takes = refl
