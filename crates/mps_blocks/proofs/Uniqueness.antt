-- The replay of some bytes ends in one way only.
use Rattle.std.proofs.Common.{◌≡◌, ℕ, ◌+◌, ◌<◌, ◌≤◌, ◌⊎◌, List, [], ◌∷◌, ◌++◌, length, Option, Some, None, Result, Ok, Err, refl, sym, ap, subst, ◌∙◌, append_assoc, arith, inl, inr}
use Rattle.std.specs.Prelude.{option_and_then}
use Rattle.std.specs.List.{AllByRecursion}
use Rattle.std.proofs.lemmas.List.{append-nil, append_cancel_left, length-append}
use Rattle.std.proofs.lemmas.List.Elements.{recursion_from_All}
use Rattle.mps_desk.specs.Desk.{Outside}
use Rattle.mps_base.specs.Record.{Record, header_bytes, record_bytes, records_bytes}
use Rattle.mps_event.specs.declared.version.Version.{Version}
use Rattle.mps_event.specs.Event.{number_of_version}
use Rattle.mps_event.specs.Grammar.{IsRecord, log_bytes}
use Rattle.mps_event.proofs.Records.{one_beginning}
use Rattle.mps_report.specs.declared.stop.Stop.{Stop}
use Rattle.mps_report.specs.declared.stop.Stop.TheVariants as stop
use Rattle.mps_report.specs.Reports.{ProgramEnds}
use Rattle.mps_log_reader.specs.declared.bad_log.BadLog.{BadLog}
use Rattle.mps_log_reader.specs.declared.bad_log.BadLog.TheVariants as bad_log
use Rattle.mps_log_reader.specs.Ending.{max_records, EndsAt}
use Rattle.mps_log_reader.proofs.LogPrefix.{header_first, has_header}
use Rattle.mps_blocks.specs.declared.bad_replay.BadReplay.{BadReplay}
use Rattle.mps_blocks.specs.declared.bad_replay.BadReplay.TheVariants as bad_replay
use Rattle.mps_blocks.specs.BadReplay.{text_of_bad_replay}
use Rattle.mps_log_reader.specs.Opening.{HasNoHeader}
use Rattle.mps_log_reader.proofs.TwoReadings.{Extends, split, no_record, one_of, one_ending, same_version}
use Rattle.mps_model.specs.Replayed.{State, at_the_start, replayed_after, replayed_from, replayed}
use Rattle.mps_blocks.specs.Listing.{listing}
use Rattle.mps_blocks.specs.Ending.{IsBadReplay, StopsAt, Replays}
use Rattle.mps_blocks.specs.Listed.{Lists, ListedWith, IsUniqueList}

abbrev Ending : Type 0
Ending = Result (Unit {0}) (Stop BadReplay)

-- ---- an ending is a bad replay, or one of those that all readers of a log have

record IsBadAt (version : Version) (state : State) (ending : Ending) (count offset : ℕ) (x : List ℕ) : Type 0 where
  is : ending ≡ Err (stop.Bad (bad_replay.Replay offset))
  bad : IsBadReplay version state x
  fewer : count < max_records

-- an ending of a reader of logs, as one of a replay
abbrev of_log : Result (Unit {0}) (Stop BadLog) → Ending
of_log (Ok value) = Ok value
of_log (Err stop.ReadFailed) = Err stop.ReadFailed
of_log (Err stop.WriteFailed) = Err stop.WriteFailed
of_log (Err stop.LogFailed) = Err stop.LogFailed
of_log (Err stop.TooLong) = Err stop.TooLong
of_log (Err stop.OutOfMemory) = Err stop.OutOfMemory
of_log (Err (stop.Bad bad)) = Err (stop.Bad (bad_replay.Log bad))

record IsLogEnd (version : Version) (ending : Ending) (count offset : ℕ) (x : List ℕ) : Type 0 where
  log : Result (Unit {0}) (Stop BadLog)
  is : ending ≡ of_log log
  ends : EndsAt version log count offset x

stops : (version : Version) (state : State) (ending : Ending) (count offset : ℕ) (x : List ℕ) → StopsAt version state ending count offset x
    → IsBadAt version state ending count offset x ⊎ IsLogEnd version ending count offset x
stops version state (Err (stop.Bad (bad_replay.Replay at))) count offset x h =
    inl (record { is = ap (λ (n : ℕ). Err (stop.Bad (bad_replay.Replay n))) h.0; bad = h.1; fewer = h.2 })
stops version state (Ok value) count offset x h = inr (record { log = Ok value; is = refl; ends = h })
stops version state (Err (stop.Bad (bad_replay.Log (bad_log.Record at fault)))) count offset x h =
    inr (record { log = Err (stop.Bad (bad_log.Record at fault)); is = refl; ends = h })
stops version state (Err stop.TooLong) count offset x h = inr (record { log = Err stop.TooLong; is = refl; ends = h })
stops version state ending count offset x h = absurd h

-- ---- where a replay ends no record follows that can be replayed

refused_first : (o : Option State) (f : State → Option State) (t : State) → o ≡ None → option_and_then f o ≡ Some t → ⊥
refused_first None f t e h = absurd cc
refused_first (Some s) f t e h = absurd cc

no_first : (version : Version) (state later : State) (ending : Ending) (count offset : ℕ) (r : Record) (rs : List Record) (y : List ℕ)
    → IsRecord version r
    → IsBadAt version state ending count offset (records_bytes (r ∷ rs) ++ y)
    ⊎ IsLogEnd version ending count offset (records_bytes (r ∷ rs) ++ y)
    → replayed_from state (r ∷ rs) ≡ Some later → count + length (r ∷ rs) ≤ max_records → ⊥
no_first version state later ending count offset r rs y h (inl b) replay few =
    let front : record_bytes r ++ (records_bytes rs ++ y) ≡ record_bytes b.bad.bad ++ b.bad.others =
    sym (append_assoc (record_bytes r) (records_bytes rs) y) ∙ b.bad.front in
    let same = one_beginning version r b.bad.bad (records_bytes rs ++ y) b.bad.others h b.bad.grammar front in
    refused_first (replayed_after state r) (λ after. replayed_from after rs) later (ap (replayed_after state) same.0 ∙ b.bad.refused) replay
no_first version state later ending count offset r rs y h (inr e) replay few = no_record version e.log count offset r rs y h e.ends few

no_more_replayed : (version : Version) (state later : State) (ending : Ending) (count offset : ℕ) (more : List Record) (y : List ℕ)
    → AllByRecursion (IsRecord version) more
    → StopsAt version state ending count offset (records_bytes more ++ y) → replayed_from state more ≡ Some later
    → count + length more ≤ max_records → more ≡ []
no_more_replayed version state later ending count offset [] y h e replay few = refl
no_more_replayed version state later ending count offset (r ∷ rs) y h e replay few =
    absurd (no_first version state later ending count offset r rs y h.0
    (stops version state ending count offset (records_bytes (r ∷ rs) ++ y) e) replay few)

-- ---- the same records

pub replayed-append : (s : State) (first more : List Record)
    → replayed_from s (first ++ more) ≡ option_and_then (λ after. replayed_from after more) (replayed_from s first)
replayed-append s [] more = refl
replayed-append s (r ∷ rs) more = step (replayed_after s r) rs more (λ t. replayed-append t rs more)
  where
    step : (o : Option State) (rs more : List Record)
        → ((t : State) → replayed_from t (rs ++ more) ≡ option_and_then (λ after. replayed_from after more) (replayed_from t rs))
        → option_and_then (λ after. replayed_from after (rs ++ more)) o
        ≡ option_and_then (λ after. replayed_from after more) (option_and_then (λ after. replayed_from after rs) o)
    step None rs more h = refl
    step (Some t) rs more h = h t

same_of_after : (version : Version) (ending : Ending) (offset : ℕ) (s t : State) (first second : List Record) (x y : List ℕ)
    → Extends version first second x y
    → StopsAt version s ending (length first) offset x → replayed first ≡ Some s → replayed second ≡ Some t → length second ≤ max_records
    → (second ≡ first) × (x ≡ y)
same_of_after version ending offset s t first second x y h e before after few =
    let size : length first + length h.more ≤ max_records =
    omega (arith, few, ap (λ (rs : List Record). length rs) h.longer, length-append first h.more) in
    let replay : replayed_from s h.more ≡ Some t =
    ap (λ (o : Option State). option_and_then (λ u. replayed_from u h.more) o) (sym before)
    ∙ sym (replayed-append at_the_start first h.more) ∙ ap replayed (sym h.longer) ∙ after in
    let none = no_more_replayed version s t ending (length first) offset h.more y h.each
    (subst (λ (z : List ℕ). StopsAt version s ending (length first) offset z) h.rest e) replay size in (
      h.longer ∙ ap (λ (rs : List Record). first ++ rs) none ∙ append-nil first,
      h.rest
          ∙ ap (λ (rs : List Record). records_bytes rs ++ y) none,
    )

same_records : (version : Version) (e f : Ending) (m n : ℕ) (s t : State) (first second : List Record) (x y : List ℕ)
    → Extends version first second x y ⊎ Extends version second first y x
    → StopsAt version s e (length first) m x → StopsAt version t f (length second) n y → replayed first ≡ Some s → replayed second ≡ Some t
    → length first ≤ max_records → length second ≤ max_records → (second ≡ first) × (x ≡ y)
same_records version e f m n s t first second x y (inl h) a b before after few fewer =
    same_of_after version e m s t first second x y h a before after fewer
same_records version e f m n s t first second x y (inr h) a b before after few fewer =
    let same = same_of_after version f n t s second first y x h b after before few in
    (sym same.0, sym same.1)

-- ---- the same ending

bad_is_no_end : (version : Version) (state : State) (ending : Ending) (count offset : ℕ) (x : List ℕ) → IsBadReplay version state x
    → count < max_records → IsLogEnd version ending count offset x → ⊥
bad_is_no_end version state ending count offset x b fewer e =
    let front : x ≡ records_bytes (b.bad ∷ []) ++ b.others = b.front
    ∙ ap (λ (z : List ℕ). z ++ b.others) (sym (append-nil (record_bytes b.bad))) in
    no_record version e.log count offset b.bad [] b.others b.grammar
    (subst (λ (z : List ℕ). EndsAt version e.log count offset z) front e.ends) (omega (arith, fewer))

same_ending : (version : Version) (state : State) (e f : Ending) (count offset : ℕ) (x : List ℕ)
    → IsBadAt version state e count offset x ⊎ IsLogEnd version e count offset x
    → IsBadAt version state f count offset x ⊎ IsLogEnd version f count offset x → e ≡ f
same_ending version state e f count offset x (inl a) (inl b) = a.is ∙ sym b.is
same_ending version state e f count offset x (inl a) (inr b) = absurd (bad_is_no_end version state f count offset x a.bad a.fewer b)
same_ending version state e f count offset x (inr a) (inl b) = absurd (bad_is_no_end version state e count offset x b.bad b.fewer a)
same_ending version state e f count offset x (inr a) (inr b) =
    a.is
    ∙ ap of_log (one_ending version a.log b.log count offset x (one_of version a.log count offset x a.ends)
    (one_of version b.log count offset x b.ends))
    ∙ sym b.is

-- ---- one replay

some_is : (s t : State) → Some s ≡ Some t → s ≡ t
some_is s t e = cc

in_version : (version : Version) (first second : List Record) (x y bytes : List ℕ) → bytes ≡ log_bytes version first ++ x
    → bytes ≡ log_bytes version second ++ y
    → records_bytes first ++ x ≡ records_bytes second ++ y
in_version version first second x y bytes a b =
    let header = header_bytes (number_of_version version) in
    append_cancel_left header (records_bytes first ++ x) (records_bytes second ++ y)
    (sym (append_assoc header (records_bytes first) x) ∙ sym a ∙ b ∙ append_assoc header (records_bytes second) y)

record IsSame (s t : State) (e f : Ending) : Type 0 where
  state : s ≡ t
  ending : e ≡ f

one_in_version : (version : Version) (e f : Ending) (bytes : List ℕ) (first second : List Record) (x y : List ℕ) (s t : State)
    → AllByRecursion (IsRecord version) first → AllByRecursion (IsRecord version) second → length first ≤ max_records
    → length second ≤ max_records
    → bytes ≡ log_bytes version first ++ x → bytes ≡ log_bytes version second ++ y → replayed first ≡ Some s → replayed second ≡ Some t
    → StopsAt version s e (length first) (length (log_bytes version first)) x
    → StopsAt version t f (length second) (length (log_bytes version second)) y
    → IsSame s t e f
one_in_version version e f bytes first second x y s t each other few fewer a b before after ends stop =
    let h = split version first second x y each other (in_version version first second x y bytes a b) in
    let same = same_records version e f (length (log_bytes version first))
    (length (log_bytes version second)) s t first second x y h ends stop before after few fewer in
    let state : s ≡ t = some_is s t (sym before ∙ ap replayed (sym same.0) ∙ after) in
    let there : StopsAt version s f (length first) (length (log_bytes version first)) x =
    subst (λ (z : List ℕ). StopsAt version s f (length first) (length (log_bytes version first)) z) (sym same.1)
    (subst (λ (rs : List Record). StopsAt version s f (length rs) (length (log_bytes version rs)) y) same.0
    (subst (λ (u : State). StopsAt version u f (length second) (length (log_bytes version second)) y) (sym state) stop)) in
    record {
      state = state;
      ending = same_ending version s e f (length first) (length (log_bytes version first)) x
          (stops version s e (length first) (length (log_bytes version first)) x ends)
          (stops version s f (length first) (length (log_bytes version first)) x there);
    }

one_replay : (e f : Ending) (bytes : List ℕ) (a : Replays bytes e) (b : Replays bytes f) → IsSame a.state b.state e f
one_replay e f bytes a b =
    let p = a.prefix in
    let q = b.prefix in
    let version : q.version ≡ p.version = same_version q.version p.version (records_bytes q.records ++ q.rest) (records_bytes p.records
    ++ p.rest)
    (sym (header_first q) ∙ header_first p) in
    one_in_version p.version e f bytes p.records q.records p.rest q.rest a.state b.state
    (recursion_from_All (IsRecord p.version) p.records p.each)
    (subst (λ (v : Version). AllByRecursion (IsRecord v) q.records) version (recursion_from_All (IsRecord q.version) q.records q.each))
    p.at_most q.at_most p.spelled (subst (λ (v : Version). bytes ≡ log_bytes v q.records ++ q.rest) version q.spelled) a.replay b.replay
    a.ends_at
    (subst (λ (v : Version). StopsAt v b.state f (length q.records) (length (log_bytes v q.records)) q.rest) version b.ends_at)

-- ---- one listing

-- what is listed of an ending after records that gave this state
abbrev text_of : Ending → State → List ℕ
text_of (Ok value) state = listing state.blocks
text_of (Err why) state = []

record IsReplay (bytes : List ℕ) (ending : Ending) (text : List ℕ) : Type 0 where
  replay : Replays bytes ending
  shown : text ≡ text_of ending replay.state

record IsHeadless (bytes : List ℕ) (ending : Ending) (text : List ℕ) : Type 0 where
  is : ending ≡ Err (stop.Bad (bad_replay.Log bad_log.Header))
  none : HasNoHeader bytes
  shown : text ≡ []

either : (bytes : List ℕ) (ending : Ending) (text : List ℕ) → Lists bytes ending text → IsReplay bytes ending text
    ⊎ IsHeadless bytes ending text
either bytes (Ok value) text h = inl (record { replay = h.0; shown = h.1 })
either bytes (Err (stop.Bad (bad_replay.Log bad_log.Header))) text h = inr (record { is = refl; none = h.0; shown = h.1 })
either bytes (Err why) text h = inl (record { replay = h.0; shown = h.1 })

record AreSame (e f : Ending) (t u : List ℕ) : Type 0 where
  ending : e ≡ f
  text : t ≡ u

one_of_each : (bytes : List ℕ) (e f : Ending) (t u : List ℕ) → IsReplay bytes e t ⊎ IsHeadless bytes e t → IsReplay bytes f u
    ⊎ IsHeadless bytes f u
    → AreSame e f t u
one_of_each bytes e f t u (inl a) (inl b) =
    let same = one_replay e f bytes a.replay b.replay in
    record {
      ending = same.ending;
      text = a.shown ∙ ap (λ (s : State). text_of e s) same.state ∙ ap (λ (g : Ending). text_of g b.replay.state) same.ending ∙ sym b.shown;
    }
one_of_each bytes e f t u (inl a) (inr b) = absurd (has_header a.replay.prefix b.none)
one_of_each bytes e f t u (inr a) (inl b) = absurd (has_header b.replay.prefix a.none)
one_of_each bytes e f t u (inr a) (inr b) = record { ending = a.is ∙ sym b.is; text = a.shown ∙ sym b.shown }

pub unique : (bytes : List ℕ) (status : ℕ) (old new : Outside) → ListedWith bytes status old new → IsUniqueList bytes status old new
unique bytes status old new h ending text lists =
    let same = one_of_each bytes h.ending ending h.text text (either bytes h.ending h.text h.lists) (either bytes ending text lists) in
    subst (λ (e : Ending). ProgramEnds text_of_bad_replay e text status old new) same.ending
    (subst (λ (t : List ℕ). ProgramEnds text_of_bad_replay h.ending t status old new) same.text h.ends)
