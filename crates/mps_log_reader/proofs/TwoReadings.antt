-- Two readings of the same bytes: the records of one are those of the other, and some more, and a reading ends in one way.
use Rattle.std.proofs.Common.{◌≡◌, ℕ, ◌+◌, ◌<◌, ◌≤◌, ◌⊎◌, true, List, [], ◌∷◌, ◌++◌, length, get_or, Option, Some, Result, Ok, Err, refl, sym, ap, subst, ◌∙◌, append_assoc, arith, inl, inr}
use Rattle.std.specs.List.{All, AllByRecursion}
use Rattle.std.proofs.lemmas.List.Elements.{recursion_from_All}
use Rattle.std.proofs.lemmas.List.{append-nil, append_cancel_left, length-append}
use Rattle.mps_base.specs.Record.{Record, header_bytes, record_bytes, records_bytes}
use Rattle.mps_event.specs.declared.version.Version.{Version}
use Rattle.mps_event.specs.declared.version.Version.TheVariants.{One, Two}
use Rattle.mps_event.specs.declared.fault.LogFault.{LogFault}
use Rattle.mps_event.specs.Event.{number_of_version}
use Rattle.mps_event.specs.Grammar.{IsRecord, log_bytes}
use Rattle.mps_event.specs.Reading.{first_of}
use Rattle.mps_event.proofs.Records.{one_beginning, read_again}
use Rattle.mps_report.specs.declared.stop.Stop.{Stop}
use Rattle.mps_report.specs.declared.stop.Stop.TheVariants as stop
use Rattle.mps_log_reader.specs.declared.bad_log.BadLog.{BadLog}
use Rattle.mps_log_reader.specs.declared.bad_log.BadLog.TheVariants as bad_log
use Rattle.mps_log_reader.specs.Ending.{max_records, EndsAt}
use Rattle.mps_log_reader.specs.LogPrefix.{LogPrefix, LogEnds}
use Rattle.mps_log_reader.proofs.LogPrefix.{header_first}

abbrev Ending : Type 0
Ending = Result (Unit {0}) (Stop BadLog)

-- ---- records at the beginning of the same bytes

-- the second are the first and some more
pub record Extends (version : Version) (first second : List Record) (x y : List ℕ) : Type 0 where
  pub more : List Record
  pub each : AllByRecursion (IsRecord version) more
  pub longer : second ≡ first ++ more
  pub rest : x ≡ records_bytes more ++ y

after_one_more : (version : Version) (a b : Record) (first second : List Record) (x y : List ℕ) → a ≡ b → Extends version first second x y
    → Extends version (a ∷ first) (b ∷ second) x y
after_one_more version a b first second x y same h = record {
  more = h.more;
  each = h.each;
  longer = ap (λ (r : Record). r ∷ second) (sym same) ∙ ap (λ (rs : List Record). a ∷ rs) h.longer;
  rest = h.rest;
}

both_one_more : (version : Version) (a b : Record) (first second : List Record) (x y : List ℕ) → a ≡ b → Extends version first second x y
    ⊎ Extends version second first y x
    → Extends version (a ∷ first) (b ∷ second) x y ⊎ Extends version (b ∷ second) (a ∷ first) y x
both_one_more version a b first second x y same (inl h) = inl (after_one_more version a b first second x y same h)
both_one_more version a b first second x y same (inr h) = inr (after_one_more version b a second first y x (sym same) h)

pub split : (version : Version) (first second : List Record) (x y : List ℕ) → AllByRecursion (IsRecord version) first
    → AllByRecursion (IsRecord version) second
    → records_bytes first ++ x ≡ records_bytes second ++ y → Extends version first second x y ⊎ Extends version second first y x
split version [] second x y f s e = inl (record { more = second; each = s; longer = refl; rest = e })
split version (a ∷ first) [] x y f s e = inr (record { more = a ∷ first; each = f; longer = refl; rest = sym e })
split version (a ∷ first) (b ∷ second) x y f s e =
    let fronts : record_bytes a ++ (records_bytes first ++ x) ≡ record_bytes b ++ (records_bytes second ++ y) =
    sym (append_assoc (record_bytes a) (records_bytes first) x) ∙ e ∙ append_assoc (record_bytes b) (records_bytes second) y in
    let same = one_beginning version a b (records_bytes first ++ x) (records_bytes second ++ y) f.0 s.0 fronts in
    both_one_more version a b first second x y same.0 (split version first second x y f.1 s.1 same.1)

-- ---- where a reading ends no record begins

pub no_record : (version : Version) (ending : Ending) (count offset : ℕ) (r : Record) (rs : List Record) (y : List ℕ) → IsRecord version r
    → EndsAt version ending count offset (records_bytes (r ∷ rs) ++ y) → count + length (r ∷ rs) ≤ max_records → ⊥
no_record version (Ok value) count offset r rs y h e few =
    omega (
      arith,
      ap (λ (x : List ℕ). length x) e,
      length-append (records_bytes (r ∷ rs)) y,
      length-append (record_bytes r) (records_bytes rs),
    )
no_record version (Err (stop.Bad (bad_log.Record at fault))) count offset r rs y h e few =
    let read : first_of version true (records_bytes (r ∷ rs) ++ y) ≡ Ok (Some r) =
    ap (first_of version true) (append_assoc (record_bytes r) (records_bytes rs) y) ∙ read_again version true r (records_bytes rs ++ y) h in
    differs r fault (sym read ∙ e.1)
  where
    answered : Option Record → Result (Option Record) LogFault
    answered o = Ok o

    differs : (r : Record) (fault : LogFault) → answered (Some r) ≡ Err fault → ⊥
    differs r fault e = absurd cc
no_record version (Err stop.TooLong) count offset r rs y h e few = omega (arith, e.0, few)
no_record version ending count offset r rs y h e few = e

pub no_more : (version : Version) (ending : Ending) (count offset : ℕ) (more : List Record) (y : List ℕ)
    → AllByRecursion (IsRecord version) more
    → EndsAt version ending count offset (records_bytes more ++ y) → count + length more ≤ max_records → more ≡ []
no_more version ending count offset [] y h e few = refl
no_more version ending count offset (r ∷ rs) y h e few = absurd (no_record version ending count offset r rs y h.0 e few)

same_of_after : (version : Version) (ending : Ending) (offset : ℕ) (first second : List Record) (x y : List ℕ)
    → Extends version first second x y
    → EndsAt version ending (length first) offset x → length second ≤ max_records → (second ≡ first) × (x ≡ y)
same_of_after version ending offset first second x y h e few =
    let size : length first + length h.more ≤ max_records =
    omega (arith, few, ap (λ (rs : List Record). length rs) h.longer, length-append first h.more) in
    let none = no_more version ending (length first) offset h.more y h.each
    (subst (λ (z : List ℕ). EndsAt version ending (length first) offset z) h.rest e) size in (
      h.longer ∙ ap (λ (rs : List Record). first ++ rs) none ∙ append-nil first,
      h.rest
          ∙ ap (λ (rs : List Record). records_bytes rs ++ y) none,
    )

pub same_records : (version : Version) (e f : Ending) (m n : ℕ) (first second : List Record) (x y : List ℕ)
    → Extends version first second x y ⊎ Extends version second first y x
    → EndsAt version e (length first) m x → EndsAt version f (length second) n y → length first ≤ max_records → length second ≤ max_records
    → (second ≡ first) × (x ≡ y)
same_records version e f m n first second x y (inl h) a b few fewer = same_of_after version e m first second x y h a fewer
same_records version e f m n first second x y (inr h) a b few fewer =
    let s = same_of_after version f n second first y x h b few in
    (sym s.0, sym s.1)

-- ---- one ending

pub record IsWrongAt (version : Version) (ending : Ending) (count offset : ℕ) (x : List ℕ) : Type 0 where
  pub fault : LogFault
  pub is : ending ≡ Err (stop.Bad (bad_log.Record offset fault))
  pub read : first_of version true x ≡ Err fault
  pub few : count < max_records

pub record IsTooLong (ending : Ending) (count : ℕ) (x : List ℕ) : Type 0 where
  pub is : ending ≡ Err stop.TooLong
  pub full : count ≡ max_records
  pub some : 0 < length x

abbrev pub IsOneOf : Version → Ending → (count offset : ℕ) → List ℕ → Type 0
IsOneOf version ending count offset x = ((ending ≡ Ok tt) × (x ≡ [])) ⊎ (IsWrongAt version ending count offset x ⊎ IsTooLong ending count x)

pub one_of : (version : Version) (ending : Ending) (count offset : ℕ) (x : List ℕ) → EndsAt version ending count offset x
    → IsOneOf version ending count offset x
one_of version (Ok value) count offset x e = inl (refl, e)
one_of version (Err (stop.Bad (bad_log.Record at fault))) count offset x e =
    inr (inl (record { fault = fault; is = ap (λ (n : ℕ). Err (stop.Bad (bad_log.Record n fault))) e.0; read = e.1; few = e.2 }))
one_of version (Err stop.TooLong) count offset x e = inr (inr (record { is = refl; full = e.0; some = e.1 }))
one_of version ending count offset x e = absurd e

not_wrong : (version : Version) (x : List ℕ) (fault : LogFault) → x ≡ [] → first_of version true x ≡ Err fault → ⊥
not_wrong version [] fault e h = absurd cc
not_wrong version (byte ∷ bytes) fault e h = absurd cc

same_fault : (version : Version) (x : List ℕ) (f g : LogFault) → first_of version true x ≡ Err f → first_of version true x ≡ Err g → f ≡ g
same_fault version x f g a b = fault_is f g (sym a ∙ b)
  where
    failed : LogFault → Result (Option Record) LogFault
    failed f = Err f

    fault_is : (f g : LogFault) → failed f ≡ failed g → f ≡ g
    fault_is f g e = cc

pub one_ending : (version : Version) (e f : Ending) (count offset : ℕ) (x : List ℕ) → IsOneOf version e count offset x
    → IsOneOf version f count offset x → e ≡ f
one_ending version e f count offset x (inl a) (inl b) = a.0 ∙ sym b.0
one_ending version e f count offset x (inl a) (inr (inl b)) = absurd (not_wrong version x b.fault a.1 b.read)
one_ending version e f count offset x (inl a) (inr (inr b)) = absurd (omega (arith, ap (λ (z : List ℕ). length z) a.1, b.some))
one_ending version e f count offset x (inr (inl a)) (inl b) = absurd (not_wrong version x a.fault b.1 a.read)
one_ending version e f count offset x (inr (inl a)) (inr (inl b)) =
    a.is ∙ ap (λ (g : LogFault). Err (stop.Bad (bad_log.Record offset g))) (same_fault version x a.fault b.fault a.read b.read) ∙ sym b.is
one_ending version e f count offset x (inr (inl a)) (inr (inr b)) = absurd (omega (arith, a.few, b.full))
one_ending version e f count offset x (inr (inr a)) (inl b) = absurd (omega (arith, ap (λ (z : List ℕ). length z) b.1, a.some))
one_ending version e f count offset x (inr (inr a)) (inr (inl b)) = absurd (omega (arith, b.few, a.full))
one_ending version e f count offset x (inr (inr a)) (inr (inr b)) = a.is ∙ sym b.is

-- ---- one version

pub same_version : (v w : Version) (p q : List ℕ) → header_bytes (number_of_version v) ++ p ≡ header_bytes (number_of_version w) ++ q
    → v ≡ w
same_version One One p q e = refl
same_version Two Two p q e = refl
same_version One Two p q e = absurd (let h : 1 ≡ 2 = ap (λ (bytes : List ℕ). get_or bytes 6 0) e in omega (arith, h))
same_version Two One p q e = absurd (let h : 2 ≡ 1 = ap (λ (bytes : List ℕ). get_or bytes 6 0) e in omega (arith, h))

-- ---- one reading

-- two readings of the same bytes: their records and their endings are the same
pub record IsSameReading {bytes : List ℕ} (a b : LogPrefix bytes) (e f : Ending) : Type 0 where
  pub version : a.version ≡ b.version
  pub records : a.records ≡ b.records
  pub ending : e ≡ f

same_in_version : (version : Version) (first second : List Record) (e f : Ending) (x y : List ℕ)
    → AllByRecursion (IsRecord version) first → AllByRecursion (IsRecord version) second → length first ≤ max_records
    → length second ≤ max_records
    → log_bytes version first ++ x ≡ log_bytes version second ++ y
    → EndsAt version e (length first) (length (log_bytes version first)) x
    → EndsAt version f (length second) (length (log_bytes version second)) y
    → (first ≡ second) × (e ≡ f)
same_in_version version first second e f x y each other at_most fits same ends stop =
    let header = header_bytes (number_of_version version) in
    let after : records_bytes first ++ x ≡ records_bytes second ++ y =
    append_cancel_left header (records_bytes first ++ x) (records_bytes second ++ y)
    (sym (append_assoc header (records_bytes first) x) ∙ same ∙ append_assoc header (records_bytes second) y) in
    let h = split version first second x y each other after in
    let s = same_records version e f (length (log_bytes version first))
    (length (log_bytes version second)) first second x y h ends stop at_most fits in
    let also : EndsAt version f (length first) (length (log_bytes version first)) x =
    subst (λ (z : List ℕ). EndsAt version f (length first) (length (log_bytes version first)) z) (sym s.1)
    (subst (λ (rs : List Record). EndsAt version f (length rs) (length (log_bytes version rs)) y) s.0 stop) in (
      sym s.0,
      one_ending version e f (length first) (length (log_bytes version first)) x
          (one_of version e (length first) (length (log_bytes version first)) x ends)
          (one_of version f (length first) (length (log_bytes version first)) x also),
    )

pub same_reading : {bytes : List ℕ} (a b : LogPrefix bytes) (e f : Ending) → LogEnds a e → LogEnds b f → IsSameReading a b e f
same_reading {bytes = bytes} a b e f ends stop =
    let version : a.version ≡ b.version = same_version a.version b.version (records_bytes a.records ++ a.rest) (records_bytes b.records
    ++ b.rest) (sym (header_first a) ∙ header_first b) in
    let v = sym version in
    let s = same_in_version a.version a.records b.records e f a.rest b.rest
    (recursion_from_All (IsRecord a.version) a.records a.each)
    (recursion_from_All (IsRecord a.version) b.records (subst (λ (u : Version). All (IsRecord u) b.records) v b.each)) a.at_most b.at_most
    (sym a.spelled ∙ subst (λ (u : Version). bytes ≡ log_bytes u b.records ++ b.rest) v b.spelled) ends
    (subst (λ (u : Version). EndsAt u f (length b.records) (length (log_bytes u b.records)) b.rest) v stop) in
    record { version = version; records = s.0; ending = s.1 }
