-- The labelled addresses ascend, and the labels are a map.
use Rattle.std.proofs.Common.{◌≡◌, ℕ, ◌<◌, Bool, true, false, cond, ltb, List, [], ◌∷◌, Option, Some, None, refl, sym, ap, subst, ◌∙◌, arith}
use Rattle.std.specs.Prelude.{◌==◌, IfSome, option_and_then, slice_index, length}
use Rattle.std.specs.BTreeMap.{insert_entry, is_at}
use Rattle.std.specs.Map.{lookup, remove_entry}
use Rattle.std.specs.Ordering.{nat_cmp, match_ordering, MatchOrdering, is_eq}
use Rattle.std.specs.declared.cmp.Ordering.{Ordering}
use Rattle.std.specs.declared.cmp.Ordering.TheVariants.{Less, Equal, Greater}
use Rattle.std.proofs.lemmas.Bool.{eqb-true, eqb-false, eq-eqb}
use Rattle.std.proofs.lemmas.Cmp.{ranked}
use Rattle.mps_base.specs.Record.{Record}
use Rattle.mps_event.specs.declared.version.Version.{Version}
use Rattle.mps_event.specs.declared.event.Event.{Event}
use Rattle.mps_event.specs.declared.event.Event.TheVariants.{ArenaCreate, LimitSet, PoolCreate, Flip, End, SegAlloc, SegFree, Splat, Commit, Alloc, Move, Stay, Post, Free, Intern, Label}
use Rattle.mps_txt.specs.Labels.{Naming, IsReached, no_names, id_at, with_label, relabelled, moved, after_event, after_record, after_records}

abbrev pub Entries : Type 0
Entries = List (ℕ × ℕ)

-- an address lies below all of these
abbrev pub Above : ℕ → Entries → Type 0
Above n [] = Unit {0}
Above n (e ∷ es) = (n < e.0) × Above n es

-- each address lies below those after it
abbrev pub Ascends : Entries → Type 0
Ascends [] = Unit {0}
Ascends (e ∷ es) = Above e.0 es × Ascends es

pub lower_above : (m n : ℕ) (es : Entries) → m < n → Above n es → Above m es
lower_above m n [] lt h = tt
lower_above m n (e ∷ es) lt h = (omega (arith, lt, h.0), lower_above m n es lt h.1)

-- ---- order

above_case : (r : Ordering) (n k v : ℕ) (e : ℕ × ℕ) (es added : Entries) → n < k → Above n (e ∷ es) → Above n added
    → Above n (match_ordering r ((k, v) ∷ e ∷ es) ((e.0, v) ∷ es) (e ∷ added))
above_case Less n k v e es added lt h more = (lt, h)
above_case Equal n k v e es added lt h more = (h.0, h.1)
above_case Greater n k v e es added lt h more = (h.0, more)

above_with : (n k v : ℕ) (es : Entries) → n < k → Above n es → Above n (insert_entry nat_cmp es k v)
above_with n k v [] lt h = (lt, tt)
above_with n k v (e ∷ es) lt h = above_case (nat_cmp k e.0) n k v e es (insert_entry nat_cmp es k v) lt h (above_with n k v es lt h.1)

ascends_case : (r : Ordering) (k v : ℕ) (e : ℕ × ℕ) (es added : Entries) → MatchOrdering r (k < e.0) (k ≡ e.0) (e.0 < k)
    → Ascends (e ∷ es) → (e.0 < k → Above e.0 added) → Ascends added
    → Ascends (match_ordering r ((k, v) ∷ e ∷ es) ((e.0, v) ∷ es) (e ∷ added))
ascends_case Less k v e es added m h above more = ((m, lower_above k e.0 es m h.0), h)
ascends_case Equal k v e es added m h above more = (h.0, h.1)
ascends_case Greater k v e es added m h above more = (above m, more)

pub ascends_with : (es : Entries) (k v : ℕ) → Ascends es → Ascends (insert_entry nat_cmp es k v)
ascends_with [] k v h = (tt, tt)
ascends_with (e ∷ es) k v h =
    ascends_case (nat_cmp k e.0) k v e es (insert_entry nat_cmp es k v) (ranked k e.0 (nat_cmp k e.0) refl) h
    (λ lt. above_with e.0 k v es lt h.0) (ascends_with es k v h.1)

above_less : (c : Bool) (n : ℕ) (e : ℕ × ℕ) (es rest : Entries) → Above n (e ∷ es) → Above n rest → Above n (cond c es (e ∷ rest))
above_less true n e es rest h k = h.1
above_less false n e es rest h k = (h.0, k)

above_without : (n k : ℕ) (es : Entries) → Above n es → Above n (remove_entry (is_at (nat_cmp k)) es)
above_without n k [] h = tt
above_without n k (e ∷ es) h = above_less (is_at (nat_cmp k) e.0) n e es (remove_entry (is_at (nat_cmp k)) es) h (above_without n k es h.1)

ascends_less : (c : Bool) (e : ℕ × ℕ) (es rest : Entries) → Ascends (e ∷ es) → Above e.0 rest → Ascends rest
    → Ascends (cond c es (e ∷ rest))
ascends_less true e es rest h above k = h.1
ascends_less false e es rest h above k = (above, k)

pub ascends_without : (es : Entries) (k : ℕ) → Ascends es → Ascends (remove_entry (is_at (nat_cmp k)) es)
ascends_without [] k h = tt
ascends_without (e ∷ es) k h =
    ascends_less (is_at (nat_cmp k) e.0) e es (remove_entry (is_at (nat_cmp k)) es) h (above_without e.0 k es h.0)
    (ascends_without es k h.1)

-- ---- look-ups

equal_case : (r : Ordering) (q x : ℕ) → MatchOrdering r (q < x) (q ≡ x) (x < q) → (test : Bool) → (q ≡ x → test ≡ true)
    → ((q ≡ x → ⊥) → test ≡ false) → is_eq r ≡ test
equal_case Less q x m test is other = sym (other (λ e. omega (arith, e, m)))
equal_case Equal q x m test is other = sym (is m)
equal_case Greater q x m test is other = sym (other (λ e. omega (arith, e, m)))

not_true : (a b : ℕ) (c : Bool) → (a == b) ≡ c → (b ≡ a → ⊥) → c ≡ false
not_true a b true e other = absurd (other (sym (eqb-true a b e)))
not_true a b false e other = refl

-- the test of a look-up
pub at_is : (q x : ℕ) → is_at (nat_cmp q) x ≡ (x == q)
at_is q x =
    equal_case (nat_cmp q x) q x (ranked q x (nat_cmp q x) refl) (x == q) (λ e. eq-eqb x q (sym e))
    (λ other. not_true x q (x == q) refl other)

once : (a : Bool) (v w : Option ℕ) (y : Option ℕ) → cond a v y ≡ cond a v (cond a w y)
once true v w y = refl
once false v w y = refl

either : (a b : Bool) (x v y : Option ℕ) → (a ≡ true → b ≡ false) → cond a x (cond b v y) ≡ cond b v (cond a x y)
either true true x v y apart = absurd (let e : true ≡ false = apart refl in cc)
either true false x v y apart = refl
either false true x v y apart = refl
either false false x v y apart = refl

apart_tests : (a b q : ℕ) → (a ≡ b → ⊥) → (a == q) ≡ true → (b == q) ≡ false
apart_tests a b q other e = not_true b q (b == q) refl (λ f. other (eqb-true a q e ∙ f))

with_case : (r : Ordering) (k v q : ℕ) (e : ℕ × ℕ) (es added : Entries) → MatchOrdering r (k < e.0) (k ≡ e.0) (e.0 < k)
    → lookup (is_at (nat_cmp q)) added ≡ cond (k == q) (Some v) (lookup (is_at (nat_cmp q)) es)
    → lookup (is_at (nat_cmp q)) (match_ordering r ((k, v) ∷ e ∷ es) ((e.0, v) ∷ es) (e ∷ added))
    ≡ cond (k == q) (Some v) (lookup (is_at (nat_cmp q)) (e ∷ es))
with_case Less k v q e es added m h = ap (λ (c : Bool). cond c (Some v) (lookup (is_at (nat_cmp q)) (e ∷ es))) (at_is q k)
with_case Equal k v q e es added m h =
    let same : is_at (nat_cmp q) e.0 ≡ (k == q) = at_is q e.0 ∙ ap (λ (n : ℕ). n == q) (sym m) in
    let rest = lookup (is_at (nat_cmp q)) es in
    ap (λ (c : Bool). cond c (Some v) rest) same ∙ once (k == q) (Some v) (Some e.1) rest
    ∙ ap (λ (c : Bool). cond (k == q) (Some v) (cond c (Some e.1) rest)) (sym same)
with_case Greater k v q e es added m h =
    let rest = lookup (is_at (nat_cmp q)) es in
    ap (λ (o : Option ℕ). cond (is_at (nat_cmp q) e.0) (Some e.1) o) h
    ∙ either (is_at (nat_cmp q) e.0) (k == q) (Some e.1) (Some v) rest
    (λ t. apart_tests e.0 k q (λ f. omega (arith, f, m)) (sym (at_is q e.0) ∙ t))

-- with a label at an address
pub found_with : (es : Entries) (k v q : ℕ) → lookup (is_at (nat_cmp q)) (insert_entry nat_cmp es k v)
    ≡ cond (k == q) (Some v) (lookup (is_at (nat_cmp q)) es)
found_with [] k v q = ap (λ (c : Bool). cond c (Some v) None) (at_is q k)
found_with (e ∷ es) k v q =
    with_case (nat_cmp k e.0) k v q e es (insert_entry nat_cmp es k v) (ranked k e.0 (nat_cmp k e.0) refl) (found_with es k v q)

absent_case : (c : Bool) (x y : Option ℕ) → c ≡ false → y ≡ None → cond c x y ≡ None
absent_case c x y e f = rw (e, f) refl

pub absent_above : (n q : ℕ) (es : Entries) → q ≡ n → Above n es → lookup (is_at (nat_cmp q)) es ≡ None
absent_above n q [] same h = refl
absent_above n q (e ∷ es) same h =
    absent_case (is_at (nat_cmp q) e.0) (Some e.1) (lookup (is_at (nat_cmp q)) es)
    (at_is q e.0 ∙ not_true e.0 q (e.0 == q) refl (λ f. omega (arith, f, same, h.0))) (absent_above n q es same h.1)

none_either : (c : Bool) (o : Option ℕ) → o ≡ None → None ≡ cond c None o
none_either true o e = refl
none_either false o e = sym e

taken_case : (c : Bool) (n q : ℕ) (e : ℕ × ℕ) (es : Entries) → (n == q) ≡ c → n ≡ e.0 → Above e.0 es
    → lookup (is_at (nat_cmp q)) es ≡ cond c None (cond (is_at (nat_cmp q) e.0) (Some e.1) (lookup (is_at (nat_cmp q)) es))
taken_case true n q e es test same h = absent_above e.0 q es (sym (eqb-true n q test) ∙ same) h
taken_case false n q e es test same h =
    let other : is_at (nat_cmp q) e.0 ≡ false = at_is q e.0 ∙ ap (λ (m : ℕ). m == q) (sym same) ∙ test in
    sym (ap (λ (c : Bool). cond c (Some e.1) (lookup (is_at (nat_cmp q)) es)) other)

without_case : (c : Bool) (k q : ℕ) (e : ℕ × ℕ) (es rest : Entries) → is_at (nat_cmp k) e.0 ≡ c → Above e.0 es
    → lookup (is_at (nat_cmp q)) rest ≡ cond (k == q) None (lookup (is_at (nat_cmp q)) es)
    → lookup (is_at (nat_cmp q)) (cond c es (e ∷ rest)) ≡ cond (k == q) None (lookup (is_at (nat_cmp q)) (e ∷ es))
without_case true k q e es rest test h found = taken_case (k == q) k q e es refl (sym (eqb-true e.0 k (sym (at_is k e.0) ∙ test))) h
without_case false k q e es rest test h found =
    let left = lookup (is_at (nat_cmp q)) es in
    let other : (e.0 == k) ≡ false = sym (at_is k e.0) ∙ test in
    ap (λ (o : Option ℕ). cond (is_at (nat_cmp q) e.0) (Some e.1) o) found
    ∙ either (is_at (nat_cmp q) e.0) (k == q) (Some e.1) None left
    (λ t. apart_tests e.0 k q (eqb-false e.0 k other) (sym (at_is q e.0) ∙ t))

-- without a label at an address
pub found_without : (es : Entries) (k q : ℕ) → Ascends es → lookup (is_at (nat_cmp q)) (remove_entry (is_at (nat_cmp k)) es)
    ≡ cond (k == q) None (lookup (is_at (nat_cmp q)) es)
found_without [] k q h = none_either (k == q) None refl
found_without (e ∷ es) k q h =
    without_case (is_at (nat_cmp k) e.0) k q e es (remove_entry (is_at (nat_cmp k)) es) refl h.0 (found_without es k q h.1)

-- ---- names and labels

abbrev pub IsAscending : Naming → Type 0
IsAscending s = Ascends s.labels

ascending_relabelled : (s : Naming) (address : ℕ) (o : Option ℕ) → IsAscending s → IsAscending (relabelled s address o)
ascending_relabelled s address None h = ascends_without s.labels address h
ascending_relabelled s address (Some id) h = ascends_with s.labels address id h

found_relabelled : (s : Naming) (address other : ℕ) (o : Option ℕ) → IsAscending s
    → id_at (relabelled s address o) other ≡ cond (address == other) o (id_at s other)
found_relabelled s address other None h = found_without s.labels address other h
found_relabelled s address other (Some id) h = found_with s.labels address id other

pub found_moved : (s : Naming) (from to other : ℕ) → IsAscending s
    → id_at (moved s from to) other ≡ cond (from == other) None (cond (to == other) (id_at s from) (id_at s other))
found_moved s from to other h =
    found_without (relabelled s to (id_at s from)).labels from other (ascending_relabelled s to (id_at s from) h)
    ∙ ap (λ (o : Option ℕ). cond (from == other) None o) (found_relabelled s to other (id_at s from) h)

abbrev Keeps : Option Naming → Type 0
Keeps o = IfSome o IsAscending

if_known : (c : Bool) (s : Naming) → IsAscending s → Keeps (cond c (Some s) None)
if_known true s h = h
if_known false s h = tt

event_keeps : (event : Event) (fields : List ℕ) (s : Naming) → IsAscending s → Keeps (after_event event fields s)
event_keeps Commit fields s h = ascends_without s.labels (slice_index fields 0) h
event_keeps Alloc fields s h = ascends_without s.labels (slice_index fields 0) h
event_keeps Free fields s h = ascends_without s.labels (slice_index fields 0) h
event_keeps Move fields s h =
    ascends_without (relabelled s (slice_index fields 1) (id_at s (slice_index fields 0))).labels (slice_index fields 0)
    (ascending_relabelled s (slice_index fields 1) (id_at s (slice_index fields 0)) h)
event_keeps Intern fields s h = if_known (slice_index fields 0 == length s.names) _ h
event_keeps Label fields s h =
    if_known (ltb (slice_index fields 1) (length s.names)) (with_label s (slice_index fields 0) (slice_index fields 1))
    (ascends_with s.labels (slice_index fields 0) (slice_index fields 1) h)
event_keeps ArenaCreate fields s h = h
event_keeps LimitSet fields s h = h
event_keeps PoolCreate fields s h = h
event_keeps Flip fields s h = h
event_keeps End fields s h = h
event_keeps SegAlloc fields s h = h
event_keeps SegFree fields s h = h
event_keeps Splat fields s h = h
event_keeps Stay fields s h = h
event_keeps Post fields s h = h

then_keeps : {T : Type 0} (f : T → Option Naming) (o : Option T) → ((x : T) → Keeps (f x)) → Keeps (option_and_then f o)
then_keeps f None h = tt
then_keeps f (Some x) h = h x

after_keeps : (f : Naming → Option Naming) (o : Option Naming) → Keeps o → ((s : Naming) → IsAscending s → Keeps (f s))
    → Keeps (option_and_then f o)
after_keeps f None k h = tt
after_keeps f (Some s) k h = h s k

record_keeps : (version : Version) (s : Naming) (r : Record) → IsAscending s → Keeps (after_record version s r)
record_keeps version s r h = then_keeps (λ (event : Event). after_event event r.fields s) _ (λ event. event_keeps event r.fields s h)

records_keep : (version : Version) (s : Naming) (rs : List Record) → IsAscending s → Keeps (after_records version s rs)
records_keep version s [] h = h
records_keep version s (r ∷ rs) h =
    after_keeps (λ (next : Naming). after_records version next rs) (after_record version s r) (record_keeps version s r h)
    (λ next k. records_keep version next rs k)

pub reached_ascends : (s : Naming) → IsReached s → IsAscending s
reached_ascends s h = subst Keeps h.2 (records_keep h.0 no_names h.1 tt)
