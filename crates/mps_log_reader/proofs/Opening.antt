-- The header of a log that was opened.
use Rattle.std.proofs.Common.{◌≡◌, ℕ, ◌+◌, ◌<◌, ◌≤◌, Bool, true, false, List, [], ◌++◌, length, take, drop, Option, Some, None, Result, Ok, Err, refl, sym, ap, subst, ◌∙◌, arith}
use Rattle.std.specs.Prelude.{IfSome}
use Rattle.std.specs.Option.{option_map}
use Rattle.std.proofs.lemmas.List.{append-nil, length-append, take-append-drop, take-append-le, take_at}
use Rattle.mps_desk.specs.Desk.{Outside}
use Rattle.mps_base.specs.Record.{Record, header_bytes, records_bytes}
use Rattle.mps_event.specs.declared.version.Version.{Version}
use Rattle.mps_event.specs.Event.{number_of_version}
use Rattle.mps_event.specs.Grammar.{log_bytes}
use Rattle.mps_report.specs.declared.stop.Stop.{Stop}
use Rattle.mps_report.specs.declared.stop.Stop.TheVariants as stop
use Rattle.mps_log_reader.specs.Input.{Buffered, ReadsMore, IsAtEnd}
use Rattle.mps_log_reader.specs.Left.{left_of}
use Rattle.mps_log_reader.specs.Opening.{HasNoHeader, TakesHeader, IsCutHeader, OpensWith}
use Rattle.mps_log_reader.proofs.Left.{left_same, split_pending, nothing_in_front}

header_in_front : (header pending more rest : List ℕ) → length header ≡ 8 → 8 ≤ length pending → pending ++ more ≡ header ++ rest
    → pending ≡ header ++ drop 8 pending
header_in_front header pending more rest size long e =
    let front : take 8 pending ≡ header = sym (take-append-le 8 pending more long) ∙ ap (λ (x : List ℕ). take 8 x) e
    ∙ take_at header rest 8 size in
    sym (take-append-drop 8 pending) ∙ ap (λ (x : List ℕ). x ++ drop 8 pending) front

size_of_header : (version : Version) → length (header_bytes (number_of_version version)) ≡ 8
size_of_header version = refl

-- where enough bytes came, or all of them, no header comes later
no_header_later : (pending more : List ℕ) (ended failed : Bool) → HasNoHeader pending → (failed ≡ true → 8 ≤ length pending)
    → (ended ≡ false → failed ≡ false → 8 ≤ length pending) → (ended ≡ true → more ≡ []) → (version : Version) (rest : List ℕ)
    → pending ++ more ≡ header_bytes (number_of_version version) ++ rest → ⊥
no_header_later pending more ended true none long enough end version rest e =
    none version (drop 8 pending) (header_in_front (header_bytes (number_of_version version)) pending more rest (size_of_header version)
    (long refl) e)
no_header_later pending more false false none long enough end version rest e =
    none version (drop 8 pending) (header_in_front (header_bytes (number_of_version version)) pending more rest (size_of_header version)
    (enough refl refl) e)
no_header_later pending more true false none long enough end version rest e =
    none version rest (sym (append-nil pending) ∙ ap (λ (x : List ℕ). pending ++ x) (sym (end refl)) ∙ e)

no_header_of : (pending bytes : List ℕ) (ended failed : Bool) (input : Option (List ℕ))
    → option_map (λ rest. pending ++ rest) input ≡ Some bytes → HasNoHeader pending
    → (failed ≡ true → 8 ≤ length pending) → (ended ≡ false → failed ≡ false → 8 ≤ length pending)
    → (ended ≡ true → IfSome input (λ left. left ≡ [])) → HasNoHeader bytes
no_header_of pending bytes ended failed None known none long enough end = absurd (let e : None ≡ Some bytes = known in cc)
no_header_of pending bytes ended failed (Some more) known none long enough end =
    let e : pending ++ more ≡ bytes = (let f : Some (pending ++ more) ≡ Some bytes = known in cc) in
    λ version rest h. no_header_later pending more ended failed none long enough end version rest (e ∙ h)

-- before anything was read
abbrev pub untouched : Buffered
untouched = record { pending = []; ended = false; failed = false }

pub untouched_left : (a : Outside) (x : Buffered) → x ≡ untouched → left_of a x ≡ a.input
untouched_left a x e = ap (left_of a) e ∙ sym (nothing_in_front a.input)

pub untouched_end : (a : Outside) (x : Buffered) → x ≡ untouched → IsAtEnd a x
untouched_end a x e h = absurd (let f : x.ended ≡ false = ap (λ (b : Buffered). b.ended) e in let g : true ≡ false = sym h ∙ f in cc)

pub opens : {E : Type 0} (a b : Outside) (x y z : Buffered) (bytes : List ℕ) (text : Option (List ℕ)) (result : Result Version (Stop E))
    → x ≡ untouched → a.input ≡ text → ReadsMore a b x y
    → (y.ended ≡ false → y.failed ≡ false → 8 ≤ length y.pending) → TakesHeader y z result → text ≡ Some bytes
    → OpensWith bytes (left_of b z) result
opens a b x y z bytes text (Ok version) start given reads enough takes known =
    let left : left_of b y ≡ Some bytes = left_same a b x y reads ∙ untouched_left a x start ∙ given ∙ known in
    sym left ∙ split_pending (header_bytes (number_of_version version)) y.pending z.pending b.input takes.0
opens a b x y z bytes text (Err (stop.Bad place)) start given reads enough takes known =
    let left : left_of b y ≡ Some bytes = left_same a b x y reads ∙ untouched_left a x start ∙ given ∙ known in
    no_header_of y.pending bytes y.ended y.failed b.input left takes.0 takes.1 enough (reads.end (untouched_end a x start))
opens a b x y z bytes text (Err stop.ReadFailed) start given reads enough takes known = tt
opens a b x y z bytes text result start given reads enough takes known = absurd takes

-- ---- a header that had not come whole

cut_of : (pending bytes : List ℕ) (input : Option (List ℕ)) → option_map (λ rest. pending ++ rest) input ≡ Some bytes → length pending < 8
    → IsCutHeader bytes input
cut_of pending bytes None e short = absurd (let f : None ≡ Some bytes = e in cc)
cut_of pending bytes (Some rest) e short =
    record { part = pending; others = rest; split = (let f : Some (pending ++ rest) ≡ Some bytes = e in cc); short = short; still = refl }

pub cut_header : {E : Type 0} (a b : Outside) (x y z : Buffered) (bytes : List ℕ) (text : Option (List ℕ))
    (result : Result Version (Stop E)) → x ≡ untouched → a.input ≡ text → ReadsMore a b x y
    → TakesHeader y z result → text ≡ Some bytes → result ≡ Err stop.ReadFailed → IsCutHeader bytes b.input
cut_header {E = E} a b x y z bytes text result start given reads takes known failed =
    let left : left_of b y ≡ Some bytes = left_same a b x y reads ∙ untouched_left a x start ∙ given ∙ known in
    cut_of y.pending bytes b.input left (subst (λ (r : Result Version (Stop E)). TakesHeader y z r) failed takes)

-- ---- the header of a log and what follows it

pub size_with_header : (version : Version) (records : List Record) → 8 + length (records_bytes records) ≡ length (log_bytes version records)
size_with_header version records =
    let size : length (header_bytes (number_of_version version)) ≡ 8 = refl in
    omega (arith, size, length-append (header_bytes (number_of_version version)) (records_bytes records))

pub header_known : (header bytes : List ℕ) (left : Option (List ℕ)) → Some bytes ≡ option_map (λ rest. header ++ rest) left
    → (rest : List ℕ) × (left ≡ Some rest) × (bytes ≡ header ++ rest)
header_known header bytes None e = absurd cc
header_known header bytes (Some rest) e = (rest, refl, cc)
