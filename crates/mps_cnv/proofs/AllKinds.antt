-- The portable text of all kinds has a line for each record.
use Rattle.std.proofs.Common.{◌≡◌, ℕ, true, List, [], ◌∷◌, ◌++◌, Option, Some, None, refl, ap, ◌∙◌}
use Rattle.std.specs.Prelude.{All, MatchOption, if◌then◌else◌}
use Rattle.std.specs.List.{AllByRecursion, flat_map}
use Rattle.std.proofs.lemmas.List.Elements.{recursion_from_All}
use Rattle.mps_base.specs.Record.{Record}
use Rattle.mps_event.specs.declared.version.Version.{Version}
use Rattle.mps_event.specs.declared.event.Event.{Event}
use Rattle.mps_event.specs.declared.event.Event.TheVariants.{ArenaCreate, LimitSet, PoolCreate, Flip, End, SegAlloc, SegFree, Splat, Commit, Alloc, Move, Stay, Post, Free, Intern, Label}
use Rattle.mps_event.specs.Event.{event_of}
use Rattle.mps_event.specs.Grammar.{IsRecord}
use Rattle.mps_event.specs.Kinds.{is_among}
use Rattle.mps_log_reader.specs.Opening.{first_line}
use Rattle.mps_log_reader.specs.RecordLine.{record_line}
use Rattle.mps_cnv.specs.Portable.{is_wanted, line_of_kinds, portable}

-- all kinds: the sum of their bits
abbrev pub all : ℕ
all = 127

all_have_it : (event : Event) → is_among all event ≡ true
all_have_it ArenaCreate = refl
all_have_it LimitSet = refl
all_have_it PoolCreate = refl
all_have_it Flip = refl
all_have_it End = refl
all_have_it SegAlloc = refl
all_have_it SegFree = refl
all_have_it Splat = refl
all_have_it Commit = refl
all_have_it Alloc = refl
all_have_it Move = refl
all_have_it Stay = refl
all_have_it Post = refl
all_have_it Free = refl
all_have_it Intern = refl
all_have_it Label = refl

line_of_event : (o : Option Event) (r : Record) (F : Event → Type 0) → MatchOption o ⊥ F
    → (if is_wanted all o then record_line r else []) ≡ record_line r
line_of_event None r F h = absurd h
line_of_event (Some event) r F h = ap (λ wanted. if wanted then record_line r else []) (all_have_it event)

lines_of_all : (version : Version) (records : List Record) → AllByRecursion (IsRecord version) records
    → flat_map (line_of_kinds version all) records ≡ flat_map record_line records
lines_of_all version [] h = refl
lines_of_all version (r ∷ rs) h =
    ap (λ line. line ++ flat_map (line_of_kinds version all) rs) (line_of_event (event_of version r.code) r _ h.0.fields)
    ∙ ap (λ lines. record_line r ++ lines) (lines_of_all version rs h.1)

pub text_of_all : (version : Version) (records : List Record) → All (IsRecord version) records
    → portable version all records ≡ first_line version ++ flat_map record_line records
text_of_all version records h =
    ap (λ lines. first_line version ++ lines) (lines_of_all version records (recursion_from_All (IsRecord version) records h))
