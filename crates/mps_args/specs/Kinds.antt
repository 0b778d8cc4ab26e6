-- Words that name kinds of events: one name or more, with commas between them. A set of kinds is a number with a bit for
-- each of its kinds.
use Rattle.std.specs.Prelude.{◌≡◌, ℕ, ◌==◌, codes, if◌then◌else◌, Option, Some, None, option_and_then, option_map, List, [], ◌∷◌, refl}
use Rattle.std.specs.Int.RustNames.{bit_or}
use Rattle.std.specs.Str.{bytes_eq}
use Rattle.std.specs.List.{slice_split}

-- the kind of a name
abbrev pub kind_named : List ℕ → Option ℕ
kind_named name =
    if bytes_eq name (codes "arena") then Some 1
    else (if bytes_eq name (codes "pool") then Some 2
    else (if bytes_eq name (codes "trace") then Some 4
    else (if bytes_eq name (codes "seg") then Some 8
    else (if bytes_eq name (codes "ref") then Some 16
    else (if bytes_eq name (codes "object") then Some 32
    else (if bytes_eq name (codes "user") then Some 64
    else None))))))

-- the kinds of all of the names, if each is the name of a kind
abbrev pub all_named : List (List ℕ) → Option ℕ
all_named [] = Some 0
all_named (name ∷ names) = option_and_then (λ kind. option_map (bit_or kind) (all_named names)) (kind_named name)

-- the kinds that a word names
abbrev pub kinds_named : List ℕ → Option ℕ
kinds_named word = all_named (slice_split (λ b. b == 44) word)

-- the seven kinds
abbrev pub all_kinds : ℕ
all_kinds = 127

pub all_have_names : kinds_named (codes "arena,pool,trace,seg,ref,object,user") ≡ Some all_kinds
all_have_names = refl

pub one_name : kinds_named (codes "seg") ≡ Some 8
one_name = refl

pub repeats_say_nothing_new : kinds_named (codes "seg,arena,seg") ≡ Some 9
repeats_say_nothing_new = refl

pub no_empty_word : kinds_named [] ≡ None
no_empty_word = refl

pub no_empty_name_between : kinds_named (codes "seg,,ref") ≡ None
no_empty_name_between = refl

pub no_comma_at_the_end : kinds_named (codes "seg,") ≡ None
no_comma_at_the_end = refl

pub no_blank : kinds_named (codes "seg, ref") ≡ None
no_blank = refl

pub no_upper_case : kinds_named (codes "Seg") ≡ None
no_upper_case = refl
