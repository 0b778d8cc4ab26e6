-- A key is taken back: what is noted afterwards.
use Rattle.std.proofs.Common.{◌≡◌, ◌≢◌, ◌∙◌, ℕ, zero, suc, Bool, true, false, true≢false, List, [], ◌∷◌, Option, Some, None, get_or, refl, sym, ap}
use Rattle.std.proofs.lemmas.Bool.{eq-eqb, eqb-true}
use Rattle.std.proofs.lemmas.List.{get_or-set_other}
use Rattle.std.proofs.lemmas.Option.{none-some}
use Rattle.std.specs.Prelude.{nat_eq, if◌then◌else◌, option_and_then, slice_set}
use Rattle.mps_base.specs.declared.names.Name.{Name}
use Rattle.mps_base.specs.Name.{same_name}
use Rattle.mps_keys.specs.Keys.{GivenState, is_of, name_of_stamp, stamp_at, unless_named, without_name, without_stamp}
use Rattle.mps_keys.specs.declared.given.Stamp.{Stamp}

cleared : (stamps : List (Option Stamp)) (n : ℕ) → get_or (slice_set stamps n None) n None ≡ None
cleared [] n = refl
cleared (x ∷ xs) zero = refl
cleared (x ∷ xs) (suc n) = cleared xs n

-- a stamp that is left was there before, at another place
left_at : (g : GivenState) (place other : ℕ) (s : Stamp) → stamp_at (without_stamp g place) other ≡ Some s
    → (stamp_at g other ≡ Some s) × (other ≢ place)
left_at g place other s is = by (nat_eq other place) refl
  where
    by : (b : Bool) → nat_eq other place ≡ b → (stamp_at g other ≡ Some s) × (other ≢ place)
    by true e =
        let none = ap (λ (n : ℕ). get_or (slice_set g.stamps place None) n None) (eqb-true other place e) ∙ cleared g.stamps place in
        absurd (none-some s (sym none ∙ is))
    by false e =
        let differs : other ≢ place = λ same_place. true≢false (sym (eq-eqb other place same_place) ∙ e) in
        (sym (get_or-set_other g.stamps place other None None differs) ∙ is, differs)

-- a stamp that is left where the key of a name was taken back was there before, and at that place it has another name
pub left_unnamed : (g : GivenState) (place : ℕ) (name : Name) (other : ℕ) (s : Stamp)
    → stamp_at (without_name g place name) other ≡ Some s
    → (stamp_at g other ≡ Some s) × (other ≡ place → same_name name s.name ≡ false)
left_unnamed g place name other s is = by (is_of name (stamp_at g place)) refl
  where
    by : (b : Bool) → is_of name (stamp_at g place) ≡ b
        → (stamp_at g other ≡ Some s) × (other ≡ place → same_name name s.name ≡ false)
    by true e =
        let left = left_at g place other s (sym (ap (λ (b : Bool). stamp_at (if b then without_stamp g place else g) other) e) ∙ is) in
        (left.0, λ same_place. absurd (left.1 same_place))
    by false e =
        let there = sym (ap (λ (b : Bool). stamp_at (if b then without_stamp g place else g) other) e) ∙ is in
        (there, λ same_place. ap (is_of name) (sym there ∙ ap (stamp_at g) same_place) ∙ e)

-- at another place nothing changes
pub elsewhere : (g : GivenState) (place : ℕ) (name : Name) (other : ℕ) → other ≢ place
    → stamp_at (without_name g place name) other ≡ stamp_at g other
elsewhere g place name other differs = by (is_of name (stamp_at g place)) refl
  where
    by : (b : Bool) → is_of name (stamp_at g place) ≡ b → stamp_at (without_name g place name) other ≡ stamp_at g other
    by true e =
        ap (λ (b : Bool). stamp_at (if b then without_stamp g place else g) other) e
        ∙ get_or-set_other g.stamps place other None None differs
    by false e = ap (λ (b : Bool). stamp_at (if b then without_stamp g place else g) other) e

-- what is noted, if it isn't of this name
abbrev pub unless_of : Name → Option Stamp → Option Stamp
unless_of name (Some s) = if same_name name s.name then None else Some s
unless_of name None = None

-- at that place it goes if it is of this name
pub here : (g : GivenState) (place : ℕ) (name : Name) → stamp_at (without_name g place name) place ≡ unless_of name (stamp_at g place)
here g place name = by (stamp_at g place) refl
  where
    named : (s : Stamp) → stamp_at g place ≡ Some s → (b : Bool) → same_name name s.name ≡ b
        → stamp_at (without_name g place name) place ≡ unless_of name (stamp_at g place)
    named s is true e =
        ap (λ (b : Bool). stamp_at (if b then without_stamp g place else g) place) (ap (is_of name) is ∙ e)
        ∙ cleared g.stamps place ∙ sym (ap (unless_of name) is ∙ ap (λ (b : Bool). if b then None else Some s) e)
    named s is false e =
        ap (λ (b : Bool). stamp_at (if b then without_stamp g place else g) place) (ap (is_of name) is ∙ e)
        ∙ is ∙ sym (ap (unless_of name) is ∙ ap (λ (b : Bool). if b then None else Some s) e)

    by : (found : Option Stamp) → stamp_at g place ≡ found
        → stamp_at (without_name g place name) place ≡ unless_of name (stamp_at g place)
    by None is =
        ap (λ (b : Bool). stamp_at (if b then without_stamp g place else g) place) (ap (is_of name) is)
        ∙ is ∙ sym (ap (unless_of name) is)
    by (Some s) is = named s is (same_name name s.name) refl

-- so the name of each key at a place goes if it is this
pub unless_by : (name : Name) (count : ℕ) (found : Option Stamp)
    → option_and_then (name_of_stamp count) (unless_of name found) ≡ unless_named name (option_and_then (name_of_stamp count) found)
unless_by name count None = refl
unless_by name count (Some s) = by (same_name name s.name) refl (nat_eq s.count count) refl
  where
    by : (same : Bool) → same_name name s.name ≡ same → (counted : Bool) → nat_eq s.count count ≡ counted
        → option_and_then (name_of_stamp count) (unless_of name (Some s))
        ≡ unless_named name (option_and_then (name_of_stamp count) (Some s))
    by true same true counted = simp (same, counted) refl
    by true same false counted = simp (same, counted) refl
    by false same true counted = simp (same, counted) refl
    by false same false counted = simp (same, counted) refl

-- a count stays where a key goes
pub as_many : (g : GivenState) (place : ℕ) (name : Name) → (without_name g place name).count ≡ g.count
as_many g place name = by (is_of name (stamp_at g place))
  where
    by : (b : Bool) → (if b then without_stamp g place else g).count ≡ g.count
    by true = refl
    by false = refl
