-- What names stand for, once a name is made or dropped.
use Rattle.std.proofs.Common.{◌≡◌, ℕ, Bool, true, false, true≢false, refl, sym, ◌∙◌, ap, List, [], ◌∷◌, None, Some, Option}
use Rattle.std.specs.Prelude.{if◌then◌else◌}
use Rattle.std.proofs.lemmas.Slice.Eq.{bytes_eq-Decides}
use Rattle.mps_base.specs.declared.names.Name.{Name}
use Rattle.mps_base.specs.Name.{same_name}
use Rattle.mps_model.specs.Graph.{NamedThing, Thing, thing_in, with_last, without_name}

abbrev name_with : List ℕ → Name
name_with bytes = record { bytes = bytes }

-- names that are the same are equal
pub same_name_equal : (these those : Name) → same_name these those ≡ true → these ≡ those
same_name_equal these those e =
    ap name_with ((bytes_eq-Decides these.bytes those.bytes).0 e)

pub same_name_itself : (name : Name) → same_name name name ≡ true
same_name_itself name =
    (bytes_eq-Decides name.bytes name.bytes).1 refl

-- each name is taken once
abbrev pub AreTakenOnce : List NamedThing → Type 0
AreTakenOnce [] = Unit {0}
AreTakenOnce (n ∷ ns) = (thing_in ns n.name ≡ None) × AreTakenOnce ns

-- ---- a name is made

-- an earlier entry with another name doesn't change what is found
other_first : (m : NamedThing) (name n : Name) (thing : Thing) (rest : Option Thing) (here : Bool) → same_name m.name n ≡ here
    → same_name m.name name ≡ false
    → (if here then Some m.thing else (if same_name name n then Some thing else rest))
    ≡ (if same_name name n then Some thing else (if here then Some m.thing else rest))
other_first m name n thing rest false e differs = refl
other_first m name n thing rest true e differs = by_name (same_name name n) refl
  where
    by_name : (b : Bool) → same_name name n ≡ b → Some m.thing ≡ (if b then Some thing else Some m.thing)
    by_name false same = refl
    by_name true same =
        absurd (true≢false (sym e ∙ ap (same_name m.name) (sym (same_name_equal name n same)) ∙ differs))

first_differs : (m : NamedThing) (name : Name) (rest : Option Thing) (there : Bool) → same_name m.name name ≡ there
    → (if there then Some m.thing else rest) ≡ None → (same_name m.name name ≡ false) × (rest ≡ None)
first_differs m name rest true e free = absurd cc
first_differs m name rest false e free = (e, free)

-- a free name stands for the thing, and every other name for what it stood for
pub name_made : (ns : List NamedThing) (name : Name) (thing : Thing) (n : Name) → thing_in ns name ≡ None
    → thing_in (with_last ns (record { name = name; thing = thing })) n ≡ (if same_name name n then Some thing else thing_in ns n)
name_made [] name thing n free = refl
name_made (m ∷ ms) name thing n free =
    let first = first_differs m name (thing_in ms name) (same_name m.name name) refl free in
    ap (λ found. if same_name m.name n then Some m.thing else found) (name_made ms name thing n first.1)
    ∙ other_first m name n thing (thing_in ms n) (same_name m.name n) refl first.0

-- ---- a name is dropped

-- the name is free then, and every other name stands for what it stood for
pub name_dropped : (ns : List NamedThing) (name n : Name) → AreTakenOnce ns
    → thing_in (without_name ns name) n ≡ (if same_name name n then None else thing_in ns n)
name_dropped [] name n once = by_name (same_name name n)
  where
    by_name : (b : Bool) → thing_in [] n ≡ (if b then None else thing_in [] n)
    by_name true = refl
    by_name false = refl
name_dropped (m ∷ ms) name n once = by_first (same_name m.name name) refl (name_dropped ms name n once.1)
  where
    found_here : (b : Bool) → same_name name n ≡ b → m.name ≡ name
        → thing_in ms n ≡ (if b then None else (if same_name m.name n then Some m.thing else thing_in ms n))
    found_here true same equal = ap (thing_in ms) (sym (equal ∙ same_name_equal name n same)) ∙ once.0
    found_here false other equal =
        ap (λ (b : Bool). if b then Some m.thing else thing_in ms n) (sym (ap (λ (x : Name). same_name x n) equal ∙ other))

    found_later : (b here : Bool) → same_name name n ≡ b → same_name m.name n ≡ here → same_name m.name name ≡ false
        → (if here then Some m.thing else (if b then None else thing_in ms n)) ≡
        (if b then None else (if here then Some m.thing else thing_in ms n))
    found_later b false same e differs = refl
    found_later false true same e differs = refl
    found_later true true same e differs =
        absurd (true≢false (sym e ∙ ap (same_name m.name) (sym (same_name_equal name n same)) ∙ differs))

    by_first : (there : Bool) → same_name m.name name ≡ there
        → thing_in (without_name ms name) n ≡ (if same_name name n then None else thing_in ms n)
        → thing_in (if there then ms else m ∷ without_name ms name) n
        ≡ (if same_name name n then None else (if same_name m.name n then Some m.thing else thing_in ms n))
    by_first true e rest = found_here (same_name name n) refl (same_name_equal m.name name e)
    by_first false e rest =
        ap (λ found. if same_name m.name n then Some m.thing else found) rest
        ∙ found_later (same_name name n) (same_name m.name n) refl refl e

-- ---- each name is taken once still

other_free : (ns : List NamedThing) (name : Name) (thing : Thing) (n : Name) → thing_in ns n ≡ None → same_name name n ≡ false
    → thing_in ns name ≡ None → thing_in (with_last ns (record { name = name; thing = thing })) n ≡ None
other_free ns name thing n is_free differs free =
    name_made ns name thing n free ∙ ap (λ (b : Bool). if b then Some thing else thing_in ns n) differs ∙ is_free

swapped : (these those : Name) → same_name these those ≡ false → same_name those these ≡ false
swapped these those differs = by_name (same_name those these) refl
  where
    by_name : (b : Bool) → same_name those these ≡ b → same_name those these ≡ false
    by_name false e = e
    by_name true e =
        absurd (true≢false (sym (same_name_itself those) ∙ ap (λ (x : Name). same_name x those) (same_name_equal those these e) ∙ differs))

pub made_once : (ns : List NamedThing) (name : Name) (thing : Thing) → thing_in ns name ≡ None → AreTakenOnce ns
    → AreTakenOnce (with_last ns (record { name = name; thing = thing }))
made_once [] name thing free once = (refl, tt)
made_once (m ∷ ms) name thing free once =
    let first = first_differs m name (thing_in ms name) (same_name m.name name) refl free in
    (other_free ms name thing m.name once.0 (swapped m.name name first.0) first.1, made_once ms name thing first.1 once.1)

pub dropped_once : (ns : List NamedThing) (name : Name) → AreTakenOnce ns → AreTakenOnce (without_name ns name)
dropped_once [] name once = tt
dropped_once (m ∷ ms) name once = by_first (same_name m.name name) (dropped_once ms name once.1)
  where
    still_free : (b : Bool) → (if b then None else thing_in ms m.name) ≡ None
    still_free true = refl
    still_free false = once.0

    by_first : (there : Bool) → AreTakenOnce (without_name ms name) → AreTakenOnce (if there then ms else m ∷ without_name ms name)
    by_first true rest = once.1
    by_first false rest = (name_dropped ms name m.name once.1 ∙ still_free (same_name name m.name), rest)
