-- Paths in whole collections: what is kept is reached, and once drained what is reached is kept.
use Rattle.std.proofs.Common.{◌≡◌, ◌∙◌, ◌⊎◌, true, false, refl, sym, ap, List, [], ◌∷◌, ◌++◌, Option, Some, None, subst, inl, inr}
use Rattle.std.proofs.lemmas.Bool.{false≢true, cases_Bool}
use Rattle.std.specs.Prelude.{if◌then◌else◌}
use Rattle.std.specs.Option.{option_map_or}
use Rattle.mps_base.specs.Address.{Id}
use Rattle.mps_base.specs.declared.moves.Move.{Move}
use Rattle.mps_model.specs.Graph.{Object, contains, targets, targets_of, strong_targets, strong_targets_of, is_weak_object, object_at, ids_of_client}
use Rattle.mps_model.specs.Reachable.{begins, goes_on}
use Rattle.mps_model.specs.Collection.{Collection, is_condemned}
use Rattle.mps_model.specs.World.{World, is_live, object_is, ids_of_area_words}
use Rattle.mps_model.specs.Posts.{IsWidelyReachableWith}
use Rattle.mps_abstract.specs.Colours.{is_grey}
use Rattle.mps_abstract.specs.Collecting.{Collecting, Running, IsDrainedIn, is_white_in, is_tracing_band}
use Rattle.mps_abstract.specs.Fixing.{Keeps, marks, moves_to_place, moves_to_segment, stays, Fixes, fixes_no_more, passes, keeps}
use Rattle.mps_abstract.specs.WholeLaws.{roots_of, IsAlike, AreReached, AreRootsKept, AreLedToKept}
use Rattle.mps_abstract.proofs.Lists.{contains_here, contains_later, contains_cases, contains_append, contains_left, contains_right}
use Rattle.mps_abstract.proofs.Posting.{leads_more}
use Rattle.mps_abstract.proofs.Reach.{strong_is_target, not_grey}
use Rattle.mps_abstract.proofs.Keeping.{kept_if_not_white}

-- ---- more roots, more paths

pub roots_more : (flipped : World) (posted more : List Id) → ((id : Id) → contains posted id ≡ true → contains more id ≡ true) → (id : Id)
    → contains (roots_of flipped posted) id ≡ true → contains (roots_of flipped more) id ≡ true
roots_more flipped posted more sub id h = elim (contains_append (ids_of_client flipped.graph) (ids_of_area_words flipped ++ posted) id h) [
  | inl e ↦ contains_left (ids_of_client flipped.graph) (ids_of_area_words flipped ++ more) id e
  | inr e ↦ contains_right (ids_of_client flipped.graph) (ids_of_area_words flipped ++ more) id
      (elim (contains_append (ids_of_area_words flipped) posted id e) [
        | inl f ↦ contains_left (ids_of_area_words flipped) more id f
        | inr f ↦ contains_right (ids_of_area_words flipped) more id (sub id f)
      ])
]

pub reached_more : (flipped : World) (posted more : List Id) → ((id : Id) → contains posted id ≡ true → contains more id ≡ true) → {id : Id}
    → IsWidelyReachableWith flipped posted id → IsWidelyReachableWith flipped more id
reached_more flipped posted more sub path =
    leads_more (strong_targets flipped.graph) (roots_of flipped posted) (roots_of flipped more) (roots_more flipped posted more sub) path

-- the roots with one object more
pub root_cases : (flipped : World) (posted : List Id) (p id : Id) → contains (roots_of flipped (p ∷ posted)) id ≡ true
    → (p ≡ id) ⊎ (contains (roots_of flipped posted) id ≡ true)
root_cases flipped posted p id h = elim (contains_append (ids_of_client flipped.graph) (ids_of_area_words flipped ++ (p ∷ posted)) id h) [
  | inl e ↦ inr (contains_left (ids_of_client flipped.graph) (ids_of_area_words flipped ++ posted) id e)
  | inr e ↦ elim (contains_append (ids_of_area_words flipped) (p ∷ posted) id e) [
    | inl f ↦ inr (contains_right (ids_of_client flipped.graph) (ids_of_area_words flipped ++ posted) id
        (contains_left (ids_of_area_words flipped) posted id f))
    | inr f ↦ elim (contains_cases p posted id f) [
      | inl same ↦ inl same
      | inr g ↦ inr (contains_right (ids_of_client flipped.graph) (ids_of_area_words flipped ++ posted) id
          (contains_right (ids_of_area_words flipped) posted id g))
    ]
  ]
]

-- ---- what fixing keeps

-- what was kept before, or is among those that were fixed
pub fixed_kept : {x y : Collecting} {ids : List Id} {ms : List Move} → Fixes x ids ms y → (n : Id) → contains y.colours.kept n ≡ true
    → (contains x.colours.kept n ≡ true) ⊎ (contains ids n ≡ true)
fixed_kept fixes_no_more n h = inl h
fixed_kept (passes {id = id} {ids = ids} black rest) n
    h = elim (fixed_kept rest n h) [ inl old ↦ inl old | inr later ↦ inr (contains_later id ids n later) ]
fixed_kept (keeps {x = x} {id = id} {ids = ids} white keep rest) n h = elim (fixed_kept rest n h) [
  | inl now ↦ elim (contains_cases id x.colours.kept n now) [
    | inl same ↦ inr (subst (λ m. contains (id ∷ ids) m ≡ true) same (contains_here id ids))
    | inr old ↦ inl old
  ]
  | inr later ↦ inr (contains_later id ids n later)
]

-- what is grey is kept, where it was
pub fixed_grey : {x y : Collecting} {ids : List Id} {ms : List Move} → Fixes x ids ms y
    → ((n : Id) → is_grey x.colours n ≡ true → contains x.colours.kept n ≡ true) → (n : Id) → is_grey y.colours n ≡ true
    → contains y.colours.kept n ≡ true
fixed_grey fixes_no_more all n h = all n h
fixed_grey (passes black rest) all n h = fixed_grey rest all n h
fixed_grey (keeps {x = x} {id = id} white keep rest) all n h =
    fixed_grey rest (λ m g. elim (contains_cases id x.colours.grey m g) [
      | inl same ↦ subst (λ k. contains (id ∷ x.colours.kept) k ≡ true) same (contains_here id x.colours.kept)
      | inr old ↦ contains_later id x.colours.kept m (all m old)
    ]) n h

-- the collection is the same but for what has its place
pub record IsSameButPlaced (c d : Collection) : Type 0 where
  pub condemned : d.condemned ≡ c.condemned
  pub registered_before : d.registered_before ≡ c.registered_before

pub keep_same : {w : World} {c d : Collection} {id : Id} {ms : List Move} → Keeps w c id ms d → IsSameButPlaced c d
keep_same (marks other) = record { condemned = refl; registered_before = refl }
keep_same (moves_to_place copying placed free) = record { condemned = refl; registered_before = refl }
keep_same (moves_to_segment copying placed unused) = record { condemned = refl; registered_before = refl }
keep_same (stays copying room) = record { condemned = refl; registered_before = refl }

pub fixed_same : {x y : Collecting} {ids : List Id} {ms : List Move} → Fixes x ids ms y → IsSameButPlaced x.running y.running
fixed_same fixes_no_more = record { condemned = refl; registered_before = refl }
fixed_same (passes black rest) = fixed_same rest
fixed_same (keeps white keep rest) =
    let first = keep_same keep in
    let later = fixed_same rest in
    record { condemned = later.condemned ∙ first.condemned; registered_before = later.registered_before ∙ first.registered_before }

-- ---- references

strong_here : (o : Option Object) → option_map_or is_weak_object o false ≡ false
    → option_map_or targets_of o [] ≡ option_map_or strong_targets_of o []
strong_here None e = refl
strong_here (Some o) e = ap (λ b. if b then [] else targets_of o) (sym e)

-- what a grey object that isn't weak refers to is reached
pub target_reached : (flipped : World) (posted : List Id) (x : Collecting) (id : Id) → IsAlike flipped.graph x.world.graph
    → AreReached flipped posted x.colours → is_grey x.colours id ≡ true → object_is is_weak_object x.world id ≡ false → (t : Id)
    → contains (targets x.world.graph id) t ≡ true → IsWidelyReachableWith flipped posted t
target_reached flipped posted x id alike r grey strong t h =
    goes_on (r.kept id (r.grey id grey)) (subst (λ (ids : List Id). contains ids t ≡ true)
    (strong_here (object_at x.world.graph id) strong ∙ alike id) h)

-- ---- once drained

-- what a kept object referred to strongly at the flip is kept
pub led_to_kept : (flipped : World) (x : Collecting) → Running x
    → (is_tracing_band x.band ≡ true → IsAlike flipped.graph x.world.graph)
    → (is_tracing_band x.band ≡ false → AreLedToKept flipped.graph x) → IsDrainedIn x → AreLedToKept flipped.graph x
led_to_kept flipped x run alike led drained from to live black h = elim (cases_Bool (is_tracing_band x.band)) [
  | inl tracing ↦
      let strong = strong_is_target x.world.graph from to
      (subst (λ (ids : List Id). contains ids to ≡ true) (sym (alike tracing from)) h) in (
        run.coloured.referred_live from to live black strong.0,
        run.coloured.referred from to live black (not_grey (object_is is_weak_object x.world) x.colours from drained strong.1) strong.0,
      )
  | inr later ↦ led later from to live black h
]

module _ (flipped : World) (posted : List Id) (x : Collecting) (kept : AreLedToKept flipped.graph x)
    (roots : AreRootsKept flipped posted x) where
  pub reached_is_kept : {id : Id} → IsWidelyReachableWith flipped posted id → (is_live x.world id ≡ true) × (is_white_in x id ≡ false)
  reached_is_kept (begins {id} h) = (roots.live id h, roots.kept id h)
  reached_is_kept (goes_on {from} {to} path h) =
      let before = reached_is_kept path in kept from to before.0 before.1 h

  -- a white object isn't reached
  pub white_unreached : (id : Id) → is_white_in x id ≡ true → ¬ IsWidelyReachableWith flipped posted id
  white_unreached id white path = false≢true (sym (reached_is_kept path).1 ∙ white)

-- a condemned object that isn't white is reached
pub kept_reached : (flipped : World) (posted : List Id) (x : Collecting) (id : Id) → AreReached flipped posted x.colours
    → is_condemned x.running id ≡ true → is_white_in x id ≡ false → IsWidelyReachableWith flipped posted id
kept_reached flipped posted x id r is black = r.kept id (kept_if_not_white x.running.condemned x.colours id is black)
