-- What holds of the graph of every world that a legal history reaches: objects and reservations have the cells that their heads
-- say, and whatever holds ids holds those of objects of the right kind. By parts, each of which is passed on where it isn't touched.
use Rattle.std.proofs.Common.{◌≡◌, ◌∙◌, ◌⊎◌, ℕ, zero, suc, ◌*◌, Bool, true, false, refl, sym, ap, List, [], ◌∷◌, ◌++◌, Option, Some, None, subst, inl, inr}
use Rattle.std.proofs.lemmas.Bool.{false≢true, and_parts, and_from, or_cases, eqb-true}
use Rattle.std.proofs.lemmas.Option.{none-some, same_Some, slice_get-map}
use Rattle.std.specs.Prelude.{map, slice_get, slice_set, not, ◌&&◌, ◌||◌, ◌==◌, nat_lt, if◌then◌else◌, is_some, option_map, replicate}
use Rattle.std.specs.Option.{option_map_or}
use Rattle.std.specs.List.{list_all, flat_map}
use Rattle.mps_model.specs.Allocating.{takes_head}
use Rattle.mps_model.specs.Graph.{Graph, Object, Body, Automatic, Manual, Cell, HeadCell, NumberCell, ReferenceCell, Point, Reservation, AreaWord, PlainWord, Hold, contains, entries, entry_at, object_at, size_of, is_automatic, target_of_cell, targets_of_cells, slots_of, ids_in_slots, ids_in_blocks, ids_in_places, ids_in_caches, with_last, without_first, retargeted, tagged, with_tag_cell, with_target_cell}
use Rattle.mps_model.specs.World.{World, Pool, object_is, is_live, words_of, is_copying_object, is_copying_pool, pool_at, is_automatic_kind, is_weak_kind}
use Rattle.mps_model.specs.Making.{is_weak_rank}
use Rattle.mps_model.specs.WellFormed.{is_shaped, are_shaped, are_right_cells, is_right_body, is_right_object, is_live_automatic}
use Rattle.mps_laws.proofs.Positions.LaidOut.{kind_in}

-- ---- lists

abbrev pub All : (ℕ → Bool) → List ℕ → Type 0
All test ids = list_all test ids ≡ true

abbrev pub PassesOrNull : (ℕ → Bool) → Option ℕ → Type 0
PassesOrNull test None = Unit {0}
PassesOrNull test (Some id) = test id ≡ true

pub all-both : (p q : ℕ → Bool) (ids : List ℕ) → All p ids → All q ids → All (λ id. p id && q id) ids
all-both p q [] h k = refl
all-both p q (x ∷ xs) h k =
    let a = and_parts (p x) (list_all p xs) h in
    let b = and_parts (q x) (list_all q xs) k in
    and_from (p x && q x) (list_all (λ id. p id && q id) xs) (and_from (p x) (q x) a.0 b.0) (all-both p q xs a.1 b.1)

pub all-weaker : (test less : ℕ → Bool) → ((id : ℕ) → test id ≡ true → less id ≡ true) → (ids : List ℕ) → All test ids → All less ids
all-weaker test less implies [] h = refl
all-weaker test less implies (id ∷ ids) h =
    let parts = and_parts (test id) (list_all test ids) h in
    and_from (less id) (list_all less ids) (implies id parts.0) (all-weaker test less implies ids parts.1)

module _ (test : ℕ → Bool) where
  pub all-append : (xs ys : List ℕ) → All test xs → All test ys → All test (xs ++ ys)
  all-append [] ys h k = k
  all-append (x ∷ xs) ys h k =
      let parts = and_parts (test x) (list_all test xs) h in
      and_from (test x) (list_all test (xs ++ ys)) parts.0 (all-append xs ys parts.1 k)

  pub all-parts : (xs ys : List ℕ) → All test (xs ++ ys) → All test xs × All test ys
  all-parts [] ys h = (refl, h)
  all-parts (x ∷ xs) ys h =
      let parts = and_parts (test x) (list_all test (xs ++ ys)) h in
      let rest = all-parts xs ys parts.1 in
      (and_from (test x) (list_all test xs) parts.0 rest.0, rest.1)

  pub all-written : {X : Type 0} (ids : X → List ℕ) (xs : List X) (n : ℕ) (x : X) → All test (flat_map ids xs) → All test (ids x)
      → All test (flat_map ids (slice_set xs n x))
  all-written ids [] n x h k = refl
  all-written ids (y ∷ ys) zero x h k = all-append (ids x) (flat_map ids ys) k (all-parts (ids y) (flat_map ids ys) h).1
  all-written ids (y ∷ ys) (suc n) x h k =
      let parts = all-parts (ids y) (flat_map ids ys) h in
      all-append (ids y) (flat_map ids (slice_set ys n x)) parts.0 (all-written ids ys n x parts.1 k)

  pub all-last : {X : Type 0} (ids : X → List ℕ) (xs : List X) (x : X) → All test (flat_map ids xs) → All test (ids x)
      → All test (flat_map ids (with_last xs x))
  all-last ids [] x h k = all-append (ids x) [] k refl
  all-last ids (y ∷ ys) x h k =
      let parts = all-parts (ids y) (flat_map ids ys) h in
      all-append (ids y) (flat_map ids (with_last ys x)) parts.0 (all-last ids ys x parts.1 k)

  pub all-at : {X : Type 0} (ids : X → List ℕ) (xs : List X) (n : ℕ) (x : X) → All test (flat_map ids xs) → slice_get xs n ≡ Some x
      → All test (ids x)
  all-at ids [] n x h there = absurd (none-some x there)
  all-at ids (y ∷ ys) zero x h there = subst (λ z. All test (ids z)) (same_Some y x there) (all-parts (ids y) (flat_map ids ys) h).0
  all-at ids (y ∷ ys) (suc n) x h there = all-at ids ys n x (all-parts (ids y) (flat_map ids ys) h).1 there

  -- an entry is written
  pub entries-written : (xs : List (Option ℕ)) (n : ℕ) (x : Option ℕ) → All test (entries xs) → PassesOrNull test x
      → All test (entries (slice_set xs n x))
  entries-written [] n x h k = refl
  entries-written (None ∷ ys) zero None h k = h
  entries-written (None ∷ ys) zero (Some id) h k = and_from (test id) (list_all test (entries ys)) k h
  entries-written (Some y ∷ ys) zero None h k = (and_parts (test y) (list_all test (entries ys)) h).1
  entries-written (Some y ∷ ys) zero (Some id) h k =
      and_from (test id) (list_all test (entries ys)) k (and_parts (test y) (list_all test (entries ys)) h).1
  entries-written (None ∷ ys) (suc n) x h k = entries-written ys n x h k
  entries-written (Some y ∷ ys) (suc n) x h k =
      let parts = and_parts (test y) (list_all test (entries ys)) h in
      and_from (test y) (list_all test (entries (slice_set ys n x))) parts.0 (entries-written ys n x parts.1 k)

  pub entry-passes : (xs : List (Option ℕ)) (n : ℕ) (x : Option ℕ) → All test (entries xs) → slice_get xs n ≡ Some x → PassesOrNull test x
  entry-passes [] n x h e = absurd (none-some x e)
  entry-passes (None ∷ ys) zero x h e = subst (PassesOrNull test) (same_Some None x e) tt
  entry-passes (Some y ∷ ys) zero x h e =
      subst (PassesOrNull test) (same_Some (Some y) x e) (and_parts (test y) (list_all test (entries ys)) h).0
  entry-passes (None ∷ ys) (suc n) x h e = entry-passes ys n x h e
  entry-passes (Some y ∷ ys) (suc n) x h e = entry-passes ys n x (and_parts (test y) (list_all test (entries ys)) h).1 e

  pub entries-none : (n : ℕ) → All test (entries (replicate n None))
  entries-none zero = refl
  entries-none (suc n) = entries-none n

  pub all-contains : (ids : List ℕ) (id : ℕ) → All test ids → contains ids id ≡ true → test id ≡ true
  all-contains [] id h c = absurd (false≢true c)
  all-contains (x ∷ xs) id h c =
      let parts = and_parts (test x) (list_all test xs) h in
      elim (or_cases (x == id) (contains xs id) c) [
        | inl e ↦ subst (λ (n : ℕ). test n ≡ true) (eqb-true x id e) parts.0
        | inr later ↦ all-contains xs id parts.1 later
      ]

  pub all-without : (ids : List ℕ) (id : ℕ) → All test ids → All test (without_first ids id)
  all-without [] id h = refl
  all-without (x ∷ xs) id h =
      let parts = and_parts (test x) (list_all test xs) h in
      elim (x == id) as (λ b. All test (if b then xs else x ∷ without_first xs id)) [
        | true ↦ parts.1
        | false ↦ and_from (test x) (list_all test (without_first xs id)) parts.0 (all-without xs id parts.1)
      ]

  pub all-ended : (ids : List ℕ) (id : ℕ) → All test ids → test id ≡ true → All test (with_last ids id)
  all-ended ids id h k = all-append ids (id ∷ []) h (and_from (test id) true k refl)

-- a test of each word of a list, after one was written
module _ {X : Type 0} (test : X → Bool) where
  pub each-written : (xs : List X) (n : ℕ) (x : X) → list_all test xs ≡ true → test x ≡ true → list_all test (slice_set xs n x) ≡ true
  each-written [] n x h k = refl
  each-written (y ∷ ys) zero x h k = and_from (test x) (list_all test ys) k (and_parts (test y) (list_all test ys) h).1
  each-written (y ∷ ys) (suc n) x h k =
      let parts = and_parts (test y) (list_all test ys) h in
      and_from (test y) (list_all test (slice_set ys n x)) parts.0 (each-written ys n x parts.1 k)

  pub each-replicated : (n : ℕ) (x : X) → test x ≡ true → list_all test (replicate n x) ≡ true
  each-replicated zero x k = refl
  each-replicated (suc n) x k = and_from (test x) (list_all test (replicate n x)) k (each-replicated n x k)

  pub each-at : (xs : List X) (n : ℕ) (x : X) → list_all test xs ≡ true → slice_get xs n ≡ Some x → test x ≡ true
  each-at [] n x h e = absurd (none-some x e)
  each-at (y ∷ ys) zero x h e = subst (λ z. test z ≡ true) (same_Some y x e) (and_parts (test y) (list_all test ys) h).0
  each-at (y ∷ ys) (suc n) x h e = each-at ys n x (and_parts (test y) (list_all test ys) h).1 e

  pub each-all : (xs : List X) → ((n : ℕ) (x : X) → slice_get xs n ≡ Some x → test x ≡ true) → list_all test xs ≡ true
  each-all [] each = refl
  each-all (x ∷ xs) each =
      and_from (test x) (list_all test xs) (each zero x refl) (each-all xs (λ n y e. each (suc n) y e))

pub each-weaker : {X : Type 0} (test less : X → Bool) → ((x : X) → test x ≡ true → less x ≡ true) → (xs : List X) → list_all test xs ≡ true
    → list_all less xs ≡ true
each-weaker test less implies [] h = refl
each-weaker test less implies (x ∷ xs) h =
    let parts = and_parts (test x) (list_all test xs) h in
    and_from (less x) (list_all less xs) (implies x parts.0) (each-weaker test less implies xs parts.1)

-- ---- cells

shaped_set : (likes cells : List Cell) (k : ℕ) (c new : Cell) → slice_get cells k ≡ Some c
    → ((like : Cell) → is_shaped like c ≡ true → is_shaped like new ≡ true) → are_shaped likes cells ≡ true
    → are_shaped likes (slice_set cells k new) ≡ true
shaped_set likes [] k c new e each h = absurd (none-some c e)
shaped_set [] (x ∷ xs) k c new e each h = absurd (false≢true h)
shaped_set (l ∷ ls) (x ∷ xs) zero c new e each h =
    let parts = and_parts (is_shaped l x) (are_shaped ls xs) h in
    and_from (is_shaped l new) (are_shaped ls xs) (each l (subst (λ z. is_shaped l z ≡ true) (same_Some x c e) parts.0)) parts.1
shaped_set (l ∷ ls) (x ∷ xs) (suc k) c new e each h =
    let parts = and_parts (is_shaped l x) (are_shaped ls xs) h in
    and_from (is_shaped l x) (are_shaped ls (slice_set xs k new)) parts.0 (shaped_set ls xs k c new e each parts.1)

map-written : {X : Type 0} (f : X → Option ℕ) (xs : List X) (n : ℕ) (x : X) → map f (slice_set xs n x) ≡ slice_set (map f xs) n (f x)
map-written f [] n x = refl
map-written f (y ∷ ys) zero x = refl
map-written f (y ∷ ys) (suc n) x = ap (λ rest. f y ∷ rest) (map-written f ys n x)

targets_set : (test : ℕ → Bool) (cells : List Cell) (k : ℕ) (new : Cell) → All test (targets_of_cells cells)
    → PassesOrNull test (target_of_cell new)
    → All test (targets_of_cells (slice_set cells k new))
targets_set test cells k new h p =
    subst (λ xs. All test (entries xs)) (sym (map-written target_of_cell cells k new))
    (entries-written test (map target_of_cell cells) k (target_of_cell new) h p)

retargeted_shape : (target : Option ℕ) (c like : Cell) → is_shaped like c ≡ true → is_shaped like (retargeted c target) ≡ true
retargeted_shape target HeadCell like h = h
retargeted_shape target (NumberCell number) like h = h
retargeted_shape target (ReferenceCell old tag) HeadCell h = h
retargeted_shape target (ReferenceCell old tag) (NumberCell number) h = h
retargeted_shape target (ReferenceCell old tag) (ReferenceCell other its_tag) h = h

retargeted_target : (test : ℕ → Bool) (target : Option ℕ) (c : Cell) → PassesOrNull test target
    → PassesOrNull test (target_of_cell (retargeted c target))
retargeted_target test target HeadCell h = tt
retargeted_target test target (NumberCell number) h = tt
retargeted_target test target (ReferenceCell old tag) h = h

number_shape : (number value : ℕ) (like : Cell) → is_shaped like (NumberCell number) ≡ true → is_shaped like (NumberCell value) ≡ true
number_shape number value HeadCell h = h
number_shape number value (NumberCell other) h = h
number_shape number value (ReferenceCell old tag) h = h

tagged_shape : (tag : ℕ) → nat_lt tag 8 ≡ true → (c like : Cell) → is_shaped like c ≡ true → is_shaped like (tagged c tag) ≡ true
tagged_shape tag low HeadCell like h = h
tagged_shape tag low (NumberCell number) like h = h
tagged_shape tag low (ReferenceCell target old) HeadCell h = h
tagged_shape tag low (ReferenceCell target old) (NumberCell number) h = h
tagged_shape tag low (ReferenceCell target old) (ReferenceCell other its_tag) h = low

pub tagged_target : (c : Cell) (tag : ℕ) → target_of_cell (tagged c tag) ≡ target_of_cell c
tagged_target HeadCell tag = refl
tagged_target (NumberCell number) tag = refl
tagged_target (ReferenceCell target old) tag = refl

-- cells keep their shapes, and what they refer to passes the test
abbrev pub AreRight : (test : ℕ → Bool) → (likes cells : List Cell) → Type 0
AreRight test likes cells = (are_shaped likes cells ≡ true) × All test (targets_of_cells cells)

pub right_target_cell : (test : ℕ → Bool) (likes cells : List Cell) (k : ℕ) (target : Option ℕ) → PassesOrNull test target
    → AreRight test likes cells
    → AreRight test likes (with_target_cell cells k target)
right_target_cell test likes cells k target p h = of_cell (slice_get cells k) refl
  where
    of_cell : (o : Option Cell) → slice_get cells k ≡ o
        → AreRight test likes (option_map_or (λ cell. slice_set cells k (retargeted cell target)) o cells)
    of_cell None e = h
    of_cell (Some c) e = (
      shaped_set likes cells k c (retargeted c target) e (retargeted_shape target c) h.0,
      targets_set test cells k (retargeted c target) h.1 (retargeted_target test target c p),
    )

pub right_tag_cell : (test : ℕ → Bool) (likes cells : List Cell) (k tag : ℕ) → nat_lt tag 8 ≡ true → AreRight test likes cells
    → AreRight test likes (with_tag_cell cells k tag)
right_tag_cell test likes cells k tag low h = of_cell (slice_get cells k) refl
  where
    of_cell : (o : Option Cell) → slice_get cells k ≡ o
        → AreRight test likes (option_map_or (λ cell. slice_set cells k (tagged cell tag)) o cells)
    of_cell None e = h
    of_cell (Some c) e = (
      shaped_set likes cells k c (tagged c tag) e (tagged_shape tag low c) h.0,
      targets_set test cells k (tagged c tag) h.1 (subst (PassesOrNull test) (sym (tagged_target c tag))
          (entry-passes test (map target_of_cell cells) k (target_of_cell c) h.1 (slice_get-map target_of_cell cells k
          ∙ ap (option_map target_of_cell) e))),
    )

pub right_number_cell : (test : ℕ → Bool) (likes cells : List Cell) (k number value : ℕ) → slice_get cells k ≡ Some (NumberCell number)
    → AreRight test likes cells → AreRight test likes (slice_set cells k (NumberCell value))
right_number_cell test likes cells k number value e h = (
  shaped_set likes cells k (NumberCell number) (NumberCell value) e (number_shape number value) h.0,
  targets_set test cells k (NumberCell value) h.1 tt,
)

-- ---- worlds

abbrev pub auto : World → ℕ → Bool
auto w id = object_is is_automatic w id

abbrev pub manual : World → ℕ → Bool
manual w id = object_is (λ o. not (is_automatic o)) w id

-- whether an area word that holds an object holds an automatic one, at an offset that lies in it
abbrev pub is_sound_word : World → AreaWord → Bool
is_sound_word w (PlainWord number) = true
is_sound_word w (Hold id offset) =
    auto w id && (if is_copying_object w id then nat_lt offset (8 * words_of w id) else offset == 0)

abbrev pub is_sound_reservation : World → (pool : ℕ) → Reservation → Bool
is_sound_reservation w pool r = option_map_or (λ of. are_right_cells w of r.head r.cells) (pool_at w pool) false

-- only automatic pools have points, and only those of weak references weak ones
abbrev pub IsRightPoint : List Pool → Point → Type 0
IsRightPoint pools p =
    (kind_in is_automatic_kind pools p.pool ≡ true) × (is_weak_rank p.rank ≡ true → kind_in is_weak_kind pools p.pool ≡ true)

pub record IsSoundGraph (w : World) : Type 0 where
  pub objects : (id : ℕ) (o : Object) → object_at w.graph id ≡ Some o → is_right_object w o ≡ true
  pub reservations : (n : ℕ) (p : Point) (r : Reservation) → entry_at w.graph.points n ≡ Some p → p.reservation ≡ Some r
      → is_sound_reservation w p.pool r ≡ true
  pub points : (n : ℕ) (p : Point) → entry_at w.graph.points n ≡ Some p → IsRightPoint w.pools p
  pub slots : All (auto w) (ids_in_slots w.graph)
  pub words : (n : ℕ) (area : List AreaWord) → entry_at w.graph.areas n ≡ Some area → list_all (is_sound_word w) area ≡ true
  pub blocks : All (manual w) (ids_in_blocks w.graph)
  pub registered : All (is_live_automatic w) w.graph.registered
  pub messages : All (auto w) w.graph.messages

-- the blocks in places are manual, and so are those in caches
pub manual_parts : (w : World) → IsSoundGraph w → All (manual w) (ids_in_places w.graph) × All (manual w) (ids_in_caches w.graph)
manual_parts w s = all-parts (manual w) (ids_in_places w.graph) (ids_in_caches w.graph) s.blocks

-- objects keep their pools, sizes and kinds, and pools their meanings
pub record IsAlike (o o' : Object) : Type 0 where
  pub pool : o'.pool ≡ o.pool
  pub size : size_of o' ≡ size_of o
  pub kind : is_automatic o' ≡ is_automatic o

pub record Grows (w w' : World) : Type 0 where
  pub formats : w'.formats ≡ w.formats
  pub pools : (n : ℕ) (p : Pool) → slice_get w.pools n ≡ Some p → slice_get w'.pools n ≡ Some p
  pub objects : (id : ℕ) (o : Object) → object_at w.graph id ≡ Some o → (o' : Object) × (object_at w'.graph id ≡ Some o') × IsAlike o o'

module _ (w w' : World) (g : Grows w w') where
  -- a test of objects that looks at pool, size and kind alone
  kept_test : (test test' : Object → Bool) → ((o o' : Object) → IsAlike o o' → test o ≡ true → test' o' ≡ true) → (id : ℕ)
      → object_is test w id ≡ true
      → object_is test' w' id ≡ true
  kept_test test test' each id h = of_one (object_at w.graph id) refl h
    where
      of_one : (x : Option Object) → object_at w.graph id ≡ x → option_map_or test x false ≡ true → object_is test' w' id ≡ true
      of_one None e k = absurd (false≢true k)
      of_one (Some o) e k =
          let t = g.objects id o e in ap (λ x. option_map_or test' x false) t.1 ∙ each o t.0 t.2 k

  pub auto_kept : (id : ℕ) → auto w id ≡ true → auto w' id ≡ true
  auto_kept id h = kept_test is_automatic is_automatic (λ o o' a k. a.kind ∙ k) id h

  pub manual_kept : (id : ℕ) → manual w id ≡ true → manual w' id ≡ true
  manual_kept id h = kept_test (λ o. not (is_automatic o)) (λ o. not (is_automatic o)) (λ o o' a k. ap not a.kind ∙ k) id h

  pool_kept : (n : ℕ) (test test' : Pool → Bool) → ((p : Pool) → test p ≡ true → test' p ≡ true)
      → option_map_or test (pool_at w n) false ≡ true
      → option_map_or test' (pool_at w' n) false ≡ true
  pool_kept n test test' each h = of_one (pool_at w n) refl h
    where
      of_one : (x : Option Pool) → pool_at w n ≡ x → option_map_or test x false ≡ true → option_map_or test' (pool_at w' n) false ≡ true
      of_one None e k = absurd (false≢true k)
      of_one (Some p) e k = ap (λ x. option_map_or test' x false) (g.pools n p e) ∙ each p k

  pub right_cells_kept : (p : Pool) (head : ℕ) (cells : List Cell) → are_right_cells w p head cells ≡ true
      → are_right_cells w' p head cells ≡ true
  right_cells_kept p head cells h =
      let parts = and_parts (takes_head w p head && are_shaped
      (Rattle.mps_model.specs.Graph.new_cells (w.formats p.format) head) cells)
      (list_all (auto w) (targets_of_cells cells)) h in
      and_from (takes_head w' p head && are_shaped (Rattle.mps_model.specs.Graph.new_cells (w'.formats p.format) head) cells)
      (list_all (auto w') (targets_of_cells cells))
      (subst (λ f. (takes_head (record w { formats = f }) p head
      && are_shaped (Rattle.mps_model.specs.Graph.new_cells (f p.format) head) cells) ≡ true)
      (sym g.formats) parts.0)
      (all-weaker (auto w) (auto w') auto_kept (targets_of_cells cells) parts.1)

  right_body_kept : (p : Pool) (b : Body) → is_right_body w p b ≡ true → is_right_body w' p b ≡ true
  right_body_kept p (Manual words) h = h
  right_body_kept p (Automatic head cells is_weak) h =
      let outer = and_parts (is_automatic_kind p.kind && are_right_cells w p head cells)
      (not is_weak || Rattle.mps_model.specs.World.is_weak_kind p.kind) h in
      let inner = and_parts (is_automatic_kind p.kind) (are_right_cells w p head cells) outer.0 in
      and_from (is_automatic_kind p.kind && are_right_cells w' p head cells)
      (not is_weak || Rattle.mps_model.specs.World.is_weak_kind p.kind)
      (and_from (is_automatic_kind p.kind) (are_right_cells w' p head cells) inner.0 (right_cells_kept p head cells inner.1)) outer.1

  pub right_object_kept : (o : Object) → is_right_object w o ≡ true → is_right_object w' o ≡ true
  right_object_kept o h =
      pool_kept o.pool (λ p. is_right_body w p o.body) (λ p. is_right_body w' p o.body) (λ p k. right_body_kept p o.body k) h

  pub reservation_kept : (pool : ℕ) (r : Reservation) → is_sound_reservation w pool r ≡ true → is_sound_reservation w' pool r ≡ true
  reservation_kept pool r h =
      pool_kept pool (λ p. are_right_cells w p r.head r.cells) (λ p. are_right_cells w' p r.head r.cells)
      (λ p k. right_cells_kept p r.head r.cells k) h

  -- an object that is right has a pool, whose kind stays
  copying_kept : (o o' : Object) → IsAlike o o' → is_right_object w o ≡ true → is_copying_pool w' o'.pool ≡ is_copying_pool w o.pool
  copying_kept o o' a right = of_one (pool_at w o.pool) refl right
    where
      of_one : (x : Option Pool) → pool_at w o.pool ≡ x → option_map_or (λ p. is_right_body w p o.body) x false ≡ true
          → is_copying_pool w' o'.pool ≡ is_copying_pool w o.pool
      of_one None e k = absurd (false≢true k)
      of_one (Some p) e k =
          ap (λ x. option_map_or (λ (q : Pool). Rattle.mps_model.specs.World.is_copying_kind q.kind) x false)
          (ap (slice_get w'.pools) a.pool ∙ g.pools o.pool p e ∙ sym e)

  pub word_kept : ((id : ℕ) (o : Object) → object_at w.graph id ≡ Some o → is_right_object w o ≡ true) → (word : AreaWord)
      → is_sound_word w word ≡ true → is_sound_word w' word ≡ true
  word_kept right (PlainWord number) h = refl
  word_kept right (Hold id offset) h =
      let parts = and_parts (auto w id) (if is_copying_object w id then nat_lt offset (8 * words_of w id) else offset == 0) h in
      and_from (auto w' id) (if is_copying_object w' id then nat_lt offset (8 * words_of w' id) else offset == 0) (auto_kept id parts.0)
      (of_one (object_at w.graph id) refl parts.0 parts.1)
    where
      fits : Bool → ℕ → Bool
      fits copying words = if copying then nat_lt offset (8 * words) else offset == 0

      fits_is : (b c : Bool) (m n : ℕ) → c ≡ b → n ≡ m → (if b then nat_lt offset (8 * m) else offset == 0) ≡ true
          → (if c then nat_lt offset (8 * n) else offset == 0) ≡ true
      fits_is b c m n e f k =
          subst (λ x. (if x then nat_lt offset (8 * n) else offset == 0) ≡ true) (sym e)
          (subst (λ (x : ℕ). (if b then nat_lt offset (8 * x) else offset == 0) ≡ true) (sym f) k)

      of_one : (x : Option Object) → object_at w.graph id ≡ x → option_map_or is_automatic x false ≡ true
          → (if is_copying_object w id then nat_lt offset (8 * words_of w id) else offset == 0) ≡ true
          → (if is_copying_object w' id then nat_lt offset (8 * words_of w' id) else offset == 0) ≡ true
      of_one None e k h = absurd (false≢true k)
      of_one (Some o) e k h =
          let t = g.objects id o e in
          fits_is (is_copying_object w id) (is_copying_object w' id) (words_of w id) (words_of w' id)
          (ap (λ x. option_map_or (λ (y : Object). is_copying_pool w' y.pool) x false) t.1 ∙ copying_kept o t.0 t.2 (right id o e)
          ∙ sym (ap (λ x. option_map_or (λ (y : Object). is_copying_pool w y.pool) x false) e))
          (ap (λ x. option_map_or size_of x 0) t.1 ∙ (t.2).size ∙ sym (ap (λ x. option_map_or size_of x 0) e)) h

  -- what may have changed, by parts
  pub record IsEdited : Type 0 where
    pub live : (id : ℕ) → is_live w id ≡ true → is_live w' id ≡ true
    pub objects : (id : ℕ) (o : Object) → object_at w'.graph id ≡ Some o → (object_at w.graph id ≡ Some o) ⊎ (is_right_object w' o ≡ true)
    pub reservations : (n : ℕ) (p : Point) (r : Reservation) → entry_at w'.graph.points n ≡ Some p → p.reservation ≡ Some r
        → (is_sound_reservation w p.pool r ≡ true) ⊎ (is_sound_reservation w' p.pool r ≡ true)
    pub points : (n : ℕ) (p : Point) → entry_at w'.graph.points n ≡ Some p
        → IsRightPoint w.pools p ⊎ IsRightPoint w'.pools p
    pub slots : (w'.graph.tables ≡ w.graph.tables) ⊎ All (auto w') (ids_in_slots w'.graph)
    pub words : (w'.graph.areas ≡ w.graph.areas)
        ⊎ ((n : ℕ) (area : List AreaWord) → entry_at w'.graph.areas n ≡ Some area → list_all (is_sound_word w') area ≡ true)
    pub blocks : (ids_in_blocks w'.graph ≡ ids_in_blocks w.graph) ⊎ All (manual w') (ids_in_blocks w'.graph)
    pub registered : (w'.graph.registered ≡ w.graph.registered) ⊎ All (is_live_automatic w') w'.graph.registered
    pub messages : (w'.graph.messages ≡ w.graph.messages) ⊎ All (auto w') w'.graph.messages

  pub live_auto_kept : ((id : ℕ) → is_live w id ≡ true → is_live w' id ≡ true) → (id : ℕ) → is_live_automatic w id ≡ true
      → is_live_automatic w' id ≡ true
  live_auto_kept live id h =
      let parts = and_parts (is_live w id) (auto w id) h in
      and_from (is_live w' id) (auto w' id) (live id parts.0) (auto_kept id parts.1)

  pub edited : IsSoundGraph w → IsEdited → IsSoundGraph w'
  edited s e = record {
    objects = λ id o h.
        elim (e.objects id o h) [
          | inl old ↦ right_object_kept o (s.objects id o old)
          | inr new ↦ new
        ];
    reservations = λ n p r h k.
        elim (e.reservations n p r h k) [
          | inl old ↦ reservation_kept p.pool r old
          | inr new ↦ new
        ];
    points = λ n p h.
        elim (e.points n p h) [
          | inl old ↦ (
            pool_kept p.pool (λ q. is_automatic_kind q.kind) (λ q. is_automatic_kind q.kind) (λ q k. k) old.0,
            (λ weak. pool_kept p.pool (λ q. is_weak_kind q.kind) (λ q. is_weak_kind q.kind) (λ q k. k) (old.1 weak)),
          )
          | inr new ↦ new
        ];
    slots =
        elim e.slots [
          | inl same ↦
              all-weaker (auto w) (auto w') auto_kept (ids_in_slots w'.graph)
              (subst (λ ts. All (auto w) (flat_map slots_of ts)) (sym same) s.slots)
          | inr new ↦ new
        ];
    words =
        elim e.words [
          | inl same ↦
              (λ n area h. each-weaker (is_sound_word w) (is_sound_word w') (word_kept s.objects) area
              (s.words n area (sym (ap (λ areas. entry_at areas n) same) ∙ h)))
          | inr new ↦ new
        ];
    blocks =
        elim e.blocks [
          | inl same ↦
              all-weaker (manual w) (manual w') manual_kept (ids_in_blocks w'.graph)
              (subst (All (manual w)) (sym same) s.blocks)
          | inr new ↦ new
        ];
    registered =
        elim e.registered [
          | inl same ↦
              all-weaker (is_live_automatic w) (is_live_automatic w') (live_auto_kept e.live) w'.graph.registered
              (subst (λ ids. All (is_live_automatic w) ids) (sym same) s.registered)
          | inr new ↦ new
        ];
    messages =
        elim e.messages [
          | inl same ↦
              all-weaker (auto w) (auto w') auto_kept w'.graph.messages (subst (λ ids. All (auto w) ids) (sym same) s.messages)
          | inr new ↦ new
        ];
  }

-- where the objects are as they were, and there may be more pools
pub grows_alike : (w w' : World) → w'.formats ≡ w.formats → ((n : ℕ) (p : Pool) → slice_get w.pools n ≡ Some p
    → slice_get w'.pools n ≡ Some p)
    → w'.graph.objects ≡ w.graph.objects → Grows w w'
grows_alike w w' formats pools objects = record {
  formats = formats;
  pools = pools;
  objects = λ id o e. (o, ap (λ os. slice_get os id) objects ∙ e, record { pool = refl; size = refl; kind = refl });
}

-- where nothing of the graph that matters was touched
pub untouched : (w w' : World) → IsSoundGraph w → w'.formats ≡ w.formats
    → ((n : ℕ) (p : Pool) → slice_get w.pools n ≡ Some p → slice_get w'.pools n ≡ Some p) → w'.graph.objects ≡ w.graph.objects
    → w'.graph.points ≡ w.graph.points → w'.graph.tables ≡ w.graph.tables → w'.graph.areas ≡ w.graph.areas
    → ids_in_blocks w'.graph ≡ ids_in_blocks w.graph
    → w'.graph.registered ≡ w.graph.registered → w'.graph.messages ≡ w.graph.messages → w'.addresses ≡ w.addresses → IsSoundGraph w'
untouched w w' s formats pools objects points tables areas blocks registered messages addresses =
    edited w w' (grows_alike w w' formats pools objects) s (record {
      live = λ id h. ap (λ places. is_some (entry_at places id)) addresses ∙ h;
      objects = λ id o h. inl (sym (ap (λ os. slice_get os id) objects) ∙ h);
      reservations = λ n p r h k. inl (s.reservations n p r (sym (ap (λ ps. entry_at ps n) points) ∙ h) k);
      points = λ n p h. inl (s.points n p (sym (ap (λ ps. entry_at ps n) points) ∙ h));
      slots = inl tables;
      words = inl areas;
      blocks = inl blocks;
      registered = inl registered;
      messages = inl messages;
    })
