-- Lists of ids of which one has one more than the other: what tables of blocks and caches have before and after a block is put or taken.
use Rattle.std.proofs.Common.{◌≡◌, ◌∙◌, ℕ, zero, suc, ◌+◌, Bool, true, false, refl, sym, ap, subst, List, [], ◌∷◌, ◌++◌, append-nil, length, map, Option, Some, None, arith}
use Rattle.std.proofs.lemmas.Bool.{and_parts, and_from, false≢true}
use Rattle.std.proofs.lemmas.Option.{none-some, same_Some}
use Rattle.std.specs.Prelude.{◌==◌, nat_lt, if◌then◌else◌, slice_get, slice_set, option_map}
use Rattle.std.specs.List.{list_all, flat_map}
use Rattle.mps_model.specs.Graph.{Graph, Cache, CacheClass, Slots, entries, from_last, ids_of_cache, ids_in_caches, ids_in_places, occurrences, with_last}
use Rattle.mps_model.specs.Checked.{Found, Numbered}
use Rattle.mps_model.specs.Allocating.{with_block_place}
use Rattle.mps_model.specs.Caches.{emptied, kept_in, last_of, taken_from, with_classes, without_last}
use Rattle.mps_changes.specs.Change.{are_empty_classes, is_empty_list}

pub append_assoc : {A : Type 0} (xs ys zs : List A) → (xs ++ ys) ++ zs ≡ xs ++ (ys ++ zs)
append_assoc [] ys zs = refl
append_assoc (x ∷ xs) ys zs = ap (λ rest. x ∷ rest) (append_assoc xs ys zs)

-- the one list has this id somewhere, and is else the other
pub record HasOneMore (id : ℕ) (less more : List ℕ) : Type 0 where
  pub before : List ℕ
  pub after : List ℕ
  pub less_is : less ≡ before ++ after
  pub more_is : more ≡ before ++ (id ∷ after)

module _ {id : ℕ} {less more : List ℕ} (h : HasOneMore id less more) where
  pub after_others : (xs : List ℕ) → HasOneMore id (xs ++ less) (xs ++ more)
  after_others xs = record {
    before = xs ++ h.before;
    after = h.after;
    less_is = ap (λ ys. xs ++ ys) h.less_is ∙ sym (append_assoc xs h.before h.after);
    more_is = ap (λ ys. xs ++ ys) h.more_is ∙ sym (append_assoc xs h.before (id ∷ h.after));
  }

  pub before_others : (ys : List ℕ) → HasOneMore id (less ++ ys) (more ++ ys)
  before_others ys = record {
    before = h.before;
    after = h.after ++ ys;
    less_is = ap (λ xs. xs ++ ys) h.less_is ∙ append_assoc h.before h.after ys;
    more_is = ap (λ xs. xs ++ ys) h.more_is ∙ append_assoc h.before (id ∷ h.after) ys;
  }

-- ---- what passes

module _ (test : ℕ → Bool) where
  pub parts_pass : (xs ys : List ℕ) → list_all test (xs ++ ys) ≡ true → (list_all test xs ≡ true) × (list_all test ys ≡ true)
  parts_pass [] ys h = (refl, h)
  parts_pass (x ∷ xs) ys h =
      let first = and_parts (test x) (list_all test (xs ++ ys)) h in
      let rest = parts_pass xs ys first.1 in
      (and_from (test x) (list_all test xs) first.0 rest.0, rest.1)

  pub both_pass : (xs ys : List ℕ) → list_all test xs ≡ true → list_all test ys ≡ true → list_all test (xs ++ ys) ≡ true
  both_pass [] ys h k = k
  both_pass (x ∷ xs) ys h k =
      let first = and_parts (test x) (list_all test xs) h in
      and_from (test x) (list_all test (xs ++ ys)) first.0 (both_pass xs ys first.1 k)

  pub less_pass : {id : ℕ} {less more : List ℕ} → HasOneMore id less more → list_all test more ≡ true
      → (test id ≡ true) × (list_all test less ≡ true)
  less_pass {id} h all =
      let parts = parts_pass h.before (id ∷ h.after) (subst (λ ids. list_all test ids ≡ true) h.more_is all) in
      let rest = and_parts (test id) (list_all test h.after) parts.1 in
      (rest.0, ap (list_all test) h.less_is ∙ both_pass h.before h.after parts.0 rest.1)

  pub more_pass : {id : ℕ} {less more : List ℕ} → HasOneMore id less more → test id ≡ true → list_all test less ≡ true
      → list_all test more ≡ true
  more_pass {id} h one all =
      let parts = parts_pass h.before h.after (subst (λ ids. list_all test ids ≡ true) h.less_is all) in
      ap (list_all test) h.more_is ∙ both_pass h.before (id ∷ h.after) parts.0 (and_from (test id) (list_all test h.after) one parts.1)

-- the same of ids from the last to the first
pub reversed_pass : (test : ℕ → Bool) (ids : List ℕ) → list_all test ids ≡ true → list_all test (from_last ids) ≡ true
reversed_pass test [] h = refl
reversed_pass test (id ∷ ids) h =
    let parts = and_parts (test id) (list_all test ids) h in
    both_pass test (from_last ids) (id ∷ []) (reversed_pass test ids parts.1) (and_from (test id) true parts.0 refl)

pub flushed_pass : (test : ℕ → Bool) (classes : List CacheClass) → list_all test (flat_map (λ (k : CacheClass). k.cached) classes) ≡ true
    → list_all test (flat_map (λ (k : CacheClass). from_last k.cached) classes) ≡ true
flushed_pass test [] h = refl
flushed_pass test (k ∷ ks) h =
    let parts = parts_pass test k.cached (flat_map (λ (k : CacheClass). k.cached) ks) h in
    both_pass test (from_last k.cached) (flat_map (λ (k : CacheClass). from_last k.cached) ks) (reversed_pass test k.cached parts.0)
    (flushed_pass test ks parts.1)

-- ---- how often an id stands in a list

pub occurrences-append : (j : ℕ) (xs ys : List ℕ) → occurrences (xs ++ ys) j ≡ occurrences xs j + occurrences ys j
occurrences-append j [] ys = omega arith
occurrences-append j (x ∷ xs) ys = let rest = occurrences-append j xs ys in omega (arith, rest)

pub occurs_more : (j : ℕ) {id : ℕ} {less more : List ℕ} → HasOneMore id less more
    → occurrences more j ≡ occurrences less j + (if id == j then 1 else 0)
occurs_more j {id} {less} {more} h =
    let whole : occurrences more j ≡ occurrences h.before j + ((if id == j then 1 else 0) + occurrences h.after j) =
    ap (λ ids. occurrences ids j) h.more_is ∙ occurrences-append j h.before (id ∷ h.after) in
    let left : occurrences less j ≡ occurrences h.before j + occurrences h.after j =
    ap (λ ids. occurrences ids j) h.less_is ∙ occurrences-append j h.before h.after in
    omega (arith, whole, left)

-- ---- lists of lists

-- an entry of a list of lists, and what stands before it and after it
pub record IsSplitAt {X : Type 0} (ids : X → List ℕ) (xs : List X) (n : ℕ) (x : X) : Type 0 where
  pub before : List ℕ
  pub after : List ℕ
  pub is : flat_map ids xs ≡ before ++ (ids x ++ after)
  pub set : (y : X) → flat_map ids (slice_set xs n y) ≡ before ++ (ids y ++ after)

pub split_at : {X : Type 0} (ids : X → List ℕ) (xs : List X) (n : ℕ) (x : X) → slice_get xs n ≡ Some x → IsSplitAt ids xs n x
split_at ids [] n x e = absurd (none-some x e)
split_at ids (z ∷ zs) zero x e = record {
  before = [];
  after = flat_map ids zs;
  is = ap (λ w. ids w ++ flat_map ids zs) (same_Some z x e);
  set = λ y. refl;
}
split_at ids (z ∷ zs) (suc n) x e =
    let rest = split_at ids zs n x e in
    record {
      before = ids z ++ rest.before;
      after = rest.after;
      is = ap (λ ys. ids z ++ ys) rest.is ∙ sym (append_assoc (ids z) rest.before (ids x ++ rest.after));
      set = λ y. ap (λ ys. ids z ++ ys) (rest.set y) ∙ sym (append_assoc (ids z) rest.before (ids y ++ rest.after));
    }

module _ {X : Type 0} (ids : X → List ℕ) (xs : List X) (n : ℕ) (x y : X) (there : slice_get xs n ≡ Some x) where
  abbrev its : IsSplitAt ids xs n x
  its = split_at ids xs n x there

  pub entry_less : {id : ℕ} → HasOneMore id (ids y) (ids x) → HasOneMore id (flat_map ids (slice_set xs n y)) (flat_map ids xs)
  entry_less {id} h =
      subst (λ less. HasOneMore id less (flat_map ids xs)) (sym (its.set y))
      (subst (λ more. HasOneMore id (its.before ++ (ids y ++ its.after)) more) (sym its.is)
      (after_others (before_others h its.after) its.before))

  pub entry_more : {id : ℕ} → HasOneMore id (ids x) (ids y) → HasOneMore id (flat_map ids xs) (flat_map ids (slice_set xs n y))
  entry_more {id} h =
      subst (λ less. HasOneMore id less (flat_map ids (slice_set xs n y))) (sym its.is)
      (subst (λ more. HasOneMore id (its.before ++ (ids x ++ its.after)) more) (sym (its.set y))
      (after_others (before_others h its.after) its.before))

-- ---- places

filled_row : (row : Slots) (i id : ℕ) → slice_get row i ≡ Some None → HasOneMore id (entries row) (entries (slice_set row i (Some id)))
filled_row [] i id e = absurd (none-some None e)
filled_row (None ∷ os) zero id e = record { before = []; after = entries os; less_is = refl; more_is = refl }
filled_row (Some n ∷ os) zero id e = absurd (none-some n (sym (same_Some (Some n) None e)))
filled_row (None ∷ os) (suc i) id e = filled_row os i id e
filled_row (Some n ∷ os) (suc i) id e = after_others (filled_row os i id e) (n ∷ [])

emptied_row : (row : Slots) (i id : ℕ) → slice_get row i ≡ Some (Some id) → HasOneMore id (entries (slice_set row i None)) (entries row)
emptied_row [] i id e = absurd (none-some (Some id) e)
emptied_row (None ∷ os) zero id e = absurd (none-some id (same_Some None (Some id) e))
emptied_row (Some n ∷ os) zero id e = record {
  before = [];
  after = entries os;
  less_is = refl;
  more_is = ap (λ m. m ∷ entries os) (same_Some n id (same_Some (Some n) (Some id) e));
}
emptied_row (None ∷ os) (suc i) id e = emptied_row os i id e
emptied_row (Some n ∷ os) (suc i) id e = after_others (emptied_row os i id e) (n ∷ [])

module _ (g : Graph) (place : Found (Option ℕ)) (table : slice_get g.blocks place.number ≡ Some place.list) where
  pub place_filled : (id : ℕ) → slice_get place.list place.index ≡ Some None
      → HasOneMore id (ids_in_places g) (ids_in_places (with_block_place g place (Some id)))
  place_filled id e =
      entry_more entries g.blocks place.number place.list (slice_set place.list place.index (Some id)) table
      (filled_row place.list place.index id e)

  pub place_emptied : (id : ℕ) → slice_get place.list place.index ≡ Some (Some id)
      → HasOneMore id (ids_in_places (with_block_place g place None)) (ids_in_places g)
  place_emptied id e =
      entry_less entries g.blocks place.number place.list (slice_set place.list place.index None) table
      (emptied_row place.list place.index id e)

-- ---- caches

abbrev cached_in : CacheClass → List ℕ
cached_in k = k.cached

last_split : (ids : List ℕ) (id : ℕ) → last_of ids ≡ Some id → HasOneMore id (without_last ids) ids
last_split [] id e = absurd (none-some id e)
last_split (n ∷ []) id e = record { before = []; after = []; less_is = refl; more_is = ap (λ m. m ∷ []) (same_Some n id e) }
last_split (n ∷ m ∷ ids) id e = after_others (last_split (m ∷ ids) id e) (n ∷ [])

abbrev IsLess : List CacheClass → (words : ℕ) → Type 0
IsLess classes words =
    (id : ℕ) (left : List CacheClass) → taken_from classes words ≡ Some (id, left)
    → HasOneMore id (flat_map cached_in left) (flat_map cached_in classes)

abbrev IsMore : List CacheClass → (words id : ℕ) → Type 0
IsMore classes words id =
    (now : List CacheClass) → kept_in classes words id ≡ Some now → HasOneMore id (flat_map cached_in classes) (flat_map cached_in now)

pub taken_less : (classes : List CacheClass) (words id : ℕ) (left : List CacheClass) → taken_from classes words ≡ Some (id, left)
    → HasOneMore id (flat_map cached_in left) (flat_map cached_in classes)
taken_less [] words id left e = absurd (none-some (id, left) e)
taken_less (k ∷ ks) words id left e = of_size (k.words == words) (λ i rest is. taken_less ks words i rest is) e
  where
    of_last : (o : Option ℕ) → last_of k.cached ≡ o
        → option_map {U = ℕ × List CacheClass} (λ i. (i, record k { cached = without_last k.cached } ∷ ks)) o ≡ Some (id, left)
        → HasOneMore id (flat_map cached_in left) (flat_map cached_in (k ∷ ks))
    of_last None is h = absurd (none-some (id, left) h)
    of_last (Some last) is h =
        let same = same_Some (last, record k { cached = without_last k.cached } ∷ ks) (id, left) h in
        subst (λ (t : ℕ × List CacheClass). HasOneMore t.0 (flat_map cached_in t.1) (flat_map cached_in (k ∷ ks))) same
        (before_others (last_split k.cached last is) (flat_map cached_in ks))

    of_rest : IsLess ks words → (o : Option (ℕ × List CacheClass)) → taken_from ks words ≡ o
        → option_map {U = ℕ × List CacheClass} (λ t. (t.0, k ∷ t.1)) o ≡ Some (id, left)
        → HasOneMore id (flat_map cached_in left) (flat_map cached_in (k ∷ ks))
    of_rest later None is h = absurd (none-some (id, left) h)
    of_rest later (Some taken) is h =
        let same = same_Some (taken.0, k ∷ taken.1) (id, left) h in
        subst (λ (t : ℕ × List CacheClass). HasOneMore t.0 (flat_map cached_in t.1) (flat_map cached_in (k ∷ ks))) same
        (after_others (later taken.0 taken.1 is) k.cached)

    of_size : (b : Bool) → IsLess ks words
        → (if b then option_map {U = ℕ × List CacheClass} (λ i. (i, record k { cached = without_last k.cached } ∷ ks)) (last_of k.cached)
        else option_map {U = ℕ × List CacheClass} (λ t. (t.0, k ∷ t.1)) (taken_from ks words)) ≡ Some (id, left)
        → HasOneMore id (flat_map cached_in left) (flat_map cached_in (k ∷ ks))
    of_size true later h = of_last (last_of k.cached) refl h
    of_size false later h = of_rest later (taken_from ks words) refl h

pub last_more : (ids : List ℕ) (id : ℕ) → HasOneMore id ids (with_last ids id)
last_more ids id = record { before = ids; after = []; less_is = sym (append-nil ids); more_is = refl }

pub kept_more : (classes : List CacheClass) (words id : ℕ) (now : List CacheClass) → kept_in classes words id ≡ Some now
    → HasOneMore id (flat_map cached_in classes) (flat_map cached_in now)
kept_more [] words id now e = absurd (none-some now e)
kept_more (k ∷ ks) words id now e = of_size (k.words == words) (λ rest is. kept_more ks words id rest is) e
  where
    of_room : (b : Bool) → (if b then Some (record k { cached = with_last k.cached id } ∷ ks) else None) ≡ Some now
        → HasOneMore id (flat_map cached_in (k ∷ ks)) (flat_map cached_in now)
    of_room false h = absurd (none-some now h)
    of_room true h =
        subst (λ t. HasOneMore id (flat_map cached_in (k ∷ ks)) (flat_map cached_in t))
        (same_Some (record k { cached = with_last k.cached id } ∷ ks) now h)
        (before_others (last_more k.cached id) (flat_map cached_in ks))

    of_rest : IsMore ks words id → (o : Option (List CacheClass)) → kept_in ks words id ≡ o → option_map (λ rest. k ∷ rest) o ≡ Some now
        → HasOneMore id (flat_map cached_in (k ∷ ks)) (flat_map cached_in now)
    of_rest later None is h = absurd (none-some now h)
    of_rest later (Some rest) is h =
        subst (λ t. HasOneMore id (flat_map cached_in (k ∷ ks)) (flat_map cached_in t)) (same_Some (k ∷ rest) now h)
        (after_others (later rest is) k.cached)

    of_size : (b : Bool) → IsMore ks words id
        → (if b then (if nat_lt (length k.cached) k.limit then Some (record k { cached = with_last k.cached id } ∷ ks) else None)
        else option_map (λ rest. k ∷ rest) (kept_in ks words id)) ≡ Some now
        → HasOneMore id (flat_map cached_in (k ∷ ks)) (flat_map cached_in now)
    of_size true later h = of_room (nat_lt (length k.cached) k.limit) h
    of_size false later h = of_rest later (kept_in ks words id) refl h

none_left : (classes : List CacheClass) → flat_map cached_in (map emptied classes) ≡ []
none_left [] = refl
none_left (k ∷ ks) = none_left ks

none_new : (classes : List CacheClass) → are_empty_classes classes ≡ true → flat_map cached_in classes ≡ []
none_new [] h = refl
none_new (k ∷ ks) h =
    let parts = and_parts (is_empty_list k.cached) (are_empty_classes ks) h in
    none_in k.cached parts.0 (none_new ks parts.1)
  where
    none_in : (ids : List ℕ) {rest : List ℕ} → is_empty_list ids ≡ true → rest ≡ [] → ids ++ rest ≡ []
    none_in [] e none = none
    none_in (id ∷ ids) e none = absurd (false≢true e)

module _ (g : Graph) (cache : Numbered Cache) (there : slice_get g.caches cache.number ≡ Some cache.value) where
  pub cache_less : (words id : ℕ) (classes : List CacheClass) → taken_from cache.value.classes words ≡ Some (id, classes)
      → HasOneMore id (ids_in_caches (with_classes g cache classes)) (ids_in_caches g)
  cache_less words id classes e =
      entry_less ids_of_cache g.caches cache.number cache.value (record cache.value { classes = classes }) there
      (taken_less cache.value.classes words id classes e)

  pub cache_more : (words id : ℕ) (classes : List CacheClass) → kept_in cache.value.classes words id ≡ Some classes
      → HasOneMore id (ids_in_caches g) (ids_in_caches (with_classes g cache classes))
  cache_more words id classes e =
      entry_more ids_of_cache g.caches cache.number cache.value (record cache.value { classes = classes }) there
      (kept_more cache.value.classes words id classes e)

  -- what lies in one cache
  pub cache_passes : (test : ℕ → Bool) → list_all test (ids_in_caches g) ≡ true → list_all test (ids_of_cache cache.value) ≡ true
  cache_passes test all =
      let s = split_at ids_of_cache g.caches cache.number cache.value there in
      let parts = parts_pass test s.before (ids_of_cache cache.value ++ s.after) (subst (λ ids. list_all test ids ≡ true) s.is all) in
      (parts_pass test (ids_of_cache cache.value) s.after parts.1).0

  -- what a flush leaves
  abbrev flushed_graph : Graph
  flushed_graph = with_classes g cache (map emptied cache.value.classes)

  pub flush_passes : (test : ℕ → Bool) → list_all test (ids_in_caches g) ≡ true → list_all test (ids_in_caches flushed_graph) ≡ true
  flush_passes test all =
      let s = split_at ids_of_cache g.caches cache.number cache.value there in
      let parts = parts_pass test s.before (ids_of_cache cache.value ++ s.after) (subst (λ ids. list_all test ids ≡ true) s.is all) in
      let rest = parts_pass test (ids_of_cache cache.value) s.after parts.1 in
      ap (list_all test) (s.set (record cache.value { classes = map emptied cache.value.classes })
      ∙ ap (λ ids. s.before ++ (ids ++ s.after)) (none_left cache.value.classes)) ∙ both_pass test s.before s.after parts.0 rest.1

  pub flush_occurs : (j : ℕ) → occurrences (ids_in_caches g) j
      ≡ occurrences (ids_in_caches flushed_graph) j + occurrences (ids_of_cache cache.value) j
  flush_occurs j =
      let s = split_at ids_of_cache g.caches cache.number cache.value there in
      let mine = ids_of_cache cache.value in
      let whole = ap (λ ids. occurrences ids j) s.is ∙ occurrences-append j s.before (mine ++ s.after) in
      let inner = occurrences-append j mine s.after in
      let left : occurrences (ids_in_caches flushed_graph) j ≡ occurrences s.before j + occurrences s.after j =
      ap (λ ids. occurrences ids j) (s.set (record cache.value { classes = map emptied cache.value.classes })
      ∙ ap (λ ids. s.before ++ (ids ++ s.after)) (none_left cache.value.classes)) ∙ occurrences-append j s.before s.after in
      omega (arith, whole, inner, left)

-- one more cache, in which nothing lies
pub cache_added : (caches : List Cache) (q : Cache) → are_empty_classes q.classes ≡ true
    → flat_map ids_of_cache (with_last caches q) ≡ flat_map ids_of_cache caches
cache_added [] q h = ap (λ ids. ids ++ []) (none_new q.classes h)
cache_added (p ∷ ps) q h = ap (λ ids. ids_of_cache p ++ ids) (cache_added ps q h)
