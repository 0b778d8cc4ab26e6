-- The outcomes of the calls that make and drop things. A thing is kept under a key that was free; which one is open, and so is the order
-- of the names. Each call may also be out of memory, which changes nothing that can be seen.
use Rattle.std.specs.Prelude.{ℕ, ◌≡◌, ◌+◌, ◌-◌, Bool, not, ◌&&◌, ◌||◌, nat_lt, Option, Some, None, option_map, Result, Ok, Err, is_some, List, [], ◌∷◌, ◌++◌, length, replicate}
use Rattle.mps_base.specs.declared.names.Name.{Name}
use Rattle.mps_base.specs.declared.names.Rank.{Rank}
use Rattle.mps_base.specs.declared.refusal.Refusal.{Refusal}
use Rattle.mps_base.specs.declared.refusal.Refusal.TheVariants as refusal
use Rattle.mps_buffer.specs.Points.{IsMade, new_point, with_point}
use Rattle.mps_trace.specs.AmcState.{with_pool}
use Rattle.mps_pools.specs.Pools.{tails_on, with_chain, with_pool_on}
use Rattle.mps_trace.specs.LdState.{reset_at}
use Rattle.mps_model.specs.Checked.{Checked, ◌>>=◌, ◌>>◌, required, refuse_when}
use Rattle.mps_model.specs.Making.{most_roots, most_slots, most_chains, most_points, most_pools, most_dependencies, is_block_size, is_weak_rank, refuse_at_limit}
use Rattle.mps_names.specs.State.{NamesState, thing_named, IsSameMap, Updates}
use Rattle.mps_names.specs.declared.names.Thing.{Thing}
use Rattle.mps_names.specs.declared.names.Thing.TheVariants as thing
use Rattle.mps_root.specs.State.{RootsState, IsTableMade, IsAreaMade, kept, without, without_key}
use Rattle.mps_root.specs.declared.roots.Stored.{Stored}
use Rattle.mps_heap_spec.specs.State.{HeapState}
use Rattle.mps_format.specs.Pools.{is_automatic_pool, is_copying_pool, is_weak_pool, size_of_pool}
use Rattle.mps_format.specs.declared.pool.Pool.{Pool}
use Rattle.mps_heap_spec.specs.Finding.{chain_named, pool_named, point_named}
use Rattle.mps_heap_spec.specs.declared.found.Kept.{Kept}

-- whether checks were passed, or which of them refused
abbrev pub without_answer : {A : Type 0} → Checked A → Checked (Unit {0})
without_answer (Ok value) = Ok tt
without_answer (Err why) = Err why

module _ {F : Type 0} where
  -- ---- the names of a heap

  -- the state but for its names is this, and the names represent what they represented before
  pub record IsUntouched (h after : HeapState F) : Type 0 where
    pub names : IsSameMap h.names after.names
    pub counts : after.names.counts ≡ h.names.counts
    pub keys : after.names.keys ≡ h.names.keys
    pub state : after ≡ record h { names = after.names }

  -- refused if the name is taken
  abbrev pub refuse_taken : HeapState F → Name → Checked (Unit {0})
  refuse_taken h name = refuse_when (is_some (thing_named h.names name)) refusal.NameTaken

  -- the outcome of a call that makes a thing: its checks may refuse it, it may be out of memory, or it is made
  pub data IsMaking (h : HeapState F) (checks : Checked (Unit {0})) (Makes : ℕ → HeapState F → Type 0) :
      Result ℕ Refusal → HeapState F → Type 0 where
    Refused : {after : HeapState F} {why : Refusal} → checks ≡ Err why → IsUntouched h after → IsMaking h checks Makes (Err why) after
    OutOfMemory : {after : HeapState F} → checks ≡ Ok tt → IsUntouched h after → IsMaking h checks Makes (Err refusal.OutOfMemory) after
    Made : {after : HeapState F} {key : ℕ} → checks ≡ Ok tt → Makes key after → IsMaking h checks Makes (Ok key) after

  -- ---- roots

  -- refused if one more root of n slots passes a limit
  abbrev pub refuse_root : HeapState F → (slots : ℕ) → Checked (Unit {0})
  refuse_root h slots = do
    refuse_at_limit h.live_roots most_roots
    refuse_when (nat_lt most_slots (h.live_slots + slots)) (refusal.TooMany most_slots)

  abbrev pub check_root : HeapState F → Name → (slots : ℕ) → Checked (Unit {0})
  check_root h name slots = do
    refuse_taken h name
    refuse_root h slots

  -- the roots and the names are these, and there is one more root of n slots
  abbrev pub with_root : HeapState F → RootsState → NamesState → (slots : ℕ) → HeapState F
  with_root h roots names slots =
      record h { roots = roots; names = names; live_roots = h.live_roots + 1; live_slots = h.live_slots + slots }

  pub record MakesTable (h : HeapState F) (name : Name) (slots key : ℕ) (after : HeapState F) : Type 0 where
    pub table : IsTableMade h.roots after.roots key slots
    pub names : Updates h.names after.names name (Some (thing.Table key))
    pub state : after ≡ with_root h after.roots after.names slots

  pub record MakesArea (h : HeapState F) (name : Name) (words key : ℕ) (after : HeapState F) : Type 0 where
    pub area : IsAreaMade h.roots after.roots key words
    pub names : Updates h.names after.names name (Some (thing.Area key))
    pub state : after ≡ with_root h after.roots after.names words

  pub record MakesBlocks (h : HeapState F) (name : Name) (places number : ℕ) (after : HeapState F) : Type 0 where
    pub number_is : number ≡ length h.roots.blocks
    pub names : Updates h.names after.names name (Some (thing.Blocks number))
    pub state : after
        ≡ with_root h (record h.roots { blocks = h.roots.blocks ++ replicate places 0 ∷ [] }) after.names places

  -- ---- drops

  -- a table or an area goes, and n slots with it
  abbrev pub without_root : HeapState F → RootsState → NamesState → (slots : ℕ) → HeapState F
  without_root h roots names slots =
      record h { roots = roots; names = names; live_roots = h.live_roots - 1; live_slots = h.live_slots - slots }

  -- what is left of the roots if one is dropped, and how many slots go
  abbrev pub roots_without : HeapState F → Option Thing → Option (RootsState × ℕ)
  roots_without h (Some (thing.Table key)) =
      option_map (λ (slots : List ℕ). (
        record h.roots { tables = without h.roots.tables key; order = without_key h.roots.order key },
        length slots,
      ))
      (kept h.roots.tables key)
  roots_without h (Some (thing.Area key)) =
      option_map (λ (words : List Stored). (record h.roots { areas = without h.roots.areas key }, length words)) (kept h.roots.areas key)
  roots_without h _ = None

  -- a call that drops a thing: it is refused, or the thing and its name are gone
  pub data IsDropping (h : HeapState F) (name : Name) (dropped : Checked (NamesState → HeapState F)) :
      Checked (Unit {0}) → HeapState F → Type 0 where
    NotDropped : {why : Refusal} → dropped ≡ Err why → IsDropping h name dropped (Err why) h
    Dropped : {rest : NamesState → HeapState F} {after : HeapState F} → dropped ≡ Ok rest → Updates h.names after.names name None
        → after ≡ rest after.names → IsDropping h name dropped (Ok tt) after

  abbrev pub root_dropped : HeapState F → Name → Checked (NamesState → HeapState F)
  root_dropped h name = do
    left ← required (roots_without h (thing_named h.names name)) refusal.BadName
    Ok (λ names. without_root h left.0 names left.1)

  abbrev pub point_dropped : HeapState F → Name → Checked (NamesState → HeapState F)
  point_dropped h name = do
    point ← point_named h name
    refuse_when (is_some point.value.reservation) refusal.Open
    Ok (λ names. record h { points = with_point h.points point.key None; live_points = h.live_points - 1; names = names })

  -- ---- points

  -- whether a pool may have a point of this rank
  abbrev pub may_have_point : Pool F → Rank → Bool
  may_have_point p at_rank = is_automatic_pool p && (not (is_weak_rank at_rank) || is_weak_pool p)

  -- the pool of a point that may be made
  abbrev pub check_point : HeapState F → (name pool : Name) → Rank → Checked (Kept (Pool F))
  check_point h name pool at_rank = do
    refuse_taken h name
    of ← pool_named h pool
    refuse_when (not (may_have_point of.value at_rank)) refusal.WrongPool
    refuse_at_limit h.live_points most_points
    Ok of

  pub record MakesPoint (h : HeapState F) (name : Name) (of : Kept (Pool F)) (at_rank : Rank) (key : ℕ) (after : HeapState F) : Type 0
    where
      pub point : IsMade h.points after.points key (new_point of.key at_rank (is_copying_pool of.value))
      pub names : Updates h.names after.names name (Some (thing.Point key))
      pub state : after ≡ record h { points = after.points; live_points = h.live_points + 1; names = after.names }

  -- the point is made in the pool that the checks found
  pub record MakesPointIn (h : HeapState F) (name pool : Name) (at_rank : Rank) (key : ℕ) (after : HeapState F) : Type 0 where
    pub of : Kept (Pool F)
    pub found : check_point h name pool at_rank ≡ Ok of
    pub makes : MakesPoint h name of at_rank key after

  -- ---- chains

  abbrev pub check_chain : HeapState F → Name → Checked (Unit {0})
  check_chain h name = do
    refuse_taken h name
    refuse_at_limit (length h.chains.chains) most_chains

  pub record MakesChain (h : HeapState F) (name : Name) (capacities : List ℕ) (number : ℕ) (after : HeapState F) : Type 0 where
    pub number_is : number ≡ length h.chains.chains
    pub names : Updates h.names after.names name (Some (thing.Chain number))
    pub state : after ≡ record h { chains = with_chain h.chains capacities; names = after.names }

  -- ---- pools

  abbrev pub check_pool : HeapState F → Name → Checked (Unit {0})
  check_pool h name = do
    refuse_taken h name
    refuse_at_limit (length h.pools) most_pools

  -- the chain of a pool that may be made, with how many generations it has
  abbrev pub check_pool_on_chain : HeapState F → (name chain : Name) → Checked (Kept ℕ)
  check_pool_on_chain h name chain = do
    refuse_taken h name
    on ← chain_named h chain
    refuse_at_limit (length h.pools) most_pools
    Ok on

  abbrev pub check_pool_of_size : HeapState F → Name → (words : ℕ) → Checked (Unit {0})
  check_pool_of_size h name words = do
    refuse_taken h name
    refuse_when (not (is_block_size words)) refusal.BadSize
    refuse_at_limit (length h.pools) most_pools

  -- a pool is made on a chain or on none, with an empty tail for each generation of the chain, or with one
  pub record MakesPool (h : HeapState F) (name : Name) (p : Pool F) (chain : Option ℕ) (number : ℕ) (after : HeapState F) : Type 0 where
    pub number_is : number ≡ length h.pools
    pub names : Updates h.names after.names name (Some (thing.Pool number))
    pub state : after ≡ record h {
      pools = h.pools ++ p ∷ [];
      sizes = h.sizes ++ size_of_pool p ∷ [];
      chains = with_pool_on h.chains chain;
      tails = with_pool h.tails (tails_on h.chains chain);
      names = after.names;
    }

  -- the pool is made on the chain that the checks found
  pub record MakesPoolOn (h : HeapState F) (name chain : Name) (p : Pool F) (number : ℕ) (after : HeapState F) : Type 0 where
    pub on : Kept ℕ
    pub found : check_pool_on_chain h name chain ≡ Ok on
    pub makes : MakesPool h name p (Some on.key) number after

  -- ---- dependencies

  abbrev pub check_dependency : HeapState F → Name → Checked (Unit {0})
  check_dependency h name = do
    refuse_taken h name
    refuse_at_limit (length h.dependencies) most_dependencies

  pub record MakesDependency (h : HeapState F) (name : Name) (number : ℕ) (after : HeapState F) : Type 0 where
    pub number_is : number ≡ length h.dependencies
    pub names : Updates h.names after.names name (Some (thing.Dependency number))
    pub state : after ≡ record h { dependencies = h.dependencies ++ reset_at h.epochs ∷ []; names = after.names }
