-- What a collector does with all references of one block, in words.
use Rattle.std.specs.Prelude.{◌≡◌, ℕ, ◌+◌, ◌<◌, false, ◌==◌, if◌then◌else◌, IsTrue, Option, Some, None, List, [], ◌∷◌, slice_get, slice_index, refl}
use Rattle.std.proofs.Common.{arith}
use Rattle.std.proofs.lemmas.Option.{none-some, same_Some}
use Rattle.mps_base.specs.Address.{Address, Id, Word, word_of}
use Rattle.mps_format.specs.Layout.{Layout}
use Rattle.mps_model.specs.Graph.{ReferenceCell, Object, entry_at, size_of, is_automatic}
use Rattle.mps_model.specs.Checked.{head_of_body}
use Rattle.mps_abstract.specs.Colours.{Colours, is_white, is_black}
use Rattle.mps_trace_laws.specs.Image.Memory.{Setting, Memory, all_cells}
use Rattle.mps_trace_laws.specs.Image.Image.{no_colours}
use Rattle.mps_trace_laws.specs.Image.Fixing.{FixWord, FixesOne}

-- a setting with other segments
abbrev pub setting_with_pools : Setting → (Word → Option ℕ) → Setting
setting_with_pools s pools = record s { pool_over = pools }

-- if a segment is held, it still is
abbrev pub HoldsMore : (pools more : Word → Option ℕ) → Type 0
HoldsMore pools more = (n : Word) (pool : ℕ) → pools n ≡ Some pool → more n ≡ Some pool

-- the code's run over the cells from i on of a block at an address: what isn't a reference is skipped, each reference is fixed,
-- and a new segment may be taken before. The rest of a run may depend on what the fix was to objects
pub data ScansFrom (s : Setting) (f : Layout) (head : ℕ) (at : Address) (size : ℕ)
    : (i : ℕ) → (pools : Word → Option ℕ) → Memory → List (Option Address) → Colours → (pools : Word → Option ℕ) → Memory → Type 0
  where
    ends : {pools : Word → Option ℕ} {m : Memory} {addresses : List (Option Address)} {k : Colours}
        → ScansFrom s f head at size size pools m addresses k pools m
    takes : {i : ℕ} {pools pools' : Word → Option ℕ} {m m' : Memory} {addresses : List (Option Address)} {k : Colours}
        (more : Word → Option ℕ) → HoldsMore pools more → ScansFrom s f head at size i more m addresses k pools' m'
        → ScansFrom s f head at size i pools m addresses k pools' m'
    skips : {i : ℕ} {pools pools' : Word → Option ℕ} {m m' : Memory} {addresses : List (Option Address)} {k : Colours} → i < size
        → f.is_reference head i ≡ false → ScansFrom s f head at size (i + 1) pools m addresses k pools' m'
        → ScansFrom s f head at size i pools m addresses k pools' m'
    fixes : {i : ℕ} {pools pools' : Word → Option ℕ} {m m' : Memory} {addresses : List (Option Address)} {k : Colours} (address : Address)
        (next : Memory) → i < size → IsTrue (f.is_reference head i) → f.target (slice_index m.words (word_of at + i)) ≡ address
        → FixWord (setting_with_pools s pools) addresses f m (word_of at + i) address next
        → ((t : Option Id) (addresses' : List (Option Address)) (k' : Colours) → FixesOne s.condemned addresses k t addresses' k'
        → ScansFrom s f head at size (i + 1) pools next addresses' k' pools' m')
        → ScansFrom s f head at size i pools m addresses k pools' m'

-- an object that may be scanned: it is live and automatic, it isn't white, and all that it refers to is live
pub record IsToScan (s : Setting) (addresses : List (Option Address)) (k : Colours) (id : Id) (at : Address) (o : Object) : Type 0 where
  pub there : entry_at addresses id ≡ Some at
  pub object : slice_get s.objects id ≡ Some o
  pub automatic : IsTrue (is_automatic o)
  pub not_white : is_white s.condemned k id ≡ false
  pub live : (i t tag : ℕ) → slice_get (all_cells o.body) i ≡ Some (ReferenceCell (Some t) tag)
      → (to : Address) × (entry_at addresses t ≡ Some to)

-- the code's run over all cells of an object
abbrev pub ScansBlock : Setting → Object → (at : Address) → Memory → List (Option Address) → Colours → (pools : Word → Option ℕ) → Memory
    → Type 0
ScansBlock s o at m addresses k pools m' =
    ScansFrom s (s.layout o.pool) (head_of_body o.body) at (size_of o) 0 s.pool_over m addresses k pools m'

-- what a run of fixes leaves of objects: what isn't white stays where it is and isn't white, what is live is live, and nothing
-- is black that wasn't
pub record LeavesOthers (condemned : List Id) (addresses addresses' : List (Option Address)) (k k' : Colours) : Type 0 where
  pub there : (id : Id) (at : Address) → is_white condemned k id ≡ false → entry_at addresses id ≡ Some at
      → entry_at addresses' id ≡ Some at
  pub not_white : (id : Id) → is_white condemned k id ≡ false → is_white condemned k' id ≡ false
  pub live : (id : Id) (at : Address) → entry_at addresses id ≡ Some at → (to : Address) × (entry_at addresses' id ≡ Some to)
  pub black : (id : Id) → IsTrue (is_black condemned k' id) → IsTrue (is_black condemned k id)

-- ---- vectors

pub a_segment_that_is_given_back_is_held_no_more : HoldsMore (λ n. Some 1) (λ n. if n == 512 then None else Some 1) → ⊥
a_segment_that_is_given_back_is_held_no_more more = none-some 1 (more 512 1 refl)

-- object 0 isn't white, and has moved
pub what_is_black_stays : LeavesOthers [] (Some 8 ∷ []) (Some 24 ∷ []) no_colours no_colours → ⊥
what_is_black_stays l = let e : 24 ≡ 8 = same_Some 24 8 (l.there 0 8 refl refl) in omega (arith, e)

pub what_is_live_stays_live : LeavesOthers [] (Some 8 ∷ []) (None ∷ []) no_colours no_colours → ⊥
what_is_live_stays_live l = let e = l.live 0 8 refl in none-some e.0 e.1
