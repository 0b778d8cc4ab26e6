-- What is known of the segment over an address, of its pool and of where its blocks move.
use Rattle.std.proofs.Common.{ℕ, ◌<◌, ◌≡◌, Bool, true, false, Option, Some, None, List, Contains, length, get_or, refl, sym, ap, ◌∙◌, subst}
use Rattle.std.specs.Prelude.{option_map, slice_get, ◌%◌, IfSome, if◌then◌else◌}
use Rattle.std.proofs.lemmas.Option.{slice_get_within, get_or_from_slice_get, same_Some}
use Rattle.mps_base.specs.Address.{grain_of, bytes_of_word}
use Rattle.mps_base.specs.Generation.{target_generation}
use Rattle.mps_base.specs.Segment.{Segment, segment_over}
use Rattle.mps_base.specs.declared.address.Addr.{Addr}
use Rattle.mps_format.specs.Layout.{Layout}
use Rattle.mps_seg.specs.Segs.{SegsState, base_address}
use Rattle.mps_seg.specs.Collecting.{info_of, owner_of, is_condemned_at, is_kept_at, bit_of}
use Rattle.mps_amc.specs.Moving.{IsForwarded}
use Rattle.mps_seg.specs.declared.segment_info.Owner.{Owner}
use Rattle.mps_seg.specs.declared.segment_info.SegmentInfo.{SegmentInfo}
use Rattle.mps_amc.proofs.Found.{over_is_there}
use Rattle.mps_gen.specs.State.{ChainsState, generations_of}
use Rattle.mps_trace.specs.Finding.{IsOfKnownPool, CanFind, FindsIn, FindsTo, in_pool, has_moved, lies}
use Rattle.mps_trace.specs.Trace.{TraceState, target_of}
use Rattle.mps_format.specs.declared.pool.Policy.{Policy}

pub some_over : (o : Option Segment) (base : Addr) → Some base ≡ option_map base_address o → (t : Segment) × (o ≡ Some t)
some_over None base is = let never : Some base ≡ None = is in cc
some_over (Some t) base is = (t, refl)

pub base_is : (o : Option Segment) (base : Addr) (t : Segment) → Some base ≡ option_map base_address o → o ≡ Some t → t.base ≡ base.0
base_is o base t is over =
    let both : Some base ≡ Some (base_address t) = is ∙ ap (λ (x : Option Segment). option_map base_address x) over in
    let same : base ≡ base_address t = cc in
    sym (ap (λ (a : Addr). a.0) same)

-- whether the segment over an address is condemned
pub condemned_is : (s : SegsState) (at : Addr) (t : Segment) → segment_over s.segments at.0 ≡ Some t
    → (info_of s t).is_condemned ≡ is_condemned_at s at.0
condemned_is s at t over = sym (ap (λ (o : Option Segment). bit_of s.condemned (option_map (λ (x : Segment). grain_of x.base) o)) over)

pub same_info : (a b : SegmentInfo) → Some a ≡ Some b → a ≡ b
same_info a b is = cc

pub same_format : {F : Type 0} (a b : F) → Some a ≡ Some b → a ≡ b
same_format a b is = cc

-- an entry that is read is the format that is listed
pub format_read : {F : Type 0} (formats : List (Option (Policy F))) (pool : ℕ) (o : Option (Policy F)) (format : Policy F)
    → slice_get formats pool ≡ Some (Some format) → o ≡ get_or formats pool o → o ≡ Some format
format_read formats pool o format listed read = read ∙ get_or_from_slice_get formats pool (Some format) o listed

-- the format that is read is that of the pool of the segment over an address
pub format_is : {F : Type 0} (t t' : TraceState F) → t' ≡ t
    → (s : SegsState) (at : Addr) (info : SegmentInfo) (seg : Segment) (format : Policy F)
    → segment_over s.segments at.0 ≡ Some seg
    → ((x : Segment) → segment_over s.segments at.0 ≡ Some x → Some info ≡ Some (info_of s x))
    → slice_get t.formats seg.pool ≡ Some (Some format) → (o : Option (Policy F)) → o ≡ get_or t'.formats info.pool o
    → (got : Policy F) → o ≡ Some got
    → got ≡ format
format_is {F} t t' same s at info seg format over found listed o read got is =
    let pool = ap (λ (i : SegmentInfo). i.pool) (same_info info (info_of s seg) (found seg over)) in
    let there : slice_get t'.formats info.pool ≡ Some (Some format) =
    ap (λ (n : ℕ). slice_get t'.formats n) pool ∙ ap (λ (u : TraceState F). slice_get u.formats seg.pool) same ∙ listed
    in
    same_format got format (sym is ∙ format_read t'.formats info.pool o format there read)

-- the format of a pool that is listed, as the fields of the collector have it
module _ {F : Type 0} (t t' : TraceState F) (same : t'
    ≡ t) (s : SegsState) (at : Addr) (info : SegmentInfo) (seg : Segment) (format : Policy F)
    (over : segment_over s.segments at.0 ≡ Some seg) (begins : seg.base ≡ at.0)
    (told : (x : Segment) → Contains s.segments x → x.base ≡ at.0 → info ≡ info_of s x)
    (listed : slice_get t.formats seg.pool ≡ Some (Some format))
  where
    listed_at : slice_get t'.formats info.pool ≡ Some (Some format)
    listed_at =
        let pool = ap (λ (i : SegmentInfo). i.pool) (told seg (over_is_there s.segments at.0 seg over) begins) in
        ap (λ (n : ℕ). slice_get t'.formats n) pool ∙ ap (λ (u : TraceState F). slice_get u.formats seg.pool) same ∙ listed

    pub within_at : info.pool < length t'.formats
    within_at = slice_get_within t'.formats info.pool (Some format) listed_at

    pub format_at : (o : Option (Policy F)) → o ≡ get_or t'.formats info.pool o → o ≡ Some format
    format_at o read = format_read t'.formats info.pool o format listed_at read

-- what is known of a pool, as the fields of the collector have it
pub known_there : {F : Type 0} (layout : F → Layout) (t t' : TraceState F) (s : SegsState) (at : Addr) → t' ≡ t
    → CanFind layout t.formats s at → is_condemned_at s at.0 ≡ true → IsOfKnownPool layout t'.formats s at
known_there {F} layout t t' s at same can condemned =
    let P : TraceState F → Type 0 = λ u. CanFind layout u.formats s at in
    (subst P (sym same) can).condemned condemned

-- what was read of a segment has its owner
pub owner_read : (s : SegsState) (at : Addr) (info : SegmentInfo)
    → ((t : Segment) → segment_over s.segments at.0 ≡ Some t → Some info ≡ Some (info_of s t))
    → (t : Segment) → segment_over s.segments at.0 ≡ Some t
    → ◌≡◌ {A = Owner} (record { pool = info.pool; generation = info.generation }) (owner_of t)
owner_read s at info found t over =
    ap (λ (i : SegmentInfo). let o : Owner = record { pool = i.pool; generation = i.generation } in o)
    (same_info info (info_of s t) (found t over))

-- the owner of the segment over an address, if there is one
pub owner_found : (s : SegsState) (at : Addr) (owner : Owner)
    → (t : Segment) × (segment_over s.segments at.0 ≡ Some t) × (owner ≡ owner_of t)
    → (u : Segment) → segment_over s.segments at.0 ≡ Some u → owner ≡ owner_of u
owner_found s at owner there u over = there.2 ∙ ap (λ (t : Segment). owner_of t) (same_Some there.0 u (sym there.1 ∙ over))

-- what is read of the owner of the segment over an address, and the policy that is read of its pool
module _ {F : Type 0} (formats : List (Option (Policy F))) (chains : ChainsState) (s : SegsState) (at : Addr) (owner : Owner)
    (seg : Segment) (format : Policy F) (over : segment_over s.segments at.0 ≡ Some seg)
    (listed : slice_get formats seg.pool ≡ Some (Some format))
    (owned : (t : Segment) → segment_over s.segments at.0 ≡ Some t → owner ≡ owner_of t)
  where
    is_known : owner ≡ owner_of seg
    is_known = owned seg over

    pub pool_is : owner.pool ≡ seg.pool
    pool_is = ap (λ (o : Owner). o.pool) is_known

    generation_is : owner.generation ≡ seg.generation
    generation_is = ap (λ (o : Owner). o.generation) is_known

    pub listed_is : slice_get formats owner.pool ≡ Some (Some format)
    listed_is = ap (λ (n : ℕ). slice_get formats n) pool_is ∙ listed

    pub pool_within : owner.pool < length formats
    pool_within = slice_get_within formats owner.pool (Some format) listed_is

    pub policy_read : (o : Option (Policy F)) → o ≡ get_or formats owner.pool o → o ≡ Some format
    policy_read o read = format_read formats owner.pool o format listed_is read

    -- the policy that is there
    pub policy_is : (o : Option (Policy F)) → o ≡ get_or formats owner.pool o → (got : Policy F) → o ≡ Some got → got ≡ format
    policy_is o read got is = same_format got format (sym is ∙ policy_read o read)

    -- a policy that is known of the pool
    pub policy_known : (got : Policy F) → slice_get formats owner.pool ≡ Some (Some got) → got ≡ format
    policy_known got known =
        same_format got format (same_Some (Some got) (Some format) (sym known ∙ listed_is))

    pub target_is : (n : ℕ) → n ≡ target_generation (generations_of chains owner.pool) owner.generation → n ≡ target_of chains seg
    target_is n is =
        is ∙ ap (λ (p : ℕ). target_generation (generations_of chains p) owner.generation) pool_is
        ∙ ap (λ (g : ℕ). target_generation (generations_of chains seg.pool) g) generation_is

-- a block is found on a word
pub found_aligned : (f : Layout) (moves : Bool) (s : SegsState) (at : Addr) (found : Option Addr) → at.0 % bytes_of_word ≡ 0
    → (moves ≡ true → (to : ℕ) → IsForwarded f s.words at.0 to → to % bytes_of_word ≡ 0) → FindsIn f moves s at found
    → IfSome found (λ to. to.0 % bytes_of_word ≡ 0)
found_aligned f moves s at found aligned leads (has_moved to is forwarded) = leads is to.0 forwarded
found_aligned f moves s at found aligned leads (lies isnt is) =
    subst (λ (o : Option Addr). IfSome o (λ to. to.0 % bytes_of_word ≡ 0)) (sym is) (of_test (is_kept_at s at.0))
  where
    of_test : (b : Bool) → IfSome (if b then Some at else None) (λ to. to.0 % bytes_of_word ≡ 0)
    of_test true = aligned
    of_test false = tt

-- what is found in a condemned segment, by the policy that is read of its pool
module _ {F : Type 0} (layout : F → Layout) (t t' : TraceState F) (same : t' ≡ t) (s : SegsState) (at : Addr) (owner : Owner)
    (can : CanFind layout t.formats s at) (condemned : is_condemned_at s at.0 ≡ true)
    (there : (x : Segment) × (segment_over s.segments at.0 ≡ Some x) × (owner ≡ owner_of x))
  where
    of_known_pool : IsOfKnownPool layout t'.formats s at
    of_known_pool = known_there layout t t' s at same can condemned

    owned : (u : Segment) → segment_over s.segments at.0 ≡ Some u → owner ≡ owner_of u
    owned = owner_found s at owner there

    pub owner_within : owner.pool < length t'.formats
    owner_within =
        let k = of_known_pool in pool_within t'.formats t'.chains s at owner k.segment k.format k.over k.listed owned

    pub has_policy : (o : Option (Policy F)) → o ≡ get_or t'.formats owner.pool o → (policy : Policy F) × (o ≡ Some policy)
    has_policy o read =
        let k = of_known_pool in
        (k.format, policy_read t'.formats t'.chains s at owner k.segment k.format k.over k.listed owned o read)

    module _ (o : Option (Policy F)) (read : o ≡ get_or t'.formats owner.pool o) (got : Policy F) (is : o ≡ Some got) where
      got_is : got ≡ of_known_pool.format
      got_is =
          let k = of_known_pool in policy_is t'.formats t'.chains s at owner k.segment k.format k.over k.listed owned o read got is

      pub policy_listed : slice_get t.formats owner.pool ≡ Some (Some got)
      policy_listed =
          let k = of_known_pool in
          ap (λ (u : TraceState F). slice_get u.formats owner.pool) (sym same)
          ∙ listed_is t'.formats t'.chains s at owner k.segment k.format k.over k.listed owned
          ∙ ap (λ (p : Policy F). Some (Some p)) (sym got_is)

      finds_known : (found : Option Addr) → FindsIn (layout got.format) got.moves s at found
          → FindsIn (layout of_known_pool.format.format) of_known_pool.format.moves s at found
      finds_known found finds = let P : Policy F → Type 0 = λ p. FindsIn (layout p.format) p.moves s at found in subst P got_is finds

      pub finds_to : (found : Option Addr) → FindsIn (layout got.format) got.moves s at found → FindsTo layout t.formats s at found
      finds_to found finds =
          let k = of_known_pool in
          let P : TraceState F → Type 0 = λ u. FindsTo layout u.formats s at found in
          subst P same (in_pool k.segment k.format condemned k.over k.listed (finds_known found finds))

      pub finds_aligned : (found : Option Addr) → FindsIn (layout got.format) got.moves s at found
          → IfSome found (λ to. to.0 % bytes_of_word ≡ 0)
      finds_aligned found finds =
          found_aligned (layout of_known_pool.format.format) of_known_pool.format.moves s at found can.aligned of_known_pool.leads
          (finds_known found finds)
