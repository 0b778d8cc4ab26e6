use Rattle.std.proofs.Common.{ℕ, ◌≡◌, ◌∙◌, List, get_or, sym, ap, subst}
use Rattle.std.specs.Prelude.{Some, None}
use Rattle.std.specs.List.{position}
use Rattle.std.specs.Option.{MatchOption}
use Rattle.mps_sac.specs.State.{ClassState, CacheState, last_of, without_last, blocks_of_size, without_last_of_size, is_of_size}
use Rattle.mps_sac.proofs.Classes.{IsFirst, are_none, is_first, last_taken, nothing_taken, the_cache}
use Rattle.mps_sac.proofs.cache.Cache.take.Goals as goal

pub returns-in_default-clause-value : goal.returns-in_default-clause-value
returns-in_default-clause-value c =
    let found : position (is_of_size c.args.words) c.self.inside.classes.items ≡ None = cc in
    let P : CacheState → Type 0 = λ s. last_of (blocks_of_size s.classes c.args.words) ≡ None in
    subst P c.self.view_is (nothing_taken (is_of_size c.args.words) c.self.inside.classes.items
    (are_none (is_of_size c.args.words) c.self.inside.classes.items found))

pub returns-in_default-clause-state : goal.returns-in_default-clause-state
returns-in_default-clause-state c =
    let found : position (is_of_size c.args.words) c.self.inside.classes.items ≡ None = cc in
    let none = are_none (is_of_size c.args.words) c.self.inside.classes.items found in
    let P : CacheState → Type 0 = λ s. s ≡ record s { classes = without_last_of_size s.classes c.args.words } in
    let same = sym (none.with_blocks (without_last _)) in
    subst P c.self.view_is (ap (λ cs. the_cache c.self.inside.pool cs) same)

abbrev class : goal.After-self-1 → ClassState
class c = get_or c.deref_mut.result.now c.in-Some.index c.index-deref_mut-index.result

-- the class that is found is the first of its kind
first : (c : goal.After-self-1) → IsFirst (is_of_size c.args.words) c.self.inside.classes.items c.in-Some.index (class c)
first c =
    let found : position (is_of_size c.args.words) c.self.inside.classes.items ≡ Some c.in-Some.index = cc in
    let there : class c ≡ get_or c.self.inside.classes.items c.in-Some.index (class c) =
    cc (c.index-deref_mut-index.is)
    in
    is_first (is_of_size c.args.words) c.self.inside.classes.items c.in-Some.index (class c) found there

pub returns-clause-value : goal.returns-clause-value
returns-clause-value c =
    let P : List ℕ → Type 0 = λ blocks. MatchOption c.take.result (last_of blocks ≡ None) (λ at. last_of blocks ≡ Some at.0) in
    let Q : CacheState → Type 0 =
    λ s. MatchOption c.take.result (last_of (blocks_of_size s.classes c.args.words) ≡ None)
    (λ at. last_of (blocks_of_size s.classes c.args.words) ≡ Some at.0)
    in
    subst Q c.self.view_is (subst P (sym (first c).blocks) c.take.ensures.value)

pub returns-clause-state : goal.returns-clause-state
returns-clause-state c =
    ap (λ cs. the_cache c.self.inside.pool cs)
    (last_taken (is_of_size c.args.words) c.self.inside.classes.items c.deref_mut.result.now c.in-Some.index (class c) c.take.new.self
    c.deref_mut.ensures.value (first c) c.take.ensures.state)
    ∙ ap (λ (s : CacheState). record s { classes = without_last_of_size s.classes c.args.words }) c.self.view_is
