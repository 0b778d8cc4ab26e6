use Rattle.std.proofs.Common.{◌≡◌, ◌∙◌, get_or, sym, ap, subst}
use Rattle.std.specs.Prelude.{Some, None, if◌then◌else◌}
use Rattle.std.specs.List.{position}
use Rattle.mps_sac.specs.State.{ClassState, CacheState, keeps_size, with_last_of_size, is_of_size}
use Rattle.mps_sac.proofs.Classes.{AreNone, IsFirst, are_none, is_first, kept_last, left_out, the_cache}
use Rattle.mps_sac.proofs.cache.Cache.keep.Goals as goal

none : (c : goal.In_default) → AreNone (is_of_size c.args.words) c.self.inside.classes.items
none c =
    let found : position (is_of_size c.args.words) c.self.inside.classes.items ≡ None = cc in
    are_none (is_of_size c.args.words) c.self.inside.classes.items found

pub returns-in_default-clause-value : goal.returns-in_default-clause-value
returns-in_default-clause-value c =
    sym (none c).keeps ∙ ap (λ (s : CacheState). keeps_size s.classes c.args.words) c.self.view_is

pub returns-in_default-clause-state : goal.returns-in_default-clause-state
returns-in_default-clause-state c =
    let P : CacheState → Type 0 =
    λ s. s ≡ (if keeps_size s.classes c.args.words
    then record s { classes = with_last_of_size s.classes c.args.words c.args.at.0 } else s) in
    let s = the_cache c.self.inside.pool c.self.inside.classes.items in
    let kept : CacheState = record s { classes = with_last_of_size s.classes c.args.words c.args.at.0 } in
    subst P c.self.view_is (sym (left_out (keeps_size s.classes c.args.words) kept s (none c).keeps))

abbrev class : goal.After-self-1 → ClassState
class c = get_or c.deref_mut.result.now c.in-Some.index c.index-deref_mut-index.result

-- the class that is found is the first of its size
there : (c : goal.After-self-1) → class c ≡ get_or c.self.inside.classes.items c.in-Some.index (class c)
there c = cc (c.index-deref_mut-index.is)

first : (c : goal.After-self-1) → IsFirst (is_of_size c.args.words) c.self.inside.classes.items c.in-Some.index (class c)
first c =
    let found : position (is_of_size c.args.words) c.self.inside.classes.items ≡ Some c.in-Some.index = cc in
    is_first (is_of_size c.args.words) c.self.inside.classes.items c.in-Some.index (class c) found (there c)

pub returns-clause-value : goal.returns-clause-value
returns-clause-value c =
    c.keep.ensures.value ∙ sym (first c).keeps ∙ ap (λ (s : CacheState). keeps_size s.classes c.args.words) c.self.view_is

pub returns-clause-state : goal.returns-clause-state
returns-clause-state c =
    kept_last (is_of_size c.args.words) c.self.inside.pool c.self.inside.classes.items c.deref_mut.result.now c.in-Some.index c.args.at.0
    (class c) c.keep.new.self c.deref_mut.ensures.value (there c) (first c) c.keep.ensures.state
    ∙ ap (λ (s : CacheState). if keeps_size s.classes c.args.words
    then record s { classes = with_last_of_size s.classes c.args.words c.args.at.0 } else s)
    c.self.view_is
