-- An object that is kept is white no longer: there are fewer moves to take.
use Rattle.std.proofs.Common.{◌≡◌, ◌∙◌, ◌+◌, ◌<◌, ◌≤◌, Bool, true, false, refl, sym, ap, List, Option, Some, subst, inl, inr, arith}
use Rattle.std.proofs.lemmas.Bool.{and_from, and_left, and_parts, cases_eq, true≢false}
use Rattle.std.specs.Prelude.{◌&&◌, cond, is_some, count_by}
use Rattle.mps_base.specs.Address.{Address, Id}
use Rattle.mps_model.specs.Graph.{contains, entry_at}
use Rattle.mps_model.specs.World.{World, live_ids}
use Rattle.mps_abstract.specs.Colours.{Colours, is_white, keeping}
use Rattle.mps_abstract.proofs.Addresses.{same_live_ids}
use Rattle.mps_abstract.proofs.Lists.{count_by-le, count_by-lt}
use Rattle.mps_trace_laws.specs.Image.Fixing.{address_moved}
use Rattle.mps_trace_laws.proofs.Image.Entries.{entry_at-set_same, entry_at-set_other}
use Rattle.mps_trace_laws.proofs.Image.Marked.{kept_not_white, others_white}
use Rattle.mps_trace_laws.specs.Fix.Room.{moving_left, white_left}

-- what is white after an object was kept was white
still_white : (condemned : List Id) (k : Colours) (t id : Id) → is_white condemned (keeping k t) id ≡ true → is_white condemned k id ≡ true
still_white condemned k t id is =
    elim (cases_eq id t) [
      | inl same ↦
          absurd (true≢false (sym is ∙ subst (λ n. is_white condemned (keeping k t) n ≡ false) (sym same) (kept_not_white condemned k t)))
      | inr other ↦ sym (others_white condemned k t id other) ∙ is
    ]

pub fewer_white : (condemned : List Id) (k : Colours) (t : Id) (live live' : List Id) → live' ≡ live → contains live t ≡ true
    → is_white condemned k t ≡ true → white_left condemned (keeping k t) live' < white_left condemned k live
fewer_white condemned k t live live' same there white =
    subst (λ ids. count_by (is_white condemned (keeping k t)) ids < count_by (is_white condemned k) live) (sym same)
    (count_by-lt (is_white condemned (keeping k t)) (is_white condemned k) live t (still_white condemned k t) there
    (kept_not_white condemned k t) white)

-- and two moves fewer if its pool moves its blocks
pub fewer_moving : (is_copying : Id → Bool) (condemned : List Id) (k : Colours) (t : Id) (live live' : List Id) → live' ≡ live
    → contains live t ≡ true → is_white condemned k t ≡ true
    → moving_left is_copying condemned (keeping k t) live' + cond (is_copying t) 1 0 ≤ moving_left is_copying condemned k live
fewer_moving is_copying condemned k t live live' same there white =
    subst (λ ids. moving_left is_copying condemned (keeping k t) ids + cond (is_copying t) 1 0 ≤ moving_left is_copying condemned k live)
    (sym same) (of_test (is_copying t) refl)
  where
    after : Id → Bool
    after id = is_white condemned (keeping k t) id && is_copying id

    before : Id → Bool
    before id = is_white condemned k id && is_copying id

    still : (id : Id) → after id ≡ true → before id ≡ true
    still id is =
        let both = and_parts (is_white condemned (keeping k t) id) (is_copying id) is in
        and_from (is_white condemned k id) (is_copying id) (still_white condemned k t id both.0) both.1

    of_test : (b : Bool) → is_copying t ≡ b
        → moving_left is_copying condemned (keeping k t) live + cond b 1 0 ≤ moving_left is_copying condemned k live
    of_test false isnt = let no_more = count_by-le after before live still in omega (arith, no_more)
    of_test true is =
        let less =
        count_by-lt after before live t still there (and_left (is_white condemned (keeping k t) t) (is_copying t)
        (kept_not_white condemned k t))
        (and_from (is_white condemned k t) (is_copying t) white is) in
        omega (arith, less)

-- an object that moves stays live
live_still : (addresses : List (Option Address)) (t : Id) (now to : Address) → entry_at addresses t ≡ Some now → (n : Id)
    → is_some (entry_at (address_moved addresses t to) n) ≡ is_some (entry_at addresses n)
live_still addresses t now to there n =
    elim (cases_eq n t) [
      | inl same ↦
          subst (λ m. is_some (entry_at (address_moved addresses t to) m) ≡ is_some (entry_at addresses m)) (sym same)
          (ap is_some (entry_at-set_same addresses t now there (Some to)) ∙ sym (ap is_some there))
      | inr other ↦ ap is_some (entry_at-set_other addresses t n (Some to) other)
    ]

pub same_live_moved : (w v : World) (t : Id) (now to : Address) → entry_at w.addresses t ≡ Some now
    → v.addresses ≡ address_moved w.addresses t to → live_ids v ≡ live_ids w
same_live_moved w v t now to there moved =
    same_live_ids w v (λ n. ap (λ a. is_some (entry_at a n)) moved ∙ live_still w.addresses t now to there n)
