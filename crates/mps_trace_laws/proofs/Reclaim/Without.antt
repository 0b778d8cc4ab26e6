-- The addresses of objects, without those of objects that have gone: one by one, and in the model.
use Rattle.std.proofs.Common.{◌≡◌, ◌∙◌, ℕ, zero, suc, ◌<◌, true, false, refl, sym, ap, subst, List, [], ◌∷◌, ◌++◌, Option, Some, None, arith}
use Rattle.std.proofs.lemmas.Bool.{eq-eqb, ne_eqb, and_parts}
use Rattle.std.proofs.lemmas.List.{append_assoc, append-nil}
use Rattle.std.proofs.lemmas.Option.{none-some, same_Some}
use Rattle.std.specs.Prelude.{◌==◌, ◌||◌, if◌then◌else◌, slice_set, nat_lt}
use Rattle.mps_base.specs.Address.{Address, Id}
use Rattle.mps_base.specs.Run.{Run}
use Rattle.mps_base.specs.Trail.{Moves, with_move}
use Rattle.mps_base.specs.declared.moves.Move.TheVariants as moves
use Rattle.mps_seg.specs.Segs.{at_word}
use Rattle.mps_amc.specs.Reclaiming.{moves_freed}
use Rattle.mps_model.specs.Graph.{contains, entry_at, is_automatic}
use Rattle.mps_model.specs.World.{World, object_is}
use Rattle.mps_model.specs.Effect.{after_free, where_one, without_object, with_collection, reclaiming, segment_base_of, world_after_move, world_after_moves}
use Rattle.mps_model.specs.Flip.{at_address}
use Rattle.mps_model.specs.Units.{frees_at, is_ascending}
use Rattle.mps_abstract.specs.Colours.{AreDifferent}
use Rattle.mps_abstract.proofs.Addresses.{id_at-address}
use Rattle.mps_abstract.proofs.Lists.{contains_here, contains_later}
use Rattle.mps_abstract.proofs.Sweeping.{contains-above}
use Rattle.mps_trace_laws.proofs.Image.Entries.{entry_left, entry_at-set_other}
use Rattle.mps_trace_laws.specs.Reclaim.Freed.{addresses_of, addresses_without, unless_gone}

-- ---- one by one

pub without_none : (ps : List (Option Address)) → addresses_without [] ps ≡ ps
without_none [] = refl
without_none (None ∷ ps) = ap (λ xs. None ∷ xs) (without_none ps)
without_none (Some at ∷ ps) = ap (λ xs. Some at ∷ xs) (without_none ps)

gone_twice : (at : Address) (ats : List Address) (p : Option Address)
    → unless_gone ats (unless_gone (at ∷ []) p) ≡ unless_gone (at ∷ ats) p
gone_twice at ats None = refl
gone_twice at ats (Some b) =
    elim (at == b) as (λ t. unless_gone ats (if t || false then None else Some b) ≡ (if t || contains ats b then None else Some b)) [
      | true ↦ refl
      | false ↦ refl
    ]

pub without_more : (at : Address) (ats : List Address) (ps : List (Option Address))
    → addresses_without ats (addresses_without (at ∷ []) ps) ≡ addresses_without (at ∷ ats) ps
without_more at ats [] = refl
without_more at ats (p ∷ ps) =
    ap (λ x. x ∷ addresses_without ats (addresses_without (at ∷ []) ps)) (gone_twice at ats p)
    ∙ ap (λ xs. unless_gone (at ∷ ats) p ∷ xs) (without_more at ats ps)

other_stays : (at : Address) (p : Option Address) → (p ≡ Some at → ⊥) → unless_gone (at ∷ []) p ≡ p
other_stays at None other = refl
other_stays at (Some b) other =
    ap (λ t. if t || false then None else Some b) (ne_eqb at b (λ e. other (ap Some (sym e))))

others_stay : (at : Address) (ps : List (Option Address)) → ((j : ℕ) → entry_at ps j ≡ Some at → ⊥) → addresses_without (at ∷ []) ps ≡ ps
others_stay at [] other = refl
others_stay at (p ∷ ps) other =
    ap (λ x. x ∷ addresses_without (at ∷ []) ps) (other_stays at p (other zero))
    ∙ ap (λ xs. p ∷ xs) (others_stay at ps (λ j. other (suc j)))

own_goes : (at : Address) (p : Option Address) → p ≡ Some at → unless_gone (at ∷ []) p ≡ None
own_goes at None e = refl
own_goes at (Some b) e = ap (λ t. if t || false then None else Some b) (eq-eqb at b (sym (same_Some b at e)))

-- where no two objects have one address, one is taken out
pub without_one : (ps : List (Option Address)) (id : Id) (at : Address) → entry_at ps id ≡ Some at
    → ((j : ℕ) → entry_at ps j ≡ Some at → j ≡ id) → slice_set ps id None ≡ addresses_without (at ∷ []) ps
without_one [] id at there only = absurd (none-some at there)
without_one (p ∷ ps) zero at there only =
    ap (λ xs. None ∷ xs) (sym (others_stay at ps (λ j e. let same : suc j ≡ 0 = only (suc j) e in omega (arith, same))))
    ∙ ap (λ x. x ∷ addresses_without (at ∷ []) ps) (sym (own_goes at p there))
without_one (p ∷ ps) (suc id) at there only =
    ap (λ x. x ∷ slice_set ps id None) (sym (other_stays at p (λ e. let same : 0 ≡ suc id = only zero e in omega (arith, same))))
    ∙ ap (λ xs. unless_gone (at ∷ []) p ∷ xs)
    (without_one ps id at there (λ j e. let same : suc j ≡ suc id = only (suc j) e in omega (arith, same)))

-- what is left was there, and wasn't freed
pub left_was : (freed : List Address) (ps : List (Option Address)) (id : Id) (at : Address)
    → entry_at (addresses_without freed ps) id ≡ Some at → (entry_at ps id ≡ Some at) × (contains freed at ≡ false)
left_was freed [] id at e = absurd (none-some at e)
left_was freed (None ∷ ps) zero at e = absurd (none-some at e)
left_was freed (Some b ∷ ps) zero at e =
    elim (contains freed b) as (λ t. contains freed b ≡ t → (if t then None else Some b) ≡ Some at
    → (Some b ≡ Some at) × (contains freed at ≡ false)) [
      | true ↦ (λ is g. absurd (none-some at g))
      | false ↦ (λ is g. (g, ap (contains freed) (sym (same_Some b at g)) ∙ is))
    ] refl e
left_was freed (p ∷ ps) (suc id) at e = left_was freed ps id at e

-- what isn't freed is left
pub still_left : (freed : List Address) (ps : List (Option Address)) (id : Id) (at : Address) → entry_at ps id ≡ Some at
    → contains freed at ≡ false → entry_at (addresses_without freed ps) id ≡ Some at
still_left freed [] id at e out = absurd (none-some at e)
still_left freed (None ∷ ps) zero at e out = absurd (none-some at e)
still_left freed (Some b ∷ ps) zero at e out =
    ap (λ t. if t then None else Some b) (ap (contains freed) (same_Some b at e) ∙ out) ∙ e
still_left freed (p ∷ ps) (suc id) at e out = still_left freed ps id at e out

-- ---- in the model

-- an object lies at an address
pub record LiesAt (ps : List (Option Address)) (at : Address) : Type 0 where
  pub id : Id
  pub address : entry_at ps id ≡ Some at

pub different_left : (ps : List (Option Address)) (id : Id) (at : Address) → entry_at ps id ≡ Some at → AreDifferent ps
    → AreDifferent (slice_set ps id None)
different_left ps id at there different i j b e f =
    different i j b (entry_left ps id at there i b e).1 (entry_left ps id at there j b f).1

pub lies_still : (ps : List (Option Address)) (id : Id) (at b : Address) → entry_at ps id ≡ Some at → at < b → LiesAt ps b
    → LiesAt (slice_set ps id None) b
lies_still ps id at b there up x = record {
  id = x.id;
  address =
      entry_at-set_other ps id x.id None
      (λ same. let e = same_Some b at (sym x.address ∙ ap (entry_at ps) same ∙ there) in omega (arith, up, e)) ∙ x.address;
}

free_addresses : (w : World) (id : Id) (at : Address) → (after_free w id at).addresses ≡ slice_set w.addresses id None
free_addresses w id at =
    elim (object_is is_automatic w id)
    as (λ t. (if t then with_collection (without_object w id) (reclaiming (segment_base_of w at))
    else without_object w id).addresses ≡ slice_set w.addresses id None) [ true ↦ refl | false ↦ refl ]

freed_addresses : (w : World) (id : Id) (at : Address) → AreDifferent w.addresses → entry_at w.addresses id ≡ Some at
    → (world_after_move w (moves.Free (at_address at))).addresses ≡ slice_set w.addresses id None
freed_addresses w id at different there =
    ap (λ o. (where_one w o (λ n. after_free w n at)).addresses) (id_at-address w id at different there) ∙ free_addresses w id at

pub frees_lead : (above : ℕ) (ats : List Address) (w : World) → AreDifferent w.addresses → is_ascending above ats ≡ true
    → ((at : Address) → contains ats at ≡ true → LiesAt w.addresses at)
    → (world_after_moves w (frees_at ats)).addresses ≡ addresses_without ats w.addresses
frees_lead above [] w different asc each = sym (without_none w.addresses)
frees_lead above (at ∷ ats) w different asc each =
    let parts = and_parts (nat_lt above at) (is_ascending at ats) asc in
    let x = each at (contains_here at ats) in
    let v = world_after_move w (moves.Free (at_address at)) in
    let lead = freed_addresses w x.id at different x.address in
    let rest =
    frees_lead at ats v (subst AreDifferent (sym lead) (different_left w.addresses x.id at x.address different)) parts.1
    (λ b h. subst (λ ps. LiesAt ps b) (sym lead) (lies_still w.addresses x.id at b x.address (contains-above at ats b parts.1 h)
    (each b (contains_later at ats b h))))
    in
    rest
    ∙ ap (addresses_without ats)
    (lead ∙ without_one w.addresses x.id at x.address (λ j e. different j x.id at e x.address))
    ∙ without_more at ats w.addresses

pub frees_appended : (rs : List Run) (m : Moves) → (moves_freed rs m).moves ≡ m.moves ++ frees_at (addresses_of rs)
frees_appended [] m = sym (append-nil m.moves)
frees_appended (r ∷ rs) m =
    frees_appended rs (with_move m (moves.Free (at_word r.from)))
    ∙ append_assoc m.moves (moves.Free (at_word r.from) ∷ []) (frees_at (addresses_of rs))
