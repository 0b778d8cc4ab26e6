-- Which registrations are of blocks that lie elsewhere, one registration after the other.
use Rattle.std.proofs.Common.{◌≡◌, ◌≢◌, ◌∙◌, ℕ, ◌+◌, ◌<◌, List, length, Option, Some, sym, ap, subst, inl, inr, arith}
use Rattle.std.proofs.lemmas.Bool.{cases_lt}
use Rattle.std.proofs.lemmas.Option.{same_Some, slice_get-get_or}
use Rattle.std.specs.Prelude.{slice_get, slice_index_or}
use Rattle.mps_base.specs.Address.{Address}
use Rattle.mps_final.specs.State.{FinalsState}
use Rattle.mps_format.specs.Layout.{Layout}
use Rattle.mps_format.specs.declared.pool.Policy.{Policy}
use Rattle.mps_seg.specs.Segs.{SegsState}
use Rattle.mps_trace.specs.Registration.{LeadsTo, LieElsewhere}

-- the registration at a position, as it is read
pub listed_at : (before now : FinalsState) (position : ℕ) (from : Address) → now ≡ before → from ≡ slice_index_or now.registered position 0
    → position < length before.registered → slice_get before.registered position ≡ Some from
listed_at before now position from same is low =
    slice_get-get_or before.registered position 0 low
    ∙ ap Some (sym (is ∙ ap (λ (f : FinalsState). slice_index_or f.registered position 0) same))

module _ {F : Type 0} (layout : F → Layout) (formats : List (Option (Policy F))) (s : SegsState) where
  -- and one more
  pub one_more_elsewhere : (registered : List Address) (at : Address) (n : ℕ) (from now : Address)
      → LieElsewhere layout formats s n registered at → slice_get registered n ≡ Some from → LeadsTo layout formats s from now → now ≢ at
      → LieElsewhere layout formats s (n + 1) registered at
  one_more_elsewhere registered at n from now earlier is leads other position a low there =
      elim (cases_lt position n) [
        | inl before ↦ earlier position a before there
        | inr here ↦
            let same : n ≡ position = omega (arith, low, here) in
            let one = same_Some from a (sym is ∙ ap (slice_get registered) same ∙ there) in
            (now, subst (λ (b : Address). LeadsTo layout formats s b now) one leads, other)
      ]
