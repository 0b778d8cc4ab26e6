-- A fix in words is a step of the abstract collector.
use Rattle.std.proofs.Common.{◌≡◌, ◌∙◌, ℕ, true, false, refl, sym, ap, List, [], ◌∷◌, Option, Some, subst}
use Rattle.std.specs.Prelude.{IsTrue, if◌then◌else◌}
use Rattle.mps_base.specs.Address.{Address, Id, address_of_word, address_of_grain}
use Rattle.mps_base.specs.Segment.{Segment, words_of_segment}
use Rattle.mps_base.specs.declared.moves.Move.{Move}
use Rattle.mps_model.specs.Collection.{Collection}
use Rattle.mps_model.specs.World.{pool_of, target_generation_for, World, is_live, is_copying_pool, id_at, is_at, numbers_of, first_id, with_tail}
use Rattle.mps_model.specs.Accessing.{address_or_null}
use Rattle.mps_model.specs.Effect.{segment_of_move, placing, holding, after_segment, after_moved, where_one, with_collection, world_after_moves}
use Rattle.mps_model.specs.Flip.{segment_for_move}
use Rattle.mps_abstract.specs.Colours.{Colours, keeping, AreDifferent}
use Rattle.mps_abstract.specs.Collecting.{Collecting, is_white_in}
use Rattle.mps_abstract.specs.Fixing.{passes, keeps, Keeps, marks, moves_to_place, moves_to_segment, stays, moved_to, stays_at, kept_by}
use Rattle.mps_abstract.proofs.Addresses.{id_at-live}
use Rattle.mps_trace_laws.specs.Image.Fixing.{address_moved, FixesOne, passed, kept, moved}
use Rattle.mps_trace_laws.specs.Image.Steps.{MayKeep, may_mark, may_stay, may_move, may_move_into, IsStep}

-- ---- the addresses after moves

-- what is the same in a world after moves but for the addresses
record Leads (w w' : World) (addresses : List (Option Address)) : Type 0 where
  pub addresses_are : w'.addresses ≡ addresses
  pub graph_same : w'.graph ≡ w.graph

module _ (w : World) (t : Id) (there : id_at w (address_or_null w t) ≡ Some t) where
  stay_leads : Leads w (world_after_moves w (stays_at w t ∷ [])) w.addresses
  stay_leads =
      subst (λ found. Leads w (where_one w found (λ n. with_collection w (placing n))) w.addresses) (sym there)
      (record { addresses_are = refl; graph_same = refl })

  move_leads : (to : Address) → Leads w (world_after_moves w (moved_to w t to ∷ [])) (address_moved w.addresses t to)
  move_leads to =
      subst (λ found. Leads w (where_one w found (λ n. after_moved w n to)) (address_moved w.addresses t to)) (sym there)
      (record { addresses_are = refl; graph_same = refl })

  -- a world with one segment more has the same addresses, so the same object is there
  segment_leads : (s : Segment) → Leads w (after_segment w s) w.addresses
  segment_leads s =
      elim (is_copying_pool w s.pool)
      as (λ b. Leads w (if b then with_tail (holding w s) s.pool s.generation (words_of_segment s) else holding w s) w.addresses) [
        | true ↦ record { addresses_are = refl; graph_same = refl }
        | false ↦ record { addresses_are = refl; graph_same = refl }
      ]

  move_into_leads : (grain grains : ℕ) (to : Address)
      → Leads w (world_after_moves w (segment_for_move w t to grains ∷ moved_to w t to ∷ [])) (address_moved w.addresses t to)
  move_into_leads grain grains to = go (segment_leads s)
    where
      s : Segment
      s = segment_of_move to grains (pool_of w t)
          (target_generation_for w t)

      go : Leads w (after_segment w s) w.addresses
          → Leads w (where_one (after_segment w s) (id_at (after_segment w s) (address_or_null w t))
          (λ n. after_moved (after_segment w s) n to))
          (address_moved w.addresses t to)
      go l =
          let found : id_at (after_segment w s) (address_or_null w t) ≡ Some t =
          ap (λ addresses. first_id (numbers_of (is_at (address_or_null w t)) 0 addresses)) l.addresses_are ∙ there
          in
          subst (λ f. Leads w (where_one (after_segment w s) f (λ n. after_moved (after_segment w s) n to))
          (address_moved w.addresses t to))
          (sym found)
          (record { addresses_are = ap (λ addresses. address_moved addresses t to) l.addresses_are; graph_same = l.graph_same })

-- ---- the step

module _ (x : Collecting) (t : Id) (different : AreDifferent x.world.addresses) (live : IsTrue (is_live x.world t)) where
  abbrev there : id_at x.world (address_or_null x.world t) ≡ Some t
  there = id_at-live x.world t different live

  kept_step : (addresses' : List (Option Address)) → IsTrue (is_white_in x t) → {ms : List Move} {c : Collection}
      → Keeps x.world x.running t ms c → Leads x.world (world_after_moves x.world ms) addresses'
      → IsStep x t addresses' (keeping x.colours t)
  kept_step addresses' white {ms} {c} keep leads = record {
    moves = ms;
    after = kept_by x t ms c;
    addresses_after = leads.addresses_are;
    colours_after = refl;
    graph_same = leads.graph_same;
    fixes = λ ids ms' y rest. keeps white keep rest;
  }

  may_keep : (addresses' : List (Option Address)) → IsTrue (is_white_in x t) → MayKeep x.world t addresses'
      → IsStep x t addresses' (keeping x.colours t)
  may_keep addresses' white (may_mark other same) =
      subst (λ a. IsStep x t a (keeping x.colours t)) (sym same)
      (kept_step x.world.addresses white (marks other) (record { addresses_are = refl; graph_same = refl }))
  may_keep addresses' white (may_stay copying no_room same) =
      subst (λ a. IsStep x t a (keeping x.colours t)) (sym same)
      (kept_step x.world.addresses white (stays copying no_room) (stay_leads x.world t there))
  may_keep addresses' white (may_move word copying place free same) =
      subst (λ a. IsStep x t a (keeping x.colours t)) (sym same)
      (kept_step (address_moved x.world.addresses t (address_of_word word)) white (moves_to_place copying place free)
      (move_leads x.world t there (address_of_word word)))
  may_keep addresses' white (may_move_into grain grains copying place unused same) =
      subst (λ a. IsStep x t a (keeping x.colours t)) (sym same)
      (kept_step (address_moved x.world.addresses t (address_of_grain grain)) white (moves_to_segment copying place unused)
      (move_into_leads x.world t there grain grains (address_of_grain grain)))

  step : (addresses' : List (Option Address)) (k' : Colours) → (IsTrue (is_white_in x t) → MayKeep x.world t addresses')
      → FixesOne x.running.condemned x.world.addresses x.colours (Some t) addresses' k' → IsStep x t addresses' k'
  step addresses' k' may (passed u w) = record {
    moves = [];
    after = x;
    addresses_after = refl;
    colours_after = refl;
    graph_same = refl;
    fixes = λ ids ms y rest. passes w rest;
  }
  step addresses' k' may (kept u w) = may_keep addresses' w (may w)
  step addresses' k' may (moved u from to w e) = may_keep addresses' w (may w)
