-- After the first splat of a collection nothing moves: what lies somewhere after moves lay there before them.
use Rattle.std.proofs.Common.{◌≡◌, ◌∙◌, ℕ, Bool, true, false, refl, sym, ap, subst, List, [], ◌∷◌, Option, Some, None, inl, inr}
use Rattle.std.proofs.lemmas.Bool.{and_parts, cases_eq}
use Rattle.std.proofs.lemmas.Option.{none-some}
use Rattle.std.specs.Prelude.{if◌then◌else◌, not, option_and_then, slice_set}
use Rattle.mps_base.specs.Address.{Address, Id}
use Rattle.mps_base.specs.Segment.{words_of_segment}
use Rattle.mps_base.specs.declared.moves.Move.{Move}
use Rattle.mps_base.specs.declared.moves.Move.TheVariants as moves
use Rattle.mps_laws.proofs.Lookups.{entry_at-set_none, entry_at-set_other}
use Rattle.mps_laws.specs.Staying.{is_flip}
use Rattle.mps_model.specs.Effect.{after_free, after_post, after_splat, holding, placing, reclaiming, segment_base_of, segment_of_move, where_one, with_collection, without_object, world_after_move, world_after_moves}
use Rattle.mps_model.specs.Graph.{dependent_in, entry_at, is_automatic}
use Rattle.mps_model.specs.LegalMove.{AreLegalMoves, IsLegalMove, first_move}
use Rattle.mps_model.specs.World.{World, id_at, is_copying_pool, object_is, with_tail}
use Rattle.mps_refinement.specs.Following.{CellOf, Following, clearing, ending, following_move, none_flips}
use Rattle.mps_refinement.proofs.Following.Kept.{IsFollowable, followable_after}
use Rattle.mps_refinement.proofs.Following.Legal.{not_flip, while_tracing}

-- ---- cells that were cleared stay so

abbrev pub AreSome : List CellOf → Type 0
AreSome cells = cells ≡ [] → ⊥

clearing_some : (cell : ℕ) (o : Option ℕ) (f : Following) → AreSome f.cells → AreSome (clearing cell o f).cells
clearing_some cell None f some = some
clearing_some cell (Some d) f some = λ e. absurd cc

pub ending_same : (o : Option ℕ) (f : Following) → (ending o f).cells ≡ f.cells
ending_same None f = refl
ending_same (Some id) f = refl

some_after : (w : World) (f : Following) (m : Move) → AreSome f.cells → AreSome (following_move w f m).cells
some_after w f (moves.Splat holder cell) some =
    clearing_some cell (option_and_then (dependent_in f.pairs) (id_at w holder.0)) f some
some_after w f (moves.Free at) some = subst AreSome (sym (ending_same (id_at w at.0) f)) some
some_after w f (moves.Seg base grains pool generation) some = some
some_after w f (moves.Unseg base) some = some
some_after w f (moves.Flip zones chain generation) some = some
some_after w f moves.End some = some
some_after w f (moves.Moved from to) some = some
some_after w f (moves.Stay at) some = some
some_after w f (moves.Post at) some = some
some_after w f (moves.Commit at words pool) some = some
some_after w f (moves.Alloc at words pool) some = some

-- ---- addresses

-- what lies somewhere in a world lay there in another
abbrev pub LayThere : (after before : World) → Type 0
LayThere v w = (j : Id) (at : Address) → entry_at v.addresses j ≡ Some at → entry_at w.addresses j ≡ Some at

pub one_lay : (w : World) (o : Option ℕ) (change : ℕ → World) → ((id : ℕ) → LayThere (change id) w) → LayThere (where_one w o change) w
one_lay w None change each = λ j at e. e
one_lay w (Some id) change each = each id

gone_lay : (w : World) (id : Id) → LayThere (without_object w id) w
gone_lay w id j at e = elim (cases_eq id j) [
  | inl same ↦
      absurd (none-some at (sym (entry_at-set_none w.addresses id)
      ∙ ap (entry_at (slice_set w.addresses id None)) same ∙ e))
  | inr other ↦ sym (entry_at-set_other w.addresses id j None other) ∙ e
]

freed_lay : (w : World) (id at : ℕ) → LayThere (after_free w id at) w
freed_lay w id at =
    elim (object_is is_automatic w id) as (λ b. LayThere
    (if b then with_collection (without_object w id) (reclaiming (segment_base_of w at)) else without_object w id) w) [
      | true ↦ gone_lay w id
      | false ↦ gone_lay w id
    ]

module _ (is_weak : Id → Bool) where
  move_lay : (w : World) (f : Following) → IsFollowable is_weak w f → AreSome f.cells → (before : Option Move) (m : Move)
      (next : Option Move) → IsLegalMove w before m next → LayThere (world_after_move w m) w
  move_lay w f k some before (moves.Seg base grains pool generation) next legal =
      elim (is_copying_pool w pool) as (λ b. LayThere
      (if b then with_tail (holding w (segment_of_move base.0 grains pool generation)) pool generation
      (words_of_segment (segment_of_move base.0 grains pool generation))
      else holding w (segment_of_move base.0 grains pool generation)) w) [
        | true ↦ (λ j at e. e)
        | false ↦ (λ j at e. e)
      ]
  move_lay w f k some before (moves.Unseg base) next legal = λ j at e. e
  move_lay w f k some before (moves.Flip zones chain generation) next legal = λ j at e. e
  move_lay w f k some before moves.End next legal = λ j at e. e
  move_lay w f k some before (moves.Moved from to) next legal =
      absurd (some (while_tracing is_weak w f k before (moves.Moved from to) next legal refl))
  move_lay w f k some before (moves.Stay at) next legal =
      one_lay w (id_at w at.0) (λ id. with_collection w (placing id)) (λ id j a e. e)
  move_lay w f k some before (moves.Splat holder cell) next legal =
      one_lay w (id_at w holder.0) (λ id. after_splat w id cell) (λ id j a e. e)
  move_lay w f k some before (moves.Post at) next legal = one_lay w (id_at w at.0) (after_post w) (λ id j a e. e)
  move_lay w f k some before (moves.Commit at words pool) next legal = λ j a e. e
  move_lay w f k some before (moves.Alloc at words pool) next legal = λ j a e. e
  move_lay w f k some before (moves.Free at) next legal =
      one_lay w (id_at w at.0) (λ id. after_free w id at.0) (λ id. freed_lay w id at.0)

  pub moves_lay : (w : World) (f : Following) (before : Option Move) (ms : List Move) → IsFollowable is_weak w f → AreSome f.cells
      → none_flips ms ≡ true → AreLegalMoves w before ms → LayThere (world_after_moves w ms) w
  moves_lay w f before [] k some none legal = λ j at e. e
  moves_lay w f before (m ∷ ms) k some none legal = λ j at e.
      let parts = and_parts (not (is_flip m)) (none_flips ms) none in
      move_lay w f k some before m (first_move ms) legal.0 j at
      (moves_lay (world_after_move w m) (following_move w f m) (Some m) ms
      (followable_after is_weak w f k m (not_flip (is_flip m) parts.0)) (some_after w f m some) parts.1 legal.1 j at e)
