-- The runs of blocks and of all that is covered, after a block has moved.
use Rattle.std.proofs.Common.{Bool, ◌≡◌, ◌∙◌, ℕ, sym, ap, List, ◌∷◌, ◌++◌, Option, arith}
use Rattle.std.proofs.lemmas.List.{append_assoc}
use Rattle.std.specs.Prelude.{◌≢◌}
use Rattle.mps_base.specs.Address.{Address, Id, Word, word_of}
use Rattle.mps_base.specs.Run.{Run, in_order}
use Rattle.mps_model.specs.Graph.{Object, Reservation, size_of}
use Rattle.mps_model.specs.World.{extent, extents_of, reserved_extents}
use Rattle.mps_abstract.specs.Colours.{Colours}
use Rattle.mps_trace_laws.specs.Image.Memory.{Setting, Memory, LiesReserved}
use Rattle.mps_trace_laws.specs.Image.Image.{LieApart, RunsStand}
use Rattle.mps_trace_laws.specs.Image.Fixing.{run_moved_in, copied_in, address_moved}
use Rattle.mps_trace_laws.proofs.Image.InOrder.{BeginElsewhere, in_order-moved}
use Rattle.mps_laws.proofs.InOrder.{all_append}
use Rattle.mps_trace_laws.proofs.Image.Extents.{all_reserved, parted}
use Rattle.mps_trace_laws.proofs.Image.Marked.{begins_there, begins_apart}
use Rattle.mps_trace_laws.proofs.Image.Copied.{IsMove, to_apart}

-- no live reservation begins where no word of one is
pub reserved_elsewhere : (s : Setting) (addresses : List (Option Address)) (n : Word) → LieApart s addresses
    → ((point l : ℕ) (r : Reservation) → LiesReserved s.points s.point_memories point l r n → ⊥)
    → BeginElsewhere n (reserved_extents s.points s.point_memories)
reserved_elsewhere s addresses n placed free =
    all_reserved (λ (r : Run). r.from ≢ n) s.points s.point_memories (λ i r m live has e.
    free i 0 r (record {
      memory = m;
      reserved = live;
      has = has;
      within = placed.reserved_positive i r live;
      is = let here : word_of m.reserved_at ≡ n = e in omega (arith, here);
    }))

module _ (s : Setting) (m : Memory) (addresses : List (Option Address)) (k : Colours) (t : Id) (from to : Address) (o : Object)
    (words : List ℕ) (kept grey : Word → Bool) (placed : LieApart s addresses)
    (v : IsMove s addresses k t from to o) where
  pub runs_moved : RunsStand s m addresses → RunsStand s (copied_in m words kept grey from to (size_of o)) (address_moved addresses t to)
  runs_moved r =
      let d = parted s.objects addresses t from o v.object v.there in
      let old =
      d.others (λ (x : Run). x.from ≢ word_of from)
      (λ j bt p x e h. begins_apart s addresses placed j t bt from e v.there x)
      in
      let new = d.others (λ (x : Run). x.from ≢ word_of to) (λ j bt p x e h. to_apart s addresses k t from to o placed v j bt e) in
      let reserved = reserved_extents s.points s.point_memories in
      let not_reserved : BeginElsewhere (word_of from) reserved =
      reserved_elsewhere s addresses (word_of from) placed (λ point l r there.
      placed.reserved_apart t point 0 l o r (word_of from) (begins_there s addresses placed t from o v.there v.object) there)
      in
      let after' = d.after ++ reserved in
      let before : extents_of s.objects addresses ++ reserved ≡ d.before ++ extent from (size_of o) ∷ after' =
      ap (λ rs. rs ++ reserved) d.is ∙ append_assoc d.before (extent from (size_of o) ∷ d.after) reserved
      in
      let after : extents_of s.objects (address_moved addresses t to) ++ reserved ≡ d.before ++ extent to (size_of o) ∷ after' =
      ap (λ rs. rs ++ reserved) (d.moved to) ∙ append_assoc d.before (extent to (size_of o) ∷ d.after) reserved
      in
      record {
        blocks =
            ap (λ rs. run_moved_in rs from to (size_of o)) (r.blocks ∙ ap in_order d.is)
            ∙ sym (ap in_order (d.moved to)
            ∙ in_order-moved d.before (extent from (size_of o)) (extent to (size_of o)) d.after old.0 old.1 new.0);
        reservations = r.reservations;
        covered =
            ap (λ rs. run_moved_in rs from to (size_of o)) (r.covered ∙ ap in_order before)
            ∙ sym (ap in_order after
            ∙ in_order-moved d.before (extent from (size_of o)) (extent to (size_of o)) after' old.0
            (all_append (λ (x : Run). x.from ≢ word_of from) d.after reserved old.1 not_reserved) new.0);
      }
