-- Objects of a well-formed world: they have words, and are automatic exactly where their pool is.
use Rattle.std.proofs.Common.{◌≡◌, ◌-◌, ◌≤◌, Bool, true, false, refl, List, [], ◌∷◌, length, Option, Some, None, arith}
use Rattle.std.proofs.lemmas.Bool.{false≢true, and_parts, leb-true}
use Rattle.std.specs.Prelude.{◌&&◌, ◌||◌, not, nat_le}
use Rattle.std.specs.List.{list_all}
use Rattle.std.specs.Option.{option_map_or}
use Rattle.mps_model.proofs.Taking.{sized_where_allowed}
use Rattle.mps_model.specs.Allocating.{allows_size, takes_head}
use Rattle.mps_model.specs.Graph.{Cell, HeadCell, Object, Body, Automatic, Manual, size_of, size_of_body, new_cells, new_cells_from, targets_of_cells, is_automatic, is_automatic_body}
use Rattle.mps_model.specs.World.{World, Pool, is_automatic_kind, is_weak_kind, pool_at, pool_is, object_is}
use Rattle.mps_model.specs.WellFormed.{is_right_object, is_right_body, are_right_cells, are_shaped}

-- an object has words
pub object_has_words : (w : World) (o : Object) → is_right_object w o ≡ true → 1 ≤ size_of o
object_has_words w o right = of_pool (pool_at w o.pool) right
  where
    some_shaped : (like : Cell) (likes cells : List Cell) → are_shaped (like ∷ likes) cells ≡ true → 1 ≤ length cells
    some_shaped like likes [] h = absurd (false≢true h)
    some_shaped like likes (c ∷ cs) h = omega arith

    of_body : (p : Pool) (b : Body) → is_right_body w p b ≡ true → 1 ≤ size_of_body b
    of_body p (Automatic head cells is_weak) h =
        let parts = and_parts (is_automatic_kind p.kind && are_right_cells w p head cells) (not is_weak || is_weak_kind p.kind) h in
        let both = and_parts (is_automatic_kind p.kind) (are_right_cells w p head cells) parts.0 in
        let right = and_parts (takes_head w p head && are_shaped (new_cells (w.formats p.format) head) cells)
        (list_all (object_is is_automatic w) (targets_of_cells cells)) both.1 in
        some_shaped HeadCell (new_cells_from (w.formats p.format) head 1 ((w.formats p.format).size head - 1)) cells
        (and_parts (takes_head w p head) (are_shaped (new_cells (w.formats p.format) head) cells) right.0).1
    of_body p (Manual words) h =
        let parts = and_parts (not (is_automatic_kind p.kind)) (allows_size p.kind (length words)) h in
        leb-true 1 (length words) (and_parts (nat_le 1 (length words)) (nat_le (length words) 65536)
        (sized_where_allowed p.kind (length words) parts.1)).0

    of_pool : (q : Option Pool) → option_map_or (λ p. is_right_body w p o.body) q false ≡ true → 1 ≤ size_of o
    of_pool None h = absurd (false≢true h)
    of_pool (Some p) h = of_body p o.body h

-- an object is automatic exactly where its pool is
pub pool_kind : (w : World) (o : Object) → is_right_object w o ≡ true → pool_is is_automatic_kind w o.pool ≡ is_automatic o
pool_kind w o right = of_pool (pool_at w o.pool) right
  where
    of_not : (b : Bool) → not b ≡ true → b ≡ false
    of_not true h = absurd (false≢true h)
    of_not false h = refl

    of_body : (p : Pool) (b : Body) → is_right_body w p b ≡ true → is_automatic_kind p.kind ≡ is_automatic_body b
    of_body p (Automatic head cells is_weak) h =
        (and_parts (is_automatic_kind p.kind) (are_right_cells w p head cells)
        (and_parts (is_automatic_kind p.kind && are_right_cells w p head cells) (not is_weak || is_weak_kind p.kind) h).0).0
    of_body p (Manual words) h =
        of_not (is_automatic_kind p.kind) (and_parts (not (is_automatic_kind p.kind)) (allows_size p.kind (length words)) h).0

    of_pool : (q : Option Pool) → option_map_or (λ p. is_right_body w p o.body) q false ≡ true
        → option_map_or (λ (p : Pool). is_automatic_kind p.kind) q false ≡ is_automatic o
    of_pool None h = absurd (false≢true h)
    of_pool (Some p) h = of_body p o.body h
