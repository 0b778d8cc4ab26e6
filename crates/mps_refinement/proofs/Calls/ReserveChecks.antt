-- The checks of a `reserve` of a heap at rest, against the model's.
use Rattle.std.proofs.Common.{◌≡◌, ◌∙◌, ℕ, ◌-◌, ◌≤◌, Bool, true, false, refl, sym, ap, subst, List, ◌∷◌, length, Option, Some, None, Ok, Err, arith}
use Rattle.std.specs.Prelude.{not, ◌&&◌, is_some, slice_get, IsTrue}
use Rattle.mps_base.specs.declared.names.Name.{Name}
use Rattle.mps_base.specs.declared.refusal.Refusal.TheVariants as refusal
use Rattle.mps_buffer.specs.declared.point.Point.{Point}
use Rattle.mps_format.specs.Layout.{Layout, IsLawful}
use Rattle.mps_trace_laws.proofs.Image.Shaped.{new_length}
use Rattle.mps_laws.proofs.Same as same
use Rattle.mps_laws.proofs.Same.{Same, fits, same_then}
use Rattle.mps_laws.proofs.Sound.SoundGraph.{IsSoundGraph}
use Rattle.mps_model.specs.Allocating as model
use Rattle.mps_model.specs.Checked.{Checked, Numbered, ◌>>=◌, ◌>>◌, required, refuse_when}
use Rattle.mps_model.specs.Checked as checked
use Rattle.mps_model.specs.Graph as graph
use Rattle.mps_model.specs.Graph.{has_references, new_cells, new_cells_from}
use Rattle.mps_model.specs.World as world
use Rattle.mps_model.specs.World.{World, is_leaf_kind, pool_at}
use Rattle.mps_heap_spec.specs.Allocating.{check_reserve, takes_head}
use Rattle.mps_heap_spec.specs.declared.found.Kept.{Kept}
use Rattle.mps_heap_spec.specs.declared.found.Reserving.{Reserving}
use Rattle.mps_heap_spec.specs.State.{HeapState}
use Rattle.mps_format.specs.Pools.{format_of_pool, is_leaf_pool}
use Rattle.mps_format.specs.declared.pool.Pool.{Pool}
use Rattle.mps_refinement.specs.StandsFor.{AreParts, Past}
use Rattle.mps_refinement.proofs.Calls.MakingPoints.{held_alike}
use Rattle.mps_refinement.proofs.Lookups.Lookups.{IsPointFound, point_same}
use Rattle.mps_refinement.proofs.Lookups.PointPools.{IsAutomatic, pool_of}
use Rattle.mps_trace_laws.specs.Image.Memory.{pool_layout}
use Rattle.std.specs.Option.{option_map_or}

-- as many cells as the head says
cells_long : (f : Layout) → IsLawful f → (head : ℕ) → IsTrue (f.is_valid head) → f.size head ≡ length (new_cells f head)
cells_long f lawful head valid =
    let sizes = lawful.sizes head valid in
    let long = new_length f head 1 (f.size head - 1) in
    one_more (f.size head) (new_cells_from f head 1 (f.size head - 1)) long sizes.0
  where
    one_more : (n : ℕ) (cs : List graph.Cell) → length cs ≡ n - 1 → 2 ≤ n → n ≡ length (graph.HeadCell ∷ cs)
    one_more n cs e two = omega (arith, e, two)

none_there : {A : Type 0} (o : Option A) → is_some o ≡ false → o ≡ None
none_there None e = refl
none_there (Some x) e = absurd (Rattle.std.proofs.lemmas.Bool.true≢false e)

-- the point that a reserve found
module _ (w : World) (name : Name) (head : ℕ) where
  abbrev checked_after : Numbered graph.Point → Checked model.Reserving
  checked_after p =
      required (pool_at w p.value.pool) refusal.BadName >>= (λ q. refuse_when (not (model.takes_head w q head)) refusal.BadHead
      >> (refuse_when (is_some p.value.reservation) refusal.Open
      >> Ok (record { point = p; cells = new_cells (model.layout_of w q) head })))

  checked_open : (p : Numbered graph.Point) (q : world.Pool) (b c : Bool) (r : model.Reserving)
      → (refuse_when b refusal.BadHead >> (refuse_when c refusal.Open
      >> Ok (record { point = p; cells = new_cells (model.layout_of w q) head }))) ≡ Ok r → p ≡ r.point
  checked_open p q true c r e = absurd (cc)
  checked_open p q false true r e = absurd (cc)
  checked_open p q false false r e =
      let made : record { point = p; cells = new_cells (model.layout_of w q) head } ≡ r = cc in ap (λ (x : model.Reserving). x.point) made

  checked_pool : (p : Numbered graph.Point) (o : Option world.Pool) (r : model.Reserving)
      → (required o refusal.BadName >>= (λ q. refuse_when (not (model.takes_head w q head)) refusal.BadHead
      >> (refuse_when (is_some p.value.reservation) refusal.Open
      >> Ok (record { point = p; cells = new_cells (model.layout_of w q) head })))) ≡ Ok r → p ≡ r.point
  checked_pool p None r e = absurd (cc)
  checked_pool p (Some q) r e = checked_open p q (not (model.takes_head w q head)) (is_some p.value.reservation) r e

  pub checked_point : (r : model.Reserving) → model.check_reserve w name head ≡ Ok r → checked.point_named w name ≡ Ok r.point
  checked_point r e = of_point (checked.point_named w name) refl e
    where
      of_point : (x : Checked (Numbered graph.Point)) → checked.point_named w name ≡ x → (x >>= checked_after) ≡ Ok r
          → checked.point_named w name ≡ Ok r.point
      of_point (Err why) f g = absurd (cc)
      of_point (Ok p) f g = f ∙ ap Ok (checked_pool p (pool_at w p.value.pool) r g)

-- ---- its checks

module _ {F : Type 0} (layout : F → Layout) (past : Past) (h : HeapState F) (w : World) (parts : AreParts layout past h w)
    (sound : IsSoundGraph w) (name : Name) (head : ℕ) where
  -- what both rows come to
  pub record IsReserving (a : Reserving) (b : model.Reserving) : Type 0 where
    pub point : Numbered graph.Point
    pub format : Layout
    pub found : IsPointFound past h w a.point point
    pub closed : point.value.reservation ≡ None
    pub valid : (pool_layout w point.value.pool).is_valid head ≡ true
    pub words : a.words ≡ length (new_cells format head)
    pub is : b ≡ record { point = point; cells = new_cells format head }

  heads_alike : (p : Pool F) (q : world.Pool) (a : IsAutomatic layout w.formats p q)
      → takes_head layout p a.format head ≡ model.takes_head w q head
  heads_alike p q a =
      ap (λ (f : Layout). f.is_valid head && not (is_leaf_pool p && has_references f head)) (sym a.means)
      ∙ ap (λ b. (w.formats q.format).is_valid head && not (b && has_references (w.formats q.format) head)) a.leaf

  valid_where : (q : world.Pool) → not (model.takes_head w q head) ≡ false → (w.formats q.format).is_valid head ≡ true
  valid_where q e =
      (Rattle.std.proofs.lemmas.Bool.and_parts ((w.formats q.format).is_valid head)
      (not (is_leaf_kind q.kind && has_references (w.formats q.format) head))
      (not_false (model.takes_head w q head) e)).0
    where
      not_false : (b : Bool) → not b ≡ false → b ≡ true
      not_false true e = refl
      not_false false e = absurd (Rattle.std.proofs.lemmas.Bool.true≢false e)

  of_checks : (k : Kept Point) (n : Numbered graph.Point) (q : world.Pool) (format : F) (b c : Bool) → IsPointFound past h w k n
      → pool_at w n.value.pool ≡ Some q → w.formats q.format ≡ layout format → not (model.takes_head w q head) ≡ b
      → is_some n.value.reservation ≡ c
      → Same IsReserving
      (refuse_when b refusal.BadHead >> (refuse_when c refusal.Open >> Ok (record { point = k; words = (layout format).size head })))
      (refuse_when b refusal.BadHead >> (refuse_when c refusal.Open
      >> Ok (record { point = n; cells = new_cells (w.formats q.format) head })))
  of_checks k n q format true c found has means e g = same.refused
  of_checks k n q format false true found has means e g = same.refused
  of_checks k n q format false false found has means e g =
      fits (record {
        point = n;
        format = w.formats q.format;
        found = found;
        closed = none_there n.value.reservation g;
        valid =
            ap (λ (o : Option world.Pool). (w.formats (option_map_or (λ (x : world.Pool). x.format) o 0)).is_valid head) has
            ∙ valid_where q e;
        words = ap (λ (f : Layout). f.size head) (sym means)
            ∙ cells_long (w.formats q.format) (parts.lawful q.format) head (valid_where q e);
        is = refl;
      })

  of_point : (k : Kept Point) (n : Numbered graph.Point) → IsPointFound past h w k n
      → Same IsReserving
      (required (slice_get h.pools k.value.pool) refusal.BadName >>= (λ p. required (format_of_pool p) refusal.WrongPool
      >>= (λ format. refuse_when (not (takes_head layout p format head)) refusal.BadHead
      >> (refuse_when (is_some k.value.reservation) refusal.Open >> Ok (record { point = k; words = (layout format).size head })))))
      (required (pool_at w n.value.pool) refusal.BadName >>= (λ q. refuse_when (not (model.takes_head w q head)) refusal.BadHead
      >> (refuse_when (is_some n.value.reservation) refusal.Open
      >> Ok (record { point = n; cells = new_cells (model.layout_of w q) head }))))
  of_point k n found =
      let p = pool_of layout past h w parts sound n.number n.value found.has in
      let a = p.automatic in
      let ours : required (slice_get h.pools k.value.pool) refusal.BadName ≡ Ok p.pool =
      ap (λ number. required (slice_get h.pools number) refusal.BadName) found.fit.pool
      ∙ ap (λ o. required o refusal.BadName) p.kept in
      let formatted : required (format_of_pool p.pool) refusal.WrongPool ≡ Ok a.format = ap (λ o. required o refusal.WrongPool) a.has in
      let theirs : required (pool_at w n.value.pool) refusal.BadName ≡ Ok p.models = ap (λ o. required o refusal.BadName) p.has in
      subst (λ (x : Checked (Pool F)). Same IsReserving
      (x >>= (λ p. required (format_of_pool p) refusal.WrongPool
      >>= (λ format. refuse_when (not (takes_head layout p format head)) refusal.BadHead
      >> (refuse_when (is_some k.value.reservation) refusal.Open >> Ok (record { point = k; words = (layout format).size head })))))
      (required (pool_at w n.value.pool) refusal.BadName >>= (λ q. refuse_when (not (model.takes_head w q head)) refusal.BadHead
      >> (refuse_when (is_some n.value.reservation) refusal.Open
      >> Ok (record { point = n; cells = new_cells (model.layout_of w q) head }))))) (sym ours)
      (subst (λ (x : Checked F). Same IsReserving
      (x >>= (λ format. refuse_when (not (takes_head layout p.pool format head)) refusal.BadHead
      >> (refuse_when (is_some k.value.reservation) refusal.Open >> Ok (record { point = k; words = (layout format).size head }))))
      (required (pool_at w n.value.pool) refusal.BadName >>= (λ q. refuse_when (not (model.takes_head w q head)) refusal.BadHead
      >> (refuse_when (is_some n.value.reservation) refusal.Open
      >> Ok (record { point = n; cells = new_cells (model.layout_of w q) head }))))) (sym formatted)
      (subst (λ (x : Checked world.Pool). Same IsReserving
      (refuse_when (not (takes_head layout p.pool a.format head)) refusal.BadHead
      >> (refuse_when (is_some k.value.reservation) refusal.Open >> Ok (record { point = k; words = (layout a.format).size head })))
      (x >>= (λ q. refuse_when (not (model.takes_head w q head)) refusal.BadHead
      >> (refuse_when (is_some n.value.reservation) refusal.Open
      >> Ok (record { point = n; cells = new_cells (model.layout_of w q) head }))))) (sym theirs)
      (subst (λ (x : Bool). Same IsReserving
      (refuse_when (not x) refusal.BadHead
      >> (refuse_when (is_some k.value.reservation) refusal.Open >> Ok (record { point = k; words = (layout a.format).size head })))
      (refuse_when (not (model.takes_head w p.models head)) refusal.BadHead
      >> (refuse_when (is_some n.value.reservation) refusal.Open
      >> Ok (record { point = n; cells = new_cells (model.layout_of w p.models) head }))))
      (sym (heads_alike p.pool p.models a))
      (subst (λ (x : Bool). Same IsReserving
      (refuse_when (not (model.takes_head w p.models head)) refusal.BadHead
      >> (refuse_when x refusal.Open >> Ok (record { point = k; words = (layout a.format).size head })))
      (refuse_when (not (model.takes_head w p.models head)) refusal.BadHead
      >> (refuse_when (is_some n.value.reservation) refusal.Open
      >> Ok (record { point = n; cells = new_cells (model.layout_of w p.models) head }))))
      (sym (held_alike (length w.flips) found.fit.memory.reserved_at k.value.reservation n.value.reservation found.fit.reservation))
      (of_checks k n p.models a.format (not (model.takes_head w p.models head)) (is_some n.value.reservation) found p.has a.means refl
      refl)))))

  pub reserve_checked : Same IsReserving (check_reserve layout h name head) (model.check_reserve w name head)
  reserve_checked = same_then (point_same layout past h w parts name) of_point
