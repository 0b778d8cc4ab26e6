-- The checks of calls, one after the other: what each found holds of what comes after it.
use Rattle.std.proofs.Common.{◌≡◌, ℕ, Bool, true, false, refl, ap, Option, Some, None, Ok, Err, subst, sym}
use Rattle.std.proofs.lemmas.Option.{none-some, same_Some}
use Rattle.std.specs.Prelude.{not, option_and_then, slice_get, slice_set}
use Rattle.mps_base.specs.declared.names.Name.{Name}
use Rattle.mps_base.specs.declared.refusal.Refusal.{Refusal}
use Rattle.mps_base.specs.declared.refusal.Refusal.TheVariants as refusal
use Rattle.mps_model.specs.Graph.{Graph, Point, Thing, ChainThing, PoolThing, TableThing, AreaThing, BlocksThing, PointThing, DependencyThing, TransformThing, CacheThing, LabelThing, entry_at, thing_named, without_name, Cache, PoolFrames}
use Rattle.mps_model.specs.World.{World, Pool, has_frames, Dependency}
use Rattle.mps_model.specs.Checked.{Act, Checked, Numbered, ◌>>=◌, ◌>>◌, as_point, as_pool, as_transform, number_named, numbered, required, refuse_when, point_named, pool_named, transform_named, as_cache, cache_named, as_dependency, dependency_named}
use Rattle.mps_model.specs.Frames.{frames_named, frames_of}
use Rattle.mps_model.specs.Making.{graph_without_root}
use Rattle.mps_changes.specs.Change.{ForAct, accepted, refused}
use Rattle.mps_changes.proofs.Frames.{found_pool}

-- a fact of a graph without a table, and of one without an area, holds of it without a root
pub without_root : (Holds : Graph → Type 0) (g : Graph) (name : Name) (o : Option Thing) (left : Graph)
    → graph_without_root g name o ≡ Some left
    → ((n : ℕ) → o ≡ Some (TableThing n) → Holds (record g { tables = slice_set g.tables n None; names = without_name g.names name }))
    → ((n : ℕ) → o ≡ Some (AreaThing n) → Holds (record g { areas = slice_set g.areas n None; names = without_name g.names name }))
    → Holds left
without_root Holds g name None left e table area = absurd (none-some left e)
without_root Holds g name (Some (TableThing n)) left e table area = subst Holds (same_Some _ left e) (table n refl)
without_root Holds g name (Some (AreaThing n)) left e table area = subst Holds (same_Some _ left e) (area n refl)
without_root Holds g name (Some (ChainThing n)) left e table area = absurd (none-some left e)
without_root Holds g name (Some (PoolThing n)) left e table area = absurd (none-some left e)
without_root Holds g name (Some (BlocksThing n)) left e table area = absurd (none-some left e)
without_root Holds g name (Some (PointThing n)) left e table area = absurd (none-some left e)
without_root Holds g name (Some (DependencyThing n)) left e table area = absurd (none-some left e)
without_root Holds g name (Some (TransformThing n)) left e table area = absurd (none-some left e)
without_root Holds g name (Some (CacheThing n)) left e table area = absurd (none-some left e)
without_root Holds g name (Some (LabelThing n)) left e table area = absurd (none-some left e)

pub with_value : {A : Type 0} {P : World → Type 0} (x : Checked A) {f : A → Checked Act} → ((a : A) → x ≡ Ok a → ForAct P (f a))
    → ForAct P (x >>= f)
with_value (Ok a) next = next a refl
with_value (Err why) next = refused

pub after_check : {A : Type 0} {P : World → Type 0} (x : Checked A) {y : Checked Act} → ForAct P y → ForAct P (x >> y)
after_check (Ok a) next = next
after_check (Err why) next = refused

pub unless : {P : World → Type 0} (b : Bool) (why : Refusal) {y : Checked Act} → (b ≡ false → ForAct P y)
    → ForAct P (refuse_when b why >> y)
unless true why next = refused
unless false why next = next refl

pub for_world : (P : World → Type 0) (v : World) (x : Checked Act) → ForAct P x → P v → P (Rattle.mps_model.specs.Reply.world_from v x)
for_world P v (Ok a) (accepted p) q = p
for_world P v (Err why) refused q = q

pub required-is : {A : Type 0} (o : Option A) (why : Refusal) (a : A) → required o why ≡ Ok a → o ≡ Some a
required-is (Some x) why a e = let same : x ≡ a = cc in ap Some same
required-is None why a e = absurd (cc)

numbered-is : {A : Type 0} (n : ℕ) (o : Option A) (p : Numbered A) → numbered n o ≡ Ok p → (n ≡ p.number) × (o ≡ Some p.value)
numbered-is n (Some x) p e =
    let same : record { number = n; value = x } ≡ p = cc in (
      ap (λ (q : Numbered _). q.number) same,
      ap (λ (q : Numbered _). Some q.value) same,
    )
numbered-is n None p e = absurd (cc)

pub named_by : {A : Type 0} (o : Option ℕ) (look : ℕ → Option A) (p : Numbered A)
    → (required o refusal.BadName >>= (λ number. numbered number (look number))) ≡ Ok p
    → (o ≡ Some p.number) × (look p.number ≡ Some p.value)
named_by None look p e = absurd (cc)
named_by (Some n) look p e =
    let q = numbered-is n (look n) p e in (ap Some q.0, subst (λ (k : ℕ). look k ≡ Some p.value) q.0 q.1)

pub point_named-is : (w : World) (name : Name) (p : Numbered Point) → point_named w name ≡ Ok p
    → (number_named w name as_point ≡ Some p.number) × (entry_at w.graph.points p.number ≡ Some p.value)
point_named-is w name p e = named_by (number_named w name as_point) (λ n. entry_at w.graph.points n) p e

pub pool_named-is : (w : World) (name : Name) (p : Numbered Pool) → pool_named w name ≡ Ok p → slice_get w.pools p.number ≡ Some p.value
pool_named-is w name p e = (named_by (number_named w name as_pool) (λ n. slice_get w.pools n) p e).1

transform_thing : (o : Option Thing) (n : ℕ) → required (option_and_then as_transform o) refusal.BadName ≡ Ok n
    → o ≡ Some (TransformThing n)
transform_thing None n e = absurd cc
transform_thing (Some (TransformThing m)) n e = let same : m ≡ n = cc in ap (λ k. Some (TransformThing k)) same
transform_thing (Some (ChainThing m)) n e = absurd cc
transform_thing (Some (PoolThing m)) n e = absurd cc
transform_thing (Some (TableThing m)) n e = absurd cc
transform_thing (Some (AreaThing m)) n e = absurd cc
transform_thing (Some (BlocksThing m)) n e = absurd cc
transform_thing (Some (PointThing m)) n e = absurd cc
transform_thing (Some (DependencyThing m)) n e = absurd cc
transform_thing (Some (CacheThing m)) n e = absurd cc
transform_thing (Some (LabelThing m)) n e = absurd cc

pub transform_named-is : (w : World) (name : Name) (n : ℕ) → transform_named w name ≡ Ok n
    → thing_named w.graph name ≡ Some (TransformThing n)
transform_named-is w name n e = transform_thing (thing_named w.graph name) n e

pub cache_named-is : (w : World) (name : Name) (q : Numbered Cache) → cache_named w name ≡ Ok q
    → slice_get w.graph.caches q.number ≡ Some q.value
cache_named-is w name q e = (named_by (number_named w name as_cache) (λ n. slice_get w.graph.caches n) q e).1

pub dependency_named-is : (w : World) (name : Name) (d : Numbered Dependency) → dependency_named w name ≡ Ok d
    → slice_get w.dependencies d.number ≡ Some d.value
dependency_named-is w name d e = (named_by (number_named w name as_dependency) (λ n. slice_get w.dependencies n) d e).1

pub frames_named-is : (w : World) (name : Name) (f : PoolFrames) → frames_named w name ≡ Ok f → frames_of w.graph f.pool ≡ Some f
frames_named-is w name f e = of_pool (pool_named w name) e
  where
    of_kind : (p : Numbered Pool) (b : Bool)
        → (refuse_when b refusal.WrongPool >> required (frames_of w.graph p.number) refusal.WrongPool) ≡ Ok f
        → frames_of w.graph f.pool ≡ Some f
    of_kind p true g = absurd cc
    of_kind p false g =
        let there = required-is (frames_of w.graph p.number) refusal.WrongPool f g in
        subst (λ (n : ℕ). frames_of w.graph n ≡ Some f) (sym (found_pool w.graph.frames p.number f there)) there

    of_pool : (x : Checked (Numbered Pool))
        → (x >>= (λ (p : Numbered Pool). refuse_when (not (has_frames p.value.kind)) refusal.WrongPool
        >> required (frames_of w.graph p.number) refusal.WrongPool)) ≡ Ok f
        → frames_of w.graph f.pool ≡ Some f
    of_pool (Err why) g = absurd cc
    of_pool (Ok p) g = of_kind p (not (has_frames p.value.kind)) g

-- of an act after a check whose value it uses
pub andthen : {A : Type 0} {Holds : World → Type 0} (x : Checked A) {f : A → Checked Act} → ((a : A) → ForAct Holds (f a))
    → ForAct Holds (x >>= f)
andthen x next = with_value x (λ a is. next a)

-- of an act after a check whose fact it uses
pub checked : {A : Type 0} {P : World → Type 0} (x : Checked A) {y : Checked Act} → ((a : A) → x ≡ Ok a → ForAct P y) → ForAct P (x >> y)
checked (Ok a) next = next a refl
checked (Err why) next = refused
