-- Changes of what the client holds, and of what no collection moves.
use Rattle.std.proofs.Common.{◌≡◌, ◌∙◌, ◌⊎◌, ℕ, true, false, refl, ap, List, ◌++◌, Option, Some, None, subst, inl, inr, arith}
use Rattle.std.specs.Prelude.{Ok, Err, slice_get}
use Rattle.mps_base.specs.Address.{Id, Address}
use Rattle.mps_base.specs.declared.names.Name.{Name}
use Rattle.mps_base.specs.declared.names.Slot.{Slot}
use Rattle.mps_base.specs.declared.refusal.Refusal.{Refusal}
use Rattle.mps_base.specs.declared.refusal.Refusal.TheVariants as refusal
use Rattle.mps_model.specs.Graph.{Graph, AreaWord, Point, contains, entry_at, ids_of_client, ids_in_slots, ids_in_holds, ids_in_reservations, slots_of}
use Rattle.mps_model.specs.Collection.{is_condemned}
use Rattle.mps_model.specs.World.{World, is_live, is_copying_object, is_automatic_kind, pool_is}
use Rattle.mps_model.specs.LegalMove.{holds_something}
use Rattle.mps_model.specs.Checked.{Checked, Found, Numbered, ◌>>=◌, required, numbered, entry_in, number_named, as_table, as_area, as_point, slot_in, word_in, point_named}
use Rattle.mps_abstract.specs.Collecting.{Collecting, Running, is_white_in}
use Rattle.mps_abstract.proofs.Lists.{contains_append, contains_left, contains_right}
use Rattle.mps_abstract.proofs.Calls.ClientChange.{IsChange, change_keeps}
use Rattle.mps_abstract.proofs.Calls.ClientLists.{among_all, among_entries, entry_is_there}

-- ---- worlds with the same objects, addresses, segments, registrations and collection

abbrev pub beside : World → World → World
beside w v = record v {
  graph = record v.graph { objects = w.graph.objects; registered = w.graph.registered };
  segments = w.segments;
  addresses = w.addresses;
  collection = w.collection;
}

-- what the client holds of it is right
abbrev pub IsRightlyHeld : Collecting → (id : Id) → Type 0
IsRightlyHeld x id = (contains (ids_of_client x.world.graph) id ≡ true) ⊎ ((is_live x.world id ≡ true) × (is_white_in x id ≡ false))

pub record IsBeside (x : Collecting) (v : World) : Type 0 where
  pub copying : (id : Id) → is_condemned x.running id ≡ true → is_copying_object (beside x.world v) id ≡ true
      → is_copying_object x.world id ≡ true
  pub automatic_pools : (pool : ℕ) → pool_is is_automatic_kind x.world pool ≡ true → pool_is is_automatic_kind v pool ≡ true
  pub held : (id : Id) → contains (ids_of_client v.graph) id ≡ true → IsRightlyHeld x id
  pub holds : (base : Address) → holds_something x.world base ≡ true → holds_something (beside x.world v) base ≡ true

module _ (x : Collecting) (run : Running x) where
  beside_change : (v : World) → IsBeside x v → IsChange x (beside x.world v)
  beside_change v b = record {
    runs = run.runs;
    different = run.different;
    existing = omega arith;
    automatic = λ id h. h;
    weak = λ id h. h;
    copying = b.copying;
    automatic_pools = b.automatic_pools;
    live_still = λ id h used. h;
    live_before = λ id h. inl h;
    referred = λ id target h refers. inl (h, refers);
    held = b.held;
    registered = refl;
    addresses = λ id at is e. e;
    segments = λ base s is e. e;
    base_of = λ id at is e in_condemned. refl;
    holds = λ base is h. b.holds base h;
  }

  pub beside_keeps : (v : World) → IsBeside x v → Running (record x { world = beside x.world v })
  beside_keeps v b = change_keeps x run (beside x.world v) (beside_change v b)

  -- only what the client holds in tables, areas and messages changed, and names
  pub roots_keep : (g : Graph) → ((id : Id) → contains (ids_of_client (record g { points = x.world.graph.points })) id ≡ true
      → IsRightlyHeld x id)
      → Running (record x {
        world = record x.world {
          graph = record g { objects = x.world.graph.objects; registered = x.world.graph.registered; points = x.world.graph.points };
        };
      })
  roots_keep g held = beside_keeps (record x.world {
    graph = record g { objects = x.world.graph.objects; registered = x.world.graph.registered; points = x.world.graph.points };
  }) (record {
    copying = λ id is h. h;
    automatic_pools = λ pool h. h;
    held = held;
    holds = λ base h. h;
  })

-- ---- where the client holds something

pub data IsHeldIn (slots holds messages reservations : List Id) (id : Id) : Type 0 where
  in_slots : contains slots id ≡ true → IsHeldIn slots holds messages reservations id
  in_holds : contains holds id ≡ true → IsHeldIn slots holds messages reservations id
  in_messages : contains messages id ≡ true → IsHeldIn slots holds messages reservations id
  in_reservations : contains reservations id ≡ true → IsHeldIn slots holds messages reservations id

module _ (slots holds messages reservations : List Id) (id : Id) where
  pub held_where : contains (slots ++ holds ++ messages ++ reservations) id ≡ true → IsHeldIn slots holds messages reservations id
  held_where h = elim (contains_append ((slots ++ holds) ++ messages) reservations id h) [
    | inl e ↦ elim (contains_append (slots ++ holds) messages id e) [
      | inl f ↦ elim (contains_append slots holds id f) [ inl g ↦ in_slots g | inr g ↦ in_holds g ]
      | inr f ↦ in_messages f
    ]
    | inr e ↦ in_reservations e
  ]

  pub held_so : IsHeldIn slots holds messages reservations id → contains (slots ++ holds ++ messages ++ reservations) id ≡ true
  held_so (in_slots h) =
      contains_left ((slots ++ holds) ++ messages) reservations id
      (contains_left (slots ++ holds) messages id (contains_left slots holds id h))
  held_so (in_holds h) =
      contains_left ((slots ++ holds) ++ messages) reservations id
      (contains_left (slots ++ holds) messages id (contains_right slots holds id h))
  held_so (in_messages h) = contains_left ((slots ++ holds) ++ messages) reservations id (contains_right (slots ++ holds) messages id h)
  held_so (in_reservations h) = contains_right ((slots ++ holds) ++ messages) reservations id h

-- ---- entries that are found

abbrev value_or : {A : Type 0} → Checked A → A → A
value_or (Ok a) otherwise = a
value_or (Err why) otherwise = otherwise

pub same_Ok : {A : Type 0} (a b : A) → (let r : Checked A = Ok a in r) ≡ Ok b → a ≡ b
same_Ok a b e = ap (λ r. value_or r a) e

pub not_Ok : {A : Type 0} (why : Refusal) (b : A) → (let r : Checked A = Err why in r) ≡ Ok b → ⊥
not_Ok why b e = absurd cc

-- an entry of a list among lists
pub record IsFound {A : Type 0} (lists : ℕ → Option (List A)) (f : Found A) : Type 0 where
  pub list : lists f.number ≡ Some f.list
  pub value : slice_get f.list f.index ≡ Some f.value

module _ {A : Type 0} (lists : ℕ → Option (List A)) (f : Found A) where
  found_value : (number : ℕ) (list : List A) (index : ℕ) (o : Option A) → lists number ≡ Some list → slice_get list index ≡ o
      → (required o refusal.BadIndex >>= (λ value. Ok (record { number = number; list = list; index = index; value = value }))) ≡ Ok f
      → IsFound lists f
  found_value number list index None there e h = absurd (not_Ok refusal.BadIndex f h)
  found_value number list index (Some value) there e h =
      subst (λ (g : Found A). IsFound lists g) (same_Ok (record { number = number; list = list; index = index; value = value }) f h)
      (record { list = there; value = e })

  found_list : (number index : ℕ) (o : Option (List A)) → lists number ≡ o → (numbered number o >>= (λ t. entry_in t index)) ≡ Ok f
      → IsFound lists f
  found_list number index None there h = absurd (not_Ok refusal.BadName f h)
  found_list number index (Some list) there h = found_value number list index (slice_get list index) there refl h

  pub found : (o : Option ℕ) (index : ℕ)
      → (required o refusal.BadName >>= (λ number. numbered number (lists number) >>= (λ t. entry_in t index))) ≡ Ok f → IsFound lists f
  found None index h = absurd (not_Ok refusal.BadName f h)
  found (Some number) index h = found_list number index (lists number) refl h

pub slot_found : (w : World) (slot : Slot) (f : Found (Option ℕ)) → slot_in w slot ≡ Ok f → IsFound (entry_at w.graph.tables) f
slot_found w slot f h = found (entry_at w.graph.tables) f (number_named w slot.name as_table) slot.index h

pub word_found : (w : World) (slot : Slot) (f : Found AreaWord) → word_in w slot ≡ Ok f → IsFound (entry_at w.graph.areas) f
word_found w slot f h = found (entry_at w.graph.areas) f (number_named w slot.name as_area) slot.index h

-- what a slot holds the client holds
pub slot_held : (g : Graph) (f : Found (Option ℕ)) (id : Id) → IsFound (entry_at g.tables) f → f.value ≡ Some id
    → contains (ids_of_client g) id ≡ true
slot_held g f id found e = held_so (ids_in_slots g) (ids_in_holds g) g.messages (ids_in_reservations g) id
    (in_slots (among_all slots_of g.tables f.number (Some f.list) id (entry_is_there g.tables f.number f.list found.list)
    (among_entries f.list f.index id (found.value ∙ ap Some e))))

-- a thing by its number
module _ {A : Type 0} (things : ℕ → Option A) (f : Numbered A) where
  numbered_is : (number : ℕ) (o : Option A) → things number ≡ o → numbered number o ≡ Ok f → things f.number ≡ Some f.value
  numbered_is number None there h = absurd (not_Ok refusal.BadName f h)
  numbered_is number (Some a) there h =
      subst (λ (g : Numbered A). things g.number ≡ Some g.value) (same_Ok (record { number = number; value = a }) f h) there

  pub numbered_found : (o : Option ℕ) → (required o refusal.BadName >>= (λ number. numbered number (things number))) ≡ Ok f
      → things f.number ≡ Some f.value
  numbered_found None h = absurd (not_Ok refusal.BadName f h)
  numbered_found (Some number) h = numbered_is number (things number) refl h

pub point_found : (w : World) (name : Name) (p : Numbered Point) → point_named w name ≡ Ok p
    → entry_at w.graph.points p.number ≡ Some p.value
point_found w name p h = numbered_found (entry_at w.graph.points) p (number_named w name as_point) h
