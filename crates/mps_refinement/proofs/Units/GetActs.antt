-- The act of a `get` in the model: its checks, and what it reads in the world after them; and what two rows of checks come to.
use Rattle.std.proofs.Common.{◌≡◌, ◌∙◌, ℕ, refl, ap, subst, Option, Ok, Err}
use Rattle.mps_base.specs.declared.names.Slot.{Slot}
use Rattle.mps_base.specs.declared.refusal.Refusal.{Refusal}
use Rattle.mps_laws.proofs.Reading.{bind_ok, object_found}
use Rattle.mps_laws.proofs.Same as same
use Rattle.mps_laws.proofs.Same.{Same, fits}
use Rattle.mps_model.specs.declared.reply.Reply.TheVariants as reply
use Rattle.mps_model.specs.Accessing.{act_get}
use Rattle.mps_model.specs.Allocating.{with_slot}
use Rattle.mps_model.specs.Answer.{Replied}
use Rattle.mps_model.specs.Checked as model
use Rattle.mps_model.specs.Checked.{Act, Checked, Found, Numbered, ◌>>=◌, ◌>>◌, cells_of_body, reference_at, with_graph}
use Rattle.mps_model.specs.Graph.{Object}
use Rattle.mps_abstract.proofs.Calls.ClientBeside.{same_Ok}
use Rattle.mps_model.specs.World.{World}
use Rattle.mps_refinement.proofs.Lookups.Found.{again}
use Rattle.mps_refinement.proofs.Worlds.CellsByMoves.{found_again, references_in}

-- ---- the act of a `get`

-- the checks of an accepted `get`
pub record IsGot (w : World) (target source : Slot) (k : ℕ) : Type 0 where
  pub into : Found (Option ℕ)
  pub into_is : model.slot_in w target ≡ Ok into
  pub from : Found (Option ℕ)
  pub from_is : model.slot_in w source ≡ Ok from
  pub object : Numbered Object
  pub object_is : model.object_in w from.value ≡ Ok object
  pub reference : Option ℕ
  pub reference_is : reference_at (cells_of_body object.value.body) k ≡ Ok reference

-- what a reference is in a world, and the world after it was read
abbrev read_in : World → (into : Found (Option ℕ)) → (source : Option ℕ) → (k : ℕ) → Checked Act
read_in v into source k =
    model.object_in v source >>= (λ (now : Numbered Object). reference_at (cells_of_body now.value.body) k
    >>= (λ (reference : Option ℕ). model.done (with_graph v (with_slot v.graph into reference))))

-- the object is looked up in one world, and then read in another
abbrev checked_in : (judged after : World) → (into : Found (Option ℕ)) → (source : Option ℕ) → (k : ℕ) → Checked Act
checked_in judged after into source k =
    model.object_in judged source >>= (λ (object : Numbered Object). reference_at (cells_of_body object.value.body) k
    >> read_in after into source k)

pub got_parts : (w v : World) (target source : Slot) (k : ℕ) (a : Act) → act_get w v target source k ≡ Ok a → IsGot w target source k
got_parts w v target source k a e =
    let into =
    bind_ok (model.slot_in w target) (λ into. model.slot_in w source
    >>= (λ (from : Found (Option ℕ)). checked_in w v into from.value k)) a e in
    let from =
    bind_ok (model.slot_in w source) (λ (from : Found (Option ℕ)). checked_in w v into.0 from.value k) a into.2 in
    let object =
    bind_ok (model.object_in w from.0.value) (λ (object : Numbered Object). reference_at (cells_of_body object.value.body) k
    >> read_in v into.0 from.0.value k) a from.2 in
    let reference = there (reference_at (cells_of_body object.0.value.body) k) (read_in v into.0 from.0.value k) object.2 in
    record {
      into = into.0;
      into_is = into.1;
      from = from.0;
      from_is = from.1;
      object = object.0;
      object_is = object.1;
      reference = reference.0;
      reference_is = reference.1;
    }
  where
    there : (x : Checked (Option ℕ)) (next : Checked Act) → (x >> next) ≡ Ok a → (reference : Option ℕ) × (x ≡ Ok reference)
    there (Ok reference) next h = (reference, refl)
    there (Err why) next h = absurd cc

module _ (w v : World) (target source : Slot) (k : ℕ) (got : IsGot w target source k) where
  after_slots : (j : World) → model.slot_in j target ≡ Ok got.into → model.slot_in j source ≡ Ok got.from
      → act_get j v target source k ≡ checked_in j v got.into got.from.value k
  after_slots j e f =
      ap (λ (m : Checked (Found (Option ℕ))). m >>= (λ into. model.slot_in j source >>= (λ (from : Found (Option ℕ)).
      checked_in j v into from.value k))) e
      ∙ ap (λ (m : Checked (Found (Option ℕ))). m >>= (λ (from : Found (Option ℕ)). checked_in j v got.into from.value k)) f

  pub judged_before : act_get w v target source k ≡ read_in v got.into got.from.value k
  judged_before =
      after_slots w got.into_is got.from_is
      ∙ ap (λ (m : Checked (Numbered Object)). m >>= (λ (object : Numbered Object).
      reference_at (cells_of_body object.value.body) k >> read_in v got.into got.from.value k)) got.object_is
      ∙ ap (λ (m : Checked (Option ℕ)). m >> read_in v got.into got.from.value k) got.reference_is

  -- slots hold what they held
  module _ (slot_left : (slot : Slot) → model.slot_in v slot ≡ model.slot_in w slot) where
    pub judged_after : act_get v v target source k ≡ read_in v got.into got.from.value k
    judged_after =
        after_slots v (slot_left target ∙ got.into_is) (slot_left source ∙ got.from_is)
        ∙ again (model.object_in v got.from.value) (λ (object : Numbered Object). reference_at (cells_of_body object.value.body) k)
        (λ (reference : Option ℕ). model.done (with_graph v (with_slot v.graph got.into reference)))

    pub accepted_after : references_in v.graph.objects ≡ references_in w.graph.objects
        → (a : Act) × (act_get v v target source k ≡ Ok a) × ((reference : Option ℕ) × (a ≡ record {
          answer = Replied reply.Ok;
          world = with_graph v (with_slot v.graph got.into reference);
        }))
    accepted_after same =
        let found = object_found w got.from.value got.object got.object_is in
        let now =
        found_again w v got.from.value got.object k got.reference same got.object_is found.0 found.1 got.reference_is in
        let a : Act = record {
          answer = Replied reply.Ok;
          world = with_graph v (with_slot v.graph got.into now.2.0);
        } in (
          a,
          judged_after
              ∙ ap (λ (m : Checked (Numbered Object)). m >>= (λ (object : Numbered Object). reference_at (cells_of_body object.value.body) k
              >>= (λ (reference : Option ℕ). model.done (with_graph v (with_slot v.graph got.into reference))))) now.1
              ∙ ap (λ (m : Checked (Option ℕ)). m
              >>= (λ (reference : Option ℕ). model.done (with_graph v (with_slot v.graph got.into reference))))
              now.2.1,
          (now.2.0, refl),
        )

-- ---- what two rows of checks come to

-- what fits the value that the first came to
pub record IsThere {A B : Type 0} (Fits : A → B → Type 0) (a : A) : Type 0 where
  pub value : B
  pub fit : Fits a value

pub is_there : {A B : Type 0} {Fits : A → B → Type 0} {r : Checked A} {q : Checked B} (a : A) → Same Fits r q → r ≡ Ok a → IsThere Fits a
is_there {Fits = Fits} a (fits {a = v} {b = b} fit) e = record { value = b; fit = subst (λ u. Fits u b) (same_Ok v a e) fit }
is_there a same.refused e = absurd cc

pub refused_too : {A B : Type 0} {Fits : A → B → Type 0} {r : Checked A} {q : Checked B} (why : Refusal) → Same Fits r q → r ≡ Err why
    → q ≡ Err why
refused_too why (fits fit) e = absurd cc
refused_too why same.refused e = cc

pub accepted_too : {A B : Type 0} {Fits : A → B → Type 0} {r : Checked A} {q : Checked B} (a : A) → Same Fits r q → r ≡ Ok a
    → (b : B) × (q ≡ Ok b)
accepted_too a (fits {b = b} fit) e = (b, refl)
accepted_too a same.refused e = absurd cc
