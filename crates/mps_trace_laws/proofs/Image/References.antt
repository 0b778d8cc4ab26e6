-- What a lawful format reads in a reference word.
use Rattle.std.proofs.Common.{◌≡◌, ℕ, ◌+◌, ◌%◌, ◌^◌, ◌<◌, List, Option, Some, None, inl, inr, arith, slice_index}
use Rattle.std.specs.Prelude.{slice_get, IsTrue}
use Rattle.mps_base.specs.Address.{Address, Id, Word}
use Rattle.mps_format.specs.Layout.{Layout, IsLawful}
use Rattle.mps_model.specs.Graph.{ReferenceCell, Object, entry_at}
use Rattle.mps_trace_laws.specs.Image.Memory.{Setting, Lies, all_cells}
use Rattle.mps_trace_laws.specs.Image.Image.{MeansAt, Refers, AreShaped, IsAddress, LieApart, WordsStand}
use Rattle.mps_trace_laws.specs.Image.Fixing.{Target}

-- the address that is read from the word of a reference, and the word with another address
pub record ReadsAddress (f : Layout) (word : ℕ) (address : Address) (tag : ℕ) : Type 0 where
  pub target : f.target word ≡ address
  pub retarget : (to : Address) → IsAddress to → f.retarget word to ≡ to + tag

pub reads : (f : Layout) (word address tag : ℕ) → IsLawful f → IsAddress address → tag < 8 → word ≡ address + tag
    → ReadsAddress f word address tag
reads f word address tag lawful a low is =
    let small : word < 2 ^ 64 = omega (arith, is, a.small, low) in
    let rest : word % 8 ≡ tag = omega (arith, is, a.aligned, low) in
    record {
      target = let e = lawful.target_drops_tag word small in omega (arith, e, rest, is);
      retarget = λ to there.
          let e = lawful.retarget_keeps_tag word to small (omega (arith, there.small)) there.aligned in
          omega (arith, e, rest);
    }

-- of a cell that refers to a live object: what its word says, and what the address in it means
pub record FoundTarget (s : Setting) (addresses : List (Option Address)) (f : Layout) (t tag word now : ℕ) : Type 0 where
  pub object : Object
  pub address : Address
  pub not_null : 0 < address
  pub read : ReadsAddress f word address tag
  pub target : Target s addresses t address now object

module _ (s : Setting) (words : List ℕ) (addresses : List (Option Address)) (shaped : AreShaped s.objects s.layout)
    (placed : LieApart s addresses) (stand : WordsStand s words addresses) (all_read : (id : Id) → IsTrue (s.is_read id))
    (holder i : ℕ) (o : Object) (n : Word) (tag : ℕ) (lies : Lies s.objects addresses holder i o n) where
  address_of_meaning : (address : Address) (id : Id) → MeansAt addresses s.at_flip address id → IsAddress address
  address_of_meaning address id (inl e) = placed.address id address e
  address_of_meaning address id (inr e) = placed.address_at_flip id address e

  pub found : (t now : ℕ) → slice_get (all_cells o.body) i ≡ Some (ReferenceCell (Some t) tag) → entry_at addresses t ≡ Some now
      → FoundTarget s addresses (s.layout o.pool) t tag (slice_index words n) now
  found t now cell there =
      let stands : Refers addresses s.at_flip t tag (slice_index words n) =
      stand.cells holder i o n (ReferenceCell (Some t) tag) (all_read holder) lies cell
      in
      let low : tag < 8 = shaped.tags holder i o (Some t) tag lies.object cell in
      let made = shaped.targets holder i o t tag lies.object cell in
      let address : IsAddress stands.address = address_of_meaning stands.address t stands.means in
      record {
        object = made.0;
        address = stands.address;
        not_null = address.not_null;
        read = reads (s.layout o.pool) (slice_index words n) stands.address tag (shaped.lawful o.pool) address low stands.is;
        target = record { means = stands.means; there = there; object = made.1; automatic = made.2; read = all_read t };
      }

  -- a null reference reads as null
  pub found_null : slice_get (all_cells o.body) i ≡ Some (ReferenceCell None tag) → (s.layout o.pool).target (slice_index words n) ≡ 0
  found_null cell =
      let is : slice_index words n ≡ tag = stand.cells holder i o n (ReferenceCell None tag) (all_read holder) lies cell in
      let low : tag < 8 = shaped.tags holder i o None tag lies.object cell in
      let e = (shaped.lawful o.pool).target_drops_tag (slice_index words n) (omega (arith, is, low)) in
      omega (arith, e, is, low)
