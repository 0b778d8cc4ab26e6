-- One object more: its words are those of its block, and the others' are as they were.
use Rattle.std.proofs.Common.{◌≡◌, ◌∙◌, ◌⊎◌, ℕ, ◌+◌, ◌<◌, refl, ap, List, [], ◌∷◌, ◌++◌, length, Option, Some, subst, inl, inr, arith}
use Rattle.std.proofs.lemmas.Option.{slice_get_within}
use Rattle.std.specs.Prelude.{slice_get}
use Rattle.mps_base.specs.Address.{Address, Id, Word, word_of}
use Rattle.mps_model.specs.Graph.{Object, entry_at, size_of}
use Rattle.mps_trace_laws.specs.Image.Memory.{Lies}
use Rattle.mps_trace_laws.specs.Image.Changes.{addresses_made}
use Rattle.mps_trace_laws.proofs.Image.Entries.{slice_get-last, entry_last, slice_get-pushed, entry_pushed, entry_within}

module _ (objects : List Object) (addresses : List (Option Address)) (o : Object) (at : Address)
    (numbered : length addresses ≡ length objects)
  where
    abbrev new : Id
    new = length objects

    pub old_below : (id : Id) (a : Address) → entry_at addresses id ≡ Some a → id < new
    old_below id a e = omega (arith, entry_within addresses id a e, numbered)

    pub old_object : (id : Id) (p : Object) → id < new → slice_get (objects ++ o ∷ []) id ≡ Some p → slice_get objects id ≡ Some p
    old_object id p lt e =
        elim (slice_get-pushed objects o id p e) [
          | inl x ↦ absurd (omega (arith, lt, x.0))
          | inr x ↦ x
        ]

    pub lies_made : (id i : ℕ) (p : Object) (n : Word) → Lies (objects ++ o ∷ []) (addresses_made addresses at) id i p n
        → ((id ≡ new) × (p ≡ o) × (i < size_of o) × (n ≡ word_of at + i)) ⊎ Lies objects addresses id i p n
    lies_made id i p n l =
        elim (entry_pushed addresses at id l.at l.address) [
          | inl e ↦
              let here : id ≡ new = e.0 ∙ numbered in
              elim (slice_get-pushed objects o id p l.object) [
                | inl x ↦
                    inl (here, x.1, subst (λ (q : Object). i < size_of q) x.1 l.within, l.is ∙ ap (λ y. word_of y + i) e.1)
                | inr x ↦ absurd (omega (arith, slice_get_within objects id p x, here))
              ]
          | inr e ↦
              inr (record {
                at = l.at;
                address = e;
                object = old_object id p (old_below id l.at e) l.object;
                within = l.within;
                is = l.is;
              })
        ]

    pub new_address : entry_at (addresses_made addresses at) new ≡ Some at
    new_address = subst (λ y. entry_at (addresses_made addresses at) y ≡ Some at) numbered (entry_last addresses at)

    pub new_there : (i : ℕ) → i < size_of o → Lies (objects ++ o ∷ []) (addresses_made addresses at) new i o (word_of at + i)
    new_there i lt = record {
      at = at;
      address = new_address;
      object = slice_get-last objects o;
      within = lt;
      is = refl;
    }
