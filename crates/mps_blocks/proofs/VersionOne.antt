-- A log of version 1 tells of blocks alone.
use Rattle.std.proofs.Common.{◌≡◌, ℕ, Bool, true, false, cond, eqb, List, [], ◌∷◌, Option, Some, None, refl, ap, subst, ◌∙◌}
use Rattle.std.specs.Prelude.{option_and_then, slice_index}
use Rattle.std.specs.List.{All, AllByRecursion}
use Rattle.std.specs.Option.{option_map}
use Rattle.std.proofs.lemmas.Bool.{eqb-true}
use Rattle.std.proofs.lemmas.List.Elements.{recursion_from_All}
use Rattle.mps_base.specs.Record.{Record, intern_code, label_code}
use Rattle.mps_event.specs.declared.version.Version.TheVariants.{One}
use Rattle.mps_event.specs.Grammar.{AreFields, IsRecord}
use Rattle.mps_model.specs.Replay.{Store, store_after, replay_from, replay}
use Rattle.mps_model.specs.Replayed.{State, at_the_start, after_interning, after_labelling, replayed_after, replayed_from, replayed}

no_intern : (code : ℕ) (fields : List ℕ) (b : Bool) → eqb code intern_code ≡ b → AreFields One code fields → b ≡ false
no_intern code fields false e h = refl
no_intern code fields true e h = absurd (subst (λ (c : ℕ). AreFields One c fields) (eqb-true code intern_code e) h)

no_label : (code : ℕ) (fields : List ℕ) (b : Bool) → eqb code label_code ≡ b → AreFields One code fields → b ≡ false
no_label code fields false e h = refl
no_label code fields true e h = absurd (subst (λ (c : ℕ). AreFields One c fields) (eqb-true code label_code e) h)

abbrev pub blocks_of : Option State → Option Store
blocks_of o = option_map (λ (s : State). s.blocks) o

blocks_kept : (s : State) (o : Option Store) → blocks_of (option_map (λ blocks. record s { blocks = blocks }) o) ≡ o
blocks_kept s None = refl
blocks_kept s (Some blocks) = refl

blocks_alone : (s : State) (r : Record) → IsRecord One r → blocks_of (replayed_after s r) ≡ store_after s.blocks r
blocks_alone s r h =
    let intern : eqb r.code intern_code ≡ false = no_intern r.code r.fields (eqb r.code intern_code) refl h.fields in
    let label : eqb r.code label_code ≡ false = no_label r.code r.fields (eqb r.code label_code) refl h.fields in
    let mapped = option_map (λ blocks. record s { blocks = blocks }) (store_after s.blocks r) in
    let id = slice_index r.fields 0 in
    ap (λ (b : Bool). blocks_of (cond b (after_interning s id)
    (cond (eqb r.code label_code) (after_labelling s id (slice_index r.fields 1)) mapped))) intern
    ∙ ap (λ (b : Bool). blocks_of (cond b (after_labelling s id (slice_index r.fields 1)) mapped)) label
    ∙ blocks_kept s (store_after s.blocks r)

then_blocks : (o : Option State) (p : Option Store) (rs : List Record) → blocks_of o ≡ p
    → ((s : State) → blocks_of (replayed_from s rs) ≡ replay_from s.blocks rs)
    → blocks_of (option_and_then (λ after. replayed_from after rs) o) ≡ option_and_then (λ after. replay_from after rs) p
then_blocks None p rs e h = ap (λ (q : Option Store). option_and_then (λ after. replay_from after rs) q) e
then_blocks (Some s) p rs e h = h s ∙ ap (λ (q : Option Store). option_and_then (λ after. replay_from after rs) q) e

from_blocks : (s : State) (rs : List Record) → AllByRecursion (IsRecord One) rs → blocks_of (replayed_from s rs) ≡ replay_from s.blocks rs
from_blocks s [] h = refl
from_blocks s (r ∷ rs) h = then_blocks (replayed_after s r) (store_after s.blocks r) rs (blocks_alone s r h.0) (λ t. from_blocks t rs h.1)

pub version_one : (records : List Record) → All (IsRecord One) records → blocks_of (replayed records) ≡ replay records
version_one records h = from_blocks at_the_start records (recursion_from_All (IsRecord One) records h)
