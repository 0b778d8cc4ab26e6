-- What a flip does with the slots of tables and with messages.
use Rattle.std.specs.Prelude.{◌≡◌, ℕ, ◌+◌, ◌<◌, Option, Some, List, [], ◌∷◌, length, slice_index_or, slice_set, refl}
use Rattle.mps_base.specs.Address.{Address}
use Rattle.mps_base.specs.Trail.{Moves}
use Rattle.mps_base.specs.declared.address.Addr.{Addr}
use Rattle.mps_format.specs.Layout.{Layout}
use Rattle.mps_final.specs.State.{FinalsState}
use Rattle.mps_gen.specs.State.{ChainsState}
use Rattle.mps_root.specs.State.{RootsState, items_of, with_item}
use Rattle.mps_seg.specs.Segs.{SegsState}
use Rattle.mps_trace.specs.Trace.{TraceState, Traced, traced, CanFixAt, FixesTo}
use Rattle.mps_format.specs.declared.pool.Policy.{Policy}

-- what is done with a root that has an address: null stays, and any other is fixed
pub data FixesRoot {F : Type 0} (layout : F
    → Layout) (formats : List (Option (Policy F))) (chains : ChainsState) (x : Traced) (at : Address)
    : Traced → (answer : Address) → Type 0
  where
    is_null : at ≡ 0 → FixesRoot layout formats chains x at x 0
    leads : {y : Traced} (to : Addr) → 0 < at → FixesTo layout formats chains x (record { 0 = at }) y to
        → FixesRoot layout formats chains x at y to.0

-- a root is null or can be fixed
abbrev pub CanFixRootAt : {F : Type 0} → (F → Layout) → (formats : List (Option (Policy F))) → ChainsState → Traced → (at : Address)
    → Type 0
CanFixRootAt layout formats chains x at = 0 < at → CanFixAt layout formats chains x (record { 0 = at })

abbrev pub CanFixRoot : {F : Type 0} → (F → Layout) → TraceState F → SegsState → Moves → (at : Address) → Type 0
CanFixRoot layout t s m at = CanFixRootAt layout t.formats t.chains (traced t s m) at

-- ---- slots

-- the address in a slot, and the roots with another one there
abbrev pub slot_of : RootsState → (key index : ℕ) → Address
slot_of roots key index = slice_index_or (items_of roots.tables key) index 0

abbrev pub with_slot : RootsState → (key index : ℕ) → Address → RootsState
with_slot roots key index at = record roots { tables = with_item roots.tables key index at }

-- as many slots of a table as this are fixed, in ascending order
pub data FixesSlots {F : Type 0} (layout : F
    → Layout) (formats : List (Option (Policy F))) (chains : ChainsState) (key : ℕ) (roots : RootsState)
    (x : Traced) : (count : ℕ) → RootsState → Traced → Type 0
  where
    begins : FixesSlots layout formats chains key roots x 0 roots x
    goes_on : {roots' roots'' : RootsState} {y z : Traced} (count : ℕ) (at : Address)
        → FixesSlots layout formats chains key roots x count roots' y
        → FixesRoot layout formats chains y (slot_of roots' key count) z at
        → roots'' ≡ with_slot roots' key count at
        → FixesSlots layout formats chains key roots x (count + 1) roots'' z

-- all slots of a table are fixed
abbrev pub FixesTable : {F : Type 0} → (F → Layout) → (formats : List (Option (Policy F))) → ChainsState → (key : ℕ) → RootsState → Traced
    → RootsState → Traced → Type 0
FixesTable layout formats chains key roots x roots' y =
    FixesSlots layout formats chains key roots x (length (items_of roots.tables key)) roots' y

-- each slot of a table can be fixed when its turn comes
abbrev pub AreSlotsReady : {F : Type 0} → (F → Layout) → TraceState F → SegsState → Moves → (key : ℕ) → RootsState → Type 0
AreSlotsReady layout t s m key roots = (count : ℕ) (roots' : RootsState) (y : Traced) → count < length (items_of roots.tables key)
    → FixesSlots layout t.formats t.chains key roots (traced t s m) count roots' y
    → CanFixRootAt layout t.formats t.chains y (slot_of roots' key count)

-- the key of the table that is fixed after n others
abbrev pub key_at : RootsState → (count : ℕ) → ℕ
key_at roots count = slice_index_or roots.order count 0

-- n tables are fixed, in the order in which they were made
pub data FixesTables {F : Type 0} (layout : F → Layout) (formats : List (Option (Policy F))) (chains : ChainsState) (roots : RootsState)
    (x : Traced) : (count : ℕ) → RootsState → Traced → Type 0
  where
    begins : FixesTables layout formats chains roots x 0 roots x
    goes_on : {roots' roots'' : RootsState} {y z : Traced} (count : ℕ)
        → FixesTables layout formats chains roots x count roots' y
        → FixesTable layout formats chains (key_at roots count) roots' y roots'' z
        → FixesTables layout formats chains roots x (count + 1) roots'' z

-- the slots of each table can be fixed when its turn comes
abbrev pub AreTablesReady : {F : Type 0} → (F → Layout) → TraceState F → SegsState → Moves → RootsState → Type 0
AreTablesReady layout t s m roots = (count : ℕ) (roots' : RootsState) (y : Traced) → count < length roots.order
    → FixesTables layout t.formats t.chains roots (traced t s m) count roots' y
    → AreSlotsReady layout (record t { amc = y.amc }) y.segs y.moves (key_at roots count) roots'

-- ---- messages

-- the address of a message
abbrev pub message_of : FinalsState → (position : ℕ) → Address
message_of finals position = slice_index_or finals.messages position 0

abbrev pub with_message : FinalsState → (position : ℕ) → Address → FinalsState
with_message finals position at = record finals { messages = slice_set finals.messages position at }

-- as many messages as this are fixed, in order
pub data FixesMessages {F : Type 0} (layout : F → Layout) (formats : List (Option (Policy F))) (chains : ChainsState) (finals : FinalsState)
    (x : Traced) : (count : ℕ) → FinalsState → Traced → Type 0
  where
    begins : FixesMessages layout formats chains finals x 0 finals x
    goes_on : {finals' finals'' : FinalsState} {y z : Traced} (count : ℕ) (at : Address)
        → FixesMessages layout formats chains finals x count finals' y
        → FixesRoot layout formats chains y (message_of finals' count) z at
        → finals'' ≡ with_message finals' count at
        → FixesMessages layout formats chains finals x (count + 1) finals'' z

-- each message can be fixed when its turn comes
abbrev pub AreMessagesReady : {F : Type 0} → (F → Layout) → TraceState F → SegsState → Moves → FinalsState → Type 0
AreMessagesReady layout t s m finals = (count : ℕ) (finals' : FinalsState) (y : Traced) → count < length finals.messages
    → FixesMessages layout t.formats t.chains finals (traced t s m) count finals' y
    → CanFixRootAt layout t.formats t.chains y (message_of finals' count)

-- ---- vectors: two tables, of which the second was made first

abbrev two_tables : RootsState
two_tables = record {
  tables = Some (8 ∷ 0 ∷ []) ∷ Some (16 ∷ []) ∷ [];
  order = 1 ∷ 0 ∷ [];
  areas = [];
  blocks = [];
}

pub the_table_that_was_made_first : key_at two_tables 0 ≡ 1
the_table_that_was_made_first = refl

pub a_slot_is_written : (with_slot two_tables 0 0 24).tables ≡ Some (24 ∷ 0 ∷ []) ∷ Some (16 ∷ []) ∷ []
a_slot_is_written = refl
