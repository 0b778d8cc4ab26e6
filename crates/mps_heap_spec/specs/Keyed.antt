-- Slots, words of areas and points by keys: what each key stands for, and where that is kept.
use Rattle.std.specs.Prelude.{◌≡◌, Bool, true, false, Option, Some, None, option_and_then, option_map, Ok, Err, refl}
use Rattle.mps_base.specs.declared.names.Name.{Name}
use Rattle.mps_base.specs.declared.names.Slot.{Slot}
use Rattle.mps_model.specs.Checked.{Checked}
use Rattle.mps_names.specs.Keys.{KeysState, KeysWithout, area_name, no_keys, point_name, table_name}
use Rattle.mps_names.specs.State.{thing_named}
use Rattle.mps_keys.specs.declared.keys.PointKey.{PointKey}
use Rattle.mps_names.specs.declared.names.Thing.TheVariants as thing
use Rattle.mps_heap_spec.specs.State.{HeapState}
use Rattle.mps_heap_spec.specs.declared.found.KeyedSlot.{KeyedSlot}
use Rattle.mps_heap_spec.specs.declared.found.KeyedWord.{KeyedWord}
use Rattle.mps_heap_spec.specs.declared.found.Kept.{Kept}
use Rattle.mps_heap_spec.specs.declared.found.Located.{Located}

-- the slot of which a key is good; none if the key isn't good
abbrev pub keyed_slot : KeysState → KeyedSlot → Option Slot
keyed_slot k s = option_map (λ name. record { name = name; index = s.index }) (table_name k s.table)

-- the word of an area of which a key is good
abbrev pub keyed_word : KeysState → KeyedWord → Option Slot
keyed_word k s = option_map (λ name. record { name = name; index = s.index }) (area_name k s.area)

-- both, if there are both
abbrev pub both : {X Y : Type 0} → Option X → Option Y → Option (X × Y)
both one other = option_and_then (λ x. option_map (λ y. (x, y)) other) one

-- the slots of which two keys are good; none if one of them isn't
abbrev pub keyed_slots : KeysState → (one other : KeyedSlot) → Option (Slot × Slot)
keyed_slots k one other = both (keyed_slot k one) (keyed_slot k other)

-- the name of the point and the slot of which two keys are good; none if one of them isn't
abbrev pub keyed_point_and_slot : KeysState → PointKey → KeyedSlot → Option (Name × Slot)
keyed_point_and_slot k x slot = both (point_name k x) (keyed_slot k slot)

module _ {F : Type 0} (h : HeapState F) where
  -- a slot is of the table that is kept there
  abbrev pub IsTableAt : Located → Type 0
  IsTableAt at = thing_named h.names at.slot.name ≡ Some (thing.Table at.place)

  -- a word is of the area that is kept there
  abbrev pub IsAreaAt : Located → Type 0
  IsAreaAt at = thing_named h.names at.slot.name ≡ Some (thing.Area at.place)

  -- the point that is kept there has the name
  abbrev pub IsPointAt : Kept Name → Type 0
  IsPointAt at = thing_named h.names at.value ≡ Some (thing.Point at.key)

-- what a call that drops the thing of a name, or is refused, leaves of keys
abbrev pub DropsKeys : {A : Type 0} → (before after : KeysState) → Name → Checked A → Type 0
DropsKeys before after name (Ok a) = KeysWithout before after name
DropsKeys before after name (Err why) = after ≡ before

-- what a call leaves that applies a transform and drops it, or answers false and changes nothing, or is refused
abbrev pub AppliesKeys : (before after : KeysState) → Name → Checked Bool → Type 0
AppliesKeys before after name (Ok true) = KeysWithout before after name
AppliesKeys before after name (Ok false) = after ≡ before
AppliesKeys before after name (Err why) = after ≡ before

-- ---- vectors

pub no_slot_before_a_key_is_given : (s : KeyedSlot) → keyed_slot no_keys s ≡ None
no_slot_before_a_key_is_given s = refl

pub no_word_before_a_key_is_given : (s : KeyedWord) → keyed_word no_keys s ≡ None
no_word_before_a_key_is_given s = refl

pub no_point_before_a_key_is_given : (key : PointKey) → point_name no_keys key ≡ None
no_point_before_a_key_is_given key = refl
