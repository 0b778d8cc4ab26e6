-- What a flip changes of what the words represent, and what the last band does.
use Rattle.std.specs.Prelude.{◌≡◌, Bool, true, false, not, Option, Some, List, [], ◌∷◌, refl}
use Rattle.mps_base.specs.Address.{Address, Id, Word}
use Rattle.mps_model.specs.Graph.{Point}
use Rattle.mps_model.specs.World.{PointMemory}
use Rattle.mps_abstract.specs.Colours.{Colours, is_white}
use Rattle.mps_seg.specs.Segs.{new_segments}
use Rattle.mps_format.specs.Any.{numbered_layout}
use Rattle.mps_trace_laws.specs.Image.Memory.{Setting, setting_at_rest}

-- the setting after a flip where these are the addresses, which condemned these objects and segments. Where these are none, and
-- no segment is condemned, it is that after the end of a collection
abbrev pub setting_flipped : Setting → (addresses : List (Option Address)) → List (Option Point) → List PointMemory → (condemned : List Id)
    → (is_condemned_over : Word → Bool) → Setting
setting_flipped s addresses points memories condemned is_condemned_over = record s {
  points = points;
  point_memories = memories;
  at_flip = addresses;
  condemned = condemned;
  is_read = λ id. true;
  is_condemned_over = is_condemned_over;
}

-- the setting once blocks are freed: addresses of the flip count no more, and white objects aren't read any more
abbrev pub setting_freeing : Setting → Colours → Setting
setting_freeing s k = record s { at_flip = []; is_read = λ id. not (is_white s.condemned k id) }

-- ---- vectors: object 1 is condemned and not kept

abbrev example : Setting
example =
    setting_flipped (setting_at_rest (new_segments 2 2) [] [] [] numbered_layout) (Some 0x1000 ∷ Some 0x1020 ∷ []) [] [] (0 ∷ 1 ∷ [])
    (λ n. true)

abbrev one_kept : Colours
one_kept = record { kept = 0 ∷ []; grey = [] }

pub all_are_read_after_a_flip : example.is_read 1 ≡ true
all_are_read_after_a_flip = refl

pub white_objects_are_read_no_more : (setting_freeing example one_kept).is_read 1 ≡ false
white_objects_are_read_no_more = refl

pub others_are : (setting_freeing example one_kept).is_read 0 ≡ true
others_are = refl

pub addresses_of_the_flip_count_no_more : (setting_freeing example one_kept).at_flip ≡ []
addresses_of_the_flip_count_no_more = refl
