-- What is shown of a new arena, of segments that are taken and given back, and of points that are made and dropped.
use Rattle.std.specs.Prelude.{◌≡◌, ◌≢◌, ℕ, ◌+◌, ◌<◌, Bool, true, false, Option, Some, None, List, [], ◌∷◌, slice_get, refl}
use Rattle.std.proofs.Common.{lit<}
use Rattle.std.proofs.lemmas.Option.{none-some}
use Rattle.mps_base.specs.Address.{Address, Id, Word, word_of}
use Rattle.mps_format.specs.Any.{numbered_layout}
use Rattle.mps_seg.specs.Segs.{new_segments}
use Rattle.mps_model.specs.Graph.{Manual, Object, entry_at, size_of}
use Rattle.mps_trace_laws.specs.Image.Memory.{Setting, Lies, setting_at_rest}

-- where blocks lie, and where blocks were that have moved, the same segments are held and condemned
pub record AreSegmentsKept (s : Setting) (addresses : List (Option Address)) (pools : Word → Option ℕ) (condemned : Word → Bool) : Type 0
  where
    pub pool : (id k : ℕ) (o : Object) (n : Word) → Lies s.objects addresses id k o n → pools n ≡ s.pool_over n
    pub is_condemned : (id k : ℕ) (o : Object) (n : Word) → Lies s.objects addresses id k o n → condemned n ≡ s.is_condemned_over n
    pub old_pool : (id : Id) (from to : Address) (o : Object) (k : ℕ) → entry_at s.at_flip id ≡ Some from → entry_at addresses id ≡ Some to
        → from ≢ to → slice_get s.objects id ≡ Some o → k < size_of o → pools (word_of from + k) ≡ s.pool_over (word_of from + k)
    pub was_condemned : (id : Id) (from to : Address) (o : Object) (k : ℕ) → entry_at s.at_flip id ≡ Some from
        → entry_at addresses id ≡ Some to → from ≢ to → slice_get s.objects id ≡ Some o → k < size_of o
        → condemned (word_of from + k) ≡ s.is_condemned_over (word_of from + k)

-- the setting with these segments
abbrev pub setting_with_segments : Setting → (pools : Word → Option ℕ) → (condemned : Word → Bool) → Setting
setting_with_segments s pools condemned = record s { pool_over = pools; is_condemned_over = condemned }

-- ---- vectors: a manual object at 0x1000, in a segment of pool 7

abbrev one : Object
one = record { pool = 7; body = Manual (5 ∷ []) }

abbrev example : Setting
example = record (setting_at_rest (new_segments 2 2) (one ∷ []) [] [] numbered_layout) { pool_over = λ n. Some 7 }

pub its_segment_is_given_back : AreSegmentsKept example (Some 0x1000 ∷ []) (λ n. None) (λ n. false) → ⊥
its_segment_is_given_back kept =
    none-some 7 (kept.pool 0 0 one 512 (record { at = 0x1000; address = refl; object = refl; within = lit< tt; is = refl }))

pub it_is_condemned : AreSegmentsKept example (Some 0x1000 ∷ []) (λ n. Some 7) (λ n. true) → ⊥
it_is_condemned kept =
    let e : true ≡ false =
    kept.is_condemned 0 0 one 512 (record { at = 0x1000; address = refl; object = refl; within = lit< tt; is = refl })
    in
    absurd cc
