-- Words of areas that lie in old blocks.
use Rattle.std.proofs.Common.{ℕ, suc, ◌<◌, ◌≡◌, ◌||◌, not, Bool, false, Option, Some, None, List, [], ◌∷◌, length, get_or, refl, ap, ◌∙◌, arith}
use Rattle.std.specs.List.{list_any}
use Rattle.std.specs.Option.{option_map_or}
use Rattle.mps_base.specs.Address.{Address, word_of, address_of_word}
use Rattle.mps_base.specs.Run.{Run}
use Rattle.mps_root.specs.declared.roots.Stored.{Stored}
use Rattle.mps_seg.specs.Extents.{run_over}
use Rattle.mps_xform.specs.Blocking.{any_lies_in_old, is_blocked, lies_in_old}
use Rattle.mps_xform.specs.declared.transforms.Pair.{Pair}

-- ---- tests of entries by key

module _ {A : Type 0} (test : Option A → Bool) where
  -- no entry that passes
  pub none_passes : (entries : List (Option A)) → ((key : ℕ) → key < length entries → test (get_or entries key None) ≡ false)
      → list_any test entries ≡ false
  none_passes [] none = refl
  none_passes (e ∷ es) none =
      ap (λ (b : Bool). b || list_any test es) (none 0 (omega arith))
      ∙ none_passes es (λ key below. none (suc key) (omega (arith, below)))

-- ---- two ways to give the pairs that agree make the same

module _ (pair pair' : Address → Option Pair) (same : (at : Address) → pair at ≡ pair' at) (blocks : List Run) where
  lies_same : (word : ℕ) → lies_in_old pair blocks word ≡ lies_in_old pair' blocks word
  lies_same word =
      ap (λ (b : Bool). b || option_map_or (λ p. not p.inside) (pair word) false) (by_block (run_over blocks (word_of word)))
      ∙ ap (λ (o : Option Pair).
      option_map_or (λ from. option_map_or (λ p. p.inside) (pair' (address_of_word from)) false) (run_over blocks (word_of word)) false
      || option_map_or (λ p. not p.inside) o false) (same word)
    where
      by_block : (o : Option ℕ) → option_map_or (λ from. option_map_or (λ p. p.inside) (pair (address_of_word from)) false) o false
          ≡ option_map_or (λ from. option_map_or (λ p. p.inside) (pair' (address_of_word from)) false) o false
      by_block None = refl
      by_block (Some from) = ap (λ (o : Option Pair). option_map_or (λ p. p.inside) o false) (same (address_of_word from))

  any_same : (words : List Stored) → any_lies_in_old pair blocks words ≡ any_lies_in_old pair' blocks words
  any_same [] = refl
  any_same (w ∷ ws) =
      ap (λ (b : Bool). b || any_lies_in_old pair blocks ws) (lies_same w.word)
      ∙ ap (λ (b : Bool). lies_in_old pair' blocks w.word || b) (any_same ws)

  area_same : (area : Option (List Stored)) → option_map_or (λ words. any_lies_in_old pair blocks words) area false
      ≡ option_map_or (λ words. any_lies_in_old pair' blocks words) area false
  area_same None = refl
  area_same (Some words) = any_same words

  pub blocked_same : (areas : List (Option (List Stored))) → is_blocked pair blocks areas ≡ is_blocked pair' blocks areas
  blocked_same [] = refl
  blocked_same (a ∷ areas) =
      ap (λ (b : Bool). b || is_blocked pair blocks areas) (area_same a)
      ∙ ap (λ (b : Bool). option_map_or (λ words. any_lies_in_old pair' blocks words) a false || b) (blocked_same areas)
