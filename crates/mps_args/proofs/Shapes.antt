-- Lists of words by their length.
use Rattle.std.proofs.Common.{◌≡◌, ℕ, suc, None, List, [], ◌∷◌, length, String, refl, ap}
use Rattle.std.specs.Global.{Global}
use Rattle.mps_args.specs.Seen.{texts}
use Rattle.mps_args.specs.Words.{cnv_meaning, gen_meaning}

-- each word has a text
pub length-texts : (words : List (String Global)) → length (texts words) ≡ length words
length-texts [] = refl
length-texts (word ∷ words) = ap suc (length-texts words)

-- where there are neither no, two nor four words, `cnv` has no meaning
pub cnv_by_length : (words : List (List ℕ)) → (length words ≡ 0 → ⊥) → (length words ≡ 2 → ⊥) → (length words ≡ 4 → ⊥)
    → None ≡ cnv_meaning words
cnv_by_length [] none two four = absurd (none refl)
cnv_by_length (a ∷ []) none two four = refl
cnv_by_length (a ∷ b ∷ []) none two four = absurd (two refl)
cnv_by_length (a ∷ b ∷ c ∷ []) none two four = refl
cnv_by_length (a ∷ b ∷ c ∷ d ∷ []) none two four = absurd (four refl)
cnv_by_length (a ∷ b ∷ c ∷ d ∷ e ∷ more) none two four = refl

-- where there are neither two nor three, `gen` has none
pub gen_by_length : (words : List (List ℕ)) → (length words ≡ 2 → ⊥) → (length words ≡ 3 → ⊥) → None ≡ gen_meaning words
gen_by_length [] two three = refl
gen_by_length (a ∷ []) two three = refl
gen_by_length (a ∷ b ∷ []) two three = absurd (two refl)
gen_by_length (a ∷ b ∷ c ∷ []) two three = absurd (three refl)
gen_by_length (a ∷ b ∷ c ∷ d ∷ more) two three = refl
