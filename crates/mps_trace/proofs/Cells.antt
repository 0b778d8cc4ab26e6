-- A word of a block, read among the words that are borrowed from the block on.
use Rattle.std.proofs.Common.{ℕ, ◌+◌, ◌<◌, ◌≡◌, List, length, get_or, take, drop, ap, ◌∙◌}
use Rattle.std.proofs.lemmas.List.{get_or-take, get_or-drop}

pub borrowed_word : (words loan : List ℕ) (at cell : ℕ) → loan ≡ take (length loan) (drop at words) → cell < length loan
    → get_or loan cell 0 ≡ get_or words (at + cell) 0
borrowed_word words loan at cell part few =
    ap (λ (ws : List ℕ). get_or ws cell 0) part ∙ get_or-take (length loan) (drop at words) cell 0 few ∙ get_or-drop at words cell 0
