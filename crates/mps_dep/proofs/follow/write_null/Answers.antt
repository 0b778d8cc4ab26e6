use Rattle.std.proofs.Common.{ℕ, zero, suc, ◌≡◌, List, [], ◌∷◌, None, slice_get, slice_set, refl, ap}
use Rattle.mps_dep.proofs.follow.write_null.Goals as goal

-- where a list has no item, none is written
nothing_written : (items : List ℕ) (index value : ℕ) → slice_get items index ≡ None → items ≡ slice_set items index value
nothing_written [] index value none = refl
nothing_written (x ∷ xs) zero value none = cc
nothing_written (x ∷ xs) (suc index) value none = ap (λ (rest : List ℕ). x ∷ rest) (nothing_written xs index value none)

pub returns-in_default : goal.returns-in_default
returns-in_default g c =
    let segs = c.args.segs.now in
    let absent : slice_get segs.words c.args.word ≡ None = cc in
    ap (λ words. record segs { words = words }) (nothing_written segs.words c.args.word _ absent)
