-- The runs of held grains that a table represents: an entry is the length of the run that begins there, or 0.
use Rattle.std.specs.Prelude.{ℕ, zero, suc, ◌≡◌, List, [], ◌∷◌, refl}
use Rattle.mps_base.specs.Run.{Run}

-- the runs of the entries, where the first entry is that of a grain
unfoldable pub runs_from : ℕ → List ℕ → List Run
runs_from grain [] = []
runs_from grain (zero ∷ counts) = runs_from (suc grain) counts
runs_from grain (suc n ∷ counts) = record { from = grain; count = suc n } ∷ runs_from (suc grain) counts

-- the runs of a whole table
unfoldable pub runs_in : List ℕ → List Run
runs_in table = runs_from 0 table

two_runs : runs_in (0 ∷ 2 ∷ 0 ∷ 0 ∷ 1 ∷ []) ≡ record { from = 1; count = 2 } ∷ record { from = 4; count = 1 } ∷ []
unfolding runs_in runs_from
two_runs = refl
