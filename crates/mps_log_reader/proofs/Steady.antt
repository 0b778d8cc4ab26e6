-- What a reader asked for by name, and the faults that did not come.
use Rattle.std.proofs.Common.{◌≡◌, Option, Some, None, List, [], sym, ap, subst, append-nil}
use Rattle.mps_desk.specs.Desk.{Outside, Request, AreNext, Asks}

-- ---- what was asked for by name

nothing_next : (known : Option (List Request)) → AreNext known [] known
nothing_next None = tt
nothing_next (Some all) = ap Some (sym (append-nil all))

pub asks_nothing : (a b : Outside) → b.asked ≡ a.asked → Asks a b []
asks_nothing a b same = subst (λ asked. AreNext a.asked [] asked) (sym same) (nothing_next a.asked)

pub asks_then_nothing : (a b c : Outside) (requests : List Request) → Asks a b requests → c.asked ≡ b.asked → Asks a c requests
asks_then_nothing a b c requests h same = subst (λ asked. AreNext a.asked requests asked) (sym same) h

-- ---- faults that did not come

-- an input was opened, worked on, and what was gathered was printed
