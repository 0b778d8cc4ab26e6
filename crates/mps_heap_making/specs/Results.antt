-- What is said of a thing that was made.
use Rattle.std.specs.Prelude.{ℕ, Result, Ok, Err}
use Rattle.mps_base.specs.declared.refusal.Refusal.{Refusal}

-- without the key under which it was made
abbrev pub without_key : Result ℕ Refusal → Result (Unit {0}) Refusal
without_key (Ok key) = Ok tt
without_key (Err why) = Err why
