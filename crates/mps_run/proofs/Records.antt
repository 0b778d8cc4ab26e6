-- The records of a command: those of its moves, one after the other, and then its own.
use Rattle.std.proofs.Common.{◌≡◌, ◌∙◌, ◌++◌, ℕ, Result, Ok, Err, OnOk, OnErr, [], ap, append-nil, refl}
use Rattle.mps_base.specs.declared.address.Addr.{Addr}
use Rattle.mps_base.specs.declared.names.Kind.{Kind}
use Rattle.mps_base.specs.declared.names.Name.{Name}
use Rattle.mps_base.specs.declared.names.Slot.{Slot}
use Rattle.mps_desk.specs.declared.desk.Failed.{Failed}
use Rattle.mps_model.specs.declared.call.Call.{Call}
use Rattle.mps_model.specs.declared.call.Call.TheVariants as call
use Rattle.mps_model.specs.declared.reply.Reply.{Reply}
use Rattle.mps_model.specs.declared.reply.Reply.TheVariants as reply
use Rattle.mps_model.specs.Answer.{Replied}
use Rattle.mps_model.specs.Log.{records_of_accepted, records_of_answered, records_of_command, records_of_label}

-- ---- commands without a record of their own

-- an accepted command of another kind
pub none_of_another : (c : Call) (pool line : ℕ) → ((grains limit : ℕ) → c ≡ call.Arena grains limit → ⊥)
    → ((limit : ℕ) → c ≡ call.Limit limit → ⊥)
    → ((name : Name) (kind : Kind) (format : ℕ) → c ≡ call.Pool name kind format → ⊥)
    → ((name : Name) (kind : Kind) (format : ℕ) (chain : Name) → c ≡ call.PoolOnChain name kind format chain → ⊥)
    → ((name : Name) (words : ℕ) → c ≡ call.PoolMfs name words → ⊥) → ((name : Name) → c ≡ call.PoolMvff name → ⊥)
    → ((name : Name) → c ≡ call.PoolFrames name → ⊥)
    → records_of_accepted pool c line ≡ []
none_of_another (call.Arena grains limit) pool line arena lim p on mfs mvff frames = absurd (arena grains limit refl)
none_of_another (call.Limit limit) pool line arena lim p on mfs mvff frames = absurd (lim limit refl)
none_of_another (call.Pool name kind format) pool line arena lim p on mfs mvff frames = absurd (p name kind format refl)
none_of_another (call.PoolOnChain name kind format chain) pool line arena lim p on mfs mvff frames = absurd (on name kind format chain refl)
none_of_another (call.PoolMfs name words) pool line arena lim p on mfs mvff frames = absurd (mfs name words refl)
none_of_another (call.PoolMvff name) pool line arena lim p on mfs mvff frames = absurd (mvff name refl)
none_of_another (call.PoolFrames name) pool line arena lim p on mfs mvff frames = absurd (frames name refl)
none_of_another _ pool line arena lim p on mfs mvff frames = refl

-- a command that was not accepted
none_of_refused : (r : Reply) (c : Call) (pool line : ℕ) → (r ≡ reply.Ok → ⊥) → records_of_command pool c (Replied r) line ≡ []
none_of_refused reply.Ok c pool line other = absurd (other refl)
none_of_refused _ c pool line other = refl

-- a command that answers no label
none_of_label : (c : Call) (r : Reply) (line : ℕ) → ((number : ℕ) → r ≡ reply.Interned number → ⊥)
    → ((at : Addr) (number : ℕ) → r ≡ reply.Labelled at number → ⊥) → records_of_label c (Replied r) line ≡ []
none_of_label (call.Intern label) (reply.Interned number) line no_intern no_label = absurd (no_intern number refl)
none_of_label (call.Label slot label) (reply.Labelled at number) line no_intern no_label = absurd (no_label at number refl)
none_of_label _ _ line no_intern no_label = refl

-- a command that answers nothing of which there is a record
pub none_of_other : (r : Reply) (c : Call) (pool line : ℕ) → (r ≡ reply.Ok → ⊥) → ((number : ℕ) → r ≡ reply.Interned number → ⊥)
    → ((at : Addr) (number : ℕ) → r ≡ reply.Labelled at number → ⊥) → records_of_answered pool c (Replied r) line ≡ []
none_of_other r c pool line no_ok no_intern no_label =
    ap (λ rs. rs ++ records_of_label c (Replied r) line) (none_of_refused r c pool line no_ok)
    ∙ none_of_label c r line no_intern no_label

-- an accepted command has no record of a label
pub accepted_alone : (c : Call) (pool line : ℕ) → records_of_answered pool c (Replied reply.Ok) line ≡ records_of_accepted pool c line
accepted_alone c pool line =
    ap (λ rs. records_of_accepted pool c line ++ rs) (none_of_label c reply.Ok line (λ number e. absurd cc) (λ at number e. absurd cc))
    ∙ append-nil (records_of_accepted pool c line)

-- a call that makes no label
pub none_interned : (c : Call) (number line : ℕ) → ((label : Name) → c ≡ call.Intern label → ⊥)
    → records_of_label c (Replied (reply.Interned number)) line ≡ []
none_interned (call.Intern label) number line other = absurd (other label refl)
none_interned _ number line other = refl

-- a call that labels nothing
pub none_labelled : (c : Call) (at : Addr) (number line : ℕ) → ((slot : Slot) (label : Name) → c ≡ call.Label slot label → ⊥)
    → records_of_label c (Replied (reply.Labelled at number)) line ≡ []
none_labelled (call.Label slot label) at number line other = absurd (other slot label refl)
none_labelled _ at number line other = refl

-- what holds at an error
pub at_error : (r : Result (Unit {0}) Failed) {P : Type 0} → P → OnErr r P
at_error (Ok value) h = tt
at_error (Err failed) h = h

-- what follows holds there too
pub ok_then : (r : Result (Unit {0}) Failed) {P Q : Type 0} → OnOk r P → (P → Q) → OnOk r Q
ok_then (Ok value) h f = f h
ok_then (Err failed) h f = tt

pub error_then : (r : Result (Unit {0}) Failed) {P Q : Type 0} → OnErr r P → (P → Q) → OnErr r Q
error_then (Ok value) h f = tt
error_then (Err failed) h f = f h
