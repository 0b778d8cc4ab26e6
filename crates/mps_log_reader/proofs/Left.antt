-- What is left of an input, whether or not it is known.
use Rattle.std.proofs.Common.{◌≡◌, ℕ, ◌≤◌, Bool, true, false, List, [], ◌++◌, length, Option, Some, None, Ok, Err, refl, sym, ap, ◌∙◌, append_assoc}
use Rattle.std.specs.Prelude.{IfSome}
use Rattle.std.specs.Option.{option_map}
use Rattle.mps_desk.specs.Desk.{Outside}
use Rattle.mps_event.specs.declared.version.Version.{Version}
use Rattle.mps_event.specs.declared.fault.LogFault.{LogFault}
use Rattle.mps_event.specs.Reading.{first_of}
use Rattle.mps_log_reader.specs.Input.{Buffered, ReadsMore}
use Rattle.mps_log_reader.specs.Left.{left_of}
use Rattle.mps_log_reader.proofs.Extension.{fault_stays, none_short}

more_pending : (p q read : List ℕ) (i j : Option (List ℕ)) → q ≡ p ++ read → i ≡ option_map (λ left. read ++ left) j
    → option_map (λ left. q ++ left) j ≡ option_map (λ left. p ++ left) i
more_pending p q read i None e f = rw f refl
more_pending p q read i (Some left) e f = rw (e, f) (ap Some (append_assoc p read left))

-- reading leaves what is left
pub left_same : (a b : Outside) (x y : Buffered) → ReadsMore a b x y → left_of b y ≡ left_of a x
left_same a b x y r = more_pending x.pending y.pending r.read a.input b.input r.pending r.input

pub split_pending : (front pending after : List ℕ) (input : Option (List ℕ)) → pending ≡ front ++ after
    → option_map (λ rest. pending ++ rest) input ≡ option_map (λ rest. front ++ rest) (option_map (λ rest. after ++ rest) input)
split_pending front pending after None e = refl
split_pending front pending after (Some rest) e = rw e (ap Some (append_assoc front after rest))

pub nothing_left : (version : Version) (ended : Bool) (pending : List ℕ) (input : Option (List ℕ))
    → first_of version ended pending ≡ Ok None → (ended ≡ false → 40 ≤ length pending)
    → (ended ≡ true → IfSome input (λ left. left ≡ [])) → IfSome (option_map (λ rest. pending ++ rest) input) (λ bytes. bytes ≡ [])
nothing_left version ended pending None e enough end = tt
nothing_left version ended pending (Some rest) e enough end =
    let g = none_short version ended pending e enough in
    let a : rest ≡ [] = end g.0 in
    let b : pending ≡ [] = g.1 in
    rw (a, b) refl

pub fault_left : (version : Version) (ended : Bool) (pending : List ℕ) (input : Option (List ℕ)) (fault : LogFault)
    → first_of version ended pending ≡ Err fault
    → (ended ≡ true → IfSome input (λ left. left ≡ []))
    → IfSome (option_map (λ rest. pending ++ rest) input) (λ bytes. first_of version true bytes ≡ Err fault)
fault_left version ended pending None fault e end = tt
fault_left version ended pending (Some rest) fault e end = fault_stays version ended pending rest fault end e

pub nothing_in_front : (left : Option (List ℕ)) → left ≡ option_map (λ rest. [] ++ rest) left
nothing_in_front None = refl
nothing_in_front (Some left) = refl

pub one_in_front : (x y : List ℕ) (a b c : Option (List ℕ)) → a ≡ option_map (λ rest. x ++ rest) b → b ≡ option_map (λ rest. y ++ rest) c
    → a ≡ option_map (λ rest. (x ++ y) ++ rest) c
one_in_front x y a b None e f = rw (e, f) refl
one_in_front x y a b (Some rest) e f = rw (e, f) (ap Some (sym (append_assoc x y rest)))

-- what is left after a piece, where all that was left is known
pub left_after_known : (x bytes : List ℕ) (left left_after : Option (List ℕ)) → left ≡ option_map (λ rest. x ++ rest) left_after
    → left ≡ Some bytes
    → (rest : List ℕ) × (left_after ≡ Some rest) × (bytes ≡ x ++ rest)
left_after_known x bytes left None e f = absurd (let g : None ≡ Some bytes = sym e ∙ f in cc)
left_after_known x bytes left (Some rest) e f = (rest, refl, (let g : Some bytes ≡ Some (x ++ rest) = sym f ∙ e in cc))
