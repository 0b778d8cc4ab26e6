-- Bytes written one part after the other at a prefix of some room.
use Rattle.std.proofs.Common.{◌≡◌, ℕ, ◌+◌, ◌-◌, ◌*◌, ◌<◌, List, [], ◌++◌, length, take, drop, get_or, refl, sym, ap, ◌∙◌, append_assoc, arith}
use Rattle.std.proofs.lemmas.List.{append-nil, take_at, drop_at, take_rest, take_more, drop_all, drop-drop, length-drop, length-take-le, flat_map_more}
use Rattle.mps_base.specs.Record.{number_bytes, fields_bytes}
use Rattle.mps_event.proofs.Records.{length-fields_bytes}
use borrow.Rule.Slice.PartMut.{put_mid}

-- after what is written already a part is written
pub write_more : (front part old out new : List ℕ) (at size : ℕ) → length front ≡ at → length part ≡ size → out ≡ front ++ drop at old
    → new ≡ part ++ drop size (take (length out - at) (drop at out)) → put_mid at (length out - at) out new ≡ (front ++ part)
    ++ drop (at + size) old
write_more front part old out new at size front-len part-len out-is new-is =
    let after : drop at out ≡ drop at old = ap (λ (x : List ℕ). drop at x) out-is ∙ drop_at front (drop at old) at front-len in
    let rest : drop size (take (length out - at) (drop at out)) ≡ drop (at + size) old =
    ap (λ (x : List ℕ). drop size x) (take_rest out at ∙ after) ∙ drop-drop size at old in
    let before : take at out ≡ front = ap (λ (x : List ℕ). take at x) out-is ∙ take_at front (drop at old) at front-len in
    let nothing : drop (length out - at) (drop at out) ≡ [] =
    drop_all (length out - at) (drop at out) (omega (arith, length-drop at out)) in
    let all : new ≡ part ++ drop (at + size) old = new-is ∙ ap (λ (x : List ℕ). part ++ x) rest in
    ap (λ (x : List ℕ). x ++ (new ++ drop (length out - at) (drop at out))) before
    ∙ ap (λ (x : List ℕ). front ++ (new ++ x)) nothing
    ∙ ap (λ (x : List ℕ). front ++ x) (append-nil new ∙ all)
    ∙ sym (append_assoc front part (drop (at + size) old))

-- one field more
pub fields_more : (fields : List ℕ) (i field : ℕ) → i < length fields → field ≡ get_or fields i 0
    → fields_bytes (take i fields) ++ number_bytes 8 field ≡ fields_bytes (take (i + 1) fields)
fields_more fields i field lt is =
    ap (λ (x : ℕ). fields_bytes (take i fields) ++ number_bytes 8 x) is
    ∙ flat_map_more (number_bytes 8) [] (take i fields) (get_or fields i 0)
    ∙ ap (λ (x : List ℕ). fields_bytes x) (sym (take_more fields i 0 lt))

-- a step of the loop over the fields
pub next_field : (fields old out new : List ℕ) (i at : ℕ) → i < length fields → at ≡ 8 * i → out ≡ fields_bytes (take i fields)
    ++ drop (8 * i) old
    → new ≡ number_bytes 8 (get_or fields i 0) ++ drop 8 (take (length out - at) (drop at out))
    → put_mid at (length out - at) out new ≡ fields_bytes (take (i + 1) fields) ++ drop (8 * (i + 1)) old
next_field fields old out new i at lt at-is out-is new-is =
    let front-len : length (fields_bytes (take i fields)) ≡ at = length-fields_bytes (take i fields)
    ∙ omega (arith, at-is, length-take-le i fields (omega arith)) in
    let out-at : out ≡ fields_bytes (take i fields) ++ drop at old = out-is
    ∙ ap (λ (k : ℕ). fields_bytes (take i fields) ++ drop k old) (sym at-is) in
    let further : at + 8 ≡ 8 * (i + 1) = omega (arith, at-is) in
    write_more (fields_bytes (take i fields)) (number_bytes 8 (get_or fields i 0)) old out new at 8 front-len refl out-at new-is
    ∙ ap (λ (x : List ℕ). x ++ drop (at + 8) old) (fields_more fields i (get_or fields i 0) lt refl)
    ∙ ap (λ (k : ℕ). fields_bytes (take (i + 1) fields) ++ drop k old) further
