-- The line that is pending first, and what follows it.
use Rattle.std.proofs.Common.{◌≡◌, ℕ, ◌+◌, ◌<◌, ◌≤◌, Bool, true, false, List, [], ◌∷◌, ◌++◌, length, drop, get_or, Option, Some, refl, sym, ap, subst, ◌∙◌, append_assoc, arith, inl, inr}
use Rattle.std.specs.Prelude.{◌≢◌}
use Rattle.std.specs.List.{AllByRecursion}
use Rattle.std.specs.Option.{option_map}
use Rattle.std.proofs.lemmas.List.{append-nil, length-append, drop_all}
use Rattle.std.proofs.lemmas.List.Elements.{recursion_from_All}
use Rattle.mps_base.specs.Record.{Record}
use Rattle.mps_event.specs.declared.version.Version.{Version}
use Rattle.mps_log_reader.specs.Input.{Buffered}
use Rattle.mps_log_reader.specs.RecordLine.{record_line}
use Rattle.mps_log_reader.proofs.Left.{split_pending}
use Rattle.mps_txt.specs.Separators.{Lacks}
use Rattle.mps_txt.specs.Line.{record_text, max_line_bytes}
use Rattle.mps_txt.specs.Labels.{Naming}
use Rattle.mps_txt.specs.Text.{terminated, IsWrongNext, IsNextToTakeMemory}
use Rattle.mps_txt.specs.PendingLine.{IsPendingLine}
use Rattle.mps_txt.specs.TextSteps.{IsWrongLine, IsWrongPending, IsPendingToTakeMemory, IsWholeOrLast}
use Rattle.mps_txt.proofs.SplitAtByte.{one_split}
use Rattle.mps_txt.proofs.LastLineFeed.{terminated-line, terminated-last, terminated-adds}
use Rattle.mps_txt.proofs.Spelling.{text_lacks, text_at_most}

-- all that a line may take is pending, unless the input ended or failed before
abbrev pub HoldsLine : Buffered → Type 0
HoldsLine b = b.ended ≡ false → b.failed ≡ false → max_line_bytes + 1 ≤ length b.pending

-- ---- wrong lines

-- what stands before the first line feed is one line
pub one_line : (line text rest more : List ℕ) → Lacks 10 line → Lacks 10 text → line ++ 10 ∷ rest ≡ text ++ 10 ∷ more → line ≡ text
one_line line text rest more lacks k e = (one_split 10 line text (Some rest) (Some more) lacks k e).0

pub line_feed_after : (r : Record) (more : List ℕ) → record_line r ++ more ≡ record_text r ++ 10 ∷ more
line_feed_after r more = append_assoc (record_text r) (10 ∷ []) more

pub too_long : (a b x y : List ℕ) → AllByRecursion (λ byte. byte ≢ 10) a → length b < length a → a ++ x ≡ b ++ 10 ∷ y → ⊥
too_long [] b x y lacks longer e = absurd (omega (arith, longer))
too_long (p ∷ a) [] x y lacks longer e = lacks.0 (ap (λ (z : List ℕ). get_or z 0 0) e)
too_long (p ∷ a) (q ∷ b) x y lacks longer e = too_long a b x y lacks.1 (omega (arith, longer)) (ap (λ (z : List ℕ). drop 1 z) e)

pub long_terminated : (front others pending more : List ℕ) → pending ≡ front ++ others
    → (rest : List ℕ) × (terminated (pending ++ more) ≡ front ++ rest)
long_terminated front others pending more e =
    let h = terminated-adds (pending ++ more) in
    let split : (pending ++ more) ++ h.0 ≡ front ++ (others ++ (more ++ h.0)) = rw e (simp append_assoc) in
    (others ++ (more ++ h.0), h.1 ∙ split)

-- ---- what follows the pending line

last_ended : (ended failed : Bool) (size : ℕ) → failed ≡ false → (ended ≡ false → failed ≡ false → 4097 ≤ size) → size ≤ 4096 → ended ≡ true
last_ended true failed size whole enough at_most = refl
last_ended false failed size whole enough at_most = absurd (let h : 4097 ≤ size = enough refl whole in omega (arith, h, at_most))

last_terminated : (line pending more : List ℕ) (size : ℕ) → Lacks 10 line → pending ≡ line → size ≡ length line
    → 0 < length line → more ≡ []
    → terminated (pending ++ more) ≡ line ++ 10 ∷ terminated (drop size pending ++ more)
last_terminated line pending more size lacks all sized some none =
    let before : pending ++ more ≡ line = ap (λ (x : List ℕ). pending ++ x) none ∙ append-nil pending ∙ all in
    let nothing : drop size pending ≡ [] =
    drop_all size pending (let h : length pending ≡ length line = ap (λ (x : List ℕ). length x) all in omega (arith, h, sized)) in
    let after : drop size pending ++ more ≡ [] = ap (λ (x : List ℕ). drop size pending ++ x) none
    ∙ append-nil (drop size pending) ∙ nothing in
    ap terminated before ∙ terminated-last line some lacks ∙ sym (ap (λ (x : List ℕ). line ++ 10 ∷ terminated x) after)

pub lacks_of_pending : (b : Buffered) (line : List ℕ) (size : ℕ) → IsPendingLine b line size → Lacks 10 line
lacks_of_pending b line size (inl h) = h.lacks
lacks_of_pending b line size (inr h) = h.lacks

-- a pending line is taken with its line feed, or it is the last one, and all was read
pub whole_or_last : (b : Buffered) (text line : List ℕ) (size : ℕ) (input : Option (List ℕ))
    → ((more : List ℕ) → line ++ more ≡ text ++ 10 ∷ more) → IsPendingLine b text size → HoldsLine b
    → IsWholeOrLast line (option_map (λ rest. b.pending ++ rest) input) (option_map (λ rest. drop size b.pending ++ rest) input) b
whole_or_last b text line size input ends (inl h) enough =
    inl (split_pending line b.pending (drop size b.pending) input (h.front ∙ sym (ends (drop size b.pending))))
whole_or_last b text line size input ends (inr h) enough =
    let same : length b.pending ≡ length text = ap (λ (x : List ℕ). length x) h.all in
    inr (last_ended b.ended b.failed (length b.pending) h.whole enough (omega (arith, same, h.at_most)), h.whole)

pub record IsWrongRest (version : Version) (before : Naming) (bytes : List ℕ) : Type 0 where
  pub some : 0 < length (terminated bytes)
  pub wrong : IsWrongNext version before (terminated bytes)

-- after what is pending this follows
module _ (b : Buffered) (more : List ℕ) (end : b.ended ≡ true → more ≡ []) (enough : HoldsLine b) where
  pub pending_terminated : (line : List ℕ) (size : ℕ) → IsPendingLine b line size
      → terminated (b.pending ++ more) ≡ line ++ 10 ∷ terminated (drop size b.pending ++ more)
  pending_terminated line size (inl h) =
      let split : b.pending ++ more ≡ line ++ 10 ∷ (drop size b.pending ++ more) =
      ap (λ (x : List ℕ). x ++ more) h.front ∙ append_assoc line (10 ∷ drop size b.pending) more in
      ap terminated split ∙ terminated-line line (drop size b.pending ++ more)
  pending_terminated line size (inr h) =
      let same : length b.pending ≡ length line = ap (λ (x : List ℕ). length x) h.all in
      let ended : b.ended ≡ true = last_ended b.ended b.failed (length b.pending) h.whole enough (omega (arith, same, h.at_most)) in
      last_terminated line b.pending more size h.lacks h.all h.sized h.some (end ended)

module _ (version : Version) (before : Naming) where
  wrong_whole : (line rest : List ℕ) → Lacks 10 line → IsWrongLine version before line → IsWrongNext version before (line ++ 10 ∷ rest)
  wrong_whole line rest lacks wrong = λ r more grammar e.
      let is : line ≡ record_text r =
      one_line line (record_text r) rest more lacks (text_lacks version (record_text r) r (record { grammar = grammar; text = refl })) (e
      ∙ line_feed_after r more) in
      wrong r (record { grammar = grammar; text = is })

  -- a line of a record is short
  wrong_long : (front others : List ℕ) → Lacks 10 front → max_line_bytes < length front → IsWrongNext version before (front ++ others)
  wrong_long front others lacks long = λ r more grammar e.
      let at_most : length (record_text r) ≤ max_line_bytes =
      text_at_most version (record_text r) r (record { grammar = grammar; text = refl }) in
      absurd (too_long front (record_text r) others more (recursion_from_All (λ byte. byte ≢ 10) front lacks)
      (omega (arith, at_most, long)) (e ∙ line_feed_after r more))

  wrong_line : (line rest bytes : List ℕ) → Lacks 10 line → IsWrongLine version before line → terminated bytes ≡ line ++ 10 ∷ rest
      → IsWrongRest version before bytes
  wrong_line line rest bytes lacks wrong e = record {
    some = let h : length (terminated bytes) ≡ length (line ++ 10 ∷ rest) = ap (λ (x : List ℕ). length x) e in
        omega (arith, h, length-append line (10 ∷ rest));
    wrong = subst (λ (x : List ℕ). IsWrongNext version before x) (sym e) (wrong_whole line rest lacks wrong);
  }

  wrong_of_long : (front rest bytes : List ℕ) → Lacks 10 front → max_line_bytes < length front → terminated bytes ≡ front ++ rest
      → IsWrongRest version before bytes
  wrong_of_long front rest bytes lacks long e = record {
    some = let h : length (terminated bytes) ≡ length (front ++ rest) = ap (λ (x : List ℕ). length x) e in
        omega (arith, h, long, length-append front rest);
    wrong = subst (λ (x : List ℕ). IsWrongNext version before x) (sym e) (wrong_long front rest lacks long);
  }

  -- a wrong pending line is the next one, whatever follows it
  pub wrong_next : (b : Buffered) (more : List ℕ) → (b.ended ≡ true → more ≡ []) → HoldsLine b → IsWrongPending version before b
      → IsWrongRest version before (b.pending ++ more)
  wrong_next b more end enough (inl h) =
      wrong_line h.0 (terminated (drop h.1 b.pending ++ more)) (b.pending ++ more) (lacks_of_pending b h.0 h.1 h.2) h.3
      (pending_terminated b more end enough h.0 h.1 h.2)
  wrong_next b more end enough (inr h) =
      let g = long_terminated h.front h.others b.pending more h.pending in
      wrong_of_long h.front g.0 (b.pending ++ more) h.lacks h.long g.1

  -- so is the line of a record that takes memory
  pub next_takes_memory : (b : Buffered) (more : List ℕ) → (b.ended ≡ true → more ≡ []) → HoldsLine b
      → IsPendingToTakeMemory version before b
      → IsNextToTakeMemory version before (terminated (b.pending ++ more))
  next_takes_memory b more end enough h = record {
    next = h.read;
    following = terminated (drop h.size b.pending ++ more);
    grammar = h.grammar;
    front = pending_terminated b more end enough (record_text h.read) h.size h.front
        ∙ sym (line_feed_after h.read (terminated (drop h.size b.pending ++ more)));
    takes = h.takes;
  }
