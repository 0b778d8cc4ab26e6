-- The first line of a text that was opened.
use Rattle.std.proofs.Common.{◌≡◌, ℕ, ◌<◌, ◌≤◌, Bool, true, false, List, [], ◌∷◌, ◌++◌, length, drop, Option, Some, None, Result, Ok, Err, refl, sym, ap, subst, ◌∙◌, arith, inl, inr}
use Rattle.std.specs.Prelude.{◌≢◌, IfSome}
use Rattle.std.specs.List.{AllByRecursion}
use Rattle.std.specs.Option.{option_map}
use Rattle.std.proofs.lemmas.List.{append-nil, length-append}
use Rattle.std.proofs.lemmas.List.Elements.{recursion_from_All, All-from_recursion}
use Rattle.mps_desk.specs.Desk.{Outside}
use Rattle.mps_event.specs.declared.version.Version.{Version}
use Rattle.mps_event.specs.declared.version.Version.TheVariants.{One, Two}
use Rattle.mps_report.specs.declared.stop.Stop.{Stop}
use Rattle.mps_report.specs.declared.stop.Stop.TheVariants as stop
use Rattle.mps_log_reader.specs.Input.{Buffered, ReadsMore, IsAtEnd}
use Rattle.mps_log_reader.specs.Left.{left_of}
use Rattle.mps_log_reader.specs.Opening.{first_line}
use Rattle.mps_log_reader.proofs.Left.{left_same}
use Rattle.mps_log_reader.proofs.Opening.{untouched, untouched_left, untouched_end}
use Rattle.mps_txt.specs.declared.bad_text_line.BadTextLine.{BadTextLine}
use Rattle.mps_txt.specs.Separators.{Lacks}
use Rattle.mps_txt.specs.Line.{max_line_bytes}
use Rattle.mps_txt.specs.PendingLine.{IsPendingLine}
use Rattle.mps_txt.specs.Text.{terminated, HasNoFirstLine, BreaksOff}
use Rattle.mps_txt.specs.TextSteps.{first_text, HasOtherLine, TakesFirstLine, OpensText, IsWholeOrLast, OpensWholeLine}
use Rattle.mps_txt.proofs.NextLine.{breaks_off}
use Rattle.mps_txt.proofs.PendingLine.{HoldsLine, pending_terminated, whole_or_last, one_line, too_long, long_terminated, lacks_of_pending}

line_of_version : (version : Version) (more : List ℕ) → first_line version ++ more ≡ first_text version ++ 10 ∷ more
line_of_version One more = refl
line_of_version Two more = refl

front_lacks : (last : ℕ) → last ≢ 10 → AllByRecursion (λ byte. byte ≢ 10) (109 ∷ 112 ∷ 115 ∷ 108 ∷ 111 ∷ 103 ∷ 32 ∷ last ∷ [])
front_lacks last other =
    let no : (byte : ℕ) → 10 < byte → byte ≢ 10 = λ byte more e. omega (arith, more, e) in (
      no 109 (omega arith),
      (
        no 112 (omega arith),
        (no 115 (omega arith), (no 108 (omega arith), (no 111 (omega arith), (no 103 (omega arith), (no 32 (omega arith), (other, tt)))))),
      ),
    )

first_lacks : (version : Version) → Lacks 10 (first_text version)
first_lacks One = All-from_recursion (λ byte. byte ≢ 10) (first_text One) (front_lacks 49 (λ e. omega (arith, e)))
first_lacks Two = All-from_recursion (λ byte. byte ≢ 10) (first_text Two) (front_lacks 50 (λ e. omega (arith, e)))

first_text_length : (version : Version) → length (first_text version) ≡ 8
first_text_length One = refl
first_text_length Two = refl

-- ---- bytes without a first line

nothing_first : (bytes : List ℕ) → bytes ≡ [] → HasNoFirstLine bytes
nothing_first bytes none = λ version rest e.
    let h : 0 ≡ length (first_text version ++ 10 ∷ rest) = ap (λ (x : List ℕ). length x) (sym (ap terminated none) ∙ e
    ∙ line_of_version version rest) in
    absurd (omega (arith, h, length-append (first_text version) (10 ∷ rest)))

other_first : (line rest bytes : List ℕ) → Lacks 10 line → terminated bytes ≡ line ++ 10 ∷ rest
    → ((version : Version) → line ≢ first_text version) → HasNoFirstLine bytes
other_first line rest bytes lacks is other = λ version more e.
    other version (one_line line (first_text version) rest more lacks (first_lacks version) (sym is ∙ e ∙ line_of_version version more))

long_first : (front rest bytes : List ℕ) → Lacks 10 front → max_line_bytes < length front
    → terminated bytes ≡ front ++ rest → HasNoFirstLine bytes
long_first front rest bytes lacks long is = λ version more e.
    too_long front (first_text version) rest more (recursion_from_All (λ byte. byte ≢ 10) front lacks)
    (omega (arith, long, first_text_length version)) (sym is ∙ e ∙ line_of_version version more)

no_more : (ended failed : Bool) (pending more : List ℕ) → pending ≡ [] → failed ≡ false → (ended ≡ true → more ≡ [])
    → (ended ≡ false → failed ≡ false → 4097 ≤ length pending) → pending ++ more ≡ []
no_more true failed pending more none whole end enough = ap (λ (x : List ℕ). pending ++ x) (end refl) ∙ append-nil pending ∙ none
no_more false failed pending more none whole end enough =
    absurd (let h : 4097 ≤ length pending = enough refl whole in let g : length pending
    ≡ 0 = ap (λ (x : List ℕ). length x) none in omega (arith, h, g))

no_first : (b : Buffered) (more : List ℕ) → (b.ended ≡ true → more ≡ []) → HoldsLine b → HasOtherLine b → HasNoFirstLine (b.pending ++ more)
no_first b more end enough (inl h) = nothing_first (b.pending ++ more) (no_more b.ended b.failed b.pending more h.0 h.1 end enough)
no_first b more end enough (inr (inl h)) =
    other_first h.0 (terminated (drop h.1 b.pending ++ more)) (b.pending ++ more) (lacks_of_pending b h.0 h.1 h.2)
    (pending_terminated b more end enough h.0 h.1 h.2) h.3
no_first b more end enough (inr (inr h)) =
    let g = long_terminated h.front h.others b.pending more h.pending in
    long_first h.front g.0 (b.pending ++ more) h.lacks h.long g.1

-- ---- a text that was opened

-- what is pending and what may follow it are these bytes
module _ (y : Buffered) (input : Option (List ℕ)) (bytes : List ℕ) (known : option_map (λ rest. y.pending ++ rest) input ≡ Some bytes)
    (end : y.ended ≡ true → IfSome input (λ left. left ≡ [])) (enough : HoldsLine y) where
  first_left : (version : Version) (size : ℕ) (z : Buffered) → IsPendingLine y (first_text version) size → z.pending ≡ drop size y.pending
      → Some (terminated bytes) ≡ option_map (λ rest. first_line version ++ terminated rest) (option_map (λ rest. z.pending ++ rest) input)
  first_left version size z front following = left_in input known end
    where
      left_in : (i : Option (List ℕ)) → option_map (λ rest. y.pending ++ rest) i ≡ Some bytes
          → (y.ended ≡ true → IfSome i (λ left. left ≡ []))
          → Some (terminated bytes) ≡ option_map (λ rest. first_line version ++ terminated rest) (option_map (λ rest. z.pending ++ rest) i)
      left_in None known end = absurd (let e : None ≡ Some bytes = known in cc)
      left_in (Some more) known end =
          let is : y.pending ++ more ≡ bytes = (let e : Some (y.pending ++ more) ≡ Some bytes = known in cc) in
          let split = pending_terminated y more end enough (first_text version) size front in
          ap Some (sym (ap terminated is) ∙ split ∙ sym (line_of_version version (terminated (drop size y.pending ++ more)))
          ∙ ap (λ (x : List ℕ). first_line version ++ terminated (x ++ more)) (sym following))

  none_left : HasOtherLine y → HasNoFirstLine bytes
  none_left other = none_in input known end
    where
      none_in : (i : Option (List ℕ)) → option_map (λ rest. y.pending ++ rest) i ≡ Some bytes
          → (y.ended ≡ true → IfSome i (λ left. left ≡ [])) → HasNoFirstLine bytes
      none_in None known end = absurd (let e : None ≡ Some bytes = known in cc)
      none_in (Some more) known end =
          let is : y.pending ++ more ≡ bytes = (let e : Some (y.pending ++ more) ≡ Some bytes = known in cc) in
          subst (λ (x : List ℕ). HasNoFirstLine x) is (no_first y more end enough other)

-- a text of these bytes was opened, and a first piece of it was read
pub record IsOpened (a b : Outside) (x y : Buffered) (bytes : List ℕ) : Type 0 where
  pub start : x ≡ untouched
  pub known : a.input ≡ Some bytes
  pub reads : ReadsMore a b x y
  pub enough : HoldsLine y

module _ (a b : Outside) (x y : Buffered) (bytes : List ℕ) (opened : IsOpened a b x y bytes) where
  left : left_of b y ≡ Some bytes
  left = left_same a b x y opened.reads ∙ untouched_left a x opened.start ∙ opened.known

  at_end : IsAtEnd b y
  at_end = opened.reads.end (untouched_end a x opened.start)

  pub opens_text : (z : Buffered) (input : Option (List ℕ)) (result : Result Version (Stop BadTextLine)) → TakesFirstLine y z result
      → OpensText bytes (left_of b z) input b.input result
  opens_text z input (Ok version) takes =
      first_left y b.input bytes left at_end opened.enough version takes.size z takes.front (ap (λ (b : Buffered). b.pending) takes.state)
  opens_text z input (Err (stop.Bad bad)) takes = (takes.0.0, none_left y b.input bytes left at_end opened.enough takes.0.1)
  opens_text z input (Err stop.ReadFailed) takes =
      inr (subst (λ (o : Option (List ℕ)). IfSome o (λ bytes. BreaksOff bytes b.input)) left (breaks_off y b.input b.input takes.0 refl))
  opens_text z input (Err why) takes = absurd takes.0

  -- the first line is taken with its line feed, or it is the last one
  pub opens_whole_line : (z : Buffered) (result : Result Version (Stop BadTextLine)) → TakesFirstLine y z result
      → OpensWholeLine bytes (left_of b z) z result
  opens_whole_line z (Ok version) takes =
      subst (λ (o : Option (List ℕ)). IsWholeOrLast (first_line version) o (left_of b z) z) left
      (subst (λ (after : Buffered). IsWholeOrLast (first_line version) (left_of b y) (left_of b after) after) (sym takes.state)
      (whole_or_last y (first_text version) (first_line version) takes.size b.input (line_of_version version) takes.front opened.enough))
  opens_whole_line z (Err why) takes = tt
