-- The next line of what is left, from what is pending.
use Rattle.std.proofs.Common.{◌≡◌, ℕ, ◌<◌, ◌≤◌, Bool, true, false, List, [], ◌∷◌, ◌++◌, length, drop, Option, Some, None, Ok, Err, refl, sym, ap, subst, ◌∙◌, arith}
use Rattle.std.specs.Prelude.{IfSome, unwrap_or, is_some}
use Rattle.std.specs.Option.{option_map}
use Rattle.mps_desk.specs.Desk.{Outside}
use Rattle.mps_event.specs.declared.version.Version.{Version}
use Rattle.mps_report.specs.declared.stop.Stop.{Stop}
use Rattle.mps_report.specs.declared.stop.Stop.TheVariants as stop
use Rattle.mps_report.specs.Streams.{FlushedPrefix}
use Rattle.mps_log_reader.specs.Input.{Buffered, ReadsMore, IsAtEnd}
use Rattle.mps_log_reader.specs.Left.{left_of}
use Rattle.mps_log_reader.specs.PutOut.{put_out}
use Rattle.mps_log_reader.specs.RecordLine.{record_line}
use Rattle.mps_log_reader.proofs.Left.{left_same}
use Rattle.mps_log_reader.proofs.PutOut.{put_same, put_more}
use Rattle.mps_txt.specs.declared.bad_text_line.BadTextLine.{BadTextLine}
use Rattle.mps_txt.specs.Line.{record_text}
use Rattle.mps_txt.specs.PendingLine.{IsBrokenOff}
use Rattle.mps_txt.specs.Labels.{Naming}
use Rattle.mps_txt.specs.Readable.{readable_line}
use Rattle.mps_txt.specs.Text.{terminated, IsWrongNext, IsNextToTakeMemory, BreaksOff}
use Rattle.mps_txt.specs.TextSteps.{PendingGives, IsWholeOrLast, progress, NextGives}
use Rattle.mps_txt.proofs.PendingLine.{HoldsLine, pending_terminated, line_feed_after, whole_or_last, wrong_next, next_takes_memory}

pub end_known : (ended : Bool) (input : Option (List ℕ)) (more : List ℕ) → input ≡ Some more
    → (ended ≡ true → IfSome input (λ left. left ≡ [])) → ended ≡ true → more ≡ []
end_known ended input more known end h = rw known at (end h)

nothing_pending : (ended failed : Bool) (pending : List ℕ) (input : Option (List ℕ)) → pending ≡ [] → failed ≡ false
    → (ended ≡ false → failed ≡ false → 4097 ≤ length pending)
    → (ended ≡ true → IfSome input (λ left. left ≡ [])) → IfSome (option_map (λ rest. pending ++ rest) input) (λ bytes. bytes ≡ [])
nothing_pending ended failed pending None none whole enough end = tt
nothing_pending false failed pending (Some more) none whole enough end =
    absurd (let h : 4097 ≤ length pending = enough refl whole in let g : length pending
    ≡ 0 = ap (λ (x : List ℕ). length x) none in omega (arith, h, g))
nothing_pending true failed pending (Some more) none whole enough end = let a : more ≡ [] = end refl in rw (a, none) refl

front_left : (text line pending following : List ℕ) (input : Option (List ℕ)) → ((more : List ℕ) → line ++ more ≡ text ++ 10 ∷ more)
    → ((more : List ℕ) → input ≡ Some more → terminated (pending ++ more) ≡ text ++ 10 ∷ terminated (following ++ more))
    → option_map terminated (option_map (λ rest. pending ++ rest) input)
    ≡ option_map (λ rest. line ++ terminated rest) (option_map (λ rest. following ++ rest) input)
front_left text line pending following None ends h = refl
front_left text line pending following (Some more) ends h = ap Some (h more refl ∙ sym (ends (terminated (following ++ more))))

-- what holds of what is pending and all that may follow it holds of what is left
of_left : (P : List ℕ → Type 0) (pending : List ℕ) (input : Option (List ℕ))
    → ((more : List ℕ) → input ≡ Some more → P (pending ++ more)) → IfSome (option_map (λ rest. pending ++ rest) input) P
of_left P pending None h = tt
of_left P pending (Some more) h = h more refl

pub breaks_off : (b : Buffered) (input unread : Option (List ℕ)) → IsBrokenOff b → unread ≡ input
    → IfSome (option_map (λ rest. b.pending ++ rest) input) (λ bytes. BreaksOff bytes unread)
breaks_off b input unread broken same =
    of_left (λ bytes. BreaksOff bytes unread) b.pending input (λ more known. record {
      part = b.pending;
      others = more;
      split = refl;
      lacks = broken.0;
      at_most = broken.1;
      still = same ∙ known;
    })

-- before a line is put out: more was read, and some of what was gathered was printed
pub record IsReadyForLine (a b c : Outside) (x y : Buffered) (p q : List ℕ) : Type 0 where
  pub at_end : IsAtEnd a x
  pub reads : ReadsMore a b x y
  pub enough : HoldsLine y
  pub kept : FlushedPrefix b c p q
  pub input : c.input ≡ b.input

module _ (a b c : Outside) (x y : Buffered) (p q : List ℕ) (ready : IsReadyForLine a b c x y p q) (version : Version)
    (number : ℕ) (s : Naming) where
  same_left : left_of b y ≡ left_of a x
  same_left = left_same a b x y ready.reads

  put_before : put_out c q ≡ put_out a p
  put_before = put_same b c p q ready.kept ∙ ap (λ (o : Option (List ℕ)). option_map (λ printed. printed ++ p) o) ready.reads.others.printed

  unchanged : (r : List ℕ) → r ≡ q → put_out c r ≡ put_out a p
  unchanged r e = ap (put_out c) e ∙ put_before

  ended_known : (more : List ℕ) → b.input ≡ Some more → y.ended ≡ true → more ≡ []
  ended_known more known = end_known y.ended b.input more known (ready.reads.end ready.at_end)

  -- what holds of what is pending, whatever follows it, holds of what was left
  of_left_before : (P : List ℕ → Type 0) → ((more : List ℕ) → (y.ended ≡ true → more ≡ []) → P (y.pending ++ more)) → IfSome (left_of a x) P
  of_left_before P h = subst (λ (o : Option (List ℕ)). IfSome o P) same_left
      (of_left P y.pending b.input (λ more known. h more (ended_known more known)))

  pub next_line : (t : Naming) (r : List ℕ) (size : Option ℕ) → PendingGives version number s t y q r (Ok size)
      → NextGives version number (progress s a x p) (progress t c (record y { pending = drop (unwrap_or size 0) y.pending }) r) c.input
      (Ok (is_some size))
  next_line t r None gives = (
    subst (λ (o : Option (List ℕ)). IfSome o (λ bytes. bytes ≡ [])) same_left
        (nothing_pending y.ended y.failed y.pending b.input gives.0 gives.1 ready.enough (ready.reads.end ready.at_end)),
    unchanged r gives.2,
  )
  next_line t r (Some size) gives =
      let line = readable_line version s t gives.read in
      let following : Buffered = record y { pending = drop size y.pending } in
      record {
        read = gives.read;
        grammar = gives.grammar;
        meaning = gives.meaning;
        front = ap (λ (o : Option (List ℕ)). option_map terminated o) (sym same_left)
            ∙ front_left (record_text gives.read) (record_line gives.read) y.pending (drop size y.pending) b.input
            (line_feed_after gives.read)
            (λ more known. pending_terminated y more (ended_known more known) ready.enough (record_text gives.read) size gives.front)
            ∙ ap (λ (o : Option (List ℕ)). option_map (λ rest. record_line gives.read ++ terminated rest)
            (option_map (λ rest. drop size y.pending ++ rest) o)) (sym ready.input);
        whole = subst (λ (o : Option (List ℕ)). IsWholeOrLast (record_line gives.read) o (left_of c following) following) same_left
            (subst (λ (o : Option (List ℕ)). IsWholeOrLast (record_line gives.read) (left_of b y)
            (option_map (λ rest. drop size y.pending ++ rest) o) following) (sym ready.input)
            (whole_or_last y (record_text gives.read) (record_line gives.read) size b.input
            (line_feed_after gives.read) gives.front ready.enough));
        put = ap (put_out c) gives.put ∙ put_more q line c.printed
            ∙ ap (λ (o : Option (List ℕ)). option_map (λ all. all ++ line) o) put_before;
      }

  pub next_stops : (t : Naming) (following : Buffered) (r : List ℕ) (why : Stop BadTextLine)
      → PendingGives version number s t y q r (Err why)
      → NextGives version number (progress s a x p) (progress t c following r) c.input (Err why)
  next_stops t following r (stop.Bad bad) gives = (
    gives.0,
    of_left_before (λ bytes. (0 < length (terminated bytes)) × IsWrongNext version s (terminated bytes))
        (λ more end. let g = wrong_next version s y more end ready.enough gives.1 in (g.some, g.wrong)),
    unchanged r gives.2,
  )
  next_stops t following r stop.ReadFailed gives = (
    subst (λ (o : Option (List ℕ)). IfSome o (λ bytes. BreaksOff bytes c.input)) same_left
        (breaks_off y b.input c.input gives.0 ready.input),
    unchanged r gives.1,
  )
  next_stops t following r stop.OutOfMemory gives = (
    of_left_before (λ bytes. IsNextToTakeMemory version s (terminated bytes))
        (λ more end. next_takes_memory version s y more end ready.enough gives.0),
    unchanged r gives.1,
  )
  next_stops t following r why gives = absurd gives
