-- A forwarded block begins the words of a segment exactly if it begins the part of them that a block may have.
use Rattle.std.proofs.Common.{ℕ, ◌≡◌, ◌≤◌, ◌<◌, ◌+◌, ◌-◌, ◌∙◌, List, length, take, drop, get_or, min, Option, Some, None, IfSome, IfNone, OnSome, sym, ap, arith}
use Rattle.std.proofs.lemmas.List.{get_or-take, get_or-drop, length-drop, length-take}
use Rattle.std.specs.Prelude.{slice_index}
use Rattle.mps_base.specs.Address.{max_block_words, word_of}
use Rattle.mps_base.specs.declared.address.Addr.{Addr}
use Rattle.mps_format.specs.Layout.{Layout}
use Rattle.mps_format.specs.Blocks.{BeginsForwarded}
use Rattle.mps_amc.specs.Moving.{IsForwarded, IsUnforwarded}

-- `mem` are the words from one on: all of them, or as many as a block may have
pub record IsPart (words mem : List ℕ) (at : ℕ) : Type 0 where
  pub value : mem ≡ take (length mem) (drop at words)
  pub complete : (n : ℕ) → n ≤ max_block_words → at + n ≤ length words → n ≤ length mem

module _ (f : Layout) (words mem : List ℕ) (at : ℕ) (part : IsPart words mem at) where
  part_length : length mem ≤ length words - at
  part_length =
      let is : length mem ≡ min (length mem) (length words - at) =
      ap (λ (ws : List ℕ). length ws) part.value ∙ length-take (length mem) (drop at words)
      ∙ ap (λ (n : ℕ). min (length mem) n) (length-drop at words)
      in
      omega (arith, is)

  pub same_word : (k : ℕ) → k < length mem → slice_index mem k ≡ slice_index (drop at words) k
  same_word k within =
      ap (λ (ws : List ℕ). get_or ws k 0) part.value ∙ get_or-take (length mem) (drop at words) k 0 within

  pub begins_whole : (size : ℕ) → BeginsForwarded f mem size → BeginsForwarded f (drop at words) size
  begins_whole size begins = record {
    in_range = begins.in_range;
    whole = omega (arith, begins.whole, part_length, length-drop at words);
    head = sym (same_word 0 (omega (arith, begins.in_range.0, begins.whole))) ∙ begins.head;
  }

  pub begins_part : (size : ℕ) → BeginsForwarded f (drop at words) size → BeginsForwarded f mem size
  begins_part size begins =
      let whole : size ≤ length mem =
      part.complete size begins.in_range.1 (omega (arith, begins.whole, begins.in_range.0, length-drop at words))
      in
      record {
        in_range = begins.in_range;
        whole = whole;
        head = same_word 0 (omega (arith, begins.in_range.0, whole)) ∙ begins.head;
      }

  pub target_word : (size : ℕ) → BeginsForwarded f mem size → slice_index mem 1 ≡ slice_index words (at + 1)
  target_word size begins =
      same_word 1 (omega (arith, begins.in_range.0, begins.whole)) ∙ get_or-drop at words 1 0

-- what a format reads of the part holds of all words
module _ (f : Layout) (words mem : List ℕ) (at : ℕ) (part : IsPart words mem (word_of at)) where
  pub forwards_whole : (o : Option Addr)
      → ((size : ℕ) → BeginsForwarded f mem size → o ≡ Some (record { 0 = slice_index mem 1 }))
      → OnSome o ((size : ℕ) × BeginsForwarded f mem size) → IfSome o (λ to. IsForwarded f words at to.0)
  forwards_whole None complete sound = sound
  forwards_whole (Some to) complete sound =
      let both : Some to ≡ Some (record { 0 = slice_index mem 1 }) = complete sound.0 sound.1 in
      let same : to ≡ record { 0 = slice_index mem 1 } = cc in
      record {
        size = sound.0;
        begins = begins_whole f words mem (word_of at) part sound.0 sound.1;
        leads = ap (λ (a : Addr). a.0) same ∙ target_word f words mem (word_of at) part sound.0 sound.1;
      }

  pub unforwarded_whole : (o : Option Addr)
      → ((size : ℕ) → BeginsForwarded f mem size → o ≡ Some (record { 0 = slice_index mem 1 }))
      → IfNone o (IsUnforwarded f words at)
  unforwarded_whole None complete = λ size begins.
      let to : Addr = record { 0 = slice_index mem 1 } in
      let never : None ≡ Some to =
      complete size (begins_part f words mem (word_of at) part size begins)
      in
      cc
  unforwarded_whole (Some to) complete = tt
