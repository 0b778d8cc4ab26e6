-- The token of the open reservation of the point under a key, and what becomes of that point when its reservation ends.
use Rattle.std.proofs.Common.{ℕ, ◌<◌, ◌≡◌, Option, Some, None, option_map, List, length, get_or, refl, sym, ap, ◌∙◌, subst, inl, inr}
use Rattle.std.proofs.lemmas.Bool.{cases_lt}
use Rattle.std.proofs.lemmas.List.{get_or_past}
use Rattle.mps_buffer.specs.declared.point.Held.{Held}
use Rattle.mps_buffer.specs.declared.point.Point.{Point}
use Rattle.mps_buffer.specs.declared.point.Reserved.{Reserved}
use Rattle.mps_buffer.specs.Points.{PointsState, point_at, without_free_words, IsOpenAt}
use Rattle.mps_buffer.specs.Tokens.{token_of}

-- there is a point under a key
pub some_within : {X : Type 0} (xs : List (Option X)) (i : ℕ) (x : X) → get_or xs i None ≡ Some x → i < length xs
some_within xs i x is =
    elim (cases_lt i (length xs)) [
      | inl within ↦ within
      | inr past ↦ let never : None ≡ Some x = sym (get_or_past xs i None past) ∙ is in cc
    ]

-- the open reservation that a token is of
pub record IsTokenOf (key : ℕ) (o : Option Point) (t : Reserved) : Type 0 where
  pub point : Point
  pub there : o ≡ Some point
  pub reserved : point.reservation ≡ Some t.held
  pub at_key : t.point ≡ key

pub is_token_of : (key : ℕ) (o : Option Point) (t : Reserved) → Some t ≡ token_of key o → IsTokenOf key o t
is_token_of key None t is = let never : Some t ≡ None = is in cc
is_token_of key (Some p) t is = go p.reservation refl is
  where
    go : (r : Option Held) → p.reservation ≡ r → Some t ≡ option_map (λ h. record { point = key; held = h }) r → IsTokenOf key (Some p) t
    go None reserved is = let left : Option Reserved = Some t in let never : left ≡ None = is in cc
    go (Some h) reserved is =
        let made : Reserved = record { point = key; held = h } in
        let left : Option Reserved = Some t in
        let both : left ≡ Some made = is in
        let same : t ≡ made = cc in
        record {
          point = p;
          there = refl;
          reserved = reserved ∙ ap (λ (x : Held). Some x) (sym (ap (λ (x : Reserved). x.held) same));
          at_key = ap (λ (x : Reserved). x.point) same;
        }

-- a point without a token has no reservation
abbrev pub HasNoToken : ℕ → Option Point → Type 0
HasNoToken key o = token_of key o ≡ None

-- a flip leaves the token
pub token_emptied : (key : ℕ) (p : Option Point) → token_of key (option_map without_free_words p) ≡ token_of key p
token_emptied key None = refl
token_emptied key (Some p) = refl

-- ---- the reservation of a token

module _ (s : PointsState) (key : ℕ) (t : Reserved) (of : IsTokenOf key (point_at s key) t) where
  pub open_at : key < length s.points → IsOpenAt s t.point t.held
  open_at within =
      let P : ℕ → Type 0 = λ k. IsOpenAt s k t.held in
      subst P (sym of.at_key) (record { within = within; point = of.point; there = of.there; reserved = of.reserved })
