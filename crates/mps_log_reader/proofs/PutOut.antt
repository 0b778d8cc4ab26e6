-- What was put out, whether or not it is known.
use Rattle.std.proofs.Common.{◌≡◌, ℕ, List, [], ◌++◌, Option, Some, None, refl, sym, ap, append_assoc}
use Rattle.std.specs.Option.{option_map}
use Rattle.mps_desk.specs.Desk.{Outside}
use Rattle.mps_report.specs.Streams.{FlushedPrefix}
use Rattle.mps_report.proofs.Appended.{appended_empty, appended_both}
use Rattle.mps_log_reader.specs.PutOut.{put_out}

puts_kept : (text gathered_before gathered : List ℕ) (p q : Option (List ℕ)) → q ≡ option_map (λ before. before ++ text) p
    → gathered_before ≡ text ++ gathered
    → option_map (λ printed. printed ++ gathered) q ≡ option_map (λ printed. printed ++ gathered_before) p
puts_kept text gathered_before gathered None q e f = rw e refl
puts_kept text gathered_before gathered (Some before) q e f = rw (e, f) (ap Some (append_assoc before text gathered))

-- what was put out stays the same where a prefix of it is printed
pub put_same : (a b : Outside) (x y : List ℕ) → FlushedPrefix a b x y → put_out b y ≡ put_out a x
put_same a b x y k = puts_kept k.text x y a.printed b.printed k.printed.printed k.same

pub put_more : (gathered text : List ℕ) (p : Option (List ℕ)) → option_map (λ printed. printed ++ (gathered ++ text)) p
    ≡ option_map (λ all. all ++ text) (option_map (λ printed. printed ++ gathered) p)
put_more gathered text None = refl
put_more gathered text (Some before) = ap Some (sym (append_assoc before gathered text))

pub nothing_put : (known : Option (List ℕ)) → known ≡ option_map (λ all. all ++ []) known
nothing_put known = appended_empty known

pub one_put : (x y : List ℕ) (a b c : Option (List ℕ)) → b ≡ option_map (λ all. all ++ x) a → c ≡ option_map (λ all. all ++ y) b
    → c ≡ option_map (λ all. all ++ (x ++ y)) a
one_put x y a b c e f = appended_both x y a b c e f
