-- Names opened and made through a desk that gathers.
use Rattle.std.proofs.Common.{◌≡◌, ℕ, Option, Some, None, IfSome, List, [], refl, sym, ap, subst, ◌∙◌}
use Rattle.std.specs.Option.{option_map}
use Rattle.mps_desk.specs.Desk.{Outside, Files, SameElsewhere, after_log, made_for_log, text_in}
use Rattle.mps_report.proofs.Logging.{filed_nothing}
use Rattle.mps_gathering.specs.Gathering.{Gathered, outside_with, text_over, OnlyHandsToLog}

pub hands_to : (a b c : Outside) → OnlyHandsToLog a b → c ≡ b → OnlyHandsToLog a c
hands_to a b c hands is = subst (λ (o : Outside). OnlyHandsToLog a o) (sym is) hands

text_is : (known : Option Files) (text : List ℕ → Option (List ℕ)) (name : List ℕ)
    → IfSome known (λ files. text name ≡ text_in files.all name) → text_over known text name ≡ text name
text_is None text name law = refl
text_is (Some files) text name law = sym law

-- where nothing waits for the log, a name opens as the inner desk opens it
pub text_settled : (o : Outside) (waiting name : List ℕ) → waiting ≡ [] → IfSome o.files (λ files. o.text name ≡ text_in files.all name)
    → text_over (option_map (after_log waiting) o.files) o.text name ≡ o.text name
text_settled o waiting name none law =
    ap (λ (piece : List ℕ). text_over (option_map (after_log piece) o.files) o.text name) none
    ∙ ap (λ (known : Option Files). text_over known o.text name) (sym (filed_nothing o.files))
    ∙ text_is o.files o.text name law

-- the input is the text of the name
pub opened : (a : Outside) (i j : Outside) (g h : Gathered) (name : List ℕ) → OnlyHandsToLog a (outside_with i g) → g.log.bytes ≡ []
    → IfSome i.files (λ files. i.text name ≡ text_in files.all name) → j.input ≡ i.text name → (outside_with j h).input ≡ a.text name
opened a i j g h name hands none law input =
    input ∙ sym (text_settled i g.log.bytes name none law) ∙ ap (λ (text : List ℕ → Option (List ℕ)). text name) hands.kept.text

pub made : (a : Outside) (i j : Outside) (g h : Gathered) (name : List ℕ) → OnlyHandsToLog a (outside_with i g) → g.log.bytes ≡ [] → h ≡ g
    → j.files ≡ option_map (made_for_log name) i.files → (outside_with j h).files ≡ option_map (made_for_log name) a.files
made a i j g h name hands none same files =
    let old : a.files ≡ i.files =
    sym hands.kept.files ∙ ap (λ (p : List ℕ). option_map (after_log p) i.files) none ∙ sym (filed_nothing i.files) in
    let new : (outside_with j h).files ≡ j.files =
    ap (λ (x : Gathered). option_map (after_log x.log.bytes) j.files) same
    ∙ ap (λ (p : List ℕ). option_map (after_log p) j.files) none ∙ sym (filed_nothing j.files) in
    new ∙ files ∙ ap (λ (known : Option Files). option_map (made_for_log name) known) (sym old)

pub elsewhere : (a : Outside) (i j : Outside) (g h : Gathered) (name : List ℕ) → OnlyHandsToLog a (outside_with i g) → g.log.bytes ≡ []
    → h ≡ g
    → ((other : List ℕ) → IfSome i.files (λ files. i.text other ≡ text_in files.all other))
    → ((other : List ℕ) → IfSome j.files (λ files. j.text other ≡ text_in files.all other))
    → SameElsewhere name i j → SameElsewhere name a (outside_with j h)
elsewhere a i j g h name hands none same law_i law_j stays = λ other differs.
    text_settled j h.log.bytes other (ap (λ (x : Gathered). x.log.bytes) same ∙ none) (law_j other)
    ∙ stays other differs ∙ sym (text_settled i g.log.bytes other none (law_i other))
    ∙ ap (λ (text : List ℕ → Option (List ℕ)). text other) hands.kept.text
