-- Document 01, 'Numbers returned': what a verdict says of a list of rules, whatever they are, and what is proved of it.
use Rattle.std.specs.Prelude.{◌<◌, ◌≡◌, true, false, List, [], ◌∷◌, ◌++◌, ◌↔◌}
use Rattle.answers.specs.Answers.{Verdict, verdict, Answer, said, Rule, first_broken, all_hold}

-- no rule of a list has number 0, which is kept for 'accepted'
abbrev pub Numbered : List Rule → Type 0
Numbered [] = Unit {0}
Numbered (r ∷ rs) = (0 < r.number) × Numbered rs

-- a verdict names a broken rule before which every rule holds
pub record First (rs : List Rule) (v : Verdict) : Type 0 where
  pub before : List Rule
  pub broken : Rule
  pub later : List Rule
  pub split : rs ≡ before ++ broken ∷ later
  pub kept : all_hold before ≡ true
  pub breaks : broken.holds ≡ false
  pub says : v ≡ verdict broken.number broken.place

-- number and place: 0 exactly when every rule holds; else those of a broken rule before which every rule holds
pub record Decides (rs : List Rule) (v : Verdict) : Type 0 where
  pub accepts : (v.number ≡ 0) ↔ (all_hold rs ≡ true)
  pub refuses : (v.number ≡ 0 → ⊥) → First rs v

-- ---- what is proved
-- "Given exactly when": of every list of rules the first broken one, where one is broken, is the verdict, and 0 where none is
abbrev pub TheFirstBrokenRuleDecides : Type 0
TheFirstBrokenRuleDecides = (rs : List Rule) → Numbered rs → Decides rs (first_broken rs)

-- one answer has a verdict: so a contract that fixes what an answer says fixes the answer
abbrev pub OneAnswerForAVerdict : Type 0
OneAnswerForAVerdict = (a b : Answer) → said a ≡ said b → a ≡ b
