-- Document 01, 'The plan file': "Given a task number, the reader hands back that task's body as a part of the caller's file;
-- on 1..8 or 26, an empty part at its start."
use Rattle.std.specs.Prelude.{ℕ, ◌+◌, ◌*◌, ◌≡◌, cond, List, [], ◌∷◌, ◌++◌, ltb, eqb, take, drop}
use Rattle.std.specs.Borrow.{Bor}
use Rattle.words.specs.Words.{words_of}
use Rattle.answers.specs.Answers.{Rule, rule, Verdict, first_broken}
use Rattle.plan.specs.File.{task_count, start_of, length_of}
use Rattle.plan.specs.Rules.{plan_rules}

-- 26: "body reader only: plan accepted, task number not below T"
abbrev pub reader_rules : List ℕ → ℕ → List Rule
reader_rules bytes i = plan_rules bytes ++ (rule 26 0 (ltb i (task_count (words_of bytes))) ∷ [])

abbrev pub reader_verdict : List ℕ → ℕ → Verdict
reader_verdict bytes i = first_broken (reader_rules bytes i)

-- some of the bytes of a file: where they start, and how many they are
pub record Span : Type 0 where
  pub start : ℕ
  pub size : ℕ

-- the span of task i's body, and the empty one at the file's start where the reader refuses
abbrev pub body_span : List ℕ → ℕ → Span
body_span bytes i =
    cond (eqb (reader_verdict bytes i).number 0)
    (record { start = start_of (words_of bytes) (i + 1) * 4; size = length_of (words_of bytes) (i + 1) * 4 })
    (record { start = 0; size = 0 })

-- a part of the caller's file: it stands in the file's own memory, at the span's start, and has the span's bytes
pub record PartOf (file part : Bor (List ℕ)) (s : Span) : Type 0 where
  pub stands : part.ref_ptr ≡ (file.ref_ptr.0, s.start + file.ref_ptr.1)
  pub holds : part.now ≡ take s.size (drop s.start file.now)

-- number and place as they stand in a pair
abbrev pub pair_of : Verdict → List ℕ
pair_of v = v.number ∷ v.place ∷ []

-- what the reader hands back for task i: its part of the file, and the pair of number and place
pub record Handed (file : Bor (List ℕ)) (i : ℕ) (part : Bor (List ℕ)) (told : List ℕ) : Type 0 where
  pub body : PartOf file part (body_span file.now i)
  pub said : told ≡ pair_of (reader_verdict file.now i)
