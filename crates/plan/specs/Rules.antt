-- Document 01, 'The plan file' and 'Numbers returned': the rules 1..8 of a plan, and the number and place of a refusal.
use Rattle.std.specs.Prelude.{ℕ, ◌+◌, ◌*◌, ◌%◌, zero, suc, Bool, true, cond, not, ◌&&◌, ◌||◌, List, [], ◌∷◌, ◌++◌, map, length, leb, ltb, eqb}
use Rattle.limits.specs.Limits.{max_signals, max_tasks, max_priority, max_ports, max_transitions, max_actions, max_order, max_state, max_time, max_plan_bytes}
use Rattle.words.specs.Words.{words_of}
use Rattle.lists.specs.Lists.{between, all, absent}
use Rattle.answers.specs.Answers.{Rule, rule, Verdict, first_broken}
use Rattle.plan.specs.File.{version, signal_count, task_count, start_of, length_of, Transition, Action, Task, input_count, output_count, transition_count, action_count, actions_at, task_of, task_bodies, plan_of}

-- ---- 1: "plan bytes not a multiple of 4, below 12, or above 20,564"
abbrev pub size_rule : List ℕ → Bool
size_rule bytes = eqb (length bytes % 4) 0 && between 12 max_plan_bytes (length bytes)

-- ---- 2: "version, S or T wrong"
abbrev pub head_rule : List ℕ → Bool
head_rule ws = eqb (version ws) 1 && between 1 max_signals (signal_count ws) && between 1 max_tasks (task_count ws)

-- ---- 3: "contents cut short, or an entry not as above, or signals length not S"
-- "The first start is 3 + 2 × (T + 1)"
abbrev pub first_start : List ℕ → ℕ
first_start ws = 3 + (task_count ws + 1) * 2

-- n entries from entry k on: "each next start is the end of the body before; the last body ends at the file's end"
unfoldable pub chained : List ℕ → ℕ → ℕ → ℕ → Bool
chained ws zero k start = eqb start (length ws)
chained ws (suc n) k start = eqb (start_of ws k) start && chained ws n (k + 1) (start + length_of ws k)

abbrev pub contents_rule : List ℕ → Bool
contents_rule ws =
    leb (first_start ws) (length ws) && eqb (length_of ws 0) (signal_count ws) && chained ws (task_count ws + 1) 0 (first_start ws)

-- ---- 4: "task body shorter than 11, a count above its limit, or length not the formula"
-- "Its length is 11 + ni + no + 4 × nt + 5 × na. ni and no are at most 8, nt and na at most 32."
abbrev pub shape_rule : List ℕ → Bool
shape_rule ws =
    leb 11 (length ws) && leb (input_count ws) max_ports && leb (output_count ws) max_ports && leb (transition_count ws) max_transitions
    && leb (action_count ws) max_actions && eqb (length ws) (actions_at ws + action_count ws * 5)

-- ---- 5: "a timing rule broken"
-- "Period 0 means event-driven, and then offset is 0. Otherwise deadline ≤ period and offset < period."
abbrev pub release_rule : Task → Bool
release_rule k =
    (eqb k.period 0 && eqb k.offset 0) || (not (eqb k.period 0) && leb k.deadline k.period && ltb k.offset k.period)

-- "priority 1..16, 1 the most urgent; execution 1..1,000,000; period and deadline 0..1,000,000"
abbrev pub timing_rule : Task → Bool
timing_rule k =
    between 1 max_priority k.priority && between 1 max_time k.execution && leb k.period max_time && leb k.deadline max_time
    && release_rule k

-- ---- 6: "a body rule broken"
-- "Kind 1 (supervisor) has initial state 1..16 and no ≥ 2."
abbrev pub supervisor_rule : Task → Bool
supervisor_rule k = eqb k.kind 1 && between 1 max_state k.initial && leb 2 (length k.outputs)

-- "Kind 2 (controller) has initial state 0, nt = 0, ni ≥ 2."
abbrev pub controller_rule : Task → Bool
controller_rule k = eqb k.kind 2 && eqb k.initial 0 && eqb (length k.transitions) 0 && leb 2 (length k.inputs)

-- "its order .. different from the others with the same 'from'"
abbrev pub same_order : Transition → Transition → Bool
same_order x y = eqb x.from y.from && eqb x.order y.order

-- "States in transitions and actions are 1..16. A transition's input position is below ni, its order 1..32"
abbrev pub transition_rule : ℕ → Transition → Bool
transition_rule ni x = between 1 max_state x.from && between 1 max_state x.to && ltb x.input ni && between 1 max_order x.order

-- each transition, against those after it
unfoldable pub transitions_rule : ℕ → List Transition → Bool
transitions_rule ni [] = true
transitions_rule ni (x ∷ xs) = transition_rule ni x && all (λ y. not (same_order x y)) xs && transitions_rule ni xs

-- "for kind 4, b is below no and not a; for the others b = 0"; "A supervisor's .. b in kind 4 [is] at least 2": low is 2 there, else 0
abbrev pub second_rule : ℕ → ℕ → Action → Bool
second_rule no' low x =
    (eqb x.kind 4 && leb low x.b && ltb x.b no' && not (eqb x.b x.a)) || (not (eqb x.kind 4) && eqb x.b 0)

-- "An action's kind is 1..4; a is below no"; "c is an input position below ni, except in kind 1, where it is any value"
abbrev pub action_rule : ℕ → ℕ → ℕ → Action → Bool
action_rule ni no' low x =
    between 1 max_state x.state && between 1 4 x.kind && leb low x.a && ltb x.a no' && second_rule no' low x
    && (eqb x.kind 1 || ltb x.c ni)

-- "A supervisor's a, and b in kind 4, are at least 2."
abbrev pub lowest : Task → ℕ
lowest k = cond (eqb k.kind 1) 2 0

-- "Signal numbers are below S."
abbrev pub body_rule : ℕ → Task → Bool
body_rule s k =
    (supervisor_rule k || controller_rule k) && all (λ x. ltb x s) k.inputs && all (λ x. ltb x s) k.outputs
    && transitions_rule (length k.inputs) k.transitions
    && all (action_rule (length k.inputs) (length k.outputs) (lowest k)) k.actions

-- ---- 4, 5 and 6 of one task
abbrev pub one_task : ℕ → ℕ → List ℕ → List Rule
one_task s i ws = rule 4 i (shape_rule ws) ∷ rule 5 i (timing_rule (task_of ws)) ∷ rule 6 i (body_rule s (task_of ws)) ∷ []

-- the bodies from task i on
unfoldable pub task_rules : ℕ → ℕ → List (List ℕ) → List Rule
task_rules s i [] = []
task_rules s i (ws ∷ rest) = one_task s i ws ++ task_rules s (i + 1) rest

-- ---- 7: "two tasks with one priority", 8: "a signal stands twice among all outputs"
-- none of a list of numbers stands among those seen, nor earlier in the list
unfoldable pub all_new : List ℕ → List ℕ → Bool
all_new seen [] = true
all_new seen (x ∷ xs) = absent x seen && all_new (x ∷ seen) xs

-- what is seen after a list of numbers
unfoldable pub after_all : List ℕ → List ℕ → List ℕ
after_all seen [] = seen
after_all seen (x ∷ xs) = after_all (x ∷ seen) xs

-- each task's numbers are new: the later task of the first clash is the first whose are not
unfoldable pub clash_rules : ℕ → ℕ → List ℕ → List (List ℕ) → List Rule
clash_rules number i seen [] = []
clash_rules number i seen (xs ∷ rest) = rule number i (all_new seen xs) ∷ clash_rules number (i + 1) (after_all seen xs) rest

abbrev pub priority_of : Task → List ℕ
priority_of k = k.priority ∷ []

-- ---- the rules of a plan, in the order of the paper
abbrev pub head_rules : List ℕ → List Rule
head_rules bytes =
    rule 1 0 (size_rule bytes) ∷ rule 2 0 (head_rule (words_of bytes)) ∷ rule 3 0 (contents_rule (words_of bytes)) ∷ []

abbrev pub each_task : List ℕ → List Rule
each_task bytes = task_rules (signal_count (words_of bytes)) 0 (task_bodies (words_of bytes))

abbrev pub priority_rules : List ℕ → List Rule
priority_rules bytes = clash_rules 7 0 [] (map priority_of (plan_of bytes).tasks)

abbrev pub output_rules : List ℕ → List Rule
output_rules bytes = clash_rules 8 0 [] (map (λ k. k.outputs) (plan_of bytes).tasks)

unfoldable pub plan_rules : List ℕ → List Rule
plan_rules bytes = head_rules bytes ++ (each_task bytes ++ (priority_rules bytes ++ output_rules bytes))

-- the number and place of a plan
abbrev pub plan_verdict : List ℕ → Verdict
plan_verdict bytes = first_broken (plan_rules bytes)
