-- The lines of an answer.
use Rattle.std.specs.Prelude.{ℕ, Bool, true, false, cond, List, [], ◌∷◌, ◌++◌, Some, None, Ok, Err, codes, Option, Result}
use Rattle.std.specs.Option.{option_map}
use Rattle.std.specs.Str.{bytes_eq}
use Rattle.compactions.specs.Trees.{View}
use Rattle.marking.specs.declared.answer.Part.{Part}
use Rattle.marking.specs.declared.answer.Part.TheVariants as parts
use Rattle.paper_text.specs.Words.{only_word}
use Rattle.paper_text.specs.Numbers.{u32_of, u64_of, signed_of, view_in}
use Rattle.problems.specs.declared.error.Problem.{Problem}
use Rattle.problems.specs.declared.error.Problem.TheVariants as problems
use Rattle.problems.specs.declared.expected.InAnswer.TheVariants as expected
use Rattle.problems.specs.Outcomes.{then, or_else, with_word}
use Rattle.paper.specs.Scans.{has_key}
use Rattle.paper.specs.Answers.{Said, destination, views, runs, tick, last_run, retention, context, Answered, passes, refused, kind}

-- one of two words: true for the first
abbrev pub choice : List ℕ → List ℕ → List ℕ → Option Bool
choice one other w = cond (bytes_eq w one) (Some true) (cond (bytes_eq w other) (Some false) None)

-- words that write views, after those that were read
abbrev pub views_in : List (List ℕ) → List View → Result (List View) Problem
views_in [] vs = Ok vs
views_in (w ∷ ws) vs = then (or_else (view_in w) (problems.Answer expected.View)) (λ v. views_in ws (vs ++ (v ∷ [])))

-- words that write runs' numbers, after those that were read
abbrev pub runs_in : List (List ℕ) → List ℕ → Result (List ℕ) Problem
runs_in [] ns = Ok ns
runs_in (w ∷ ws) ns = then (or_else (u32_of w) (problems.Answer expected.Run)) (λ n. runs_in ws (ns ++ (n ∷ [])))

-- the part of the arguments that a word names
abbrev pub part_named : List ℕ → Option Part
part_named w =
    cond (bytes_eq w (codes "destination")) (Some parts.Destination)
    (cond (bytes_eq w (codes "views")) (Some parts.Views)
    (cond (bytes_eq w (codes "runs")) (Some parts.Runs)
    (cond (bytes_eq w (codes "tick")) (Some parts.Tick)
    (cond (bytes_eq w (codes "last-run")) (Some parts.LastRun)
    (cond (bytes_eq w (codes "retention")) (Some parts.Retention)
    (cond (bytes_eq w (codes "context")) (Some parts.Context) None))))))

-- what the words behind it say of a part
abbrev pub part_by : List (List ℕ) → Part → Result Said Problem
part_by ws parts.Destination = or_else (option_map destination (with_word u32_of (only_word ws))) (problems.Answer expected.Destination)
part_by ws parts.Views = then (views_in ws []) (λ vs. Ok (views vs))
part_by ws parts.Runs = then (runs_in ws []) (λ ns. Ok (runs ns))
part_by ws parts.Tick = or_else (option_map tick (with_word signed_of (only_word ws))) (problems.Answer expected.Tick)
part_by ws parts.LastRun = or_else (option_map last_run (with_word (choice (codes "set") (codes "unset")) (only_word ws))) (problems.Answer expected.LastRun)
part_by ws parts.Retention = or_else (option_map retention (with_word u64_of (only_word ws))) (problems.Answer expected.Retention)
part_by ws parts.Context = or_else (option_map context (with_word (choice (codes "present") (codes "absent")) (only_word ws))) (problems.Answer expected.Context)

-- a part of the arguments
abbrev pub part_in : List (List ℕ) → Result Said Problem
part_in [] = Err (problems.Answer expected.Part)
part_in (k ∷ ws) = then (or_else (part_named k) (problems.Answer expected.Part)) (part_by ws)

-- whether one of these is of that kind
abbrev pub has_kind : ℕ → List Said → Bool
has_kind k ss = has_key kind k ss

-- each kind once
abbrev pub part_added : List Said → Said → Result (List Said) Problem
part_added ss s = cond (has_kind (kind s) ss) (Err (problems.Answer expected.OnePart)) (Ok (ss ++ (s ∷ [])))

-- the line `answer`, once
abbrev pub answer_line : List (List ℕ) → Option Answered → Result Answered Problem
answer_line ws (Some a) = Err (problems.Answer expected.OneAnswer)
answer_line ws None =
    then (or_else (with_word (choice (codes "passes") (codes "refused")) (only_word ws)) (problems.Answer expected.Verdict)) (λ b.
    Ok (cond b (passes []) refused))

-- a line `with`, after `answer passes`
abbrev pub with_line : List (List ℕ) → Option Answered → Result Answered Problem
with_line ws None = Err (problems.Answer expected.PassesFirst)
with_line ws (Some refused) = Err (problems.Answer expected.PassesFirst)
with_line ws (Some (passes ss)) = then (then (part_in ws) (part_added ss)) (λ ss'. Ok (passes ss'))
