-- A paper by its meaning, and the paper that a text writes.
use Rattle.std.specs.Prelude.{ℕ, ◌+◌, Bool, false, cond, List, [], ◌∷◌, ◌++◌, map, Some, None, Ok, Err, vec_items, codes, Option, Result}
use Rattle.std.specs.Option.{option_map}
use Rattle.std.specs.Str.{bytes_eq}
use Rattle.compactions.specs.Entries.{Entry}
use Rattle.compactions.specs.Meanings.{entry_of, manifest_of}
use Rattle.compactions.specs.Trees.{Manifest}
use Rattle.marking.specs.declared.marks.Question.{Question}
use Rattle.paper_text.specs.Lines.{lines, before_comment, has_control}
use Rattle.paper_text.specs.Numbers.{id_of}
use Rattle.paper_text.specs.Words.{words, only_word}
use Rattle.problems.specs.declared.error.PaperError.{PaperError}
use Rattle.problems.specs.declared.error.Problem.{Problem}
use Rattle.problems.specs.declared.error.Problem.TheVariants as problems
use Rattle.problems.specs.declared.expected.InPaper.TheVariants as expected
use Rattle.problems.specs.declared.expected.InEntry.TheVariants as for-entry
use Rattle.problems.specs.declared.expected.InManifest.TheVariants as for-manifest
use Rattle.problems.specs.Lines.{at}
use Rattle.problems.specs.Outcomes.{then, or_else, with_word}
use Rattle.entry_section.specs.EntryLines.{Draft, draft_of, entry_line, entry_read}
use Rattle.manifest_section.specs.ManifestLines.{Begun, nothing_read, manifest_line, manifest_read}
use Rattle.paper.specs.Answers.{Answered, answer_of}
use Rattle.paper.specs.Scans.{has_key}
use Rattle.paper.specs.AnswerLines.{answer_line, with_line}
use Rattle.paper.specs.declared.reader.Paper as papers
use Rattle.paper.specs.declared.entries.Entries as stages

-- an entry, and what the candidate says of it
pub record Asked : Type 0 where
  pub entry : Entry
  pub answer : Option Answered

-- a paper
pub record Paper : Type 0 where
  pub manifest : Manifest
  pub questions : List Asked

-- the manifest, the entries that are complete, and the entry at hand with its answer and the line
-- of its id
pub record Entries : Type 0 where
  pub manifest : Manifest
  pub done : List Asked
  pub line : ℕ
  pub draft : Draft
  pub answer : Option Answered

-- the section whose lines are being read, with what was read
pub data Stage : Type 0 where
  start : Stage
  in_manifest : Begun → Stage
  in_entries : Entries → Stage

abbrev pub asked_of : Question → Asked
asked_of q = record { entry = entry_of q.entry; answer = option_map answer_of q.answer }

abbrev pub paper_of : papers.Paper → Paper
paper_of p = record { manifest = manifest_of p.manifest; questions = map asked_of (vec_items p.questions) }

abbrev pub entries_of : stages.Entries → Entries
entries_of e = record { manifest = manifest_of e.manifest; done = map asked_of (vec_items e.done); line = e.line; draft = draft_of e.draft; answer = option_map answer_of e.answer }

-- an entry that was begun, without a kind
abbrev pub new_draft : ℕ → Draft
new_draft i = record { id = i; entry = None; has_segment = false; has_status = false }

-- the entries with another draft or another answer at hand
abbrev pub with_draft : Entries → Draft → Entries
with_draft e d = record { manifest = e.manifest; done = e.done; line = e.line; draft = d; answer = e.answer }

abbrev pub with_answer : Entries → Answered → Entries
with_answer e a = record { manifest = e.manifest; done = e.done; line = e.line; draft = e.draft; answer = Some a }

-- whether an entry has that id
abbrev pub has_id : ℕ → List Asked → Bool
has_id i qs = has_key (λ q. q.entry.id) i qs

-- the line `manifest`, alone and once, before the first entry
abbrev pub manifest_begun : List (List ℕ) → Stage → Result Stage Problem
manifest_begun (w ∷ ws) s = Err (problems.Paper expected.ManifestAlone)
manifest_begun [] start = Ok (in_manifest nothing_read)
manifest_begun [] (in_manifest d) = Err (problems.Paper expected.OneManifest)
manifest_begun [] (in_entries e) = Err (problems.Paper expected.OneManifest)

-- the entries with the one at hand
abbrev pub entries_read : Entries → Result Paper Problem
entries_read e = then (entry_read e.draft) (λ x. Ok (record { manifest = e.manifest; questions = e.done ++ (record { entry = x; answer = e.answer } ∷ []) }))

-- the paper, if the text ends here
abbrev pub paper_read : Stage → Result Paper PaperError
paper_read start = at 1 (Err (problems.Paper expected.Manifest))
paper_read (in_manifest d) = at 1 (then (manifest_read d) (λ m. Ok (record { manifest = m; questions = [] })))
paper_read (in_entries e) = at e.line (entries_read e)

-- an entry begins, whose id no entry above has
abbrev pub entry_added : ℕ → Paper → ℕ → Result Stage Problem
entry_added n p i =
    cond (has_id i p.questions) (Err (problems.Paper expected.NewEntryId))
    (Ok (in_entries (record { manifest = p.manifest; done = p.questions; line = n; draft = new_draft i; answer = None })))

abbrev pub entry_after : ℕ → List (List ℕ) → Paper → Result Stage Problem
entry_after n ws p = then (or_else (with_word id_of (only_word ws)) (problems.Paper expected.EntryId)) (entry_added n p)

-- the line `entry`
abbrev pub entry_begun : ℕ → List (List ℕ) → Stage → Result Stage PaperError
entry_begun n ws start = at n (Err (problems.Paper expected.ManifestFirst))
entry_begun n ws (in_manifest d) = then (paper_read (in_manifest d)) (λ p. at n (entry_after n ws p))
entry_begun n ws (in_entries e) = then (paper_read (in_entries e)) (λ p. at n (entry_after n ws p))

-- a line of an answer
abbrev pub said_line : List ℕ → List (List ℕ) → Option Answered → Result Answered Problem
said_line k ws a =
    cond (bytes_eq k (codes "answer")) (answer_line ws a)
    (cond (bytes_eq k (codes "with")) (with_line ws a) (Err (problems.Entry for-entry.Keyword)))

-- a line of the entry at hand, or of its answer
abbrev pub question_line : List ℕ → List (List ℕ) → Entries → Result Entries Problem
question_line k ws e =
    elim (entry_line k ws e.draft) [
      | Some r ↦ then r (λ d. Ok (with_draft e d))
      | None ↦ then (said_line k ws e.answer) (λ a. Ok (with_answer e a))
    ]

-- a line of the manifest
abbrev pub begun_line : List ℕ → List (List ℕ) → Begun → Result Begun Problem
begun_line k ws d = elim (manifest_line k ws d) [ Some r ↦ r | None ↦ Err (problems.Manifest for-manifest.Keyword) ]

-- a line of the section at hand
abbrev pub part_read : List ℕ → List (List ℕ) → Stage → Result Stage Problem
part_read k ws start = Err (problems.Paper expected.Manifest)
part_read k ws (in_manifest d) = then (begun_line k ws d) (λ d'. Ok (in_manifest d'))
part_read k ws (in_entries e) = then (question_line k ws e) (λ e'. Ok (in_entries e'))

-- a line by its words; the first is the keyword, and a line without words is passed over
abbrev pub words_read : ℕ → List (List ℕ) → Stage → Result Stage PaperError
words_read n [] s = Ok s
words_read n (k ∷ ws) s =
    cond (bytes_eq k (codes "manifest")) (at n (manifest_begun ws s))
    (cond (bytes_eq k (codes "entry")) (entry_begun n ws s)
    (at n (part_read k ws s)))

-- a line: no control character may stand in it, and its words are those before its comment
abbrev pub line_read : ℕ → List ℕ → Stage → Result Stage PaperError
line_read n l s = cond (has_control l) (at n (Err (problems.Paper expected.NoControl))) (words_read n (words (before_comment l)) s)

-- the lines from one on, and then the end of the text
abbrev pub lines_read : ℕ → List (List ℕ) → Stage → Result Paper PaperError
lines_read n [] s = paper_read s
lines_read n (l ∷ ls) s = then (line_read n l s) (lines_read (n + 1) ls)

-- the paper that a text in UTF-8 writes, or the first problem with its line
abbrev pub paper_in : List ℕ → Result Paper PaperError
paper_in bs = lines_read 1 (lines bs) start
