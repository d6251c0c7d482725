use Rattle.std.proofs.Common.{◌≡◌, ◌+◌, ◌≤◌, drop}
use Rattle.paper_text.specs.Lines.{line_after}
use Rattle.paper_text.proofs.lines.line_after.Given as goal

-- lines so far, and those that are left; at most one for each byte
abbrev pub invariant-loop-b : goal.invariant-loop-b
invariant-loop-b l = (l.line + line_after (drop l.b-index l.text) ≡ 1 + line_after l.text) × (l.line ≤ l.b-index + 1)
