use Rattle.std.proofs.Common.{◌≡◌, drop}
use Rattle.paper_text.specs.Lines.{control_after, has_control}
use Rattle.paper_text.proofs.lines.has_control.Given as goal

-- what the bytes from here on say
abbrev pub invariant-loop-b : goal.invariant-loop-b
invariant-loop-b l = control_after l.before (drop l.b-index l.line) ≡ has_control l.line
