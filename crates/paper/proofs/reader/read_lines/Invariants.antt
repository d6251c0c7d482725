use Rattle.std.proofs.Common.{◌≡◌, ◌+◌, length}
use Rattle.std.specs.Iterator.Adapters.{enumerate_source, enumerate_count}
use Rattle.paper_text.specs.Lines.{lines}
use Rattle.paper.specs.Readings.{lines_read, paper_in}
use Rattle.paper.specs.Stages.{stage_of}
use Rattle.paper.proofs.reader.read_lines.Given as goal

-- the lines from here on, on what was read
abbrev pub invariant-loop-i : goal.invariant-loop-i
invariant-loop-i l =
    ((goal.iterator-loop-i).can_next l.i-iterator × (goal.iterator-loop-i).is_finite l.i-iterator)
    × (lines_read (enumerate_count l.i-iterator + 1) (enumerate_source l.i-iterator) (stage_of l.reader) ≡ paper_in l.fn.bytes)
    × (enumerate_count l.i-iterator + length (enumerate_source l.i-iterator) ≡ length (lines l.fn.bytes))
