-- What was said so far and the lines that are left say what the text says; so many lines were read.
use Rattle.std.proofs.Common.{◌≡◌, ◌+◌, length, drop}
use Rattle.trace_text.specs.Said.{lines_said, content_of}
use Rattle.trace_text.specs.Words.{lines}
use Rattle.trace_text.proofs.Trace.read_lines.Given as goal

abbrev pub invariant-loop-i : goal.invariant-loop-i
invariant-loop-i l =
    (lines_said (length l.yielded + 1) (content_of l.self) (drop (length l.yielded) (lines l.text)) ≡ lines_said 1 (content_of l.initial.self) (lines l.text)) × (l.last ≡ length l.yielded)
