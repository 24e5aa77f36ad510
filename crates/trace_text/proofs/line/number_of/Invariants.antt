-- The digits that are left say the number behind those that were read.
use Rattle.std.proofs.Common.{◌≡◌, ◌^◌, ◌≤◌, drop}
use Rattle.trace_text.specs.Words.{digits}
use Rattle.trace_text.proofs.line.number_of.Given as goal

abbrev pub invariant-loop-byte : goal.invariant-loop-byte
invariant-loop-byte l = (l.number ≤ 2 ^ 32) × (digits l.number (drop l.byte-index l.word) ≡ digits 0 l.word)
