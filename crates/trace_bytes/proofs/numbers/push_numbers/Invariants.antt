-- What was written and what is still to be written are the whole.
use Rattle.std.proofs.Common.{◌≡◌, ◌++◌, drop, vec_items}
use Rattle.trace_bytes.specs.Bytes.{bytes_each}
use Rattle.trace_bytes.proofs.numbers.push_numbers.Given as goal

abbrev pub invariant-loop-number : goal.invariant-loop-number
invariant-loop-number l =
    vec_items l.bytes ++ bytes_each l.width (drop l.number-index l.numbers)
    ≡ vec_items l.initial.bytes ++ bytes_each l.width l.numbers
