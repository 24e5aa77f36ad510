-- The fields so far fit.
use Rattle.std.proofs.Common.{◌≡◌, drop}
use Rattle.request.specs.Decoded.{first_invalid}
use Rattle.request.proofs.decoding.first_invalid.Given as goal

abbrev pub invariant-loop-place : goal.invariant-loop-place
invariant-loop-place l = first_invalid l.place (drop l.place l.fields) l.numbers ≡ first_invalid 0 l.fields l.numbers
