-- The pieces so far are written.
use Rattle.std.proofs.Common.{take}
use Rattle.output.specs.Output.{WritesAll, bytes_of}
use Rattle.output.proofs.Output.write_pieces.Given as goal

abbrev pub invariant-loop-piece : goal.invariant-loop-piece
invariant-loop-piece g l = WritesAll l.initial.self l.self (bytes_of (take l.piece-index l.pieces))
