-- Where a piece fails, the pieces before it and a beginning of its bytes are written.
use Rattle.std.proofs.Common.{◌+◌, ◌<◌, length, drop, arith, subst}
use Rattle.output.specs.Output.{WritesAll, WritesPart, bytes_of}
use Rattle.output.proofs.Chains.{all_then_all, all_then_part, part_then, passed_up, one_more, around}
use Rattle.output.proofs.Output.write_pieces.Goals as goal

pub loop-piece-preserved : goal.loop-piece-preserved
loop-piece-preserved g c =
    let here : c.loop-piece.piece-index < length c.args.pieces.now = omega arith in
    subst (WritesAll c.args.self.now c.write_piece.new.self) (one_more c.loop-piece.piece-index c.args.pieces.now _ here)
    (all_then_all c.loop-piece.invariant c.in_ok-write_piece.ensures)

pub returns-in_err-write_piece : goal.returns-in_err-write_piece
returns-in_err-write_piece g c =
    let i = c.loop-piece.piece-index in
    let here : i < length c.args.pieces.now = omega arith in
    let part = subst (WritesPart c.args.self.now c.write_piece.new.self) (one_more i c.args.pieces.now _ here) (all_then_part c.loop-piece.invariant c.in_err-write_piece.ensures) in
    passed_up c.from_residual.result _ _ _ c.from_residual.ensures.0
    (subst (WritesPart c.args.self.now c.write_piece.new.self) (around (i + 1) c.args.pieces.now) (part_then (bytes_of (drop (i + 1) c.args.pieces.now)) part))
