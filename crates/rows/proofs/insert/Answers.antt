-- The move and the two writes leave the row where it belongs.
use Rattle.std.proofs.Common.{◌≡◌, ◌+◌, ◌-◌, ◌*◌, arith}
use Rattle.rows.proofs.Memory.{opened_is}
use Rattle.rows.proofs.insert.Goals as goal

pub returns : goal.returns
returns c =
    let e : 2 * c.args.count + 2 ≡ 2 * c.args.at + 2 + (2 * c.args.count - 2 * c.args.at) = omega arith in
    rw (c.set_row.ensures, c.copy_within.ensures.after, c.from.ensures, c.from-2.ensures, e)
    (opened_is c.args.part.now (2 * c.args.at) (2 * c.args.count - 2 * c.args.at) c.args.row.key c.args.row.amount (omega arith))
