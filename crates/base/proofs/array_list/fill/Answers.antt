-- The items lie after those that were there.
use Rattle.std.proofs.Common.{◌+◌, ◌-◌, length, arith}
use Rattle.base.proofs.Fills.{filled}
use Rattle.base.proofs.array_list.fill.Goals as goal

pub returns-clause-after : goal.returns-clause-after
returns-clause-after g c =
    let all = c.args.all.now in
    let start = c.args.start in
    let m = c.min.result in
    filled start (length all - start) all c.args.items.now c.requires m (start + m - start) (length all)
    c.copy_from_slice.new.self c.min.ensures (omega arith) c.copy_from_slice.ensures.after (omega arith)
