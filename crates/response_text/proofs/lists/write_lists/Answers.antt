-- A turn writes the first of the lists that are left.
use Rattle.std.proofs.Common.{rules}
use Rattle.output.proofs.Chains.{passed_up}
use Rattle.response_text.specs.Lines.{list_bytes}
use Rattle.response_text.proofs.Pairs.{split_on}
use Rattle.response_text.proofs.Separated.{go_on, fail}
use Rattle.response_text.proofs.lists.write_lists.Goals as goal

pub loop-count-preserved : goal.loop-count-preserved
loop-count-preserved g c =
    let l = c.loop-count in
    let here = split_on c.args.counts.now l.count-index l.left.now c.loop-count-test.true c.min.ensures c.split_at.ensures.front c.split_at.ensures.back in
    record { text = search rules; going = go_on list_bytes (rw here at l.invariant.going) c.in_ok-write_next.ensures }

pub returns-in_err-write_next : goal.returns-in_err-write_next
returns-in_err-write_next g c =
    let l = c.loop-count in
    let here = split_on c.args.counts.now l.count-index l.left.now c.loop-count-test.true c.min.ensures c.split_at.ensures.front c.split_at.ensures.back in
    passed_up c.from_residual.result _ _ _ c.from_residual.ensures.0 (fail list_bytes (rw here at l.invariant.going) c.in_err-write_next.ensures)
