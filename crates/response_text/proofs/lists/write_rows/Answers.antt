-- A turn writes the first of the rows that are left.
use Rattle.std.proofs.Common.{[], map}
use Rattle.std.proofs.lemmas.List.{drop_more}
use Rattle.output.proofs.Chains.{passed_up}
use Rattle.response_text.specs.Lines.{row_bytes}
use Rattle.response_text.proofs.Separated.{begin_behind, go_on, fail}
use Rattle.response_text.proofs.lists.write_rows.Goals as goal
use Rattle.rows.specs.Halving.{pair_row}

pub loop-row-init : goal.loop-row-init
loop-row-init g c = begin_behind row_bytes _ (map pair_row c.args.rows.now)

pub loop-row-preserved : goal.loop-row-preserved
loop-row-preserved g c =
    let l = c.loop-row in
    let here = drop_more c.args.rows.now l.row-index [] c.loop-row-test.true in
    go_on row_bytes (rw here at l.invariant) c.in_ok-write_row.ensures

pub returns-in_err-write_row : goal.returns-in_err-write_row
returns-in_err-write_row g c =
    let l = c.loop-row in
    let here = drop_more c.args.rows.now l.row-index [] c.loop-row-test.true in
    passed_up c.from_residual.result _ _ _ c.from_residual.ensures.0 (fail row_bytes (rw here at l.invariant) c.in_err-write_row.ensures)
