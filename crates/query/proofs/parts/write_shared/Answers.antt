-- The header and what follows it make the row.
use Rattle.std.proofs.Common.{◌≡◌, ◌/◌, false, ltb, length, drop, arith, length-drop}
use Rattle.rows.specs.Numbers.{range_part}
use Rattle.rows.proofs.Places.{length_flat}
use Rattle.std.proofs.lemmas.Bool.{le-ltb}
use Rattle.query.specs.AnswerRows.{common_rows}
use Rattle.query.proofs.parts.write_shared.Goals as goal

pub returns-clause-after : goal.returns-clause-after
returns-clause-after c =
    let found = c.range-found.result.now in
    let out = drop 32 c.args.row.now in
    let m = common_rows (range_part c.args.range c.args.a.now) c.args.b.now in
    let short = c.range-found.ensures.within in
    let no : ltb (length out / 2) (length found / 2) ≡ false = le-ltb _ _ (simp length-drop (omega arith)) in
    let some = rw (c.split_at_mut-header.ensures.back, no, c.range-found.ensures.value) at c.shared.ensures.told in
    let rows : c.unwrap-rows.result ≡ length m = cc in
    let body = rw (c.split_at_mut-header.ensures.back, no, c.range-found.ensures.value) at c.shared.ensures.after in
    let head = rw c.split_at_mut-header.ensures.front_len at (c.fill.ensures.after (λ y e. e)) in
    rw (head, rows, body, length_flat m)
