-- Two parts that are filled are the whole.
use Rattle.trace_bytes.proofs.Parts.{both_after}
use Rattle.trace_bytes.proofs.layout.Layout.fill.Goals as goal

pub returns-clause-after : goal.returns-clause-after
returns-clause-after c =
    let a = c.fill-singles.ensures in
    let b = c.fill-wides.ensures in
    let single = c.from.ensures in
    let width = c.from-2.ensures in
    let wide = c.from-wide.ensures in
    rw (single, wide) (both_after c.args.self c.args.bytes.now c.args.numbers.now _ _ _ _ c.requires
    (rw single at a.count) (rw single at a.after) (rw (single, width, wide) at b.count) (rw (single, width, wide) at b.after))
