-- Each iteration writes one count and the rows of one part.
use Rattle.std.proofs.Common.{map, length, take, refl, ap, arith}
use Rattle.std.proofs.lemmas.List.{length-map}
use Rattle.query.specs.AnswerRows.{count_in}
use Rattle.query.proofs.Steps.{lengths_more, heads_turn, body_turn, at_turn, count_turn}
use Rattle.query.proofs.parts.Parts.collect.Goals as goal

pub slice_bounds-copy_from_slice-end : goal.slice_bounds-copy_from_slice-end
slice_bounds-copy_from_slice-end c =
    let e = lengths_more c.self.inside.parts.now c.loop-i.i c.loop-i-test.true in
    omega arith

pub loop-i-preserved : goal.loop-i-preserved
loop-i-preserved c =
    let range = c.args.range in
    let xs = c.self.inside.parts.now in
    let i = c.loop-i.i in
    let q = c.range-found.result.now in
    let h = c.loop-i-test.true in
    let v = c.range-found.ensures.value in
    let inv = c.loop-i.invariant in
    let e = lengths_more xs i h in
    let w = c.range-found.ensures.whole in
    let k = count_turn range xs i q h v (count_in range (take i (map (λ x. x.now) xs))) refl in
    let n = simp length-map at (ap length c.self.view_is) in
    record {
      heads = heads_turn range xs i q h v c.loop-i.header c.args.header.now (omega arith) inv.heads;
      rows = body_turn range xs i q h v c.loop-i.body c.args.body.now _ c.loop-i.at _ inv.rows inv.at c.copy_from_slice.ensures.after (omega arith);
      at = at_turn range xs i q h v c.loop-i.at inv.at;
      examined = omega arith;
      room = omega arith;
    }
