-- Each iteration adds up one part.
use Rattle.std.proofs.Common.{◌≡◌, ◌+◌, ◌/◌, ◌%◌, ◌^◌, map, length, get_or, drop, ap, ◌∙◌, arith}
use Rattle.rows.specs.Rows.{sum}
use Rattle.rows.specs.Halving.{rows_of}
use Rattle.rows.specs.Numbers.{range_part}
use Rattle.std.proofs.lemmas.List.Sums.{sum_by-cons}
use Rattle.query.specs.AnswerRows.{count, count_in, amount, amount_in}
use Rattle.query.proofs.Steps.{nothing, parts_more, lengths_more}
use Rattle.query.proofs.parts.Parts.add_up.Goals as goal

pub overflow_add-rows : goal.overflow_add-rows
overflow_add-rows c =
    let e = lengths_more c.self.inside.parts.now c.loop-part.part-index c.loop-part-test.true in
    let r : c.total-found.result.rows ≡ length c.range.result.now / 2 = ap (λ t. t.rows) c.total-found.ensures in
    omega arith

pub loop-part-preserved : goal.loop-part-preserved
loop-part-preserved c =
    let range = c.args.range in
    let xs = c.self.inside.parts.now in
    let i = c.loop-part.part-index in
    let p = (get_or xs i nothing).now in
    let m = parts_more xs i c.loop-part-test.true in
    let v = c.range.ensures.value in
    let e = lengths_more xs i c.loop-part-test.true in
    let f : count_in range (drop i (map (λ x. x.now) xs)) ≡ count range p + count_in range (drop (i + 1) (map (λ x. x.now) xs)) = ap (count_in range) m ∙ sum_by-cons (count range) p (drop (i + 1) (map (λ x. x.now) xs)) in
    let g : amount_in range (drop i (map (λ x. x.now) xs)) ≡ sum (rows_of (range_part range p)) + amount_in range (drop (i + 1) (map (λ x. x.now) xs)) = ap (amount_in range) m ∙ sum_by-cons (amount range) p (drop (i + 1) (map (λ x. x.now) xs)) in
    let r : c.total-found.result.rows ≡ count range p = ap (λ t. t.rows) c.total-found.ensures ∙ ap (λ q. length q / 2) v in
    let s : c.total-found.result.amount ≡ sum (rows_of (range_part range p)) % 2 ^ 64 = ap (λ t. t.amount) c.total-found.ensures ∙ ap (λ q. sum (rows_of q) % 2 ^ 64) v in
    let w : length c.range.result.now ≡ length (range_part range p) = ap length v in
    record { rows = omega arith; small = omega arith; amount = omega arith; room = omega arith }
