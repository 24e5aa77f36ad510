-- What was added up and what is left make the whole.
use Rattle.std.proofs.Common.{◌≡◌, ◌+◌, ◌%◌, ◌^◌, ◌<◌, map, drop}
use Rattle.query.specs.AnswerRows.{lengths, count_in, amount_in}
use Rattle.query.proofs.parts.Parts.add_up.Given as goal

abbrev pub invariant-loop-part : goal.invariant-loop-part
invariant-loop-part l =
    let ps = map (λ x. x.now) l.part-items in
    let left = drop l.part-index ps in
    record {
      rows : l.rows + count_in l.range left ≡ count_in l.range ps;
      small : l.amount < 2 ^ 64;
      amount : (l.amount + amount_in l.range left) % 2 ^ 64 ≡ amount_in l.range ps % 2 ^ 64;
      room : l.rows + lengths left < 2 ^ 64;
    }
