-- What is left and what is still to come.
use Rattle.std.proofs.Common.{◌≡◌, ◌+◌, map, drop}
use Rattle.query.specs.AnswerRows.{lengths}
use Rattle.query.proofs.parts.Parts.has_room.Given as goal

abbrev pub invariant-loop-part : goal.invariant-loop-part
invariant-loop-part l =
    let ps = map (λ x. x.now) l.part-items in
    l.left + lengths ps ≡ l.room + lengths (drop l.part-index ps)
