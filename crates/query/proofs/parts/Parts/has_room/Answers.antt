-- Each iteration takes the next part off the room.
use Rattle.std.proofs.Common.{ap, arith}
use Rattle.std.proofs.lemmas.Bool.Decides.{nat_tests}
use Rattle.query.specs.AnswerRows.{lengths}
use Rattle.query.proofs.Steps.{lengths_more}
use Rattle.query.proofs.parts.Parts.has_room.Goals as goal

pub returns-in_default : goal.returns-in_default
returns-in_default c =
    let e = lengths_more c.self.inside.parts.now c.loop-part.part-index c.loop-part-test.true in
    let v = ap lengths c.self.view_is in
    grind (arith, nat_tests)

pub loop-part-preserved : goal.loop-part-preserved
loop-part-preserved c =
    let e = lengths_more c.self.inside.parts.now c.loop-part.part-index c.loop-part-test.true in
    omega arith
