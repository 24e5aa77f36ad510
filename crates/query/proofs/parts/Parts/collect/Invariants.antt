-- The first parts are written, and the room that is left holds the others.
use Rattle.std.proofs.Common.{◌≡◌, ◌+◌, ◌*◌, ◌≤◌, ◌++◌, map, length, take, drop}
use Rattle.query.specs.AnswerRows.{lengths, counts, range_parts, count_in}
use Rattle.query.proofs.parts.Parts.collect.Given as goal

abbrev pub invariant-loop-i : goal.invariant-loop-i
invariant-loop-i l =
    let ps = map (λ x. x.now) l.part-items in
    let done = take l.i ps in
    record {
      heads : l.header ≡ counts l.range done ++ drop l.i l.initial.header;
      rows : l.body ≡ range_parts l.range done ++ drop l.at l.initial.body;
      at : l.at ≡ length (range_parts l.range done);
      examined : l.at ≡ 2 * count_in l.range done;
      room : l.at + lengths (drop l.i ps) ≤ length l.initial.body;
    }
