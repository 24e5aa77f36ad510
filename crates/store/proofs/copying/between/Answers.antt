-- Cut where the one that lies behind begins, memory is the two compartments and what lies around them.
use Rattle.std.proofs.Common.{refl, ◌∙◌, arith}
use Rattle.store.proofs.Places.{part_before, part_behind, written_before, written_behind}
use Rattle.store.proofs.copying.between.Goals as goal

pub returns-then-from-into-clause-told : goal.returns-then-from-into-clause-told
returns-then-from-into-clause-told c =
    let from = c.args.copying.from in
    let into = c.args.copying.written.place in
    let m = c.args.memory.now in
    let cut = c.split_at_mut-before.ensures in
    let apart = c.requires.apart.before (omega arith) in
    rw (← part_before from into.start m apart, ← part_behind into m) (rw (c.part_of.ensures, cut.front, cut.back) at c.copy.ensures.told)

pub returns-then-from-into-clause-after : goal.returns-then-from-into-clause-after
returns-then-from-into-clause-after c =
    let from = c.args.copying.from in
    let into = c.args.copying.written.place in
    let m = c.args.memory.now in
    let cut = c.split_at_mut-before.ensures in
    let apart = c.requires.apart.before (omega arith) in
    rw (cut.front, cut.back)
    (written_behind into c.copy.new.part m ∙ rw (← part_before from into.start m apart, ← part_behind into m) (let t = rw (c.part_of.ensures, cut.front, cut.back) at c.copy.ensures.after in rw t refl))

pub returns-clause-told : goal.returns-clause-told
returns-clause-told c =
    let from = c.args.copying.from in
    let into = c.args.copying.written.place in
    let m = c.args.memory.now in
    let cut = c.split_at_mut-before-2.ensures in
    let apart = c.requires.apart.behind (omega arith) in
    rw (← part_before into from.start m apart, ← part_behind from m) (rw (c.part_of-2.ensures, cut.front, cut.back) at c.copy-2.ensures.told)

pub returns-clause-after : goal.returns-clause-after
returns-clause-after c =
    let from = c.args.copying.from in
    let into = c.args.copying.written.place in
    let m = c.args.memory.now in
    let cut = c.split_at_mut-before-2.ensures in
    let apart = c.requires.apart.behind (omega arith) in
    rw (c.part_of-2.ensures, cut.front, cut.back)
    (written_before into from.start c.copy-2.new.part m apart (omega arith)
    ∙ rw (← part_before into from.start m apart, ← part_behind from m) (let t = rw (c.part_of-2.ensures, cut.front, cut.back) at c.copy-2.ensures.after in rw t refl))
