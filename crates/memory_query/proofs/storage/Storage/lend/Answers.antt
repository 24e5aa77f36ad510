-- One more part is lent.
use Rattle.memory_query.specs.MemoryParts.{part_at}
use Rattle.memory_query.proofs.Listed.{one_lent}
use Rattle.memory_query.proofs.storage.Storage.lend.Goals as goal

pub loop-compartment-preserved : goal.loop-compartment-preserved
loop-compartment-preserved c =
    one_lent (λ x. x.now) (part_at c.args.self.now.policy.now c.args.self.now.memory.now) c.compartments-compartment-items.result.now c.loop-compartment.parts.items c.push.new.self.items
    c.loop-compartment.compartment-index c.rows_of.result
    c.loop-compartment-test.true c.compartments-compartment-items.ensures.few c.loop-compartment.invariant c.rows_of.ensures c.push.ensures.list
