-- The first parts are lent.
use Rattle.std.proofs.Common.{◌≡◌, map, take}
use Rattle.memory_query.specs.MemoryParts.{parts_in}
use Rattle.memory_query.proofs.storage.Storage.lend.Given as goal

abbrev pub invariant-loop-compartment : goal.invariant-loop-compartment
invariant-loop-compartment l =
    map (λ x. x.now) l.parts.items ≡ parts_in l.self.policy.now l.self.memory.now (take l.compartment-index l.compartment-items)
