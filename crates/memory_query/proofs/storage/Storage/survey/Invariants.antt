-- The versions of the first compartments are written; their lowest fault, and that of what is left.
use Rattle.std.proofs.Common.{◌≡◌, take, drop}
use Rattle.memory_query.specs.MemoryParts.{lower, lowest_fault, versions_in}
use Rattle.memory_query.proofs.storage.Storage.survey.Given as goal

abbrev pub invariant-loop-i : goal.invariant-loop-i
invariant-loop-i l =
    let p = l.self.policy.now in
    let memory = l.self.memory.now in
    record {
      versions : take l.i l.versions ≡ versions_in p memory (take l.i l.compartment-items);
      fault : lower l.fault (lowest_fault p memory (drop l.i l.compartment-items)) ≡ lowest_fault p memory l.compartment-items;
    }
