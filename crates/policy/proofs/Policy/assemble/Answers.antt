-- Judged numbers and contracts that stand give what a policy always holds.
use Rattle.std.proofs.Common.{sym, arith}
use Rattle.policy.proofs.Reading.{capacities_within, capacities_taken}
use Rattle.policy.proofs.Steps.{end_within}
use Rattle.policy.proofs.Policy.assemble.Goals as goal

pub place-caches-requires-clause-bounded : goal.place-caches-requires-clause-bounded
place-caches-requires-clause-bounded c =
    rw c.capacities.ensures (capacities_within c.args.numbers.now.all.now c.args.numbers.now.fit)

pub invariant_of-result : goal.invariant_of-result
invariant_of-result c =
    let xs = c.args.numbers.now.all.now in
    let fit = c.args.numbers.now.fit in
    let stand = c.requires in
    let caps = c.capacities.ensures in
    let long = capacities_taken xs fit in
    let within = capacities_within xs fit in
    let read = rw (caps, long) at c.place-caches.ensures.capacities in
    let starts = rw (caps, long) at c.place-caches.ensures.starts in
    let end = rw caps at c.place-caches.ensures.end in
    let few = rw (sym long) at fit.compartments in
    record {
      contracts_long = stand.long;
      places_long = omega arith;
      few_users = rw c.args.numbers.now.users_are fit.users;
      few_compartments = rw c.args.numbers.now.compartments_are fit.compartments;
      valid = rw (c.args.numbers.now.users_are, c.args.numbers.now.compartments_are) stand.valid;
      bounded = rw (c.args.numbers.now.compartments_are, read) within;
      placed = rw (c.args.numbers.now.compartments_are, read) starts;
      behind = rw (c.args.numbers.now.compartments_are, read) end;
      near = rw end (end_within _ few within);
      flowing = c.flows-flows.ensures;
    }

pub returns : goal.returns
returns c =
    let xs = c.args.numbers.now.all.now in
    let fit = c.args.numbers.now.fit in
    let caps = c.capacities.ensures in
    let long = capacities_taken xs fit in
    let read = rw (caps, long) at c.place-caches.ensures.capacities in
    record {
      users = c.args.numbers.now.users_are;
      compartments = c.args.numbers.now.compartments_are;
      contracts = rw c.args.numbers.now.users_are c.requires.say;
      capacities = rw c.args.numbers.now.compartments_are read;
    }
