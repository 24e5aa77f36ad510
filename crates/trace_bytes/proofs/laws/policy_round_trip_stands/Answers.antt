-- The laws are proved in Writing.
use Rattle.trace_bytes.proofs.Writing.{policy_reads, policy_round_trip}
use Rattle.trace_bytes.proofs.laws.policy_round_trip_stands.Goals as goal

pub returns : goal.returns
returns c = record { round_trip = policy_round_trip; reads = policy_reads }
