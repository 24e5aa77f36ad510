-- The theorems that the contract names.
use Rattle.rows.proofs.Theorems.{halving_counts, halving_finds, probes_suffice_any}
use Rattle.rows.proofs.laws.position_stands.Goals as goal

pub returns : goal.returns
returns c = record { counts = halving_counts; finds = halving_finds; probes = probes_suffice_any }
