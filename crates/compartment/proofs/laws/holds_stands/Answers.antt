-- The theorems that the contract names.
use Rattle.compartment.proofs.Held.{empty_holds, check_counts, rows_are_flat}
use Rattle.compartment.proofs.laws.holds_stands.Goals as goal

pub returns : goal.returns
returns c = record { empty = empty_holds; counts = check_counts; rows = rows_are_flat }
