-- The theorems that the contract names.
use Rattle.rows.proofs.Theorems.{total_is_sum, total_is_exact}
use Rattle.rows.proofs.laws.total_stands.Goals as goal

pub returns : goal.returns
returns c = record { same = total_is_sum; exact = total_is_exact }
