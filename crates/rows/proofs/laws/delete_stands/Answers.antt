-- The theorems that the contract names.
use Rattle.rows.proofs.Keys.{amount_of_without}
use Rattle.rows.proofs.Theorems.{delete_is_without, delete_rises}
use Rattle.rows.proofs.laws.delete_stands.Goals as goal

pub returns : goal.returns
returns c = record { same = delete_is_without; maps = amount_of_without; rises = delete_rises }
