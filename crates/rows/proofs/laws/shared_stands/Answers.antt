-- The theorems that the contract names.
use Rattle.rows.proofs.Keys.{amount_of_also_in}
use Rattle.rows.proofs.Theorems.{shared_is_also_in, shared_rises}
use Rattle.rows.proofs.laws.shared_stands.Goals as goal

pub returns : goal.returns
returns c = record { same = shared_is_also_in; maps = amount_of_also_in; rises = shared_rises }
