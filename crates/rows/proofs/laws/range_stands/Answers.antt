-- The theorems that the contract names.
use Rattle.rows.proofs.Keys.{amount_of_rows_in}
use Rattle.rows.proofs.Theorems.{range_is_rows_in, range_rises}
use Rattle.rows.proofs.laws.range_stands.Goals as goal

pub returns : goal.returns
returns c = record { same = range_is_rows_in; maps = amount_of_rows_in; rises = range_rises }
