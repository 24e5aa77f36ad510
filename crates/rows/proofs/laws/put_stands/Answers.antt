-- The theorems that the contract names.
use Rattle.rows.proofs.Keys.{amount_of_put}
use Rattle.rows.proofs.Theorems.{put_is_put, put_rises}
use Rattle.rows.proofs.laws.put_stands.Goals as goal

pub returns : goal.returns
returns c = record { same = put_is_put; maps = amount_of_put; rises = put_rises }
