-- The merge is put after put.
use Rattle.merge.proofs.Proved.{merge_is_put_all}
use Rattle.merge.proofs.laws.merge_stands.Goals as goal

pub returns : goal.returns
returns c = merge_is_put_all
