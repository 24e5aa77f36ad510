-- The copy is put after put.
use Rattle.merge.proofs.Proved.{copy_is_put_all}
use Rattle.merge.proofs.laws.copy_stands.Goals as goal

pub returns : goal.returns
returns c = copy_is_put_all
