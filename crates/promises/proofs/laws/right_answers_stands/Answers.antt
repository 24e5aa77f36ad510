-- The theorem that the contract names.
use Rattle.promises.proofs.Proved.{right_answers}
use Rattle.promises.proofs.laws.right_answers_stands.Goals as goal

pub returns : goal.returns
returns c = right_answers
