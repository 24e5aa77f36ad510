-- The theorem that the contract names.
use Rattle.model.proofs.Answering.{right_answers}
use Rattle.model.proofs.laws.right_answers_stands.Goals as goal

pub returns : goal.returns
returns c = right_answers
