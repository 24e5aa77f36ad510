-- The law is proved in Back.
use Rattle.trace_text.proofs.Back.{reads_back}
use Rattle.trace_text.proofs.laws.reads_back_stands.Goals as goal

pub returns : goal.returns
returns c = reads_back
