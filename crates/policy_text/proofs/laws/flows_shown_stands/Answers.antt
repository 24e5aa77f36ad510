-- The law is proved in Proved.
use Rattle.policy_text.proofs.Proved.{flows_shown_stands}
use Rattle.policy_text.proofs.laws.flows_shown_stands.Goals as goal

pub returns : goal.returns
returns c = flows_shown_stands
