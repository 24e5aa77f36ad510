-- The theorems that the contract names.
use Rattle.query.proofs.Written.{answers_as_model, never_refused}
use Rattle.query.proofs.laws.answers_stands.Goals as goal

pub returns : goal.returns
returns c = record { model = answers_as_model; always = never_refused }
