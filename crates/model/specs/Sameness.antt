-- Rules that say the same tell the same.
use Rattle.std.specs.Prelude.{◌≡◌, ℕ, List}
use Rattle.policy.specs.Laws.{SameRules, ValidRules}
use Rattle.policy.specs.Rules.{Rules}
use Rattle.model.specs.Model.{State, Call, responses}

-- RULES ALIKE. Rules that are the same for users and compartments that are there tell the same, in every state
-- and along all calls.
abbrev pub RulesAlike : Type 0
RulesAlike =
    (p q : Rules) (compartments most limit : ℕ) (s : State) (calls : List Call) →
    SameRules p q compartments → ValidRules p compartments most →
    responses p limit s calls ≡ responses q limit s calls
