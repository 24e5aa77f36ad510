-- What a policy hands out of users and compartments that are there is what its rules say.
use Rattle.std.proofs.Common.{◌≡◌, ℕ, ◌<◌, Bool, ◌&&◌, length, get_or, refl, ◌∙◌, arith}
use Rattle.std.proofs.lemmas.Bool.{lt-ltb}
use Rattle.std.proofs.lemmas.Grind.{common_steps}
use Rattle.std.proofs.lemmas.List.{get_or_default}
use Rattle.policy.specs.Access.{contracts_of, places_of, may_flow, rules_of}
use Rattle.policy.specs.Rules.{flows}
use Rattle.policy.specs.Views.{view_of, writes_of, nobody}
use Rattle.policy.specs.declared.contract.Contract.{Contract}
use Rattle.policy.specs.declared.Policy.{Policy}
use Rattle.policy_text.specs.Forms.{Shape}
use Rattle.policy_text.specs.Shown.{shows_flow, user_bytes, user_of}

pub users_counted : (p : Policy) → length (contracts_of p) ≡ p.users
users_counted p = grind (arith, common_steps, p.few_users, p.contracts_long)

pub compartments_counted : (p : Policy) → length (places_of p) ≡ p.compartments
compartments_counted p = grind (arith, common_steps, p.few_compartments, p.places_long)

pub user_there : (shape : Shape) (p : Policy) (user : ℕ) (c : Contract) → user < length (contracts_of p) → c ≡ get_or (contracts_of p) user c
    → user_bytes shape user (view_of c) (writes_of c) ≡ user_of shape (rules_of p) user
user_there shape p user c there e =
    let same : c ≡ get_or (contracts_of p) user nobody = e ∙ get_or_default (contracts_of p) user c nobody there in
    rw same refl

module _ (shape : Shape) (p : Policy) (from to : ℕ) (a : from < p.compartments) (b : to < p.compartments) where
  may_flow_there : may_flow p from to ≡ flows (rules_of p) from to
  may_flow_there = rw (lt-ltb from p.compartments a, lt-ltb to p.compartments b) refl

  -- what the form shows and the policy allows is what the rules let show
  pub chosen : (shows may : Bool) → shows ≡ shape.shows from to → may ≡ may_flow p from to → (shows && may) ≡ shows_flow shape (rules_of p) from to
  chosen shows may s m = rw (s, m, may_flow_there) refl
