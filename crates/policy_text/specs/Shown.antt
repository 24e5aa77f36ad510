-- What is shown of a policy, in both forms: first the users, then the compartments.
use Rattle.std.specs.Prelude.{ℕ, Bool, if◌then◌else◌, ◌&&◌, List, [], ◌++◌, filter}
use Rattle.policy.specs.Rules.{Rules, flows}
use Rattle.std.specs.List.{flat_map, range_with_len}
use Rattle.policy_text.specs.Forms.{Shape, table, graph}

-- a user's view, in its order
abbrev pub seen_bytes : Shape → ℕ → List ℕ → List ℕ
seen_bytes shape user view = flat_map (shape.seen user) view

abbrev pub user_bytes : Shape → ℕ → List ℕ → ℕ → List ℕ
user_bytes shape user view writes = shape.user user writes ++ (seen_bytes shape user view ++ shape.user_end writes)

abbrev pub user_of : Shape → Rules → ℕ → List ℕ
user_of shape p user = user_bytes shape user (p.view user) (p.writes user)

abbrev pub users_bytes : Shape → Rules → List ℕ
users_bytes shape p = flat_map (user_of shape p) (range_with_len 0 p.users)

abbrev pub shows_flow : Shape → Rules → ℕ → ℕ → Bool
shows_flow shape p from to = shape.shows from to && flows p from to

-- a flow, where the form shows it and rows may flow
abbrev pub flow_choice : Shape → Rules → ℕ → ℕ → List ℕ
flow_choice shape p from to = if shows_flow shape p from to then shape.flow from to else []

-- of n compartments those to which a form shows that rows may flow
abbrev pub flows_shown : Shape → Rules → ℕ → ℕ → List ℕ
flows_shown shape p n from = filter (shows_flow shape p from) (range_with_len 0 n)

abbrev pub flow_bytes : Shape → Rules → ℕ → ℕ → List ℕ
flow_bytes shape p n from = flat_map (shape.flow from) (flows_shown shape p n from)

abbrev pub compartment_bytes : Shape → Rules → ℕ → ℕ → ℕ → List ℕ
compartment_bytes shape p n c capacity =
    shape.compartment c capacity ++ (flow_bytes shape p n c ++ shape.compartment_end)

abbrev pub compartment_of : Shape → Rules → ℕ → ℕ → List ℕ
compartment_of shape p n c = compartment_bytes shape p n c (p.capacity c)

abbrev pub compartments_bytes : Shape → Rules → ℕ → List ℕ
compartments_bytes shape p n = flat_map (compartment_of shape p n) (range_with_len 0 n)

-- a policy of n compartments
abbrev pub policy_bytes : Shape → Rules → ℕ → List ℕ
policy_bytes shape p n = shape.first ++ (users_bytes shape p ++ (compartments_bytes shape p n ++ shape.last))

abbrev pub table_bytes : Rules → ℕ → List ℕ
table_bytes = policy_bytes table

abbrev pub graph_bytes : Rules → ℕ → List ℕ
graph_bytes = policy_bytes graph
