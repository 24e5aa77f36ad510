-- What is shown of flows.
use Rattle.std.specs.Prelude.{◌≡◌, ℕ, ◌<◌, true, ◌≢◌}
use Rattle.policy.specs.Rules.{Rules, has, sees}
use Rattle.policy_text.specs.Shown.{flows_shown}
use Rattle.policy_text.specs.Forms.{table, graph}

-- everybody who sees b sees a
abbrev pub SeenWith : Rules → ℕ → ℕ → Type 0
SeenWith p a b = (u : ℕ) → u < p.users → sees p u b ≡ true → sees p u a ≡ true

-- of n compartments, b is listed after a exactly if it is there and everybody who sees b sees a; and an edge leads
-- from a to b exactly if they are two besides
abbrev pub FlowsShown : Type 0
FlowsShown = (p : Rules) (n a b : ℕ) →
    (has (flows_shown table p n a) b ≡ true → (b < n) × SeenWith p a b)
    × ((b < n) × SeenWith p a b → has (flows_shown table p n a) b ≡ true)
    × (has (flows_shown graph p n a) b ≡ true → (b < n) × (a ≢ b) × SeenWith p a b)
    × ((b < n) × (a ≢ b) × SeenWith p a b → has (flows_shown graph p n a) b ≡ true)
