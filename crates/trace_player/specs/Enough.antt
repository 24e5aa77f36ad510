-- Memory and the answer row along a trace are long enough, whatever its policy.
use Rattle.std.specs.Prelude.{◌≡◌, ℕ, ◌<◌, ◌≤◌, List, None, ◌≢◌}
use Rattle.model.specs.Model.{State, refused, needed_length}
use Rattle.policy.specs.Numbers.{rules_in, users_in}
use Rattle.base.specs.declared.refusal.Refusal.TheVariants.{ShortRow}
use Rattle.query.specs.declared.Query.{Query}
use Rattle.trace_player.specs.Playing.{opening, memory_for}
use Rattle.trace_player.specs.Printed.{longest_row, item_tells}
use Rattle.trace_items.specs.declared.items.Item.{Item}
use Rattle.trace_bytes.specs.PolicyNumbers.{policy_of}

-- no policy of a trace asks for more memory than sixteen compartments of 64 rows and the caches of 32 users
abbrev pub MemoryEnough : Type 0
MemoryEnough = (bytes : List ℕ) → opening bytes ≡ None → memory_for (policy_of bytes) ≤ 8224

-- no query of a user of the policy needs a longer answer row than is lent
abbrev pub RowEnough : Type 0
RowEnough = (bytes : List ℕ) → opening bytes ≡ None →
    (user : ℕ) (query : Query) → user < users_in (policy_of bytes) →
    needed_length (rules_in (policy_of bytes)) user query ≤ longest_row

-- so nothing in a trace is refused for a short answer row, in any state
abbrev pub NeverShort : Type 0
NeverShort = (bytes : List ℕ) → opening bytes ≡ None →
    (s : State) (i : Item) (n : ℕ) → item_tells (rules_in (policy_of bytes)) s i ≢ refused (ShortRow n)
