-- What follows the policy in a trace, and how the trace ends.
use Rattle.std.specs.Prelude.{ℕ, zero, suc, if◌then◌else◌, List, [], ◌∷◌, length, drop, Some, None, Ok, Err, Option, Result, ◌==◌}
use Rattle.base.specs.declared.refusal.Refusal.{Refusal}
use Rattle.base.specs.declared.refusal.Refusal.TheVariants as refusal
use Rattle.trace_items.specs.declared.items.Item.{Item}
use Rattle.trace_items.specs.declared.items.Item.TheVariants.{Request, NoRequest}
use Rattle.trace_items.specs.declared.items.Items.{Items}
use Rattle.request.specs.Who.{who}
use Rattle.trace_bytes.specs.Bytes.{size}
use Rattle.trace_bytes.specs.NextRequest.{next_in}
use Rattle.trace_bytes.specs.PolicyNumbers.{policy_layout}
use Rattle.trace_bytes.specs.declared.item.Next.{Next}
use Rattle.trace_bytes.specs.declared.item.Next.TheVariants as next

-- the user who brings it
abbrev pub item_user : Item → ℕ
item_user (Request r) = who r
item_user (NoRequest user place) = user

-- what comes next, and then what follows it; the end of the trace is the last
abbrev pub outcomes_by : (List ℕ → List (Result Item Refusal)) → List ℕ → Next → List (Result Item Refusal)
outcomes_by rest bytes (next.Request r length) = Ok (Request r) ∷ rest (drop length bytes)
outcomes_by rest bytes (next.Fault user place length) = Ok (NoRequest user place) ∷ rest (drop length bytes)
outcomes_by rest bytes (next.End place) = Err (refusal.NoRequest place) ∷ []

-- the first of them, and how many of so many bytes it takes; the end of the trace takes all
abbrev pub first_by : Next → ℕ → Result Item Refusal × ℕ
first_by (next.Request r length) all = (Ok (Request r), length)
first_by (next.Fault user place length) all = (Ok (NoRequest user place), length)
first_by (next.End place) all = (Err (refusal.NoRequest place), all)

-- all that is in the bytes; every item takes at least one byte, so there are no more than bytes
abbrev pub outcomes : ℕ → List ℕ → List (Result Item Refusal)
outcomes zero bytes = []
outcomes (suc n) bytes = if length bytes == 0 then [] else outcomes_by (outcomes n) bytes (next_in bytes)

abbrev pub outcomes_in : List ℕ → List (Result Item Refusal)
outcomes_in bytes = outcomes (length bytes) bytes

-- what is left of an iterator over them
abbrev pub left : Items → List (Result Item Refusal)
left it = outcomes_in it.bytes.now

-- the items in front of the refusal
abbrev pub items_in : List (Result Item Refusal) → List Item
items_in [] = []
items_in (Ok i ∷ xs) = i ∷ items_in xs
items_in (Err why ∷ xs) = []

-- the refusal by which the trace is broken off, if it is
abbrev pub end_in : List (Result Item Refusal) → Option Refusal
end_in [] = None
end_in (Ok i ∷ xs) = end_in xs
end_in (Err why ∷ xs) = Some why

-- the bytes that follow the policy
abbrev pub requests_of : List ℕ → List ℕ
requests_of bytes = drop (size (policy_layout bytes)) bytes

-- all that follows the policy of a trace
abbrev pub outcomes_of : List ℕ → List (Result Item Refusal)
outcomes_of bytes = outcomes_in (requests_of bytes)

-- the items of a trace
abbrev pub items_of : List ℕ → List Item
items_of bytes = items_in (outcomes_of bytes)

-- how it ends
abbrev pub end_of : List ℕ → Option Refusal
end_of bytes = end_in (outcomes_of bytes)
