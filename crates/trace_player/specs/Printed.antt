-- Who is told what along a trace, by the model, and the text of it.
use Rattle.std.specs.Prelude.{ℕ, Bool, true, List, [], ◌∷◌, filter, flat_map, Some, None, Option, ◌==◌}
use Rattle.base.specs.declared.refusal.Refusal.TheVariants as refusal
use Rattle.compartment.specs.Parts.{limit}
use Rattle.model.specs.Model.{State, Response, lend, response, step, relevant}
use Rattle.model.specs.Model as model
use Rattle.policy.specs.Rules.{Rules}
use Rattle.response_text.specs.Lines.{line}
use Rattle.trace_items.specs.Items.{item_user}
use Rattle.trace_items.specs.declared.items.Item.{Item}
use Rattle.trace_items.specs.declared.items.Item.TheVariants.{Request, NoRequest}

-- the length of the answer row along a trace: enough for sixteen compartments of 64 rows
abbrev pub longest_row : ℕ
longest_row = 2080

-- what an item tells; what is no request is refused at its place
abbrev pub item_tells : Rules → State → Item → Response
item_tells p s (Request r) = response p limit s (lend r longest_row)
item_tells p s (NoRequest user place) = model.refused (refusal.NoRequest place)

-- the state after it
abbrev pub item_step : Rules → State → Item → State
item_step p s (Request r) = step p limit s (lend r longest_row)
item_step p s (NoRequest user place) = s

-- a user, and what they are told
pub record Line : Type 0 where
  pub user : ℕ
  pub response : Response

-- the lines of a trace, from a state on
abbrev pub lines : Rules → State → List Item → List Line
lines p s [] = []
lines p s (i ∷ is) = record { user = item_user i; response = item_tells p s i } ∷ lines p (item_step p s i) is

-- who is played for: one user, or everyone
abbrev pub Audience : Type 0
Audience = Option ℕ

-- are the lines of this user for them?
abbrev pub hears : Audience → ℕ → Bool
hears None user = true
hears (Some v) user = user == v

-- the lines of who is played for
abbrev pub lines_for : Audience → List Line → List Line
lines_for a ls = filter (λ l. hears a l.user) ls

-- an item concerns one user if it is a request that is relevant to them, or their own that is none
abbrev pub concerns_one : Rules → ℕ → Item → Bool
concerns_one p v (Request r) = relevant p v (lend r longest_row)
concerns_one p v (NoRequest user place) = user == v

-- what an audience is played: what concerns one user, or everything
abbrev pub concerns : Rules → Audience → Item → Bool
concerns p None i = true
concerns p (Some v) i = concerns_one p v i

abbrev pub items_for : Rules → Audience → List Item → List Item
items_for p a is = filter (concerns p a) is

-- lines as they are printed
abbrev pub text : List Line → List ℕ
text ls = flat_map (λ l. line l.user l.response) ls
