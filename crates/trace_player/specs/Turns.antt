-- What playing items does for whoever is played for: the text, memory and the answer row, whatever they held before.
use Rattle.std.specs.Prelude.{◌≡◌, ℕ, ◌+◌, ◌<◌, ◌≤◌, if◌then◌else◌, false, List, [], ◌∷◌, ◌++◌, length, take, replicate, Some, Option}
use Rattle.base.specs.declared.refusal.Refusal.{Refusal}
use Rattle.base.specs.declared.refusal.Refusal.TheVariants as refusal
use Rattle.output.specs.Output.{OutputState, WritesPart}
use Rattle.policy.specs.Access.{rules_of}
use Rattle.policy.specs.declared.Policy.{Policy}
use Rattle.response_text.specs.Lines.{line}
use Rattle.store.specs.Calls.{short, empty_memory}
use Rattle.store.specs.Served.{CallResult, refusal_result, serve_result, response_in}
use Rattle.store.specs.declared.reply.Reply.{Reply}
use Rattle.trace_items.specs.Items.{item_user}
use Rattle.trace_items.specs.declared.items.Item.{Item}
use Rattle.trace_items.specs.declared.items.Item.TheVariants.{Request, NoRequest}
use Rattle.trace_player.specs.Printed.{Audience, longest_row, hears, concerns}

-- what the call for an item does
abbrev pub item_result : Policy → List ℕ → List ℕ → Item → CallResult Reply
item_result p memory row (Request r) = serve_result p memory row r
item_result p memory row (NoRequest user place) = refusal_result memory row (refusal.NoRequest place)

-- the text that was printed, and what memory and the answer row hold
pub record PlayResult : Type 0 where
  pub text : List ℕ
  pub memory : List ℕ
  pub row : List ℕ

-- the line of an item, if who is played for hears it
abbrev pub item_text : Audience → ℕ → CallResult Reply → List ℕ
item_text a user call = if hears a user then line user (response_in call.told call.row) else []

abbrev pub print_result : Audience → ℕ → CallResult Reply → PlayResult
print_result a user call = record { text = item_text a user call; memory = call.memory; row = call.row }

-- an item that does not concern them is left out
abbrev pub turn_result : Policy → Audience → List ℕ → List ℕ → Item → PlayResult
turn_result p a memory row i =
    if concerns (rules_of p) a i then print_result a (item_user i) (item_result p memory row i)
    else record { text = []; memory = memory; row = row }

-- what was done, and then what follows
abbrev pub and_on : PlayResult → (List ℕ → List ℕ → PlayResult) → PlayResult
and_on before next = record {
  text = before.text ++ (next before.memory before.row).text;
  memory = (next before.memory before.row).memory;
  row = (next before.memory before.row).row;
}

-- one item after the other
abbrev pub play_result : Policy → Audience → List ℕ → List ℕ → List Item → PlayResult
play_result p a memory row [] = record { text = []; memory = memory; row = row }
play_result p a memory row (i ∷ is) = and_on (turn_result p a memory row i) (λ m r. play_result p a m r is)

-- with an answer row of zeros
abbrev pub play_from_zeros : Policy → Audience → List ℕ → List Item → PlayResult
play_from_zeros p a memory is = play_result p a memory (replicate longest_row 0) is

-- the writer failed in the line of an item: those before it and that one were played, and nothing after it
pub record Stops (play : List Item → PlayResult) (is : List Item) (old new : OutputState) (now : List ℕ) : Type 0 where
  pub played : ℕ
  pub within : played < length is
  pub part : WritesPart old new (play is).text
  pub earlier : length (play (take played is)).text ≤ part.count
  pub later : part.count < length (play (take (played + 1) is)).text
  pub memory_then : now ≡ (play (take (played + 1) is)).memory

-- memory that is opened first, with a row of zeros; nothing happens where memory is too short
abbrev pub open_and_play : Policy → Audience → List ℕ → List Item → PlayResult
open_and_play p a memory is =
    if short p memory then record { text = []; memory = memory; row = [] }
    else play_from_zeros p a (empty_memory p memory) is

abbrev pub end_after_open : Policy → List ℕ → Option Refusal → Option Refusal
end_after_open p memory end = if short p memory then Some (refusal.OutOfBounds (length memory)) else end

pub record StopsAfterOpen (p : Policy) (a : Audience) (memory : List ℕ) (is : List Item) (old new : OutputState)
    (now : List ℕ) : Type 0 where
  pub opened : short p memory ≡ false
  pub stops : Stops (play_from_zeros p a (empty_memory p memory)) is old new now
