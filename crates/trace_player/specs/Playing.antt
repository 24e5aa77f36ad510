-- What playing a trace prints and leaves, and how it ends.
use Rattle.std.specs.Prelude.{◌≡◌, ℕ, ◌+◌, ◌*◌, ◌<◌, ◌≤◌, if◌then◌else◌, List, [], filter_map, length, take, drop, replicate, Some, None, Option, nat_lt}
use Rattle.base.specs.declared.refusal.Refusal.{Refusal}
use Rattle.base.specs.declared.refusal.Refusal.TheVariants.{OutOfBounds}
use Rattle.model.specs.Model.{empty}
use Rattle.output.specs.Output.{OutputState, WritesPart}
use Rattle.policy.specs.Layout.{end_from}
use Rattle.policy.specs.Numbers.{policy_fault, rules_in, users_in, compartments_in, user_at}
use Rattle.policy.specs.Read.{ReadsPolicy}
use Rattle.policy.specs.declared.Policy.{Policy}
use Rattle.promises.specs.Traces.{ServeCall, memory_after, relevant_calls}
use Rattle.store.specs.Calls.{open_result}
use Rattle.trace_bytes.specs.PolicyNumbers.{policy_of}
use Rattle.trace_items.specs.Items.{items_of, end_of}
use Rattle.trace_items.specs.declared.items.Item.{Item}
use Rattle.trace_items.specs.declared.items.Item.TheVariants.{Request, NoRequest}
use Rattle.trace_player.specs.Printed.{Audience, longest_row, lines, lines_for, text}

-- what a user, or everyone, is told of items: the lines that the model gives from an empty store
abbrev pub told_text : Audience → List ℕ → List Item → List ℕ
told_text a bytes is = text (lines_for a (lines (rules_in (policy_of bytes)) empty is))

-- why a policy is refused; in a trace capacities are at most 64
abbrev pub opening : List ℕ → Option Refusal
opening bytes = policy_fault 64 (policy_of bytes)

-- how much memory the policy of these numbers asks for
abbrev pub memory_for : List ℕ → ℕ
memory_for xs = end_from 0 (take (compartments_in xs) (drop (user_at (users_in xs)) xs)) + 192 * users_in xs

-- memory of this length may be too short
abbrev pub short_of : ℕ → List ℕ → Option Refusal
short_of long bytes = if nat_lt long (memory_for (policy_of bytes)) then Some (OutOfBounds long) else None

-- a refused policy, or memory that is too short
abbrev pub opening_by : Option Refusal → ℕ → List ℕ → Option Refusal
opening_by (Some why) long bytes = Some why
opening_by None long bytes = short_of long bytes

-- why nothing is played in memory of this length
abbrev pub opening_with : ℕ → List ℕ → Option Refusal
opening_with long bytes = opening_by (opening bytes) long bytes

-- what is printed: nothing where nothing is played, and else what the whole trace tells
abbrev pub text_by : Option Refusal → Audience → List ℕ → List ℕ
text_by (Some why) a bytes = []
text_by None a bytes = told_text a bytes (items_of bytes)

abbrev pub text_of : Audience → ℕ → List ℕ → List ℕ
text_of a long bytes = text_by (opening_with long bytes) a bytes

-- how the trace ends: why nothing is played, or why it is broken off, if it is
abbrev pub end_by : Option Refusal → List ℕ → Option Refusal
end_by (Some why) bytes = Some why
end_by None bytes = end_of bytes

abbrev pub play_end : ℕ → List ℕ → Option Refusal
play_end long bytes = end_by (opening_with long bytes) bytes

-- an item that is a request, as a call
abbrev pub call_for : Item → Option ServeCall
call_for (Request r) = Some (record { request = r; row = replicate longest_row 0 })
call_for (NoRequest user place) = None

-- the requests among items
abbrev pub calls_in : List Item → List ServeCall
calls_in is = filter_map call_for is

-- those that are played: all of them, or those that are relevant to one user
abbrev pub calls_for : Policy → Audience → List ServeCall → List ServeCall
calls_for p None calls = calls
calls_for p (Some v) calls = relevant_calls p v calls

-- memory holds what the requests among these items leave of an empty store: those that are played, and no others
pub record Leaves (a : Audience) (bytes : List ℕ) (is : List Item) (before now : List ℕ) : Type 0 where
  pub policy : Policy
  pub reads : ReadsPolicy (policy_of bytes) policy
  pub left : now ≡ memory_after policy (open_result policy before).memory (calls_for policy a (calls_in is))

-- where nothing is played memory stays as it was, and else all is played
abbrev pub LeavesBy : Option Refusal → Audience → List ℕ → List ℕ → List ℕ → Type 0
LeavesBy (Some why) a bytes before now = now ≡ before
LeavesBy None a bytes before now = Leaves a bytes (items_of bytes) before now

abbrev pub LeavesOf : Audience → List ℕ → List ℕ → List ℕ → Type 0
LeavesOf a bytes before now = LeavesBy (opening_with (length before) bytes) a bytes before now

-- the writer failed in the line of one item: a beginning of the text was written, which ends within that line, and
-- memory holds what the items before it and that one leave
pub record Breaks (a : Audience) (bytes : List ℕ) (old new : OutputState) (before now : List ℕ) : Type 0 where
  pub opened : opening_with (length before) bytes ≡ None
  pub played : ℕ
  pub within : played < length (items_of bytes)
  pub part : WritesPart old new (told_text a bytes (items_of bytes))
  pub earlier : length (told_text a bytes (take played (items_of bytes))) ≤ part.count
  pub later : part.count < length (told_text a bytes (take (played + 1) (items_of bytes)))
  pub left : Leaves a bytes (take (played + 1) (items_of bytes)) before now
