-- What each change returns, and what memory holds afterwards, whatever it held before.
use Rattle.std.specs.Prelude.{ℕ, ◌<◌, ◌≤◌, Bool, if◌then◌else◌, List, ◌++◌, length, drop, replicate, Ok, Err, Result, ◌==◌, nat_lt}
use Rattle.std.specs.Option.{ok_or}
use Rattle.base.specs.declared.refusal.Refusal.{Refusal}
use Rattle.base.specs.declared.refusal.Refusal.TheVariants.{NoUser, NoFlow}
use Rattle.compartment.specs.ChangeResult.{ChangeResult, change_unless_refused}
use Rattle.compartment.specs.Parts.{write_part, delete_part, copy_part, raise_part}
use Rattle.compartment.specs.declared.copying.Copying.{Copying}
use Rattle.policy.specs.Access.{rules_of, may_copy, place_at, write_target_at, memory_length, length_told}
use Rattle.policy.specs.declared.Policy.{Policy}
use Rattle.policy.specs.declared.place.Place.{Place}
use Rattle.policy.specs.declared.place.Written.{Written}
use Rattle.request.specs.Decoded.{and_then}
use Rattle.rows.specs.declared.KeyRange.{KeyRange}
use Rattle.rows.specs.declared.Row.{Row}
use Rattle.store.specs.Memory.{end, part, change_at}

-- memory is shorter than the policy asks for
abbrev pub short : Policy → List ℕ → Bool
short p memory = nat_lt (length memory) (memory_length p)

-- zeros as far as the policy asks for memory; what lies behind is not touched
abbrev pub empty_memory : Policy → List ℕ → List ℕ
empty_memory p memory = replicate (memory_length p) 0 ++ drop (memory_length p) memory

abbrev pub open_result : Policy → List ℕ → ChangeResult
open_result p memory =
    change_unless_refused memory (length_told p memory) (λ x. record { told = Ok tt; memory = empty_memory p memory })

-- the compartment in which a user writes, in memory that is long enough
abbrev pub writer_told : Policy → List ℕ → ℕ → Result Written Refusal
writer_told p memory user = and_then (length_told p memory) (λ x. ok_or (write_target_at p user) (NoUser user))

abbrev pub write_result : Policy → List ℕ → ℕ → Row → ChangeResult
write_result p memory user row =
    change_unless_refused memory (writer_told p memory user) (λ w.
    change_at w.place memory (write_part w row (part w.place memory)))

abbrev pub delete_result : Policy → List ℕ → ℕ → ℕ → ChangeResult
delete_result p memory user key =
    change_unless_refused memory (writer_told p memory user) (λ w.
    change_at w.place memory (delete_part w key (part w.place memory)))

-- what is copied, if the user may: not allowed, whatever is in the compartments
abbrev pub copying_told : Policy → List ℕ → ℕ → ℕ → KeyRange → Result Copying Refusal
copying_told p memory user c range =
    and_then (length_told p memory) (λ x.
    if may_copy (rules_of p) user c
    then and_then (ok_or (write_target_at p user) (NoFlow c)) (λ w.
    and_then (ok_or (place_at p c) (NoFlow c)) (λ from. Ok (record { from = from; written = w; range = range })))
    else Err (NoFlow c))

-- two compartments lie apart in memory
pub record Apart (from into : Place) : Type 0 where
  pub before : from.start < into.start → end from ≤ into.start
  pub behind : into.start ≤ from.start → end into ≤ from.start

-- from one compartment into another
abbrev pub between_result : Copying → List ℕ → ChangeResult
between_result c memory =
    change_at c.written.place memory (copy_part c (part c.from memory) (part c.written.place memory))

-- a copy of a compartment into itself is one change, and no row of it
abbrev pub copy_result : Policy → List ℕ → ℕ → ℕ → KeyRange → ChangeResult
copy_result p memory user c range =
    change_unless_refused memory (copying_told p memory user c range) (λ copying.
    if copying.written.compartment == c
    then change_at copying.written.place memory (raise_part copying.written (part copying.written.place memory))
    else between_result copying memory)
