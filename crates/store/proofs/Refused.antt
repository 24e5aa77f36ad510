-- A refusal leaves memory and the answer row as they were, whatever they hold.
use Rattle.std.proofs.Common.{◌≡◌, ℕ, Bool, true, false, cond, eqb, ltb, List, length, is_ok, Ok, Err, Result, refl}
use Rattle.base.specs.declared.refusal.Refusal.{Refusal}
use Rattle.base.specs.declared.refusal.Refusal.TheVariants.{OutOfBounds}
use Rattle.compartment.specs.ChangeResult.{ChangeResult, change_unless_refused}
use Rattle.compartment.specs.Changes.{put_change, delete_change, no_change}
use Rattle.compartment.specs.Parts.{write_part, delete_part, copy_part, raise_part}
use Rattle.compartment.specs.declared.copying.Copying.{Copying}
use Rattle.compartment.proofs.Held.{refusal_leaves as part_left, copy_refused}
use Rattle.memory_query.specs.AskResult.{ask_result}
use Rattle.memory_query.specs.CallResult.{CallResult, refusal_result}
use Rattle.memory_query.proofs.Refused.{refusals_leave}
use Rattle.policy.specs.Access.{memory_length}
use Rattle.policy.specs.declared.Policy.{Policy}
use Rattle.policy.specs.declared.place.Place.{Place}
use Rattle.query.specs.declared.Outcome.{Outcome}
use Rattle.request.specs.declared.Request.{Request}
use Rattle.request.specs.declared.Request.TheVariants.{Write, Delete, Copy, Query as Ask}
use Rattle.rows.specs.declared.KeyRange.{KeyRange}
use Rattle.rows.specs.declared.Row.{Row}
use Rattle.store.specs.Memory.{part, change_at}
use Rattle.store.specs.Calls.{writer_told, copying_told, write_result, delete_result, copy_result, between_result}
use Rattle.store.specs.Served.{reply_to_change, reply_to_query, serve_result}
use Rattle.store.specs.Simulation.{RefusalLeaves}
use Rattle.store.specs.declared.reply.Reply.{Reply}
use Rattle.store.proofs.Changing.{with_same}

-- a refused change leaves memory
abbrev pub Leaves : List ℕ → ChangeResult → Type 0
Leaves memory change = is_ok change.told ≡ false → change.memory ≡ memory

unless_refused_leaves : {A : Type 0} (memory : List ℕ) (check : Result A Refusal) (next : A → ChangeResult) →
    ((a : A) → Leaves memory (next a)) → Leaves memory (change_unless_refused memory check next)
unless_refused_leaves memory (Err refusal) next leaves e = refl
unless_refused_leaves memory (Ok a) next leaves e = leaves a e

change_at_leaves : (q : Place) (memory : List ℕ) (change : ChangeResult) → Leaves (part q memory) change → Leaves memory (change_at q memory change)
change_at_leaves q memory change leaves e = rw (leaves e) (with_same q memory)

pub write_leaves : (p : Policy) (memory : List ℕ) (user : ℕ) (row : Row) → Leaves memory (write_result p memory user row)
write_leaves p memory user row =
    unless_refused_leaves memory (writer_told p memory user) _ (λ w.
    change_at_leaves w.place memory (write_part w row (part w.place memory)) (part_left w (put_change row) (part w.place memory)))

pub delete_leaves : (p : Policy) (memory : List ℕ) (user key : ℕ) → Leaves memory (delete_result p memory user key)
delete_leaves p memory user key =
    unless_refused_leaves memory (writer_told p memory user) _ (λ w.
    change_at_leaves w.place memory (delete_part w key (part w.place memory)) (part_left w (delete_change key) (part w.place memory)))

copying_leaves : (memory : List ℕ) (copying : Copying) (same : Bool) →
    Leaves memory (cond same (change_at copying.written.place memory (raise_part copying.written (part copying.written.place memory))) (between_result copying memory))
copying_leaves memory copying true =
    change_at_leaves copying.written.place memory (raise_part copying.written (part copying.written.place memory))
    (part_left copying.written no_change (part copying.written.place memory))
copying_leaves memory copying false =
    change_at_leaves copying.written.place memory (copy_part copying (part copying.from memory) (part copying.written.place memory))
    (copy_refused copying (part copying.from memory) (part copying.written.place memory))

pub copy_leaves : (p : Policy) (memory : List ℕ) (user c : ℕ) (range : KeyRange) → Leaves memory (copy_result p memory user c range)
copy_leaves p memory user c range =
    unless_refused_leaves memory (copying_told p memory user c range) _ (λ copying. copying_leaves memory copying (eqb copying.written.compartment c))

not_done : (x : Result (Unit {0}) Refusal) (why : Refusal) → reply_to_change x ≡ Err why → is_ok x ≡ false
not_done (Ok x) why e = absurd cc
not_done (Err x) why e = refl

not_answered : (x : Result Outcome Refusal) (why : Refusal) → reply_to_query x ≡ Err why → x ≡ Err why
not_answered (Ok x) why e = absurd cc
not_answered (Err x) why e = cc

abbrev call : Result Reply Refusal → List ℕ → List ℕ → CallResult Reply
call told memory row = record { told = told; memory = memory; row = row }

same_call : (t u : Result Reply Refusal) (m n x y : List ℕ) → t ≡ u → m ≡ n → x ≡ y → call t m x ≡ call u n y
same_call t u m n x y e f g = rw (e, f, g) refl

pub refusal_leaves : RefusalLeaves
refusal_leaves p memory lent (Write user row) why e =
    same_call _ _ _ _ _ _ e (write_leaves p memory user row (not_done (write_result p memory user row).told why e)) refl
refusal_leaves p memory lent (Delete user key) why e =
    same_call _ _ _ _ _ _ e (delete_leaves p memory user key (not_done (delete_result p memory user key).told why e)) refl
refusal_leaves p memory lent (Copy user c range) why e =
    same_call _ _ _ _ _ _ e (copy_leaves p memory user c range (not_done (copy_result p memory user c range).told why e)) refl
refusal_leaves p memory lent (Ask user query) why e =
    let f = refusals_leave p user query memory lent why (not_answered (ask_result p memory lent user query).told why e) in
    same_call _ _ _ _ _ _ e f.0 f.1

-- memory that is too short is refused, whatever is asked
pub short_refusal : (p : Policy) (memory lent : List ℕ) (request : Request) → ltb (length memory) (memory_length p) ≡ true
    → serve_result p memory lent request ≡ refusal_result memory lent (OutOfBounds (length memory))
short_refusal p memory lent (Write user row) e = rw e refl
short_refusal p memory lent (Delete user key) e = rw e refl
short_refusal p memory lent (Copy user c range) e = rw e refl
short_refusal p memory lent (Ask user query) e = rw e refl
