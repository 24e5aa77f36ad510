-- Useless stores that go wrong where something is to be changed, each the model but for one thing:
-- what is seen of it, and the statement that so fails.
use Rattle.std.specs.Prelude.{◌≡◌, ℕ, suc, max, Bool, if◌then◌else◌, ◌&&◌, ◌==◌, nat_le}
use Rattle.std.specs.Prelude.{List, [], ◌∷◌, length, drop, Some, None}
use Rattle.rows.specs.declared.Row.{Row}
use Rattle.rows.specs.declared.KeyRange.{KeyRange}
use Rattle.rows.specs.Rows.{amount_of}
use Rattle.base.specs.declared.refusal.Refusal.TheVariants.{NoUser, NoFlow, NoRoom, NoRow}
use Rattle.policy.specs.Rules.{Rules, sees}
use Rattle.query.specs.declared.Query.TheVariants.{Total}
use Rattle.query.specs.Answers.{total}
use Rattle.request.specs.declared.Request.{Request}
use Rattle.request.specs.declared.Request.TheVariants.{Write, Delete, Copy, Query as Ask}
use Rattle.model.specs.Example.{three, version_limit}
use Rattle.model.specs.Model.{State, lend, Response, done, refused, answered, who, asks, is_user, with_at}
use Rattle.model.specs.Model.{respond_fill, rows_after_copy, may_copy, response, is_accepted, set_rows}
use Rattle.counterexamples.specs.Store.{Store}
use Rattle.counterexamples.specs.Statements.{Noninterference, RefusalsChangeNothing, RightAnswers}
use Rattle.counterexamples.specs.Statements.{WriteTold, DeleteTold, CopyTold}
use Rattle.counterexamples.specs.Statements.{WriteEffect, DeleteEffect, CopyEffect}
use Rattle.counterexamples.specs.Statements.{OnlyWriters, AbsentUsers, EitherOrder, Order}
use Rattle.counterexamples.specs.Variants.{ResponseEdit, StateEdit, variant, with_response, with_next, with_request}
use Rattle.counterexamples.specs.Variants.{with_step, own_change, on_write, on_delete, on_copy}
use Rattle.counterexamples.specs.Variants.{next_state, everywhere, copy_while_room}
use Rattle.counterexamples.specs.Cases.{apart, within, row, digits, ask, three_rows, after, response_after}
use Rattle.counterexamples.specs.Failures.{Fails}

-- REFUSES ALL: nobody is said to be there.
abbrev pub refuses_all : Rules → Store State
refuses_all = with_response (λ p s request r. refused (NoUser (who request)))

-- Nobody is answered, and no write is done; and yet noninterference holds, so that it is not enough alone.
abbrev pub RefusesAllUseless : Type 0
RefusesAllUseless =
    let seen = response_after refuses_all three [] in
    Fails (RightAnswers refuses_all) (seen ask) (refused (NoUser 0)) (answered (total 0 0) 0)
    × Fails (WriteTold version_limit refuses_all) (seen (Write 0 (row 5))) (refused (NoUser 0)) done
    × Noninterference refuses_all

-- the same request by another user
abbrev by : ℕ → Request → Request
by other (Write user row) = Write other row
by other (Delete user key) = Delete other key
by other (Copy user source range) = Copy other source range
by other (Ask user query) = Ask other query

-- SERVES ABSENT: an unknown user is taken for user 0.
abbrev pub serves_absent : Rules → Store State
serves_absent = with_request (λ p call.
    if is_user p (who call.request) then call else lend (by 0 call.request) call.lent)

-- There are three users, and a fourth writes where user 0 does.
abbrev pub ServesAbsentUseless : Type 0
ServesAbsentUseless =
    let write = Write 3 (row 5) in
    Fails (AbsentUsers serves_absent) (response_after serves_absent three [] write) done (refused (NoUser 3))
    × Fails (AbsentUsers serves_absent) (amount_of 5 ((after serves_absent three (write ∷ [])).rows 0)) (Some 10) None

-- REFUSES WRITES: there is never room for a row.
abbrev pub refuses_writes : Rules → Store State
refuses_writes = with_response (λ p s request r.
    on_write (λ user row. refused (NoRoom (p.capacity (p.writes user)))) r request)

-- The compartment has room for three rows.
abbrev pub RefusesWritesUseless : Type 0
RefusesWritesUseless =
    let seen = response_after refuses_writes three [] (Write 0 (row 5)) in
    Fails (WriteTold version_limit refuses_writes) seen (refused (NoRoom 3)) done

-- REFUSES WHEN FULL: there is no room in a full compartment, also not for a row whose key is there already.
abbrev pub refuses_when_full : Rules → Store State
refuses_when_full = with_response (λ p s request r.
    let full : ℕ → Bool = λ c. nat_le (p.capacity c) (length (s.rows c)) in
    let write : ℕ → ℕ → Response = λ user c. if is_user p user && full c then refused (NoRoom (p.capacity c)) else r in
    on_write (λ user row. write user (p.writes user)) r request)

-- The compartment has room for one row, and that is the one that is written again.
abbrev pub RefusesWhenFullUseless : Type 0
RefusesWhenFullUseless =
    let seen = response_after refuses_when_full apart (Write 0 (row 5) ∷ []) (Write 0 (row 5)) in
    Fails (WriteTold version_limit refuses_when_full) seen (refused (NoRoom 1)) done

-- RAISES FIRST: a write raises the version before it finds no room.
abbrev pub raises_first : Rules → Store State
raises_first = with_step (λ p s call.
    let raise : ℕ → State = λ user. if is_user p user then set_rows s (p.writes user) (s.rows (p.writes user)) else s in
    if is_accepted (response p version_limit s call) then next_state p s call.request
    else on_write (λ user row. raise user) s call.request)

-- Another row is refused there, and the version has risen.
abbrev pub RaisesFirstUseless : Type 0
RaisesFirstUseless =
    let left = after raises_first apart (Write 0 (row 5) ∷ Write 0 (row 6) ∷ []) in
    (response_after raises_first apart (Write 0 (row 5) ∷ []) (Write 0 (row 6)) ≡ refused (NoRoom 1))
    × Fails (RefusalsChangeNothing raises_first) (left.version 0) 2 1

-- SAYS DONE: so every write is told, and none changes anything.
abbrev pub says_done : Rules → Store State
says_done =
    let tell : ResponseEdit = λ p s request r. on_write (λ user row. done) r request in
    let leave : StateEdit = λ p s request t. on_write (λ user row. s) t request in
    variant tell leave version_limit

-- The write is said to be done, and its key maps to nothing.
abbrev pub SaysDoneUseless : Type 0
SaysDoneUseless =
    let write = Write 0 (row 5) in
    (response_after says_done three [] write ≡ done)
    × Fails (WriteEffect says_done) (amount_of 5 ((after says_done three (write ∷ [])).rows 0)) None (Some 10)

-- a row after the last one, unless its key is there
abbrev put_last : Row → List Row → List Row
put_last r [] = r ∷ []
put_last r (x ∷ xs) = if x.key == r.key then r ∷ xs else x ∷ put_last r xs

-- PUTS LAST: a write puts its row after the last one, whatever their keys.
abbrev pub puts_last : Rules → Store State
puts_last = with_next (λ p s request t.
    on_write (λ user row. set_rows s (p.writes user) (put_last row (s.rows (p.writes user)))) t request)

-- The rows are not sorted by key.
abbrev pub PutsLastUseless : Type 0
PutsLastUseless =
    ((after puts_last three (Write 0 (row 6) ∷ Write 0 (row 5) ∷ [])).rows 0 ≡ row 6 ∷ row 5 ∷ [])
    × (Order version_limit puts_last → ⊥)

-- EMPTIES CACHES: a write empties those of all users.
abbrev pub empties_caches : Rules → Store State
empties_caches = with_next (λ p s request t.
    on_write (λ user row. record { rows = t.rows; version = t.version; cache = λ u. [] }) t request)

-- The entry of user 1 is gone.
abbrev pub EmptiesCachesUseless : Type 0
EmptiesCachesUseless =
    let seen = (after empties_caches three (Ask 1 (Total digits) ∷ Write 0 (row 5) ∷ [])).cache 1 in
    Fails (OnlyWriters empties_caches) (length seen) 0 1

-- RAISES ALL: a change raises the versions of all compartments.
abbrev pub raises_all : Rules → Store State
raises_all = with_next (λ p s request t.
    if asks request then t else record { rows = t.rows; version = λ c. suc (s.version c); cache = t.cache })

-- A write of user 1 raises the version of compartment 0, where they don't write.
abbrev pub RaisesAllUseless : Type 0
RaisesAllUseless = Fails (OnlyWriters raises_all) ((after raises_all apart (Write 1 (row 5) ∷ [])).version 0) 1 0

-- the highest version of some compartments
abbrev highest : State → List ℕ → ℕ
highest s [] = 0
highest s (c ∷ cs) = max (s.version c) (highest s cs)

-- ONE COUNT: the version of a compartment that is changed counts the changes of all compartments.
abbrev pub one_count : Rules → Store State
one_count = with_next (λ p s request t.
    let versions = with_at s.version (p.writes (who request)) (suc (highest s (everywhere p))) in
    if asks request then t else record { rows = t.rows; version = versions; cache = t.cache })

-- Compartment 0 is at its version 1 if user 0 writes first, and at 2 if user 1 does.
abbrev pub OneCountUseless : Type 0
OneCountUseless =
    let seen = (after one_count apart (Write 0 (row 5) ∷ Write 1 (row 5) ∷ [])).version 0 in
    Fails (EitherOrder one_count) seen 1 2

-- SAYS DELETED: a delete is done whether a row has the key or not.
abbrev pub says_deleted : Rules → Store State
says_deleted = with_response (λ p s request r.
    on_delete (λ user key. if is_user p user then own_change p s user else r) r request)

-- There is no row.
abbrev pub SaysDeletedUseless : Type 0
SaysDeletedUseless =
    let seen = response_after says_deleted three [] (Delete 0 5) in
    Fails (DeleteTold version_limit says_deleted) seen done (refused (NoRow 5))

-- the row with a key goes, and the one after it
abbrev without_two : ℕ → List Row → List Row
without_two k [] = []
without_two k (x ∷ xs) = if x.key == k then drop 1 xs else x ∷ without_two k xs

-- DELETES TWO: a delete takes the row after the key's too.
abbrev pub deletes_two : Rules → Store State
deletes_two = with_next (λ p s request t.
    on_delete (λ user key. set_rows s (p.writes user) (without_two key (s.rows (p.writes user)))) t request)

-- Key 6 maps to nothing when key 5 is deleted.
abbrev pub DeletesTwoUseless : Type 0
DeletesTwoUseless =
    let left = after deletes_two three (Write 0 (row 5) ∷ Write 0 (row 6) ∷ Delete 0 5 ∷ []) in
    (response_after deletes_two three (Write 0 (row 5) ∷ Write 0 (row 6) ∷ []) (Delete 0 5) ≡ done)
    × Fails (DeleteEffect deletes_two) (amount_of 6 (left.rows 0)) None (Some 10)

-- REFUSES COPIES: they are never allowed.
abbrev pub refuses_copies : Rules → Store State
refuses_copies = with_response (λ p s request r. on_copy (λ user source range. refused (NoFlow source)) r request)

-- Rows of compartment 1 may flow to compartment 0.
abbrev pub RefusesCopiesUseless : Type 0
RefusesCopiesUseless =
    let seen = response_after refuses_copies three (Write 1 (row 5) ∷ []) (Copy 0 1 digits) in
    Fails (CopyTold version_limit refuses_copies) seen (refused (NoFlow 1)) done

-- ANY FLOW: a copy is allowed to whoever sees the compartment, whether its rows may flow or not.
abbrev pub any_flow : Rules → Store State
any_flow = with_response (λ p s request r.
    let fill : ℕ → List Row → Response = λ user rows. respond_fill p version_limit s (p.writes user) rows in
    let copy : ℕ → ℕ → KeyRange → Response = λ user source range. fill user (rows_after_copy p s user source range) in
    on_copy (λ user source range. if is_user p user && sees p user source then copy user source range else r) r request)

-- Rows of compartment 0 may not flow to compartment 1; and yet the copy is done, and its row is where user 1 sees it.
abbrev pub AnyFlowUseless : Type 0
AnyFlowUseless =
    let copy = Copy 2 0 digits in
    let seen = response_after any_flow within (Write 0 (row 5) ∷ []) copy in
    Fails (CopyTold version_limit any_flow) seen done (refused (NoFlow 0))
    × (amount_of 5 ((after any_flow within (Write 0 (row 5) ∷ copy ∷ [])).rows 1) ≡ Some 10)

-- COPIES NOTHING: a copy that is done raises the version, and the rows stay as they are.
abbrev pub copies_nothing : Rules → Store State
copies_nothing = with_next (λ p s request t.
    on_copy (λ user source range. set_rows s (p.writes user) (s.rows (p.writes user))) t request)

-- The copy is said to be done, and the key that it should bring maps to nothing.
abbrev pub CopiesNothingUseless : Type 0
CopiesNothingUseless =
    let copy = Copy 0 1 digits in
    let left = after copies_nothing three (Write 1 (row 5) ∷ copy ∷ []) in
    (response_after copies_nothing three (Write 1 (row 5) ∷ []) copy ≡ done)
    × Fails (CopyEffect copies_nothing) (amount_of 5 (left.rows 0)) None (Some 10)

-- an allowed copy is done, whether there is room or not
abbrev tell_done : ResponseEdit
tell_done p s request r =
    on_copy (λ user source range. if may_copy p user source then own_change p s user else r) r request

-- COPIES WHAT FITS: an allowed copy puts rows as long as there is room, and is done.
abbrev pub copies_what_fits : Rules → Store State
copies_what_fits = variant tell_done (λ p s request t. on_copy (copy_while_room p s) t request) version_limit

-- Compartment 2 has room for two rows: the copy of three is said to be done, and the third doesn't come.
abbrev pub CopiesWhatFitsUseless : Type 0
CopiesWhatFitsUseless =
    let copy = Copy 2 1 digits in
    let left = after copies_what_fits three (Write 1 (row 5) ∷ Write 1 (row 6) ∷ Write 1 (row 7) ∷ copy ∷ []) in
    let seen = response_after copies_what_fits three three_rows copy in
    Fails (CopyTold version_limit copies_what_fits) seen done (refused (NoRoom 2))
    × Fails (CopyEffect copies_what_fits) (amount_of 7 (left.rows 2)) None (Some 10)
