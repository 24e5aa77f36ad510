-- Leaking stores, each the model but for one thing: a trace, what the user is told in it, and what without the calls
-- that aren't relevant to them. And a store that changes something where it refuses.
use Rattle.std.specs.Prelude.{◌≡◌, ℕ, zero, suc, Bool, false, if◌then◌else◌, not, ◌&&◌, ◌||◌, ◌==◌, leb, nat_eq}
use Rattle.std.specs.Prelude.{List, [], ◌∷◌, map, length, Some, None, Option}
use Rattle.rows.specs.declared.Row.{Row}
use Rattle.rows.specs.declared.KeyRange.{KeyRange}
use Rattle.rows.specs.Rows.{amount_of, has_key, rows_in}
use Rattle.base.specs.declared.refusal.Refusal.TheVariants.{NoFlow, NoRoom}
use Rattle.policy.specs.Rules.{Rules, Sound}
use Rattle.query.specs.declared.Query.TheVariants.{Total, Shared}
use Rattle.query.specs.Answers.{total, not_seen, cost, count_all}
use Rattle.request.specs.declared.Request.{Request}
use Rattle.request.specs.declared.Request.TheVariants.{Write, Copy, Query as Ask}
use Rattle.model.specs.Example.{three, version_limit}
use Rattle.model.specs.Model.{State, Call, lend, CachedAnswer, Response, done, refused, answered, empty, who, is_user}
use Rattle.model.specs.Model.{same_versions, is_accepted, look_up, capacity_sum, may_copy, response, step}
use Rattle.model.specs.Model.{purge}
use Rattle.counterexamples.specs.Store.{Store, responses_to}
use Rattle.counterexamples.specs.Statements.{Noninterference, RefusalsChangeNothing}
use Rattle.counterexamples.specs.Variants.{with_response, with_request, with_step, on_write, on_copy, on_query}
use Rattle.counterexamples.specs.Variants.{next_state, own_change, everywhere, copy_while_room}
use Rattle.counterexamples.specs.Cases.{apart, together, row, digits, three_rows, calls, after}

-- a trace under a policy, and what a user is told in it with all calls, and with the relevant ones alone
pub record Leak : Type 0 where
  pub policy : Rules
  pub user : ℕ
  pub requests : List Request
  pub whole : List Response
  pub purged : List Response

abbrev pub responses_whole : {S : Type 0} → (Rules → Store S) → Leak → List Response
responses_whole store leak = responses_to store leak.policy leak.user (calls leak.requests)

abbrev pub responses_purged : {S : Type 0} → (Rules → Store S) → Leak → List Response
responses_purged store leak =
    responses_to store leak.policy leak.user (purge leak.policy leak.user (calls leak.requests))

-- A STORE LEAKS: calls that aren't relevant to a user change what the user is told, though everybody sees where
-- they write. So noninterference fails.
pub record Leaks {S : Type 0} (store : Rules → Store S) (leak : Leak) : Type 0 where
  pub sound : Sound leak.policy
  pub whole : responses_whole store leak ≡ leak.whole
  pub purged : responses_purged store leak ≡ leak.purged
  pub differ : responses_purged store leak ≡ responses_whole store leak → ⊥
  pub fails : Noninterference store → ⊥

abbrev rows_everywhere : Rules → State → ℕ
rows_everywhere p s = count_all (map s.rows (everywhere p))

-- a number in place of 'done'
abbrev with_number : ℕ → Response → Response
with_number n done = answered (total n 0) 0
with_number n (refused why) = refused why
with_number n (answered a examined) = answered a examined

-- ROW NUMBERS: a write that is done is told how many rows all compartments have then.
abbrev pub row_numbers : Rules → Store State
row_numbers = with_response (λ p s request r.
    on_write (λ user row. with_number (rows_everywhere p (next_state p s request)) r) r request)

-- The row's number says how many rows the other has.
abbrev pub RowNumbersLeak : Type 0
RowNumbersLeak = Leaks row_numbers (record {
  policy = apart;
  user = 0;
  requests = Write 1 (row 5) ∷ Write 0 (row 6) ∷ [];
  whole = answered (total 2 0) 0 ∷ [];
  purged = answered (total 1 0) 0 ∷ [];
})

-- of the first n users the lowest who sees the same in the same order, or else `found`
abbrev first_alike : Rules → ℕ → ℕ → ℕ → ℕ
first_alike p user found zero = found
first_alike p user found (suc n) =
    let same = same_versions (p.view n) (p.view user) in
    first_alike p user (if same then n else found) n

-- a query as if that user had asked it
abbrev as_first_alike : Rules → Call → Call
as_first_alike p call =
    let alike : ℕ → ℕ = λ user. if is_user p user then first_alike p user user p.users else user in
    lend (on_query (λ user query. Ask (alike user) query) call.request call.request) call.lent

-- ONE CACHE: all who see the same have one.
abbrev pub one_cache : Rules → Store State
one_cache = with_request as_first_alike

-- That no row was examined says that the other has asked the same.
abbrev pub OneCacheLeaks : Type 0
OneCacheLeaks = Leaks one_cache (record {
  policy = together;
  user = 0;
  requests = Write 0 (row 5) ∷ Ask 1 (Total digits) ∷ Ask 0 (Total digits) ∷ [];
  whole = done ∷ answered (total 1 10) 0 ∷ [];
  purged = done ∷ answered (total 1 10) 1 ∷ [];
})

-- ONE CAPACITY: a write has room as long as all compartments together have.
abbrev pub one_capacity : Rules → Store State
one_capacity = with_response (λ p s request r.
    let capacity = capacity_sum p.capacity (everywhere p) in
    let fits = leb (rows_everywhere p (next_state p s request)) capacity in
    let change : ℕ → Response = λ user. if fits then own_change p s user else refused (NoRoom capacity) in
    on_write (λ user row. if is_user p user then change user else r) r request)

-- That there is no room says that the other has filled it.
abbrev pub OneCapacityLeaks : Type 0
OneCapacityLeaks = Leaks one_capacity (record {
  policy = apart;
  user = 0;
  requests = Write 1 (row 5) ∷ Write 1 (row 6) ∷ Write 0 (row 7) ∷ [];
  whole = refused (NoRoom 2) ∷ [];
  purged = done ∷ [];
})

-- ALLOWED IF EMPTY: a copy for which there is no row is done, whatever the user sees.
abbrev pub allowed_if_empty : Rules → Store State
allowed_if_empty = with_response (λ p s request r.
    let none : ℕ → KeyRange → Bool = λ source range. length (rows_in range (s.rows source)) == 0 in
    on_copy (λ user source range. if is_user p user && none source range then own_change p s user else r) r request)

-- That it isn't allowed says that the other has a row there.
abbrev pub AllowedIfEmptyLeaks : Type 0
AllowedIfEmptyLeaks = Leaks allowed_if_empty (record {
  policy = apart;
  user = 0;
  requests = Write 1 (row 5) ∷ Copy 0 1 digits ∷ [];
  whole = refused (NoFlow 1) ∷ [];
  purged = done ∷ [];
})

-- another number of rows examined, where an answer was worked out
abbrev with_examined : ℕ → Option CachedAnswer → Response → Response
with_examined n (Some kept) r = r
with_examined n None done = done
with_examined n None (refused why) = refused why
with_examined n None (answered a examined) = answered a n

-- ALL EXAMINED: a query looks at all compartments, and what isn't seen is left out at the end.
abbrev pub all_examined : Rules → Store State
all_examined = with_response (λ p s request r.
    on_query (λ user query. with_examined (cost (everywhere p) s.rows query) (look_up p s user query) r) r request)

-- 'Not seen' after looking: the rows examined say how many the other has.
abbrev pub LookingFirstLeaks : Type 0
LookingFirstLeaks = Leaks all_examined (record {
  policy = apart;
  user = 0;
  requests = Write 1 (row 5) ∷ Ask 0 (Shared 0 1 digits) ∷ [];
  whole = answered not_seen 1 ∷ [];
  purged = answered not_seen 0 ∷ [];
})

-- So do those of a total that leaves them out.
abbrev pub AllExaminedLeaks : Type 0
AllExaminedLeaks = Leaks all_examined (record {
  policy = apart;
  user = 0;
  requests = Write 1 (row 5) ∷ Ask 0 (Total digits) ∷ [];
  whole = answered (total 0 0) 1 ∷ [];
  purged = answered (total 0 0) 0 ∷ [];
})

-- has one of these compartments, other than c, a row with the key?
abbrev has_elsewhere : State → ℕ → ℕ → List ℕ → Bool
has_elsewhere s c key [] = false
has_elsewhere s c key (d ∷ ds) = (not (c == d) && has_key key (s.rows d)) || has_elsewhere s c key ds

-- ONE OF EACH KEY: a write is refused if another compartment has its key.
abbrev pub one_of_each_key : Rules → Store State
one_of_each_key = with_response (λ p s request r.
    let other : ℕ → Row → Bool = λ user row. has_elsewhere s (p.writes user) row.key (everywhere p) in
    let refuses : ℕ → Row → Bool = λ user row. is_user p user && other user row in
    on_write (λ user row. if refuses user row then refused (NoRoom (p.capacity (p.writes user))) else r) r request)

-- That a key is refused says that the other has it.
abbrev pub OneOfEachKeyLeaks : Type 0
OneOfEachKeyLeaks = Leaks one_of_each_key (record {
  policy = apart;
  user = 0;
  requests = Write 1 (row 5) ∷ Write 0 (row 5) ∷ [];
  whole = refused (NoRoom 1) ∷ [];
  purged = done ∷ [];
})

-- the model's state, and who made the last request
pub record Recent : Type 0 where
  pub state : State
  pub last : ℕ

abbrev maps_to : ℕ → Option ℕ → Bool
maps_to amount None = false
maps_to amount (Some other) = amount == other

-- a write that changes no row
abbrev is_idle : Rules → State → Request → Bool
is_idle p s request =
    on_write (λ user row. maps_to row.amount (amount_of row.key (s.rows (p.writes user)))) false request

-- SOME IDLE WRITES COUNT: those of who made the last request, and no others.
abbrev pub some_idle_count : Rules → Store Recent
some_idle_count p =
    let counts : Recent → Request → Bool = λ s r. not (is_idle p s.state r) || nat_eq s.last (who r) in
    let leaves : State → Call → Bool → State = λ s call counted. if counted then step p version_limit s call else s in
    record {
      start = record { state = empty; last = 0 };
      response = λ s call. response p version_limit s.state call;
      step = λ s call. record { state = leaves s.state call (counts s call.request); last = who call.request };
    }

-- That no row was examined, so that the second write didn't count, says that the other has asked something before it.
abbrev pub SomeIdleCountLeaks : Type 0
SomeIdleCountLeaks = Leaks some_idle_count (record {
  policy = apart;
  user = 0;
  requests =
      Write 0 (row 5) ∷ Ask 0 (Total digits) ∷ Ask 1 (Total digits)
      ∷ Write 0 (row 5) ∷ Ask 0 (Total digits) ∷ [];
  whole = done ∷ answered (total 1 10) 1 ∷ done ∷ answered (total 1 10) 0 ∷ [];
  purged = done ∷ answered (total 1 10) 1 ∷ done ∷ answered (total 1 10) 1 ∷ [];
})

-- HALF A COPY: an allowed copy puts rows as long as there is room, and is refused if one is left.
abbrev pub half_a_copy : Rules → Store State
half_a_copy = with_step (λ p s call.
    let allowed : ℕ → ℕ → Bool = λ user source. may_copy p user source && is_accepted (own_change p s user) in
    let copy : ℕ → ℕ → KeyRange → State = λ user source range. copy_while_room p s user source range in
    let other = step p version_limit s call in
    on_copy (λ user source range. if allowed user source then copy user source range else s) other call.request)

-- Three rows that may be copied to where there is room for two.
abbrev pub full_state : State
full_state = after half_a_copy three three_rows

abbrev pub copy_call : Call
copy_call = lend (Copy 2 1 digits) 0

-- A copy that is refused has put two rows: it is neither all nor none.
pub record HalfACopyIsPut : Type 0 where
  pub told : (half_a_copy three).response full_state copy_call ≡ refused (NoRoom 2)
  pub before : full_state.rows 2 ≡ []
  pub after : ((half_a_copy three).step full_state copy_call).rows 2 ≡ row 5 ∷ row 6 ∷ []
  pub fails : RefusalsChangeNothing half_a_copy → ⊥
