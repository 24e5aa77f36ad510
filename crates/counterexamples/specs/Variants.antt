-- How a store is made that is the model but for one thing; and the model itself as a store.
use Rattle.std.specs.Prelude.{◌≡◌, ℕ, zero, suc, if◌then◌else◌, List, [], ◌∷◌, length, nat_le}
use Rattle.rows.specs.declared.Row.{Row}
use Rattle.rows.specs.declared.KeyRange.{KeyRange}
use Rattle.rows.specs.Rows.{put, rows_in}
use Rattle.policy.specs.Rules.{Rules, has}
use Rattle.query.specs.declared.Query.{Query}
use Rattle.request.specs.declared.Request.{Request}
use Rattle.request.specs.declared.Request.TheVariants.{Write, Delete, Copy, Query as Ask}
use Rattle.model.specs.Example.{version_limit}
use Rattle.model.specs.Model as model
use Rattle.model.specs.Model.{State, Call, Response, Transition, transition, empty, response, is_accepted}
use Rattle.model.specs.Model.{respond_change, set_rows}
use Rattle.counterexamples.specs.Store.{Store, responses_to}
use Rattle.counterexamples.specs.Statements.{Noninterference, RefusalsChangeNothing, Useful}

-- the model's state after a request that isn't refused, whatever limit and answer row
abbrev pub next_state : Rules → State → Request → State
next_state p s request = (transition p version_limit s request 0).next

-- what another store tells, and what it leaves where it doesn't refuse, each made of what the model does
abbrev pub ResponseEdit : Type 0
ResponseEdit = Rules → State → Request → Response → Response

abbrev pub StateEdit : Type 0
StateEdit = Rules → State → Request → State → State

-- the model with both
abbrev pub variant : ResponseEdit → StateEdit → ℕ → Rules → Store State
variant tell leave limit p =
    let does : State → Call → Transition = λ s call. transition p limit s call.request call.lent in
    let tells : State → Call → Response = λ s call. tell p s call.request (does s call).response in
    record {
      start = empty;
      response = tells;
      step = λ s call. if is_accepted (tells s call) then leave p s call.request (does s call).next else s;
    }

-- the model with one of them
abbrev pub with_response : ResponseEdit → Rules → Store State
with_response tell = variant tell (λ p s request t. t) version_limit

abbrev pub with_next : StateEdit → Rules → Store State
with_next leave = variant (λ p s request r. r) leave version_limit

-- the model with another request in place of each
abbrev pub with_request : (Rules → Call → Call) → Rules → Store State
with_request other p =
    record {
      start = empty;
      response = λ s call. response p version_limit s (other p call);
      step = λ s call. model.step p version_limit s (other p call);
    }

-- the model with another step, also where it refuses
abbrev pub with_step : (Rules → State → Call → State) → Rules → Store State
with_step leaves p = record { start = empty; response = response p version_limit; step = leaves p }

-- the model with its own
abbrev pub the_model : ℕ → Rules → Store State
the_model = variant (λ p s request r. r) (λ p s request t. t)

-- THE FRAME says of the model what the model says of itself: it tells the same, noninterference holds,
-- and a refusal changes nothing.
pub record Fits : Type 0 where
  pub same : (p : Rules) (limit v : ℕ) (calls : List Call) →
      responses_to (the_model limit) p v calls ≡ model.responses_to p limit v empty calls
  pub noninterfering : (limit : ℕ) → Noninterference (the_model limit)
  pub all_or_none : (limit : ℕ) → RefusalsChangeNothing (the_model limit)

-- THE MODEL, put into the frame, is useful, with any limit of versions.
abbrev pub ModelUseful : Type 0
ModelUseful = (limit : ℕ) → Useful limit (the_model limit)

-- a change where a user writes is done, unless the version is the last one
abbrev pub own_change : Rules → State → ℕ → Response
own_change p s user = respond_change version_limit s (p.writes user)

-- BY KIND. What a request of one kind gives, and what all others do.
abbrev pub by_kind : {A : Type 0} →
    (ℕ → Row → A) → (ℕ → ℕ → A) → (ℕ → ℕ → KeyRange → A) → (ℕ → Query → A) → Request → A
by_kind write delete copy ask (Write user row) = write user row
by_kind write delete copy ask (Delete user key) = delete user key
by_kind write delete copy ask (Copy user source range) = copy user source range
by_kind write delete copy ask (Ask user query) = ask user query

abbrev pub on_write : {A : Type 0} → (ℕ → Row → A) → A → Request → A
on_write write other = by_kind write (λ user key. other) (λ user source range. other) (λ user query. other)

abbrev pub on_delete : {A : Type 0} → (ℕ → ℕ → A) → A → Request → A
on_delete delete other = by_kind (λ user row. other) delete (λ user source range. other) (λ user query. other)

abbrev pub on_copy : {A : Type 0} → (ℕ → ℕ → KeyRange → A) → A → Request → A
on_copy copy other = by_kind (λ user row. other) (λ user key. other) copy (λ user query. other)

abbrev pub on_query : {A : Type 0} → (ℕ → Query → A) → A → Request → A
on_query ask other = by_kind (λ user row. other) (λ user key. other) (λ user source range. other) ask

-- the compartments in which the first n users write, each once
abbrev pub compartments_of : Rules → ℕ → List ℕ
compartments_of p zero = []
compartments_of p (suc n) =
    let before = compartments_of p n in
    if has before (p.writes n) then before else p.writes n ∷ before

-- all compartments that may have rows
abbrev pub everywhere : Rules → List ℕ
everywhere p = compartments_of p p.users

-- one by one, as long as there is room
abbrev pub put_while_room : ℕ → List Row → List Row → List Row
put_while_room capacity [] xs = xs
put_while_room capacity (r ∷ rs) xs =
    if nat_le (length (put r xs)) capacity then put_while_room capacity rs (put r xs) else xs

-- what a user's copy puts as long as there is room
abbrev pub copy_while_room : Rules → State → ℕ → ℕ → KeyRange → State
copy_while_room p s user source range =
    let c = p.writes user in
    set_rows s c (put_while_room (p.capacity c) (rows_in range (s.rows source)) (s.rows c))
