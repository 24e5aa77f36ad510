-- Useless stores that go wrong where something is asked, each the model but for one thing:
-- what is seen of it, and the statement that so fails.
use Rattle.std.specs.Prelude.{◌≡◌, ℕ, zero, suc, ◌+◌, ◌*◌, Bool, false, if◌then◌else◌, ◌&&◌, nat_lt}
use Rattle.std.specs.Prelude.{List, [], ◌∷◌, length, take, Some, None, Option}
use Rattle.base.specs.declared.refusal.Refusal.TheVariants.{ShortRow}
use Rattle.policy.specs.Rules.{Rules}
use Rattle.query.specs.declared.Query.{Query}
use Rattle.query.specs.declared.Query.TheVariants.{Total, Shared}
use Rattle.query.specs.Answers.{Answer, total, not_seen, answer, same_query}
use Rattle.request.specs.declared.Request.{Request}
use Rattle.request.specs.declared.Request.TheVariants.{Write, Query as Ask}
use Rattle.model.specs.Example.{three, version_limit}
use Rattle.model.specs.Model.{State, Call, lend, CachedAnswer, Entry, Response, done, refused, answered, empty}
use Rattle.model.specs.Model.{is_user, with_at}
use Rattle.model.specs.Model.{look_up, capacity_sum, respond_query, response, is_accepted, entry, step}
use Rattle.counterexamples.specs.Store.{Store}
use Rattle.counterexamples.specs.Statements.{RightAnswers, ShortRows, NotSeen, Again, Caches}
use Rattle.counterexamples.specs.Variants.{ResponseEdit, StateEdit, variant, with_response, with_next, on_query}
use Rattle.counterexamples.specs.Cases.{row, digits, ask, after, response_after}
use Rattle.counterexamples.specs.Failures.{Fails}

-- another answer and another number of rows examined, where a query is answered
abbrev other_answer : (Answer → Answer) → (ℕ → ℕ) → Response → Response
other_answer other number done = done
other_answer other number (refused why) = refused why
other_answer other number (answered a examined) = answered (other a) (number examined)

-- ANSWERS NOTHING: a query is answered as if there were no rows; rows examined are told as they are.
abbrev pub answers_nothing : Rules → Store State
answers_nothing = with_response (λ p s request r.
    on_query (λ user query. other_answer (λ a. answer (p.view user) empty.rows query) (λ n. n) r) r request)

-- The row that is there is not told.
abbrev pub AnswersNothingUseless : Type 0
AnswersNothingUseless =
    let seen = response_after answers_nothing three (Write 0 (row 5) ∷ []) ask in
    Fails (RightAnswers answers_nothing) seen (answered (total 0 0) 1) (answered (total 1 10) 1)

-- NONE EXAMINED: a query is answered rightly, and it is always said that no row was examined.
abbrev pub none_examined : Rules → Store State
none_examined = with_response (λ p s request r. other_answer (λ a. a) (λ n. 0) r)

-- That it was examined is not told.
abbrev pub NoneExaminedUseless : Type 0
NoneExaminedUseless =
    let seen = response_after none_examined three (Write 0 (row 5) ∷ []) ask in
    Fails (RightAnswers none_examined) seen (answered (total 1 10) 0) (answered (total 1 10) 1)

-- ANY LENGTH: a query is answered, however short the row that is lent.
abbrev pub any_length : Rules → Store State
any_length = with_response (λ p s request r.
    let answer_any : ℕ → Query → Response = λ user query. respond_query p s user query (look_up p s user query) in
    on_query (λ user query. if is_user p user then answer_any user query else r) r request)

-- A row of one number is lent.
abbrev pub AnyLengthUseless : Type 0
AnyLengthUseless =
    let seen = (any_length three).response empty (lend ask 1) in
    Fails (ShortRows any_length) seen (answered (total 0 0) 0) (refused (ShortRow 1))

-- LONG ROW FIRST: a query is refused with a row that isn't long enough for all that the user sees.
abbrev pub long_row_first : Rules → Store State
long_row_first p =
    let few : Call → ℕ → Bool = λ call user. nat_lt call.lent (32 + 2 * capacity_sum p.capacity (p.view user)) in
    let short : Call → Bool = λ call. on_query (λ user query. is_user p user && few call user) false call.request in
    record {
      start = empty;
      response = λ s call. if short call then refused (ShortRow call.lent) else response p version_limit s call;
      step = λ s call. if short call then s else step p version_limit s call;
    }

-- None is, and none is needed where user 1 asks for what they don't see.
abbrev pub LongRowFirstUseless : Type 0
LongRowFirstUseless =
    let seen = (long_row_first three).response empty (lend (Ask 1 (Shared 1 0 digits)) 0) in
    Fails (NotSeen long_row_first) seen (refused (ShortRow 0)) (answered not_seen 0)

-- NO CACHE: nothing is kept, so that every query is worked out.
abbrev pub no_cache : Rules → Store State
no_cache = with_next (λ p s request t. on_query (λ user query. s) t request)

-- Asked again at once the query is worked out again.
abbrev pub NoCacheUseless : Type 0
NoCacheUseless =
    let seen = response_after no_cache three (Write 0 (row 5) ∷ ask ∷ []) ask in
    Fails (Again no_cache) seen (answered (total 1 10) 1) (answered (total 1 10) 0)
    × Fails (RightAnswers no_cache) seen (answered (total 1 10) 1) (answered (total 1 10) 0)

-- an entry for a query that was not found comes in front, and of the entries stay those that are kept
abbrev remember_by : (List Entry → List Entry) → Rules → State → ℕ → Query → Option CachedAnswer → State
remember_by kept p s user query (Some found) = s
remember_by kept p s user query None =
    let entries = kept (entry p s user query ∷ s.cache user) in
    record { rows = s.rows; version = s.version; cache = with_at s.cache user entries }

-- the model with other entries kept
abbrev with_entries : (List Entry → List Entry) → Rules → Store State
with_entries kept = with_next (λ p s request t.
    on_query (λ user query. remember_by kept p s user query (look_up p s user query)) t request)

-- SO MANY KEPT: for each user the newest n answers, where eight are promised.
abbrev pub keeps : ℕ → Rules → Store State
keeps n = with_entries (take n)

-- so many other queries
abbrev pub others : ℕ → List Request
others zero = []
others (suc n) = Ask 0 (Total (record { from = suc n; to = 9 })) ∷ others n

-- With seven others in between the query is still among the last eight,
abbrev pub SevenKeptUseless : Type 0
SevenKeptUseless =
    let seen = response_after (keeps 7) three (Write 0 (row 9) ∷ ask ∷ others 7) ask in
    Fails (RightAnswers (keeps 7)) seen (answered (total 1 10) 1) (answered (total 1 10) 0)

-- and with eight no longer.
abbrev pub NineKeptUseless : Type 0
NineKeptUseless =
    let seen = response_after (keeps 9) three (Write 0 (row 9) ∷ ask ∷ others 8) ask in
    Fails (RightAnswers (keeps 9)) seen (answered (total 1 10) 0) (answered (total 1 10) 1)

-- KEEPS EVERY answer.
abbrev pub keeps_every : Rules → Store State
keeps_every = with_entries (λ entries. entries)

-- After nine queries the cache has nine entries.
abbrev pub KeepsEveryUseless : Type 0
KeepsEveryUseless = (length ((after keeps_every three (others 9)).cache 0) ≡ 9) × (Caches version_limit keeps_every → ⊥)

-- what the newest entry with the query keeps, whatever its versions
abbrev newest : Query → List Entry → Option CachedAnswer
newest query [] = None
newest query (e ∷ es) = if same_query query e.query then Some e.kept else newest query es

-- what was kept is told, and a query of which nothing was kept is worked out and kept
abbrev tell_newest : ResponseEdit
tell_newest p s request r =
    let again : ℕ → Query → Response = λ user query. respond_query p s user query (newest query (s.cache user)) in
    on_query (λ user query. if is_accepted r then again user query else r) r request

abbrev keep_newest : StateEdit
keep_newest p s request t =
    on_query (λ user query. remember_by (take 8) p s user query (newest query (s.cache user))) t request

-- STALE ANSWERS: what was kept for a query is told again, whether what the user sees was changed since or not.
abbrev pub stale_answers : Rules → Store State
stale_answers = variant tell_newest keep_newest version_limit

-- A row that has come in between is not told.
abbrev pub StaleAnswersUseless : Type 0
StaleAnswersUseless =
    let seen = response_after stale_answers three (Write 0 (row 5) ∷ ask ∷ Write 0 (row 6) ∷ []) ask in
    Fails (RightAnswers stale_answers) seen (answered (total 1 10) 0) (answered (total 2 20) 2)
