-- The theorems about lists of calls, through the model.
use Rattle.std.proofs.Common.{◌≡◌, ℕ, ◌≤◌, true, cond, eqb, List, [], ◌∷◌, map, length, Err, sym, refl, ap, ◌∙◌, inl, inr}
use Rattle.compartment.specs.Parts.{limit}
use Rattle.model.specs.Model.{State, Response, lend, who, relevant, response, step, empty, responses_to, purge, run, refused, answered}
use Rattle.model.proofs.Interference as model
use Rattle.model.proofs.Answering as answers
use Rattle.policy.specs.Access.{rules_of, memory_length}
use Rattle.policy.specs.declared.Policy.{Policy}
use Rattle.base.specs.declared.refusal.Refusal.TheVariants.{OutOfBounds}
use Rattle.policy.proofs.Proved.{policies_valid}
use Rattle.store.proofs.Refused.{short_refusal}
use Rattle.query.specs.Answers.{Answer}
use Rattle.query.specs.declared.Query.{Query}
use Rattle.request.specs.declared.Request.{Request}
use Rattle.request.specs.declared.Request.TheVariants.{Write, Delete, Copy, Query as Ask}
use Rattle.std.proofs.lemmas.Bool.{cases_Bool, ltb-false}
use Rattle.store.specs.Calls.{short, open_result}
use Rattle.memory_query.specs.Tie.{row_with}
use Rattle.store.specs.Served.{CallResult, serve_result, reply_of}
use Rattle.store.specs.Simulation.{Holds, Serves}
use Rattle.store.specs.declared.reply.Reply.{Reply}
use Rattle.store.proofs.Following.{open_holds}
use Rattle.store.proofs.Serving.{serve_follows}
use Rattle.promises.specs.Example.{observation_of}
use Rattle.promises.specs.Promises.{Noninterference, TwoTraces, FollowsTheModel, IsAnswered, RightAnswers}
use Rattle.promises.specs.Traces.{ServeCall, Observation, AllFit, call_of, observation, observations, memory_left, memory_after, relevant_calls}

pub observes : (p : Policy) (s : State) (memory : List ℕ) (call : ServeCall) → Serves p s memory call.row call.request →
    observation p memory call ≡ observation_of (response (rules_of p) limit s (call_of call)) call.row
observes p s memory call f = rw (f.told, f.row) refl

-- a query that the model answers
pub is_answered : (p : Policy) (s : State) (memory lent : List ℕ) (user : ℕ) (query : Query) (a : Answer) (n : ℕ) → Holds p s memory →
    response (rules_of p) limit s (lend (Ask user query) (length lent)) ≡ answered a n →
    IsAnswered a n lent (serve_result p memory lent (Ask user query))
is_answered p s memory lent user query a n h e =
    let f = serve_follows p s memory lent (Ask user query) h tt in
    record { told = f.told ∙ ap reply_of e; row = f.row ∙ ap (λ (r : Response). row_with r lent) e; reading = f.reading ∙ e }

-- the rows that are lent to a user, in their order
abbrev lent_to : ℕ → List ServeCall → List (List ℕ)
lent_to user [] = []
lent_to user (call ∷ calls) = cond (eqb (who call.request) user) (call.row ∷ lent_to user calls) (lent_to user calls)

-- the observations of some responses, each with the row that was lent for it
abbrev observations_of : List Response → List (List ℕ) → List Observation
observations_of [] rows = []
observations_of (r ∷ rs) [] = []
observations_of (r ∷ rs) (row ∷ rows) = observation_of r row ∷ observations_of rs rows

-- a user observes along the calls what the model tells them
observations_follow : (p : Policy) (user : ℕ) (s : State) (memory : List ℕ) (calls : List ServeCall) → Holds p s memory → AllFit calls →
    observations p user memory calls ≡ observations_of (responses_to (rules_of p) limit user s (map call_of calls)) (lent_to user calls)
observations_follow p user s memory [] h a = refl
observations_follow p user s memory (call ∷ calls) h a =
    let f = serve_follows p s memory call.row call.request h a.0 in
    let o = observes p s memory call f in
    let rest = observations_follow p user (step (rules_of p) limit s (call_of call)) (memory_left p memory call) calls f.holds a.1 in
    elim (cases_Bool (eqb (who call.request) user)) [ inl e ↦ rw (e, o, rest) refl | inr e ↦ rw (e, rest) refl ]

holds_follow : (p : Policy) (s : State) (memory : List ℕ) (calls : List ServeCall) → Holds p s memory → AllFit calls →
    Holds p (run (rules_of p) limit s (map call_of calls)) (memory_after p memory calls)
holds_follow p s memory [] h a = h
holds_follow p s memory (call ∷ calls) h a =
    holds_follow p (step (rules_of p) limit s (call_of call)) (memory_left p memory call) calls
    (serve_follows p s memory call.row call.request h a.0).holds a.1

-- the relevant calls are those of the model
relevant_are : (p : Policy) (user : ℕ) (calls : List ServeCall) →
    map call_of (relevant_calls p user calls) ≡ purge (rules_of p) user (map call_of calls)
relevant_are p user [] = refl
relevant_are p user (call ∷ calls) =
    let i = relevant_are p user calls in
    elim (cases_Bool (relevant (rules_of p) user (call_of call))) [ inl e ↦ rw (e, i) refl | inr e ↦ rw (e, i) refl ]

relevant_fit : (p : Policy) (user : ℕ) (calls : List ServeCall) → AllFit calls → AllFit (relevant_calls p user calls)
relevant_fit p user [] a = tt
relevant_fit p user (call ∷ calls) a =
    let i = relevant_fit p user calls a.1 in
    elim (cases_Bool (relevant (rules_of p) user (call_of call))) [ inl e ↦ rw e (a.0, i) | inr e ↦ rw e i ]

-- what is lent to a user is lent to them in the relevant calls too: their own are relevant
lent_relevant : (p : Policy) (user : ℕ) (calls : List ServeCall) → lent_to user (relevant_calls p user calls) ≡ lent_to user calls
lent_relevant p user [] = refl
lent_relevant p user (call ∷ calls) =
    let i = lent_relevant p user calls in
    elim (cases_Bool (eqb (who call.request) user)) [
      | inl e ↦ rw (e, i, e) refl
      | inr e ↦ elim (cases_Bool (relevant (rules_of p) user (call_of call))) [ inl r ↦ rw (r, e) i | inr r ↦ rw (r, e) i ]
    ]

abbrev observed : CallResult Reply → Observation
observed result = record { told = result.told; row = result.row }

short_observations : (p : Policy) (user : ℕ) (memory : List ℕ) (calls : List ServeCall) → short p memory ≡ true →
    observations p user memory calls ≡ map (λ (row : List ℕ). observation_of (refused (OutOfBounds (length memory))) row) (lent_to user calls)
short_observations p user memory [] e = refl
short_observations p user memory (call ∷ calls) e =
    let why = OutOfBounds (length memory) in
    let r = short_refusal p memory call.row call.request e in
    let o : observation p memory call ≡ observation_of (refused why) call.row =
    ap (λ (result : CallResult Reply). observed result) r in
    let m : memory_left p memory call ≡ memory = ap (λ (result : CallResult Reply). result.memory) r in
    let rest = short_observations p user memory calls e in
    elim (cases_Bool (eqb (who call.request) user)) [ inl i ↦ rw (i, o, m, rest) refl | inr i ↦ rw (i, m, rest) refl ]

noninterference_of_short : (p : Policy) (user : ℕ) (memory : List ℕ) (calls : List ServeCall) → short p memory ≡ true →
    observations p user memory (relevant_calls p user calls) ≡ observations p user memory calls
noninterference_of_short p user memory calls e =
    let whole = short_observations p user memory calls e in
    let part = short_observations p user memory (relevant_calls p user calls) e in
    rw (part, whole, lent_relevant p user calls) refl

noninterference_of_long : (p : Policy) (user : ℕ) (memory : List ℕ) (calls : List ServeCall) → memory_length p ≤ length memory → AllFit calls →
    observations p user (open_result p memory).memory (relevant_calls p user calls) ≡ observations p user (open_result p memory).memory calls
noninterference_of_long p user memory calls long a =
    let h = open_holds p memory long in
    let whole = observations_follow p user empty (open_result p memory).memory calls h a in
    let part = observations_follow p user empty (open_result p memory).memory (relevant_calls p user calls) h (relevant_fit p user calls a) in
    let same = model.noninterference (rules_of p) limit user (map call_of calls) (policies_valid p).sound in
    rw (part, whole, relevant_are p user calls, lent_relevant p user calls, same) refl

pub noninterference : Noninterference
noninterference p user memory calls a = elim (cases_Bool (short p memory)) [
  | inl e ↦ rw e (noninterference_of_short p user memory calls e)
  | inr e ↦ noninterference_of_long p user memory calls (ltb-false (length memory) (memory_length p) e) a
]

pub two_traces : TwoTraces
two_traces p user memory calls others a b e =
    sym (noninterference p user memory calls a) ∙ (ap (observations p user (open_result p memory).memory) e ∙ noninterference p user memory others b)

pub follows_the_model : FollowsTheModel
follows_the_model p memory calls long a = holds_follow p empty (open_result p memory).memory calls (open_holds p memory long) a

pub right_answers : RightAnswers
right_answers p memory calls user query lent long a there enough =
    is_answered p (run (rules_of p) limit empty (map call_of calls)) (memory_after p (open_result p memory).memory calls) lent user query _ _
    (follows_the_model p memory calls long a)
    (answers.right_answers (rules_of p) limit (map call_of calls) user query (length lent) there enough)
