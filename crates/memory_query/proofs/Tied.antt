-- A query over memory that holds what a user sees of a state does as the model.
use Rattle.std.proofs.Common.{◌≡◌, ℕ, ◌+◌, ◌-◌, ◌*◌, ◌<◌, ◌≤◌, Bool, true, false, cond, ◌&&◌, ltb, leb, List, [], ◌∷◌, ◌++◌, length, get_or, take, drop, Some, None, Ok, Err, Option, Result, sym, refl, ap, ◌∙◌, subst, inl, inr, arith}
use Rattle.std.proofs.lemmas.List.{length-map, get_or-take, take-append-drop}
use Rattle.std.proofs.lemmas.Option.{none-some, same_Some}
use Rattle.std.proofs.lemmas.Bool.{cases_Bool, cases_lt, lt-ltb, le-ltb, le-leb, lt-leb, leb-true, eq-eqb}
use Rattle.rows.specs.Halving.{flat}
use Rattle.policy.specs.declared.contract.Contract.{Contract}
use Rattle.policy.specs.declared.Policy.{Policy}
use Rattle.base.specs.declared.refusal.Refusal.{Refusal}
use Rattle.base.specs.declared.refusal.Refusal.TheVariants.{NoUser, ShortRow}
use Rattle.policy.specs.Access.{rules_of, capacities_of, cache_at, memory_length}
use Rattle.policy.specs.Layout.{end_from}
use Rattle.policy.specs.Rules.{Rules, has}
use Rattle.policy.specs.Views.{view_of, nobody}
use Rattle.query.specs.declared.Outcome.{Outcome}
use Rattle.query.specs.declared.Query.{Query}
use Rattle.query.specs.declared.Query.TheVariants.{Rows, Total, Shared}
use Rattle.query.specs.Answers.{Answer, lists, total, list, not_seen, answer, cost}
use Rattle.query.specs.Laws.{parts_of, IsModelAnswer}
use Rattle.query.specs.Looks.{compartments_for, row_length_for}
use Rattle.query.specs.AnswerRows.{answered_of, outcome_of, read_answer, with_answer}
use Rattle.query.proofs.Views.{has_head, has_tail, view_few}
use Rattle.query.proofs.Seen.{same_map}
use Rattle.query.proofs.Written.{answers_as_model, lent_is_seen}
use Rattle.cache.specs.declared.CachedAnswer.{CachedAnswer}
use Rattle.cache.specs.declared.CachedAnswer.TheVariants.{Rows as kept_rows, Total as kept_total, Shared as kept_shared, NotSeen as kept_none}
use Rattle.cache.specs.Entries.{Entry, padded_entries, OfView}
use Rattle.cache.specs.CachePlaces.{cached_from, look_up, keep_in}
use Rattle.cache.proofs.Stored.{look_up_flat, find_is_exact, keep_held}
use Rattle.request.specs.declared.Request.TheVariants.{Query as Ask}
use Rattle.model.specs.Model.{State, Response, refused, answered, response, step, lend, needed_length, capacity_sum, keep, recall, respond_query, entry, versions_seen, look_up as found_among}
use Rattle.memory_query.specs.CallResult.{CallResult, refusal_result, unless_refused}
use Rattle.memory_query.specs.MemoryParts.{version_at, part_at, fault_at, lower, lowest_fault, versions_in, parts_in, cache_part, with_cache}
use Rattle.memory_query.specs.AskResult.{Inquiry, check_told, work_result, recall_result, cache_result, inquiry_result, ask_result}
use Rattle.memory_query.specs.Tie.{HoldsView, result_of, row_with, read_result, AsModel, QueriesAsModel}

-- BOUNDS AND LENGTHS

lower_none : (a b : Option ℕ) → a ≡ None → b ≡ None → lower a b ≡ None
lower_none a b e f = rw (e, f) refl

pub no_fault : (p : Policy) (memory cs : List ℕ) → ((c : ℕ) → has cs c ≡ true → fault_at p memory c ≡ None) → lowest_fault p memory cs ≡ None
no_fault p memory [] h = refl
no_fault p memory (c ∷ cs) h =
    lower_none (fault_at p memory c) (lowest_fault p memory cs) (h c (has_head c cs)) (no_fault p memory cs (λ d k. h d (has_tail c d cs k)))

-- with nothing out of bounds, a query is refused only for the length of its row
abbrev by_length : ℕ → ℕ → Result (Unit {0}) Refusal
by_length n long = cond (leb n long) (Ok tt) (Err (ShortRow long))

length_alone : (n long : ℕ) → check_told long (Some n) None ≡ by_length n long
length_alone n long = elim (cases_lt long n) [
  | inl h ↦ rw (lt-ltb long n h, lt-leb n long h) refl
  | inr h ↦ rw (le-ltb long n h, le-leb n long h) refl
]

none_needed : (long : ℕ) → Ok tt ≡ by_length 0 long
none_needed long = rw (le-leb 0 long (omega arith)) refl

check_is : (r : Rules) (user : ℕ) (query : Query) (long : ℕ) →
    check_told long (row_length_for r.capacity (r.view user) query) None ≡ by_length (needed_length r user query) long
check_is r user (Rows range) long = length_alone (32 + 2 * capacity_sum r.capacity (r.view user)) long
check_is r user (Total range) long = length_alone (32 + 2 * capacity_sum r.capacity (r.view user)) long
check_is r user (Shared a b range) long = elim (cases_Bool (has (r.view user) a && has (r.view user) b)) [
  | inl e ↦ rw e (length_alone (32 + 2 * r.capacity a) long)
  | inr e ↦ rw e (none_needed long)
]

long_enough : (r : Rules) (user : ℕ) (query : Query) (long : ℕ) → leb (needed_length r user query) long ≡ true →
    (n : ℕ) → row_length_for r.capacity (r.view user) query ≡ Some n → n ≤ long
long_enough r user (Rows range) long t n e =
    let l : 32 + 2 * capacity_sum r.capacity (r.view user) ≤ long = leb-true (32 + 2 * capacity_sum r.capacity (r.view user)) long t in
    let i = same_Some (32 + 2 * capacity_sum r.capacity (r.view user)) n e in
    omega arith
long_enough r user (Total range) long t n e =
    let l : 32 + 2 * capacity_sum r.capacity (r.view user) ≤ long = leb-true (32 + 2 * capacity_sum r.capacity (r.view user)) long t in
    let i = same_Some (32 + 2 * capacity_sum r.capacity (r.view user)) n e in
    omega arith
long_enough r user (Shared a b range) long t n e = elim (cases_Bool (has (r.view user) a && has (r.view user) b)) [
  | inl h ↦
      let l = leb-true (32 + 2 * r.capacity a) long (rw h at t) in
      let i = same_Some (32 + 2 * r.capacity a) n (rw h at e) in
      omega arith
  | inr h ↦ absurd (none-some n (rw h at e))
]

-- THE CHECKS

module _ (p : Policy) (memory row : List ℕ) (user : ℕ) (query : Query) (l : memory_length p ≤ length memory) where
  abbrev place : ℕ
  place = end_from 0 (capacities_of p) + 192 * user

  -- what goes on with a user's view
  abbrev inquiry : List ℕ → Inquiry
  inquiry v = record { query = query; compartments = compartments_for v query; versions = versions_in p memory v; at = place }

  abbrev with_view : List ℕ → CallResult Outcome
  with_view v =
      unless_refused memory row (check_told (length row) (row_length_for (rules_of p).capacity v query) (lowest_fault p memory v)) (λ x.
      inquiry_result p memory row (inquiry v))

  ask_absent : p.users ≤ user → ask_result p memory row user query ≡ refusal_result memory row (NoUser user)
  ask_absent h = rw (le-ltb (length memory) (memory_length p) l, le-ltb user p.users h) refl

  ask_there : user < p.users → ask_result p memory row user query ≡ with_view ((rules_of p).view user)
  ask_there h =
      rw (le-ltb (length memory) (memory_length p) l, lt-ltb user p.users h)
      (ap (λ (k : Contract). with_view (view_of k)) (sym (get_or-take p.users p.contracts user nobody h)))

  module _ (h : user < p.users) (d : lowest_fault p memory ((rules_of p).view user) ≡ None) where
    checked : ask_result p memory row user query ≡
        unless_refused memory row (by_length (needed_length (rules_of p) user query) (length row)) (λ x. inquiry_result p memory row (inquiry ((rules_of p).view user)))
    checked =
        let v = (rules_of p).view user in
        ask_there h
        ∙ ap (λ (o : Option ℕ). unless_refused memory row (check_told (length row) (row_length_for (rules_of p).capacity v query) o) (λ x. inquiry_result p memory row (inquiry v))) d
        ∙ ap (λ (r : Result (Unit {0}) Refusal). unless_refused memory row r (λ x. inquiry_result p memory row (inquiry v))) (check_is (rules_of p) user query (length row))

    ask_short : leb (needed_length (rules_of p) user query) (length row) ≡ false → ask_result p memory row user query ≡ refusal_result memory row (ShortRow (length row))
    ask_short t = checked ∙ rw t refl

    ask_enough : leb (needed_length (rules_of p) user query) (length row) ≡ true →
        ask_result p memory row user query ≡ inquiry_result p memory row (inquiry ((rules_of p).view user))
    ask_enough t = checked ∙ rw t refl

-- THE MODEL

module _ (r : Rules) (limit : ℕ) (s : State) (user : ℕ) (query : Query) (lent : ℕ) where
  model_absent : ltb user r.users ≡ false → response r limit s (lend (Ask user query) lent) ≡ refused (NoUser user)
  model_absent a = rw a refl

  module _ (a : ltb user r.users ≡ true) where
    model_short : leb (needed_length r user query) lent ≡ false → response r limit s (lend (Ask user query) lent) ≡ refused (ShortRow lent)
    model_short b = rw (a, b) refl

    short_cache : leb (needed_length r user query) lent ≡ false → (step r limit s (lend (Ask user query) lent)).cache user ≡ s.cache user
    short_cache b = rw (a, b) refl

    model_told : (k : Option CachedAnswer) → leb (needed_length r user query) lent ≡ true → found_among r s user query ≡ k →
        response r limit s (lend (Ask user query) lent) ≡ respond_query r s user query k
    model_told k b e = rw (a, b, e) refl

    hit_cache : (k : CachedAnswer) → leb (needed_length r user query) lent ≡ true → found_among r s user query ≡ Some k →
        (step r limit s (lend (Ask user query) lent)).cache user ≡ s.cache user
    hit_cache k b e = rw (a, b, e) refl

    miss_cache : leb (needed_length r user query) lent ≡ true → found_among r s user query ≡ None →
        (step r limit s (lend (Ask user query) lent)).cache user ≡ take 8 (entry r s user query ∷ s.cache user)
    miss_cache b e = rw (a, b, e, eq-eqb user user refl) refl

-- WHAT IS TOLD

kept_is : (a : Answer) → cached_from (answered_of a) ≡ keep a
kept_is (lists ls) = refl
kept_is (total count sum) = refl
kept_is (list rs) = refl
kept_is not_seen = refl

pub same_cache : (at : ℕ) (memory : List ℕ) → memory ≡ with_cache at (cache_part at memory) memory
same_cache at memory =
    sym (ap (λ (xs : List ℕ). take at memory ++ xs) (take-append-drop 192 (drop at memory)) ∙ take-append-drop at memory)

-- an answer that was worked out over memory, and what comes of it where the cache has something kept
module _ (memory row : List ℕ) (a : Answer) (examined : ℕ) where
  abbrev worked : CallResult Outcome
  worked = record { told = Ok (outcome_of a examined); memory = memory; row = with_answer a row }

  recall_told : (kept : CachedAnswer) → (recall_result row worked kept).told ≡ result_of (answered (recall kept a) 0)
  recall_told kept_rows = refl
  recall_told (kept_total rows amount) = refl
  recall_told kept_shared = refl
  recall_told kept_none = refl

  recall_row : (kept : CachedAnswer) → (recall_result row worked kept).row ≡ row_with (answered (recall kept a) 0) row
  recall_row kept_rows = refl
  recall_row (kept_total rows amount) = refl
  recall_row kept_shared = refl
  recall_row kept_none = refl

  recall_memory : (kept : CachedAnswer) → (recall_result row worked kept).memory ≡ memory
  recall_memory kept_rows = refl
  recall_memory (kept_total rows amount) = refl
  recall_memory kept_shared = refl
  recall_memory kept_none = refl

  recall_reading : (kept : CachedAnswer) → read_answer (answered_of a) (with_answer a row) ≡ a →
      read_result (recall_result row worked kept).told (recall_result row worked kept).row ≡ answered (recall kept a) 0
  recall_reading kept_rows e = ap (λ (b : Answer). answered b 0) e
  recall_reading (kept_total rows amount) e = refl
  recall_reading kept_shared e = ap (λ (b : Answer). answered b 0) e
  recall_reading kept_none e = refl

-- ALL TOGETHER

module _ (p : Policy) (limit : ℕ) (s : State) (user : ℕ) (query : Query) (memory row : List ℕ) (h : HoldsView p s user memory) where
  abbrev view : List ℕ
  view = (rules_of p).view user

  abbrev cache_start : ℕ
  cache_start = place p memory row user query h.long

  abbrev asked : Inquiry
  asked = inquiry p memory row user query h.long view

  abbrev next_cache : List Entry
  next_cache = (step (rules_of p) limit s (lend (Ask user query) (length row))).cache user

  -- the call does as `r` says, and the model responds `m`
  from_result : (r : CallResult Outcome) (m : Response) → ask_result p memory row user query ≡ r →
      response (rules_of p) limit s (lend (Ask user query) (length row)) ≡ m → r.told ≡ result_of m → r.row ≡ row_with m row → read_result r.told r.row ≡ m →
      ((at : ℕ) → cache_at p user ≡ Some at → r.memory ≡ with_cache at (padded_entries 8 next_cache) memory) → (cache_at p user ≡ None → r.memory ≡ memory) →
      AsModel p limit s user query memory row
  from_result r m e f told left reading kept absent = record {
    told = rw (e, f) told;
    row = rw (e, f) left;
    reading = rw (e, f) reading;
    kept = λ at i. rw e (kept at i);
    absent = λ i. rw e (absent i);
  }

  few : length view ≤ 16
  few = view_few (get_or (take p.users p.contracts) user nobody)

  undamaged : lowest_fault p memory view ≡ None
  undamaged = no_fault p memory view h.bounds

  versions_are : versions_in p memory view ≡ versions_seen (rules_of p) s user
  versions_are = same_map view (version_at p memory) s.version h.version

  parts_are : parts_in p memory (compartments_for view query) ≡ parts_of s.rows (compartments_for view query)
  parts_are = same_map (compartments_for view query) (part_at p memory) (λ (c : ℕ). flat (s.rows c)) (λ c k. h.rows c (lent_is_seen view query c k))

  same_memory : (at : ℕ) → cache_at p user ≡ Some at → next_cache ≡ s.cache user → memory ≡ with_cache at (padded_entries 8 next_cache) memory
  same_memory at i k =
      same_cache at memory
      ∙ ap (λ (ps : List ℕ). with_cache at ps memory) (h.cache at i)
      ∙ ap (λ (es : List Entry). with_cache at (padded_entries 8 es) memory) (sym k)

  none_there : p.users ≤ user → AsModel p limit s user query memory row
  none_there u =
      let f = le-ltb user p.users u in
      from_result (refusal_result memory row (NoUser user)) (refused (NoUser user)) (ask_absent p memory row user query h.long u)
      (model_absent (rules_of p) limit s user query (length row) f) refl refl refl
      (λ at i. absurd (none-some at (sym (ap (λ (b : Bool). cond b (Some cache_start) None) f) ∙ i)))
      (λ i. refl)

  module _ (u : user < p.users) where
    here : cache_at p user ≡ Some cache_start
    here = ap (λ (b : Bool). cond b (Some cache_start) None) (lt-ltb user p.users u)

    found_is : look_up query (versions_in p memory view) (cache_part cache_start memory) ≡ found_among (rules_of p) s user query
    found_is =
        let vs = versions_seen (rules_of p) s user in
        let n : length vs ≡ length view = length-map view s.version in
        let o : OfView (length vs) (s.cache user) = subst (λ (k : ℕ). OfView k (s.cache user)) (sym n) h.of_view in
        ap (λ (ws : List ℕ). look_up query ws (cache_part cache_start memory)) versions_are
        ∙ ap (λ (ps : List ℕ). look_up query vs ps) (h.cache cache_start here)
        ∙ look_up_flat query vs (s.cache user) (192 - 24 * length (s.cache user))
        ∙ find_is_exact query vs (s.cache user) (omega (arith, few)) o

    too_short : leb (needed_length (rules_of p) user query) (length row) ≡ false → AsModel p limit s user query memory row
    too_short t =
        let l = lt-ltb user p.users u in
        from_result (refusal_result memory row (ShortRow (length row))) (refused (ShortRow (length row))) (ask_short p memory row user query h.long u undamaged t)
        (model_short (rules_of p) limit s user query (length row) l t) refl refl refl
        (λ at i. same_memory at i (short_cache (rules_of p) limit s user query (length row) l t))
        (λ i. refl)

    module _ (t : leb (needed_length (rules_of p) user query) (length row) ≡ true) (right : IsModelAnswer view s.rows query row) where
      abbrev told_answer : Answer
      told_answer = answer view s.rows query

      abbrev told_cost : ℕ
      told_cost = cost view s.rows query

      work_is : work_result p memory row asked ≡ worked memory row told_answer told_cost
      work_is = rw (parts_are, right.returned, right.row) refl

      by_cache : (k : Option CachedAnswer) → found_among (rules_of p) s user query ≡ k →
          ask_result p memory row user query ≡ cache_result asked row (worked memory row told_answer told_cost) k
      by_cache k e =
          ask_enough p memory row user query h.long u undamaged t
          ∙ ap (λ (o : Option CachedAnswer). cache_result asked row (work_result p memory row asked) o) (found_is ∙ e)
          ∙ ap (λ (w : CallResult Outcome). cache_result asked row w k) work_is

      hit : (k : CachedAnswer) → found_among (rules_of p) s user query ≡ Some k → AsModel p limit s user query memory row
      hit k e =
          let l = lt-ltb user p.users u in
          let m = recall_memory memory row told_answer told_cost k in
          from_result (recall_result row (worked memory row told_answer told_cost) k) (answered (recall k told_answer) 0) (by_cache (Some k) e)
          (model_told (rules_of p) limit s user query (length row) l (Some k) t e)
          (recall_told memory row told_answer told_cost k) (recall_row memory row told_answer told_cost k)
          (recall_reading memory row told_answer told_cost k right.reading)
          (λ at i. m ∙ same_memory at i (hit_cache (rules_of p) limit s user query (length row) l k t e))
          (λ i. m)

      miss : found_among (rules_of p) s user query ≡ None → AsModel p limit s user query memory row
      miss e =
          let l = lt-ltb user p.users u in
          let vs = versions_seen (rules_of p) s user in
          let new = with_cache cache_start (keep_in query (versions_in p memory view) (cached_from (answered_of told_answer)) (cache_part cache_start memory)) memory in
          let n : new ≡ with_cache cache_start (padded_entries 8 next_cache) memory =
          ap (λ (ws : List ℕ). with_cache cache_start (keep_in query ws (cached_from (answered_of told_answer)) (cache_part cache_start memory)) memory) versions_are
          ∙ ap (λ (k : CachedAnswer). with_cache cache_start (keep_in query vs k (cache_part cache_start memory)) memory) (kept_is told_answer)
          ∙ ap (λ (ps : List ℕ). with_cache cache_start (keep_in query vs (keep told_answer) ps) memory) (h.cache cache_start here)
          ∙ ap (λ (ps : List ℕ). with_cache cache_start ps memory) (keep_held (entry (rules_of p) s user query) 8 (s.cache user) h.few)
          ∙ ap (λ (es : List Entry). with_cache cache_start (padded_entries 8 es) memory) (sym (miss_cache (rules_of p) limit s user query (length row) l t e)) in
          from_result (cache_result asked row (worked memory row told_answer told_cost) None) (answered told_answer told_cost) (by_cache None e)
          (model_told (rules_of p) limit s user query (length row) l None t e) refl refl
          (ap (λ (a : Answer). answered a told_cost) right.reading)
          (λ at i. n ∙ ap (λ (k : ℕ). with_cache k (padded_entries 8 next_cache) memory) (same_Some cache_start at (sym here ∙ i)))
          (λ i. absurd (none-some cache_start (sym i ∙ here)))

      either : (k : Option CachedAnswer) → found_among (rules_of p) s user query ≡ k → AsModel p limit s user query memory row
      either (Some k) e = hit k e
      either None e = miss e

    answered_there : leb (needed_length (rules_of p) user query) (length row) ≡ true → AsModel p limit s user query memory row
    answered_there t =
        let r = answers_as_model (rules_of p).capacity view s.rows query row few h.orderly (long_enough (rules_of p) user query (length row) t) in
        either t r (found_among (rules_of p) s user query) refl

pub queries_as_model : QueriesAsModel
queries_as_model p limit s user query memory row h = elim (cases_lt user p.users) [
  | inl u ↦ elim (cases_Bool (leb (needed_length (rules_of p) user query) (length row))) [
    | inl t ↦ answered_there p limit s user query memory row h u t
    | inr t ↦ too_short p limit s user query memory row h u t
  ]
  | inr u ↦ none_there p limit s user query memory row h u
]
