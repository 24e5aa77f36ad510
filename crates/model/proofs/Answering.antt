-- After any trace every user's cache holds what the events say, and every answer is right.
use Rattle.std.proofs.Common.{◌≡◌, ℕ, zero, suc, ◌<◌, ◌≤◌, Bool, true, false, cond, eqb, leb, List, [], ◌∷◌, map, take, is_some, Some, None, Option, sym, refl, ◌∙◌, inl, inr, arith}
use Rattle.std.proofs.lemmas.List.{take-take}
use Rattle.std.proofs.ByRecursion.{All-take}
use Rattle.std.proofs.lemmas.Bool.{cases_Bool, eq-eqb, ne_eqb, cases_eq, lt-ltb, le-leb, lt-leb, ltb-true, leb-true}
use Rattle.rows.specs.declared.Row.{Row}
use Rattle.policy.specs.Rules.{Rules, sees}
use Rattle.query.specs.declared.Query.{Query}
use Rattle.query.specs.declared.Query.TheVariants.{Shared}
use Rattle.query.specs.Answers.{Answer, answer, cost, same_query}
use Rattle.request.specs.declared.Request.{Request}
use Rattle.request.specs.declared.Request.TheVariants.{Write, Delete, Copy, Query as Ask}
use Rattle.model.specs.Model.{State, Call, lend, CachedAnswer, answered, empty, is_user, needed_length, find, versions_seen, look_up, respond_query, response, is_accepted, set_rows, entry, remember, transition, step, run, with_at}
use Rattle.model.specs.Events.{Event, change, work, is_known_in, is_known, note, events_after}
use Rattle.model.specs.Promises.{RightAnswers, ShortRows, NotSeen, Again}
use Rattle.query.proofs.Seen.{SameOn, same_map}
use Rattle.model.proofs.Alike.{passed}
use Rattle.model.proofs.Interference.{apart}
use Rattle.model.proofs.Cached.{Fits, AllFit, fit_older, fit_same, recall_keep, found_right, none_found, raised_more, same_query_refl, same_versions_refl}

-- a user's cache: at most eight entries, right ones, and of now those that the events name
pub record Faithful (p : Rules) (u : ℕ) (s : State) (events : List Event) : Type 0 where
  pub bounded : take 8 (s.cache u) ≡ s.cache u
  pub fit : AllFit (p.view u) s.rows (versions_seen p s u) (s.cache u)
  pub same : (q : Query) (n : ℕ) → n ≤ 8 → is_known_in p u q n events ≡ is_some (find q (versions_seen p s u) (take n (s.cache u)))

abbrev pub AllFaithful : Rules → State → List Event → Type 0
AllFaithful p s events = (u : ℕ) → Faithful p u s events

empty_known : (p : Rules) (u : ℕ) (q : Query) (n : ℕ) → is_known_in p u q n [] ≡ is_some (find q (versions_seen p empty u) (take n []))
empty_known p u q zero = refl
empty_known p u q (suc n) = refl

pub empty_faithful : (p : Rules) → AllFaithful p empty []
empty_faithful p u = record { bounded = refl; fit = tt; same = λ q n l. empty_known p u q n }

module _ (p : Rules) (s : State) (events : List Event) (f : AllFaithful p s events) where
  -- where a change isn't seen all is as it was
  unseen_rows : (u c : ℕ) (new : List Row) → sees p u c ≡ false → SameOn (p.view u) s.rows (with_at s.rows c new)
  unseen_rows u c new h d k = rw (apart p u c d h k)

  unseen_versions : (u c : ℕ) → sees p u c ≡ false → versions_seen p s u ≡ map (with_at s.version c (suc (s.version c))) (p.view u)
  unseen_versions u c h = same_map (p.view u) s.version _ (λ (d : ℕ) (k : sees p u d ≡ true). rw (apart p u c d h k))

  unseen_known : (u c : ℕ) (new : List Row) → sees p u c ≡ false → (q : Query) (n : ℕ) → n ≤ 8 →
      is_known_in p u q n (change c ∷ events) ≡ is_some (find q (versions_seen p (set_rows s c new) u) (take n (s.cache u)))
  unseen_known u c new h q zero l = refl
  unseen_known u c new h q (suc n) l = rw (h, sym (unseen_versions u c h)) ((f u).same q (suc n) l)

  seen_known : (u c : ℕ) (new : List Row) → sees p u c ≡ true → (q : Query) (n : ℕ) → n ≤ 8 →
      is_known_in p u q n (change c ∷ events) ≡ is_some (find q (versions_seen p (set_rows s c new) u) (take n (s.cache u)))
  seen_known u c new h q zero l = refl
  seen_known u c new h q (suc n) l =
      rw h (sym (none_found q (p.view u) s.rows (versions_seen p s u) (versions_seen p (set_rows s c new) u) (take (suc n) (s.cache u))
      (raised_more s.version c (p.view u) h) (All-take (Fits (p.view u) s.rows (versions_seen p s u)) (suc n) (s.cache u) (f u).fit)))

  changed_faithful : (c : ℕ) (new : List Row) → AllFaithful p (set_rows s c new) (change c ∷ events)
  changed_faithful c new u = elim (cases_Bool (sees p u c)) [
    | inl h ↦ record {
      bounded = (f u).bounded;
      fit = fit_older (p.view u) s.rows (with_at s.rows c new) (versions_seen p s u) (versions_seen p (set_rows s c new) u) (s.cache u)
          (raised_more s.version c (p.view u) h) (f u).fit;
      same = seen_known u c new h;
    }
    | inr h ↦ record {
      bounded = (f u).bounded;
      fit = rw (sym (unseen_versions u c h)) (fit_same (p.view u) s.rows (with_at s.rows c new) (versions_seen p s u) (s.cache u) (unseen_rows u c new h) (f u).fit);
      same = unseen_known u c new h;
    }
  ]

  -- a query that was worked out is the newest entry, and the newest event
  own_known : (u : ℕ) (q asked : Query) (n : ℕ) → n ≤ 8 →
      is_known_in p u q n (work u asked ∷ events) ≡ is_some (find q (versions_seen p s u) (take n (take 8 (entry p s u asked ∷ s.cache u))))
  own_known u q asked zero l = refl
  own_known u q asked (suc n) l =
      let i = (f u).same q n (omega arith) in
      let k : take n (take 7 (s.cache u)) ≡ take n (s.cache u) = take-take n 7 (s.cache u) (omega arith) in
      rw (eq-eqb u u refl, k, same_versions_refl (versions_seen p s u)) (elim (cases_Bool (same_query q asked)) [
        | inl e ↦ rw e
        | inr e ↦ rw e i
      ])

  other_known : (u w : ℕ) (q asked : Query) (n : ℕ) → eqb w u ≡ false → n ≤ 8 → is_known_in p u q n (work w asked ∷ events) ≡ is_known_in p u q n events
  other_known u w q asked zero e l = refl
  other_known u w q asked (suc n) e l = rw e

  worked_faithful : (w : ℕ) (q : Query) → AllFaithful p (remember p s w q None) (work w q ∷ events)
  worked_faithful w q u = elim (cases_eq w u) [
    | inl e ↦ rw e (record {
      bounded = rw (eq-eqb u u refl) (take-take 8 8 (entry p s u q ∷ s.cache u) (omega arith));
      fit = rw (eq-eqb u u refl) (All-take (Fits (p.view u) s.rows (versions_seen p s u)) 8 (entry p s u q ∷ s.cache u)
          ((omega arith, λ (_ : versions_seen p s u ≡ versions_seen p s u). recall_keep (answer (p.view u) s.rows q)), (f u).fit));
      same = λ r n l. rw (eq-eqb u u refl) (own_known u r q n l);
    })
    | inr e ↦ let d = ne_eqb w u e in record {
      bounded = rw d (f u).bounded;
      fit = rw d (f u).fit;
      same = λ r n l. rw d (other_known u w r q n d l ∙ (f u).same r n l);
    }
  ]

  -- a query is known where it is in the cache
  pub known_found : (u : ℕ) (q : Query) → is_known p u q events ≡ is_some (look_up p s u q)
  known_found u q = let e = (f u).same q 8 (omega arith) in let b = (f u).bounded in rw b at e

  asked_faithful : (u : ℕ) (q : Query) (k : Option CachedAnswer) → look_up p s u q ≡ k → AllFaithful p (remember p s u q k) (cond (is_some k) events (work u q ∷ events))
  asked_faithful u q (Some kept) e = f
  asked_faithful u q None e = worked_faithful u q

  next_faithful : (limit : ℕ) (r : Request) (lent : ℕ) → AllFaithful p (transition p limit s r lent).next (note p r events)
  next_faithful limit (Write u row) lent = changed_faithful (p.writes u) _
  next_faithful limit (Delete u key) lent = changed_faithful (p.writes u) _
  next_faithful limit (Copy u c range) lent = changed_faithful (p.writes u) _
  next_faithful limit (Ask u q) lent = rw (known_found u q) (asked_faithful u q (look_up p s u q) refl)

  pub step_faithful : (limit : ℕ) (call : Call) → AllFaithful p (step p limit s call) (cond (is_accepted (response p limit s call)) (note p call.request events) events)
  step_faithful limit call = elim (cases_Bool (is_accepted (response p limit s call))) [
    | inl e ↦ rw e (next_faithful limit call.request call.lent)
    | inr e ↦ rw e f
  ]

  answering_right : (u : ℕ) (q : Query) (k : Option CachedAnswer) → look_up p s u q ≡ k →
      respond_query p s u q k ≡ answered (answer (p.view u) s.rows q) (cond (is_some k) 0 (cost (p.view u) s.rows q))
  answering_right u q (Some kept) e = rw (found_right q (p.view u) s.rows (versions_seen p s u) (s.cache u) kept (f u).fit e)
  answering_right u q None e = refl

  pub answered_right : (limit u : ℕ) (q : Query) (lent : ℕ) → u < p.users → needed_length p u q ≤ lent →
      response p limit s (lend (Ask u q) lent) ≡ answered (answer (p.view u) s.rows q) (cond (is_known p u q events) 0 (cost (p.view u) s.rows q))
  answered_right limit u q lent h l = rw (lt-ltb u p.users h, le-leb (needed_length p u q) lent l, known_found u q) (answering_right u q (look_up p s u q) refl)

pub run_faithful : (p : Rules) (limit : ℕ) (s : State) (events : List Event) (calls : List Call) → AllFaithful p s events →
    AllFaithful p (run p limit s calls) (events_after p limit s events calls)
run_faithful p limit s events [] f = f
run_faithful p limit s events (call ∷ calls) f = run_faithful p limit (step p limit s call) _ calls (step_faithful p s events f limit call)

pub right_answers : RightAnswers
right_answers p limit calls u q lent h l =
    answered_right p (run p limit empty calls) (events_after p limit empty [] calls) (run_faithful p limit empty [] calls (empty_faithful p)) limit u q lent h l

-- what costs nothing is 0 either way
nothing : (b : Bool) → ◌≡◌ {A = ℕ} (cond b 0 0) 0
nothing true = refl
nothing false = refl

pub not_seen_told : NotSeen
not_seen_told p limit calls u a b range lent h e =
    let n : needed_length p u (Shared a b range) ≤ lent = rw e (omega arith) in
    right_answers p limit calls u (Shared a b range) lent h n ∙ rw (e, nothing (is_known p u (Shared a b range) (events_after p limit empty [] calls)))

pub short_rows : ShortRows
short_rows p limit s u q lent h l = (rw (lt-ltb u p.users h, lt-leb (needed_length p u q) lent l), rw (lt-ltb u p.users h, lt-leb (needed_length p u q) lent l))

-- a query that was just answered is known
asked_known : (p : Rules) (u : ℕ) (q : Query) (events : List Event) → is_known p u q (note p (Ask u q) events) ≡ true
asked_known p u q events = elim (cases_Bool (is_known p u q events)) [
  | inl e ↦ rw e e
  | inr e ↦ rw (e, eq-eqb u u refl, same_query_refl q)
]

remembered_rows : (p : Rules) (s : State) (u : ℕ) (q : Query) (k : Option CachedAnswer) → (remember p s u q k).rows ≡ s.rows
remembered_rows p s u q (Some kept) = refl
remembered_rows p s u q None = refl

-- who was answered is a user of the policy, and lent enough
answered_there : (p : Rules) (limit : ℕ) (s : State) (u : ℕ) (q : Query) (lent : ℕ) → is_accepted (response p limit s (lend (Ask u q) lent)) ≡ true →
    (is_user p u ≡ true) × (leb (needed_length p u q) lent ≡ true)
answered_there p limit s u q lent h =
    let t = passed (is_user p u) _ _ h refl in
    (t, passed (leb (needed_length p u q) lent) _ _ (rw t at h) refl)

again_from : (p : Rules) (limit : ℕ) (s : State) (events : List Event) → AllFaithful p s events →
    (u : ℕ) (q : Query) (lent more : ℕ) (a : Answer) (n : ℕ) → needed_length p u q ≤ more →
    response p limit s (lend (Ask u q) lent) ≡ answered a n → response p limit (step p limit s (lend (Ask u q) lent)) (lend (Ask u q) more) ≡ answered a 0
again_from p limit s events f u q lent more a n m h =
    let k : is_accepted (response p limit s (lend (Ask u q) lent)) ≡ true = rw h in
    let t = answered_there p limit s u q lent k in
    let here = ltb-true u p.users t.0 in
    let first = answered_right p s events f limit u q lent here (leb-true (needed_length p u q) lent t.1) in
    let g : AllFaithful p (step p limit s (lend (Ask u q) lent)) (note p (Ask u q) events) = rw k (next_faithful p s events f limit (Ask u q) lent) in
    let second = answered_right p (step p limit s (lend (Ask u q) lent)) (note p (Ask u q) events) g limit u q more here m in
    let known_now = asked_known p u q events in
    let rows_now : (step p limit s (lend (Ask u q) lent)).rows ≡ s.rows = rw k (remembered_rows p s u q (look_up p s u q)) in
    let same : answer (p.view u) s.rows q ≡ a = cc in
    second ∙ rw (known_now, rows_now, same)

pub again : Again
again p limit calls u q lent more a n m h =
    again_from p limit (run p limit empty calls) (events_after p limit empty [] calls) (run_faithful p limit empty [] calls (empty_faithful p)) u q lent more a n m h
