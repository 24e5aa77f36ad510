-- Rules that are the same for users and compartments that are there tell the same and do the same.
use Rattle.std.proofs.Common.{◌≡◌, ℕ, suc, ◌<◌, Bool, true, cond, not, ◌&&◌, eqb, List, [], ◌∷◌, length, get_or, Some, None, Option, sym, refl, ap, ◌∙◌, inl, inr, suc-le-suc, zero-le}
use Rattle.std.proofs.lemmas.Bool.{cases_Bool, or_cases, and_parts, eqb-true, ltb-true}
use Rattle.policy.specs.Laws.{SameRules, ValidRules}
use Rattle.policy.specs.Rules.{Rules, has, sees, flows}
use Rattle.policy.proofs.Alike.{may_copy_alike}
use Rattle.query.specs.declared.Query.{Query}
use Rattle.query.specs.declared.Query.TheVariants.{Rows, Total, Shared}
use Rattle.query.proofs.Sums.{sum_alike}
use Rattle.request.specs.declared.Request.{Request}
use Rattle.request.specs.declared.Request.TheVariants.{Write, Delete, Copy, Query as Ask}
use Rattle.model.specs.Model.{State, Call, who, asks, is_user, may_copy, capacity_sum, needed_length, CachedAnswer, look_up, respond_query, remember, transition, response, step, run, responses, responses_to, relevant, purge}
use Rattle.model.specs.Sameness.{RulesAlike}
use Rattle.model.proofs.Interference.{absent}

-- what is in a list whose numbers are all below n is below n
all_below : (n c : ℕ) (xs : List ℕ) → ((i : ℕ) → i < length xs → get_or xs i 0 < n) → has xs c ≡ true → c < n
all_below n c [] each h = absurd cc
all_below n c (x ∷ xs) each h = elim (or_cases (eqb x c) (has xs c) h) [
  | inl e ↦ rw (sym (eqb-true x c e)) (each 0 (suc-le-suc zero-le))
  | inr e ↦ all_below n c xs (λ i l. each (suc i) (suc-le-suc l)) e
]

-- what is the same where a test is passed is the same under two tests that agree
same_cond : {X : Type 0} (b c : Bool) (x y z : X) → b ≡ c → (b ≡ true → x ≡ y) → cond b x z ≡ cond c y z
same_cond b c x y z e f = elim (cases_Bool b) [ inl t ↦ rw (← e, t, f t) refl | inr t ↦ rw (← e, t) refl ]

same_and : (b c x y : Bool) → b ≡ c → (b ≡ true → x ≡ y) → (b && x) ≡ (c && y)
same_and b c x y e f = elim (cases_Bool b) [ inl t ↦ rw (← e, t, f t) refl | inr t ↦ rw (← e, t) refl ]

module _ (p q : Rules) (n most : ℕ) (same : SameRules p q n) (valid : ValidRules p n most) where
  -- a compartment that a user sees has one capacity
  seen_capacity : (u c : ℕ) → u < p.users → sees p u c ≡ true → p.capacity c ≡ q.capacity c
  seen_capacity u c h e = same.capacity c (all_below n c (p.view u) (λ i. valid.there u i h) e)

  written_capacity : (u : ℕ) → u < p.users → p.capacity (p.writes u) ≡ q.capacity (p.writes u)
  written_capacity u h = seen_capacity u (p.writes u) h (valid.sound u h)

  there_alike : (u : ℕ) → is_user p u ≡ is_user q u
  there_alike u = rw same.users refl

  user_there : (u : ℕ) → is_user p u ≡ true → u < p.users
  user_there u e = ltb-true u p.users e

  capacities_alike : (cs : List ℕ) → ((c : ℕ) → has cs c ≡ true → p.capacity c ≡ q.capacity c) → capacity_sum p.capacity cs ≡ capacity_sum q.capacity cs
  capacities_alike cs each = sum_alike p.capacity q.capacity cs each

  view_capacities : (u : ℕ) → u < p.users → capacity_sum p.capacity (p.view u) ≡ capacity_sum q.capacity (q.view u)
  view_capacities u h = capacities_alike (p.view u) (λ c. seen_capacity u c h) ∙ ap (capacity_sum q.capacity) (same.view u h)

  needed_alike : (u : ℕ) (x : Query) → u < p.users → needed_length p u x ≡ needed_length q u x
  needed_alike u (Rows range) h = rw (view_capacities u h) refl
  needed_alike u (Total range) h = rw (view_capacities u h) refl
  needed_alike u (Shared a b range) h =
      same_cond (sees p u a && sees p u b) (sees q u a && sees q u b) _ _ 0 (rw (same.view u h) refl)
      (λ e. rw (seen_capacity u a h (and_parts (sees p u a) (sees p u b) e).0) refl)

  answering_alike : (s : State) (u : ℕ) (x : Query) → u < p.users → (k : Option CachedAnswer) → respond_query p s u x k ≡ respond_query q s u x k
  answering_alike s u x h (Some kept) = rw (same.view u h) refl
  answering_alike s u x h None = rw (same.view u h) refl

  remembered_alike : (s : State) (u : ℕ) (x : Query) → u < p.users → (k : Option CachedAnswer) → remember p s u x k ≡ remember q s u x k
  remembered_alike s u x h (Some kept) = refl
  remembered_alike s u x h None = rw (same.view u h) refl

  module _ (limit : ℕ) where
    respond_alike : (s : State) (r : Request) (lent : ℕ) → (transition p limit s r lent).response ≡ (transition q limit s r lent).response
    respond_alike s (Write u row) lent =
        same_cond (is_user p u) (is_user q u) _ _ _ (there_alike u)
        (λ e. let h = user_there u e in rw (written_capacity u h, same.writes u h) refl)
    respond_alike s (Delete u key) lent =
        same_cond (is_user p u) (is_user q u) _ _ _ (there_alike u) (λ e. rw (same.writes u (user_there u e)) refl)
    respond_alike s (Copy u c range) lent =
        same_cond (may_copy p u c) (may_copy q u c) _ _ _ (may_copy_alike p q n same u c)
        (λ e. let h = user_there u (and_parts (is_user p u) (sees p u c && flows p c (p.writes u)) e).0 in rw (written_capacity u h, same.writes u h) refl)
    respond_alike s (Ask u x) lent =
        same_cond (is_user p u) (is_user q u) _ _ _ (there_alike u)
        (λ e. let h = user_there u e in rw (needed_alike u x h, answering_alike s u x h (look_up p s u x), same.view u h) refl)

    pub response_alike : (s : State) (call : Call) → response p limit s call ≡ response q limit s call
    response_alike s call = respond_alike s call.request call.lent

    next_alike : (s : State) (r : Request) (lent : ℕ) → who r < p.users → (transition p limit s r lent).next ≡ (transition q limit s r lent).next
    next_alike s (Write u row) lent h = rw (same.writes u h) refl
    next_alike s (Delete u key) lent h = rw (same.writes u h) refl
    next_alike s (Copy u c range) lent h = rw (same.writes u h) refl
    next_alike s (Ask u x) lent h = rw (remembered_alike s u x h (look_up p s u x), same.view u h) refl

    pub step_alike : (s : State) (call : Call) → step p limit s call ≡ step q limit s call
    step_alike s call = let r = call.request in elim (cases_Bool (is_user p (who r))) [
      | inl e ↦ rw (response_alike s call, next_alike s r call.lent (user_there (who r) e)) refl
      | inr e ↦ rw (absent p limit s r call.lent e, absent q limit s r call.lent (sym (there_alike (who r)) ∙ e)) refl
    ]

    pub run_alike : (s : State) (calls : List Call) → run p limit s calls ≡ run q limit s calls
    run_alike s [] = refl
    run_alike s (call ∷ calls) = rw (step_alike s call) (run_alike (step q limit s call) calls)

    pub responses_alike : (s : State) (calls : List Call) → responses p limit s calls ≡ responses q limit s calls
    responses_alike s [] = refl
    responses_alike s (call ∷ calls) = rw (step_alike s call, response_alike s call, responses_alike (step q limit s call) calls) refl

    -- also for an unknown user
    pub told_alike : (v : ℕ) (s : State) (calls : List Call) → responses_to p limit v s calls ≡ responses_to q limit v s calls
    told_alike v s [] = refl
    told_alike v s (call ∷ calls) = rw (step_alike s call, response_alike s call, told_alike v (step q limit s call) calls) refl

  -- what is relevant to a user; views of unknown users may differ
  module _ (v : ℕ) (v_there : v < p.users) where
    pub relevant_alike : (call : Call) → relevant p v call ≡ relevant q v call
    relevant_alike call =
        let u = who call.request in
        rw (same_and (is_user p u) (is_user q u) (not (asks call.request) && sees p v (p.writes u)) (not (asks call.request) && sees q v (q.writes u))
        (there_alike u) (λ e. rw (same.view v v_there, same.writes u (user_there u e)) refl)) refl

    pub purge_alike : (calls : List Call) → purge p v calls ≡ purge q v calls
    purge_alike [] = refl
    purge_alike (call ∷ calls) = rw (relevant_alike call, purge_alike calls) refl

pub rules_alike : RulesAlike
rules_alike p q n most limit s calls same valid = responses_alike p q n most same valid limit s calls
