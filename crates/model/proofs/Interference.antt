-- The store is an instance of the unwinding theorem.
use Rattle.std.proofs.Common.{◌≡◌, ℕ, ◌<◌, Bool, true, false, not, ◌&&◌, ◌||◌, eqb, List, [], ◌∷◌, Some, None, Option, refl, inl, inr, arith}
use Rattle.std.proofs.lemmas.Bool.{cases_Bool, and_parts, eqb-true, or_parts, or_left, le-ltb, both_ways, cases_lt, ne_eqb, not-true}
use Rattle.rows.specs.declared.Row.{Row}
use Rattle.policy.specs.Rules.{Rules, Sound, sees}
use Rattle.query.specs.declared.Query.{Query}
use Rattle.request.specs.declared.Request.{Request}
use Rattle.request.specs.declared.Request.TheVariants.{Write, Delete, Copy, Query as Ask}
use Rattle.model.specs.Model as model
use Rattle.model.specs.Model.{State, Call, CachedAnswer, Response, refused, empty, who, asks, is_user, transition, response, is_accepted, step, relevant, set_rows, remember, look_up}
use Rattle.model.specs.Effects.{absence}
use Rattle.model.specs.Promises.{Noninterference, TwoTraces}
use Rattle.model.proofs.Alike.{Alike, Concerns, told_alike, step_alike}
use Rattle.model.proofs.Unwinding.{Machine, Unwinding, unwound, told, purge}

-- an unknown user is refused, in the same words in every state
pub absent : (p : Rules) (limit : ℕ) (s : State) (r : Request) (lent : ℕ) → is_user p (who r) ≡ false → (transition p limit s r lent).response ≡ refused (absence r)
absent p limit s (Write u row) lent h = rw h
absent p limit s (Delete u key) lent h = rw h
absent p limit s (Copy u c range) lent h = rw h
absent p limit s (Ask u q) lent h = rw h

either : (x y : Bool) → (x || y) ≡ true → x ≡ false → y ≡ true
either x y h e = grind arith

unseen : (x y z : Bool) → x ≡ true → y ≡ false → (x && (not y && z)) ≡ false → z ≡ false
unseen x y z h n e = grind arith

-- a compartment that a user sees is another one than one that they don't see
pub apart : (p : Rules) (v c d : ℕ) → sees p v c ≡ false → sees p v d ≡ true → eqb c d ≡ false
apart p v c d h k = ne_eqb c d (λ (e : c ≡ d). both_ways (sees p v c) h (rw e k))

module _ (p : Rules) (v : ℕ) (s t : State) (a : Alike p v s t) where
  changed_unseen : (c : ℕ) (new : List Row) → sees p v c ≡ false → Alike p v s (set_rows t c new)
  changed_unseen c new h = record {
    rows = λ d k. rw (apart p v c d h k) (a.rows d k);
    version = λ d k. rw (apart p v c d h k) (a.version d k);
    cache = a.cache;
  }

  remembered_other : (u : ℕ) (q : Query) (k : Option CachedAnswer) → eqb u v ≡ false → Alike p v s (remember p t u q k)
  remembered_other u q (Some kept) h = a
  remembered_other u q None h = record { rows = a.rows; version = a.version; cache = rw h a.cache }

  -- somebody else's request that isn't relevant leaves states alike
  next_unseen : (limit : ℕ) (r : Request) (lent : ℕ) → eqb (who r) v ≡ false → (asks r ≡ false → sees p v (p.writes (who r)) ≡ false) →
      Alike p v s (transition p limit t r lent).next
  next_unseen limit (Write u row) lent e h = changed_unseen (p.writes u) _ (h refl)
  next_unseen limit (Delete u key) lent e h = changed_unseen (p.writes u) _ (h refl)
  next_unseen limit (Copy u c range) lent e h = changed_unseen (p.writes u) _ (h refl)
  next_unseen limit (Ask u q) lent e h = remembered_other u q (look_up p t u q) e

module _ (p : Rules) (limit v : ℕ) (sound : Sound p) where
  -- the store as a machine that the user v observes
  abbrev pub store : Machine State Call Response
  store = record {
    step = step p limit;
    output = response p limit;
    observes = λ s call. eqb (who call.request) v;
    relevant = λ s call. relevant p v call;
  }

  -- an unknown user sees nothing
  abbrev pub Related : State → State → Type 0
  Related s t = v < p.users → Alike p v s t

  own_concerns : (r : Request) → v < p.users → who r ≡ v → Concerns p v r
  own_concerns r l e = record { query = λ h. e; change = λ h. rw e (sound v l) }

  relevant_concerns : (call : Call) → v < p.users → relevant p v call ≡ true → Concerns p v call.request
  relevant_concerns call l k = let r = call.request in elim (cases_Bool (eqb (who r) v)) [
    | inl o ↦ own_concerns r l (eqb-true (who r) v o)
    | inr o ↦
        let b = not (asks r) && sees p v (p.writes (who r)) in
        let x = (and_parts (is_user p (who r)) b (either (eqb (who r) v) (is_user p (who r) && b) k o)).1 in
        let y = and_parts (not (asks r)) (sees p v (p.writes (who r))) x in
        record { query = λ h. absurd (both_ways (asks r) (not-true (asks r) y.0) h); change = λ h. y.1 }
  ]

  same_output : (s t : State) (call : Call) → Related s t → eqb (who call.request) v ≡ true → response p limit s call ≡ response p limit t call
  same_output s t call a o =
      let r = call.request in
      let e = eqb-true (who r) v o in
      elim (cases_lt v p.users) [
        | inl l ↦ told_alike p limit v l s t (a l) r call.lent (own_concerns r l e)
        | inr l ↦
            let h : is_user p (who r) ≡ false = rw e (le-ltb v p.users l) in
            rw (absent p limit s r call.lent h, absent p limit t r call.lent h)
      ]

  taken : (s t : State) (call : Call) → Related s t → relevant p v call ≡ true → Related (step p limit s call) (step p limit t call)
  taken s t call a k l = step_alike p limit v l s t (a l) call (relevant_concerns call l k)

  left_out : (s t : State) (call : Call) → Related s t → relevant p v call ≡ false → Related s (step p limit t call)
  left_out s t call a k l =
      let r = call.request in
      let b = not (asks r) && sees p v (p.writes (who r)) in
      let o = or_parts (eqb (who r) v) (is_user p (who r) && b) k in
      elim (cases_Bool (is_user p (who r))) [
        | inr h ↦ rw (absent p limit t r call.lent h) (a l)
        | inl h ↦ elim (cases_Bool (is_accepted (response p limit t call))) [
          | inr g ↦ rw g (a l)
          | inl g ↦ rw g (next_unseen p v s t (a l) limit r call.lent o.0 (λ (n : asks r ≡ false). unseen (is_user p (who r)) (asks r) (sees p v (p.writes (who r))) h n o.1))
        ]
      ]

  pub unwinding : Unwinding store Related
  unwinding = record {
    observed_relevant = λ s call o. or_left _ _ o;
    same_observed = λ s t call a. refl;
    same_output = same_output;
    left_out = left_out;
    taken = taken;
  }

  -- what is relevant does not depend on the state
  purge_store : (s : State) (calls : List Call) → model.purge p v calls ≡ purge store s calls
  purge_store s [] = refl
  purge_store s (call ∷ calls) = let i = purge_store (step p limit s call) calls in cc

  told_store : (s : State) (calls : List Call) → model.responses_to p limit v s calls ≡ told store s calls
  told_store s [] = refl
  told_store s (call ∷ calls) = let i = told_store (step p limit s call) calls in cc

  purged : (s : State) (calls : List Call) → model.responses_to p limit v s (model.purge p v calls) ≡ model.responses_to p limit v s calls
  purged s calls = let u = unwound store Related unwinding s s calls (λ l. record { rows = λ c h. refl; version = λ c h. refl; cache = refl }) in
      cc (purge_store s calls, told_store s (model.purge p v calls), told_store s calls)

pub noninterference : Noninterference
noninterference p limit v calls sound = purged p limit v sound empty calls

pub two_traces : TwoTraces
two_traces p limit v calls others sound e = let f = noninterference p limit v calls sound in let g = noninterference p limit v others sound in cc
