-- States that are alike to a user: in what the user sees and in the user's cache. Each request keeps them alike.
use Rattle.std.proofs.Common.{◌≡◌, ℕ, ◌<◌, Bool, true, false, cond, ◌&&◌, List, Some, None, Option, refl, inl, inr}
use Rattle.std.proofs.lemmas.Bool.{cases_Bool, and_parts, both_ways}
use Rattle.rows.specs.declared.Row.{Row}
use Rattle.policy.specs.Rules.{Rules, sees, flows}
use Rattle.query.specs.declared.Query.{Query}
use Rattle.request.specs.declared.Request.{Request}
use Rattle.request.specs.declared.Request.TheVariants.{Write, Delete, Copy, Query as Ask}
use Rattle.model.specs.Model.{State, Call, CachedAnswer, Response, who, asks, is_user, transition, response, is_accepted, step, set_rows, remember, respond_query, look_up, versions_seen, may_copy}
use Rattle.policy.proofs.Proved.{flows_both_ways}
use Rattle.query.proofs.Seen.{same_map, same_answer, same_cost}

pub record Alike (p : Rules) (v : ℕ) (s t : State) : Type 0 where
  pub rows : (c : ℕ) → sees p v c ≡ true → s.rows c ≡ t.rows c
  pub version : (c : ℕ) → sees p v c ≡ true → s.version c ≡ t.version c
  pub cache : s.cache v ≡ t.cache v

-- a query of the user's own, or a change of what they see
pub record Concerns (p : Rules) (v : ℕ) (r : Request) : Type 0 where
  pub query : asks r ≡ true → who r ≡ v
  pub change : asks r ≡ false → sees p v (p.writes (who r)) ≡ true

-- a test that was passed on the way to acceptance
pub passed : (b : Bool) (x y : Response) → is_accepted (cond b x y) ≡ true → is_accepted y ≡ false → b ≡ true
passed true x y h e = refl
passed false x y h e = absurd (both_ways (is_accepted y) e h)

module _ (p : Rules) (limit v : ℕ) (v_there : v < p.users) (s t : State) (a : Alike p v s t) where
  -- whoever sees where rows may flow to sees where they come from
  source_seen : (u c : ℕ) → sees p v (p.writes u) ≡ true → may_copy p u c ≡ true → sees p v c ≡ true
  source_seen u c h e =
      let f = (and_parts (is_user p u) (sees p u c && flows p c (p.writes u)) e).1 in
      let g = (and_parts (sees p u c) (flows p c (p.writes u)) f).1 in
      (flows_both_ways p c (p.writes u)).0 g v v_there h

  same_versions_seen : versions_seen p s v ≡ versions_seen p t v
  same_versions_seen = same_map (p.view v) s.version t.version a.version

  same_look_up : (q : Query) → look_up p s v q ≡ look_up p t v q
  same_look_up q = rw (same_versions_seen, a.cache)

  same_answering : (q : Query) (k : Option CachedAnswer) → respond_query p s v q k ≡ respond_query p t v q k
  same_answering q (Some kept) = rw (same_answer (p.view v) s.rows t.rows q a.rows)
  same_answering q None = rw (same_answer (p.view v) s.rows t.rows q a.rows, same_cost (p.view v) s.rows t.rows q a.rows)

  -- what concerns the user is told alike
  pub told_alike : (r : Request) (lent : ℕ) → Concerns p v r → (transition p limit s r lent).response ≡ (transition p limit t r lent).response
  told_alike (Write u row) lent h = let c = h.change refl in rw (a.rows (p.writes u) c, a.version (p.writes u) c)
  told_alike (Delete u key) lent h = let c = h.change refl in rw (a.rows (p.writes u) c, a.version (p.writes u) c)
  told_alike (Copy u source range) lent h = let c = h.change refl in elim (cases_Bool (may_copy p u source)) [
    | inl e ↦ rw (e, a.rows (p.writes u) c, a.rows source (source_seen u source c e), a.version (p.writes u) c)
    | inr e ↦ rw e
  ]
  told_alike (Ask u q) lent h = rw (h.query refl, same_look_up q, same_answering q (look_up p t v q))

  changed_alike : (c : ℕ) (new other : List Row) → sees p v c ≡ true → new ≡ other → Alike p v (set_rows s c new) (set_rows t c other)
  changed_alike c new other h e = record {
    rows = λ d k. let f = a.rows d k in cc;
    version = λ d k. let f = a.version d k in let g = a.version c h in cc;
    cache = a.cache;
  }

  remembered_alike : (q : Query) (k : Option CachedAnswer) → Alike p v (remember p s v q k) (remember p t v q k)
  remembered_alike q (Some kept) = a
  remembered_alike q None = record {
    rows = a.rows;
    version = a.version;
    cache = rw (a.cache, same_versions_seen, same_answer (p.view v) s.rows t.rows q a.rows);
  }

  -- and done alike
  next_alike : (r : Request) (lent : ℕ) → Concerns p v r → is_accepted (transition p limit t r lent).response ≡ true →
      Alike p v (transition p limit s r lent).next (transition p limit t r lent).next
  next_alike (Write u row) lent h k = let c = h.change refl in changed_alike (p.writes u) _ _ c (rw (a.rows (p.writes u) c))
  next_alike (Delete u key) lent h k = let c = h.change refl in changed_alike (p.writes u) _ _ c (rw (a.rows (p.writes u) c))
  next_alike (Copy u source range) lent h k =
      let c = h.change refl in
      let m = passed (may_copy p u source) _ _ k refl in
      changed_alike (p.writes u) _ _ c (rw (a.rows (p.writes u) c, a.rows source (source_seen u source c m)))
  next_alike (Ask u q) lent h k = rw (h.query refl, same_look_up q) (remembered_alike q (look_up p t v q))

  pub step_alike : (call : Call) → Concerns p v call.request → Alike p v (step p limit s call) (step p limit t call)
  step_alike call h =
      let e = told_alike call.request call.lent h in
      elim (cases_Bool (is_accepted (response p limit t call))) [
        | inl k ↦ rw (e, k) (next_alike call.request call.lent h k)
        | inr k ↦ rw (e, k) a
      ]
