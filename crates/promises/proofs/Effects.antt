-- The theorems about single requests, from the model to memory.
use Rattle.std.proofs.Common.{◌≡◌, ℕ, suc, ◌<◌, Bool, true, false, cond, List, length, Ok, Err, Option, sym, refl, ap, ◌∙◌, inl, inr, arith}
use Rattle.compartment.specs.Parts.{limit}
use Rattle.model.specs.Effects as model
use Rattle.model.specs.Effects.{absence}
use Rattle.model.specs.Model.{State, Response, done, refused, answered, lend, who, is_user, may_copy, response, step}
use Rattle.model.proofs.Answering as answers
use Rattle.model.proofs.Changes as changes
use Rattle.model.proofs.Interference.{absent}
use Rattle.model.proofs.Orderly.{ordered}
use Rattle.policy.specs.Access.{rules_of}
use Rattle.policy.specs.declared.Policy.{Policy}
use Rattle.base.specs.declared.refusal.Refusal.{Refusal}
use Rattle.base.specs.declared.refusal.Refusal.TheVariants.{ShortRow, NoFlow}
use Rattle.policy.proofs.Proved.{written_there}
use Rattle.request.specs.declared.Request.{Request}
use Rattle.request.specs.declared.Request.TheVariants.{Write, Delete, Copy, Query as Ask}
use Rattle.query.specs.Answers.{not_seen as none}
use Rattle.query.specs.declared.Query.TheVariants.{Shared}
use Rattle.rows.specs.Rows.{amount_of, has_key, rows_in}
use Rattle.std.proofs.lemmas.Bool.{cases_Bool, cases_lt, ltb-true}
use Rattle.store.specs.Served.{serve_result, reply_of}
use Rattle.store.specs.Simulation.{Holds, Serves, FitsTypes}
use Rattle.store.specs.declared.reply.Reply.TheVariants.{Done}
use Rattle.store.proofs.Refused.{refusal_leaves}
use Rattle.store.proofs.Replaced.{source_there}
use Rattle.store.proofs.Serving.{serve_follows, row_stays}
use Rattle.promises.specs.Contents.{Reachable}
use Rattle.promises.specs.Effects.{Order, WriteTold, DeleteTold, CopyTold, OneChange, WriteEffect, DeleteEffect, CopyEffect, ChangesLeaveRow, OnlyOwn, OnlyWriters, Again, AbsentUsers, NotSeen, ShortRows}
use Rattle.promises.proofs.Contents.{rows_held, version_held, no_rows, no_version, rows_stay, version_stays, cache_stays, calls, state, reached}
use Rattle.promises.proofs.Proved.{is_answered}

pub order : Order
order p memory c r = elim (cases_lt c p.compartments) [
  | inl l ↦
      rw (rows_held p (state p memory r) memory (reached p memory r) c l, version_held p (state p memory r) memory (reached p memory r) c l)
      (ordered (rules_of p) limit (calls p memory r) c)
  | inr l ↦ rw (no_rows p memory c l, no_version p memory c l) (record { rising = tt; few = omega arith; below = λ z. z })
]

-- one request on memory as calls leave it
served : (p : Policy) (memory : List ℕ) (r : Reachable p memory) (request : Request) (lent : List ℕ) → FitsTypes request →
    Serves p (state p memory r) memory lent request
served p memory r request lent b = serve_follows p (state p memory r) memory lent request (reached p memory r) b

module _ (p : Policy) (u : ℕ) (e : is_user (rules_of p) u ≡ true) where
  writes_there : (rules_of p).writes u < p.compartments
  writes_there = written_there p u (ltb-true u p.users e)

-- a change that may be refused in two ways, as its value
value_of_change : (fits lasts : Bool) (why last : Refusal) →
    reply_of (cond fits (cond lasts done (refused last)) (refused why)) ≡ cond fits (cond lasts (Ok Done) (Err last)) (Err why)
value_of_change true true why last = refl
value_of_change true false why last = refl
value_of_change false lasts why last = refl

pub write_told : WriteTold
write_told p memory u row lent r b =
    let s = state p memory r in let h = reached p memory r in let c = (rules_of p).writes u in
    (served p memory r (Write u row) lent b).told
    ∙ (ap reply_of (changes.write_told (rules_of p) limit (calls p memory r) u row (length lent))
    ∙ elim (cases_Bool (is_user (rules_of p) u)) [
      | inl e ↦
          let l = writes_there p u e in
          rw (e, rows_held p s memory h c l, version_held p s memory h c l) (value_of_change (model.room_for_row (rules_of p) s c row) _ _ _)
      | inr e ↦ rw e refl
    ])

pub delete_told : DeleteTold
delete_told p memory u key lent r =
    let s = state p memory r in let h = reached p memory r in let c = (rules_of p).writes u in
    (served p memory r (Delete u key) lent tt).told
    ∙ elim (cases_Bool (is_user (rules_of p) u)) [
      | inl e ↦
          let l = writes_there p u e in
          rw (e, rows_held p s memory h c l, version_held p s memory h c l) (value_of_change (has_key key (s.rows c)) _ _ _)
      | inr e ↦ rw e refl
    ]

pub copy_told : CopyTold
copy_told p memory u source range lent r =
    let s = state p memory r in let h = reached p memory r in let c = (rules_of p).writes u in
    (served p memory r (Copy u source range) lent tt).told
    ∙ (ap reply_of (changes.copy_told (rules_of p) limit (calls p memory r) u source range (length lent))
    ∙ elim (cases_Bool (may_copy (rules_of p) u source)) [
      | inl e ↦
          let m = source_there p u source e in let l = writes_there p u m.0 in
          rw (e, rows_held p s memory h c l, rows_held p s memory h source m.1, version_held p s memory h c l)
          (value_of_change (model.room_for_rows (rules_of p) s c (rows_in range (s.rows source))) _ _ _)
      | inr e ↦ rw e refl
    ])

-- a value is done only where the response is
done_by : (r : Response) → reply_of r ≡ Ok Done → r ≡ done
done_by done e = refl
done_by (refused why) e = absurd cc
done_by (answered a n) e = absurd cc

-- whoever changed something is there
done_there : (p : Policy) (s : State) (r : Request) (lent : ℕ) → response (rules_of p) limit s (lend r lent) ≡ done → is_user (rules_of p) (who r) ≡ true
done_there p s r lent d = elim (cases_Bool (is_user (rules_of p) (who r))) [
  | inl e ↦ e
  | inr e ↦ let a = absent (rules_of p) limit s r lent e in absurd cc
]

done_passed : (b : Bool) (x : Response) (why : Refusal) → cond b x (refused why) ≡ done → b ≡ true
done_passed true x why d = refl
done_passed false x why d = absurd cc

-- what the model says of one change, said of memory
module _ (p : Policy) (s t : State) (memory after : List ℕ) (h : Holds p s memory) (k : Holds p t after) where
  once : (c : ℕ) → c < p.compartments → (amounts : ℕ → Option ℕ) → model.OneChange s t c → ((k : ℕ) → amount_of k (t.rows c) ≡ amounts k) →
      OneChange p c amounts memory after
  once c l amounts m new = record {
    amounts_here = λ q. rw (rows_held p t after k c l) (new q);
    version_here = version_held p t after k c l ∙ (m.version_here ∙ ap suc (sym (version_held p s memory h c l)));
    rows_elsewhere = λ d e. rows_stay p s t memory after h k d (m.rows_elsewhere d e);
    version_elsewhere = λ d e. version_stays p s t memory after h k d (m.version_elsewhere d e);
    caches = λ u there. cache_stays p s t memory after h k u there (m.caches u);
  }

  own : (r : Request) → model.OnlyOwn (rules_of p) r s t → OnlyOwn p r memory after
  own r m = record {
    rows = λ c e. rows_stay p s t memory after h k c (m.rows c e);
    version = λ c e. version_stays p s t memory after h k c (m.version c e);
    cache = λ u l e. cache_stays p s t memory after h k u l (m.cache u e);
    query_rows = λ a c. rows_stay p s t memory after h k c (m.query_rows a c);
    query_version = λ a c. version_stays p s t memory after h k c (m.query_version a c);
    change_cache = λ a u l. cache_stays p s t memory after h k u l (m.change_cache a u);
  }

pub write_effect : WriteEffect
write_effect p memory u row lent r b d =
    let s = state p memory r in let h = reached p memory r in let c = (rules_of p).writes u in
    let call = lend (Write u row) (length lent) in
    let f = served p memory r (Write u row) lent b in
    let told = done_by (response (rules_of p) limit s call) (sym f.told ∙ d) in
    let l = writes_there p u (done_there p s (Write u row) (length lent) told) in
    let m = changes.write_effect (rules_of p) limit (calls p memory r) u row (length lent) told in
    let t = step (rules_of p) limit s call in
    let after = (serve_result p memory lent (Write u row)).memory in
    once p s t memory after h f.holds c l _ m.0 (λ k. rw (rows_held p s memory h c l) (m.1 k))

pub delete_effect : DeleteEffect
delete_effect p memory u key lent r d =
    let s = state p memory r in let h = reached p memory r in let c = (rules_of p).writes u in
    let call = lend (Delete u key) (length lent) in
    let f = served p memory r (Delete u key) lent tt in
    let told = done_by (response (rules_of p) limit s call) (sym f.told ∙ d) in
    let l = writes_there p u (done_there p s (Delete u key) (length lent) told) in
    let m = changes.delete_effect (rules_of p) limit (calls p memory r) u key (length lent) told in
    let t = step (rules_of p) limit s call in
    let after = (serve_result p memory lent (Delete u key)).memory in
    once p s t memory after h f.holds c l _ m.0 (λ k. rw (rows_held p s memory h c l) (m.1 k))

pub copy_effect : CopyEffect
copy_effect p memory u source range lent r d =
    let s = state p memory r in let h = reached p memory r in let c = (rules_of p).writes u in
    let call = lend (Copy u source range) (length lent) in
    let f = served p memory r (Copy u source range) lent tt in
    let told = done_by (response (rules_of p) limit s call) (sym f.told ∙ d) in
    let may = source_there p u source (done_passed (may_copy (rules_of p) u source) _ (NoFlow source) told) in
    let l = writes_there p u may.0 in
    let m = changes.copy_effect (rules_of p) limit (calls p memory r) u source range (length lent) told in
    let t = step (rules_of p) limit s call in
    let after = (serve_result p memory lent (Copy u source range)).memory in
    once p s t memory after h f.holds c l _ m.0 (λ k. rw (rows_held p s memory h c l, rows_held p s memory h source may.1) (m.1 k))

pub only_writers : OnlyWriters
only_writers p memory request lent r b =
    let s = state p memory r in let call = lend request (length lent) in
    own p s (step (rules_of p) limit s call) memory (serve_result p memory lent request).memory (reached p memory r) (served p memory r request lent b).holds request
    (changes.only_writers (rules_of p) limit s call)

pub again : Again
again p memory u query lent more a n r enough e =
    let s = state p memory r in let call = lend (Ask u query) (length lent) in
    let f = served p memory r (Ask u query) lent tt in
    is_answered p (step (rules_of p) limit s call) (serve_result p memory lent (Ask u query)).memory more u query a 0 f.holds
    (answers.again (rules_of p) limit (calls p memory r) u query (length lent) (length more) a n enough (sym f.reading ∙ e))

pub changes_leave_row : ChangesLeaveRow
changes_leave_row p memory r lent e = row_stays p memory r lent e

pub absent_users : AbsentUsers
absent_users p memory request lent r b e =
    refusal_leaves p memory lent request (absence request)
    ((served p memory r request lent b).told ∙ ap reply_of (absent (rules_of p) limit (state p memory r) request (length lent) e))

pub not_seen : NotSeen
not_seen p memory u a b range lent r there unseen =
    is_answered p (state p memory r) memory lent u (Shared a b range) none 0 (reached p memory r)
    (answers.not_seen_told (rules_of p) limit (calls p memory r) u a b range (length lent) there unseen)

pub short_rows : ShortRows
short_rows p memory u query lent r there short =
    refusal_leaves p memory lent (Ask u query) (ShortRow (length lent))
    ((served p memory r (Ask u query) lent tt).told
    ∙ ap reply_of (answers.short_rows (rules_of p) limit (state p memory r) u query (length lent) there short).0)
