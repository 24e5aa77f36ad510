-- What a request changes, and that it changes nothing else.
use Rattle.std.proofs.Common.{◌≡◌, ℕ, suc, ◌+◌, ◌≤◌, Bool, true, false, cond, ◌||◌, ltb, leb, List, length, Some, None, Option, sym, refl, ◌∙◌, inl, inr, arith}
use Rattle.std.proofs.lemmas.Bool.Decides.{nat_tests}
use Rattle.std.proofs.lemmas.Bool.{cases_Bool, cases_eq, eq-eqb, ne_eqb, both_ways}
use Rattle.rows.specs.declared.Row.{Row}
use Rattle.rows.specs.Rows.{has_key, put, put_all, rows_in, also_in}
use Rattle.rows.proofs.Orders.{length_put, up_rows_in}
use Rattle.rows.proofs.Keys.{amount_of_put, amount_of_without, length_put_all}
use Rattle.rows.proofs.Copied.{amount_of_copied}
use Rattle.policy.specs.Rules.{Rules}
use Rattle.query.specs.declared.Query.{Query}
use Rattle.request.specs.declared.Request.{Request}
use Rattle.request.specs.declared.Request.TheVariants.{Write, Delete, Copy, Query as Ask}
use Rattle.model.specs.Model.{State, Call, CachedAnswer, empty, who, asks, look_up, transition, response, is_accepted, set_rows, remember, step, run}
use Rattle.model.specs.Effects.{WriteTold, DeleteTold, CopyTold, OneChange, WriteEffect, DeleteEffect, CopyEffect, RefusalsChangeNothing, OnlyOwn, OnlyWriters, AbsentUsers, plain, EitherOrder}
use Rattle.model.proofs.Orderly.{ordered}
use Rattle.model.proofs.Interference.{absent}

-- there is room for a row that replaces one, and else for one more
room : (n m cap : ℕ) (b : Bool) → n ≤ cap → m ≡ cond b n (suc n) → leb m cap ≡ (b || ltb n cap)
room n m cap b l e = grind (arith, nat_tests)

pub write_told : WriteTold
write_told p limit calls u row lent =
    let c = p.writes u in let s = run p limit empty calls in let o = ordered p limit calls c in
    rw (room (length (s.rows c)) (length (put row (s.rows c))) (p.capacity c) (has_key row.key (s.rows c)) o.few (length_put row (s.rows c) o.rising))

pub delete_told : DeleteTold
delete_told p limit calls u key lent = refl

fits : (n m a b cap : ℕ) → n + a ≡ m + b → leb n cap ≡ leb (m + b) (cap + a)
fits n m a b cap e = grind (arith, nat_tests)

pub copy_told : CopyTold
copy_told p limit calls u source range lent =
    let c = p.writes u in let s = run p limit empty calls in
    let from = rows_in range (s.rows source) in
    let l = length_put_all 0 from (s.rows c) (up_rows_in 0 range (s.rows source) (ordered p limit calls source).rising) (ordered p limit calls c).rising in
    rw (fits (length (put_all from (s.rows c))) (length (s.rows c)) (length (also_in from (s.rows c))) (length from) (p.capacity c) l)

pub changed_once : (s : State) (c : ℕ) (new : List Row) → OneChange s (set_rows s c new) c
changed_once s c new = record {
  version_here = rw (eq-eqb c c refl);
  rows_elsewhere = λ d e. rw (ne_eqb c d e);
  version_elsewhere = λ d e. rw (ne_eqb c d e);
  caches = λ u. refl;
}

pub write_effect : WriteEffect
write_effect p limit calls u row lent h =
    let c = p.writes u in let s = run p limit empty calls in
    rw h (changed_once s c _, λ k. rw (eq-eqb c c refl) (amount_of_put k row (s.rows c)))

pub delete_effect : DeleteEffect
delete_effect p limit calls u key lent h =
    let c = p.writes u in let s = run p limit empty calls in
    rw h (changed_once s c _, λ k. rw (eq-eqb c c refl) (amount_of_without k key (s.rows c) (ordered p limit calls c).rising))

pub copy_effect : CopyEffect
copy_effect p limit calls u source range lent h =
    let c = p.writes u in let s = run p limit empty calls in
    rw h (changed_once s c _, λ k. rw (eq-eqb c c refl) (amount_of_copied k range (s.rows source) (s.rows c) (ordered p limit calls source).rising))

pub refusals_change_nothing : RefusalsChangeNothing
refusals_change_nothing p limit s call why h = rw h

-- one clause for each request
changed_own : (p : Rules) (r : Request) (s : State) (new : List Row) → asks r ≡ false → OnlyOwn p r s (set_rows s (p.writes (who r)) new)
changed_own p r s new n = record {
  rows = λ c e. rw (ne_eqb (p.writes (who r)) c e);
  version = λ c e. rw (ne_eqb (p.writes (who r)) c e);
  cache = λ u e. refl;
  query_rows = λ a. absurd (both_ways (asks r) n a);
  query_version = λ a. absurd (both_ways (asks r) n a);
  change_cache = λ a u. refl;
}

unchanged_own : (p : Rules) (r : Request) (s : State) → OnlyOwn p r s s
unchanged_own p r s = record {
  rows = λ c e. refl;
  version = λ c e. refl;
  cache = λ u e. refl;
  query_rows = λ a c. refl;
  query_version = λ a c. refl;
  change_cache = λ a u. refl;
}

remembered_own : (p : Rules) (s : State) (u : ℕ) (q : Query) (k : Option CachedAnswer) → OnlyOwn p (Ask u q) s (remember p s u q k)
remembered_own p s u q (Some kept) = unchanged_own p (Ask u q) s
remembered_own p s u q None = record {
  rows = λ c e. refl;
  version = λ c e. refl;
  cache = λ v e. rw (ne_eqb u v e);
  query_rows = λ a c. refl;
  query_version = λ a c. refl;
  change_cache = λ a. absurd cc;
}

next_own : (p : Rules) (limit : ℕ) (s : State) (r : Request) (lent : ℕ) → OnlyOwn p r s (transition p limit s r lent).next
next_own p limit s (Write u row) lent = changed_own p (Write u row) s _ refl
next_own p limit s (Delete u key) lent = changed_own p (Delete u key) s _ refl
next_own p limit s (Copy u c range) lent = changed_own p (Copy u c range) s _ refl
next_own p limit s (Ask u q) lent = remembered_own p s u q (look_up p s u q)

pub only_writers : OnlyWriters
only_writers p limit s call = elim (cases_Bool (is_accepted (response p limit s call))) [
  | inl e ↦ rw e (next_own p limit s call.request call.lent)
  | inr e ↦ rw e (unchanged_own p call.request s)
]

pub absent_users : AbsentUsers
absent_users p limit s call h = let e = absent p limit s call.request call.lent h in (e, rw e)

-- states that agree on one compartment
record Agree (s t : State) (c : ℕ) : Type 0 where
  rows : s.rows c ≡ t.rows c
  version : s.version c ≡ t.version c

-- a write or a delete depends on the compartment that it writes, and on nothing else
plain_told : (p : Rules) (limit : ℕ) (s t : State) (r : Request) (lent : ℕ) → plain r ≡ true → Agree s t (p.writes (who r)) → (transition p limit s r lent).response ≡ (transition p limit t r lent).response
plain_told p limit s t (Write u row) lent h a = rw (a.rows, a.version)
plain_told p limit s t (Delete u key) lent h a = rw (a.rows, a.version)
plain_told p limit s t (Copy u c range) lent h a = absurd cc
plain_told p limit s t (Ask u q) lent h a = absurd cc

plain_next : (p : Rules) (limit : ℕ) (s t : State) (r : Request) (lent : ℕ) → plain r ≡ true → Agree s t (p.writes (who r)) →
    Agree (transition p limit s r lent).next (transition p limit t r lent).next (p.writes (who r))
plain_next p limit s t (Write u row) lent h a = record { rows = rw a.rows; version = rw a.version }
plain_next p limit s t (Delete u key) lent h a = record { rows = rw a.rows; version = rw a.version }
plain_next p limit s t (Copy u c range) lent h a = absurd cc
plain_next p limit s t (Ask u q) lent h a = absurd cc

plain_step : (p : Rules) (limit : ℕ) (s t : State) (call : Call) → plain call.request ≡ true → Agree s t (p.writes (who call.request)) →
    Agree (step p limit s call) (step p limit t call) (p.writes (who call.request))
plain_step p limit s t call h a =
    let e = plain_told p limit s t call.request call.lent h a in
    elim (cases_Bool (is_accepted (response p limit t call))) [
      | inl k ↦ rw (e, k) (plain_next p limit s t call.request call.lent h a)
      | inr k ↦ rw (e, k) a
    ]

plain_asks : (r : Request) → plain r ≡ true → asks r ≡ false
plain_asks (Write u row) h = refl
plain_asks (Delete u key) h = refl
plain_asks (Copy u c range) h = refl
plain_asks (Ask u q) h = absurd cc

then : {s t u : State} {c : ℕ} → Agree s t c → Agree t u c → Agree s u c
then a b = record { rows = a.rows ∙ b.rows; version = a.version ∙ b.version }

back : {s t : State} {c : ℕ} → Agree s t c → Agree t s c
back a = record { rows = sym a.rows; version = sym a.version }

elsewhere : (p : Rules) (limit : ℕ) (s : State) (x : Call) (c : ℕ) → (p.writes (who x.request) ≡ c → ⊥) → Agree (step p limit s x) s c
elsewhere p limit s x c e = let o = only_writers p limit s x in record { rows = o.rows c e; version = o.version c e }

module _ (p : Rules) (limit : ℕ) (s : State) (x y : Call) (e : p.writes (who y.request) ≡ p.writes (who x.request) → ⊥) where
  -- what x does where it writes does not depend on y
  beside : plain x.request ≡ true → response p limit (step p limit s y) x ≡ response p limit s x
  beside h = plain_told p limit (step p limit s y) s x.request x.lent h (elsewhere p limit s y (p.writes (who x.request)) e)

  where_written : plain x.request ≡ true → Agree (step p limit (step p limit s x) y) (step p limit (step p limit s y) x) (p.writes (who x.request))
  where_written h =
      let c = p.writes (who x.request) in
      let own = plain_step p limit s (step p limit s y) x h (back (elsewhere p limit s y c e)) in
      then (elsewhere p limit (step p limit s x) y c e) own

module _ (p : Rules) (limit : ℕ) (s : State) (x y : Call) (hx : plain x.request ≡ true) (hy : plain y.request ≡ true)
    (e : p.writes (who x.request) ≡ p.writes (who y.request) → ⊥) where
  commute : (c : ℕ) → Agree (step p limit (step p limit s x) y) (step p limit (step p limit s y) x) c
  commute c = elim (cases_eq (p.writes (who x.request)) c) [
    | inl i ↦ rw i at (where_written p limit s x y (λ (k : p.writes (who y.request) ≡ p.writes (who x.request)). e (sym k)) hx)
    | inr i ↦ elim (cases_eq (p.writes (who y.request)) c) [
      | inl j ↦ rw j at (back (where_written p limit s y x e hy))
      | inr j ↦ then
          (then (elsewhere p limit (step p limit s x) y c j) (elsewhere p limit s x c i))
          (back (then (elsewhere p limit (step p limit s y) x c i) (elsewhere p limit s y c j)))
    ]
  ]

  same_caches : (u : ℕ) → (step p limit (step p limit s x) y).cache u ≡ (step p limit (step p limit s y) x).cache u
  same_caches u =
      let nx = plain_asks x.request hx in let ny = plain_asks y.request hy in
      let a = (only_writers p limit s x).change_cache nx u in
      let b = (only_writers p limit (step p limit s x) y).change_cache ny u in
      let c = (only_writers p limit s y).change_cache ny u in
      let d = (only_writers p limit (step p limit s y) x).change_cache nx u in
      b ∙ a ∙ sym c ∙ sym d

pub either_order : EitherOrder
either_order p limit s x y hx hy e = (
  record { rows = λ c. (commute p limit s x y hx hy e c).rows; version = λ c. (commute p limit s x y hx hy e c).version; cache = same_caches p limit s x y hx hy e },
  beside p limit s y x e hy,
  beside p limit s x y (λ (k : p.writes (who y.request) ≡ p.writes (who x.request)). e (sym k)) hx,
)
