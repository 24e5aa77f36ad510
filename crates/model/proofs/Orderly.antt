-- What holds of an empty store, and is kept by every call: order, and bounds.
use Rattle.std.proofs.Common.{◌≡◌, ℕ, suc, ◌<◌, ◌≤◌, true, ◌&&◌, ltb, leb, List, [], ◌∷◌, length, Some, None, Option, refl, inl, inr, arith, length-take}
use Rattle.std.specs.List.{AllByRecursion}
use Rattle.std.proofs.lemmas.List.{length-map}
use Rattle.std.proofs.ByRecursion.{All-take, All-map}
use Rattle.std.proofs.lemmas.Bool.{cases_Bool, cases_eq, eq-eqb, ne_eqb, leb-true, ltb-true}
use Rattle.rows.specs.declared.Row.{Row}
use Rattle.rows.specs.Rows.{SortedByKey, without, has_key, rows_in}
use Rattle.rows.proofs.Orders.{up_put, up_without, rising_put_all, length_without}
use Rattle.policy.specs.Rules.{Rules, sees}
use Rattle.query.specs.declared.Query.{Query}
use Rattle.query.specs.declared.Query.TheVariants.{Rows, Total, Shared}
use Rattle.query.specs.Answers.{answer}
use Rattle.request.specs.declared.Request.{Request}
use Rattle.request.specs.declared.Request.TheVariants.{Write, Delete, Copy, Query as Ask}
use Rattle.model.specs.Model.{State, Call, CachedAnswer, empty, is_user, respond_change, respond_fill, may_copy, look_up, keep, transition, response, is_accepted, set_rows, entry, remember, step, run}
use Rattle.model.specs.Order.{InOrder, Order, OfKind, WellKept, Caches}
use Rattle.model.proofs.Alike.{passed}

-- a state of which both hold
pub record Orderly (p : Rules) (limit : ℕ) (s : State) : Type 0 where
  pub compartments : (c : ℕ) → InOrder (p.capacity c) limit (s.rows c) (s.version c)
  pub caches : (u : ℕ) → (length (s.cache u) ≤ 8) × AllByRecursion (WellKept p limit u) (s.cache u)

all_of : {A : Type 0} (P : A → Type 0) → ((a : A) → P a) → (xs : List A) → AllByRecursion P xs
all_of P f [] = tt
all_of P f (x ∷ xs) = (f x, all_of P f xs)

-- what is kept of an answer is of the query's kind
keep_kind : (p : Rules) (s : State) (u : ℕ) (q : Query) → OfKind p u q (keep (answer (p.view u) s.rows q))
keep_kind p s u (Rows range) = refl
keep_kind p s u (Total range) = (_, _, refl)
keep_kind p s u (Shared a b range) = elim (cases_Bool (sees p u a && sees p u b)) [ inl e ↦ rw e | inr e ↦ rw e ]

module _ (p : Rules) (limit : ℕ) (s : State) (o : Orderly p limit s) where
  changed_orderly : (c : ℕ) (new : List Row) → SortedByKey new → length new ≤ p.capacity c → is_accepted (respond_change limit s c) ≡ true → Orderly p limit (set_rows s c new)
  changed_orderly c new r l h =
      let v = ltb-true (suc (s.version c)) limit (passed (ltb (suc (s.version c)) limit) _ _ h refl) in
      record {
        compartments = λ d. elim (cases_eq c d) [
          | inl e ↦ rw (eq-eqb c d e) (record { rising = r; few = rw e at l; below = λ z. v })
          | inr e ↦ rw (ne_eqb c d e) (o.compartments d)
        ];
        caches = o.caches;
      }

  -- new rows that came in are few enough, and the version could rise
  filled_orderly : (c : ℕ) (new : List Row) → SortedByKey new → is_accepted (respond_fill p limit s c new) ≡ true → Orderly p limit (set_rows s c new)
  filled_orderly c new r h =
      let t = passed (leb (length new) (p.capacity c)) _ _ h refl in
      changed_orderly c new r (leb-true (length new) (p.capacity c) t) (rw t at h)

  shorter : (k c : ℕ) → length (without k (s.rows c)) ≤ p.capacity c
  shorter k c = let e = length_without k (s.rows c) in let l = (o.compartments c).few in elim (cases_Bool (has_key k (s.rows c))) [
    | inl h ↦ omega (arith, rw h at e)
    | inr h ↦ omega (arith, rw h at e)
  ]

  entry_kept : (u : ℕ) (q : Query) → WellKept p limit u (entry p s u q)
  entry_kept u q = record {
    versions = length-map (p.view u) s.version;
    below = λ z. All-map (λ n. n < limit) s.version (p.view u) (all_of (λ c. s.version c < limit) (λ c. (o.compartments c).below z) (p.view u));
    kind = keep_kind p s u q;
  }

  remembered_orderly : (u : ℕ) (q : Query) (k : Option CachedAnswer) → Orderly p limit (remember p s u q k)
  remembered_orderly u q (Some kept) = o
  remembered_orderly u q None = record {
    compartments = o.compartments;
    caches = λ w. elim (cases_eq u w) [
      | inl e ↦ rw (eq-eqb u w e, e) (
        omega (arith, length-take 8 (entry p s w q ∷ s.cache w)),
        All-take (WellKept p limit w) 8 (entry p s w q ∷ s.cache w) (entry_kept w q, (o.caches w).1),
      )
      | inr e ↦ rw (ne_eqb u w e) (o.caches w)
    ];
  }

  next_orderly : (r : Request) (lent : ℕ) → is_accepted (transition p limit s r lent).response ≡ true → Orderly p limit (transition p limit s r lent).next
  next_orderly (Write u row) lent h =
      let t = passed (is_user p u) _ _ h refl in
      let c = p.writes u in
      filled_orderly c _ (up_put 0 row (s.rows c) (omega arith) (o.compartments c).rising) (rw t at h)
  next_orderly (Delete u key) lent h =
      let c = p.writes u in
      let g = rw (passed (is_user p u) _ _ h refl) at h in
      let t = passed (has_key key (s.rows c)) _ _ g refl in
      changed_orderly c _ (up_without 0 key (s.rows c) (o.compartments c).rising) (shorter key c) (rw t at g)
  next_orderly (Copy u source range) lent h =
      let t = passed (may_copy p u source) _ _ h refl in
      let c = p.writes u in
      filled_orderly c _ (rising_put_all (rows_in range (s.rows source)) (s.rows c) (o.compartments c).rising) (rw t at h)
  next_orderly (Ask u q) lent h = remembered_orderly u q (look_up p s u q)

  pub step_orderly : (call : Call) → Orderly p limit (step p limit s call)
  step_orderly call = elim (cases_Bool (is_accepted (response p limit s call))) [
    | inl e ↦ rw e (next_orderly call.request call.lent e)
    | inr e ↦ rw e o
  ]

pub empty_orderly : (p : Rules) (limit : ℕ) → Orderly p limit empty
empty_orderly p limit = record {
  compartments = λ c. record { rising = tt; few = omega arith; below = λ z. z };
  caches = λ u. (omega arith, tt);
}

pub run_orderly : (p : Rules) (limit : ℕ) (s : State) (calls : List Call) → Orderly p limit s → Orderly p limit (run p limit s calls)
run_orderly p limit s [] o = o
run_orderly p limit s (call ∷ calls) o = run_orderly p limit (step p limit s call) calls (step_orderly p limit s o call)

pub ordered : Order
ordered p limit calls = (run_orderly p limit empty calls (empty_orderly p limit)).compartments

pub caches : Caches
caches p limit calls = (run_orderly p limit empty calls (empty_orderly p limit)).caches
