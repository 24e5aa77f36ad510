-- The memory and the answer row along a trace are enough: a policy that is not refused stays within the bounds of its numbers.
use Rattle.std.proofs.Common.{◌≡◌, ℕ, suc, ◌+◌, ◌-◌, ◌*◌, ◌%◌, ◌<◌, ◌≤◌, Bool, true, false, cond, not, ◌&&◌, eqb, ltb, leb, List, [], ◌∷◌, length, get_or, take, drop, Some, None, Option, refl, ap, inl, inr, arith}
use Rattle.compartment.specs.Parts.{limit}
use Rattle.model.specs.Model.{State, Response, CachedAnswer, done, refused, may_copy, needed_length, capacity_sum, is_user, respond_change, respond_fill, respond_query, look_up, rows_after_copy}
use Rattle.policy.specs.Layout.{size, end_from}
use Rattle.policy.specs.Numbers.{policy_fault, within, between, places, users_in, compartments_in, user_at, view_in, writes_in, rules_in}
use Rattle.policy.specs.Policies.{all_within}
use Rattle.policy.specs.Rules.{Rules, has, sees}
use Rattle.policy.specs.Views.{distinct_below}
use Rattle.base.specs.declared.refusal.Refusal.TheVariants.{NoUser, NoFlow, NoRoom, NoRow, ShortRow, LastVersion}
use Rattle.policy.proofs.Judging.{two_places}
use Rattle.policy.proofs.Proved.{judged_lowest}
use Rattle.policy.proofs.Steps.{all_from}
use Rattle.query.specs.declared.Query.{Query}
use Rattle.query.specs.declared.Query.TheVariants.{Rows, Total, Shared}
use Rattle.request.specs.declared.Request.TheVariants as request
use Rattle.rows.specs.Rows.{put, has_key}
use Rattle.rows.specs.declared.Row.{Row}
use Rattle.std.proofs.lemmas.List.{get_or-take, get_or-drop, length-take}
use Rattle.std.proofs.lemmas.Bool.{cond_both, cond-true, and_parts, and_from, or_parts, or_cases, not-false, leb-true, le-leb, ltb-true, eqb-true, both_ways}
use Rattle.std.proofs.lemmas.List.Sums.{sum_by-cons}
use Rattle.std.proofs.lemmas.Bool.Decides.{nat_tests}
use Rattle.trace_player.specs.Enough.{MemoryEnough, RowEnough, NeverShort}
use Rattle.trace_player.specs.Printed.{longest_row, item_tells}
use Rattle.trace_items.specs.declared.items.Item.{Item}
use Rattle.trace_items.specs.declared.items.Item.TheVariants as item
use Rattle.trace_bytes.specs.PolicyNumbers.{policy_of}

-- the bounds of a policy that is not refused
pub record Within (xs : List ℕ) : Type 0 where
  pub users : users_in xs ≤ 32
  pub compartments : compartments_in xs ≤ 16
  pub counts : (u : ℕ) → u < users_in xs → get_or xs (user_at u) 0 ≤ 16
  pub capacities : (c : ℕ) → c < compartments_in xs → get_or xs (user_at (users_in xs) + c) 0 ≤ 64
  pub views : (u : ℕ) → u < users_in xs → distinct_below (compartments_in xs) (view_in xs u) ≡ true

module _ (xs : List ℕ) (e : policy_fault 64 xs ≡ None) where
  stands : (k : ℕ) → k < places xs → within 64 (users_in xs) k (get_or xs k 0) ≡ true
  stands k h = not-false _ (or_parts (leb (length xs) k) _ (((judged_lowest 64 xs).2 e).0 k h)).1

  counted : (between 1 32 (users_in xs) && between 1 16 (compartments_in xs)) ≡ true
  counted =
      let h = two_places xs in
      and_from (between 1 32 (users_in xs)) (between 1 16 (compartments_in xs)) (stands 0 (omega arith)) (stands 1 (omega arith))

  placed : places xs ≡ user_at (users_in xs) + compartments_in xs
  placed = cond-true _ _ _ counted

  pub bounds : Within xs
  bounds = record {
    users = grind (arith, nat_tests, counted);
    compartments = grind (arith, nat_tests, counted);
    counts = λ u h.
        let p = placed in let t = stands (user_at u) (omega arith) in
        let m : (user_at u - 2) % 18 ≡ 0 = omega arith in grind (arith, nat_tests);
    capacities = λ c h. let p = placed in let t = stands (user_at (users_in xs) + c) (omega arith) in grind (arith, nat_tests);
    views = λ u h. (and_parts (distinct_below (compartments_in xs) (view_in xs u)) (has (view_in xs u) (writes_in xs u)) (not-false _ (((judged_lowest 64 xs).2 e).1 u h))).0;
  }

end_bound : (at : ℕ) (cs : List ℕ) → all_within 64 cs ≡ true → end_from at cs ≤ at + 130 * length cs
end_bound at [] e = omega arith
end_bound at (c ∷ cs) e =
    let t = and_parts (leb c 64) (all_within 64 cs) e in
    omega (arith, leb-true c 64 t.0, end_bound (at + size c) cs t.1)

few : (n : ℕ) (xs : List ℕ) → length (take n xs) ≤ n
few n xs = simp (length-take) (omega arith)

pub memory_enough : MemoryEnough
memory_enough bytes e =
    let xs = policy_of bytes in
    let b = bounds xs e in
    let n = compartments_in xs in
    let rest = drop (user_at (users_in xs)) xs in
    let each = all_from (λ c. leb c 64) 0 (take n rest)
    (λ i h. let k : i < n = omega (arith, few n rest) in
    rw (get_or-take n rest i 0 k, get_or-drop (user_at (users_in xs)) xs i 0) (le-leb _ _ (b.capacities i k))) in
    omega (arith, end_bound 0 (take n rest) each, few n rest, b.users, b.compartments)

module _ (p : Rules) where
  all_bound : (n : ℕ) → ((c : ℕ) → c < n → p.capacity c ≤ 64) → (cs : List ℕ) → distinct_below n cs ≡ true → capacity_sum p.capacity cs ≤ 64 * length cs
  all_bound n each [] e = omega arith
  all_bound n each (c ∷ cs) e =
      let t = and_parts (ltb c n) _ e in
      rw (sum_by-cons p.capacity c cs)
      (omega (arith, each c (ltb-true c n t.0), all_bound n each cs (and_parts (not (has cs c)) (distinct_below n cs) t.1).1))

  -- a compartment that is seen is among those that are summed
  among : (cs : List ℕ) (a : ℕ) → has cs a ≡ true → p.capacity a ≤ capacity_sum p.capacity cs
  among [] a e = absurd (both_ways false refl e)
  among (c ∷ cs) a e = rw (sum_by-cons p.capacity c cs) (elim (or_cases (eqb c a) (has cs a) e) [
    | inl s ↦ let f = ap p.capacity (eqb-true c a s) in omega arith
    | inr s ↦ omega (arith, among cs a s)
  ])

  needed_bound : (user : ℕ) (query : Query) → needed_length p user query ≤ 32 + 2 * capacity_sum p.capacity (p.view user)
  needed_bound user (Rows range) = omega arith
  needed_bound user (Total range) = omega arith
  needed_bound user (Shared a b range) =
      cond_both (sees p user a && sees p user b) (32 + 2 * p.capacity a) 0 (λ n. n ≤ 32 + 2 * capacity_sum p.capacity (p.view user))
      (λ t. omega (arith, among (p.view user) a (and_parts (sees p user a) (sees p user b) t).0)) (λ t. omega arith)

pub row_enough : RowEnough
row_enough bytes e user query h =
    let xs = policy_of bytes in
    let b = bounds xs e in
    let p = rules_in xs in
    omega (
      arith,
      needed_bound p user query,
      all_bound p (compartments_in xs) b.capacities (view_in xs user) (b.views user h),
      few (get_or xs (user_at user) 0) (drop (user_at user + 1) xs),
      b.counts user h,
    )

-- a response that is no refusal of a short row
abbrev Other : Response → Type 0
Other r = (n : ℕ) → r ≡ refused (ShortRow n) → ⊥

either : (b : Bool) (r q : Response) → (b ≡ true → Other r) → Other q → Other (cond b r q)
either true r q f g = f refl
either false r q f g = g

module _ (p : Rules) (s : State) where
  changing_other : (c : ℕ) → Other (respond_change limit s c)
  changing_other c = either (ltb (suc (s.version c)) limit) done (refused (LastVersion c)) (λ _ n e. cc) (λ n e. cc)

  filling_other : (c : ℕ) (new : List Row) → Other (respond_fill p limit s c new)
  filling_other c new =
      either (leb (length new) (p.capacity c)) (respond_change limit s c) (refused (NoRoom (p.capacity c))) (λ _. changing_other c) (λ n e. cc)

  answering_other : (user : ℕ) (query : Query) (o : Option CachedAnswer) → Other (respond_query p s user query o)
  answering_other user query (Some kept) n e = cc
  answering_other user query None n e = cc

  -- of somebody who is there
  user_other : (user : ℕ) (r : Response) → (user < p.users → Other r) → Other (cond (is_user p user) r (refused (NoUser user)))
  user_other user r f = either (is_user p user) r (refused (NoUser user)) (λ t. f (ltb-true user p.users t)) (λ n e. cc)

  item_other : ((user : ℕ) (query : Query) → user < p.users → needed_length p user query ≤ longest_row) → (i : Item) → Other (item_tells p s i)
  item_other enough (item.NoRequest user place) = λ n e. cc
  item_other enough (item.Request (request.Write user row)) = user_other user _ (λ _. filling_other (p.writes user) (put row (s.rows (p.writes user))))
  item_other enough (item.Request (request.Delete user key)) =
      let c = p.writes user in
      user_other user _ (λ _. either (has_key key (s.rows c)) (respond_change limit s c) (refused (NoRow key)) (λ _. changing_other c) (λ n e. cc))
  item_other enough (item.Request (request.Copy user c range)) =
      let new = rows_after_copy p s user c range in
      either (may_copy p user c) (respond_fill p limit s (p.writes user) new) (refused (NoFlow c)) (λ _. filling_other (p.writes user) new) (λ n e. cc)
  item_other enough (item.Request (request.Query user query)) =
      user_other user _ (λ h. rw (le-leb (needed_length p user query) longest_row (enough user query h)) (answering_other user query (look_up p s user query)))

pub never_short : NeverShort
never_short bytes e s = item_other (rules_in (policy_of bytes)) s (row_enough bytes e)
