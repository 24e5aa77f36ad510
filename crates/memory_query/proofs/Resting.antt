-- Nothing but what the user sees, and their cache, shows in what they are told.
use Rattle.std.proofs.Common.{◌≡◌, ℕ, Bool, true, cond, List, [], ◌∷◌, length, get_or, Some, None, Ok, Err, Option, Result, sym, refl, ap, ◌∙◌, subst, inl, inr}
use Rattle.std.specs.Option.{ok_or}
use Rattle.std.proofs.lemmas.List.{get_or-take}
use Rattle.std.proofs.lemmas.Bool.{cases_lt, lt-ltb, le-ltb}
use Rattle.std.proofs.lemmas.Option.{none-some, same_Some}
use Rattle.policy.specs.declared.contract.Contract.{Contract}
use Rattle.policy.specs.declared.Policy.{Policy}
use Rattle.base.specs.declared.refusal.Refusal.{Refusal}
use Rattle.base.specs.declared.refusal.Refusal.TheVariants.{NoUser}
use Rattle.policy.specs.Access.{rules_of, contract_at, cache_at, length_told}
use Rattle.policy.specs.Rules.{has}
use Rattle.policy.specs.Views.{view_of, nobody}
use Rattle.query.specs.declared.Outcome.{Outcome}
use Rattle.query.specs.Looks.{compartments_for}
use Rattle.query.proofs.Views.{has_head, has_tail}
use Rattle.query.proofs.Seen.{same_map}
use Rattle.query.proofs.Written.{lent_is_seen}
use Rattle.cache.specs.declared.CachedAnswer.{CachedAnswer}
use Rattle.cache.specs.declared.CachedAnswer.TheVariants.{Rows, Total, Shared, NotSeen}
use Rattle.cache.specs.CachePlaces.{look_up}
use Rattle.memory_query.specs.CallResult.{CallResult, unless_refused}
use Rattle.memory_query.specs.MemoryParts.{version_at, part_at, fault_at, lower, lowest_fault, versions_in, parts_in, cache_part}
use Rattle.memory_query.specs.AskResult.{Inquiry, row_length_by, check_told, cached_told, work_result, cache_result, inquiry_result}
use Rattle.memory_query.specs.Alike.{ToldAlike, RestDoesNotShow}

same_faults : (p : Policy) (memory other cs : List ℕ) → ((c : ℕ) → has cs c ≡ true → fault_at p memory c ≡ fault_at p other c) →
    lowest_fault p memory cs ≡ lowest_fault p other cs
same_faults p memory other [] h = refl
same_faults p memory other (c ∷ cs) h =
    ap (λ (o : Option ℕ). lower o (lowest_fault p memory cs)) (h c (has_head c cs))
    ∙ ap (λ (o : Option ℕ). lower (fault_at p other c) o) (same_faults p memory other cs (λ d k. h d (has_tail c d cs k)))

-- a contract has the view of the rules
view_is : (p : Policy) (user : ℕ) (k : Contract) → contract_at p user ≡ Some k → view_of k ≡ (rules_of p).view user
view_is p user k e = elim (cases_lt user p.users) [
  | inl h ↦
      let f : Some (get_or p.contracts user nobody) ≡ Some k = sym (ap (λ (b : Bool). cond b (Some (get_or p.contracts user nobody)) None) (lt-ltb user p.users h)) ∙ e in
      ap (λ (c : Contract). view_of c) (sym (same_Some (get_or p.contracts user nobody) k f) ∙ sym (get_or-take p.users p.contracts user nobody h))
  | inr h ↦ absurd (none-some k (sym (ap (λ (b : Bool). cond b (Some (get_or p.contracts user nobody)) None) (le-ltb user p.users h)) ∙ e))
]

-- after the same check over both memories, what goes on alike is told alike
alike_unless : {A : Type 0} (memory other row : List ℕ) (check same : Result A Refusal) (next goes : A → CallResult Outcome) → check ≡ same →
    ((x : A) → same ≡ Ok x → ToldAlike (next x) (goes x)) → ToldAlike (unless_refused memory row check next) (unless_refused other row same goes)
alike_unless memory other row check (Ok x) next goes e h = rw e (h x refl)
alike_unless memory other row check (Err refusal) next goes e h = rw e (record { told = refl; row = refl })

-- what a check hands on was there
found : {X : Type 0} (o : Option X) (x : X) (r : Refusal) → ok_or o r ≡ Ok x → o ≡ Some x
found (Some y) x r e = cc
found None x r e = absurd cc

module _ (p : Policy) (memory other row : List ℕ) (i : Inquiry) (parts : parts_in p memory i.compartments ≡ parts_in p other i.compartments) where
  work_alike : ToldAlike (work_result p memory row i) (work_result p other row i)
  work_alike = record { told = rw parts refl; row = rw parts refl }

  cache_alike : (kept : Option CachedAnswer) →
      ToldAlike (cache_result i row (work_result p memory row i) kept) (cache_result i row (work_result p other row i) kept)
  cache_alike (Some Rows) = record { told = ap cached_told work_alike.told; row = work_alike.row }
  cache_alike (Some (Total rows amount)) = record { told = refl; row = refl }
  cache_alike (Some Shared) = record { told = ap cached_told work_alike.told; row = work_alike.row }
  cache_alike (Some NotSeen) = record { told = refl; row = refl }
  cache_alike None = record { told = work_alike.told; row = work_alike.row }

-- the same query over both, where its user's cache is the same
inquiry_alike : (p : Policy) (memory other row : List ℕ) (i j : Inquiry) → i ≡ j → cache_part j.at memory ≡ cache_part j.at other →
    parts_in p memory j.compartments ≡ parts_in p other j.compartments → ToldAlike (inquiry_result p memory row i) (inquiry_result p other row j)
inquiry_alike p memory other row i j e f g =
    rw (e, f) (cache_alike p memory other row j g (look_up j.query j.versions (cache_part j.at other)))

pub rest_does_not_show : RestDoesNotShow
rest_does_not_show p user query memory other row h =
    alike_unless memory other row (length_told p memory) (length_told p other) _ _ (rw h.long refl) (λ x e.
    alike_unless memory other row (ok_or (contract_at p user) (NoUser user)) (ok_or (contract_at p user) (NoUser user)) _ _ refl (λ contract there.
    alike_unless memory other row (ok_or (cache_at p user) (NoUser user)) (ok_or (cache_at p user) (NoUser user)) _ _ refl (λ at cached.
    let v = view_of contract in
    let seen = λ (c : ℕ) (s : has v c ≡ true). subst (λ (w : List ℕ). has w c ≡ true) (view_is p user contract (found (contract_at p user) contract (NoUser user) there)) s in
    let faults : lowest_fault p memory v ≡ lowest_fault p other v = same_faults p memory other v (λ c s. h.bounds c (seen c s)) in
    let versions : versions_in p memory v ≡ versions_in p other v = same_map v (version_at p memory) (version_at p other) (λ c s. h.version c (seen c s)) in
    alike_unless memory other row
    (check_told (length row) (row_length_by p contract query) (lowest_fault p memory v))
    (check_told (length row) (row_length_by p contract query) (lowest_fault p other v)) _ _ (rw faults refl) (λ y f.
    inquiry_alike p memory other row _ _
    (ap (λ (ws : List ℕ). record { query = query; compartments = compartments_for v query; versions = ws; at = at }) versions)
    (h.cache at (found (cache_at p user) at (NoUser user) cached))
    (same_map (compartments_for v query) (part_at p memory) (part_at p other) (λ c s. h.rows c (seen c (lent_is_seen v query c s))))))))
