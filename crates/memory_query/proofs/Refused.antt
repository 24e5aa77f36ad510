-- A refusal leaves memory and the answer row as they were.
use Rattle.std.proofs.Common.{◌≡◌, ℕ, List, [], ◌∷◌, length, Some, None, Ok, Err, Option, Result, refl, inl, inr}
use Rattle.std.specs.Option.{ok_or}
use Rattle.std.proofs.lemmas.Bool.{cases_Bool}
use Rattle.policy.specs.declared.Policy.{Policy}
use Rattle.base.specs.declared.refusal.Refusal.{Refusal}
use Rattle.base.specs.declared.refusal.Refusal.TheVariants.{NoUser}
use Rattle.policy.specs.Access.{contract_at, cache_at, length_told}
use Rattle.policy.specs.Views.{view_of}
use Rattle.query.specs.declared.Outcome.{Outcome}
use Rattle.query.specs.declared.Query.{Query}
use Rattle.query.specs.declared.Query.TheVariants.{Rows, Total, Shared}
use Rattle.query.specs.Looks.{compartments_for}
use Rattle.query.specs.AnswerRows.{row_has_room, answer_result}
use Rattle.cache.specs.declared.CachedAnswer.{CachedAnswer}
use Rattle.cache.specs.declared.CachedAnswer.TheVariants.{Rows as kept_rows, Total as kept_total, Shared as kept_shared, NotSeen as kept_none}
use Rattle.cache.specs.CachePlaces.{look_up}
use Rattle.memory_query.specs.CallResult.{CallResult, unless_refused}
use Rattle.memory_query.specs.MemoryParts.{parts_in, versions_in, cache_part, lowest_fault}
use Rattle.memory_query.specs.AskResult.{Inquiry, row_length_by, check_told, cached_told, work_result, memory_with, cache_result, inquiry_result}
use Rattle.memory_query.specs.Tie.{RefusalsLeave}

-- where this refusal is returned, memory and the row stay
abbrev Leaves : List ℕ → List ℕ → Refusal → CallResult Outcome → Type 0
Leaves memory row r call = call.told ≡ Err r → (call.memory ≡ memory) × (call.row ≡ row)

leaves_unless : {A : Type 0} (memory row : List ℕ) (r : Refusal) (check : Result A Refusal) (next : A → CallResult Outcome) →
    ((x : A) → Leaves memory row r (next x)) → Leaves memory row r (unless_refused memory row check next)
leaves_unless memory row r (Ok x) next h = h x
leaves_unless memory row r (Err refusal) next h = λ e. (refl, refl)

-- where nothing is worked out, the row stays
row_stays : (query : Query) (ps : List (List ℕ)) (row : List ℕ) (why r : Refusal) →
    ok_or (answer_result query ps row).told why ≡ Err r → (answer_result query ps row).row ≡ row
row_stays (Rows range) ps row why r e = elim (cases_Bool (row_has_room ps (length row))) [
  | inl f ↦ let g = rw f at e in absurd cc
  | inr f ↦ rw f refl
]
row_stays (Total range) ps row why r e = elim (cases_Bool (row_has_room ps (length row))) [
  | inl f ↦ rw f refl
  | inr f ↦ rw f refl
]
row_stays (Shared a b range) [] row why r e = refl
row_stays (Shared a b range) (x ∷ []) row why r e = refl
row_stays (Shared a b range) (x ∷ y ∷ []) row why r e = elim (cases_Bool (row_has_room (x ∷ []) (length row))) [
  | inl f ↦ let g = rw f at e in absurd cc
  | inr f ↦ rw f refl
]
row_stays (Shared a b range) (x ∷ y ∷ z ∷ ps) row why r e = refl

again_refused : (x : Result Outcome Refusal) (r : Refusal) → cached_told x ≡ Err r → x ≡ Err r
again_refused (Ok outcome) r e = absurd cc
again_refused (Err q) r e = e

memory_stays : (i : Inquiry) (memory : List ℕ) (r : Refusal) (x : Result Outcome Refusal) → x ≡ Err r → memory_with i memory x ≡ memory
memory_stays i memory r x e = rw e refl

module _ (p : Policy) (memory row : List ℕ) (r : Refusal) (i : Inquiry) where
  work_leaves : Leaves memory row r (work_result p memory row i)
  work_leaves e = (refl, row_stays i.query (parts_in p memory i.compartments) row _ r e)

  cache_leaves : (found : Option CachedAnswer) → Leaves memory row r (cache_result i row (work_result p memory row i) found)
  cache_leaves (Some kept_rows) e = work_leaves (again_refused (work_result p memory row i).told r e)
  cache_leaves (Some (kept_total rows amount)) e = (refl, refl)
  cache_leaves (Some kept_shared) e = work_leaves (again_refused (work_result p memory row i).told r e)
  cache_leaves (Some kept_none) e = (refl, refl)
  cache_leaves None e = (memory_stays i memory r (work_result p memory row i).told e, (work_leaves e).1)

  inquiry_leaves : Leaves memory row r (inquiry_result p memory row i)
  inquiry_leaves = cache_leaves (look_up i.query i.versions (cache_part i.at memory))

pub refusals_leave : RefusalsLeave
refusals_leave p user query memory row r =
    leaves_unless memory row r (length_told p memory) _ (λ x.
    leaves_unless memory row r (ok_or (contract_at p user) (NoUser user)) _ (λ contract.
    leaves_unless memory row r (ok_or (cache_at p user) (NoUser user)) _ (λ at.
    leaves_unless memory row r (check_told (length row) (row_length_by p contract query) (lowest_fault p memory (view_of contract))) _ (λ y.
    inquiry_leaves p memory row r (record { query = query; compartments = compartments_for (view_of contract) query; versions = versions_in p memory (view_of contract); at = at })))))
