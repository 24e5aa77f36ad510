-- What a call leaves in memory does not depend on what the answer row holds, but on its length.
use Rattle.std.proofs.Common.{◌≡◌, ℕ, List, [], ◌∷◌, length, Some, None, Ok, Err, Option, Result, refl, ap, inl, inr}
use Rattle.base.specs.declared.refusal.Refusal.{Refusal}
use Rattle.base.specs.declared.refusal.Refusal.TheVariants.{NoUser}
use Rattle.cache.specs.CachePlaces.{look_up}
use Rattle.cache.specs.declared.CachedAnswer.{CachedAnswer}
use Rattle.cache.specs.declared.CachedAnswer.TheVariants.{Rows, Total, Shared, NotSeen}
use Rattle.memory_query.specs.AskResult.{Inquiry, row_length_by, check_told, work_result, memory_with, cache_result, ask_result}
use Rattle.memory_query.specs.CallResult.{CallResult, unless_refused}
use Rattle.memory_query.specs.MemoryParts.{versions_in, parts_in, cache_part, lowest_fault}
use Rattle.policy.specs.Access.{contract_at, cache_at, length_told}
use Rattle.policy.specs.Views.{view_of}
use Rattle.policy.specs.declared.Policy.{Policy}
use Rattle.query.specs.Looks.{compartments_for}
use Rattle.query.specs.AnswerRows.{row_has_room, answer_result}
use Rattle.query.specs.declared.Outcome.{Outcome}
use Rattle.query.specs.declared.Query.{Query}
use Rattle.query.specs.declared.Query.TheVariants as query
use Rattle.request.specs.declared.Request.{Request}
use Rattle.request.specs.declared.Request.TheVariants.{Write, Delete, Copy, Query as Ask}
use Rattle.std.proofs.lemmas.Bool.{cases_Bool}
use Rattle.std.specs.Option.{ok_or}
use Rattle.store.specs.Served.{serve_result}

module _ (row other : List ℕ) (l : length row ≡ length other) where
  answer_told : (query : Query) (parts : List (List ℕ)) → (answer_result query parts row).told ≡ (answer_result query parts other).told
  answer_told (query.Rows range) parts = elim (cases_Bool (row_has_room parts (length other))) [ inl e ↦ rw (l, e) refl | inr e ↦ rw (l, e) refl ]
  answer_told (query.Total range) parts = elim (cases_Bool (row_has_room parts (length other))) [ inl e ↦ rw (l, e) refl | inr e ↦ rw (l, e) refl ]
  answer_told (query.Shared a b range) [] = refl
  answer_told (query.Shared a b range) (x ∷ []) = refl
  answer_told (query.Shared a b range) (x ∷ y ∷ []) = elim (cases_Bool (row_has_room (x ∷ []) (length other))) [ inl e ↦ rw (l, e) refl | inr e ↦ rw (l, e) refl ]
  answer_told (query.Shared a b range) (x ∷ y ∷ z ∷ parts) = refl

  module _ (p : Policy) (memory : List ℕ) where
    work_told : (i : Inquiry) → (work_result p memory row i).told ≡ (work_result p memory other i).told
    work_told i = rw (l, answer_told i.query (parts_in p memory i.compartments)) refl

    cache_memory : (i : Inquiry) (found : Option CachedAnswer) →
        (cache_result i row (work_result p memory row i) found).memory ≡ (cache_result i other (work_result p memory other i) found).memory
    cache_memory i (Some Rows) = refl
    cache_memory i (Some (Total rows amount)) = refl
    cache_memory i (Some Shared) = refl
    cache_memory i (Some NotSeen) = refl
    cache_memory i None = ap (λ (told : Result Outcome Refusal). memory_with i memory told) (work_told i)

    unless_memory : {A : Type 0} (check : Result A Refusal) (f g : A → CallResult Outcome) → ((x : A) → (f x).memory ≡ (g x).memory) →
        (unless_refused memory row check f).memory ≡ (unless_refused memory other check g).memory
    unless_memory (Ok x) f g h = h x
    unless_memory (Err refusal) f g h = refl

    unless_same : {A : Type 0} (check same : Result A Refusal) (f g : A → CallResult Outcome) → check ≡ same → ((x : A) → (f x).memory ≡ (g x).memory) →
        (unless_refused memory row check f).memory ≡ (unless_refused memory other same g).memory
    unless_same check same f g e h = rw e (unless_memory same f g h)

    ask_memory : (user : ℕ) (query : Query) → (ask_result p memory row user query).memory ≡ (ask_result p memory other user query).memory
    ask_memory user query =
        unless_memory (length_told p memory) _ _ (λ x.
        unless_memory (ok_or (contract_at p user) (NoUser user)) _ _ (λ contract.
        unless_memory (ok_or (cache_at p user) (NoUser user)) _ _ (λ at.
        let i : Inquiry = record { query = query; compartments = compartments_for (view_of contract) query; versions = versions_in p memory (view_of contract); at = at } in
        unless_same _ _ _ _
        (ap (λ (n : ℕ). check_told n (row_length_by p contract query) (lowest_fault p memory (view_of contract))) l)
        (λ y. cache_memory i (look_up i.query i.versions (cache_part i.at memory))))))

    pub same_memory : (r : Request) → (serve_result p memory row r).memory ≡ (serve_result p memory other r).memory
    same_memory (Write user new) = refl
    same_memory (Delete user key) = refl
    same_memory (Copy user c range) = refl
    same_memory (Ask user query) = ask_memory user query
