-- An answer row keeps its length when a query is asked, whatever memory holds.
use Rattle.std.proofs.Common.{◌≡◌, ℕ, List, length, Some, None, Ok, Err, Option, Result, refl}
use Rattle.std.specs.Option.{ok_or}
use Rattle.policy.specs.Access.{contract_at, cache_at, length_told}
use Rattle.policy.specs.Views.{view_of}
use Rattle.policy.specs.declared.Policy.{Policy}
use Rattle.base.specs.declared.refusal.Refusal.{Refusal}
use Rattle.base.specs.declared.refusal.Refusal.TheVariants.{NoUser}
use Rattle.query.specs.declared.Outcome.{Outcome}
use Rattle.query.specs.declared.Query.{Query}
use Rattle.query.specs.Looks.{compartments_for}
use Rattle.query.proofs.Lengths.{row_keeps_length}
use Rattle.cache.specs.declared.CachedAnswer.{CachedAnswer}
use Rattle.cache.specs.declared.CachedAnswer.TheVariants.{Rows, Total, Shared, NotSeen}
use Rattle.cache.specs.CachePlaces.{look_up}
use Rattle.memory_query.specs.CallResult.{CallResult, unless_refused}
use Rattle.memory_query.specs.MemoryParts.{parts_in, versions_in, cache_part, lowest_fault}
use Rattle.memory_query.specs.AskResult.{Inquiry, row_length_by, check_told, work_result, cache_result, inquiry_result, ask_result}

unless_keeps : {A : Type 0} (memory row : List ℕ) (check : Result A Refusal) (next : A → CallResult Outcome) →
    ((x : A) → length (next x).row ≡ length row) → length (unless_refused memory row check next).row ≡ length row
unless_keeps memory row (Ok x) next h = h x
unless_keeps memory row (Err refusal) next h = refl

module _ (p : Policy) (memory row : List ℕ) where
  cache_keeps : (i : Inquiry) (found : Option CachedAnswer) → length (cache_result i row (work_result p memory row i) found).row ≡ length row
  cache_keeps i (Some Rows) = row_keeps_length i.query (parts_in p memory i.compartments) row
  cache_keeps i (Some (Total rows amount)) = refl
  cache_keeps i (Some Shared) = row_keeps_length i.query (parts_in p memory i.compartments) row
  cache_keeps i (Some NotSeen) = refl
  cache_keeps i None = row_keeps_length i.query (parts_in p memory i.compartments) row

  inquiry_keeps : (i : Inquiry) → length (inquiry_result p memory row i).row ≡ length row
  inquiry_keeps i = cache_keeps i (look_up i.query i.versions (cache_part i.at memory))

  pub asked_keeps_length : (user : ℕ) (query : Query) → length (ask_result p memory row user query).row ≡ length row
  asked_keeps_length user query =
      unless_keeps memory row (length_told p memory) _ (λ x.
      unless_keeps memory row (ok_or (contract_at p user) (NoUser user)) _ (λ contract.
      unless_keeps memory row (ok_or (cache_at p user) (NoUser user)) _ (λ at.
      unless_keeps memory row (check_told (length row) (row_length_by p contract query) (lowest_fault p memory (view_of contract))) _ (λ y.
      inquiry_keeps (record { query = query; compartments = compartments_for (view_of contract) query; versions = versions_in p memory (view_of contract); at = at })))))
