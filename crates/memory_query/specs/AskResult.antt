-- What a query returns, and what memory and the answer row hold afterwards, whatever they held before.
use Rattle.std.specs.Prelude.{ℕ, if◌then◌else◌, List, length, Some, None, Ok, Err, Option, Result, nat_lt}
use Rattle.std.specs.Option.{ok_or}
use Rattle.base.specs.declared.refusal.Refusal.{Refusal}
use Rattle.base.specs.declared.refusal.Refusal.TheVariants.{OutOfBounds, NoUser, ShortRow}
use Rattle.policy.specs.declared.contract.Contract.{Contract}
use Rattle.policy.specs.declared.Policy.{Policy}
use Rattle.policy.specs.Access.{rules_of, contract_at, cache_at, length_told}
use Rattle.policy.specs.Views.{view_of}
use Rattle.query.specs.declared.AnswerSummary.{AnswerSummary}
use Rattle.query.specs.declared.AnswerSummary.TheVariants.{Total as InTotal, NotSeen as InNone}
use Rattle.query.specs.declared.Outcome.{Outcome}
use Rattle.query.specs.declared.Query.{Query}
use Rattle.query.specs.Looks.{compartments_for, scope_compartments, row_length_for}
use Rattle.query.specs.AnswerRows.{AnswerResult, answer_result}
use Rattle.cache.specs.declared.CachedAnswer.{CachedAnswer}
use Rattle.cache.specs.declared.CachedAnswer.TheVariants.{Rows, Total, Shared, NotSeen}
use Rattle.cache.specs.CachePlaces.{cached_from, look_up, keep_in}
use Rattle.memory_query.specs.declared.inquiry.CheckedQuery.{CheckedQuery}
use Rattle.memory_query.specs.declared.storage.Storage.{Storage}
use Rattle.memory_query.specs.CallResult.{CallResult, unless_refused}
use Rattle.memory_query.specs.MemoryParts.{versions_in, parts_in, cache_part, with_cache, lowest_fault}

-- a query that may be answered: the compartments that it looks at, and versions and place by which the cache has it
pub record Inquiry : Type 0 where
  pub query : Query
  pub compartments : List ℕ
  pub versions : List ℕ
  pub at : ℕ

-- as the code holds it
abbrev pub inquiry_of : CheckedQuery → Inquiry
inquiry_of q = record {
  query = q.query;
  compartments = scope_compartments q.scope;
  versions = q.versions.now;
  at = q.at;
}

-- how long the row must be for a query of a user with this contract
abbrev pub row_length_by : Policy → Contract → Query → Option ℕ
row_length_by p contract query = row_length_for (rules_of p).capacity (view_of contract) query

-- the row must be as long as is needed, and then what the user sees in bounds; where no row is needed neither matters
abbrev pub check_told : ℕ → Option ℕ → Option ℕ → Result (Unit {0}) Refusal
check_told long None fault = Ok tt
check_told long (Some needed) None = if nat_lt long needed then Err (ShortRow long) else Ok tt
check_told long (Some needed) (Some place) =
    if nat_lt long needed then Err (ShortRow long) else Err (OutOfBounds place)

-- an answer for which no row was examined
abbrev pub cached_outcome : AnswerSummary → Outcome
cached_outcome answered = record { answered = answered; examined = 0 }

-- what is worked out again is told with no row examined
abbrev pub cached_told : Result Outcome Refusal → Result Outcome Refusal
cached_told (Ok outcome) = Ok (cached_outcome outcome.answered)
cached_told (Err refusal) = Err refusal

-- what answering does to the rows that a query looks at
abbrev pub rows_answer : Policy → List ℕ → List ℕ → Inquiry → AnswerResult
rows_answer p memory row i = answer_result i.query (parts_in p memory i.compartments) row

-- a query worked out; refused where the row has no room for the rows that it looks at
abbrev pub work_result : Policy → List ℕ → List ℕ → Inquiry → CallResult Outcome
work_result p memory row i = record {
  told = ok_or (rows_answer p memory row i).told (ShortRow (length row));
  memory = memory;
  row = (rows_answer p memory row i).row;
}

-- as the code does it
abbrev pub storage_work : Storage → List ℕ → CheckedQuery → CallResult Outcome
storage_work s row q = work_result s.policy.now s.memory.now row (inquiry_of q)

-- told with no row examined, and memory and the row as they are
abbrev pub cached_result : List ℕ → List ℕ → AnswerSummary → CallResult Outcome
cached_result memory row answered = record { told = Ok (cached_outcome answered); memory = memory; row = row }

-- from what is kept of an answer: rows are as they are worked out again, numbers are as they were
abbrev pub recall_result : List ℕ → CallResult Outcome → CachedAnswer → CallResult Outcome
recall_result row work Rows = record { told = cached_told work.told; memory = work.memory; row = work.row }
recall_result row work (Total rows amount) = cached_result work.memory row (InTotal rows amount)
recall_result row work Shared = record { told = cached_told work.told; memory = work.memory; row = work.row }
recall_result row work NotSeen = cached_result work.memory row InNone

-- memory with an outcome in the user's cache
abbrev pub memory_with : Inquiry → List ℕ → Result Outcome Refusal → List ℕ
memory_with i memory (Ok outcome) =
    with_cache i.at (keep_in i.query i.versions (cached_from outcome.answered) (cache_part i.at memory)) memory
memory_with i memory (Err refusal) = memory

-- from the cache, which changes nothing in memory, or worked out and kept there
abbrev pub cache_result : Inquiry → List ℕ → CallResult Outcome → Option CachedAnswer → CallResult Outcome
cache_result i row work (Some kept) = recall_result row work kept
cache_result i row work None = record { told = work.told; memory = memory_with i work.memory work.told; row = work.row }

abbrev pub inquiry_result : Policy → List ℕ → List ℕ → Inquiry → CallResult Outcome
inquiry_result p memory row i =
    cache_result i row (work_result p memory row i) (look_up i.query i.versions (cache_part i.at memory))

-- the checks in their order, then the answer
abbrev pub ask_result : Policy → List ℕ → List ℕ → ℕ → Query → CallResult Outcome
ask_result p memory row user query =
    unless_refused memory row (length_told p memory) (λ x.
    unless_refused memory row (ok_or (contract_at p user) (NoUser user)) (λ contract.
    unless_refused memory row (ok_or (cache_at p user) (NoUser user)) (λ at.
    unless_refused memory row
    (check_told (length row) (row_length_by p contract query) (lowest_fault p memory (view_of contract))) (λ x.
    inquiry_result p memory row (record {
      query = query;
      compartments = compartments_for (view_of contract) query;
      versions = versions_in p memory (view_of contract);
      at = at;
    })))))
