-- What is seen of each store computes.
use Rattle.std.proofs.Common.{◌≡◌, ℕ, List, [], ◌∷◌, sym, refl, ap, ◌∙◌, length, ◌==◌, inl, inr, arith}
use Rattle.std.proofs.lemmas.Bool.{cases_Bool, true≢false, or_left}
use Rattle.rows.specs.Rows.{amount_of}
use Rattle.policy.specs.Rules.{Rules}
use Rattle.base.specs.declared.refusal.Refusal.TheVariants.{NoRoom}
use Rattle.query.specs.declared.Query.TheVariants.{Total}
use Rattle.query.specs.Answers.{total, answer}
use Rattle.request.specs.declared.Request.{Request}
use Rattle.request.specs.declared.Request.TheVariants.{Write, Query as Ask}
use Rattle.model.specs.Example.{three}
use Rattle.model.specs.Model.{State, Call, lend, Response, answered, empty, who, relevant, purge}
use Rattle.counterexamples.specs.Store.{Store, responses_from}
use Rattle.counterexamples.specs.Statements.{rows_examined, RightAnswers}
use Rattle.counterexamples.specs.Cases.{apart, within, row, digits, ask, three_rows, calls, after, response_after}
use Rattle.counterexamples.specs.Failures.{Fails}
use Rattle.counterexamples.specs.UselessChanges as changes
use Rattle.counterexamples.specs.UselessQueries as queries
use Rattle.counterexamples.specs.UselessQueries.{others}

-- a statement under which something would be otherwise fails
refuted : {A : Type 0} {Statement : Type 0} {seen is due : A} → seen ≡ is → (Statement → seen ≡ due) → (is ≡ due → ⊥) → Fails Statement seen is due
refuted e f d = record { is_so = e; would_be = f; differ = d; fails = λ h. d (sym e ∙ f h) }

-- what a query is to be told after some requests
abbrev due_after : (Rules → Store State) → List Request → Response
due_after m before = answered (answer (three.view 0) (after m three before).rows (Total digits)) (rows_examined m three (calls before) 0 (Total digits))

answered_wrongly : (m : Rules → Store State) (before : List Request) {is due : Response} →
    response_after m three before ask ≡ is → due_after m before ≡ due → (is ≡ due → ⊥) → Fails (RightAnswers m) (response_after m three before ask) is due
answered_wrongly m before e f d = refuted e (λ h. h three (calls before) 0 (Total digits) 100 (omega arith) (omega arith) ∙ f) d

-- what a store that refuses everything tells hangs on the requests of the user alone, in every state
silent : (p : Rules) (v : ℕ) (s : State) (calls : List Call) →
    responses_from (changes.refuses_all p) v s (purge p v calls) ≡ responses_from (changes.refuses_all p) v s calls
silent p v s [] = refl
silent p v s (call ∷ rest) = elim (cases_Bool (relevant p v call)) [
  | inl r ↦ rw (r, silent p v s rest) refl
  | inr r ↦ elim (cases_Bool (who call.request == v)) [
    | inl e ↦ absurd (true≢false (sym (or_left _ _ e) ∙ r))
    | inr e ↦ rw (r, e, silent p v s rest) refl
  ]
]

pub refuses_all : changes.RefusesAllUseless
refuses_all = (
  answered_wrongly changes.refuses_all [] refl refl (λ e. cc),
  refuted refl (λ h. h three [] 0 (row 5) 100) (λ e. cc),
  λ p v calls sound. silent p v empty calls,
)

pub serves_absent : changes.ServesAbsentUseless
serves_absent =
    let call = lend (Write 3 (row 5)) 100 in (
      refuted refl (λ h. (h three empty call refl).0) (λ e. cc),
      refuted refl (λ h. ap (λ s. amount_of 5 (s.rows 0)) (h three empty call refl).1) (λ e. cc),
    )

pub refuses_writes : changes.RefusesWritesUseless
refuses_writes = refuted refl (λ h. h three [] 0 (row 5) 100) (λ e. cc)

pub refuses_when_full : changes.RefusesWhenFullUseless
refuses_when_full = refuted refl (λ h. h apart (calls (Write 0 (row 5) ∷ [])) 0 (row 5) 100) (λ e. cc)

pub raises_first : changes.RaisesFirstUseless
raises_first =
    let full = after changes.raises_first apart (Write 0 (row 5) ∷ []) in
    (refl, refuted refl (λ h. ap (λ s. s.version 0) (h apart full (lend (Write 0 (row 6)) 100) (NoRoom 1) refl)) (λ e. cc))

pub says_done : changes.SaysDoneUseless
says_done = (refl, refuted refl (λ h. (h three [] 0 (row 5) 100 refl).1 5) (λ e. cc))

pub puts_last : changes.PutsLastUseless
puts_last = (refl, λ h. let up = (h three (calls (Write 0 (row 6) ∷ Write 0 (row 5) ∷ [])) 0).rising in omega (arith, up.1.0))

pub empties_caches : changes.EmptiesCachesUseless
empties_caches =
    let asked = after changes.empties_caches three (Ask 1 (Total digits) ∷ []) in
    refuted refl (λ h. ap length ((h three asked (lend (Write 0 (row 5)) 100)).cache 1 (λ e. cc))) (λ e. cc)

pub raises_all : changes.RaisesAllUseless
raises_all = refuted refl (λ h. (h apart empty (lend (Write 1 (row 5)) 100)).version 0 (λ e. cc)) (λ e. cc)

pub one_count : changes.OneCountUseless
one_count = refuted refl (λ h. (h apart empty (lend (Write 0 (row 5)) 100) (lend (Write 1 (row 5)) 100) refl refl (λ e. cc)).0.version 0) (λ e. cc)

pub says_deleted : changes.SaysDeletedUseless
says_deleted = refuted refl (λ h. h three [] 0 5 100) (λ e. cc)

pub deletes_two : changes.DeletesTwoUseless
deletes_two = (refl, refuted refl (λ h. (h three (calls (Write 0 (row 5) ∷ Write 0 (row 6) ∷ [])) 0 5 100 refl).1 6) (λ e. cc))

pub refuses_copies : changes.RefusesCopiesUseless
refuses_copies = refuted refl (λ h. h three (calls (Write 1 (row 5) ∷ [])) 0 1 digits 100) (λ e. cc)

pub any_flow : changes.AnyFlowUseless
any_flow = (refuted refl (λ h. h within (calls (Write 0 (row 5) ∷ [])) 2 0 digits 100) (λ e. cc), refl)

pub copies_nothing : changes.CopiesNothingUseless
copies_nothing = (refl, refuted refl (λ h. (h three (calls (Write 1 (row 5) ∷ [])) 0 1 digits 100 refl).1 5) (λ e. cc))

pub copies_what_fits : changes.CopiesWhatFitsUseless
copies_what_fits = (
  refuted refl (λ h. h three (calls three_rows) 2 1 digits 100) (λ e. cc),
  refuted refl (λ h. (h three (calls three_rows) 2 1 digits 100 refl).1 7) (λ e. cc),
)

pub answers_nothing : queries.AnswersNothingUseless
answers_nothing = answered_wrongly queries.answers_nothing (Write 0 (row 5) ∷ []) refl refl (λ e. cc)

pub none_examined : queries.NoneExaminedUseless
none_examined = answered_wrongly queries.none_examined (Write 0 (row 5) ∷ []) refl refl (λ e. cc)

pub any_length : queries.AnyLengthUseless
any_length = refuted refl (λ h. (h three empty 0 (Total digits) 1 (omega arith) (omega arith)).0) (λ e. cc)

pub long_row_first : queries.LongRowFirstUseless
long_row_first = refuted refl (λ h. h three [] 1 1 0 digits 0 (omega arith) refl) (λ e. cc)

pub no_cache : queries.NoCacheUseless
no_cache = (
  refuted refl (λ h. h three (calls (Write 0 (row 5) ∷ [])) 0 (Total digits) 100 100 (total 1 10) 1 (omega arith) refl) (λ e. cc),
  answered_wrongly queries.no_cache (Write 0 (row 5) ∷ ask ∷ []) refl refl (λ e. cc),
)

pub stale_answers : queries.StaleAnswersUseless
stale_answers = answered_wrongly queries.stale_answers (Write 0 (row 5) ∷ ask ∷ Write 0 (row 6) ∷ []) refl refl (λ e. cc)

pub seven_kept : queries.SevenKeptUseless
seven_kept = answered_wrongly (queries.keeps 7) (Write 0 (row 9) ∷ ask ∷ others 7) refl refl (λ e. cc)

pub nine_kept : queries.NineKeptUseless
nine_kept = answered_wrongly (queries.keeps 9) (Write 0 (row 9) ∷ ask ∷ others 8) refl refl (λ e. cc)

pub keeps_every : queries.KeepsEveryUseless
keeps_every = (refl, λ h. let few = (h three (calls (others 9)) 0).0 in omega arith)
