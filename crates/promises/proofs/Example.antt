-- The worked example on memory, through the model's.
use Rattle.std.proofs.Common.{◌≡◌, ℕ, zero, suc, ◌<◌, ◌≤◌, List, [], ◌∷◌, map, zip, length, sym, refl, ap, ◌∙◌, subst, arith}
use Rattle.compartment.specs.Parts.{limit}
use Rattle.model.specs.Example.{three, table, calls_of, responses_of}
use Rattle.model.specs.Model.{State, Call, Response, empty, step, responses}
use Rattle.model.proofs.Example.{worked}
use Rattle.model.proofs.Sameness.{responses_alike}
use Rattle.policy.specs.Access.{rules_of, memory_length}
use Rattle.policy.specs.Laws.{SameRules, ValidRules}
use Rattle.policy.specs.Read.{ReadsPolicy}
use Rattle.policy.specs.Numbers.{rules_in}
use Rattle.policy.specs.declared.Policy.{Policy}
use Rattle.policy.proofs.Proved.{policies_valid, reads_rules}
use Rattle.std.specs.List.{AllByRecursion}
use Rattle.store.specs.Calls.{open_result}
use Rattle.store.specs.Served.{response_in}
use Rattle.store.specs.Simulation.{Holds, FitsTypes}
use Rattle.store.proofs.Following.{open_holds}
use Rattle.store.proofs.Serving.{serve_follows}
use Rattle.promises.specs.Example.{example_numbers, all_observations, observation_of, AsTable, WorkedExample}
use Rattle.promises.specs.Traces.{ServeCall, Observation, AllFit, call_of, memory_left}
use Rattle.promises.proofs.Proved.{observes}

-- along the calls is observed what the model tells
told_as_model : (p : Policy) (s : State) (memory : List ℕ) (calls : List ServeCall) → Holds p s memory → AllFit calls →
    all_observations p memory calls ≡ map (λ (x : Response × ServeCall). observation_of x.0 x.1.row) (zip (responses (rules_of p) limit s (map call_of calls)) calls)
told_as_model p s memory [] h a = refl
told_as_model p s memory (call ∷ calls) h a =
    let f = serve_follows p s memory call.row call.request h a.0 in
    let o = observes p s memory call f in
    let rest = told_as_model p (step (rules_of p) limit s (call_of call)) (memory_left p memory call) calls f.holds a.1 in
    rw (o, rest) refl

read_as_model : (p : Policy) (s : State) (memory : List ℕ) (calls : List ServeCall) → Holds p s memory → AllFit calls →
    map (λ (o : Observation). response_in o.told o.row) (all_observations p memory calls) ≡ responses (rules_of p) limit s (map call_of calls)
read_as_model p s memory [] h a = refl
read_as_model p s memory (call ∷ calls) h a =
    let f = serve_follows p s memory call.row call.request h a.0 in
    let rest = read_as_model p (step (rules_of p) limit s (call_of call)) (memory_left p memory call) calls f.holds a.1 in
    rw (f.reading, rest) refl

-- the example's numbers have the example's rules
three_in : (u : ℕ) → u < 3 → ((rules_in example_numbers).view u ≡ three.view u) × ((rules_in example_numbers).writes u ≡ three.writes u)
three_in zero h = (refl, refl)
three_in (suc zero) h = (refl, refl)
three_in (suc (suc zero)) h = (refl, refl)
three_in (suc (suc (suc u))) h = absurd (omega arith)

capacity_in : (c : ℕ) → c < 3 → (rules_in example_numbers).capacity c ≡ three.capacity c
capacity_in zero h = refl
capacity_in (suc zero) h = refl
capacity_in (suc (suc zero)) h = refl
capacity_in (suc (suc (suc c))) h = absurd (omega arith)

module _ (p : Policy) (r : ReadsPolicy example_numbers p) where
  same_three : SameRules (rules_of p) three 3
  same_three =
      let s = reads_rules example_numbers p r in
      record {
        users = s.users;
        view = λ u h. s.view u h ∙ (three_in u (rw s.users at h)).0;
        writes = λ u h. s.writes u h ∙ (three_in u (rw s.users at h)).1;
        capacity = λ c h. s.capacity c h ∙ capacity_in c h;
      }

  valid_three : ValidRules (rules_of p) 3 4096
  valid_three = subst (λ (n : ℕ). ValidRules (rules_of p) n 4096) r.compartments (policies_valid p)

-- calls fit the code's types if the model's calls of them do
all_fit : (calls : List ServeCall) (model_calls : List Call) → map call_of calls ≡ model_calls → AllByRecursion (λ call. FitsTypes call.request) model_calls → AllFit calls
all_fit calls model_calls e a = from calls (subst (λ (cs : List Call). AllByRecursion (λ call. FitsTypes call.request) cs) (sym e) a)
  where
    from : (cs : List ServeCall) → AllByRecursion (λ call. FitsTypes call.request) (map call_of cs) → AllFit cs
    from [] a = tt
    from (c ∷ cs) a = (a.0, from cs a.1)

table_fits : AllByRecursion (λ (call : Call). FitsTypes call.request) (calls_of table)
table_fits = omega arith

module _ (p : Policy) (memory : List ℕ) (calls : List ServeCall) (r : ReadsPolicy example_numbers p) (long : memory_length p ≤ length memory) (e : map call_of calls ≡ calls_of table) where
  fit : AllFit calls
  fit = all_fit calls (calls_of table) e table_fits

  as_table : responses (rules_of p) limit empty (map call_of calls) ≡ responses_of table
  as_table =
      ap (responses (rules_of p) limit empty) e
      ∙ (responses_alike (rules_of p) three 3 4096 (same_three p r) (valid_three p r) limit empty (calls_of table)
      ∙ worked.all_told)

  told_on_memory : AsTable calls (all_observations p (open_result p memory).memory calls)
  told_on_memory = record {
    told = told_as_model p empty (open_result p memory).memory calls (open_holds p memory long) fit
        ∙ ap (λ (rs : List Response). map (λ (x : Response × ServeCall). observation_of x.0 x.1.row) (zip rs calls)) as_table;
    reading = read_as_model p empty (open_result p memory).memory calls (open_holds p memory long) fit ∙ as_table;
  }

pub worked_on_memory : WorkedExample
worked_on_memory = record { accepted = refl; told = λ p memory calls r long e. told_on_memory p memory calls r long e }
