-- What is printed along the calls is what the model tells; and for one user, what the whole trace tells them.
use Rattle.std.proofs.Common.{◌≡◌, ℕ, true, false, eqb, List, [], ◌∷◌, length, replicate, Some, None, sym, refl, ap, ◌∙◌, subst, inl, inr}
use Rattle.compartment.specs.Parts.{limit}
use Rattle.memory_query.proofs.Lengths.{asked_keeps_length}
use Rattle.model.specs.Model.{State, empty, lend, response, step, relevant}
use Rattle.model.proofs.Interference as interference
use Rattle.model.proofs.Sameness as sameness
use Rattle.model.proofs.Unwinding.{Machine, Unwinding, unwound, told, purge}
use Rattle.policy.specs.Access.{rules_of}
use Rattle.policy.specs.Laws.{SameRules, ValidRules}
use Rattle.policy.specs.Rules.{Rules, Sound}
use Rattle.policy.specs.declared.Policy.{Policy}
use Rattle.promises.specs.Traces.{memory_after}
use Rattle.request.specs.declared.Request.{Request}
use Rattle.request.specs.declared.Request.TheVariants.{Write, Delete, Copy, Query as Ask}
use Rattle.std.proofs.lemmas.Bool.{cases_Bool}
use Rattle.std.proofs.lemmas.List.{length-replicate}
use Rattle.std.specs.List.{AllByRecursion}
use Rattle.store.proofs.Serving.{serve_follows}
use Rattle.store.specs.Served.{serve_result, response_in}
use Rattle.store.specs.Simulation.{Holds}
use Rattle.trace_items.specs.Items.{item_user}
use Rattle.trace_items.specs.declared.items.Item.{Item}
use Rattle.trace_items.specs.declared.items.Item.TheVariants as item
use Rattle.trace_player.proofs.Bounded.{Bounded}
use Rattle.trace_player.proofs.SameMemory.{same_memory}
use Rattle.trace_player.specs.Playing.{calls_in, calls_for}
use Rattle.trace_player.specs.Printed.{Audience, longest_row, item_tells, item_step, Line, lines, hears, lines_for, concerns, concerns_one, items_for, text}
use Rattle.trace_player.specs.Turns.{item_result, play_result}

-- ALONG THE CALLS, AS THE MODEL

row_keeps : (p : Policy) (memory row : List ℕ) (r : Request) → length (serve_result p memory row r).row ≡ length row
row_keeps p memory row (Write user new) = refl
row_keeps p memory row (Delete user key) = refl
row_keeps p memory row (Copy user c range) = refl
row_keeps p memory row (Ask user query) = asked_keeps_length p memory row user query

-- one item: it tells what the model tells, and leaves memory that holds the model's next state
record ItemSteps (p : Policy) (s : State) (memory row : List ℕ) (i : Item) : Type 0 where
  says : response_in (item_result p memory row i).told (item_result p memory row i).row ≡ item_tells (rules_of p) s i
  holds : Holds p (item_step (rules_of p) s i) (item_result p memory row i).memory
  long : length (item_result p memory row i).row ≡ longest_row

item_steps : (p : Policy) (s : State) (memory row : List ℕ) (i : Item) → length row ≡ longest_row → Holds p s memory → Bounded i → ItemSteps p s memory row i
item_steps p s memory row (item.Request r) l h b =
    let f = serve_follows p s memory row r h b in
    record {
      says = f.reading ∙ ap (λ (n : ℕ). response (rules_of p) limit s (lend r n)) l;
      holds = subst (λ (n : ℕ). Holds p (step (rules_of p) limit s (lend r n)) (serve_result p memory row r).memory) l f.holds;
      long = row_keeps p memory row r ∙ l;
    }
item_steps p s memory row (item.NoRequest user place) l h b = record { says = refl; holds = h; long = l }

pub text_is : (p : Policy) (a : Audience) (s : State) (memory row : List ℕ) (is : List Item) → length row ≡ longest_row → Holds p s memory → AllByRecursion Bounded is →
    (play_result p a memory row is).text ≡ text (lines_for a (lines (rules_of p) s (items_for (rules_of p) a is)))
text_is p a s memory row [] l h b = refl
text_is p a s memory row (i ∷ is) l h b =
    let f = item_steps p s memory row i l h b.0 in
    elim (cases_Bool (concerns (rules_of p) a i)) [
      | inr e ↦ let rest = text_is p a s memory row is l h b.1 in rw (e, rest) refl
      | inl e ↦
          let next = item_result p memory row i in
          let rest = text_is p a (item_step (rules_of p) s i) next.memory next.row is f.long f.holds b.1 in
          elim (cases_Bool (hears a (item_user i))) [ inl o ↦ rw (e, o, f.says, rest) refl | inr o ↦ rw (e, o, rest) refl ]
    ]

-- memory: what the requests leave with rows of zeros
zeros : length (replicate {A = ℕ} longest_row 0) ≡ longest_row
zeros = length-replicate {A = ℕ} longest_row 0

memory_of_all : (p : Policy) (memory row : List ℕ) (is : List Item) → length row ≡ longest_row →
    (play_result p None memory row is).memory ≡ memory_after p memory (calls_in is)
memory_of_all p memory row [] l = refl
memory_of_all p memory row (item.Request r ∷ is) l =
    let next = serve_result p memory row r in
    memory_of_all p next.memory next.row is (row_keeps p memory row r ∙ l)
    ∙ ap (λ (m : List ℕ). memory_after p m (calls_in is)) (same_memory row (replicate longest_row 0) (l ∙ sym zeros) p memory r)
memory_of_all p memory row (item.NoRequest user place ∷ is) l = memory_of_all p memory row is l

memory_of_one : (p : Policy) (v : ℕ) (memory row : List ℕ) (is : List Item) → length row ≡ longest_row →
    (play_result p (Some v) memory row is).memory ≡ memory_after p memory (calls_for p (Some v) (calls_in is))
memory_of_one p v memory row [] l = refl
memory_of_one p v memory row (item.Request r ∷ is) l =
    let next = serve_result p memory row r in
    let calls = calls_for p (Some v) (calls_in is) in
    elim (cases_Bool (relevant (rules_of p) v (lend r longest_row))) [
      | inl e ↦
          let rest = memory_of_one p v next.memory next.row is (row_keeps p memory row r ∙ l) in
          let same = ap (λ (m : List ℕ). memory_after p m calls) (same_memory row (replicate longest_row 0) (l ∙ sym zeros) p memory r) in
          rw e (rest ∙ same)
      | inr e ↦ rw e (memory_of_one p v memory row is l)
    ]
memory_of_one p v memory row (item.NoRequest user place ∷ is) l =
    elim (cases_Bool (eqb user v)) [
      | inl e ↦ rw e (memory_of_one p v memory row is l)
      | inr e ↦ rw e (memory_of_one p v memory row is l)
    ]

pub memory_is : (p : Policy) (a : Audience) (memory row : List ℕ) (is : List Item) → length row ≡ longest_row →
    (play_result p a memory row is).memory ≡ memory_after p memory (calls_for p a (calls_in is))
memory_is p None memory row is l = memory_of_all p memory row is l
memory_is p (Some v) memory row is l = memory_of_one p v memory row is l

-- FOR EVERYONE

all_concern : (p : Rules) (is : List Item) → items_for p None is ≡ is
all_concern p [] = refl
all_concern p (i ∷ is) = ap (λ js. i ∷ js) (all_concern p is)

-- FOR ONE USER: the items are a machine that the user observes, and noninterference is unwound once more

module _ (p : Rules) (v : ℕ) (sound : Sound p) where
  abbrev listener : Machine State Item Line
  listener = record {
    step = item_step p;
    output = λ s i. record { user = item_user i; response = item_tells p s i };
    observes = λ s i. eqb (item_user i) v;
    relevant = λ s i. concerns_one p v i;
  }

  abbrev Related : State → State → Type 0
  Related = interference.Related p limit v sound

  abbrev base : Unwinding (interference.store p limit v sound) Related
  base = interference.unwinding p limit v sound

  observed : (s : State) (i : Item) → eqb (item_user i) v ≡ true → concerns_one p v i ≡ true
  observed s (item.Request r) o = base.observed_relevant s (lend r longest_row) o
  observed s (item.NoRequest user place) o = o

  same_lines : (s t : State) (i : Item) → Related s t → eqb (item_user i) v ≡ true → listener.output s i ≡ listener.output t i
  same_lines s t (item.Request r) a o = let e = base.same_output s t (lend r longest_row) a o in rw e refl
  same_lines s t (item.NoRequest user place) a o = refl

  left_out : (s t : State) (i : Item) → Related s t → concerns_one p v i ≡ false → Related s (item_step p t i)
  left_out s t (item.Request r) a k = base.left_out s t (lend r longest_row) a k
  left_out s t (item.NoRequest user place) a k = a

  taken : (s t : State) (i : Item) → Related s t → concerns_one p v i ≡ true → Related (item_step p s i) (item_step p t i)
  taken s t (item.Request r) a k = base.taken s t (lend r longest_row) a k
  taken s t (item.NoRequest user place) a k = a

  unwinding : Unwinding listener Related
  unwinding = record { observed_relevant = observed; same_observed = λ s t i a. refl; same_output = same_lines; left_out = left_out; taken = taken }

  told_is : (s : State) (is : List Item) → lines_for (Some v) (lines p s is) ≡ told listener s is
  told_is s [] = refl
  told_is s (i ∷ is) = let rest = told_is (item_step p s i) is in cc

  purge_is : (s : State) (is : List Item) → items_for p (Some v) is ≡ purge listener s is
  purge_is s [] = refl
  purge_is s (i ∷ is) = let rest = purge_is (item_step p s i) is in cc

  -- what concerns the user alone tells them what the whole trace tells them
  noninterference : (is : List Item) → lines_for (Some v) (lines p empty (items_for p (Some v) is)) ≡ lines_for (Some v) (lines p empty is)
  noninterference is =
      let u = unwound listener Related unwinding empty empty is (λ l. record { rows = λ c h. refl; version = λ c h. refl; cache = refl }) in
      let q = purge_is empty is in
      rw q (told_is empty (purge listener empty is) ∙ (u ∙ sym (told_is empty is)))

-- RULES THAT SAY THE SAME

module _ (p q : Rules) (n most : ℕ) (same : SameRules p q n) (valid : ValidRules p n most) where
  tells_alike : (s : State) (i : Item) → item_tells p s i ≡ item_tells q s i
  tells_alike s (item.Request r) = sameness.response_alike p q n most same valid limit s (lend r longest_row)
  tells_alike s (item.NoRequest user place) = refl

  step_alike : (s : State) (i : Item) → item_step p s i ≡ item_step q s i
  step_alike s (item.Request r) = sameness.step_alike p q n most same valid limit s (lend r longest_row)
  step_alike s (item.NoRequest user place) = refl

  pub lines_alike : (s : State) (is : List Item) → lines p s is ≡ lines q s is
  lines_alike s [] = refl
  lines_alike s (i ∷ is) =
      let rest = lines_alike (item_step q s i) is in
      rw (tells_alike s i, step_alike s i, rest) refl

-- ALL TOGETHER: whoever is played for is told what the whole trace tells them
pub whole_is : (p : Rules) (a : Audience) (is : List Item) → Sound p →
    lines_for a (lines p empty (items_for p a is)) ≡ lines_for a (lines p empty is)
whole_is p None is sound = rw (all_concern p is) refl
whole_is p (Some v) is sound = noninterference p v sound is
