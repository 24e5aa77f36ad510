-- Answers and costs depend on the compartments in the view and on nothing else.
use Rattle.std.proofs.Common.{◌≡◌, ℕ, true, ◌&&◌, List, [], ◌∷◌, map, refl, inl, inr}
use Rattle.std.proofs.lemmas.Bool.{cases_Bool, and_parts}
use Rattle.rows.specs.declared.Row.{Row}
use Rattle.rows.specs.declared.KeyRange.{KeyRange}
use Rattle.policy.specs.Rules.{has}
use Rattle.query.proofs.Views.{has_head, has_tail}
use Rattle.query.specs.declared.Query.{Query}
use Rattle.query.specs.declared.Query.TheVariants.{Rows, Total, Shared}
use Rattle.query.specs.Answers.{answer, cost, lists_of}
use Rattle.query.specs.More.{OnlySeen}

-- two functions are the same on a list of places
abbrev pub SameOn : {A : Type 0} → List ℕ → (ℕ → A) → (ℕ → A) → Type 0
SameOn cs f g = (c : ℕ) → has cs c ≡ true → f c ≡ g c

pub same_tail : {A : Type 0} (c : ℕ) (cs : List ℕ) (f g : ℕ → A) → SameOn (c ∷ cs) f g → SameOn cs f g
same_tail c cs f g h d m = h d (has_tail c d cs m)

pub same_map : {A : Type 0} (cs : List ℕ) (f g : ℕ → A) → SameOn cs f g → map f cs ≡ map g cs
same_map [] f g h = refl
same_map (c ∷ cs) f g h = let e = h c (has_head c cs) in let i = same_map cs f g (same_tail c cs f g h) in cc

pub same_lists : (cs : List ℕ) (f g : ℕ → List Row) (range : KeyRange) → SameOn cs f g → lists_of f range cs ≡ lists_of g range cs
same_lists [] f g range h = refl
same_lists (c ∷ cs) f g range h = let e = h c (has_head c cs) in let i = same_lists cs f g range (same_tail c cs f g h) in rw (e, i)

pub same_answer : (cs : List ℕ) (f g : ℕ → List Row) (q : Query) → SameOn cs f g → answer cs f q ≡ answer cs g q
same_answer cs f g (Rows range) h = rw (same_lists cs f g range h)
same_answer cs f g (Total range) h = rw (same_lists cs f g range h)
same_answer cs f g (Shared a b range) h = elim (cases_Bool (has cs a && has cs b)) [
  | inl e ↦ let s = and_parts (has cs a) (has cs b) e in rw (e, h a s.0, h b s.1)
  | inr e ↦ rw e
]

pub same_cost : (cs : List ℕ) (f g : ℕ → List Row) (q : Query) → SameOn cs f g → cost cs f q ≡ cost cs g q
same_cost cs f g (Rows range) h = rw (same_lists cs f g range h)
same_cost cs f g (Total range) h = rw (same_lists cs f g range h)
same_cost cs f g (Shared a b range) h = elim (cases_Bool (has cs a && has cs b)) [
  | inl e ↦ let s = and_parts (has cs a) (has cs b) e in rw (e, h a s.0, h b s.1)
  | inr e ↦ rw e
]

pub only_seen : OnlySeen
only_seen cs f g q h = (same_answer cs f g q h, same_cost cs f g q h)
