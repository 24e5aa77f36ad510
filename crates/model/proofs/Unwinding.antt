-- Noninterference by unwinding, for any machine and one observer: local conditions on a relation between states, and one induction.
use Rattle.std.proofs.Common.{◌≡◌, Bool, true, false, cond, List, [], ◌∷◌, refl, inl, inr}
use Rattle.std.proofs.lemmas.Bool.{cases_Bool, both_ways}

-- what a machine does, what is told to the observer, and which actions are relevant to them; the last two may look at the state
pub record Machine (S A O : Type 0) : Type 0 where
  pub step : S → A → S
  pub output : S → A → O
  pub observes : S → A → Bool
  pub relevant : S → A → Bool

-- what the observer is told
abbrev pub told : {S A O : Type 0} → Machine S A O → S → List A → List O
told m s [] = []
told m s (a ∷ rest) = cond (m.observes s a) (m.output s a ∷ told m (m.step s a) rest) (told m (m.step s a) rest)

-- the relevant actions, along the whole run
abbrev pub purge : {S A O : Type 0} → Machine S A O → S → List A → List A
purge m s [] = []
purge m s (a ∷ rest) = cond (m.relevant s a) (a ∷ purge m (m.step s a) rest) (purge m (m.step s a) rest)

-- the local conditions: R relates a state of the purged run to one of the whole run
pub record Unwinding {S A O : Type 0} (m : Machine S A O) (R : S → S → Type 0) : Type 0 where
  pub observed_relevant : (s : S) (a : A) → m.observes s a ≡ true → m.relevant s a ≡ true
  pub same_observed : (s t : S) (a : A) → R s t → m.observes s a ≡ m.observes t a
  pub same_output : (s t : S) (a : A) → R s t → m.observes t a ≡ true → m.output s a ≡ m.output t a
  pub left_out : (s t : S) (a : A) → R s t → m.relevant t a ≡ false → R s (m.step t a)
  pub taken : (s t : S) (a : A) → R s t → m.relevant t a ≡ true → R (m.step s a) (m.step t a)

pub unwound : {S A O : Type 0} (m : Machine S A O) (R : S → S → Type 0) → Unwinding m R →
    (s t : S) (actions : List A) → R s t → told m s (purge m t actions) ≡ told m t actions
unwound m R w s t [] r = refl
unwound m R w s t (a ∷ rest) r = elim (cases_Bool (m.relevant t a)) [
  | inl e ↦ rw e (
      let i = unwound m R w (m.step s a) (m.step t a) rest (w.taken s t a r e) in
      elim (cases_Bool (m.observes t a)) [
        | inl o ↦ let f = w.same_observed s t a r in let g = w.same_output s t a r o in rw (f, o, g, i)
        | inr o ↦ let f = w.same_observed s t a r in rw (f, o, i)
      ])
  | inr e ↦ rw e (
      let i = unwound m R w s (m.step t a) rest (w.left_out s t a r e) in
      elim (cases_Bool (m.observes t a)) [
        | inl o ↦ absurd (both_ways _ e (w.observed_relevant t a o))
        | inr o ↦ rw (o, i)
      ])
]
