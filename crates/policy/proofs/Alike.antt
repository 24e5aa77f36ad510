-- Rules that are the same decide the same.
use Rattle.std.proofs.Common.{◌≡◌, ℕ, ◌<◌, Bool, ◌&&◌, ltb, refl, ap, ◌∙◌, inl, inr}
use Rattle.std.proofs.lemmas.Bool.{cases_Bool, ltb-true}
use Rattle.policy.specs.Access.{may_copy}
use Rattle.policy.specs.Laws.{SameRules}
use Rattle.policy.specs.Rules.{Rules, all_see, flows}
use Rattle.policy.proofs.Steps.{all_see_same}

module _ (p q : Rules) (n : ℕ) (same : SameRules p q n) where
  -- what holds of users who are there holds of both
  among_users : (u : ℕ) (x y : Bool) → (u < p.users → x ≡ y) → (ltb u p.users && x) ≡ (ltb u q.users && y)
  among_users u x y there =
      let users = same.users in
      elim (cases_Bool (ltb u p.users)) [
        | inl e ↦ let xy = there (ltb-true u p.users e) in rw (xy, users) refl
        | inr e ↦ let f = rw users at e in rw (e, f) refl
      ]

  pub flows_alike : (a b : ℕ) → flows p a b ≡ flows q a b
  flows_alike a b = all_see_same p q a b p.users same.view ∙ ap (all_see q a b) same.users

  pub may_copy_alike : (u c : ℕ) → may_copy p u c ≡ may_copy q u c
  may_copy_alike u c =
      among_users u _ _ (λ h. rw (same.view u h, same.writes u h, flows_alike c (q.writes u)) refl)
