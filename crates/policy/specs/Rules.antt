-- A policy as plain numbers and lists: who sees what, who writes where, and where rows may flow.
use Rattle.std.specs.Prelude.{◌≡◌, ℕ, zero, suc, ◌<◌, Bool, true, not, ◌&&◌, ◌||◌, List, ◌==◌}
use Rattle.std.specs.List.{list_any}

abbrev pub has : List ℕ → ℕ → Bool
has xs n = list_any (λ m. m == n) xs

-- for each user the compartments that they see, in their own order (their view), and the one in which they write;
-- for each compartment how many rows it may hold
pub record Rules : Type 0 where
  pub users : ℕ
  pub view : ℕ → List ℕ
  pub writes : ℕ → ℕ
  pub capacity : ℕ → ℕ

abbrev pub sees : Rules → ℕ → ℕ → Bool
sees p u c = has (p.view u) c

-- of the first n users, all who see b see a
abbrev pub all_see : Rules → ℕ → ℕ → ℕ → Bool
all_see p a b zero = true
all_see p a b (suc n) = (not (sees p n b) || sees p n a) && all_see p a b n

-- rows may flow from compartment a to b if everybody who sees b sees a
abbrev pub flows : Rules → ℕ → ℕ → Bool
flows p a b = all_see p a b p.users

-- everybody sees the compartment in which they write
abbrev pub Sound : Rules → Type 0
Sound p = (u : ℕ) → u < p.users → sees p u (p.writes u) ≡ true
