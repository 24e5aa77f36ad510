-- Tests over a list, one element on and at the end: what a loop that makes them keeps.
use Rattle.std.proofs.Common.{◌≡◌, ℕ, zero, suc, ◌+◌, ◌*◌, ◌<◌, ◌≤◌, Bool, true, leb, List, [], ◌∷◌, length, get_or, take, sym, ◌∙◌, ap, refl, suc-le-suc, zero-le, le_of_suc-le-suc, not-suc-le-zero, arith}
use Rattle.std.proofs.lemmas.List.{take_all}
use Rattle.std.proofs.lemmas.Bool.{and_parts, and_from, leb-true}
use Rattle.policy.specs.Layout.{size, end_from}
use Rattle.policy.specs.Policies.{all_within, rules_from, lets}
use Rattle.std.specs.List.{list_all}
use Rattle.policy.specs.Rules.{Rules, all_see, flows}
use Rattle.policy.specs.declared.contract.Contract.{Contract}
use Rattle.std.proofs.lemmas.List.Folds.{list_all_more}
use Rattle.std.proofs.Math.Bool.{and_comm}
use Rattle.policy.specs.Views.{nobody}

pub all_at : {X : Type 0} (test : X → Bool) (d : X) (xs : List X) (i : ℕ) → i < length xs → list_all test xs ≡ true → test (get_or xs i d) ≡ true
all_at test d [] i h e = absurd (not-suc-le-zero h)
all_at test d (x ∷ xs) zero h e = (and_parts (test x) (list_all test xs) e).0
all_at test d (x ∷ xs) (suc i) h e = all_at test d xs i (le_of_suc-le-suc h) (and_parts (test x) (list_all test xs) e).1

pub all_from : {X : Type 0} (test : X → Bool) (d : X) (xs : List X) → ((i : ℕ) → i < length xs → test (get_or xs i d) ≡ true) → list_all test xs ≡ true
all_from test d [] each = refl
all_from test d (x ∷ xs) each = and_from (test x) (list_all test xs) (each 0 (suc-le-suc zero-le)) (all_from test d xs (λ i h. each (suc i) (suc-le-suc h)))

pub within_at : (most : ℕ) (xs : List ℕ) (i : ℕ) → i < length xs → all_within most xs ≡ true → get_or xs i 0 ≤ most
within_at most xs i h e = leb-true (get_or xs i 0) most (all_at (λ c. leb c most) 0 xs i h e)

end_bound : (at : ℕ) (xs : List ℕ) → all_within 4096 xs ≡ true → end_from at xs ≤ at + 8194 * length xs
end_bound at [] e = omega arith
end_bound at (c ∷ cs) e =
    let t = and_parts (leb c 4096) (all_within 4096 cs) e in
    omega (arith, leb-true c 4096 t.0, end_bound (at + size c) cs t.1)

pub end_within : (xs : List ℕ) → length xs ≤ 16 → all_within 4096 xs ≡ true → end_from 0 xs ≤ 131104
end_within xs h e = omega (arith, end_bound 0 xs e)

-- rows may flow where each user lets them
all_see_list : (m : ℕ) (cs : List Contract) (xs : List ℕ) (a b n : ℕ) → n ≤ length cs → all_see (rules_from m cs xs) a b n ≡ list_all (lets a b) (take n cs)
all_see_list m cs xs a b zero h = refl
all_see_list m cs xs a b (suc n) h =
    let more = list_all_more (lets a b) cs n nobody (omega arith) in
    let rest = all_see_list m cs xs a b n (omega arith) in
    let next : n + 1 ≡ suc n = omega arith in
    rw rest (and_comm (lets a b (get_or cs n nobody)) (list_all (lets a b) (take n cs)) ∙ sym more ∙ ap (λ (k : ℕ). list_all (lets a b) (take k cs)) next)

pub lets_flow : (n : ℕ) (cs : List Contract) (xs : List ℕ) (a b : ℕ) → length cs ≡ n → list_all (lets a b) cs ≡ flows (rules_from n cs xs) a b
lets_flow n cs xs a b long =
    let whole : take n cs ≡ cs = take_all n cs (omega arith) in
    sym (all_see_list n cs xs a b n (omega arith) ∙ ap (list_all (lets a b)) whole)

-- flows go by the views alone
pub all_see_same : (p q : Rules) (a b n : ℕ) → ((u : ℕ) → u < n → p.view u ≡ q.view u) → all_see p a b n ≡ all_see q a b n
all_see_same p q a b zero same = refl
all_see_same p q a b (suc n) same =
    let e = same n (omega arith) in let rest = all_see_same p q a b n (λ u h. same u (omega arith)) in rw (e, rest) refl
