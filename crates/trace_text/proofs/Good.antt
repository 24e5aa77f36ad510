-- The numbers of a policy that lines say are within their bounds, as far as they are said.
use Rattle.std.proofs.Common.{◌≡◌, ℕ, zero, suc, ◌+◌, ◌-◌, ◌/◌, ◌<◌, ◌≤◌, true, false, not, eqb, ltb, ◌⊎◌, List, [], ◌∷◌, ◌++◌, length, get_or, take, drop, replicate, sym, refl, ap, ◌∙◌, inl, inr, append_assoc, arith}
use Rattle.std.proofs.lemmas.List.{length-append, length-replicate, get_or_append_left, get_or-append-add, get_or_at, take_at, take-append-le, drop-append-le, drop_at, drop-drop, length-drop}
use Rattle.std.proofs.lemmas.Bool.{and_parts, or_cases, ltb-true, ltb-false, eqb-true, eqb-false, cases_Bool, cases_eq, not_from_true}
use Rattle.std.specs.List.{AllByRecursion}
use Rattle.policy.specs.Numbers.{users_in, compartments_in, user_at, view_in, writes_in, bad_view}
use Rattle.policy.specs.Rules.{has}
use Rattle.policy.specs.Views.{distinct_below}
use Rattle.trace_bytes.specs.Written.{AllLess}
use Rattle.trace_text.specs.Lines.{UserView, single_numbers, stage_of}
use Rattle.trace_text.specs.Said.{contract_numbers, view_places}
use Rattle.trace_text.specs.declared.stages.Stage.{Stage}
use Rattle.trace_text.specs.declared.stages.Stage.TheVariants as stage
use Rattle.trace_text.proofs.Oks.{Stands}

-- what the numbers of a policy are within
pub record Good (ns : List ℕ) : Type 0 where
  pub users : 0 < length ns → (1 ≤ users_in ns) × (users_in ns ≤ 32)
  pub compartments : 1 < length ns → (1 ≤ compartments_in ns) × (compartments_in ns ≤ 16)
  pub views : (u : ℕ) → user_at u + 18 ≤ length ns → u < users_in ns →
      (1 ≤ get_or ns (user_at u) 0) × (get_or ns (user_at u) 0 ≤ 16) × (bad_view ns u ≡ false)
  pub capacities : (c : ℕ) → user_at (users_in ns) + c < length ns →
      (1 ≤ get_or ns (user_at (users_in ns) + c) 0) × (get_or ns (user_at (users_in ns) + c) 0 ≤ 64)
  pub shape : 1 < length ns →
      ((k : ℕ) × (k ≤ users_in ns) × (length ns ≡ user_at k)) ⊎ ((c : ℕ) × (c ≤ compartments_in ns) × (length ns ≡ user_at (users_in ns) + c))
  pub small : AllLess 256 ns

-- what a stage says of the numbers before it
abbrev pub Fits : List ℕ → Stage → Type 0
Fits ns stage.Users = length ns ≡ 0
Fits ns stage.Compartments = length ns ≡ 1
Fits ns (stage.User user compartments) =
    (1 < length ns) × (length ns < single_numbers ns) × (user ≡ (length ns - 2) / 18) × (compartments ≡ compartments_in ns)
Fits ns (stage.Capacity compartment) = (1 < length ns) × (single_numbers ns ≤ length ns) × (length ns - single_numbers ns < compartments_in ns)
Fits ns stage.Requests = (1 < length ns) × (single_numbers ns ≤ length ns) × (compartments_in ns ≤ length ns - single_numbers ns)

pub stage_fits : (ns : List ℕ) → Fits ns (stage_of ns)
stage_fits ns =
    elim (cases_Bool (eqb (length ns) 0)) [
      | inl a ↦ rw a (eqb-true (length ns) 0 a)
      | inr a ↦ elim (cases_Bool (eqb (length ns) 1)) [
        | inl b ↦ rw (a, b) (eqb-true (length ns) 1 b)
        | inr b ↦
            let two : 1 < length ns = omega (arith, eqb-false (length ns) 0 a, eqb-false (length ns) 1 b) in
            elim (cases_Bool (ltb (length ns) (single_numbers ns))) [
              | inl d ↦ rw (a, b, d) (two, ltb-true (length ns) (single_numbers ns) d, refl, refl)
              | inr d ↦ elim (cases_Bool (ltb (length ns - single_numbers ns) (compartments_in ns))) [
                | inl f ↦ rw (a, b, d, f) (two, ltb-false (length ns) (single_numbers ns) d, ltb-true (length ns - single_numbers ns) (compartments_in ns) f)
                | inr f ↦ rw (a, b, d, f) (two, ltb-false (length ns) (single_numbers ns) d, ltb-false (length ns - single_numbers ns) (compartments_in ns) f)
              ]
            ]
      ]
    ]

pub all_append : {A : Type 0} (P : A → Type 0) (xs ys : List A) → AllByRecursion P xs → AllByRecursion P ys →
    AllByRecursion P (xs ++ ys)
all_append P [] ys a b = b
all_append P (x ∷ xs) ys a b = (a.0, all_append P xs ys a.1 b)

less_append : (xs ys : List ℕ) → AllLess 256 xs → AllLess 256 ys → AllLess 256 (xs ++ ys)
less_append xs ys a b = all_append (λ (n : ℕ). n < 256) xs ys a b

less_zeros : (n : ℕ) → AllLess 256 (replicate n 0)
less_zeros zero = tt
less_zeros (suc n) = (omega arith, less_zeros n)

pub less_more : (a b : ℕ) (xs : List ℕ) → a ≤ b → AllLess a xs → AllLess b xs
less_more a b [] h l = tt
less_more a b (x ∷ xs) h l = (let s = l.0 in omega arith, less_more a b xs h l.1)

distinct_less : (n : ℕ) (xs : List ℕ) → distinct_below n xs ≡ true → AllLess n xs
distinct_less n [] e = tt
distinct_less n (x ∷ xs) e =
    let p = and_parts (ltb x n) _ e in
    let q = and_parts (not (has xs x)) (distinct_below n xs) p.1 in
    (ltb-true x n p.0, distinct_less n xs q.1)

has_less : (n c : ℕ) (xs : List ℕ) → AllLess n xs → has xs c ≡ true → (c < n) × (1 ≤ length xs)
has_less n c [] l e = absurd cc
has_less n c (x ∷ xs) l e =
    elim (or_cases (eqb x c) (has xs c) e) [
      | inl t ↦ let s = eqb-true x c t in let b = l.0 in (omega arith, omega arith)
      | inr t ↦ let r = has_less n c xs l.1 t in (r.0, omega arith)
    ]

-- what stands within the front stays where more is said
module _ (ns xs : List ℕ) where
  get_d_front : (i : ℕ) → i < length ns → get_or (ns ++ xs) i 0 ≡ get_or ns i 0
  get_d_front i h = get_or_append_left ns xs 0 i h

  view_front : (u : ℕ) → user_at u + 18 ≤ length ns → get_or ns (user_at u) 0 ≤ 16 → view_in (ns ++ xs) u ≡ view_in ns u
  view_front u h few =
      let first = get_d_front (user_at u) (omega arith) in
      let long = length-drop (user_at u + 1) ns in
      rw (first, drop-append-le (user_at u + 1) ns xs (omega arith)) (take-append-le (get_or ns (user_at u) 0) (drop (user_at u + 1) ns) xs (omega arith))

  bad_front : (u : ℕ) → user_at u + 18 ≤ length ns → get_or ns (user_at u) 0 ≤ 16 →
      bad_view (ns ++ xs) u ≡ bad_view ns u
  bad_front u h few =
      let view = view_front u h few in
      let writes = get_d_front (user_at u + 17) (omega arith) in
      let counts = get_d_front 1 (omega arith) in
      rw (counts, view, writes) refl

  -- the views and capacities that were there are there
  views_front : Good ns → 1 < length ns → (u : ℕ) → user_at u + 18 ≤ length ns → u < users_in (ns ++ xs) →
      (1 ≤ get_or (ns ++ xs) (user_at u) 0) × (get_or (ns ++ xs) (user_at u) 0 ≤ 16) × (bad_view (ns ++ xs) u ≡ false)
  views_front g two u h low =
      let users = get_d_front 0 (omega arith) in
      let old = g.views u h (omega arith) in
      let first = get_d_front (user_at u) (omega arith) in
      let least = old.0 in
      let most = old.1 in
      (omega arith, omega arith, bad_front u h most ∙ old.2)

pub one_user : (n : ℕ) → (1 ≤ n) × (n ≤ 32) → Good (n ∷ [])
one_user n b = record {
  users = λ _. b;
  compartments = λ h. absurd (omega arith);
  views = λ u h low. absurd (omega arith);
  capacities = λ c h. absurd (omega arith);
  shape = λ h. absurd (omega arith);
  small = (let m = b.1 in omega arith, tt);
}

pub two_counts : (u n : ℕ) → Good (u ∷ []) → (1 ≤ n) × (n ≤ 16) → Good (u ∷ n ∷ [])
two_counts u n g b = record {
  users = λ _. g.users (omega arith);
  compartments = λ _. b;
  views = λ v h low. absurd (omega arith);
  capacities = λ c h. absurd (omega arith);
  shape = λ _. inl (0, omega arith, refl);
  small = (g.small.0, (let m = b.1 in omega arith, tt));
}

-- a user's eighteen numbers behind those of the users before
module _ (ns : List ℕ) (g : Good ns) (k : ℕ) (long : length ns ≡ user_at k) (low : k < users_in ns) (c : UserView) (s : Stands (compartments_in ns) c) where
  abbrev cs : List ℕ
  cs = c.view

  abbrev places : List ℕ
  places = view_places cs

  abbrev xs : List ℕ
  xs = contract_numbers c

  abbrev all : List ℕ
  all = ns ++ xs

  two : 1 < length ns
  two = omega arith

  places_long : length places ≡ 16
  places_long =
      let few = s.few in
      length-append cs (replicate (16 - length cs) 0) ∙ omega (arith, length-replicate {A = ℕ} (16 - length cs) 0)

  xs_long : length xs ≡ 18
  xs_long = let p = places_long in let a = length-append places (c.writes ∷ []) in omega arith

  all_long : length all ≡ user_at (k + 1)
  all_long = length-append ns xs ∙ omega (arith, xs_long)

  parts : (distinct_below (compartments_in ns) cs ≡ true) × (has cs c.writes ≡ true)
  parts = and_parts (distinct_below (compartments_in ns) cs) (has cs c.writes) s.stands

  less : AllLess (compartments_in ns) cs
  less = distinct_less (compartments_in ns) cs parts.0

  written : (c.writes < compartments_in ns) × (1 ≤ length cs)
  written = has_less (compartments_in ns) c.writes cs less parts.1

  count_here : get_or all (user_at k) 0 ≡ length cs
  count_here = get_or_at ns (length cs) (places ++ c.writes ∷ []) 0 (user_at k) long

  behind_count : drop (user_at k + 1) all ≡ places ++ c.writes ∷ []
  behind_count = sym (drop-drop 1 (user_at k) all) ∙ ap (λ (ys : List ℕ). drop 1 ys) (drop_at ns xs (user_at k) long)

  view_here : view_in all k ≡ cs
  view_here =
      rw (count_here, behind_count)
      (ap (λ (ys : List ℕ). take (length cs) ys) (append_assoc cs (replicate (16 - length cs) 0) (c.writes ∷ []))
      ∙ take_at cs (replicate (16 - length cs) 0 ++ c.writes ∷ []) (length cs) refl)

  writes_here : writes_in all k ≡ c.writes
  writes_here =
      ap (λ (i : ℕ). get_or all i 0) (omega (arith, long))
      ∙ get_or-append-add ns xs 17 0 ∙ get_or_at places c.writes [] 0 16 places_long

  good_here : bad_view all k ≡ false
  good_here =
      let counts = get_d_front ns xs 1 two in
      rw (counts, view_here, writes_here) (not_from_true _ s.stands)

  user_views : (u : ℕ) → user_at u + 18 ≤ length all → u < users_in all →
      (1 ≤ get_or all (user_at u) 0) × (get_or all (user_at u) 0 ≤ 16) × (bad_view all u ≡ false)
  user_views u h below =
      let check_end = all_long in
      elim (cases_eq u k) [
        | inl e ↦ let few = s.few in let some = written.1 in let here = count_here in rw e (omega arith, omega arith, good_here)
        | inr e ↦ views_front ns xs g two u (omega arith) below
      ]

  pub one_more_user : Good all
  one_more_user =
      let users = get_d_front ns xs 0 (omega arith) in
      let compartments = get_d_front ns xs 1 two in
      let check_end = all_long in
      record {
        users = λ _. let b = g.users (omega arith) in (omega (arith, b.0), omega (arith, b.1));
        compartments = λ _. let b = g.compartments two in (omega (arith, b.0), omega (arith, b.1));
        views = user_views;
        capacities = λ d h. absurd (omega arith);
        shape = λ _. inl (k + 1, omega arith, check_end);
        small =
            let b = (g.compartments two).1 in
            let few = s.few in
            let w = written.0 in
            less_append ns xs g.small (
              omega arith,
              less_append places (c.writes ∷ [])
                  (less_append cs _ (less_more (compartments_in ns) 256 cs (omega arith) less) (less_zeros (16 - length cs)))
                  (omega arith, tt),
            );
      }

-- a capacity behind those of the compartments before
module _ (ns : List ℕ) (g : Good ns) (c : ℕ) (two : 1 < length ns) (long : length ns ≡ user_at (users_in ns) + c) (low : c < compartments_in ns) (n : ℕ) (b : (1 ≤ n) × (n ≤ 64)) where
  abbrev more : List ℕ
  more = ns ++ n ∷ []

  more_long : length more ≡ length ns + 1
  more_long = length-append ns (n ∷ [])

  same_users : users_in more ≡ users_in ns
  same_users = get_d_front ns (n ∷ []) 0 (omega arith)

  capacity_at : (d : ℕ) → user_at (users_in ns) + d < length more →
      (1 ≤ get_or more (user_at (users_in ns) + d) 0) × (get_or more (user_at (users_in ns) + d) 0 ≤ 64)
  capacity_at d h =
      let check_end = more_long in
      elim (cases_eq d c) [
        | inl e ↦
            let here = get_or_at ns n [] 0 (user_at (users_in ns) + c) long in
            rw (e, here) b
        | inr e ↦
            let lower : user_at (users_in ns) + d < length ns = omega arith in
            let old = g.capacities d lower in
            rw (get_d_front ns (n ∷ []) (user_at (users_in ns) + d) lower) old
      ]

  pub one_more_capacity : Good more
  one_more_capacity =
      let users = same_users in
      let compartments = get_d_front ns (n ∷ []) 1 two in
      let check_end = more_long in
      record {
        users = λ _. let o = g.users (omega arith) in (omega (arith, o.0), omega (arith, o.1));
        compartments = λ _. let o = g.compartments two in (omega (arith, o.0), omega (arith, o.1));
        views = λ u h below. views_front ns (n ∷ []) g two u (omega arith) below;
        capacities = λ d h. rw users (capacity_at d (let t = h in omega arith));
        shape = λ _. inr (c + 1, omega arith, omega arith);
        small = less_append ns (n ∷ []) g.small (let m = b.1 in omega arith, tt);
      }
