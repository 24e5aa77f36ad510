-- Rows sorted by key, as plain lists: what each operation means, said without memory and without a binary search.
use Rattle.std.specs.Prelude.{ℕ, suc, ◌+◌, ◌^◌, ◌<◌, ◌≤◌, Bool, false, if◌then◌else◌, ◌&&◌, ◌||◌, List, [], ◌∷◌, Some, None, Option, ◌==◌, nat_le, nat_lt}
use Rattle.rows.specs.declared.Row.{Row}
use Rattle.rows.specs.declared.KeyRange.{KeyRange}
use Rattle.std.specs.List.{AllByRecursion, filter, list_any}

-- every key is at least `low`, and greater than those before it, so that each is there once
abbrev pub SortedFrom : ℕ → List Row → Type 0
SortedFrom low [] = Unit {0}
SortedFrom low (x ∷ xs) = (low ≤ x.key) × SortedFrom (suc x.key) xs

abbrev pub SortedByKey : List Row → Type 0
SortedByKey xs = SortedFrom 0 xs

-- what a key maps to
abbrev pub amount_of : ℕ → List Row → Option ℕ
amount_of k [] = None
amount_of k (x ∷ xs) = if x.key == k then Some x.amount else amount_of k xs

abbrev pub has_key : ℕ → List Row → Bool
has_key k = list_any (λ x. x.key == k)

-- how many keys are smaller
abbrev pub smaller : ℕ → List Row → ℕ
smaller k [] = 0
smaller k (x ∷ xs) = if nat_lt x.key k then suc (smaller k xs) else smaller k xs

-- the row is inserted by its key, in place of a row with that key
abbrev pub put : Row → List Row → List Row
put r [] = r ∷ []
put r (x ∷ xs) = if nat_lt x.key r.key then x ∷ put r xs else if x.key == r.key then r ∷ xs else r ∷ x ∷ xs

-- rows put one after another
abbrev pub put_all : List Row → List Row → List Row
put_all [] xs = xs
put_all (r ∷ rs) xs = put_all rs (put r xs)

-- the row with a key is removed
abbrev pub without : ℕ → List Row → List Row
without k [] = []
without k (x ∷ xs) = if x.key == k then xs else x ∷ without k xs

-- both ends of a range are included
abbrev pub in_range : KeyRange → Row → Bool
in_range range x = nat_le range.from x.key && nat_le x.key range.to

abbrev pub rows_in : KeyRange → List Row → List Row
rows_in range = filter (in_range range)

abbrev pub sum : List Row → ℕ
sum [] = 0
sum (x ∷ xs) = x.amount + sum xs

-- the rows whose keys are among those of others
abbrev pub also_in : List Row → List Row → List Row
also_in xs ys = filter (λ x. has_key x.key ys) xs

-- amounts as requests bring them
abbrev pub Small : List Row → Type 0
Small xs = AllByRecursion (λ x. x.amount < 2 ^ 32) xs
