-- Entries in memory: looking up and keeping are the same on the list of entries as on the numbers that hold it.
use Rattle.std.proofs.Common.{◌≡◌, ℕ, zero, suc, ◌+◌, ◌-◌, ◌*◌, ◌/◌, ◌≤◌, Bool, true, false, cond, ◌&&◌, ltb, List, [], ◌∷◌, ◌++◌, reverse, length, get_or, take, drop, replicate, Some, None, Option, sym, refl, ap, ◌∙◌, arith}
use lib.Seq.{take-append-add}
use Rattle.std.proofs.lemmas.List.{append-nil, append_assoc, take_all, take_at, take-take, take-append-le, take-replicate, drop_at, drop_all, drop-append-le, drop-replicate, length-take, length-take-le, length-drop, length-append, length-replicate, get_or-append-add, reverse-append}
use Rattle.std.proofs.lemmas.Bool.{le-ltb}
use Rattle.std.proofs.lemmas.Bool.Decides.{nat_tests}
use Rattle.std.specs.Option.{option_or}
use Rattle.query.specs.declared.Query.{Query}
use Rattle.query.specs.declared.Query.TheVariants.{Rows as AskRows, Total as AskTotal, Shared as AskShared}
use Rattle.query.specs.Answers.{same_query}
use Rattle.cache.specs.declared.CachedAnswer.{CachedAnswer}
use Rattle.cache.specs.declared.CachedAnswer.TheVariants.{Rows, Total, Shared, NotSeen}
use Rattle.cache.specs.CachePlaces.{query_numbers, sixteen_versions, key_numbers, answer_numbers, answer_from, place_numbers, same_numbers, read_place, find_in, look_up, keep_in}
use Rattle.cache.specs.Entries.{Entry, entry_numbers, padded_entries, find_entry, find_exact, OfView, keep_all}
use Rattle.cache.proofs.Numbers.{same_decides, sixteen_is}

-- LENGTHS

pub length_sixteen : (versions : List ℕ) → length (sixteen_versions versions) ≡ 16
length_sixteen vs = length-take-le 16 (vs ++ replicate 16 0) (let e = length-append vs (replicate 16 0) in omega arith)

pub length_query : (query : Query) → length (query_numbers query) ≡ 5
length_query (AskRows range) = refl
length_query (AskTotal range) = refl
length_query (AskShared a b range) = refl

pub length_key : (query : Query) (versions : List ℕ) → length (key_numbers query versions) ≡ 21
length_key query vs = omega (arith, length-append (query_numbers query) (sixteen_versions vs), length_query query, length_sixteen vs)

pub length_kept : (kept : CachedAnswer) → length (answer_numbers kept) ≡ 3
length_kept Rows = refl
length_kept (Total rows amount) = refl
length_kept Shared = refl
length_kept NotSeen = refl

pub length_place : (query : Query) (versions : List ℕ) (kept : CachedAnswer) → length (place_numbers query versions kept) ≡ 24
length_place query vs kept = omega (arith, length-append (key_numbers query vs) (answer_numbers kept), length_key query vs, length_kept kept)

pub length_flat : (es : List Entry) → length (entry_numbers es) ≡ 24 * length es
length_flat [] = refl
length_flat (e ∷ es) =
    omega (arith, length-append (place_numbers e.query e.versions e.kept) (entry_numbers es), length_place e.query e.versions e.kept, length_flat es)

pub length_held : (n : ℕ) (es : List Entry) → length es ≤ n → length (padded_entries n es) ≡ 24 * n
length_held n es h = omega (arith, length-append (entry_numbers es) (replicate (24 * n - 24 * length es) 0), length_flat es, length-replicate {A = ℕ} (24 * n - 24 * length es) 0)

-- ONE PLACE

-- what is kept is read back
kept_back : (kept : CachedAnswer) → answer_from (get_or (answer_numbers kept) 0 0) (get_or (answer_numbers kept) 1 0) (get_or (answer_numbers kept) 2 0) ≡ Some kept
kept_back Rows = refl
kept_back (Total rows amount) = refl
kept_back Shared = refl
kept_back NotSeen = refl

-- a place that was written is found by its own key alone
pub kept_in_place : (key own : List ℕ) (kept : CachedAnswer) → length own ≡ 21 → read_place key (own ++ answer_numbers kept) ≡ cond (same_numbers key own) (Some kept) None
kept_in_place key own kept h =
    let at : (i : ℕ) → get_or (own ++ answer_numbers kept) (21 + i) 0 ≡ get_or (answer_numbers kept) i 0 = λ i. rw h at (get_or-append-add own (answer_numbers kept) i 0) in
    rw (take_at own (answer_numbers kept) 21 h, at 0, at 1, at 2, kept_back kept)

-- the first place of several
pub found_first : (n : ℕ) (key place rest : List ℕ) → length place ≡ 24 → find_in (suc n) key (place ++ rest) ≡ option_or (read_place key place) (find_in n key rest)
found_first n key place rest h = rw (take_at place rest 24 h, drop_at place rest 24 h)

or_cond : (b : Bool) (kept : CachedAnswer) (other : Option CachedAnswer) → option_or (cond b (Some kept) None) other ≡ cond b (Some kept) other
or_cond true kept other = refl
or_cond false kept other = refl

pub found_place : (n : ℕ) (key rest : List ℕ) (query : Query) (versions : List ℕ) (kept : CachedAnswer) →
    find_in (suc n) key (place_numbers query versions kept ++ rest) ≡ cond (same_numbers key (key_numbers query versions)) (Some kept) (find_in n key rest)
found_place n key rest query vs kept =
    found_first n key (place_numbers query vs kept) rest (length_place query vs kept)
    ∙ rw (kept_in_place key (key_numbers query vs) kept (length_key query vs)) (or_cond (same_numbers key (key_numbers query vs)) kept (find_in n key rest))

-- the same query with the same versions is the same key
pub same_key : (query other : Query) (versions others : List ℕ) →
    same_numbers (key_numbers query versions) (key_numbers other others) ≡ (same_query query other && same_numbers (sixteen_versions versions) (sixteen_versions others))
same_key (AskRows r) (AskRows s) vs ws = grind (arith, nat_tests)
same_key (AskRows r) (AskTotal s) vs ws = refl
same_key (AskRows r) (AskShared c d s) vs ws = refl
same_key (AskTotal r) (AskRows s) vs ws = refl
same_key (AskTotal r) (AskTotal s) vs ws = grind (arith, nat_tests)
same_key (AskTotal r) (AskShared c d s) vs ws = refl
same_key (AskShared a b r) (AskRows s) vs ws = refl
same_key (AskShared a b r) (AskTotal s) vs ws = refl
same_key (AskShared a b r) (AskShared c d s) vs ws = grind (arith, nat_tests)

-- LOOKING UP

-- an empty place has no query
pub found_in_zeros : (query : Query) (versions : List ℕ) (n z : ℕ) → 24 * n ≤ z → find_in n (key_numbers query versions) (replicate z 0) ≡ None
found_in_zeros query vs zero z h = refl
found_in_zeros query vs (suc n) z h =
    let i = found_in_zeros query vs n (z - 24) (omega arith) in
    rw (take-replicate {X = ℕ} 24 z 0 (omega arith), drop-replicate {X = ℕ} 24 z 0) (passed query ∙ i)
  where
    passed : (query : Query) → option_or (read_place (key_numbers query vs) (replicate 24 0)) (find_in n (key_numbers query vs) (replicate (z - 24) 0)) ≡ find_in n (key_numbers query vs) (replicate (z - 24) 0)
    passed (AskRows range) = refl
    passed (AskTotal range) = refl
    passed (AskShared a b range) = refl

-- what follows the places that are looked at does not matter
pub found_in_append : (n : ℕ) (key xs ys : List ℕ) → 24 * n ≤ length xs → find_in n key (xs ++ ys) ≡ find_in n key xs
found_in_append zero key xs ys h = refl
found_in_append (suc n) key xs ys h =
    let l : 24 ≤ length xs = omega arith in
    let d = length-drop 24 xs in
    rw (take-append-le 24 xs ys l, drop-append-le 24 xs ys l, found_in_append n key (drop 24 xs) ys (omega arith))

found_in_flat : (query : Query) (versions : List ℕ) (n : ℕ) (es : List Entry) (rest : List ℕ) → find_in n (key_numbers query versions) rest ≡ None →
    find_in (length es + n) (key_numbers query versions) (entry_numbers es ++ rest) ≡ find_entry query versions es
found_in_flat query vs n [] rest h = let e : 0 + n ≡ n = omega arith in rw e h
found_in_flat query vs n (e ∷ es) rest h =
    let c : suc (length es) + n ≡ suc (length es + n) = omega arith in
    let i = found_in_flat query vs n es rest h in
    rw (c, append_assoc (place_numbers e.query e.versions e.kept) (entry_numbers es) rest)
    (found_place (length es + n) (key_numbers query vs) (entry_numbers es ++ rest) e.query e.versions e.kept ∙ rw (same_key query e.query vs e.versions, i))

-- what is looked up in memory is what is found among the entries that it holds, followed by zeros
pub look_up_flat : (query : Query) (versions : List ℕ) (es : List Entry) (z : ℕ) → look_up query versions (entry_numbers es ++ replicate z 0) ≡ find_entry query versions es
look_up_flat query vs es z =
    let n : length (entry_numbers es ++ replicate z 0) / 24 ≡ length es + z / 24 =
    omega (arith, length-append (entry_numbers es) (replicate z 0), length_flat es, length-replicate {A = ℕ} z 0) in
    rw n (found_in_flat query vs (z / 24) es (replicate z 0) (found_in_zeros query vs (z / 24) z (omega arith)))

-- KEEPING

cut : (m z : ℕ) (es : List Entry) → 24 * m ≤ 24 * length es + z → take (24 * m) (entry_numbers es ++ replicate z 0) ≡ padded_entries m (take m es)
cut zero z es h = refl
cut (suc m) z [] h = let r : 24 * suc m - 0 ≡ 24 * suc m = omega arith in rw r (take-replicate {X = ℕ} (24 * suc m) z 0 (omega arith))
cut (suc m) z (e ∷ es) h =
    let place = place_numbers e.query e.versions e.kept in
    let l = length_place e.query e.versions e.kept in
    let c : 24 * suc m ≡ length place + 24 * m = omega arith in
    let i = cut m z es (omega arith) in
    let r : 24 * suc m - 24 * suc (length (take m es)) ≡ 24 * m - 24 * length (take m es) = omega arith in
    rw (r, append_assoc place (entry_numbers es) (replicate z 0))
    (ap (λ k. take k (place ++ (entry_numbers es ++ replicate z 0))) c
    ∙ take-append-add place (entry_numbers es ++ replicate z 0) (24 * m)
    ∙ rw i (sym (append_assoc place (entry_numbers (take m es)) (replicate (24 * m - 24 * length (take m es)) 0))))

-- an entry is kept in memory as it comes in front of the list, of which as many stay as there are places
pub keep_held : (e : Entry) (n : ℕ) (es : List Entry) → length es ≤ n → keep_in e.query e.versions e.kept (padded_entries n es) ≡ padded_entries n (take n (e ∷ es))
keep_held e zero [] h = refl
keep_held e zero (f ∷ es) h = absurd (omega arith)
keep_held e (suc n) es h =
    let place = place_numbers e.query e.versions e.kept in
    let xs = padded_entries (suc n) es in
    let l : length xs ≡ 24 * suc n = length_held (suc n) es h in
    let all : length xs / 24 * 24 ≡ 24 * suc n = omega arith in
    let some : ltb (length xs) 24 ≡ false = le-ltb (length xs) 24 (omega arith) in
    let less : 24 * suc n - 24 ≡ 24 * n = omega arith in
    let r : 24 * suc n - 24 * suc (length (take n es)) ≡ 24 * n - 24 * length (take n es) = omega arith in
    rw (some, all, less, cut n (24 * suc n - 24 * length es) es (omega arith), drop_all (24 * suc n) xs (omega arith), append-nil (padded_entries n (take n es)), r)
    (sym (append_assoc place (entry_numbers (take n es)) (replicate (24 * n - 24 * length (take n es)) 0)))

take_append_take : (m n : ℕ) (xs ys : List Entry) → m ≤ n → take m (xs ++ take n ys) ≡ take m (xs ++ ys)
take_append_take m n [] ys h = take-take m n ys h
take_append_take zero n (x ∷ xs) ys h = refl
take_append_take (suc m) n (x ∷ xs) ys h = ap (λ l. x ∷ l) (take_append_take m n xs ys (omega arith))

-- after many were kept memory holds the newest, in the order in which they came
pub keep_all_held : (n : ℕ) (es old : List Entry) → length old ≤ n → keep_all es (padded_entries n old) ≡ padded_entries n (take n (reverse es ++ old))
keep_all_held n [] old h = rw (take_all n old h)
keep_all_held n (e ∷ es) old h =
    let l = length-take n (e ∷ old) in
    rw (
      keep_held e n old h,
      keep_all_held n es (take n (e ∷ old)) (omega arith),
      take_append_take n n (reverse es) (e ∷ old) (omega arith),
      reverse-append (e ∷ []) es,
      append_assoc (reverse es) (e ∷ []) old,
    )

-- SIXTEEN VERSIONS

pub same_refl : (xs : List ℕ) → same_numbers xs xs ≡ true
same_refl xs = (same_decides xs xs).1 refl

same_append : (xs ys zs : List ℕ) → length xs ≡ length ys → same_numbers (xs ++ zs) (ys ++ zs) ≡ same_numbers xs ys
same_append [] [] zs h = same_refl zs
same_append [] (y ∷ ys) zs h = absurd (omega arith)
same_append (x ∷ xs) [] zs h = absurd (omega arith)
same_append (x ∷ xs) (y ∷ ys) zs h = rw (same_append xs ys zs (omega arith))

sixteen_fewer : (versions : List ℕ) → length versions ≤ 16 → sixteen_versions versions ≡ versions ++ drop (length versions) (replicate 16 0)
sixteen_fewer vs h = sym (sixteen_is vs (length vs) (omega arith)) ∙ rw (take_all (length vs) vs (omega arith))

pub same_sixteen : (versions others : List ℕ) → length versions ≡ length others → length versions ≤ 16 →
    same_numbers (sixteen_versions versions) (sixteen_versions others) ≡ same_numbers versions others
same_sixteen vs ws e h =
    rw (sixteen_fewer vs h, sixteen_fewer ws (omega arith), ← e) (same_append vs ws (drop (length vs) (replicate 16 0)) e)

-- with one version for each compartment in the view, and at most sixteen, the versions themselves are compared
pub find_is_exact : (query : Query) (versions : List ℕ) (es : List Entry) → length versions ≤ 16 → OfView (length versions) es →
    find_entry query versions es ≡ find_exact query versions es
find_is_exact query vs [] h v = refl
find_is_exact query vs (e ∷ es) h v = rw (same_sixteen vs e.versions (sym v.0) h, find_is_exact query vs es h v.1)
