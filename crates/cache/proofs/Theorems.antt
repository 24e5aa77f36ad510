-- The laws of the cache.
use Rattle.std.proofs.Common.{◌≡◌, ℕ, zero, suc, ◌+◌, ◌-◌, ◌*◌, ◌/◌, ◌≤◌, false, cond, ltb, List, [], ◌∷◌, ◌++◌, reverse, length, take, drop, replicate, Some, None, Option, sym, refl, ap, ◌∙◌, inl, inr, arith}
use Rattle.std.proofs.lemmas.List.{append-nil, length-take-le, length-drop, drop-drop, length-append}
use Rattle.std.proofs.lemmas.Bool.{cases_Bool, le-ltb}
use Rattle.std.specs.Prelude.{Any}
use Rattle.std.specs.Option.{option_or}
use Rattle.query.specs.declared.Query.{Query}
use Rattle.cache.specs.declared.CachedAnswer.{CachedAnswer}
use Rattle.cache.specs.CachePlaces.{sixteen_versions, key_numbers, answer_numbers, place_numbers, same_numbers, read_place, find_in, look_up, newer_places, keep_in}
use Rattle.cache.specs.Entries.{Entry, padded_entries, entry_matches, find_entry, keep_all}
use Rattle.cache.specs.Laws.{Keeps, KeptIsFound, OthersStay, SixteenTell, FoundIsThere, EmptyFindsNothing, LastKept, FoundWasKept, LookUpIsFind}
use Rattle.cache.proofs.Numbers.{same_decides}
use Rattle.cache.proofs.Stored.{same_refl, same_sixteen, same_key, length_place, found_place, found_in_append, look_up_flat, keep_all_held}
use Rattle.cache.proofs.Reading.{key_told, place_told}

-- what is looked up after a keep: the new place, or else all places but the oldest
look_up_kept : (query other : Query) (versions others : List ℕ) (kept : CachedAnswer) (places : List ℕ) → 24 ≤ length places →
    look_up other others (keep_in query versions kept places) ≡ cond (same_numbers (key_numbers other others) (key_numbers query versions)) (Some kept) (look_up other others (newer_places places))
look_up_kept query other vs ws kept xs h =
    let n = length xs / 24 - 1 in
    let all = length xs / 24 * 24 in
    let place = place_numbers query vs kept in
    let rest = drop all xs in
    let some : ltb (length xs) 24 ≡ false = le-ltb (length xs) 24 h in
    let front : length (newer_places xs) ≡ 24 * n = length-take-le (all - 24) xs (omega arith) ∙ omega arith in
    let whole : length (place ++ (newer_places xs ++ rest)) / 24 ≡ suc n =
    omega (arith, length-append place (newer_places xs ++ rest), length-append (newer_places xs) rest, length_place query vs kept, length-drop all xs) in
    let those : length (newer_places xs) / 24 ≡ n = omega arith in
    rw (some, whole, those)
    (found_place n (key_numbers other ws) (newer_places xs ++ rest) query vs kept ∙ rw (found_in_append n (key_numbers other ws) (newer_places xs) rest (omega arith)))

pub kept_is_found : KeptIsFound
kept_is_found query vs kept xs h = look_up_kept query query vs vs kept xs h ∙ rw (same_refl (key_numbers query vs))

pub sixteen_tell : SixteenTell
sixteen_tell vs ws e h k = (same_decides vs ws).0 (sym (same_sixteen vs ws e h) ∙ (same_decides (sixteen_versions vs) (sixteen_versions ws)).1 k)

pub empty_finds_nothing : EmptyFindsNothing
empty_finds_nothing query vs n = look_up_flat query vs [] n

pub last_kept : LastKept
last_kept query vs n es =
    let z : 24 * n - 0 ≡ 24 * n = omega arith in
    let k : keep_all es (replicate (24 * n) 0) ≡ padded_entries n (take n (reverse es ++ [])) = rw z at (keep_all_held n es [] (omega arith)) in
    rw (k, append-nil (reverse es)) (look_up_flat query vs (take n (reverse es)) (24 * n - 24 * length (take n (reverse es))))

pub others_stay : OthersStay
others_stay query other vs ws kept xs h apart = look_up_kept query other vs ws kept xs h ∙ elim (cases_Bool (same_numbers (key_numbers other ws) (key_numbers query vs))) [
  | inl t ↦ let k = key_told other query ws vs t in absurd (apart (sym k.0) (sym k.1))
  | inr t ↦ rw t
]

-- of the first place that keeps something, where it is
stands : (n : ℕ) (key xs : List ℕ) (kept : CachedAnswer) → 24 * n ≤ length xs → find_in n key xs ≡ Some kept →
    (i : ℕ) × (24 * i + 24 ≤ length xs) × (take 24 (drop (24 * i) xs) ≡ key ++ answer_numbers kept)
stands zero key xs kept h e = absurd cc
stands (suc n) key xs kept h e = go (read_place key (take 24 xs)) refl (stands n key (drop 24 xs) kept (omega (arith, length-drop 24 xs))) e
  where
    go : (o : Option CachedAnswer) → read_place key (take 24 xs) ≡ o →
        (find_in n key (drop 24 xs) ≡ Some kept → (i : ℕ) × (24 * i + 24 ≤ length (drop 24 xs)) × (take 24 (drop (24 * i) (drop 24 xs)) ≡ key ++ answer_numbers kept)) →
        option_or o (find_in n key (drop 24 xs)) ≡ Some kept →
        (i : ℕ) × (24 * i + 24 ≤ length xs) × (take 24 (drop (24 * i) xs) ≡ key ++ answer_numbers kept)
    go None o later e =
        let l = later e in
        let s : 24 * suc l.0 ≡ 24 + 24 * l.0 = omega arith in
        (suc l.0, omega (arith, length-drop 24 xs, l.1), rw (s, ← drop-drop (24 * l.0) 24 xs) l.2)
    go (Some k) o later e =
        let f : k ≡ kept = cc in
        (0, omega arith, place_told key (take 24 xs) kept (length-take-le 24 xs (omega arith)) (o ∙ ap Some f))

pub found_is_there : FoundIsThere
found_is_there query vs kept xs e = stands (length xs / 24) (key_numbers query vs) xs kept (omega arith) e

any_found : (query : Query) (versions : List ℕ) (kept : CachedAnswer) (es : List Entry) → find_entry query versions es ≡ Some kept →
    Any (Keeps query versions kept) es
any_found query vs kept [] h = absurd cc
any_found query vs kept (e ∷ es) h = elim (cases_Bool (entry_matches query vs e)) [
  | inl t ↦
      let k = key_told query e.query vs e.versions (same_key query e.query vs e.versions ∙ t) in
      let g = rw t at h in
      (0, e, omega arith, refl, record { same_query = k.0; same_versions = k.1; same_kept = cc })
  | inr t ↦
      let a = any_found query vs kept es (rw t at h) in
      (suc a.0, a.1, omega (arith, a.2), a.3, a.4)
]

pub found_was_kept : FoundWasKept
found_was_kept query vs kept n es h = any_found query vs kept (take n (reverse es)) (sym (last_kept query vs n es) ∙ h)

pub look_up_is_find : LookUpIsFind
look_up_is_find query vs n es = look_up_flat query vs es (24 * n - 24 * length es)
