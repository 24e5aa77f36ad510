-- What a cache is for: what is found was kept, under the same query and the same versions, and the newest of it stays.
use Rattle.std.specs.Prelude.{◌≡◌, ℕ, ◌+◌, ◌*◌, ◌≤◌, List, ◌∷◌, Any, reverse, length, take, drop, replicate, Some, None, ◌≢◌}
use Rattle.query.specs.declared.Query.{Query}
use Rattle.cache.specs.declared.CachedAnswer.{CachedAnswer}
use Rattle.cache.specs.CachePlaces.{sixteen_versions, place_numbers, look_up, keep_in, newer_places}
use Rattle.cache.specs.Entries.{Entry, padded_entries, OfView, find_entry, find_exact, keep_all}

-- WHAT IS KEPT IS FOUND by the same query with the same versions, wherever there is a place.
abbrev pub KeptIsFound : Type 0
KeptIsFound = (query : Query) (versions : List ℕ) (kept : CachedAnswer) (places : List ℕ) → 24 ≤ length places →
    look_up query versions (keep_in query versions kept places) ≡ Some kept

-- THE OTHERS STAY. For another query or other versions, what is found after a keep is what all places but the oldest
-- had: of 192 numbers, the first 168.
abbrev pub OthersStay : Type 0
OthersStay = (query other : Query) (versions others : List ℕ) (kept : CachedAnswer) (places : List ℕ) →
    24 ≤ length places →
    (query ≡ other → sixteen_versions versions ≢ sixteen_versions others) →
    look_up other others (keep_in query versions kept places) ≡ look_up other others (newer_places places)

-- Sixteen numbers tell versions apart that are equally many and at most sixteen.
abbrev pub SixteenTell : Type 0
SixteenTell = (versions others : List ℕ) → length versions ≡ length others → length versions ≤ 16 →
    sixteen_versions versions ≡ sixteen_versions others → versions ≡ others

-- WHAT IS FOUND IS THERE, number by number: a damaged place is never taken for something that it is not.
abbrev pub FoundIsThere : Type 0
FoundIsThere = (query : Query) (versions : List ℕ) (kept : CachedAnswer) (places : List ℕ) →
    look_up query versions places ≡ Some kept →
    (i : ℕ) × (24 * i + 24 ≤ length places) × (take 24 (drop (24 * i) places) ≡ place_numbers query versions kept)

-- AN EMPTY CACHE FINDS NOTHING.
abbrev pub EmptyFindsNothing : Type 0
EmptyFindsNothing = (query : Query) (versions : List ℕ) (n : ℕ) → look_up query versions (replicate n 0) ≡ None

-- THE LAST EIGHT. After entries were kept one after the other, from n empty places, what is found is what the newest
-- matching one of the last n keeps. A user has eight places.
abbrev pub LastKept : Type 0
LastKept = (query : Query) (versions : List ℕ) (n : ℕ) (entries : List Entry) →
    look_up query versions (keep_all entries (replicate (24 * n) 0))
    ≡ find_entry query versions (take n (reverse entries))

-- an entry keeps this for this query with these versions
pub record Keeps (query : Query) (versions : List ℕ) (kept : CachedAnswer) (e : Entry) : Type 0 where
  pub same_query : query ≡ e.query
  pub same_versions : sixteen_versions versions ≡ sixteen_versions e.versions
  pub same_kept : kept ≡ e.kept

-- So what is found was kept, for this query with these versions, among the last n.
abbrev pub FoundWasKept : Type 0
FoundWasKept = (query : Query) (versions : List ℕ) (kept : CachedAnswer) (n : ℕ) (entries : List Entry) →
    look_up query versions (keep_all entries (replicate (24 * n) 0)) ≡ Some kept →
    Any (Keeps query versions kept) (take n (reverse entries))

-- MEMORY HOLDS ENTRIES. A look-up in so many places that hold entries and zeros is one among the entries,
abbrev pub LookUpIsFind : Type 0
LookUpIsFind = (query : Query) (versions : List ℕ) (n : ℕ) (entries : List Entry) →
    look_up query versions (padded_entries n entries) ≡ find_entry query versions entries

-- and keeping one is to put it in front, and to keep as many as there are places.
abbrev pub KeepComesFirst : Type 0
KeepComesFirst = (entry : Entry) (n : ℕ) (entries : List Entry) → length entries ≤ n →
    keep_in entry.query entry.versions entry.kept (padded_entries n entries)
    ≡ padded_entries n (take n (entry ∷ entries))

-- With one version for each compartment in the view, and at most sixteen, the versions themselves are compared.
abbrev pub FindIsExact : Type 0
FindIsExact = (query : Query) (versions : List ℕ) (entries : List Entry) →
    length versions ≤ 16 → OfView (length versions) entries →
    find_entry query versions entries ≡ find_exact query versions entries
