-- A user's cache as a list of entries, newest first: what is found among them, and how memory holds them.
use Rattle.std.specs.Prelude.{◌≡◌, ℕ, ◌-◌, ◌*◌, Bool, if◌then◌else◌, ◌&&◌, List, [], ◌∷◌, ◌++◌, length, replicate, Some, None, Option}
use Rattle.std.specs.List.{AllByRecursion}
use Rattle.query.specs.declared.Query.{Query}
use Rattle.query.specs.Answers.{same_query}
use Rattle.cache.specs.declared.CachedAnswer.{CachedAnswer}
use Rattle.cache.specs.CachePlaces.{sixteen_versions, same_numbers, place_numbers, keep_in}

-- a query that was worked out, the versions of what the user sees by then, and what is kept of the answer
pub record Entry : Type 0 where
  pub query : Query
  pub versions : List ℕ
  pub kept : CachedAnswer

-- entries in memory, place after place
abbrev pub entry_numbers : List Entry → List ℕ
entry_numbers [] = []
entry_numbers (e ∷ es) = place_numbers e.query e.versions e.kept ++ entry_numbers es

-- so many places that hold entries, and then zeros
abbrev pub padded_entries : ℕ → List Entry → List ℕ
padded_entries places es = entry_numbers es ++ replicate (24 * places - 24 * length es) 0

-- an entry has the query and the versions, of which sixteen count
abbrev pub entry_matches : Query → List ℕ → Entry → Bool
entry_matches query versions e =
    same_query query e.query && same_numbers (sixteen_versions versions) (sixteen_versions e.versions)

-- what the newest entry with the query and the versions keeps
abbrev pub find_entry : Query → List ℕ → List Entry → Option CachedAnswer
find_entry query versions [] = None
find_entry query versions (e ∷ es) =
    if entry_matches query versions e then Some e.kept else find_entry query versions es

-- the same with all versions counted, which is no different where each entry has as many, and at most sixteen
abbrev pub find_exact : Query → List ℕ → List Entry → Option CachedAnswer
find_exact query versions [] = None
find_exact query versions (e ∷ es) =
    if same_query query e.query && same_numbers versions e.versions then Some e.kept else find_exact query versions es

-- every entry has so many versions: one for each compartment in the view
abbrev pub OfView : ℕ → List Entry → Type 0
OfView n es = AllByRecursion (λ e. length e.versions ≡ n) es

-- entries are kept one after the other
abbrev pub keep_all : List Entry → List ℕ → List ℕ
keep_all [] places = places
keep_all (e ∷ es) places = keep_all es (keep_in e.query e.versions e.kept places)
