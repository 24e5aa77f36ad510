-- A user's cache as numbers: places of 24, newest first, and what looking up and keeping make of them, damaged or not.
use Rattle.std.specs.Prelude.{ℕ, zero, suc, ◌-◌, ◌*◌, ◌/◌, Bool, true, false, if◌then◌else◌, ◌&&◌, List, [], ◌∷◌, ◌++◌, length, take, drop, replicate, Some, None, Option, ◌==◌, nat_lt, slice_index}
use Rattle.std.specs.Option.{option_or}
use Rattle.query.specs.declared.AnswerSummary.{AnswerSummary}
use Rattle.query.specs.declared.AnswerSummary.TheVariants.{Rows as InRows, Total as InTotal, Shared as InShared, NotSeen as InNone}
use Rattle.query.specs.declared.Query.{Query}
use Rattle.query.specs.declared.Query.TheVariants.{Rows as AskRows, Total as AskTotal, Shared as AskShared}
use Rattle.cache.specs.declared.CachedAnswer.{CachedAnswer}
use Rattle.cache.specs.declared.CachedAnswer.TheVariants.{Rows, Total, Shared, NotSeen}

-- a query's kind, its key range, and for shared rows the two compartments; no kind is 0, so an empty place has no query
abbrev pub query_numbers : Query → List ℕ
query_numbers (AskRows range) = 1 ∷ range.from ∷ range.to ∷ 0 ∷ 0 ∷ []
query_numbers (AskTotal range) = 2 ∷ range.from ∷ range.to ∷ 0 ∷ 0 ∷ []
query_numbers (AskShared a b range) = 3 ∷ range.from ∷ range.to ∷ a ∷ b ∷ []

-- sixteen versions: the first ones, and 0 in what is left
abbrev pub sixteen_versions : List ℕ → List ℕ
sixteen_versions versions = take 16 (versions ++ replicate 16 0)

-- what a place is found by
abbrev pub key_numbers : Query → List ℕ → List ℕ
key_numbers query versions = query_numbers query ++ sixteen_versions versions

-- what is kept of an answer
abbrev pub cached_from : AnswerSummary → CachedAnswer
cached_from (InRows compartments) = Rows
cached_from (InTotal rows amount) = Total rows amount
cached_from (InShared rows) = Shared
cached_from InNone = NotSeen

-- what is kept, by its kind and two numbers
abbrev pub answer_numbers : CachedAnswer → List ℕ
answer_numbers Rows = 1 ∷ 0 ∷ 0 ∷ []
answer_numbers (Total rows amount) = 2 ∷ rows ∷ amount ∷ []
answer_numbers Shared = 3 ∷ 0 ∷ 0 ∷ []
answer_numbers NotSeen = 4 ∷ 0 ∷ 0 ∷ []

-- and back: numbers that no answer has keep nothing
abbrev pub answer_from : ℕ → ℕ → ℕ → Option CachedAnswer
answer_from kind rows amount =
    if kind == 1 && (rows == 0 && amount == 0) then Some Rows
    else if kind == 2 then Some (Total rows amount)
    else if kind == 3 && (rows == 0 && amount == 0) then Some Shared
    else if kind == 4 && (rows == 0 && amount == 0) then Some NotSeen else None

abbrev pub same_numbers : List ℕ → List ℕ → Bool
same_numbers [] [] = true
same_numbers [] (y ∷ ys) = false
same_numbers (x ∷ xs) [] = false
same_numbers (x ∷ xs) (y ∷ ys) = x == y && same_numbers xs ys

-- what a place keeps, if it has the key
abbrev pub read_place : List ℕ → List ℕ → Option CachedAnswer
read_place key place =
    if same_numbers key (take 21 place)
    then answer_from (slice_index place 21) (slice_index place 22) (slice_index place 23)
    else None

-- the first of so many places that keeps something under the key
abbrev pub find_in : ℕ → List ℕ → List ℕ → Option CachedAnswer
find_in zero key places = None
find_in (suc n) key places = option_or (read_place key (take 24 places)) (find_in n key (drop 24 places))

-- a place is a whole 24 numbers
abbrev pub look_up : Query → List ℕ → List ℕ → Option CachedAnswer
look_up query versions places = find_in (length places / 24) (key_numbers query versions) places

-- the numbers of a place
abbrev pub place_numbers : Query → List ℕ → CachedAnswer → List ℕ
place_numbers query versions kept = key_numbers query versions ++ answer_numbers kept

-- all places but the oldest
abbrev pub newer_places : List ℕ → List ℕ
newer_places places = take (length places / 24 * 24 - 24) places

-- a new place in front of the first `all` numbers, of which the last place goes
abbrev pub put_first : ℕ → List ℕ → List ℕ → List ℕ
put_first all place places = place ++ (take (all - 24) places ++ drop all places)

-- the new place, all but the oldest of the others, and what is left after whole places; a list too short for one stays
abbrev pub keep_in : Query → List ℕ → CachedAnswer → List ℕ → List ℕ
keep_in query versions kept places =
    if nat_lt (length places) 24 then places
    else put_first (length places / 24 * 24) (place_numbers query versions kept) places
