-- Lines, words and decimal numbers in bytes.
use Rattle.std.specs.Prelude.{ℕ, ◌+◌, ◌-◌, ◌*◌, ◌^◌, min, Bool, if◌then◌else◌, not, ◌&&◌, ◌||◌, List, [], ◌∷◌, length, drop, filter, take_while, slice_get, slice_index, unwrap_or, Some, None, Option, ◌==◌}
use Rattle.std.specs.Char.{is_ascii_digit}
use Rattle.std.specs.List.{slice_split}

-- the text without a byte order mark at its beginning
abbrev pub without_mark : List ℕ → List ℕ
without_mark text =
    if slice_index text 0 == 239 && (slice_index text 1 == 187 && slice_index text 2 == 191) then drop 3 text else text

-- after each line feed a new line begins
abbrev pub lines : List ℕ → List (List ℕ)
lines text = slice_split (λ byte. byte == 10) text

-- spaces, tabs and carriage returns
abbrev pub blank : ℕ → Bool
blank byte = byte == 32 || (byte == 9 || byte == 13)

-- what stands between blanks
abbrev pub pieces : List ℕ → List (List ℕ)
pieces line = filter (λ piece. not (length piece == 0)) (slice_split blank line)

-- a piece that begins with `#`: it and what follows it are a comment
abbrev pub begins_comment : List ℕ → Bool
begins_comment piece = slice_index piece 0 == 35

-- the words of a line, up to a comment
abbrev pub words : List ℕ → List (List ℕ)
words line = take_while (λ piece. not (begins_comment piece)) (pieces line)

-- the word at a place, counted from 0; empty if there is none
abbrev pub word_at : List ℕ → ℕ → List ℕ
word_at line place = unwrap_or (slice_get (words line) place) []

-- the number that digits say behind those that say n; any larger number counts as 2^32, which is out of all bounds
abbrev pub digits : ℕ → List ℕ → Option ℕ
digits n [] = Some n
digits n (byte ∷ bytes) = if is_ascii_digit byte then digits (min (10 * n + (byte - 48)) (2 ^ 32)) bytes else None

-- the decimal number that a word is, which isn't empty
abbrev pub number_of : List ℕ → Option ℕ
number_of word = digits 0 word
