-- What the words of a command line ask for.
use Rattle.std.specs.Prelude.{ℕ, nat_eq, List, [], ◌∷◌, codes, bytes_eq, Option, Some, None, is_some, if◌then◌else◌}
use Rattle.std.specs.List.{starts_with}
use Rattle.command_line.specs.declared.flag.Flag.{Flag}
use Rattle.command_line.specs.declared.flag.Flag.TheVariants.{Help, Version, Unknown}

-- the option that a word is, if it is one
abbrev pub flag_of : List ℕ → Option Flag
flag_of word =
    if bytes_eq word (codes "--help") then Some Help
    else if bytes_eq word (codes "--version") then Some Version
    else if bytes_eq word (codes "-") then None
    else if starts_with nat_eq word (codes "-") then Some Unknown
    else None

-- the option that a command line begins with, if it does
abbrev pub flag_in : List (List ℕ) → Option Flag
flag_in [] = None
flag_in (word ∷ words) = flag_of word

-- the file that the words name, or none for standard input; nothing where they are no words for a file
abbrev pub file_in : List (List ℕ) → Option (Option (List ℕ))
file_in [] = Some None
file_in (word ∷ []) =
    if bytes_eq word (codes "-") then Some None
    else if is_some (flag_of word) then None
    else Some (Some word)
file_in (_ ∷ _ ∷ words) = None
