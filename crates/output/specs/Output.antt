-- What an output holds, and what writing to it does.
use Rattle.std.specs.Prelude.{◌≡◌, ℕ, ◌<◌, Bool, true, List, [], ◌∷◌, ◌++◌, length, take, decimal, Option, Result, Ok, Err}
use Rattle.std.specs.Io.KnownBytes.{Appends, Keeps}
use Rattle.output.specs.declared.Piece.{Piece}
use Rattle.output.specs.declared.Piece.TheVariants.{Text, Number}

-- what was written, where that is known, and whether a write has failed
pub record OutputState : Type 0 where
  pub contents : Option (List ℕ)
  pub failed : Bool

-- a text as it is, and a number in decimal
abbrev pub piece_bytes : Piece → List ℕ
piece_bytes (Text text) = text.now
piece_bytes (Number number) = decimal number

-- a piece and those that follow it
abbrev pub bytes_from : Piece → List Piece → List ℕ
bytes_from p [] = piece_bytes p
bytes_from p (q ∷ qs) = piece_bytes p ++ bytes_from q qs

-- the pieces one after the other
abbrev pub bytes_of : List Piece → List ℕ
bytes_of [] = []
bytes_of (p ∷ ps) = bytes_from p ps

-- all of the bytes were written, and nothing failed; to a failed output nothing can be written
pub record WritesAll (old new : OutputState) (bytes : List ℕ) : Type 0 where
  pub appended : Appends old.contents new.contents bytes
  pub kept : new.failed ≡ old.failed
  pub intact : old.failed ≡ true → bytes ≡ []

-- a write failed, and a beginning of the bytes was written; to a failed output nothing
pub record WritesPart (old new : OutputState) (bytes : List ℕ) : Type 0 where
  pub count : ℕ
  pub fewer : count < length bytes
  pub appended : Appends old.contents new.contents (take count bytes)
  pub failed : new.failed ≡ true
  pub intact : old.failed ≡ true → count ≡ 0

-- writing the bytes: all of them where it succeeds, and else a beginning
abbrev pub Writes : {X E : Type 0} → OutputState → OutputState → Result X E → List ℕ → Type 0
Writes old new (Ok x) bytes = WritesAll old new bytes
Writes old new (Err e) bytes = WritesPart old new bytes

-- a flush appends nothing, and may fail
abbrev pub Flushes : {X E : Type 0} → OutputState → OutputState → Result X E → Type 0
Flushes old new (Ok x) = WritesAll old new []
Flushes old new (Err e) = Keeps old.contents new.contents × (new.failed ≡ true)

-- a beginning of the bytes came behind what the writer holds, and not all of them
pub record AppendsPart (old new : Option (List ℕ)) (bytes : List ℕ) : Type 0 where
  pub count : ℕ
  pub fewer : count < length bytes
  pub appended : Appends old new (take count bytes)

-- how many bytes a write took
abbrev pub taken : {E : Type 0} → Result ℕ E → ℕ
taken (Ok count) = count
taken (Err e) = 0
