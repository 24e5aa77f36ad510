-- A request that isn't read is refused at the place that is told.
use Rattle.std.specs.Prelude.{◌≡◌, ℕ, List, Err}
use Rattle.request.specs.Kinds.{kind_in}
use Rattle.request.specs.Decoded.{decode}
use Rattle.trace_bytes.specs.declared.item.Next.TheVariants.{Fault, End}
use Rattle.trace_bytes.specs.NextRequest.{next_in, request_numbers}

-- the numbers of the next request that are wholly there
abbrev pub next_numbers : List ℕ → List ℕ
next_numbers bytes = request_numbers (kind_in bytes) bytes

abbrev pub RefusedAtPlace : Type 0
RefusedAtPlace =
    ((bytes : List ℕ) (place : ℕ) → next_in bytes ≡ End place →
    decode (next_numbers bytes) ≡ Err (record { place = place }))
    × ((bytes : List ℕ) (user place length : ℕ) → next_in bytes ≡ Fault user place length →
    decode (next_numbers bytes) ≡ Err (record { place = place }))
