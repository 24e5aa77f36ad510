-- Numbers in bytes, as they are read and written: first those of a byte each, then those of several, low byte first.
use Rattle.std.specs.Prelude.{ℕ, zero, suc, ◌+◌, ◌*◌, ◌/◌, ◌%◌, if◌then◌else◌, List, [], ◌∷◌, ◌++◌, length, take, drop, nat_le, slice_index}
use Rattle.std.specs.List.{flat_map}
use Rattle.trace_bytes.specs.declared.layout.Layout.{Layout}

-- the number of up to four bytes, low byte first
abbrev pub low_first : List ℕ → ℕ
low_first bytes =
    slice_index bytes 0 + 256 * slice_index bytes 1 + 65536 * slice_index bytes 2 + 16777216 * slice_index bytes 3

-- at most so many numbers of `width` bytes each; one that is only partly there is missing
abbrev pub numbers_each : ℕ → ℕ → List ℕ → List ℕ
numbers_each width zero bytes = []
numbers_each width (suc n) bytes =
    if nat_le width (length bytes) then low_first (take width bytes) ∷ numbers_each width n (drop width bytes) else []

abbrev pub numbers_in : Layout → List ℕ → List ℕ
numbers_in layout bytes =
    numbers_each 1 layout.single bytes
    ++ numbers_each layout.width layout.wide (drop (length (numbers_each 1 layout.single bytes)) bytes)

-- how many bytes all these numbers take
abbrev pub size : Layout → ℕ
size layout = layout.single + layout.width * layout.wide

-- a number in so many bytes, low byte first
abbrev pub low_bytes : ℕ → ℕ → List ℕ
low_bytes zero n = []
low_bytes (suc width) n = n % 256 ∷ low_bytes width (n / 256)

-- numbers in so many bytes each
abbrev pub bytes_each : ℕ → List ℕ → List ℕ
bytes_each width ns = flat_map (low_bytes width) ns

-- the bytes in which numbers lie, as many as there are places for
abbrev pub bytes_by : Layout → List ℕ → List ℕ
bytes_by layout ns =
    bytes_each 1 (take layout.single ns) ++ bytes_each layout.width (take layout.wide (drop layout.single ns))
