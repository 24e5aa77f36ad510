-- The next request in bytes: read, at fault but whole, or the end of the trace.
use Rattle.std.specs.Prelude.{ℕ, ◌-◌, ◌<◌, ◌≤◌, Bool, true, false, List, length, Some, None, Ok, Err, Option, Result, count_by, nat_le, slice_index, ◌==◌}
use Rattle.request.specs.declared.Request.{Request}
use Rattle.request.specs.declared.decoding.InvalidNumber.{InvalidNumber}
use Rattle.request.specs.declared.fields.Field.{Field}
use Rattle.request.specs.declared.kinds.Kind.{Kind}
use Rattle.request.specs.Kinds.{kind_in}
use Rattle.request.specs.Fields.{fields_of, width}
use Rattle.request.specs.Decoded.{decode_as}
use Rattle.trace_bytes.specs.declared.layout.Layout.{Layout}
use Rattle.trace_bytes.specs.declared.item.Next.{Next}
use Rattle.trace_bytes.specs.declared.item.Next.TheVariants.{Fault, End}
use Rattle.trace_bytes.specs.Bytes.{numbers_in, size}

-- how many fields are a byte each
abbrev pub byte_fields : List Field → ℕ
byte_fields fs = count_by (λ f. width f == 1) fs

-- how the numbers of a request lie in bytes, by its fields: those of a byte come first
abbrev pub request_layout : List Field → Layout
request_layout fs = record { single = byte_fields fs; wide = length fs - byte_fields fs; width = 4 }

-- the numbers of a request of this kind that are wholly there
abbrev pub request_numbers : Option Kind → List ℕ → List ℕ
request_numbers kind bytes = numbers_in (request_layout (fields_of kind)) bytes

-- is all of a request of this kind there?
abbrev pub is_whole : Option Kind → List ℕ → Bool
is_whole None bytes = false
is_whole (Some kind) bytes = nat_le (size (request_layout (fields_of (Some kind)))) (length bytes)

-- what is read is the next; a request at fault ends the trace unless it is whole
abbrev pub next_of : Bool → ℕ → ℕ → Result Request InvalidNumber → Next
next_of whole user length (Ok request) = Next.Request request length
next_of true user length (Err invalid) = Fault user invalid.place length
next_of false user length (Err invalid) = End invalid.place

abbrev pub next_by : Option Kind → List ℕ → Next
next_by kind bytes =
    next_of (is_whole kind bytes) (slice_index bytes 1) (size (request_layout (fields_of kind)))
    (decode_as kind (request_numbers kind bytes))

abbrev pub next_in : List ℕ → Next
next_in bytes = next_by (kind_in bytes) bytes

-- what is not the end takes at least one byte, and no more than there are
abbrev pub Takes : ℕ → Next → Type 0
Takes bytes (Next.Request request length) = (0 < length) × (length ≤ bytes)
Takes bytes (Fault user place length) = (0 < length) × (length ≤ bytes)
Takes bytes (End place) = Unit {0}
