-- A request that is read is whole, and its kind is the same in its numbers and in its bytes.
use Rattle.std.proofs.Common.{◌≡◌, ℕ, zero, suc, ◌+◌, ◌*◌, ◌<◌, ◌≤◌, Bool, true, false, ◌==◌, List, length, drop, Some, None, Ok, Err, Option, Result, sym, refl, subst, lit<, mul-zero, mul-suc, arith, length-append, length-drop}
use Rattle.std.proofs.lemmas.Bool.{leb-true, le-leb}
use Rattle.std.proofs.lemmas.Bool.Decides.{nat_tests}
use Rattle.std.proofs.lemmas.Option.{same_Some}
use Rattle.std.proofs.lemmas.List.Sums.{count_by-le-length}
use Rattle.request.specs.declared.Request.{Request}
use Rattle.request.specs.declared.decoding.InvalidNumber.{InvalidNumber}
use Rattle.request.specs.declared.fields.Field.{Field}
use Rattle.request.specs.declared.kinds.Kind.{Kind}
use Rattle.request.specs.declared.kinds.Kind.TheVariants.{Write, Delete, Copy, Query}
use Rattle.request.specs.declared.kinds.QueryKind.TheVariants.{Rows, Total, Shared}
use Rattle.request.specs.Kinds.{kind_in}
use Rattle.request.specs.Fields.{fields, fields_of, width}
use Rattle.request.specs.Decoded.{decode_as, first_invalid}
use Rattle.request.proofs.Fitting.{enough}
use Rattle.request.proofs.Reading.{read_as}
use Rattle.trace_bytes.specs.declared.layout.Layout.{Layout}
use Rattle.trace_bytes.specs.Bytes.{numbers_each, numbers_in, size}
use Rattle.trace_bytes.specs.NextRequest.{request_layout, request_numbers, is_whole, next_of, next_in, Takes}
use Rattle.trace_bytes.proofs.Filling.{words_most}

-- if all numbers are there, so are all their bytes
words_full : (width n : ℕ) (bytes : List ℕ) → n ≤ length (numbers_each width n bytes) → width * n ≤ length bytes
words_full width zero bytes h = rw (mul-zero width) (omega arith)
words_full width (suc n) bytes h =
    let more : n ≤ length (numbers_each width n (drop width bytes)) → width * n ≤ length (drop width bytes) = words_full width n (drop width bytes) in
    let left = length-drop width bytes in
    let product = mul-suc width n in
    grind (arith, nat_tests)

pub numbers_full : (layout : Layout) (bytes : List ℕ) → layout.single + layout.wide ≤ length (numbers_in layout bytes) →
    size layout ≤ length bytes
numbers_full layout bytes h =
    let singles : List ℕ = numbers_each 1 layout.single bytes in
    let both = length-append singles (numbers_each layout.width layout.wide (drop (length singles) bytes)) in
    let most = words_most 1 layout.single bytes in
    let most_wide = words_most layout.width layout.wide (drop (length singles) bytes) in
    let full = words_full 1 layout.single bytes (omega arith) in
    let full_wide = words_full layout.width layout.wide (drop (length singles) bytes) (omega arith) in
    let left = length-drop (length singles) bytes in
    omega arith

-- each field has a place
pub layout_long : (fs : List Field) → (request_layout fs).single + (request_layout fs).wide ≡ length fs
layout_long fs = let few = count_by-le-length (λ f. width f == 1) fs in omega arith

module _ (bytes : List ℕ) where
  pub whole_if_read : (kind : Option Kind) (q : Request) → decode_as kind (request_numbers kind bytes) ≡ Ok q →
      is_whole kind bytes ≡ true
  whole_if_read None q h = absurd cc
  whole_if_read (Some k) q h =
      let xs : List ℕ = request_numbers (Some k) bytes in
      let read = read_as xs (Some k) q h in
      let fit : length (fields k) ≤ first_invalid 0 (fields k) xs =
      subst (λ (k : Kind). length (fields k) ≤ first_invalid 0 (fields k) xs) (sym (same_Some k read.kind read.known)) (let f = read.fit in omega arith) in
      let all = enough xs (fields k) fit in
      le-leb (size (request_layout (fields k))) (length bytes)
      (numbers_full (request_layout (fields k)) bytes (let long = layout_long (fields k) in omega arith))

-- what is not the end takes a byte, and is there
long : (kind : Option Kind) → 0 < size (request_layout (fields_of kind))
long None = lit< tt
long (Some Write) = lit< tt
long (Some Delete) = lit< tt
long (Some Copy) = lit< tt
long (Some (Query Rows)) = lit< tt
long (Some (Query Total)) = lit< tt
long (Some (Query Shared)) = lit< tt

of_takes : (whole : Bool) (user n m : ℕ) (r : Result Request InvalidNumber) → 0 < n → (whole ≡ true → n ≤ m) →
    ((q : Request) → r ≡ Ok q → whole ≡ true) → Takes m (next_of whole user n r)
of_takes whole user n m (Ok q) some there read = (some, there (read q refl))
of_takes true user n m (Err invalid) some there read = (some, there refl)
of_takes false user n m (Err invalid) some there read = tt

whole_there : (kind : Option Kind) (bytes : List ℕ) → is_whole kind bytes ≡ true →
    size (request_layout (fields_of kind)) ≤ length bytes
whole_there None bytes h = absurd cc
whole_there (Some k) bytes h = leb-true (size (request_layout (fields k))) (length bytes) h

pub read_takes : (kind : Option Kind) (bytes : List ℕ) (q : Request) →
    decode_as kind (request_numbers kind bytes) ≡ Ok q →
    (0 < size (request_layout (fields_of kind))) × (size (request_layout (fields_of kind)) ≤ length bytes)
read_takes kind bytes q h = (long kind, whole_there kind bytes (whole_if_read bytes kind q h))

pub next_takes : (bytes : List ℕ) → Takes (length bytes) (next_in bytes)
next_takes bytes =
    of_takes (is_whole (kind_in bytes) bytes) _ (size (request_layout (fields_of (kind_in bytes)))) (length bytes)
    (decode_as (kind_in bytes) (request_numbers (kind_in bytes) bytes))
    (long (kind_in bytes)) (whole_there (kind_in bytes) bytes) (whole_if_read bytes (kind_in bytes))
