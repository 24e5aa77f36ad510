-- What is read from bytes has keys and amounts below 2^32.
use Rattle.std.proofs.Common.{◌≡◌, ℕ, zero, suc, Bool, true, false, eqb, List, [], ◌∷◌, length, get_or, take, drop, Ok, Err, Result, refl, ◌∙◌, inl, inr}
use Rattle.base.specs.declared.refusal.Refusal.{Refusal}
use Rattle.request.proofs.Reading.{reads_what_stands}
use Rattle.request.specs.Decoded.{decode_as}
use Rattle.request.specs.Fields.{fields_of}
use Rattle.request.specs.Format.{WithinBounds}
use Rattle.request.specs.Kinds.{kind_in}
use Rattle.request.specs.declared.Request.{Request}
use Rattle.request.specs.declared.Request.TheVariants as request
use Rattle.request.specs.declared.decoding.InvalidNumber.{InvalidNumber}
use Rattle.std.proofs.lemmas.Bool.{cases_Bool}
use Rattle.std.specs.List.{AllByRecursion}
use Rattle.store.specs.Simulation.{FitsTypes}
use Rattle.trace_bytes.proofs.Standing.{decoded_same}
use Rattle.trace_bytes.specs.Bytes.{size}
use Rattle.trace_bytes.specs.NextRequest.{next_in, next_of, request_layout, request_numbers, is_whole}
use Rattle.trace_bytes.specs.declared.item.Next.{Next}
use Rattle.trace_bytes.specs.declared.item.Next.TheVariants as next
use Rattle.trace_items.specs.Items.{outcomes_by, outcomes, items_in, items_of, requests_of}
use Rattle.trace_items.specs.declared.items.Item.{Item}
use Rattle.trace_items.specs.declared.items.Item.TheVariants as item

abbrev pub Bounded : Item → Type 0
Bounded (item.Request r) = FitsTypes r
Bounded (item.NoRequest user place) = Unit {0}

-- the item that comes next, if there is one, is bounded
abbrev NextBounded : Next → Type 0
NextBounded (next.Request r length) = FitsTypes r
NextBounded (next.Fault user place length) = Unit {0}
NextBounded (next.End place) = Unit {0}

within : (q : Request) → WithinBounds q → FitsTypes q
within (request.Write user row) b = (b.1.1.0, b.1.1.1.0)
within (request.Delete user key) b = tt
within (request.Copy user c range) b = tt
within (request.Query user query) b = tt

of_bounded : (whole : Bool) (user n : ℕ) (r : Result Request InvalidNumber) → ((q : Request) → r ≡ Ok q → FitsTypes q) → NextBounded (next_of whole user n r)
of_bounded whole user n (Ok q) f = f q refl
of_bounded true user n (Err invalid) f = tt
of_bounded false user n (Err invalid) f = tt

next_bounded : (bytes : List ℕ) → NextBounded (next_in bytes)
next_bounded bytes =
    let kind = kind_in bytes in
    let xs = request_numbers kind bytes in
    of_bounded (is_whole kind bytes) (get_or bytes 1 0) (size (request_layout (fields_of kind))) (decode_as kind xs)
    (λ q e. within q (reads_what_stands xs q (decoded_same bytes ∙ e)).0)

listed : (rest : List ℕ → List (Result Item Refusal)) (bytes : List ℕ) (x : Next) → NextBounded x → ((bs : List ℕ) → AllByRecursion Bounded (items_in (rest bs))) →
    AllByRecursion Bounded (items_in (outcomes_by rest bytes x))
listed rest bytes (next.Request r n) b each = (b, each (drop n bytes))
listed rest bytes (next.Fault user place n) b each = (tt, each (drop n bytes))
listed rest bytes (next.End place) b each = tt

all_bounded : (n : ℕ) (bytes : List ℕ) → AllByRecursion Bounded (items_in (outcomes n bytes))
all_bounded zero bytes = tt
all_bounded (suc n) bytes =
    let more = listed (outcomes n) bytes (next_in bytes) (next_bounded bytes) (all_bounded n) in
    elim (cases_Bool (eqb (length bytes) 0)) [ inl e ↦ rw e tt | inr e ↦ rw e more ]

pub items_bounded : (bytes : List ℕ) → AllByRecursion Bounded (items_of bytes)
items_bounded bytes = all_bounded (length (requests_of bytes)) (requests_of bytes)

-- and so are the first of them
pub take_bounded : (n : ℕ) (is : List Item) → AllByRecursion Bounded is → AllByRecursion Bounded (take n is)
take_bounded zero is b = tt
take_bounded (suc n) [] b = tt
take_bounded (suc n) (i ∷ is) b = (b.0, take_bounded n is b.1)
