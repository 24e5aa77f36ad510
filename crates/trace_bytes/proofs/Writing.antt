-- What is written into a trace is read again.
use Rattle.std.proofs.Common.{◌≡◌, ℕ, suc, ◌+◌, ◌*◌, ◌^◌, List, [], ◌∷◌, ◌++◌, length, take, drop, replicate, ◌-◌, Some, Ok, Option, sym, refl, ap, ◌∙◌, subst, append-nil, arith}
use Rattle.std.proofs.lemmas.Bool.Decides.{nat_tests}
use Rattle.std.proofs.lemmas.List.{take-append-drop, length-take-le, length-drop}
use Rattle.query.specs.declared.Query.TheVariants.{Rows, Total, Shared}
use Rattle.request.specs.declared.Request.{Request}
use Rattle.request.specs.declared.Request.TheVariants.{Write, Delete, Copy, Query}
use Rattle.request.specs.declared.kinds.Kind.{Kind}
use Rattle.request.specs.Kinds.{kind_in}
use Rattle.request.specs.Fields.{fields}
use Rattle.request.specs.Decoded.{decode, decode_as}
use Rattle.request.specs.Format.{kind_of, numbers_of, WithinBounds}
use Rattle.request.proofs.Reading.{round_trip, numbers_long}
use Rattle.trace_bytes.specs.declared.layout.Layout.{Layout}
use Rattle.trace_bytes.specs.Bytes.{bytes_each, bytes_by, size}
use Rattle.trace_bytes.specs.NextRequest.{request_layout}
use Rattle.trace_bytes.specs.PolicyNumbers.{policy_layout, policy_of, single_numbers, policy_bytes}
use Rattle.trace_bytes.specs.Written.{request_bytes, bytes_with, RequestRoundTrip, AllLess, InPlaces, PolicyReads, PolicyRoundTrip}
use Rattle.trace_bytes.proofs.Lying.{low_four, low_two, each_single, read_lying, lying_long, read_back, bytes_long}
use Rattle.trace_bytes.proofs.Wholes.{layout_long}

abbrev places : Request → Layout
places q = request_layout (fields (kind_of q))

-- the numbers of a request lie within their places
record Small (q : Request) : Type 0 where
  single : AllLess 256 (take (places q).single (numbers_of q))
  wide : AllLess (2 ^ 32) (drop (places q).single (numbers_of q))

small : (q : Request) → WithinBounds q → Small q
small (Write user row) w = let b = w.1.0 in record { single = (omega arith, (omega arith, tt)); wide = (omega arith, (omega arith, tt)) }
small (Delete user key) w = let b = w.1.0 in record { single = (omega arith, (omega arith, tt)); wide = (omega arith, tt) }
small (Copy user compartment range) w = let b = w.1.0 in record {
  single = (omega arith, (omega arith, tt));
  wide = (omega arith, (omega arith, (omega arith, tt)));
}
small (Query user (Rows range)) w = let b = w.1.0 in record {
  single = (omega arith, (omega arith, (omega arith, tt)));
  wide = (omega arith, (omega arith, tt));
}
small (Query user (Total range)) w = let b = w.1.0 in record {
  single = (omega arith, (omega arith, (omega arith, tt)));
  wide = (omega arith, (omega arith, tt));
}
small (Query user (Shared a b range)) w = let c = w.1.0 in record {
  single = (omega arith, (omega arith, (omega arith, tt)));
  wide = (omega arith, (omega arith, (omega arith, (omega arith, tt))));
}

-- its kind is in its numbers, and in its bytes
kind_written : (q : Request) (rest : List ℕ) → WithinBounds q →
    (kind_in (numbers_of q) ≡ Some (kind_of q)) × (kind_in (request_bytes q ++ rest) ≡ Some (kind_of q))
kind_written (Write user row) rest w = (refl, refl)
kind_written (Delete user key) rest w = (refl, refl)
kind_written (Copy user compartment range) rest w = (refl, refl)
kind_written (Query user (Rows range)) rest w = (refl, refl)
kind_written (Query user (Total range)) rest w = (refl, refl)
kind_written (Query user (Shared a b range)) rest w = (refl, refl)

pub request_round_trip : RequestRoundTrip
request_round_trip q rest w =
    let fit = small q w in
    let kinds = kind_written q rest w in
    let long : length (numbers_of q) ≡ (places q).single + (places q).wide = numbers_long q ∙ sym (layout_long (fields (kind_of q))) in
    let numbers = read_back (places q) (2 ^ 32) low_four (numbers_of q) long fit.single fit.wide rest in
    let taken = bytes_long (places q) (2 ^ 32) low_four (numbers_of q) long fit.single fit.wide in
    let reads : decode_as (Some (kind_of q)) (numbers_of q) ≡ Ok q =
    ap (λ (k : Option Kind). decode_as k (numbers_of q)) (sym kinds.0)
    ∙ ap (λ (xs : List ℕ). decode xs) (sym (append-nil (numbers_of q))) ∙ round_trip q [] w in
    rw (kinds.1, numbers, reads, taken) refl

-- the 0 behind the numbers of a request have no place
pub unpadded : (q : Request) →
    bytes_by (places q) (numbers_of q ++ replicate (7 - length (numbers_of q)) 0) ≡ request_bytes q
unpadded (Write user row) = refl
unpadded (Delete user key) = refl
unpadded (Copy user compartment range) = refl
unpadded (Query user (Rows range)) = refl
unpadded (Query user (Total range)) = refl
unpadded (Query user (Shared a b range)) = refl

pub policy_reads : PolicyReads
policy_reads users compartments views capacities rest few few_compartments views_long capacities_long small =
    let layout : Layout = record { single = 2 + 18 * users; wide = compartments; width = 2 } in
    let front : List ℕ = users ∷ compartments ∷ views in
    let front_long : length front ≡ 2 + 18 * users = omega arith in
    let there : policy_layout (bytes_with users compartments views capacities ++ rest) ≡ layout = grind (arith, nat_tests) in
    let numbers = read_lying layout (2 ^ 16) low_two front capacities front_long capacities_long small rest in
    let taken = lying_long layout (2 ^ 16) low_two front capacities front_long capacities_long small in
    rw there (numbers, sym taken)

-- where the counts announce just so many numbers, these lie in bytes as a policy
module _ (u c : ℕ) (ns : List ℕ) (fit : InPlaces (u ∷ c ∷ ns)) where
  abbrev views : List ℕ
  views = take (18 * u) ns

  abbrev capacities : List ℕ
  capacities = drop (18 * u) ns

  two : 2 + 18 * u ≡ suc (suc (18 * u))
  two = omega arith

  front_is : take (2 + 18 * u) (u ∷ c ∷ ns) ≡ u ∷ c ∷ views
  front_is = ap (λ (k : ℕ). take k (u ∷ c ∷ ns)) two

  back_is : drop (2 + 18 * u) (u ∷ c ∷ ns) ≡ capacities
  back_is = ap (λ (k : ℕ). drop k (u ∷ c ∷ ns)) two

  single_is : single_numbers (u ∷ c ∷ ns) ≡ 2 + 18 * u
  single_is = let few = fit.users in grind (arith, nat_tests)

  written_is : policy_bytes (u ∷ c ∷ ns) ≡ bytes_with u c views capacities
  written_is =
      let single : bytes_each 1 (u ∷ c ∷ views) ≡ u ∷ c ∷ views =
      each_single (u ∷ c ∷ views) (subst (λ (xs : List ℕ). AllLess 256 xs) front_is fit.single) in
      rw (single_is, front_is, back_is) (ap (λ (xs : List ℕ). xs ++ bytes_each 2 capacities) single)

  read_again : (rest : List ℕ) →
      (policy_of (policy_bytes (u ∷ c ∷ ns) ++ rest) ≡ u ∷ c ∷ ns)
      × (size (policy_layout (policy_bytes (u ∷ c ∷ ns) ++ rest)) ≡ length (policy_bytes (u ∷ c ∷ ns)))
  read_again rest =
      let long = fit.long in
      let all : length ns ≡ 18 * u + c = omega arith in
      let views_long : length views ≡ 18 * u = length-take-le (18 * u) ns (omega arith) in
      let capacities_long : length capacities ≡ c = simp length-drop (omega arith) in
      let small = subst (λ (xs : List ℕ). AllLess (2 ^ 16) xs) back_is fit.wide in
      let reads = policy_reads u c views capacities rest fit.users fit.compartments views_long capacities_long small in
      rw written_is (reads.0 ∙ ap (λ (xs : List ℕ). u ∷ c ∷ xs) (take-append-drop (18 * u) ns), reads.1)

pub policy_round_trip : PolicyRoundTrip
policy_round_trip [] rest fit = absurd (let l = fit.long in omega arith)
policy_round_trip (u ∷ []) rest fit = absurd (let l = fit.long in omega arith)
policy_round_trip (u ∷ c ∷ ns) rest fit = read_again u c ns fit rest
