-- A request is read as it is written, and what is read is what stands there.
use Rattle.std.proofs.Common.{◌≡◌, ℕ, ◌+◌, ◌^◌, ◌≤◌, ltb, List, [], ◌∷◌, length, get_or, slice_get, drop, Some, None, Ok, Option, Result, refl, subst, inl, inr, arith}
use Rattle.std.proofs.lemmas.Bool.{cases_Bool, ltb-false}
use Rattle.std.proofs.lemmas.Bool.Decides.{nat_tests}
use Rattle.query.specs.declared.Query.TheVariants.{Rows, Total, Shared}
use Rattle.request.specs.declared.Request.{Request}
use Rattle.request.specs.declared.Request.TheVariants.{Write, Delete, Copy}
use Rattle.request.specs.declared.kinds.Kind.{Kind}
use Rattle.request.specs.declared.kinds.QueryKind.{QueryKind}
use Rattle.request.specs.Kinds.{kind_number, query_number, kind_numbered, kind_in}
use Rattle.request.specs.Fields.{fields}
use Rattle.request.specs.Decoded.{decode_as, first_invalid, request_in}
use Rattle.request.specs.Format.{kind_of, numbers_of, RoundTrip, BeginsWith, ReadsWhatStands}
use Rattle.request.proofs.Fitting.{each_fits, stands_there}

pub round_trip : RoundTrip
round_trip (Write user row) rest w = grind (arith, nat_tests)
round_trip (Delete user key) rest w = grind (arith, nat_tests)
round_trip (Copy user compartment range) rest w = grind (arith, nat_tests)
round_trip (Request.Query user (Rows range)) rest w = grind (arith, nat_tests)
round_trip (Request.Query user (Total range)) rest w = grind (arith, nat_tests)
round_trip (Request.Query user (Shared a b range)) rest w = grind (arith, nat_tests)

pub ok_same : {A E : Type 0} (a b : A) → ◌≡◌ {A = Result A E} (Ok a) (Ok b) → a ≡ b
ok_same a b h = cc

-- a request is of the kind that it is read as
pub kind_read : (k : Kind) (xs : List ℕ) → kind_of (request_in k xs) ≡ k
kind_read Kind.Write xs = refl
kind_read Kind.Delete xs = refl
kind_read Kind.Copy xs = refl
kind_read (Kind.Query QueryKind.Rows) xs = refl
kind_read (Kind.Query QueryKind.Total) xs = refl
kind_read (Kind.Query QueryKind.Shared) xs = refl

-- a request has a number for each of its fields
pub numbers_long : (q : Request) → length (numbers_of q) ≡ length (fields (kind_of q))
numbers_long (Write user row) = refl
numbers_long (Delete user key) = refl
numbers_long (Copy user compartment range) = refl
numbers_long (Request.Query user (Rows range)) = refl
numbers_long (Request.Query user (Total range)) = refl
numbers_long (Request.Query user (Shared a b range)) = refl

-- a kind that is known has its number
pub number_is : (n : ℕ) (third : Option ℕ) (k : Kind) → kind_numbered (Some n) third ≡ Some k → n ≡ kind_number k
number_is n third Kind.Write h = grind (arith, nat_tests)
number_is n third Kind.Delete h = grind (arith, nat_tests)
number_is n third Kind.Copy h = grind (arith, nat_tests)
number_is n third (Kind.Query q) h = grind (arith, nat_tests)

query_number_is : (n m : ℕ) (q : QueryKind) → kind_numbered (Some n) (Some m) ≡ Some (Kind.Query q) → m ≡ query_number q
query_number_is n m QueryKind.Rows h = grind (arith, nat_tests)
query_number_is n m QueryKind.Total h = grind (arith, nat_tests)
query_number_is n m QueryKind.Shared h = grind (arith, nat_tests)

first_is : (xs : List ℕ) (k : Kind) → kind_in xs ≡ Some k → get_or xs 0 0 ≡ kind_number k
first_is [] k h = absurd cc
first_is (n ∷ xs) k h = number_is n (slice_get (n ∷ xs) 2) k h

third_is : (xs : List ℕ) (q : QueryKind) → kind_in xs ≡ Some (Kind.Query q) → get_or xs 2 0 ≡ query_number q
third_is [] q h = absurd cc
third_is (n ∷ []) q h = absurd (grind (arith, nat_tests))
third_is (n ∷ u ∷ []) q h = absurd (grind (arith, nat_tests))
third_is (n ∷ u ∷ m ∷ xs) q h = query_number_is n m q h

module _ (xs : List ℕ) where
  abbrev AllFit : Kind → Type 0
  AllFit k = 0 + length (fields k) ≤ first_invalid 0 (fields k) xs

  reads : (k : Kind) → kind_in xs ≡ Some k → AllFit k → BeginsWith xs (request_in k xs)
  reads Kind.Write h fit =
      let each = each_fits xs 0 (fields Kind.Write) fit in
      let n = first_is xs Kind.Write h in
      let kind = stands_there xs 0 4 (each 0 (omega arith)) in
      let user = stands_there xs 1 32 (each 1 (omega arith)) in
      let key = stands_there xs 2 (2 ^ 32) (each 2 (omega arith)) in
      let amount = stands_there xs 3 (2 ^ 32) (each 3 (omega arith)) in
      ((omega arith, (user.0, (key.0, (amount.0, tt)))), (drop 4 xs, cc))
  reads Kind.Delete h fit =
      let each = each_fits xs 0 (fields Kind.Delete) fit in
      let n = first_is xs Kind.Delete h in
      let kind = stands_there xs 0 4 (each 0 (omega arith)) in
      let user = stands_there xs 1 32 (each 1 (omega arith)) in
      let key = stands_there xs 2 (2 ^ 32) (each 2 (omega arith)) in
      ((omega arith, (user.0, (key.0, tt))), (drop 3 xs, cc))
  reads Kind.Copy h fit =
      let each = each_fits xs 0 (fields Kind.Copy) fit in
      let n = first_is xs Kind.Copy h in
      let kind = stands_there xs 0 4 (each 0 (omega arith)) in
      let user = stands_there xs 1 32 (each 1 (omega arith)) in
      let compartment = stands_there xs 2 16 (each 2 (omega arith)) in
      let from = stands_there xs 3 (2 ^ 32) (each 3 (omega arith)) in
      let to = stands_there xs 4 (2 ^ 32) (each 4 (omega arith)) in
      ((omega arith, (user.0, (compartment.0, (from.0, (to.0, tt))))), (drop 5 xs, cc))
  reads (Kind.Query QueryKind.Rows) h fit =
      let each = each_fits xs 0 (fields (Kind.Query QueryKind.Rows)) fit in
      let n = first_is xs (Kind.Query QueryKind.Rows) h in
      let m = third_is xs QueryKind.Rows h in
      let kind = stands_there xs 0 4 (each 0 (omega arith)) in
      let user = stands_there xs 1 32 (each 1 (omega arith)) in
      let query = stands_there xs 2 3 (each 2 (omega arith)) in
      let from = stands_there xs 3 (2 ^ 32) (each 3 (omega arith)) in
      let to = stands_there xs 4 (2 ^ 32) (each 4 (omega arith)) in
      ((omega arith, (user.0, (omega arith, (from.0, (to.0, tt))))), (drop 5 xs, cc))
  reads (Kind.Query QueryKind.Total) h fit =
      let each = each_fits xs 0 (fields (Kind.Query QueryKind.Total)) fit in
      let n = first_is xs (Kind.Query QueryKind.Total) h in
      let m = third_is xs QueryKind.Total h in
      let kind = stands_there xs 0 4 (each 0 (omega arith)) in
      let user = stands_there xs 1 32 (each 1 (omega arith)) in
      let query = stands_there xs 2 3 (each 2 (omega arith)) in
      let from = stands_there xs 3 (2 ^ 32) (each 3 (omega arith)) in
      let to = stands_there xs 4 (2 ^ 32) (each 4 (omega arith)) in
      ((omega arith, (user.0, (omega arith, (from.0, (to.0, tt))))), (drop 5 xs, cc))
  reads (Kind.Query QueryKind.Shared) h fit =
      let each = each_fits xs 0 (fields (Kind.Query QueryKind.Shared)) fit in
      let n = first_is xs (Kind.Query QueryKind.Shared) h in
      let m = third_is xs QueryKind.Shared h in
      let kind = stands_there xs 0 4 (each 0 (omega arith)) in
      let user = stands_there xs 1 32 (each 1 (omega arith)) in
      let query = stands_there xs 2 3 (each 2 (omega arith)) in
      let a = stands_there xs 3 16 (each 3 (omega arith)) in
      let b = stands_there xs 4 16 (each 4 (omega arith)) in
      let from = stands_there xs 5 (2 ^ 32) (each 5 (omega arith)) in
      let to = stands_there xs 6 (2 ^ 32) (each 6 (omega arith)) in
      ((omega arith, (user.0, (omega arith, (a.0, (b.0, (from.0, (to.0, tt))))))), (drop 7 xs, cc))

  -- what is read is of a known kind, all its numbers fit, and it is what they stand for
  pub record Decoding (o : Option Kind) (q : Request) : Type 0 where
    pub kind : Kind
    pub known : o ≡ Some kind
    pub fit : AllFit kind
    pub is : request_in kind xs ≡ q

  pub read_as : (o : Option Kind) (q : Request) → decode_as o xs ≡ Ok q → Decoding o q
  read_as None q h = absurd cc
  read_as (Some k) q h = elim (cases_Bool (ltb (first_invalid 0 (fields k) xs) (length (fields k)))) [
    | inl t ↦ let h = rw t at h in absurd cc
    | inr t ↦
        let h = rw t at h in
        let most = ltb-false (first_invalid 0 (fields k) xs) (length (fields k)) t in
        record { kind = k; known = refl; fit = omega arith; is = ok_same _ q h }
  ]

pub reads_what_stands : ReadsWhatStands
reads_what_stands xs q h =
    let r = read_as xs (kind_in xs) q h in
    subst (λ (x : Request). BeginsWith xs x) r.is (reads xs r.kind r.known r.fit)
