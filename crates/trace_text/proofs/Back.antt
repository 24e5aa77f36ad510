-- What is written of a text is read again.
use Rattle.std.proofs.Common.{◌≡◌, ℕ, zero, suc, ◌+◌, ◌-◌, ◌/◌, ◌%◌, ◌^◌, ◌<◌, ◌≤◌, Bool, true, false, ltb, List, [], ◌∷◌, ◌++◌, length, get_or, drop, None, Ok, Err, Result, sym, refl, ap, ◌∙◌, subst, inl, inr, append-nil, arith}
use Rattle.std.proofs.lemmas.List.{drop_at, nil_from_length}
use Rattle.std.proofs.lemmas.Bool.{cond-true, cond-false, cases_Bool, cases_lt, cases_eq, or_from, not_from_true, lt-leb, le-leb, le-ltb, and_from, ne_eqb, eq-eqb}
use Rattle.std.specs.List.{AllByRecursion}
use Rattle.policy.specs.Numbers.{users_in, compartments_in, user_at, bad_view, at_fault, within, places, first, policy_fault}
use Rattle.request.specs.declared.Request.{Request}
use Rattle.request.specs.Format.{WithinBounds}
use Rattle.request.proofs.Reading.{ok_same}
use Rattle.trace_bytes.specs.Bytes.{size}
use Rattle.trace_bytes.specs.PolicyNumbers.{policy_layout, policy_bytes}
use Rattle.trace_bytes.specs.Written.{InPlaces, request_bytes, requests_bytes}
use Rattle.trace_bytes.proofs.Standing.{small_behind, small_front}
use Rattle.trace_bytes.proofs.Writing.{request_round_trip, policy_round_trip}
use Rattle.trace_text.specs.Laws.{HoldRequests, ReadAs, ReadsBack}
use Rattle.trace_text.specs.Lines.{and_then, single_numbers, is_silent, stage_of, count_said, capacity_said, user_said, request_said}
use Rattle.trace_text.specs.Said.{Content, nothing, join, contract_numbers, of_numbers, of_request, entry_at, entry_said, line_said, end_at, check_end, at_line, lines_said}
use Rattle.trace_text.specs.Words.{without_mark, lines}
use Rattle.trace_text.specs.declared.fault.Reason.{Reason}
use Rattle.trace_text.specs.declared.names.Name.TheVariants as name
use Rattle.trace_text.specs.declared.stages.Stage.{Stage}
use Rattle.trace_text.specs.declared.stages.Stage.TheVariants as stage
use Rattle.trace_text.proofs.Oks.{Stands, then_ok, count_ok, capacity_ok, user_ok, request_ok}
use Rattle.trace_text.proofs.Good.{Good, Fits, stage_fits, all_append, less_more, one_user, two_counts, one_more_user, one_more_capacity}

-- behind the users the numbers are no longer a byte each
single_is : (ns : List ℕ) → Good ns → 1 < length ns → single_numbers ns ≡ user_at (users_in ns)
single_is ns g two = cond-false (ltb 32 (users_in ns)) _ _ (le-ltb 32 (users_in ns) (g.users (omega arith)).1)

-- the numbers that a line adds are good behind good ones
nothing_more : (ns : List ℕ) (e : Content) → e.numbers ≡ [] → Good ns → Good (ns ++ e.numbers)
nothing_more ns e none g = subst (λ (xs : List ℕ). Good xs) (sym (append-nil ns) ∙ ap (λ (xs : List ℕ). ns ++ xs) (sym none)) g

grows : (s : Stage) (ns line : List ℕ) (e : Content) → Fits ns s → Good ns → entry_at s line ≡ Ok e →
    Good (ns ++ e.numbers)
grows stage.Users ns line e f g h =
    let count = then_ok (count_said name.Users 32 line) _ e h in
    let is = ok_same _ e count.2 in
    let new = one_user count.0 (count_ok name.Users 32 line count.0 count.1) in
    let none = nil_from_length ns f in
    subst (λ (x : Content). Good (ns ++ x.numbers)) is (subst (λ (xs : List ℕ). Good (xs ++ count.0 ∷ [])) (sym none) new)
grows stage.Compartments [] line e f g h = absurd (omega arith)
grows stage.Compartments (u ∷ v ∷ ns) line e f g h = absurd (omega arith)
grows stage.Compartments (u ∷ []) line e f g h =
    let count = then_ok (count_said name.Compartments 16 line) _ e h in
    let is = ok_same _ e count.2 in
    let new = two_counts u count.0 g (count_ok name.Compartments 16 line count.0 count.1) in
    subst (λ (x : Content). Good (u ∷ x.numbers)) is new
grows (stage.User user compartments) ns line e f g h =
    let read = then_ok (user_said user compartments line) _ e h in
    let is = ok_same _ e read.2 in
    let single = single_is ns g f.0 in
    let short = f.1 in
    elim (g.shape f.0) [
      | inl s ↦ subst (λ (x : Content). Good (ns ++ x.numbers)) is
          (one_more_user ns g s.0 s.2 (let t = s.2 in omega arith) read.0 (subst (λ (n : ℕ). Stands n read.0) f.3 (user_ok user compartments line read.0 read.1)))
      | inr s ↦ let t = s.2 in absurd (omega arith)
    ]
grows (stage.Capacity compartment) ns line e f g h =
    let read = then_ok (capacity_said compartment line) _ e h in
    let is = ok_same _ e read.2 in
    let single = single_is ns g f.0 in
    let long = f.1 in
    let low = f.2 in
    let c : ℕ = length ns - user_at (users_in ns) in
    subst (λ (x : Content). Good (ns ++ x.numbers)) is
    (one_more_capacity ns g c f.0 (omega arith) (omega arith) read.0 (capacity_ok compartment line read.0 read.1))
grows stage.Requests ns line e f g h =
    let read = then_ok (request_said line) _ e h in
    subst (λ (x : Content). Good (ns ++ x.numbers)) (ok_same _ e read.2) (nothing_more ns (of_request read.0) refl g)

-- a line of the policy asks for nothing
asks_nothing : {A : Type 0} (r : Result A Reason) (numbers : A → List ℕ) (e : Content) →
    and_then r (λ a. Ok (of_numbers (numbers a))) ≡ Ok e →
    AllByRecursion WithinBounds e.requests
asks_nothing r numbers e h =
    let t = then_ok r _ e h in subst (λ (x : Content). AllByRecursion WithinBounds x.requests) (ok_same _ e t.2) tt

asks : (s : Stage) (line : List ℕ) (e : Content) → entry_at s line ≡ Ok e → AllByRecursion WithinBounds e.requests
asks stage.Users line e h = asks_nothing (count_said name.Users 32 line) (λ n. n ∷ []) e h
asks stage.Compartments line e h = asks_nothing (count_said name.Compartments 16 line) (λ n. n ∷ []) e h
asks (stage.User user compartments) line e h = asks_nothing (user_said user compartments line) contract_numbers e h
asks (stage.Capacity compartment) line e h = asks_nothing (capacity_said compartment line) (λ n. n ∷ []) e h
asks stage.Requests line e h =
    let t = then_ok (request_said line) _ e h in
    subst (λ (x : Content). AllByRecursion WithinBounds x.requests) (ok_same _ e t.2) (request_ok line t.0 t.1, tt)

-- what lines say is within its bounds
record Sound (said : Content) : Type 0 where
  numbers : Good said.numbers
  requests : AllByRecursion WithinBounds said.requests

nothing_sound : Sound nothing
nothing_sound = record {
  numbers = record {
    users = λ h. absurd (omega arith);
    compartments = λ h. absurd (omega arith);
    views = λ u h low. absurd (omega arith);
    capacities = λ c h. absurd (omega arith);
    shape = λ h. absurd (omega arith);
    small = tt;
  };
  requests = tt;
}

entry_sound : (said : Content) (line : List ℕ) (e : Content) → Sound said → entry_said said.numbers line ≡ Ok e →
    Sound (join said e)
entry_sound said line e s h =
    elim (cases_Bool (is_silent line)) [
      | inl t ↦
          let is = ok_same nothing e (rw t at h) in
          subst (λ (x : Content). Sound (join said x)) is (record {
            numbers = nothing_more said.numbers nothing refl s.numbers;
            requests = all_append WithinBounds said.requests [] s.requests tt;
          })
      | inr t ↦ let read = rw t at h in record {
        numbers = grows (stage_of said.numbers) said.numbers line e (stage_fits said.numbers) s.numbers read;
        requests = all_append WithinBounds said.requests (e.requests) s.requests (asks (stage_of said.numbers) line e read);
      }
    ]

line_sound : (said more : Content) (line : List ℕ) → Sound said → line_said said line ≡ Ok more → Sound more
line_sound said more line s h =
    let e = then_ok (entry_said said.numbers line) _ more h in
    subst (λ (x : Content). Sound x) (ok_same _ more e.2) (entry_sound said line e.0 s e.1)

at_line_ok : (n : ℕ) (r : Result Content Reason) (said : Content) → at_line n r ≡ Ok said → r ≡ Ok said
at_line_ok n (Ok x) said e = ap (λ (y : Content). Ok y) (ok_same x said e)
at_line_ok n (Err reason) said e = absurd cc

whole_ok : (s : Stage) (said more : Content) → end_at s said ≡ Ok more → (s ≡ stage.Requests) × (said ≡ more)
whole_ok stage.Users said more e = absurd cc
whole_ok stage.Compartments said more e = absurd cc
whole_ok (stage.User user compartments) said more e = absurd cc
whole_ok (stage.Capacity compartment) said more e = absurd cc
whole_ok stage.Requests said more e = (refl, ok_same said more e)

lines_sound : (n : ℕ) (said more : Content) (ls : List (List ℕ)) → Sound said → lines_said n said ls ≡ Ok more →
    Sound more × (stage_of more.numbers ≡ stage.Requests)
lines_sound n said more [] s h =
    let w = whole_ok (stage_of said.numbers) said more (at_line_ok (n - 1) (check_end said) more h) in
    subst (λ (x : Content). Sound x × (stage_of x.numbers ≡ stage.Requests)) w.1 (s, w.0)
lines_sound n said more (l ∷ ls) s h =
    let t = then_ok (at_line n (line_said said l)) _ more h in
    lines_sound (n + 1) t.0 more ls (line_sound said t.0 l s (at_line_ok n (line_said said l) t.0 t.1)) t.2

-- a whole policy is not refused
none_first : (f : ℕ → Bool) (i n : ℕ) → ((k : ℕ) → i ≤ k → k < i + n → f k ≡ false) → first f i n ≡ None
none_first f i zero each = refl
none_first f i (suc n) each = rw (each i (omega arith) (omega arith)) (none_first f (i + 1) n (λ k low high. each k (omega arith) (omega arith)))

module _ (ns : List ℕ) (g : Good ns) (two : 1 < length ns) (long : length ns ≡ user_at (users_in ns) + compartments_in ns) where
  abbrev u : ℕ
  u = users_in ns

  abbrev c : ℕ
  c = compartments_in ns

  right : (place : ℕ) → place < length ns → within 64 u place (get_or ns place 0) ≡ true
  right place h =
      let us = g.users (omega arith) in
      let cs = g.compartments two in
      elim (cases_eq place 0) [
        | inl e ↦ rw e (and_from _ _ (le-leb 1 u us.0) (le-leb u 32 us.1))
        | inr z ↦ elim (cases_eq place 1) [
          | inl e ↦ rw e (and_from _ _ (le-leb 1 c cs.0) (le-leb c 16 cs.1))
          | inr o ↦ elim (cases_lt place (user_at u)) [
            | inr e ↦
                let same : user_at u + (place - user_at u) ≡ place = omega arith in
                let b = rw same at (g.capacities (place - user_at u) (omega arith)) in
                rw (ne_eqb place 0 z, ne_eqb place 1 o, le-leb (user_at u) place e)
                (and_from _ _ (le-leb 1 (get_or ns place 0) b.0) (le-leb (get_or ns place 0) 64 b.1))
            | inl e ↦ elim (cases_eq ((place - 2) % 18) 0) [
              | inr m ↦ rw (ne_eqb place 0 z, ne_eqb place 1 o, lt-leb (user_at u) place e, ne_eqb ((place - 2) % 18) 0 m) refl
              | inl m ↦
                  let v : ℕ = (place - 2) / 18 in
                  let same : user_at v ≡ place = omega arith in
                  let b = rw same at (g.views v (omega arith) (omega arith)) in
                  rw (ne_eqb place 0 z, ne_eqb place 1 o, lt-leb (user_at u) place e, eq-eqb ((place - 2) % 18) 0 m)
                  (and_from _ _ (le-leb 1 (get_or ns place 0) b.0) (le-leb (get_or ns place 0) 16 b.1))
            ]
          ]
        ]
      ]

  places_are : places ns ≡ user_at u + c
  places_are =
      let us = g.users (omega arith) in
      let cs = g.compartments two in
      cond-true _ _ _ (and_from _ _ (and_from _ _ (le-leb 1 u us.0) (le-leb u 32 us.1)) (and_from _ _ (le-leb 1 c cs.0) (le-leb c 16 cs.1)))

  no_fault : first (at_fault 64 ns) 0 (places ns) ≡ None
  no_fault =
      none_first (at_fault 64 ns) 0 (places ns) (λ k low high.
      let there : k < length ns = let e = places_are in omega arith in
      or_from _ _ (lt-leb (length ns) k there) (not_from_true _ (right k there)))

  no_bad : first (bad_view ns) 0 u ≡ None
  no_bad = none_first (bad_view ns) 0 u (λ k low high. (g.views k (omega arith) (omega arith)).2)

  not_refused : policy_fault 64 ns ≡ None
  not_refused = rw (no_fault, no_bad) refl

-- the requests are written one after the other
holds : (qs : List Request) → AllByRecursion WithinBounds qs → HoldRequests (requests_bytes qs) qs
holds [] w = refl
holds (q ∷ qs) w =
    let rest : List ℕ = requests_bytes qs in (
      length (request_bytes q),
      request_round_trip q rest w.0,
      subst (λ (xs : List ℕ). HoldRequests xs qs) (sym (drop_at (request_bytes q) rest (length (request_bytes q)) refl)) (holds qs w.1),
    )

whole_long : (ns : List ℕ) → Good ns → Fits ns stage.Requests → length ns ≡ user_at (users_in ns) + compartments_in ns
whole_long ns g f =
    let some = (g.compartments f.0).0 in
    let single = single_is ns g f.0 in
    let long = f.1 in
    let all = f.2 in
    elim (g.shape f.0) [
      | inl s ↦ let few = s.1 in let is = s.2 in absurd (omega arith)
      | inr s ↦ let few = s.1 in let is = s.2 in omega arith
    ]

-- and the policy's numbers lie within their places
in_places : (ns : List ℕ) → Good ns → 1 < length ns → length ns ≡ user_at (users_in ns) + compartments_in ns →
    InPlaces ns
in_places ns g two long = record {
  users = (g.users (omega arith)).1;
  compartments = (g.compartments two).1;
  long = long;
  single = small_front 256 (user_at (users_in ns)) ns g.small;
  wide =
      less_more 256 (2 ^ 16) (drop (user_at (users_in ns)) ns) (omega arith)
      (small_behind 256 (user_at (users_in ns)) ns g.small);
}

read_as : (ns : List ℕ) (qs : List Request) → Good ns → AllByRecursion WithinBounds qs → Fits ns stage.Requests →
    ReadAs (policy_bytes ns ++ requests_bytes qs) (record { numbers = ns; requests = qs })
read_as ns qs g w f =
    let long = whole_long ns g f in
    let back = policy_round_trip ns (requests_bytes qs) (in_places ns g f.0 long) in
    let behind : drop (size (policy_layout (policy_bytes ns ++ requests_bytes qs))) (policy_bytes ns ++ requests_bytes qs) ≡ requests_bytes qs =
    drop_at (policy_bytes ns) (requests_bytes qs) _ (sym back.1) in
    record {
      numbers = back.0;
      judged = not_refused ns g f.0 long;
      requests = subst (λ (xs : List ℕ). HoldRequests xs qs) (sym behind) (holds qs w);
    }

pub reads_back : ReadsBack
reads_back text said h =
    let s = lines_sound 1 nothing said (lines (without_mark text)) nothing_sound h in
    read_as said.numbers said.requests s.0.numbers s.0.requests (subst (λ (x : Stage). Fits said.numbers x) s.1 (stage_fits said.numbers))
