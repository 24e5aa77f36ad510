-- What a line that is read tells of its numbers.
use Rattle.std.proofs.Common.{◌≡◌, ℕ, zero, suc, ◌+◌, ◌^◌, ◌<◌, ◌≤◌, Bool, true, false, cond, ◌&&◌, eqb, leb, ltb, List, [], ◌∷◌, length, Ok, Err, Result, sym, refl, ap, subst, inl, inr, arith}
use Rattle.std.proofs.lemmas.Bool.{and_parts, leb-true, cases_Bool}
use Rattle.std.specs.Str.{bytes_eq}
use Rattle.policy.specs.Rules.{has}
use Rattle.policy.specs.Views.{distinct_below, stands}
use Rattle.rows.specs.declared.KeyRange.{KeyRange}
use Rattle.query.specs.declared.Query.{Query}
use Rattle.query.specs.declared.Query.TheVariants as query
use Rattle.request.specs.declared.kinds.Kind.{Kind}
use Rattle.request.specs.declared.kinds.Kind.TheVariants as kind
use Rattle.request.specs.declared.kinds.QueryKind.{QueryKind}
use Rattle.request.specs.declared.kinds.QueryKind.TheVariants.{Rows, Total, Shared}
use Rattle.request.specs.declared.Request.{Request}
use Rattle.request.specs.declared.Request.TheVariants as request
use Rattle.request.specs.Format.{WithinBounds}
use Rattle.request.proofs.Reading.{ok_same}
use Rattle.trace_text.specs.Names.{spelling}
use Rattle.trace_text.specs.Words.{word_at}
use Rattle.trace_text.specs.Lines.{and_then, number_at, number_within, key_at, compartment_at, range_at, query_said, request_by, request_said, kind_at, ends, expect_name, count_said, capacity_said, next_at, UserView, view_from, check_compartment, check_view, check_writes, view_said, user_said}
use Rattle.trace_text.specs.declared.fault.Reason.TheVariants.{OutOfBounds, WritesUnseen}
use Rattle.trace_text.specs.declared.names.Name.{Name}
use Rattle.trace_text.specs.declared.names.Name.TheVariants as name

pub then_ok : {A B E : Type 0} (r : Result A E) (f : A → Result B E) (b : B) → and_then r f ≡ Ok b →
    (a : A) × (r ≡ Ok a) × (f a ≡ Ok b)
then_ok (Ok a) f b e = (a, refl, e)
then_ok (Err x) f b e = absurd cc

pub cond_ok : {A E : Type 0} (t : Bool) (x : A) (e : E) (y : A) → cond t (Ok x) (Err e) ≡ Ok y → (t ≡ true) × (x ≡ y)
cond_ok true x e y h = (refl, ok_same x y h)
cond_ok false x e y h = absurd cc

pub within_ok : (low high : ℕ) (line : List ℕ) (place n : ℕ) → number_within low high line place ≡ Ok n →
    (low ≤ n) × (n ≤ high)
within_ok low high line place n e =
    let t = then_ok (number_at line place) _ n e in
    let m : ℕ = t.0 in
    let c = cond_ok (leb low m && leb m high) m (OutOfBounds (place + 1)) n t.2 in
    let p = and_parts (leb low m) (leb m high) c.0 in
    (omega (arith, leb-true low m p.0, c.1), omega (arith, leb-true m high p.1, c.1))

range_ok : (line : List ℕ) (place : ℕ) (r : KeyRange) → range_at line place ≡ Ok r → (r.from < 2 ^ 32) × (r.to < 2 ^ 32)
range_ok line place r e =
    let from = then_ok (key_at line place) _ r e in
    let to = then_ok (key_at line (place + 1)) _ r from.2 in
    let end = then_ok (ends line (place + 2)) _ r to.2 in
    let same = ok_same _ r end.2 in
    let low = (within_ok 0 4294967295 line place from.0 from.1).1 in
    let high = (within_ok 0 4294967295 line (place + 1) to.0 to.1).1 in
    (omega (arith, ap (λ (k : KeyRange). k.from) same), omega (arith, ap (λ (k : KeyRange). k.to) same))

module _ (line : List ℕ) (user : ℕ) (few : user < 32) where
  ranged_ok : (ask : KeyRange → Query) →
      ((r : KeyRange) → (r.from < 2 ^ 32) × (r.to < 2 ^ 32) → WithinBounds (request.Query user (ask r))) →
      (q : Query) → and_then (range_at line 2) (λ range. Ok (ask range)) ≡ Ok q → WithinBounds (request.Query user q)
  ranged_ok ask good q e =
      let range = then_ok (range_at line 2) _ q e in
      subst (λ (x : Query). WithinBounds (request.Query user x)) (ok_same _ q range.2) (good range.0 (range_ok line 2 range.0 range.1))

  query_ok : (kind : QueryKind) (q : Query) → query_said kind line ≡ Ok q → WithinBounds (request.Query user q)
  query_ok Rows q e = ranged_ok query.Rows (λ range r. (omega arith, (few, (omega arith, (r.0, (r.1, tt)))))) q e
  query_ok Total q e = ranged_ok query.Total (λ range r. (omega arith, (few, (omega arith, (r.0, (r.1, tt)))))) q e
  query_ok Shared q e =
      let a = then_ok (compartment_at line 2) _ q e in
      let b = then_ok (compartment_at line 3) _ q a.2 in
      let range = then_ok (range_at line 4) _ q b.2 in
      let ca = (within_ok 0 15 line 2 a.0 a.1).1 in
      let cb = (within_ok 0 15 line 3 b.0 b.1).1 in
      let r = range_ok line 4 range.0 range.1 in
      subst (λ (x : Query). WithinBounds (request.Query user x)) (ok_same _ q range.2) (omega arith, (few, (omega arith, (omega arith, (omega arith, (r.0, (r.1, tt)))))))

  asked_ok : (kind : Kind) (q : Request) → request_by kind user line ≡ Ok q → WithinBounds q
  asked_ok kind.Write q e =
      let key = then_ok (key_at line 2) _ q e in
      let amount = then_ok (key_at line 3) _ q key.2 in
      let end = then_ok (ends line 4) _ q amount.2 in
      let k = (within_ok 0 4294967295 line 2 key.0 key.1).1 in
      let a = (within_ok 0 4294967295 line 3 amount.0 amount.1).1 in
      subst WithinBounds (ok_same _ q end.2) (omega arith, (few, (omega arith, (omega arith, tt))))
  asked_ok kind.Delete q e =
      let key = then_ok (key_at line 2) _ q e in
      let end = then_ok (ends line 3) _ q key.2 in
      let k = (within_ok 0 4294967295 line 2 key.0 key.1).1 in
      subst WithinBounds (ok_same _ q end.2) (omega arith, (few, (omega arith, tt)))
  asked_ok kind.Copy q e =
      let from = then_ok (compartment_at line 2) _ q e in
      let range = then_ok (range_at line 3) _ q from.2 in
      let c = (within_ok 0 15 line 2 from.0 from.1).1 in
      let r = range_ok line 3 range.0 range.1 in
      subst WithinBounds (ok_same _ q range.2) (omega arith, (few, (omega arith, (r.0, (r.1, tt)))))
  asked_ok (kind.Query kind) q e =
      let x = then_ok (query_said kind line) _ q e in
      subst WithinBounds (ok_same _ q x.2) (query_ok kind x.0 x.1)

pub request_ok : (line : List ℕ) (q : Request) → request_said line ≡ Ok q → WithinBounds q
request_ok line q e =
    let user = then_ok (number_within 0 31 line 0) _ q e in
    let kind = then_ok (kind_at line 1) _ q user.2 in
    let few = (within_ok 0 31 line 0 user.0 user.1).1 in
    asked_ok line user.0 (omega arith) kind.0 q kind.2

pub count_ok : (n : Name) (high : ℕ) (line : List ℕ) (count : ℕ) → count_said n high line ≡ Ok count →
    (1 ≤ count) × (count ≤ high)
count_ok n high line count e =
    let first = then_ok (expect_name n line 0) _ count e in
    let second = then_ok (number_within 1 high line 1) _ count first.2 in
    let end = then_ok (ends line 2) _ count second.2 in
    let same = ok_same _ count end.2 in
    let bounds = within_ok 1 high line 1 second.0 second.1 in
    (omega (arith, bounds.0), omega (arith, bounds.1))

pub capacity_ok : (compartment : ℕ) (line : List ℕ) (n : ℕ) → capacity_said compartment line ≡ Ok n → (1 ≤ n) × (n ≤ 64)
capacity_ok compartment line n e =
    let first = then_ok (expect_name name.Capacity line 0) _ n e in
    let second = then_ok (next_at compartment line 1) _ n first.2 in
    let third = then_ok (number_within 1 64 line 2) _ n second.2 in
    let end = then_ok (ends line 3) _ n third.2 in
    let same = ok_same _ n end.2 in
    let bounds = within_ok 1 64 line 2 third.0 third.1 in
    (omega (arith, bounds.0), omega (arith, bounds.1))

view_few : (n : ℕ) (line : List ℕ) (place : ℕ) (cs : List ℕ) → view_from n line place ≡ Ok cs → length cs ≤ n
view_few zero line place cs e = rw (sym (ok_same _ cs e)) (omega arith)
view_few (suc n) line place cs e =
    elim (cases_Bool (bytes_eq (word_at line place) (spelling name.Writes))) [
      | inl t ↦ rw (sym (ok_same _ cs (rw t at e))) (omega arith)
      | inr t ↦
          let first = then_ok (compartment_at line place) _ cs (rw t at e) in
          let more = then_ok (view_from n line (place + 1)) _ cs first.2 in
          let few = view_few n line (place + 1) more.0 more.1 in
          rw (sym (ok_same (first.0 ∷ more.0) cs more.2)) (omega arith)
    ]

-- what is known of a user's contract that is read
pub record Stands (compartments : ℕ) (c : UserView) : Type 0 where
  pub few : length c.view ≤ 16
  pub stands : stands compartments c.view c.writes ≡ true

checked_ok : (compartments user c : ℕ) (cs : List ℕ) (u : Unit) → check_compartment compartments user c cs ≡ Ok u →
    (ltb c compartments ≡ true) × (has cs c ≡ false)
checked_ok compartments user c cs u e = elim (cases_Bool (ltb c compartments)) [
  | inr t ↦ let e = rw t at e in absurd cc
  | inl t ↦ let e = rw t at e in elim (cases_Bool (has cs c)) [
    | inl again ↦ let e = rw again at e in absurd cc
    | inr again ↦ (t, again)
  ]
]

view_checked_ok : (compartments user : ℕ) (view : List ℕ) (u : Unit) → check_view compartments user view ≡ Ok u →
    distinct_below compartments view ≡ true
view_checked_ok compartments user [] u e = refl
view_checked_ok compartments user (c ∷ cs) u e =
    let first = then_ok (check_compartment compartments user c cs) _ u e in
    let one = checked_ok compartments user c cs first.0 first.1 in
    rw (one.0, one.1) (view_checked_ok compartments user cs u first.2)

writes_checked_ok : (user : ℕ) (view : List ℕ) (writes : ℕ) (u : Unit) → check_writes user view writes ≡ Ok u →
    has view writes ≡ true
writes_checked_ok user view writes u e = elim (cases_Bool (eqb (length view) 0)) [
  | inl t ↦ let e = rw t at e in absurd cc
  | inr t ↦ (cond_ok (has view writes) _ (WritesUnseen user writes) u (rw t at e)).0
]

view_ok : (user compartments : ℕ) (line : List ℕ) (c : UserView) → view_said user compartments line ≡ Ok c →
    Stands compartments c
view_ok user compartments line c e =
    let read = then_ok (view_from 16 line 3) _ c e in
    let view : List ℕ = read.0 in
    let sees = then_ok (expect_name name.Writes line (3 + length view)) _ c read.2 in
    let writes = then_ok (compartment_at line (4 + length view)) _ c sees.2 in
    let end = then_ok (ends line (5 + length view)) _ c writes.2 in
    let distinct = then_ok (check_view compartments user view) _ c end.2 in
    let seen = then_ok (check_writes user view writes.0) _ c distinct.2 in
    let below = view_checked_ok compartments user view distinct.0 distinct.1 in
    let among = writes_checked_ok user view writes.0 seen.0 seen.1 in
    subst (λ (x : UserView). Stands compartments x) (ok_same _ c seen.2)
    (record { few = view_few 16 line 3 view read.1; stands = rw (below, among) refl })

pub user_ok : (user compartments : ℕ) (line : List ℕ) (c : UserView) → user_said user compartments line ≡ Ok c → Stands compartments c
user_ok user compartments line c e =
    let first = then_ok (expect_name name.User line 0) _ c e in
    let second = then_ok (next_at user line 1) _ c first.2 in
    let third = then_ok (expect_name name.Sees line 2) _ c second.2 in
    view_ok user compartments line c third.2
