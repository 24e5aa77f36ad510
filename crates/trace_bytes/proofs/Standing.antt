-- A request that is read from bytes is the one that is written there, and one that isn't read is refused.
use Rattle.std.proofs.Common.{◌≡◌, ℕ, zero, suc, ◌+◌, ◌*◌, ◌/◌, ◌%◌, ◌<◌, ◌≤◌, Bool, true, false, List, [], ◌∷◌, ◌++◌, length, take, drop, slice_get, Some, None, Ok, Err, Option, Result, sym, refl, ap, ◌∙◌, subst, append_assoc, append-nil, arith, length-append, length-drop, drop-drop}
use Rattle.std.proofs.lemmas.List.{take_at, drop_at, take-append-drop, length-take-le, nil_from_length, take_all}
use Rattle.request.specs.declared.Request.{Request}
use Rattle.request.specs.declared.decoding.InvalidNumber.{InvalidNumber}
use Rattle.request.specs.declared.kinds.Kind.{Kind}
use Rattle.request.specs.declared.kinds.QueryKind.{QueryKind}
use Rattle.request.specs.Kinds.{kind_in, kind_numbered}
use Rattle.request.specs.Fields.{fields, fields_of}
use Rattle.request.specs.Decoded.{decode, decode_as}
use Rattle.request.specs.Format.{kind_of, numbers_of, WithinBounds}
use Rattle.request.proofs.Reading.{reads_what_stands, read_as, kind_read, numbers_long, number_is}
use Rattle.trace_bytes.specs.declared.layout.Layout.{Layout}
use Rattle.trace_bytes.specs.declared.item.Next.{Next}
use Rattle.trace_bytes.specs.declared.item.Next.TheVariants.{Fault, End}
use Rattle.trace_bytes.specs.Bytes.{low_first, numbers_each, numbers_in, size, low_bytes, bytes_each, bytes_by}
use Rattle.trace_bytes.specs.NextRequest.{next_of, is_whole, request_layout, request_numbers}
use Rattle.trace_bytes.specs.Refused.{RefusedAtPlace}
use Rattle.trace_bytes.specs.Written.{request_bytes, AllLess, RequestStands}
use Rattle.trace_bytes.proofs.Filling.{words_more, words_most, words_short}
use Rattle.trace_bytes.proofs.Lying.{words_take, each_single}
use Rattle.trace_bytes.proofs.Wholes.{layout_long, read_takes}

-- THE KIND IN THE NUMBERS IS THAT IN THE BYTES

-- the places in front of the wide numbers
abbrev single : Option Kind → ℕ
single o = (request_layout (fields_of o)).single

-- a kind that isn't a query is known by its first number
known_write : (a : ℕ) (third other : Option ℕ) → kind_numbered (Some a) third ≡ Some Kind.Write →
    kind_numbered (Some a) other ≡ Some Kind.Write
known_write a third other h = let n = number_is a third Kind.Write h in rw n refl

known_delete : (a : ℕ) (third other : Option ℕ) → kind_numbered (Some a) third ≡ Some Kind.Delete →
    kind_numbered (Some a) other ≡ Some Kind.Delete
known_delete a third other h = let n = number_is a third Kind.Delete h in rw n refl

known_copy : (a : ℕ) (third other : Option ℕ) → kind_numbered (Some a) third ≡ Some Kind.Copy →
    kind_numbered (Some a) other ≡ Some Kind.Copy
known_copy a third other h = let n = number_is a third Kind.Copy h in rw n refl

-- what follows the first three bytes doesn't matter; nor does what follows fewer, if nothing does
three_query : (o : Option Kind) (bytes more : List ℕ) → kind_in bytes ≡ o → (length bytes < 3 → more ≡ []) →
    kind_in (take 3 bytes ++ more) ≡ o
three_query o [] more h none = rw (none (omega arith)) h
three_query o (a ∷ []) more h none = rw (none (omega arith)) h
three_query o (a ∷ b ∷ []) more h none = rw (none (omega arith)) h
three_query o (a ∷ b ∷ c ∷ bytes) more h none = h

two_plain : (k : Kind) → ((a : ℕ) (third other : Option ℕ) → kind_numbered (Some a) third ≡ Some k → kind_numbered (Some a) other ≡ Some k) →
    (bytes more : List ℕ) → kind_in bytes ≡ Some k → kind_in (take 2 bytes ++ more) ≡ Some k
two_plain k known [] more h = absurd cc
two_plain k known (a ∷ bytes) more h = known a (slice_get (a ∷ bytes) 2) (slice_get (take 2 (a ∷ bytes) ++ more) 2) h

front_kind : (o : Option Kind) (bytes more : List ℕ) → kind_in bytes ≡ o → (length bytes < single o → more ≡ []) →
    kind_in (take (single o) bytes ++ more) ≡ o
front_kind None bytes more h none = three_query None bytes more h none
front_kind (Some Kind.Write) bytes more h none = two_plain Kind.Write known_write bytes more h
front_kind (Some Kind.Delete) bytes more h none = two_plain Kind.Delete known_delete bytes more h
front_kind (Some Kind.Copy) bytes more h none = two_plain Kind.Copy known_copy bytes more h
front_kind (Some (Kind.Query QueryKind.Rows)) bytes more h none = three_query (Some (Kind.Query QueryKind.Rows)) bytes more h none
front_kind (Some (Kind.Query QueryKind.Total)) bytes more h none = three_query (Some (Kind.Query QueryKind.Total)) bytes more h none
front_kind (Some (Kind.Query QueryKind.Shared)) bytes more h none = three_query (Some (Kind.Query QueryKind.Shared)) bytes more h none

short_take : (n : ℕ) (bytes : List ℕ) → length bytes < n → drop (length (take n bytes)) bytes ≡ []
short_take n bytes h = rw (take_all n bytes (omega arith)) (nil_from_length _ (simp length-drop (omega arith)))

kind_same : (o : Option Kind) (bytes : List ℕ) → kind_in bytes ≡ o → kind_in (request_numbers o bytes) ≡ o
kind_same o bytes h =
    let layout : Layout = request_layout (fields_of o) in
    let s : ℕ = single o in
    rw (words_take s bytes)
    (front_kind o bytes (numbers_each 4 layout.wide (drop (length (take s bytes)) bytes)) h
    (λ few. rw (short_take s bytes few) (words_short 4 layout.wide [] (omega arith))))

-- so the numbers are decoded as their kind in the bytes has it
pub decoded_same : (bytes : List ℕ) →
    decode (request_numbers (kind_in bytes) bytes) ≡ decode_as (kind_in bytes) (request_numbers (kind_in bytes) bytes)
decoded_same bytes =
    ap (λ (o : Option Kind). decode_as o (request_numbers (kind_in bytes) bytes)) (kind_same (kind_in bytes) bytes refl)

-- WHAT IS TOLD OF THE NEXT REQUEST

read_of : (whole : Bool) (user n m : ℕ) (r : Result Request InvalidNumber) (q : Request) →
    next_of whole user n r ≡ Next.Request q m →
    (r ≡ Ok q) × (n ≡ m)
read_of whole user n m (Ok p) q h = (cc, cc)
read_of true user n m (Err invalid) q h = absurd cc
read_of false user n m (Err invalid) q h = absurd cc

end_of : (whole : Bool) (user n place : ℕ) (r : Result Request InvalidNumber) → next_of whole user n r ≡ End place →
    r ≡ Err (record { place = place })
end_of whole user n place (Ok p) h = absurd cc
end_of true user n place (Err invalid) h = absurd cc
end_of false user n place (Err invalid) h = let is : invalid.place ≡ place = cc in rw (sym is) refl

fault_of : (whole : Bool) (u n user place length : ℕ) (r : Result Request InvalidNumber) →
    next_of whole u n r ≡ Fault user place length →
    r ≡ Err (record { place = place })
fault_of whole u n user place length (Ok p) h = absurd cc
fault_of true u n user place length (Err invalid) h = let is : invalid.place ≡ place = cc in rw (sym is) refl
fault_of false u n user place length (Err invalid) h = absurd cc

pub refused_at_place : RefusedAtPlace
refused_at_place = (
  (λ bytes place h. decoded_same bytes ∙ end_of (is_whole (kind_in bytes) bytes) _ _ place _ h),
  (λ bytes user place n h. decoded_same bytes ∙ fault_of (is_whole (kind_in bytes) bytes) _ _ user place n _ h),
)

-- THE BYTES OF A WHOLE REQUEST ARE ITS NUMBERS

pub small_behind : (bound n : ℕ) (bytes : List ℕ) → AllLess bound bytes → AllLess bound (drop n bytes)
small_behind bound zero bytes h = h
small_behind bound (suc n) [] h = tt
small_behind bound (suc n) (b ∷ bytes) h = small_behind bound n bytes h.1

pub small_front : (bound n : ℕ) (xs : List ℕ) → AllLess bound xs → AllLess bound (take n xs)
small_front bound zero xs h = tt
small_front bound (suc n) [] h = tt
small_front bound (suc n) (x ∷ xs) h = (h.0, small_front bound n xs h.1)

-- the low byte, and the rest
low : (a m : ℕ) → a < 256 → ((a + 256 * m) % 256 ≡ a) × ((a + 256 * m) / 256 ≡ m)
low a m h = (omega arith, omega arith)

four_bytes : (a b c d : ℕ) → a < 256 → b < 256 → c < 256 → d < 256 →
    low_bytes 4 (low_first (a ∷ b ∷ c ∷ d ∷ [])) ≡ a ∷ b ∷ c ∷ d ∷ []
four_bytes a b c d ha hb hc hd =
    let nested : low_first (a ∷ b ∷ c ∷ d ∷ []) ≡ a + 256 * (b + 256 * (c + 256 * (d + 256 * 0))) = omega arith in
    let first = low a (b + 256 * (c + 256 * (d + 256 * 0))) ha in
    let second = low b (c + 256 * (d + 256 * 0)) hb in
    let third = low c (d + 256 * 0) hc in
    let last = low d 0 hd in
    ap (λ (n : ℕ). low_bytes 4 n) nested
    ∙ rw (first.0, first.1) (rw (second.0, second.1) (rw (third.0, third.1) (rw last.0)))

each_words : (n : ℕ) (bytes : List ℕ) → 4 * n ≤ length bytes → AllLess 256 bytes →
    bytes_each 4 (numbers_each 4 n bytes) ≡ take (4 * n) bytes
each_words zero bytes h small = refl
each_words (suc n) [] h small = absurd (omega arith)
each_words (suc n) (a ∷ []) h small = absurd (omega arith)
each_words (suc n) (a ∷ b ∷ []) h small = absurd (omega arith)
each_words (suc n) (a ∷ b ∷ c ∷ []) h small = absurd (omega arith)
each_words (suc n) (a ∷ b ∷ c ∷ d ∷ bytes) h small =
    let product : 4 * suc n ≡ suc (suc (suc (suc (4 * n)))) = omega arith in
    let more = each_words n bytes (omega arith) small.1.1.1.1 in
    let front = four_bytes a b c d small.0 small.1.0 small.1.1.0 small.1.1.1.0 in
    ap (λ (ns : List ℕ). bytes_each 4 ns) (words_more 4 (suc n) n (a ∷ b ∷ c ∷ d ∷ bytes) refl (omega arith))
    ∙ ap (λ (xs : List ℕ). xs ++ bytes_each 4 (numbers_each 4 n bytes)) front
    ∙ ap (λ (xs : List ℕ). a ∷ b ∷ c ∷ d ∷ xs) more
    ∙ ap (λ (k : ℕ). take k (a ∷ b ∷ c ∷ d ∷ bytes)) (sym product)

module _ (layout : Layout) (bytes : List ℕ) (four : layout.width ≡ 4) (small : AllLess 256 bytes) (whole : size layout ≤ length bytes) where
  abbrev s : ℕ
  s = layout.single

  abbrev wides : List ℕ
  wides = numbers_each 4 layout.wide (drop s bytes)

  all_there : s + 4 * layout.wide ≤ length bytes
  all_there = rw four at whole

  singles_long : length (take s bytes) ≡ s
  singles_long = length-take-le s bytes (omega (arith, all_there))

  numbers_split : numbers_in layout bytes ≡ take s bytes ++ wides
  numbers_split = rw (words_take s bytes, singles_long, four)

  wides_few : length wides ≤ layout.wide
  wides_few = words_most 4 layout.wide (drop s bytes)

  written_there : bytes_by layout (numbers_in layout bytes) ≡ take s bytes ++ take (4 * layout.wide) (drop s bytes)
  written_there =
      let front = each_single (take s bytes) (small_front 256 s bytes small) in
      let back = each_words layout.wide (drop s bytes) (simp length-drop (omega (arith, all_there))) (small_behind 256 s bytes small) in
      rw (
        numbers_split,
        take_at (take s bytes) wides s singles_long,
        drop_at (take s bytes) wides s singles_long,
        front,
        take_all layout.wide wides wides_few,
        four,
        back,
      ) refl

  split : bytes ≡ (take s bytes ++ take (4 * layout.wide) (drop s bytes)) ++ drop (s + 4 * layout.wide) bytes
  split =
      sym (rw (append_assoc, ← drop-drop (4 * layout.wide) s bytes)
      (ap (λ (xs : List ℕ). take s bytes ++ xs) (take-append-drop (4 * layout.wide) (drop s bytes)) ∙ take-append-drop s bytes))

  split_long : length (take s bytes ++ take (4 * layout.wide) (drop s bytes)) ≡ s + 4 * layout.wide
  split_long =
      let wide : length (take (4 * layout.wide) (drop s bytes)) ≡ 4 * layout.wide =
      length-take-le (4 * layout.wide) (drop s bytes) (simp length-drop (omega (arith, all_there))) in
      length-append (take s bytes) (take (4 * layout.wide) (drop s bytes)) ∙ omega (arith, wide, singles_long)

numbers_few : (layout : Layout) (bytes : List ℕ) → length (numbers_in layout bytes) ≤ layout.single + layout.wide
numbers_few layout bytes =
    let singles : List ℕ = numbers_each 1 layout.single bytes in
    let both = length-append singles (numbers_each layout.width layout.wide (drop (length singles) bytes)) in
    let most = words_most 1 layout.single bytes in
    let most_wide = words_most layout.width layout.wide (drop (length singles) bytes) in
    omega arith

-- numbers that begin with a request and are no more than its fields are its numbers
exactly : (xs : List ℕ) (q : Request) → decode xs ≡ Ok q → length xs ≤ length (fields (kind_of q)) →
    WithinBounds q × (xs ≡ numbers_of q)
exactly xs q h few =
    let reads = reads_what_stands xs q h in
    let rest : List ℕ = reads.1.0 in
    let long = numbers_long q in
    let both : length xs ≡ length (numbers_of q) + length rest = ap (λ (ys : List ℕ). length ys) reads.1.1 ∙ length-append (numbers_of q) rest in
    let none = nil_from_length rest (omega arith) in
    (reads.0, reads.1.1 ∙ ap (λ (ys : List ℕ). numbers_of q ++ ys) none ∙ append-nil (numbers_of q))

-- what is read is of the kind in the bytes
kind_told : (xs : List ℕ) (o : Option Kind) (q : Request) → decode_as o xs ≡ Ok q → o ≡ Some (kind_of q)
kind_told xs o q h =
    let read = read_as xs o q h in
    read.known ∙ ap (λ (k : Kind). Some k) (sym (kind_read read.kind xs) ∙ ap (λ (r : Request). kind_of r) read.is)

pub request_stands : RequestStands
request_stands bytes q n small h =
    let o : Option Kind = kind_in bytes in
    let xs : List ℕ = request_numbers o bytes in
    let told = read_of (is_whole o bytes) _ _ n (decode_as o xs) q h in
    let kind = kind_told xs o q told.0 in
    let layout : Layout = request_layout (fields (kind_of q)) in
    let same : request_layout (fields_of o) ≡ layout = ap (λ (o : Option Kind). request_layout (fields_of o)) kind in
    let numbers : xs ≡ numbers_in layout bytes = ap (λ (l : Layout). numbers_in l bytes) same in
    let takes = (read_takes o bytes q told.0).1 in
    let whole = subst (λ (l : Layout). size l ≤ length bytes) same takes in
    let few = numbers_few layout bytes in
    let is = exactly xs q (decoded_same bytes ∙ told.0) (rw numbers (let long = layout_long (fields (kind_of q)) in omega arith)) in
    let there : request_bytes q ≡ take layout.single bytes ++ take (4 * layout.wide) (drop layout.single bytes) =
    ap (λ (ns : List ℕ). bytes_by layout ns) (sym is.1 ∙ numbers) ∙ written_there layout bytes refl small whole in
    let n_is : size layout ≡ n = ap (λ (l : Layout). size l) (sym same) ∙ told.1 in (
      is.0,
      rw there (sym n_is ∙ sym (split_long layout bytes refl small whole)),
      rw (there, ← n_is) (split layout bytes refl small whole),
    )
