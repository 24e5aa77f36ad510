-- Numbers that lie in bytes: single ones are the bytes, and what is written in places is read from them.
use Rattle.std.proofs.Common.{◌≡◌, ℕ, zero, suc, ◌+◌, ◌*◌, ◌/◌, ◌%◌, ◌^◌, ◌<◌, ◌≤◌, List, [], ◌∷◌, ◌++◌, length, take, drop, sym, refl, ap, ◌∙◌, append_assoc, mul-zero, mul-suc, arith, length-append}
use Rattle.std.proofs.lemmas.List.{take_at, drop_at, take_all, take-append-drop, length-take-le, length-drop}
use Rattle.trace_bytes.specs.declared.layout.Layout.{Layout}
use Rattle.trace_bytes.specs.Bytes.{low_first, numbers_each, numbers_in, size, low_bytes, bytes_each, bytes_by}
use Rattle.trace_bytes.specs.Written.{AllLess}
use Rattle.trace_bytes.proofs.Filling.{words_more}

pub low_four : (n : ℕ) → n < 2 ^ 32 → low_first (low_bytes 4 n) ≡ n
low_four n h = omega arith

pub low_two : (n : ℕ) → n < 2 ^ 16 → low_first (low_bytes 2 n) ≡ n
low_two n h = omega arith

pub words_take : (n : ℕ) (bytes : List ℕ) → numbers_each 1 n bytes ≡ take n bytes
words_take zero bytes = refl
words_take (suc n) [] = refl
words_take (suc n) (b ∷ bytes) =
    let more = words_take n bytes in
    let first : low_first (b ∷ []) ≡ b = omega arith in
    words_more 1 (suc n) n (b ∷ bytes) refl (omega arith) ∙ cc

-- single numbers are written as they are
pub each_single : (xs : List ℕ) → AllLess 256 xs → bytes_each 1 xs ≡ xs
each_single [] h = refl
each_single (x ∷ xs) h = let low = h.0 in let same : x % 256 ≡ x = omega arith in rw (same, each_single xs h.1) refl

long_low : (width n : ℕ) → length (low_bytes width n) ≡ width
long_low zero n = refl
long_low (suc width) n = ap suc (long_low width (n / 256))

pub long_each : (width : ℕ) (ns : List ℕ) → length (bytes_each width ns) ≡ width * length ns
long_each width [] = sym (mul-zero width)
long_each width (n ∷ ns) =
    let more = long_each width ns in
    let long = long_low width n in
    let product = mul-suc width (length ns) in
    simp length-append (omega arith)

-- numbers below a bound whose low bytes say them are read as they are written
module _ (width bound : ℕ) (back : (n : ℕ) → n < bound → low_first (low_bytes width n) ≡ n) where
  words_written : (ns rest : List ℕ) → AllLess bound ns →
      numbers_each width (length ns) (bytes_each width ns ++ rest) ≡ ns
  words_written [] rest h = refl
  words_written (n ∷ ns) rest h =
      let low : List ℕ = low_bytes width n in
      let tail : List ℕ = bytes_each width ns ++ rest in
      let long = long_low width n in
      let all : (low ++ bytes_each width ns) ++ rest ≡ low ++ tail = append_assoc low (bytes_each width ns) rest in
      let le : width ≤ length (low ++ tail) = simp length-append (omega arith) in
      let first : low_first (take width (low ++ tail)) ≡ n =
      ap (λ (xs : List ℕ). low_first xs) (take_at low tail width long) ∙ back n h.0 in
      let others : numbers_each width (length ns) (drop width (low ++ tail)) ≡ ns =
      ap (λ (xs : List ℕ). numbers_each width (length ns) xs) (drop_at low tail width long) ∙ words_written ns rest h.1 in
      ap (λ (xs : List ℕ). numbers_each width (suc (length ns)) xs) all
      ∙ words_more width (suc (length ns)) (length ns) (low ++ tail) refl le ∙ cc

-- single numbers as they stand in front of the low bytes of others are read as they lie there, and take the bytes of
-- the layout
module _ (layout : Layout) (bound : ℕ) (back : (n : ℕ) → n < bound → low_first (low_bytes layout.width n) ≡ n)
    (front others : List ℕ) (front_long : length front ≡ layout.single) (others_long : length others ≡ layout.wide)
    (fit : AllLess bound others) where
  pub read_lying : (rest : List ℕ) →
      numbers_in layout ((front ++ bytes_each layout.width others) ++ rest) ≡ front ++ others
  read_lying rest =
      let tail : List ℕ = bytes_each layout.width others ++ rest in
      let all : (front ++ bytes_each layout.width others) ++ rest ≡ front ++ tail = append_assoc front (bytes_each layout.width others) rest in
      let singles : numbers_each 1 layout.single (front ++ tail) ≡ front =
      words_take layout.single (front ++ tail) ∙ take_at front tail layout.single front_long in
      let wides : numbers_each layout.width layout.wide tail ≡ others =
      ap (λ (n : ℕ). numbers_each layout.width n tail) (sym others_long) ∙ words_written layout.width bound back others rest fit in
      rw (all, singles, drop_at front tail (length front) refl, wides) refl

  pub lying_long : length (front ++ bytes_each layout.width others) ≡ size layout
  lying_long =
      let wide = long_each layout.width others in
      length-append front (bytes_each layout.width others) ∙ rw (front_long, wide, others_long) refl

-- so are numbers within their places
module _ (layout : Layout) (bound : ℕ) (back : (n : ℕ) → n < bound → low_first (low_bytes layout.width n) ≡ n)
    (ns : List ℕ) (long : length ns ≡ layout.single + layout.wide)
    (small : AllLess 256 (take layout.single ns)) (fit : AllLess bound (drop layout.single ns)) where
  abbrev front : List ℕ
  front = take layout.single ns

  abbrev back_part : List ℕ
  back_part = drop layout.single ns

  front_long : length front ≡ layout.single
  front_long = length-take-le layout.single ns (omega arith)

  back_long : length back_part ≡ layout.wide
  back_long = simp length-drop (omega arith)

  pub lies : bytes_by layout ns ≡ front ++ bytes_each layout.width back_part
  lies = rw (each_single front small, take_all layout.wide back_part (let b = back_long in omega arith))

  pub read_back : (rest : List ℕ) → numbers_in layout (bytes_by layout ns ++ rest) ≡ ns
  read_back rest =
      ap (λ (xs : List ℕ). numbers_in layout (xs ++ rest)) lies
      ∙ read_lying layout bound back front back_part front_long back_long fit rest ∙ take-append-drop layout.single ns

  pub bytes_long : length (bytes_by layout ns) ≡ size layout
  bytes_long =
      ap (λ (xs : List ℕ). length xs) lies ∙ lying_long layout bound back front back_part front_long back_long fit
