-- Writes one after the other are one write of all their bytes.
use Rattle.std.proofs.Common.{◌≡◌, ℕ, ◌+◌, ◌<◌, List, [], ◌∷◌, ◌++◌, length, get_or, take, drop, Option, None, Some, false, Result, Ok, Err, refl, sym, ap, ◌∙◌, subst, arith, append-nil, length-append}
use Rattle.std.proofs.lemmas.List.{take-append-drop, take-append-le, take_more}
use Rattle.std.proofs.Math.Seq.{take-append-add}
use Rattle.std.proofs.KnownBytes.{Appends-nil, Appends-trans}
use Rattle.std.specs.Io.KnownBytes.{Appends, WriteAppends}
use Rattle.std.proofs.lemmas.Grind.{flat_map-append}
use Rattle.std.specs.Result.{IsErr}
use Rattle.output.specs.declared.Piece.{Piece}
use Rattle.std.specs.List.{flat_map}
use Rattle.output.specs.Output.{OutputState, WritesAll, WritesPart, Writes, piece_bytes, bytes_from, bytes_of, taken}

pub nothing_written : (a : OutputState) → WritesAll a a []
nothing_written a = record { appended = Appends-nil a.contents; kept = refl; intact = λ _. refl }

pub all_then_all : {a b c : OutputState} {xs ys : List ℕ} → WritesAll a b xs → WritesAll b c ys → WritesAll a c (xs ++ ys)
all_then_all {a} {b} {c} {xs} {ys} p q = record {
  appended = Appends-trans a.contents b.contents c.contents xs ys p.appended q.appended;
  kept = q.kept ∙ p.kept;
  intact = λ f. rw (p.intact f, q.intact (p.kept ∙ f)) refl;
}

abbrev pub all_then_part : {a b c : OutputState} {xs ys : List ℕ} → WritesAll a b xs → WritesPart b c ys → WritesPart a c (xs ++ ys)
all_then_part {a} {b} {c} {xs} {ys} p q = record {
  count = length xs + q.count;
  fewer = omega (arith, q.fewer, length-append xs ys);
  appended = subst (Appends a.contents c.contents) (sym (take-append-add xs ys q.count)) (Appends-trans a.contents b.contents c.contents xs (take q.count ys) p.appended q.appended);
  failed = q.failed;
  intact = λ f. omega (arith, ap length (p.intact f), q.intact (p.kept ∙ f));
}

-- a beginning of the first bytes is one of all
abbrev pub part_then : {a b : OutputState} {xs : List ℕ} (ys : List ℕ) → WritesPart a b xs → WritesPart a b (xs ++ ys)
part_then {a} {b} {xs} ys p = record {
  count = p.count;
  fewer = omega (arith, p.fewer, length-append xs ys);
  appended = subst (Appends a.contents b.contents) (sym (take-append-le p.count xs ys (omega (arith, p.fewer)))) p.appended;
  failed = p.failed;
  intact = p.intact;
}

-- where the last write is returned as it is
pub all_then : {X E : Type 0} (r : Result X E) (a b c : OutputState) (xs ys : List ℕ) → WritesAll a b xs → Writes b c r ys → Writes a c r (xs ++ ys)
all_then (Ok x) a b c xs ys p q = all_then_all p q
all_then (Err e) a b c xs ys p q = all_then_part p q

-- at the exit of a `?`
pub passed_up : {X E : Type 0} (r : Result X E) (a b : OutputState) (bytes : List ℕ) → IsErr r → WritesPart a b bytes → Writes a b r bytes
passed_up (Ok x) a b bytes is part = absurd (cc)
passed_up (Err e) a b bytes is part = part

bytes_from-is : (p : Piece) (ps : List Piece) → bytes_from p ps ≡ piece_bytes p ++ flat_map piece_bytes ps
bytes_from-is p [] = sym (append-nil (piece_bytes p))
bytes_from-is p (q ∷ qs) = ap (λ bs. piece_bytes p ++ bs) (bytes_from-is q qs)

bytes_of-is : (ps : List Piece) → bytes_of ps ≡ flat_map piece_bytes ps
bytes_of-is [] = refl
bytes_of-is (p ∷ ps) = bytes_from-is p ps

-- the pieces so far and one more
pub one_more : (i : ℕ) (pieces : List Piece) (d : Piece) → i < length pieces →
    bytes_of (take i pieces) ++ piece_bytes (get_or pieces i d) ≡ bytes_of (take (i + 1) pieces)
one_more i pieces d h =
    rw (bytes_of-is (take i pieces), bytes_of-is (take (i + 1) pieces), take_more pieces i d h, flat_map-append piece_bytes (take i pieces) (get_or pieces i d ∷ []))
    (ap (λ bs. flat_map piece_bytes (take i pieces) ++ bs) (sym (append-nil (piece_bytes (get_or pieces i d)))))

-- and those that follow
pub around : (i : ℕ) (pieces : List Piece) → bytes_of (take i pieces) ++ bytes_of (drop i pieces) ≡ bytes_of pieces
around i pieces =
    rw (bytes_of-is (take i pieces), bytes_of-is (drop i pieces), bytes_of-is pieces)
    (sym (flat_map-append piece_bytes (take i pieces) (drop i pieces)) ∙ ap (flat_map piece_bytes) (take-append-drop i pieces))

-- a write that took some of the bytes, or failed and took none
some_first : {E : Type 0} (first : Result ℕ E) (old new : Option (List ℕ)) (bytes : List ℕ) → WriteAppends old new first bytes → Appends old new (take (taken first) bytes)
some_first (Ok n) old new bytes w = w
some_first (Err e) None new bytes w = tt
some_first (Err e) (Some x) None bytes w = absurd w
some_first (Err e) (Some x) (Some y) bytes w = w ∙ sym (append-nil x)

-- and what was written after it
pub first_then : {X E F : Type 0} (first : Result ℕ E) (r : Result X F) (a b c : OutputState) (bytes : List ℕ) → WriteAppends a.contents b.contents first bytes → b.failed ≡ a.failed → a.failed ≡ false →
    Writes b c r (drop (taken first) bytes) → Writes a c r bytes
first_then first r a b c bytes w kept works rest =
    subst (Writes a c r) (take-append-drop (taken first) bytes)
    (all_then r a b c _ _ (record { appended = some_first first a.contents b.contents bytes w; kept = kept; intact = λ f. absurd (cc) }) rest)
