-- What is put into a list one after the other, and rows that are lent so.
use Rattle.std.proofs.Common.{◌≡◌, ℕ, ◌+◌, ◌<◌, ◌≤◌, List, [], ◌∷◌, ◌++◌, length, map, take, get_or, sym, ap, ◌∙◌, arith}
use Rattle.std.proofs.lemmas.List.{map_more, map-append, take-map, length-map, length-take-le, take_all}

-- a list of at most sixteen is not cut
pub one_more : {X : Type 0} (f : ℕ → X) (view : List ℕ) (old new : List X) (i : ℕ) (x : X) → i < length view → length view ≤ 16 → old ≡ map f (take i view) → x ≡ f (get_or view i 0)
    → new ≡ take 16 (old ++ x ∷ []) → new ≡ map f (take (i + 1) view)
one_more f view old new i x within few e g h =
    let more = map_more f view i 0 within in
    let long : length (map f (take (i + 1) view)) ≤ 16 = rw (length-map (take (i + 1) view) f, length-take-le (i + 1) view (omega (arith, within))) (omega (arith, within, few)) in
    h ∙ rw (e, g, sym more) (take_all 16 (map f (take (i + 1) view)) long)

-- and so where the list is of what is lent
pub one_lent : {X Y : Type 0} (now : X → Y) (f : ℕ → Y) (view : List ℕ) (old new : List X) (i : ℕ) (x : X) → i < length view → length view ≤ 16
    → map now old ≡ map f (take i view) → now x ≡ f (get_or view i 0) → new ≡ take 16 (old ++ x ∷ []) → map now new ≡ map f (take (i + 1) view)
one_lent now f view old new i x within few e g h =
    one_more f view (map now old) (map now new) i (now x) within few e g
    (ap (map now) h ∙ sym (take-map now 16 (old ++ x ∷ [])) ∙ ap (take 16) (map-append now old (x ∷ [])))
