-- One part more: what an iteration of each loop does to lists.
use Rattle.std.proofs.Common.{◌≡◌, ℕ, ◌+◌, ◌/◌, ◌<◌, List, [], ◌∷◌, ◌++◌, map, length, get_or, take, drop, set, sym, refl, ap, ◌∙◌, arith, Bor}
use borrow.Rule.Slice.PartMut.{put_mid}
use Rattle.std.proofs.lemmas.List.{drop_more, drop-map, drop-drop, take-map, map_more, take_at, drop_at, set_at, append_assoc, append-nil, length-append, length-map, length-take-le}
use Rattle.std.proofs.lemmas.List.Sums.{sum_by-cons, sum_by_push}
use Rattle.std.proofs.lemmas.Grind.{flat_map-append}
use Rattle.rows.specs.declared.KeyRange.{KeyRange}
use Rattle.rows.specs.Numbers.{range_part}
use Rattle.query.specs.AnswerRows.{count, counts, count_in, range_parts, lengths}

abbrev pub nothing : Bor (List ℕ)
nothing = record { ref_ptr = (0, 0); now = [] }

-- the part at a place, and those that follow
pub parts_more : (xs : List (Bor (List ℕ))) (i : ℕ) → i < length xs → drop i (map (λ x. x.now) xs) ≡ (get_or xs i nothing).now ∷ drop (i + 1) (map (λ x. x.now) xs)
parts_more xs i h = rw (drop-map (λ x. x.now) i xs, drop-map (λ x. x.now) (i + 1) xs, drop_more xs i nothing h) refl

pub lengths_more : (xs : List (Bor (List ℕ))) (i : ℕ) → i < length xs → lengths (drop i (map (λ x. x.now) xs)) ≡ length (get_or xs i nothing).now + lengths (drop (i + 1) (map (λ x. x.now) xs))
lengths_more xs i h = ap lengths (parts_more xs i h) ∙ sum_by-cons (λ (part : List ℕ). length part) (get_or xs i nothing).now (drop (i + 1) (map (λ x. x.now) xs))

pub parts_push : (xs : List (Bor (List ℕ))) (i : ℕ) → i < length xs → take (i + 1) (map (λ x. x.now) xs) ≡ take i (map (λ x. x.now) xs) ++ ((get_or xs i nothing).now ∷ [])
parts_push xs i h = rw (take-map (λ x. x.now) (i + 1) xs, take-map (λ x. x.now) i xs) (map_more (λ x. x.now) xs i nothing h)

module _ (range : KeyRange) where
  pub counts_push : (ps : List (List ℕ)) (p : List ℕ) → counts range (ps ++ (p ∷ [])) ≡ counts range ps ++ (count range p ∷ [])
  counts_push [] p = refl
  counts_push (q ∷ ps) p = ap (λ l. count range q ∷ l) (counts_push ps p)

  pub count_push : (ps : List (List ℕ)) (p : List ℕ) → count_in range (ps ++ (p ∷ [])) ≡ count_in range ps + count range p
  count_push ps p = sum_by_push (count range) ps p

  pub cut_push : (ps : List (List ℕ)) (p : List ℕ) → range_parts range (ps ++ (p ∷ [])) ≡ range_parts range ps ++ range_part range p
  cut_push ps p = flat_map-append (range_part range) ps (p ∷ []) ∙ simp append-nil

-- a number written after some others
pub head_push : (hs zs : List ℕ) (i n : ℕ) → length hs ≡ i → i < length zs → set (hs ++ drop i zs) i n ≡ (hs ++ (n ∷ [])) ++ drop (i + 1) zs
head_push hs zs i n e h = rw (drop_more zs i 0 h, set_at hs (get_or zs i 0) (drop (i + 1) zs) n i e) (sym (append_assoc hs (n ∷ []) (drop (i + 1) zs)))

-- rows copied after some others
pub body_push : (cs zs q : List ℕ) (at k : ℕ) → length cs ≡ at → put_mid at k (cs ++ drop at zs) q ≡ (cs ++ q) ++ drop (at + k) zs
body_push cs zs q at k e =
    rw (take_at cs (drop at zs) at e, drop_at cs (drop at zs) at e, drop-drop k at zs) (sym (append_assoc cs q (drop (at + k) zs)))

-- an iteration that finds q in the part at i
module _ (range : KeyRange) (xs : List (Bor (List ℕ))) (i : ℕ) (q : List ℕ) (h : i < length xs) (v : q ≡ range_part range (get_or xs i nothing).now) where
  done_is : length (take i (map (λ x. x.now) xs)) ≡ i
  done_is = length-take-le i (map (λ x. x.now) xs) (simp length-map (omega arith))

  pub heads_turn : (hs zs : List ℕ) → i < length zs → hs ≡ counts range (take i (map (λ x. x.now) xs)) ++ drop i zs
      → set hs i (length q / 2) ≡ counts range (take (i + 1) (map (λ x. x.now) xs)) ++ drop (i + 1) zs
  heads_turn hs zs l e =
      rw (e, v, parts_push xs i h, counts_push range (take i (map (λ x. x.now) xs)) (get_or xs i nothing).now)
      (head_push (counts range (take i (map (λ x. x.now) xs))) zs i _ (length-map (take i (map (λ x. x.now) xs)) (count range) ∙ done_is) l)

  pub body_turn : (bs zs ws : List ℕ) (at k : ℕ) → bs ≡ range_parts range (take i (map (λ x. x.now) xs)) ++ drop at zs → at ≡ length (range_parts range (take i (map (λ x. x.now) xs))) → ws ≡ q → k ≡ length q
      → put_mid at k bs ws ≡ range_parts range (take (i + 1) (map (λ x. x.now) xs)) ++ drop (at + length q) zs
  body_turn bs zs ws at k e l w n =
      rw (e, w, n, parts_push xs i h, cut_push range (take i (map (λ x. x.now) xs)) (get_or xs i nothing).now, ← v)
      (body_push (range_parts range (take i (map (λ x. x.now) xs))) zs q at (length q) (sym l))

  pub at_turn : (at : ℕ) → at ≡ length (range_parts range (take i (map (λ x. x.now) xs))) → at + length q ≡ length (range_parts range (take (i + 1) (map (λ x. x.now) xs)))
  at_turn at l =
      rw (l, parts_push xs i h, cut_push range (take i (map (λ x. x.now) xs)) (get_or xs i nothing).now, ← v)
      (sym (length-append (range_parts range (take i (map (λ x. x.now) xs))) q))

  pub count_turn : (n : ℕ) → n ≡ count_in range (take i (map (λ x. x.now) xs)) → n + length q / 2 ≡ count_in range (take (i + 1) (map (λ x. x.now) xs))
  count_turn n e = rw (e, v, parts_push xs i h) (sym (count_push range (take i (map (λ x. x.now) xs)) (get_or xs i nothing).now))
