-- Items with blanks between them, written one by one: what is written and what is left are the whole.
use Rattle.std.proofs.Common.{◌≡◌, ℕ, List, [], ◌∷◌, ◌++◌, codes, sym, ◌∙◌, refl, subst, append_assoc, append-nil}
use Rattle.output.specs.Output.{OutputState, WritesAll, WritesPart}
use Rattle.output.proofs.Chains.{nothing_written, all_then_all, all_then_part, part_then}
use Rattle.std.specs.List.{flat_map, join_by}

module _ {X : Type 0} (word : X → List ℕ) where
  -- the bytes of items, the first with this blank before it
  abbrev pub led : List ℕ → List X → List ℕ
  led blank [] = []
  led blank (x ∷ xs) = blank ++ (word x ++ flat_map (λ y. codes " " ++ word y) xs)

  -- from output a to b some bytes are written, and with the items that are left they are the whole
  pub record Going (a b : OutputState) (blank : List ℕ) (left : List X) (whole : List ℕ) : Type 0 where
    pub done : List ℕ
    pub written : WritesAll a b done
    pub all : done ++ led blank left ≡ whole

  led_next : (xs : List X) → led (codes " ") xs ≡ flat_map (λ y. codes " " ++ word y) xs
  led_next [] = refl
  led_next (x ∷ xs) = refl

  led_on : (done blank : List ℕ) (x : X) (xs : List X) {whole : List ℕ} → done ++ led blank (x ∷ xs) ≡ whole →
      (done ++ (blank ++ word x)) ++ led (codes " ") xs ≡ whole
  led_on done blank x xs e = rw (led_next xs) (simp append_assoc e)

  led_first : (xs : List X) → led [] xs ≡ join_by word (codes " ") xs
  led_first [] = refl
  led_first (x ∷ xs) = refl

  pub begin : (a : OutputState) (xs : List X) → Going a a [] xs (join_by word (codes " ") xs)
  begin a xs = record { done = []; written = nothing_written a; all = led_first xs }

  -- where each has a blank before it
  pub begin_behind : (a : OutputState) (xs : List X) → Going a a (codes " ") xs (flat_map (λ y. codes " " ++ word y) xs)
  begin_behind a xs = record { done = []; written = nothing_written a; all = led_next xs }

  pub go_on : {a b c : OutputState} {blank : List ℕ} {x : X} {xs : List X} {whole : List ℕ} → Going a b blank (x ∷ xs) whole →
      WritesAll b c (blank ++ word x) → Going a c (codes " ") xs whole
  go_on {a} {b} {c} {blank} {x} {xs} g w =
      record { done = g.done ++ (blank ++ word x); written = all_then_all g.written w; all = led_on g.done blank x xs g.all }

  pub fail : {a b c : OutputState} {blank : List ℕ} {x : X} {xs : List X} {whole : List ℕ} → Going a b blank (x ∷ xs) whole →
      WritesPart b c (blank ++ word x) → WritesPart a c whole
  fail {a} {b} {c} {blank} {x} {xs} g w =
      subst (WritesPart a c) (led_on g.done blank x xs g.all) (part_then (led (codes " ") xs) (all_then_part g.written w))

  pub end : {a b : OutputState} {blank : List ℕ} {xs : List X} {whole : List ℕ} → Going a b blank xs whole → xs ≡ [] → WritesAll a b whole
  end {a} {b} {blank} {xs} g none = subst (WritesAll a b) (sym (append-nil g.done) ∙ (rw none at g.all)) g.written
