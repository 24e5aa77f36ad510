-- Compartments in memory: two lie apart, and memory that is cut between them.
use Rattle.std.proofs.Common.{◌≡◌, ℕ, ◌+◌, ◌-◌, ◌*◌, ◌<◌, ◌≤◌, ltb, List, ◌++◌, length, take, drop, Some, sym, refl, ap, ◌∙◌, inl, inr, arith}
use Rattle.std.proofs.lemmas.List.{append_assoc, take-take, drop-take, drop-drop, drop-append-le, length-take-le, take-append-drop}
use Rattle.policy.specs.Access.{rules_of, place_in, place_at, write_target, write_target_at}
use Rattle.policy.specs.declared.Policy.{Policy}
use Rattle.policy.specs.declared.place.Place.{Place}
use Rattle.policy.specs.declared.place.Written.{Written}
use Rattle.policy.proofs.Proved.{compartments_apart, written_there}
use Rattle.std.proofs.lemmas.Bool.{cases_Bool, cases_lt, ltb-true}
use Rattle.store.specs.Calls.{Apart}
use Rattle.store.specs.Memory.{end, part, with_part}

pub places_apart : (p : Policy) (c d : ℕ) → c < p.compartments → d < p.compartments → (d ≡ c → ⊥) → Apart (place_in p c) (place_in p d)
places_apart p c d c_there d_there ne =
    elim (cases_lt c d) [
      | inl l ↦
          let a = (compartments_apart p d d_there).1 c l in
          record { before = λ x. omega (arith, a); behind = λ x. absurd (omega (arith, a, x)) }
      | inr l ↦
          elim (cases_lt d c) [
            | inl m ↦
                let a = (compartments_apart p c c_there).1 d m in
                record { before = λ x. absurd (omega (arith, a, x)); behind = λ x. omega (arith, a) }
            | inr m ↦ absurd (ne (omega arith))
          ]
    ]

-- the compartment in which a user writes, and another one
pub written_apart : (p : Policy) (user c : ℕ) (w : Written) (q : Place) → write_target_at p user ≡ Some w → place_at p c ≡ Some q → (w.compartment ≡ c → ⊥) → Apart q w.place
written_apart p user c w q e f ne =
    elim (cases_Bool (ltb user p.users)) [
      | inl t ↦
          elim (cases_Bool (ltb c p.compartments)) [
            | inl s ↦
                let g : write_target p user ≡ w = (let k = rw t at e in cc) in
                let h : place_in p c ≡ q = (let k = rw s at f in cc) in
                rw (← g, ← h) (places_apart p c ((rules_of p).writes user) (ltb-true c p.compartments s) (written_there p user (ltb-true user p.users t)) (rw (← g) at ne))
            | inr s ↦ let k = rw s at f in absurd cc
          ]
      | inr t ↦ let k = rw t at e in absurd cc
    ]

-- the compartment that lies first, read out of what lies before a cut
pub part_before : (q : Place) (at : ℕ) (m : List ℕ) → end q ≤ at → take (end q - q.start) (drop q.start (take at m)) ≡ part q m
part_before q at m h =
    let n : at ≡ q.start + (at - q.start) = omega arith in
    rw (n, drop-take q.start (at - q.start) m) (take-take (end q - q.start) (at - q.start) (drop q.start m) (omega arith))

-- the one behind, read out of what lies behind it
pub part_behind : (q : Place) (m : List ℕ) → take (2 + 2 * q.capacity) (drop q.start m) ≡ part q m
part_behind q m = let n : end q - q.start ≡ 2 + 2 * q.capacity = omega arith in rw n refl

-- the one behind written: memory with it in its place
pub written_behind : (q : Place) (new m : List ℕ) → take q.start m ++ (new ++ drop (2 + 2 * q.capacity) (drop q.start m)) ≡ with_part q new m
written_behind q new m = let n : end q - q.start ≡ 2 + 2 * q.capacity = omega arith in rw n refl

-- the one that lies first written
pub written_before : (q : Place) (at : ℕ) (new m : List ℕ) → end q ≤ at → at ≤ length m →
    (take q.start (take at m) ++ (new ++ drop (end q - q.start) (drop q.start (take at m)))) ++ drop at m ≡ with_part q new m
written_before q at new m h l =
    let n : at ≡ q.start + (at - q.start) = omega arith in
    let k : q.start + (end q - q.start) ≡ end q = omega arith in
    let rest : drop (end q - q.start) (drop q.start (take at m)) ++ drop at m ≡ drop (end q - q.start) (drop q.start m) =
    rw (drop-drop (end q - q.start) q.start (take at m), drop-drop (end q - q.start) q.start m, k)
    (sym (drop-append-le (end q) (take at m) (drop at m) (rw (length-take-le at m l) h)) ∙ ap (drop (end q)) (take-append-drop at m)) in
    rw (
      take-take q.start at m (omega arith),
      append_assoc (take q.start m) (new ++ drop (end q - q.start) (drop q.start (take at m))) (drop at m),
      append_assoc new (drop (end q - q.start) (drop q.start (take at m))) (drop at m),
      rest,
    ) refl
