-- Opened memory holds the empty state, and writes, deletes and copies follow the model.
use Rattle.std.proofs.Common.{◌≡◌, ℕ, suc, ◌+◌, ◌-◌, ◌*◌, ◌<◌, ◌≤◌, false, cond, eqb, ltb, leb, ◌&&◌, List, ◌++◌, length, take, drop, replicate, sym, refl, ap, ◌∙◌, inl, inr, arith}
use Rattle.compartment.specs.Changes.{put_change, delete_change, no_change}
use Rattle.compartment.specs.Holding as compartment
use Rattle.compartment.specs.Holding.{FitsU32s, BothHold}
use Rattle.compartment.specs.Parts.{limit, write_part, delete_part, copy_part, raise_part}
use Rattle.compartment.specs.declared.copying.Copying.{Copying}
use Rattle.compartment.proofs.Held.{empty_holds, refusal_leaves, write_tells, write_holds, delete_tells, delete_holds, copy_tells, copy_holds, copy_refused, raise_tells, raise_holds}
use Rattle.model.specs.Model.{State, refused, is_accepted, set_rows, respond_change, respond_fill, lend}
use Rattle.policy.specs.Access.{rules_of, place_in, write_target, may_copy, memory_length}
use Rattle.policy.specs.Rules.{sees, flows}
use Rattle.policy.specs.declared.Policy.{Policy}
use Rattle.policy.specs.declared.place.Place.{Place}
use Rattle.base.specs.declared.refusal.Refusal.TheVariants.{NoRoom, NoRow, LastVersion}
use Rattle.policy.proofs.Proved.{compartments_apart, seen_there, written_there}
use Rattle.request.specs.declared.Request.TheVariants.{Write, Delete, Copy}
use Rattle.rows.specs.declared.KeyRange.{KeyRange}
use Rattle.rows.specs.declared.Row.{Row}
use Rattle.rows.specs.Rows.{put, put_all, without, has_key, rows_in}
use Rattle.std.proofs.lemmas.List.{drop-append-le, take-append-le, drop-replicate, take-replicate, length-replicate, length-append}
use Rattle.std.proofs.lemmas.Bool.{cases_Bool, and_parts, ltb-true, lt-ltb, le-ltb, le-leb, eqb-true}
use Rattle.store.specs.Memory.{end, part, change_at}
use Rattle.store.specs.Calls.{write_result, delete_result, copy_result, between_result}
use Rattle.store.specs.Simulation.{Holds, cache_start, OpenHolds}
use Rattle.store.proofs.Changing.{as_result, as_change, Follows, change_holds}
use Rattle.store.proofs.Standing.{copy_itself}

-- in memory that holds a state, a change of the part of a compartment c
module _ (p : Policy) (s : State) (memory : List ℕ) (h : Holds p s memory) where
  pub long_enough : ltb (length memory) (memory_length p) ≡ false
  long_enough = le-ltb (length memory) (memory_length p) h.long

  -- of a user who is there
  module _ (user : ℕ) (there : user < p.users) where
    abbrev own : ℕ
    own = (rules_of p).writes user

    abbrev place : Place
    place = place_in p own

    own_there : own < p.compartments
    own_there = written_there p user there

    held : compartment.PartHolds ((rules_of p).capacity own) (s.version own) (s.rows own) (part place memory)
    held = h.compartments own own_there

    write_tells_so : (row : Row) → (write_part (write_target p user) row (part place memory)).told ≡ as_result (respond_fill (rules_of p) limit s own (put row (s.rows own)))
    write_tells_so row =
        write_tells ((rules_of p).capacity own) (s.version own) (write_target p user) row (s.rows own) (part place memory) held
        ∙ sym (as_change (leb (length (put row (s.rows own))) ((rules_of p).capacity own)) (ltb (suc (s.version own)) limit) (NoRoom ((rules_of p).capacity own)) (LastVersion own))

    write_holds_so : (row : Row) → FitsU32s row
        → Holds p (cond (is_accepted (respond_fill (rules_of p) limit s own (put row (s.rows own)))) (set_rows s own (put row (s.rows own))) s) (change_at place memory (write_part (write_target p user) row (part place memory))).memory
    write_holds_so row small =
        change_holds p s memory h own own_there (write_part (write_target p user) row (part place memory)) _ (put row (s.rows own)) (write_tells_so row)
        (write_holds ((rules_of p).capacity own) (s.version own) (write_target p user) row (s.rows own) (part place memory) held small)
        (refusal_leaves (write_target p user) (put_change row) (part place memory))

    delete_tells_so : (key : ℕ) → (delete_part (write_target p user) key (part place memory)).told
        ≡ as_result (cond (has_key key (s.rows own)) (respond_change limit s own) (refused (NoRow key)))
    delete_tells_so key =
        delete_tells ((rules_of p).capacity own) (s.version own) (write_target p user) key (s.rows own) (part place memory) held
        ∙ sym (as_change (has_key key (s.rows own)) (ltb (suc (s.version own)) limit) (NoRow key) (LastVersion own))

    delete_holds_so : (key : ℕ)
        → Holds p (cond (is_accepted (cond (has_key key (s.rows own)) (respond_change limit s own) (refused (NoRow key)))) (set_rows s own (without key (s.rows own))) s) (change_at place memory (delete_part (write_target p user) key (part place memory))).memory
    delete_holds_so key =
        change_holds p s memory h own own_there (delete_part (write_target p user) key (part place memory)) _ (without key (s.rows own)) (delete_tells_so key)
        (delete_holds ((rules_of p).capacity own) (s.version own) (write_target p user) key (s.rows own) (part place memory) held)
        (refusal_leaves (write_target p user) (delete_change key) (part place memory))

    -- a copy from a compartment c
    module _ (c : ℕ) (c_there : c < p.compartments) (range : KeyRange) where
      abbrev copying : Copying
      copying = record { from = place_in p c; written = write_target p user; range = range }

      abbrev copied_rows : List Row
      copied_rows = put_all (rows_in range (s.rows c)) (s.rows own)

      pub both : BothHold (s.rows c) (s.rows own) ((rules_of p).capacity own) (s.version own) (part (place_in p c) memory) (part place memory)
      both = record { source_capacity = (rules_of p).capacity c; source_version = s.version c; source_holds = h.compartments c c_there; holds = held }

      between_tells : (between_result copying memory).told ≡ as_result (respond_fill (rules_of p) limit s own copied_rows)
      between_tells =
          copy_tells copying ((rules_of p).capacity own) (s.version own) (s.rows c) (s.rows own) (part (place_in p c) memory) (part place memory) both
          ∙ sym (as_change (leb (length copied_rows) ((rules_of p).capacity own)) (ltb (suc (s.version own)) limit) (NoRoom ((rules_of p).capacity own)) (LastVersion own))

      between_holds : Holds p (cond (is_accepted (respond_fill (rules_of p) limit s own copied_rows)) (set_rows s own copied_rows) s) (between_result copying memory).memory
      between_holds =
          change_holds p s memory h own own_there (copy_part copying (part (place_in p c) memory) (part place memory)) _ copied_rows between_tells
          (copy_holds copying ((rules_of p).capacity own) (s.version own) (s.rows c) (s.rows own) (part (place_in p c) memory) (part place memory) both)
          (copy_refused copying (part (place_in p c) memory) (part place memory))

    -- and into the same one
    raise_tells_so : (raise_part (write_target p user) (part place memory)).told ≡ as_result (respond_fill (rules_of p) limit s own (s.rows own))
    raise_tells_so =
        raise_tells ((rules_of p).capacity own) (s.version own) (write_target p user) (s.rows own) (part place memory) held
        ∙ sym (as_change (leb (length (s.rows own)) ((rules_of p).capacity own)) (ltb (suc (s.version own)) limit) (NoRoom ((rules_of p).capacity own)) (LastVersion own)
        ∙ rw (le-leb (length (s.rows own)) ((rules_of p).capacity own) held.fits) refl)

    raise_holds_so : Holds p (cond (is_accepted (respond_fill (rules_of p) limit s own (s.rows own))) (set_rows s own (s.rows own)) s) (change_at place memory (raise_part (write_target p user) (part place memory))).memory
    raise_holds_so =
        change_holds p s memory h own own_there (raise_part (write_target p user) (part place memory)) _ (s.rows own) raise_tells_so
        (raise_holds ((rules_of p).capacity own) (s.version own) (write_target p user) (s.rows own) (part place memory) held)
        (refusal_leaves (write_target p user) no_change (part place memory))

  pub write_follows : (user lent : ℕ) (row : Row) → FitsU32s row → Follows p s (lend (Write user row) lent) (write_result p memory user row)
  write_follows user lent row small =
      elim (cases_Bool (ltb user p.users)) [
        | inl e ↦
            let u = ltb-true user p.users e in
            record { tells = rw (long_enough, e) (write_tells_so user u row); holds = rw (long_enough, e) (write_holds_so user u row small) }
        | inr e ↦ record { tells = rw (long_enough, e) refl; holds = rw (long_enough, e) h }
      ]

  pub delete_follows : (user lent key : ℕ) → Follows p s (lend (Delete user key) lent) (delete_result p memory user key)
  delete_follows user lent key =
      elim (cases_Bool (ltb user p.users)) [
        | inl e ↦
            let u = ltb-true user p.users e in
            record { tells = rw (long_enough, e) (delete_tells_so user u key); holds = rw (long_enough, e) (delete_holds_so user u key) }
        | inr e ↦ record { tells = rw (long_enough, e) refl; holds = rw (long_enough, e) h }
      ]

  pub copy_follows : (user lent c : ℕ) (range : KeyRange) → Follows p s (lend (Copy user c range) lent) (copy_result p memory user c range)
  copy_follows user lent c range =
      let d = (rules_of p).writes user in
      elim (cases_Bool (may_copy (rules_of p) user c)) [
        | inl e ↦
            let m = and_parts (ltb user p.users) (sees (rules_of p) user c && flows (rules_of p) c d) e in
            let u = ltb-true user p.users m.0 in
            let seen = seen_there p user c u (and_parts (sees (rules_of p) user c) (flows (rules_of p) c d) m.1).0 in
            let at = lt-ltb c p.compartments seen in
            elim (cases_Bool (eqb d c)) [
              | inl i ↦
                  let same : put_all (rows_in range (s.rows c)) (s.rows d) ≡ s.rows d =
                  rw (sym (eqb-true d c i)) (copy_itself range (s.rows d) (h.compartments d (written_there p user u)).sorted) in
                  record { tells = rw (long_enough, e, m.0, at, i, same) (raise_tells_so user u); holds = rw (long_enough, e, m.0, at, i, same) (raise_holds_so user u) }
              | inr i ↦
                  record { tells = rw (long_enough, e, m.0, at, i) (between_tells user u c seen range); holds = rw (long_enough, e, m.0, at, i) (between_holds user u c seen range) }
            ]
        | inr e ↦ record { tells = rw (long_enough, e) refl; holds = rw (long_enough, e) h }
      ]

-- a part of zeros
zeros : (a n all : ℕ) (xs : List ℕ) → a + n ≤ all → take n (drop a (replicate all 0 ++ xs)) ≡ replicate n 0
zeros a n all xs h =
    let cut : drop a (replicate all 0 ++ xs) ≡ replicate (all - a) 0 ++ xs =
    drop-append-le a (replicate all 0) xs (rw length-replicate (omega arith)) ∙ ap (λ ys. ys ++ xs) (drop-replicate a all 0) in
    rw cut (take-append-le n (replicate (all - a) 0) xs (rw length-replicate (omega arith)) ∙ take-replicate n (all - a) 0 (omega arith))

pub open_holds : OpenHolds
open_holds p memory long =
    let all = memory_length p in
    let rest = drop all memory in
    rw (le-ltb (length memory) all long) (record {
      long = simp (length-append, length-replicate) (omega arith);
      compartments = λ c h.
          let q = place_in p c in
          let size : end q - q.start ≡ 2 + 2 * q.capacity = omega arith in
          rw (zeros q.start (end q - q.start) all rest (omega (arith, (compartments_apart p c h).0)), size) (empty_holds q.capacity);
      caches = λ u h. zeros (cache_start p u) 192 all rest (omega arith);
      few = λ u. omega arith;
      of_view = λ u. tt;
    })
