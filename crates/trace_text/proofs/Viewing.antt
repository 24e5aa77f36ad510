-- The view that a line says, read number by number.
use Rattle.std.proofs.Common.{◌≡◌, ℕ, suc, ◌+◌, ◌-◌, ◌<◌, true, false, List, [], ◌∷◌, ◌++◌, length, take, Ok, Err, Result, sym, refl, ap, ◌∙◌, append_assoc, append-nil, arith}
use Rattle.std.proofs.lemmas.List.{take_all, length-append}
use Rattle.std.specs.Str.{bytes_eq}
use Rattle.trace_text.specs.Names.{spelling}
use Rattle.trace_text.specs.Words.{word_at}
use Rattle.trace_text.specs.Lines.{and_then, compartment_at, view_from}
use Rattle.trace_text.specs.declared.fault.Reason.{Reason}
use Rattle.trace_text.specs.declared.names.Name.TheVariants as name

-- up to the place the numbers are read: they and what is still to come are the whole
pub record Viewed (line view : List ℕ) (place : ℕ) : Type 0 where
  pub long : length view + 3 ≡ place
  pub check_end : and_then (view_from (19 - place) line place) (λ cs. Ok (view ++ cs)) ≡ view_from 16 line 3

same : (r : Result (List ℕ) Reason) → and_then r (λ cs. Ok cs) ≡ r
same (Ok cs) = refl
same (Err e) = refl

pub viewed_none : (line view : List ℕ) → view ≡ [] → Viewed line view 3
viewed_none line view none = rw none (record { long = refl; check_end = same (view_from 16 line 3) })

one_on : (n : ℕ) (view : List ℕ) (r : Result (List ℕ) Reason) →
    and_then (and_then r (λ cs. Ok (n ∷ cs))) (λ cs. Ok (view ++ cs)) ≡ and_then r (λ cs. Ok ((view ++ n ∷ []) ++ cs))
one_on n view (Ok cs) = ap (λ (v : List ℕ). Ok v) (sym (append_assoc view (n ∷ []) cs))
one_on n view (Err e) = refl

module _ (line view : List ℕ) (place : ℕ) (v : Viewed line view place) where
  module _ (low : place < 19) where
    more : 19 - place ≡ suc (19 - (place + 1))
    more = omega arith

    pub viewed_done : bytes_eq (word_at line place) (spelling name.Writes) ≡ true → Ok view ≡ view_from 16 line 3
    viewed_done t = let check_end = rw (more, t) at v.check_end in ap (λ (cs : List ℕ). Ok cs) (sym (append-nil view)) ∙ check_end

    module _ (t : bytes_eq (word_at line place) (spelling name.Writes) ≡ false) where
      pub viewed_err : (e : Reason) → compartment_at line place ≡ Err e → Err e ≡ view_from 16 line 3
      viewed_err e h = rw (more, t, h) at v.check_end

      pub viewed_more : (n : ℕ) (next : List ℕ) → compartment_at line place ≡ Ok n → next ≡ take 16 (view ++ n ∷ []) →
          Viewed line next (place + 1)
      viewed_more n next h is =
          let long = length-append view (n ∷ []) in
          let all : next ≡ view ++ n ∷ [] = is ∙ take_all 16 (view ++ n ∷ []) (omega (arith, v.long)) in
          let on = rw (more, t, h) at v.check_end in
          rw all (record {
            long = omega (arith, v.long);
            check_end = sym (one_on n view (view_from (19 - (place + 1)) line (place + 1))) ∙ on;
          })
