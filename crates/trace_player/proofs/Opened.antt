-- A trace on memory that is opened: what is printed, left and how it ends, by the numbers of its policy.
use Rattle.std.proofs.Common.{◌≡◌, ℕ, ◌+◌, ◌<◌, ◌≤◌, Bool, true, false, cond, ltb, List, length, take, replicate, Some, None, sym, refl, ap, ◌∙◌, subst, inl, inr}
use Rattle.base.specs.declared.refusal.Refusal.TheVariants.{OutOfBounds}
use Rattle.model.specs.Model.{empty}
use Rattle.output.specs.Output.{OutputState}
use Rattle.policy.proofs.Proved.{policies_valid, reads_rules}
use Rattle.policy.specs.Access.{rules_of, compartments_of, memory_length}
use Rattle.policy.specs.Laws.{SameRules}
use Rattle.policy.specs.Numbers.{rules_in}
use Rattle.policy.specs.Read.{ReadsPolicy}
use Rattle.policy.specs.declared.Policy.{Policy}
use Rattle.promises.specs.Traces.{memory_after}
use Rattle.std.proofs.lemmas.Bool.{cases_Bool, cond-true, cond-false, ltb-false}
use Rattle.std.proofs.lemmas.List.{length-replicate}
use Rattle.std.specs.Io.KnownBytes.{Appends}
use Rattle.std.specs.List.{AllByRecursion}
use Rattle.store.proofs.Following.{open_holds}
use Rattle.store.specs.Calls.{short, empty_memory, open_result}
use Rattle.store.specs.Simulation.{Holds}
use Rattle.trace_bytes.specs.PolicyNumbers.{policy_of}
use Rattle.trace_items.specs.Items.{items_of}
use Rattle.trace_items.specs.declared.items.Item.{Item}
use Rattle.trace_player.proofs.Bounded.{Bounded, items_bounded, take_bounded}
use Rattle.trace_player.proofs.Whole.{text_is, memory_is, whole_is, lines_alike}
use Rattle.trace_player.specs.Playing.{calls_in, calls_for, told_text, opening, memory_for, opening_with, text_of, Leaves, LeavesOf, Breaks}
use Rattle.trace_player.specs.Printed.{Audience, Line, longest_row, lines_for, text}
use Rattle.trace_player.specs.Turns.{play_result, open_and_play, StopsAfterOpen}

zeros : length (replicate {A = ℕ} longest_row 0) ≡ longest_row
zeros = length-replicate {A = ℕ} longest_row 0

module _ (p : Policy) (bytes : List ℕ) (reads : ReadsPolicy (policy_of bytes) p) (o : opening bytes ≡ None) where
  same : SameRules (rules_of p) (rules_in (policy_of bytes)) (compartments_of p)
  same = subst (λ (n : ℕ). SameRules (rules_of p) (rules_in (policy_of bytes)) n) (sym reads.compartments) (reads_rules (policy_of bytes) p reads)

  module _ (a : Audience) (memory : List ℕ) where
    -- from zeros on
    abbrev from_zeros : List Item → List ℕ × List ℕ
    from_zeros is = ((play_result p a (empty_memory p memory) (replicate longest_row 0) is).text, (play_result p a (empty_memory p memory) (replicate longest_row 0) is).memory)

    opened_is : short p memory ≡ false → (open_result p memory).memory ≡ empty_memory p memory
    opened_is e = rw e refl

    told_is : (is : List Item) → AllByRecursion Bounded is → short p memory ≡ false → (from_zeros is).0 ≡ told_text a bytes is
    told_is is b e =
        let long = ltb-false (length memory) (memory_length p) e in
        let holds = subst (λ (m : List ℕ). Holds p empty m) (opened_is e) (open_holds p memory long) in
        text_is p a empty (empty_memory p memory) (replicate longest_row 0) is zeros holds b
        ∙ (ap text (whole_is (rules_of p) a is (policies_valid p).sound)
        ∙ ap (λ (ls : List Line). text (lines_for a ls)) (lines_alike (rules_of p) (rules_in (policy_of bytes)) (compartments_of p) 4096 same (policies_valid p) empty is))

    leaves : (is : List Item) (now : List ℕ) → short p memory ≡ false → now ≡ (from_zeros is).1 → Leaves a bytes is memory now
    leaves is now e i = record {
      policy = p;
      reads = reads;
      left =
          i
          ∙ (memory_is p a (empty_memory p memory) (replicate longest_row 0) is zeros
          ∙ ap (λ (m : List ℕ). memory_after p m (calls_for p a (calls_in is))) (sym (opened_is e)));
    }

    short_is : ltb (length memory) (memory_for (policy_of bytes)) ≡ short p memory
    short_is = rw (reads.capacities, reads.users) refl

    -- why nothing is played, by whether memory is too short
    opening_is : opening_with (length memory) bytes ≡ cond (short p memory) (Some (OutOfBounds (length memory))) None
    opening_is = rw o (ap (λ (b : Bool). cond b (Some (OutOfBounds (length memory))) None) short_is)

    opening_short : short p memory ≡ true → opening_with (length memory) bytes ≡ Some (OutOfBounds (length memory))
    opening_short e = opening_is ∙ cond-true (short p memory) _ _ e

    opening_long : short p memory ≡ false → opening_with (length memory) bytes ≡ None
    opening_long e = opening_is ∙ cond-false (short p memory) _ _ e

    pub one_text : (open_and_play p a memory (items_of bytes)).text ≡ text_of a (length memory) bytes
    one_text = elim (cases_Bool (short p memory)) [
      | inl e ↦ let k = opening_short e in rw (k, e) refl
      | inr e ↦ let k = opening_long e in rw (k, e) (told_is (items_of bytes) (items_bounded bytes) e)
    ]

    pub one_left : (now : List ℕ) → now ≡ (open_and_play p a memory (items_of bytes)).memory → LeavesOf a bytes memory now
    one_left now i = elim (cases_Bool (short p memory)) [
      | inl e ↦ let k = opening_short e in let i = rw e at i in rw k i
      | inr e ↦ let k = opening_long e in let i = rw e at i in rw k (leaves (items_of bytes) now e i)
    ]

    pub one_break : (old new : OutputState) (now : List ℕ) → StopsAfterOpen p a memory (items_of bytes) old new now → Breaks a bytes old new memory now
    one_break old new now b =
        let s = b.stops in
        let e = b.opened in
        let is = items_of bytes in
        let bounded = items_bounded bytes in
        let n = s.part.count in
        let text : (from_zeros is).0 ≡ told_text a bytes is = told_is is bounded e in
        let before : (from_zeros (take s.played is)).0 ≡ told_text a bytes (take s.played is) = told_is (take s.played is) (take_bounded s.played is bounded) e in
        let behind : (from_zeros (take (s.played + 1) is)).0 ≡ told_text a bytes (take (s.played + 1) is) =
        told_is (take (s.played + 1) is) (take_bounded (s.played + 1) is bounded) e in
        record {
          opened = opening_long e;
          played = s.played;
          within = s.within;
          part = record {
            count = n;
            fewer = subst (λ (t : List ℕ). n < length t) text s.part.fewer;
            appended = subst (λ (t : List ℕ). Appends old.contents new.contents (take n t)) text s.part.appended;
            failed = s.part.failed;
            intact = s.part.intact;
          };
          earlier = subst (λ (t : List ℕ). length t ≤ n) before s.earlier;
          later = subst (λ (t : List ℕ). n < length t) behind s.later;
          left = leaves (take (s.played + 1) is) now e s.memory_then;
        }
