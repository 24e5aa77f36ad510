-- Items played one after the other: what was done so far, and where the writer fails.
use Rattle.std.proofs.Common.{◌≡◌, ℕ, ◌+◌, ◌<◌, List, [], ◌∷◌, ◌++◌, length, take, refl, sym, ap, ◌∙◌, subst, arith, append_assoc, append-nil, length-append}
use Rattle.std.proofs.Math.Seq.{take-append_seam, take-append-add}
use Rattle.output.specs.Output.{OutputState, WritesAll, WritesPart}
use Rattle.output.proofs.Chains.{nothing_written, all_then_all, all_then_part, part_then}
use Rattle.policy.specs.declared.Policy.{Policy}
use Rattle.std.specs.Io.KnownBytes.{Appends}
use Rattle.trace_items.specs.declared.items.Item.{Item}
use Rattle.trace_player.specs.Printed.{Audience}
use Rattle.trace_player.specs.Turns.{PlayResult, turn_result, play_result, Stops}

module _ (p : Policy) (a : Audience) where
  -- from memory and row on
  abbrev after : List ℕ → List ℕ → List Item → List Item → PlayResult
  after m r xs ys = play_result p a (play_result p a m r xs).memory (play_result p a m r xs).row ys

  text_then : (m r : List ℕ) (xs ys : List Item) → (play_result p a m r (xs ++ ys)).text ≡ (play_result p a m r xs).text ++ (after m r xs ys).text
  text_then m r [] ys = refl
  text_then m r (x ∷ xs) ys =
      let t = turn_result p a m r x in
      ap (λ z. t.text ++ z) (text_then t.memory t.row xs ys) ∙ sym (append_assoc t.text (play_result p a t.memory t.row xs).text _)

  memory_then : (m r : List ℕ) (xs ys : List Item) → (play_result p a m r (xs ++ ys)).memory ≡ (after m r xs ys).memory
  memory_then m r [] ys = refl
  memory_then m r (x ∷ xs) ys = let t = turn_result p a m r x in memory_then t.memory t.row xs ys

  row_then : (m r : List ℕ) (xs ys : List Item) → (play_result p a m r (xs ++ ys)).row ≡ (after m r xs ys).row
  row_then m r [] ys = refl
  row_then m r (x ∷ xs) ys = let t = turn_result p a m r x in row_then t.memory t.row xs ys

  module _ (m₀ r₀ : List ℕ) (all : List Item) where
    -- the items so far are written and leave memory and row, and these are left
    pub record Going (old now : OutputState) (m r : List ℕ) (left : List Item) : Type 0 where
      pub done : List Item
      pub split : done ++ left ≡ all
      pub written : WritesAll old now (play_result p a m₀ r₀ done).text
      pub memory : m ≡ (play_result p a m₀ r₀ done).memory
      pub row : r ≡ (play_result p a m₀ r₀ done).row

    pub begin : (old : OutputState) → Going old old m₀ r₀ all
    begin old = record { done = []; split = refl; written = nothing_written old; memory = refl; row = refl }

    module _ {old now : OutputState} {m r : List ℕ} {i : Item} {rest : List Item} (g : Going old now m r (i ∷ rest)) where
      abbrev turn : PlayResult
      turn = turn_result p a m r i

      -- with one more
      one_more : after m₀ r₀ g.done (i ∷ []) ≡ record { text = turn.text ++ []; memory = turn.memory; row = turn.row }
      one_more = rw (sym g.memory, sym g.row) refl

      text_more : (play_result p a m₀ r₀ (g.done ++ (i ∷ []))).text ≡ (play_result p a m₀ r₀ g.done).text ++ turn.text
      text_more =
          text_then m₀ r₀ g.done (i ∷ [])
          ∙ (ap (λ (x : PlayResult). (play_result p a m₀ r₀ g.done).text ++ x.text) one_more
          ∙ ap (λ z. (play_result p a m₀ r₀ g.done).text ++ z) (append-nil turn.text))

      memory_more : (play_result p a m₀ r₀ (g.done ++ (i ∷ []))).memory ≡ turn.memory
      memory_more = memory_then m₀ r₀ g.done (i ∷ []) ∙ ap (λ (x : PlayResult). x.memory) one_more

      row_more : (play_result p a m₀ r₀ (g.done ++ (i ∷ []))).row ≡ turn.row
      row_more = row_then m₀ r₀ g.done (i ∷ []) ∙ ap (λ (x : PlayResult). x.row) one_more

      split_more : (g.done ++ (i ∷ [])) ++ rest ≡ all
      split_more = append_assoc g.done (i ∷ []) rest ∙ g.split

      pub go_on : {new : OutputState} → WritesAll now new turn.text → Going old new turn.memory turn.row rest
      go_on {new} w = record {
        done = g.done ++ (i ∷ []);
        split = split_more;
        written = subst (WritesAll old new) (sym text_more) (all_then_all g.written w);
        memory = sym memory_more;
        row = sym row_more;
      }

      take_done : take (length g.done) all ≡ g.done
      take_done = ap (take (length g.done)) (sym g.split) ∙ take-append_seam g.done (i ∷ rest)

      take_more : take (length g.done + 1) all ≡ g.done ++ (i ∷ [])
      take_more = ap (take (length g.done + 1)) (sym g.split) ∙ take-append-add g.done (i ∷ rest) 1

      -- all that is printed is what was, this turn's text and the rest
      abbrev rest_text : List ℕ
      rest_text = (after m₀ r₀ (g.done ++ (i ∷ [])) rest).text

      text_all : ((play_result p a m₀ r₀ g.done).text ++ turn.text) ++ rest_text ≡ (play_result p a m₀ r₀ all).text
      text_all =
          ap (λ z. z ++ rest_text) (sym text_more)
          ∙ (sym (text_then m₀ r₀ (g.done ++ (i ∷ [])) rest) ∙ ap (λ (is : List Item). (play_result p a m₀ r₀ is).text) split_more)

      pub stop : {new : OutputState} → WritesPart now new turn.text → Stops (play_result p a m₀ r₀) all old new turn.memory
      stop {new} w =
          let n = length (play_result p a m₀ r₀ g.done).text + w.count in
          let q = part_then rest_text (all_then_part g.written w) in
          record {
            played = length g.done;
            within = omega (arith, ap length g.split, length-append g.done (i ∷ rest));
            part = record {
              count = n;
              fewer = subst (λ (t : List ℕ). n < length t) text_all q.fewer;
              appended = subst (λ (t : List ℕ). Appends old.contents new.contents (take n t)) text_all q.appended;
              failed = q.failed;
              intact = q.intact;
            };
            earlier = rw take_done (omega arith);
            later = rw (take_more, text_more) (omega (arith, w.fewer, length-append (play_result p a m₀ r₀ g.done).text turn.text));
            memory_then = rw take_more (sym memory_more);
          }

    pub finish : {old now : OutputState} {m r : List ℕ} → Going old now m r [] →
        WritesAll old now (play_result p a m₀ r₀ all).text × (m ≡ (play_result p a m₀ r₀ all).memory)
    finish {old} {now} {m} {r} g =
        let e = sym (append-nil g.done) ∙ g.split in (
          subst (λ (is : List Item). WritesAll old now (play_result p a m₀ r₀ is).text) e g.written,
          g.memory ∙ ap (λ (is : List Item). (play_result p a m₀ r₀ is).memory) e,
        )
