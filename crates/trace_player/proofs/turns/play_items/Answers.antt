-- A turn plays the first of the items that are left.
use Rattle.std.proofs.Common.{◌∷◌, Ok, Err, Result, sym, ap, ◌∙◌}
use Rattle.base.specs.declared.refusal.Refusal.{Refusal}
use Rattle.std.specs.Result.{OnErr}
use Rattle.trace_items.specs.Items.{left, items_in, end_in}
use Rattle.trace_items.specs.declared.items.Item.{Item}
use Rattle.trace_player.proofs.Going.{begin, go_on, stop}
use Rattle.trace_player.proofs.turns.play_items.Goals as goal

on_err : {X E P : Type 0} (r : Result X E) → P → OnErr r P
on_err (Ok x) h = tt
on_err (Err e) h = h

pub loop-item-init : goal.loop-item-init
loop-item-init g c =
    let same = c.into_iter-item-iterator.ensures.into_iter_gives in
    record { can = tt; finite = tt; going = rw same (begin _ _ _ _ _ _); end = ap (λ it. end_in (left it)) same }

pub loop-item-preserved : goal.loop-item-preserved
loop-item-preserved g c =
    let first = c.in-Some.ensures.steps ∙ ap (λ (x : Result Item Refusal). x ∷ left c.next.new.self) c.in-Ok.is in
    let here = ap items_in first in
    record {
      can = tt;
      finite = tt;
      going = rw (c.play_item.ensures.after, c.play_item.ensures.row)
          (go_on _ _ _ _ _ (rw here at c.loop-item.invariant.going) c.in_ok-play_item-in-Ok.ensures.text);
      end = sym (ap end_in first) ∙ c.loop-item.invariant.end;
    }

pub returns-in_err-play_item-in-Ok-clause-broken : goal.returns-in_err-play_item-in-Ok-clause-broken
returns-in_err-play_item-in-Ok-clause-broken g c =
    let first = c.in-Some.ensures.steps ∙ ap (λ (x : Result Item Refusal). x ∷ left c.next.new.self) c.in-Ok.is in
    let here = ap items_in first in
    on_err c.from_residual.result
    (rw c.play_item.ensures.after (stop _ _ _ _ _ (rw here at c.loop-item.invariant.going) c.in_err-play_item-in-Ok.ensures.text))
