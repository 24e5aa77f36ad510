-- What was done and what is left are the whole.
use Rattle.std.proofs.Common.{◌≡◌, replicate}
use Rattle.trace_items.specs.Items.{left, items_in, end_in}
use Rattle.trace_player.specs.Printed.{longest_row}
use Rattle.trace_player.proofs.Going.{Going}
use Rattle.trace_player.proofs.turns.play_items.Given as goal

abbrev pub invariant-loop-item : goal.invariant-loop-item
invariant-loop-item g l = record {
  can : (goal.iterator-loop-item g).can_next l.item-iterator;
  finite : (goal.iterator-loop-item g).is_finite l.item-iterator;
  going : Going l.policy l.viewer l.initial.memory (replicate longest_row 0) (items_in (left l.fn.items)) l.initial.out l.out l.memory l.row (items_in (left l.item-iterator));
  end : end_in (left l.item-iterator) ≡ end_in (left l.fn.items);
}
