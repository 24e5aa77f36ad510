-- What is written and the lists that are left to write are the whole.
use Rattle.std.proofs.Common.{map, drop, codes}
use denote.Text.{Utf8}
use denote.Shadow.{shadow}
use Rattle.query.specs.AnswerRows.{split}
use Rattle.std.specs.List.{join_by}
use Rattle.response_text.specs.Lines.{list_bytes}
use Rattle.response_text.proofs.Separated.{Going}
use Rattle.response_text.proofs.lists.write_lists.Given as goal
use Rattle.rows.specs.Halving.{pair_row}

abbrev pub invariant-loop-count : goal.invariant-loop-count
invariant-loop-count g l = record {
  text : shadow (Utf8 l.blank);
  going : Going list_bytes l.initial.out l.out l.blank (split (drop l.count-index l.counts) (map pair_row l.left)) (join_by list_bytes (codes " ") (split l.counts (map pair_row l.initial.left)));
}
