-- The first of the pieces between line feeds that has a word.
use Rattle.std.proofs.Common.{◌==◌, not, rules, tests}
use Rattle.std.proofs.lemmas.Iterator.Search.{find_from_yields_List}
use Rattle.std.proofs.lemmas.Iterator.Splits.{YieldsList-from_slice_split}
use Rattle.trace_text.specs.Lines.{is_silent}
use Rattle.trace_text.proofs.opening.first_line_with_words.Goals as goal

pub returns : goal.returns
returns c =
    find_from_yields_List (λ line. not (is_silent line)) _ _ c.find.result c.find.ensures.ran
    (YieldsList-from_slice_split _ (λ byte. byte == 10) c.args.text.now c.split.ensures.rest c.split.ensures.done c.split.ensures.closure (λ x b q k. search (rules, tests)))
    (λ x b q k. search (rules, tests))
