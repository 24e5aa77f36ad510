-- What is shared is the first of the rows behind the header.
use Rattle.std.proofs.Common.{◌≡◌, take, map, refl, subst}
use Rattle.output.specs.Output.{Writes}
use Rattle.query.specs.AnswerRows.{read_answer}
use Rattle.rows.specs.Halving.{pair_row}
use Rattle.response_text.specs.Lines.{list_bytes, answer_bytes}
use Rattle.response_text.proofs.Pairs.{first_rows}
use Rattle.response_text.proofs.answers.write_answer.Goals as goal

pub returns-in-Shared : goal.returns-in-Shared
returns-in-Shared g c =
    let rows = c.behind_header-rows.result.now in
    let told : list_bytes (map pair_row (take c.min-in-Shared.result rows)) ≡ answer_bytes (read_answer c.args.answered c.args.row.now) =
    rw (c.in-Shared.is, first_rows c.in-Shared.count rows c.min-in-Shared.ensures refl, c.behind_header-rows.ensures) refl in
    subst (Writes c.args.out.now c.write_list.new.out c.write_list.result) told c.write_list.ensures
