-- The user, the answer, and how many rows were examined.
use Rattle.std.proofs.Common.{◌≡◌, ℕ, List, ◌++◌, codes, decimal, sym, ap, ◌∙◌, subst, append_assoc}
use Rattle.output.specs.Output.{Writes}
use Rattle.output.proofs.Chains.{all_then, all_then_part, part_then, passed_up}
use Rattle.query.specs.AnswerRows.{read_answer}
use Rattle.response_text.specs.Lines.{answer_bytes}
use Rattle.response_text.proofs.answers.write_outcome.Goals as goal

abbrev rest : ℕ → List ℕ
rest examined = codes " looked at " ++ (decimal examined ++ codes "\n")

-- the line after its user
told : (user answer : List ℕ) (examined : ℕ) → user ++ (answer ++ rest examined) ≡ user ++ (answer ++ (codes " looked at " ++ decimal examined) ++ codes "\n")
told user answer examined =
    ap (λ xs. user ++ xs)
    (ap (λ xs. answer ++ xs) (sym (append_assoc (codes " looked at ") (decimal examined) (codes "\n")))
    ∙ sym (append_assoc answer (codes " looked at " ++ decimal examined) (codes "\n")))

pub returns-in_err-write_answer : goal.returns-in_err-write_answer
returns-in_err-write_answer g c =
    let exit = c.from_residual-in_err-write_answer in
    let examined = c.args.outcome.examined in
    subst (Writes c.args.out.now c.write_answer.new.out exit.result) (told _ (answer_bytes (read_answer c.args.outcome.answered c.args.row.now)) examined)
    (passed_up exit.result _ _ _ exit.ensures.0 (all_then_part c.in_ok-write.ensures (part_then (rest examined) c.in_err-write_answer.ensures)))

pub returns : goal.returns
returns g c =
    let result = c.write-2.result in
    subst (Writes c.args.out.now c.write-2.new.self result) (told _ (answer_bytes (read_answer c.args.outcome.answered c.args.row.now)) c.args.outcome.examined)
    (all_then result _ _ _ _ _ c.in_ok-write.ensures (all_then result _ _ _ _ _ c.in_ok-write_answer.ensures c.write-2.ensures))
