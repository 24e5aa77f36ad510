-- The first row with what stands before it, the other rows and a bracket.
use Rattle.std.proofs.Common.{◌≡◌, ℕ, List, [], ◌++◌, map, drop, get_or, codes, sym, ap, ◌∙◌, subst, append_assoc}
use Rattle.std.proofs.lemmas.List.{drop_more, take_rest}
use Rattle.std.specs.List.{flat_map}
use Rattle.output.specs.Output.{Writes}
use Rattle.output.proofs.Chains.{all_then, all_then_part, part_then, passed_up}
use Rattle.rows.specs.declared.Row.{Row}
use Rattle.rows.specs.Halving.{pair_row}
use Rattle.response_text.specs.Lines.{row_bytes}
use Rattle.response_text.proofs.lists.write_next.Goals as goal

-- the rows behind the first
abbrev behind : List (List ℕ) → List ℕ
behind rows = flat_map (λ (row : Row). codes " " ++ row_bytes row) (map pair_row rows)

-- what is written first, and what follows
joined : (blank row rest : List ℕ) → (blank ++ (codes "[" ++ row)) ++ (rest ++ codes "]") ≡ blank ++ (codes "[" ++ ((row ++ rest) ++ codes "]"))
joined blank row rest =
    append_assoc blank (codes "[" ++ row) (rest ++ codes "]") ∙ ap (λ xs. blank ++ (codes "[" ++ xs)) (sym (append_assoc row rest (codes "]")))

pub returns-in_err-write_row : goal.returns-in_err-write_row
returns-in_err-write_row g c =
    let exit = c.from_residual in
    let list = c.args.list.now in
    rw (drop_more list 0 [] c.in-len1-up.len_at_least)
    (subst (Writes c.args.out.now c.write_row.new.out exit.result) (joined c.args.blank.now (row_bytes (pair_row (get_or list 0 []))) (behind (drop 1 list)))
    (passed_up exit.result _ _ _ exit.ensures.0 (part_then (behind (drop 1 list) ++ codes "]") c.in_err-write_row.ensures)))

pub returns-in_err-write_rows : goal.returns-in_err-write_rows
returns-in_err-write_rows g c =
    let exit = c.from_residual-in_err-write_rows in
    let list = c.args.list.now in
    rw (drop_more list 0 [] c.in-len1-up.len_at_least)
    (subst (Writes c.args.out.now c.write_rows.new.out exit.result) (joined c.args.blank.now (row_bytes (pair_row (get_or list 0 []))) (behind (drop 1 list)))
    (passed_up exit.result _ _ _ exit.ensures.0 (all_then_part c.in_ok-write_row.ensures (part_then (codes "]") (rw (take_rest list 1) at c.in_err-write_rows.ensures)))))

pub returns : goal.returns
returns g c =
    let result = c.write-2.result in
    let list = c.args.list.now in
    rw (drop_more list 0 [] c.in-len1-up.len_at_least)
    (subst (Writes c.args.out.now c.write-2.new.self result) (joined c.args.blank.now (row_bytes (pair_row (get_or list 0 []))) (behind (drop 1 list)))
    (all_then result _ _ _ _ _ c.in_ok-write_row.ensures (all_then result _ _ _ _ (codes "]") (rw (take_rest list 1) at c.in_ok-write_rows.ensures) c.write-2.ensures)))
