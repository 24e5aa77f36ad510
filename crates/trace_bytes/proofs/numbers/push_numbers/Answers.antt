-- Each turn writes the low bytes of the next number.
use Rattle.std.proofs.Common.{◌≡◌, ℕ, List, ◌++◌, ◌∙◌, get_or, take, ap, arith, vec_items}
use Rattle.std.proofs.lemmas.Grind.{common_steps}
use Rattle.trace_bytes.specs.Bytes.{low_bytes}
use Rattle.trace_bytes.proofs.Pushes.{low_eight}
use Rattle.trace_bytes.proofs.numbers.push_numbers.Goals as goal

pub loop-number-preserved : goal.loop-number-preserved
loop-number-preserved c =
    let bs : List ℕ = vec_items c.loop-number.bytes in
    let n : ℕ = get_or c.args.numbers.now c.loop-number.number-index 0 in
    let low = low_eight c.args.width n c.requires in
    let new : vec_items c.extend_from_slice.new.self ≡ bs ++ low_bytes c.args.width n =
    c.in_ok-extend_from_slice.ensures.items ∙ ap (λ (xs : List ℕ). bs ++ take c.args.width xs) c.to_le_bytes.ensures ∙ ap (λ (xs : List ℕ). bs ++ xs) low in
    grind (arith, common_steps)
