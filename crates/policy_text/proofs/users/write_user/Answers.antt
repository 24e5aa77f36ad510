-- A user, the compartments of their view, and the one in which they write.
use Rattle.output.proofs.Chains.{all_then, all_then_part, part_then, passed_up}
use Rattle.policy_text.proofs.users.write_user.Goals as goal

pub returns-in_err-write_view : goal.returns-in_err-write_view
returns-in_err-write_view g c =
    let exit = c.from_residual-in_err-write_view in
    rw (← c.writes-writes.ensures, ← c.view.ensures.value)
    (passed_up exit.result _ _ _ exit.ensures.0
    (all_then_part c.in_ok-write_user.ensures (part_then (g.F.Form.shape.user_end c.writes-writes.result) c.in_err-write_view.ensures)))

pub returns : goal.returns
returns g c =
    let result = c.end_user.result in
    rw (← c.writes-writes.ensures, ← c.view.ensures.value)
    (all_then result _ _ _ _ _ c.in_ok-write_user.ensures (all_then result _ _ _ _ _ c.in_ok-write_view.ensures c.end_user.ensures))
