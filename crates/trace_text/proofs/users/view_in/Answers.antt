-- The loop ends where the line says no more, or its number is none, or the view is full.
use Rattle.std.proofs.Common.{sym}
use Rattle.std.proofs.lemmas.Result.{err_from_is_err_and}
use Rattle.trace_text.proofs.Viewing.{viewed_none, viewed_done, viewed_err, viewed_more}
use Rattle.trace_text.proofs.users.view_in.Goals as goal

pub loop-place-init : goal.loop-place-init
loop-place-init c = viewed_none c.args.line.bytes.now c.new-view.result.items c.new-view.ensures

pub returns-then-is_named-clause-value : goal.returns-then-is_named-clause-value
returns-then-is_named-clause-value c = viewed_done _ _ _ c.loop-place.invariant c.loop-place-test.true (sym c.if-is_named.ensures)

pub returns-in_err-below-clause-value : goal.returns-in_err-below-clause-value
returns-in_err-below-clause-value c =
    let p = err_from_is_err_and c.from_residual.result c.from_residual.ensures.1 in
    rw (p.1, p.2) (viewed_err _ _ _ c.loop-place.invariant c.loop-place-test.true (sym c.if-is_named.ensures) _ (sym c.in_err-below.ensures.value))

pub loop-place-preserved : goal.loop-place-preserved
loop-place-preserved c =
    viewed_more _ _ _ c.loop-place.invariant c.loop-place-test.true (sym c.if-is_named.ensures) _ c.push.new.self.items (sym c.in_ok-below.ensures.value) c.push.ensures.list
