-- Each turn reads the next line, and behind the last the text has to be whole.
use Rattle.std.proofs.Common.{◌≡◌, ℕ, ◌<◌, List, length, get_or, length-append, rules, tests, ◌∙◌}
use Rattle.std.proofs.lemmas.Iterator.{YieldsList}
use Rattle.std.proofs.lemmas.Iterator.Consumers.{YieldsList-turn, YieldsList-end}
use Rattle.std.proofs.lemmas.Result.{err_from_is_err_and}
use Rattle.std.specs.List.{enumerate_from}
use Rattle.trace_text.specs.Said.{content_of}
use Rattle.trace_text.specs.Words.{lines}
use Rattle.trace_text.proofs.Turns.{lines_yielded, place_is, line_read, line_refused, said_all}
use Rattle.trace_text.proofs.Trace.read_lines.Given as given
use Rattle.trace_text.proofs.Trace.read_lines.Goals as goal
use Rattle.trace_text.proofs.Trace.read_lines.Goals.{After-into_iter-i-iterator, In-Some, In-None}

-- the lines of the text come one by one
come : (c : After-into_iter-i-iterator) → YieldsList {B = ℕ × List ℕ} (given.iterator-loop-i).next_gives (λ p. (p.0, p.1.now)) c.into_iter-i-iterator.result (enumerate_from 0 (lines c.args.text.now))
come c = lines_yielded _ c.args.text.now c.into_iter-i-iterator.ensures.into_iter_gives c.enumerate-i-items.ensures.source c.enumerate-i-items.ensures.count c.split.ensures.rest c.split.ensures.done c.split.ensures.closure (λ x b q k. search (rules, tests))

-- the one that comes at a turn
turn : (c : In-Some) →
    (length c.loop-i.yielded < length (enumerate_from 0 (lines c.args.text.now)))
    × ◌≡◌ {A = ℕ × List ℕ} (c.in-Some.i, c.in-Some.bytes.now) (get_or (enumerate_from 0 (lines c.args.text.now)) (length c.loop-i.yielded) (c.in-Some.i, c.in-Some.bytes.now))
turn c =
    YieldsList-turn
    (come (goal.at.In-Some c).After-into_iter-i-iterator)
    c.loop-i.yielded c.loop-i.i-iterator c.loop-i.yielded_by c.next.result c.next.new.self (c.in-Some.i, c.in-Some.bytes) c.in-Some.is c.next.ensures.steps

-- at the end all have come
all_read : (c : In-None) → length c.loop-i.yielded ≡ length (enumerate_from 0 (lines c.args.text.now))
all_read c =
    (YieldsList-end
    (come (goal.at.In-None c).After-into_iter-i-iterator)
    c.loop-i.yielded c.loop-i.i-iterator c.loop-i.yielded_by c.next.result c.next.new.self c.in-None.is c.next.ensures.steps).1

pub loop-i-preserved : goal.loop-i-preserved
loop-i-preserved c =
    let n : ℕ = length c.loop-i.yielded in
    let one = turn (goal.at.loop-i-preserved c).In-Some in
    rw length-append (
      line_read (lines c.args.text.now) n c.in-Some.i c.in-Some.bytes.now one (content_of c.loop-i.self) (content_of c.read_line.new.self) c.in_ok-read_line.ensures ∙ c.loop-i.invariant.0,
      place_is (lines c.args.text.now) n c.in-Some.i c.in-Some.bytes.now one,
    )

pub returns-in_err-read_line : goal.returns-in_err-read_line
returns-in_err-read_line c =
    let p = err_from_is_err_and c.from_residual.result c.from_residual.ensures.1 in
    rw (p.1, p.2)
    (line_refused (lines c.args.text.now) (length c.loop-i.yielded) c.in-Some.i c.in-Some.bytes.now (turn (goal.at.returns-in_err-read_line c).In-Some) c.in_err-read_line.field-0.0 (content_of c.loop-i.self) _ c.in_err-read_line.ensures c.loop-i.invariant.0)

pub returns-in_err-check_end : goal.returns-in_err-check_end
returns-in_err-check_end c =
    let p = err_from_is_err_and c.from_residual-in_err-check_end.result c.from_residual-in_err-check_end.ensures.1 in
    let all = said_all (lines c.args.text.now) (length c.loop-i.yielded) _ (content_of c.loop-i.self) c.loop-i.invariant.1 (all_read (goal.at.returns-in_err-check_end c).In-None) in
    rw (p.1, p.2) (c.in_err-check_end.ensures ∙ all ∙ c.loop-i.invariant.0)

pub returns : goal.returns
returns c =
    let all = said_all (lines c.args.text.now) (length c.loop-i.yielded) _ (content_of c.loop-i.self) c.loop-i.invariant.1 (all_read (goal.at.returns c).In-None) in
    c.in_ok-check_end.ensures ∙ all ∙ c.loop-i.invariant.0
