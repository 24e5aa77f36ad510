-- A policy that is read is not refused: what is printed and left is told by the numbers of the policy.
use Rattle.std.proofs.Common.{List, ℕ, Ok, Err, Result, sym, ap, ◌∙◌, subst}
use Rattle.output.specs.Output.{WritesAll}
use Rattle.std.specs.Result.{OnOk, OnErr}
use Rattle.trace_items.specs.Items.{outcomes_in, items_in}
use Rattle.trace_player.specs.Turns.{open_and_play, StopsAfterOpen}
use Rattle.trace_player.proofs.Opened.{one_text, one_left, one_break}
use Rattle.trace_player.proofs.opening.play_to.Goals as goal

ok_weaker : {X E : Type 0} (r : Result X E) (P Q : Type 0) → (P → Q) → OnOk r P → OnOk r Q
ok_weaker (Ok x) P Q f h = f h
ok_weaker (Err e) P Q f h = tt

err_weaker : {X E : Type 0} (r : Result X E) (P Q : Type 0) → (P → Q) → OnErr r P → OnErr r Q
err_weaker (Ok x) P Q f h = tt
err_weaker (Err e) P Q f h = f h

pub returns-in-Ok-clause-text : goal.returns-in-Ok-clause-text
returns-in-Ok-clause-text g c =
    let opened = c.in-Ok.ensures in
    let p = c.in-Ok.field-0.policy in
    let memory = c.args.memory.now in
    let same = ap (λ (bs : List ℕ). (open_and_play p c.args.viewer memory (items_in (outcomes_in bs))).text) opened.behind
    ∙ one_text p c.args.bytes.now opened.reads (sym opened.refused) c.args.viewer memory in
    ok_weaker c.play_requests.result _ _ (subst (WritesAll c.args.out.now c.play_requests.new.out) same) c.play_requests.ensures.text

pub returns-in-Ok-clause-after : goal.returns-in-Ok-clause-after
returns-in-Ok-clause-after g c =
    let opened = c.in-Ok.ensures in
    let p = c.in-Ok.field-0.policy in
    let memory = c.args.memory.now in
    let same = ap (λ (bs : List ℕ). (open_and_play p c.args.viewer memory (items_in (outcomes_in bs))).memory) opened.behind in
    ok_weaker c.play_requests.result _ _
    (λ e. one_left p c.args.bytes.now opened.reads (sym opened.refused) c.args.viewer memory c.play_requests.new.memory (e ∙ same))
    c.play_requests.ensures.after

pub returns-in-Ok-clause-broken : goal.returns-in-Ok-clause-broken
returns-in-Ok-clause-broken g c =
    let opened = c.in-Ok.ensures in
    let p = c.in-Ok.field-0.policy in
    let memory = c.args.memory.now in
    err_weaker c.play_requests.result _ _
    (λ s. one_break p c.args.bytes.now opened.reads (sym opened.refused) c.args.viewer memory c.args.out.now c.play_requests.new.out c.play_requests.new.memory
    (subst (λ (bs : List ℕ). StopsAfterOpen p c.args.viewer memory (items_in (outcomes_in bs)) c.args.out.now c.play_requests.new.out c.play_requests.new.memory) opened.behind s))
    c.play_requests.ensures.broken
