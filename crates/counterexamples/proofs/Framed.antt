-- The model in the frame is the model, and so it is useful.
use Rattle.std.proofs.Common.{◌≡◌, ℕ, cond, List, [], ◌∷◌, refl}
use Rattle.policy.specs.Rules.{Rules}
use Rattle.model.specs.Model as model
use Rattle.model.specs.Model.{State, Call, empty, is_accepted, response, step, purge}
use Rattle.model.specs.Events as along_model
use Rattle.model.specs.Events.{Event, note}
use Rattle.model.proofs.Answering as answering
use Rattle.model.proofs.Changes as changes
use Rattle.model.proofs.Interference.{noninterference}
use Rattle.model.proofs.Orderly as orderly
use Rattle.counterexamples.specs.Store.{run, responses_from}
use Rattle.counterexamples.specs.Statements.{events_from}
use Rattle.counterexamples.specs.Variants.{the_model, Fits, ModelUseful}

same_responses : (p : Rules) (limit v : ℕ) (s : State) (calls : List Call) → responses_from (the_model limit p) v s calls ≡ model.responses_to p limit v s calls
same_responses p limit v s [] = refl
same_responses p limit v s (call ∷ calls) = rw (same_responses p limit v (step p limit s call) calls)

pub fits : Fits
fits = record {
  same = λ p limit v calls. same_responses p limit v empty calls;
  noninterfering = λ limit p v calls sound.
      rw (same_responses p limit v empty (purge p v calls), same_responses p limit v empty calls) (noninterference p limit v calls sound);
  all_or_none = λ limit p s call why h. changes.refusals_change_nothing p limit s call why h;
}

same_run : (p : Rules) (limit : ℕ) (s : State) (calls : List Call) → run (the_model limit p) s calls ≡ model.run p limit s calls
same_run p limit s [] = refl
same_run p limit s (call ∷ calls) = same_run p limit (step p limit s call) calls

same_events : (p : Rules) (limit : ℕ) (s : State) (events : List Event) (calls : List Call) →
    events_from p (the_model limit p) s events calls ≡ along_model.events_after p limit s events calls
same_events p limit s events [] = refl
same_events p limit s events (call ∷ calls) =
    same_events p limit (step p limit s call) (cond (is_accepted (response p limit s call)) (note p call.request events) events) calls

pub useful : ModelUseful
useful limit = record {
  right_answers = λ p calls user query lent here enough.
      rw (same_run p limit empty calls, same_events p limit empty [] calls) (answering.right_answers p limit calls user query lent here enough);
  short_rows = λ p. answering.short_rows p limit;
  not_seen = λ p calls user a b range lent here unseen.
      rw (same_run p limit empty calls) (answering.not_seen_told p limit calls user a b range lent here unseen);
  again = λ p calls user query lent more a n enough. rw (same_run p limit empty calls) (answering.again p limit calls user query lent more a n enough);
  write_told = λ p calls user row lent. rw (same_run p limit empty calls) (changes.write_told p limit calls user row lent);
  delete_told = λ p calls user key lent. rw (same_run p limit empty calls) (changes.delete_told p limit calls user key lent);
  copy_told = λ p calls user source range lent. rw (same_run p limit empty calls) (changes.copy_told p limit calls user source range lent);
  write_effect = λ p calls user row lent. rw (same_run p limit empty calls) (changes.write_effect p limit calls user row lent);
  delete_effect = λ p calls user key lent. rw (same_run p limit empty calls) (changes.delete_effect p limit calls user key lent);
  copy_effect = λ p calls user source range lent. rw (same_run p limit empty calls) (changes.copy_effect p limit calls user source range lent);
  refusals_change_nothing = λ p. changes.refusals_change_nothing p limit;
  only_writers = λ p. changes.only_writers p limit;
  absent_users = λ p. changes.absent_users p limit;
  either_order = λ p. changes.either_order p limit;
  order = λ p calls c. rw (same_run p limit empty calls) (orderly.ordered p limit calls c);
  caches = λ p calls user. rw (same_run p limit empty calls) (orderly.caches p limit calls user);
}
