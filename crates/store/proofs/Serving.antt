-- Any request follows the model.
use Rattle.std.proofs.Common.{◌≡◌, ℕ, suc, Bool, true, false, cond, ltb, leb, List, length, Ok, Err, Result, refl, ◌∙◌}
use Rattle.compartment.specs.Parts.{limit}
use Rattle.memory_query.specs.Tie.{result_of, row_with, read_result}
use Rattle.memory_query.proofs.Tied.{queries_as_model}
use Rattle.model.specs.Model.{Response, done, refused, answered, rows_after_copy, asks}
use Rattle.policy.specs.Access.{rules_of, may_copy}
use Rattle.policy.specs.declared.Policy.{Policy}
use Rattle.base.specs.declared.refusal.Refusal.{Refusal}
use Rattle.base.specs.declared.refusal.Refusal.TheVariants.{NoUser, NoFlow, NoRoom, NoRow, LastVersion}
use Rattle.query.specs.declared.Outcome.{Outcome}
use Rattle.request.specs.declared.Request.{Request}
use Rattle.request.specs.declared.Request.TheVariants.{Write, Delete, Copy, Query as Ask}
use Rattle.rows.specs.Rows.{put, has_key}
use Rattle.store.specs.Served.{reply_to_change, reply_to_query, serve_result, reply_of, response_in}
use Rattle.store.specs.Simulation.{ServeFollows}
use Rattle.store.specs.declared.reply.Reply.{Reply}
use Rattle.store.proofs.Changing.{as_result}
use Rattle.store.proofs.Following.{write_follows, delete_follows, copy_follows}
use Rattle.store.proofs.Asks.{seen, ask_holds}

-- what is returned and the row are those of a response, which is read out of both
record Says (r : Response) (lent : List ℕ) (told : Result Reply Refusal) (row : List ℕ) : Type 0 where
  value : told ≡ reply_of r
  left : row ≡ row_with r lent
  reading : response_in told row ≡ r

-- a change is done or refused, and leaves the row as it was
change_says : (a b c : Bool) (x y z : Refusal) (told : Result (Unit {0}) Refusal) (lent : List ℕ) →
    told ≡ as_result (cond a (cond b (cond c done (refused x)) (refused y)) (refused z)) →
    Says (cond a (cond b (cond c done (refused x)) (refused y)) (refused z)) lent (reply_to_change told) lent
change_says true true true x y z told lent e = rw e (record { value = refl; left = refl; reading = refl })
change_says true true false x y z told lent e = rw e (record { value = refl; left = refl; reading = refl })
change_says true false c x y z told lent e = rw e (record { value = refl; left = refl; reading = refl })
change_says false b c x y z told lent e = rw e (record { value = refl; left = refl; reading = refl })

-- a query is not told 'done'
read_query : (told : Result Outcome Refusal) (row : List ℕ) → response_in (reply_to_query told) row ≡ read_result told row
read_query (Ok outcome) row = refl
read_query (Err refusal) row = refl

query_reply : (r : Response) (told : Result Outcome Refusal) (row : List ℕ) → told ≡ result_of r → read_result told row ≡ r → reply_to_query told ≡ reply_of r
query_reply done told row e f = absurd (not_done told row f)
  where
    not_done : (told : Result Outcome Refusal) (row : List ℕ) → read_result told row ≡ done → ⊥
    not_done (Ok outcome) row f = cc
    not_done (Err refusal) row f = cc
query_reply (refused refusal) told row e f = rw e refl
query_reply (answered a examined) told row e f = rw e refl

pub serve_follows : ServeFollows
serve_follows p s memory lent (Write user row) h b =
    let f = write_follows p s memory h user (length lent) row b in
    let c = (rules_of p).writes user in
    let k = change_says (ltb user p.users) (leb (length (put row (s.rows c))) ((rules_of p).capacity c)) (ltb (suc (s.version c)) limit)
    (LastVersion c) (NoRoom ((rules_of p).capacity c)) (NoUser user) _ lent f.tells in
    record { told = k.value; row = k.left; reading = k.reading; holds = f.holds }
serve_follows p s memory lent (Delete user key) h b =
    let f = delete_follows p s memory h user (length lent) key in
    let c = (rules_of p).writes user in
    let k = change_says (ltb user p.users) (has_key key (s.rows c)) (ltb (suc (s.version c)) limit)
    (LastVersion c) (NoRow key) (NoUser user) _ lent f.tells in
    record { told = k.value; row = k.left; reading = k.reading; holds = f.holds }
serve_follows p s memory lent (Copy user from range) h b =
    let f = copy_follows p s memory h user (length lent) from range in
    let c = (rules_of p).writes user in
    let k = change_says (may_copy (rules_of p) user from) (leb (length (rows_after_copy (rules_of p) s user from range)) ((rules_of p).capacity c))
    (ltb (suc (s.version c)) limit) (LastVersion c) (NoRoom ((rules_of p).capacity c)) (NoFlow from) _ lent f.tells in
    record { told = k.value; row = k.left; reading = k.reading; holds = f.holds }
serve_follows p s memory lent (Ask user query) h b =
    let q = queries_as_model p limit s user query memory lent (seen p s memory h user) in
    record {
      told = query_reply _ _ _ q.told q.reading;
      row = q.row;
      reading = read_query _ _ ∙ q.reading;
      holds = ask_holds p s memory lent user query h;
    }

pub row_stays : (p : Policy) (memory : List ℕ) (request : Request) (lent : List ℕ) → asks request ≡ false →
    (serve_result p memory lent request).row ≡ lent
row_stays p memory (Write user row) lent e = refl
row_stays p memory (Delete user key) lent e = refl
row_stays p memory (Copy user from range) lent e = refl
row_stays p memory (Ask user query) lent e = absurd cc
