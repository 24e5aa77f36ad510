-- A worked example: three users, three compartments, and every response worked out by hand. And what goes wrong where
-- somebody doesn't see where they write.
use Rattle.std.specs.Prelude.{◌≡◌, ℕ, zero, suc, true, false, List, [], ◌∷◌, map, take}
use Rattle.rows.specs.declared.Row.{Row}
use Rattle.rows.specs.declared.KeyRange.{KeyRange}
use Rattle.policy.specs.Rules.{Rules, Sound, flows}
use Rattle.base.specs.declared.refusal.Refusal.TheVariants.{NoFlow, NoRoom, NoRow}
use Rattle.query.specs.declared.Query.TheVariants.{Total, Shared}
use Rattle.query.specs.Answers.{total, list, not_seen}
use Rattle.request.specs.declared.Request.{Request}
use Rattle.request.specs.declared.Request.TheVariants.{Write, Delete, Copy, Query as Ask}
use Rattle.model.specs.Model.{Call, lend, Response, done, refused, answered, empty, run, responses_to, responses, purge}

abbrev view_of : ℕ → List ℕ
view_of zero = 0 ∷ 1 ∷ []
view_of (suc zero) = 1 ∷ []
view_of (suc (suc n)) = 1 ∷ 2 ∷ []

abbrev capacity_of : ℕ → ℕ
capacity_of zero = 3
capacity_of (suc zero) = 3
capacity_of (suc (suc n)) = 2

abbrev pub three : Rules
three = record { users = 3; view = view_of; writes = λ user. user; capacity = capacity_of }

-- the limit of versions, 2^40
abbrev pub version_limit : ℕ
version_limit = 1099511627776

abbrev row : ℕ → ℕ → Row
row key amount = record { key = key; amount = amount }

abbrev digits : KeyRange
digits = record { from = 0; to = 9 }

-- a call, and what it is to be told
pub record Line : Type 0 where
  pub call : Call
  pub response : Response

abbrev line : Request → Response → Line
line request response = record { call = lend request 100; response = response }

abbrev pub table : List Line
table =
    line (Write 1 (row 5 10)) done
    ∷ line (Write 0 (row 5 70)) done
    ∷ line (Write 0 (row 6 80)) done
    ∷ line (Ask 1 (Total digits)) (answered (total 1 10) 1)
    ∷ line (Ask 0 (Total digits)) (answered (total 3 160) 3)
    ∷ line (Ask 0 (Total digits)) (answered (total 3 160) 0)
    ∷ line (Write 1 (row 7 1)) done
    ∷ line (Ask 0 (Total digits)) (answered (total 4 161) 4)
    ∷ line (Copy 0 1 digits) done
    ∷ line (Copy 1 0 digits) (refused (NoFlow 0))
    ∷ line (Ask 2 (Shared 1 0 digits)) (answered not_seen 0)
    ∷ line (Write 2 (row 1 1)) done
    ∷ line (Write 2 (row 2 1)) done
    ∷ line (Write 2 (row 3 1)) (refused (NoRoom 2))
    ∷ line (Ask 1 (Total digits)) (answered (total 2 11) 2)
    ∷ line (Ask 0 (Shared 0 1 digits)) (answered (list (row 5 10 ∷ row 7 1 ∷ [])) 5)
    ∷ line (Delete 1 9) (refused (NoRow 9))
    ∷ []

-- the lines of user 1
abbrev pub own : List Line
own =
    line (Write 1 (row 5 10)) done
    ∷ line (Ask 1 (Total digits)) (answered (total 1 10) 1)
    ∷ line (Write 1 (row 7 1)) done
    ∷ line (Copy 1 0 digits) (refused (NoFlow 0))
    ∷ line (Ask 1 (Total digits)) (answered (total 2 11) 2)
    ∷ line (Delete 1 9) (refused (NoRow 9))
    ∷ []

abbrev pub calls_of : List Line → List Call
calls_of = map (λ l. l.call)

abbrev pub responses_of : List Line → List Response
responses_of = map (λ l. l.response)

pub record Worked : Type 0 where
  pub sound : Sound three
  -- from each compartment, to each
  pub may_flow :
      map (λ a. map (flows three a) (0 ∷ 1 ∷ 2 ∷ [])) (0 ∷ 1 ∷ 2 ∷ [])
      ≡ (true ∷ false ∷ false ∷ []) ∷ (true ∷ true ∷ true ∷ []) ∷ (false ∷ false ∷ true ∷ []) ∷ []
  pub all_told : responses three version_limit empty (calls_of table) ≡ responses_of table
  pub after_copy : (run three version_limit empty (take 9 (calls_of table))).rows 0 ≡ row 5 10 ∷ row 6 80 ∷ row 7 1 ∷ []
  pub purged : purge three 1 (calls_of table) ≡ calls_of own
  pub told_whole : responses_to three version_limit 1 empty (calls_of table) ≡ responses_of own
  pub told_purged : responses_to three version_limit 1 empty (calls_of own) ≡ responses_of own

-- User 0 sees nothing and writes where user 1 writes: whether there is room tells them of user 1, whose write
-- is left out when the trace is purged.
abbrev blind_view : ℕ → List ℕ
blind_view zero = []
blind_view (suc n) = 0 ∷ []

abbrev pub blind : Rules
blind = record { users = 2; view = blind_view; writes = λ user. 0; capacity = λ c. 1 }

abbrev pub leak : List Call
leak = lend (Write 1 (row 5 1)) 0 ∷ lend (Write 0 (row 6 1)) 0 ∷ []

-- what user 0 is told
abbrev pub blind_responses : List Call → List Response
blind_responses calls = responses_to blind version_limit 0 empty calls

pub record SoundnessNeeded : Type 0 where
  pub whole : blind_responses leak ≡ refused (NoRoom 1) ∷ []
  pub purged : blind_responses (purge blind 0 leak) ≡ done ∷ []
  pub differ : blind_responses (purge blind 0 leak) ≡ blind_responses leak → ⊥
