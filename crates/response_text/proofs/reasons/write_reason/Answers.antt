-- Both refusals have the same words.
use Rattle.std.proofs.Common.{inl, inr}
use Rattle.response_text.proofs.reasons.write_reason.Goals as goal

pub returns-in-NoUser : goal.returns-in-NoUser
returns-in-NoUser g c =
    elim c.in-NoUser.is [ inl h ↦ rw h.1 c.write_words.ensures | inr h ↦ rw h.1 c.write_words.ensures ]
