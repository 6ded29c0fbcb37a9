-- Responses as values of the code, and the room that their lines take.
use Rattle.std.specs.Prelude.{ℕ, List, []}
use Rattle.calls.specs.Calls.{cleared}
use Rattle.calls.specs.Answers.{model_reply, delivery_reply, answer_reply}
use Rattle.lines.specs.Clauses.{refused_room}
use Rattle.replies.specs.declared.Response.{Response}
use Rattle.replies.specs.declared.Response.TheVariants.{Silence, Unclear, Cleared, Filed, Received, Answered}
use Rattle.replies.specs.Replies.{reply_line, unclear_line}

-- The most bytes of a reply: those of a refusal.
abbrev pub reply_room : ℕ
reply_room = refused_room

-- The text of a response.
abbrev pub text_of : Response → List ℕ
text_of Silence = []
text_of Unclear = unclear_line
text_of Cleared = reply_line cleared
text_of (Filed o) = reply_line (model_reply o)
text_of (Received r) = reply_line (delivery_reply r)
text_of (Answered a) = reply_line (answer_reply a)
