-- A register replies as the tables of exchanges have it, since the plain pair does.
use mathlib.Core.List.{List, [], ◌∷◌, map}
use mathlib.Core.Path.{◌≡◌, refl, ap, ◌∙◌}
use Rattle.history.specs.Plain.{Event, plain_replies}
use Rattle.history.proofs.Replies.{replies_as_plain}
use Rattle.history.specs.Edges.{call_of, reply_due, AllReplied, Replied, AllTables, exchanges, model_exchanges}
use Rattle.history.proofs.Computed.{computed}

as_due : (past es : List Event) → AllReplied past es → plain_replies past (map call_of es) ≡ map reply_due es
unfolding plain_replies
as_due past [] all = refl
as_due past (e ∷ es) all = rw all.0 (ap (λ rs. e.reply ∷ rs) (as_due (e ∷ past) es all.1))

replied : (es : List Event) → AllReplied [] es → Replied es
replied es all = replies_as_plain (map call_of es) ∙ as_due [] es all

tables_replied : (ts : List (List Event)) → AllTables (AllReplied []) ts → AllTables Replied ts
tables_replied [] all = tt
tables_replied (t ∷ ts) all = (replied t all.0, tables_replied ts all.1)

pub exchanges_replied : AllTables Replied exchanges
exchanges_replied = tables_replied exchanges computed

-- W is accepted by an empty register, and what follows while no delivery is held.
pub model_replied : Replied model_exchanges
model_replied = exchanges_replied.1.0
