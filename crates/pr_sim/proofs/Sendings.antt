-- The messages of a stream have the numbers of their places.
use Rattle.std.proofs.Common.{◌≡◌, ◌≢◌, ℕ, ◌+◌, ◌<◌, ◌≤◌, List, inl, inr, length, get_or, arith}
use Rattle.std.specs.Prelude.{None}
use Rattle.pr_inval.specs.declared.msg.Msg.{Msg}
use Rattle.pr_story.specs.History.{Plan, NodeEntry, WasSent}
use Rattle.pr_story.specs.Lawful.{Valid}
use Rattle.pr_story.specs.Places.{IsSending, sent_places}
use Rattle.pr_story.proofs.Places.{have_places}
use Rattle.pr_sim.specs.Messages.{IsPlace}

pub sendings : (plan : Plan) (s : ℕ) (h : List NodeEntry) → Valid plan h → (k : ℕ) → k < length (sent_places h s) → IsSending plan h s (k + 1) (get_or (sent_places h s) k 0)
sendings plan s h v = (have_places plan h s v).sending

-- what has no place was not sent
pub none_sent : (plan : Plan) (h : List NodeEntry) (s number : ℕ) → Valid plan h → IsPlace (sent_places h s) number None → (msg : Msg) → WasSent h msg → msg.stream ≡ s → msg.number ≢ number
none_sent plan h s number v none msg was of same =
    let a = (have_places plan h s v).only msg was of in
    let least : 1 ≤ msg.number = a.0 in
    let most : msg.number ≤ length (sent_places h s) = a.1 in
    elim none [ inl zero ↦ omega arith | inr past ↦ omega arith ]
