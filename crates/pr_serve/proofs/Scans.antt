-- A scan stays right where its stream sends a checkpoint.
use Rattle.std.proofs.Common.{◌≡◌, ℕ, [], nat_eq, sym, ◌∙◌, subst, List}
use Rattle.std.specs.Prelude.{Bool, true, false, ◌||◌, ◌&&◌}
use Rattle.pr_stamps.specs.Point.{Point}
use Rattle.pr_inval.specs.declared.msg.Msg.{Msg}
use Rattle.pr_inval.specs.Standing.{SessionMeaning}
use Rattle.pr_node.specs.Calls.{AddsOfStream, IsCheckpointSent}
use Rattle.pr_node.specs.Scanning.{IsScanOf, Scanned}
use Rattle.pr_node.specs.Stored.{NodeMeaning}
use Rattle.pr_node.proofs.Scanning.{scan_kept, scan_onward}
use Rattle.pr_story.specs.declared.entry.Entry.{Entry}
use Rattle.pr_story.specs.declared.event.Event.{Event}
use Rattle.pr_story.specs.declared.event.Event.TheVariants.{Sent}
use Rattle.pr_story.specs.Sessions.{HasGoneOn}
use Rattle.pr_story.specs.Turns.{is_body, sent_after}

second_false : (b c : Bool) → (b || c) ≡ false → c ≡ false
second_false true c e = absurd (let bad : true ≡ false = e in cc)
second_false false c e = e

unsent : (event : Event) (msg : Msg) (stream : ℕ) (o : List ℕ) (t : Point) (before : Bool) → event ≡ Sent msg → sent_after event stream o t before ≡ false → before ≡ false
unsent event msg stream o t before is e =
    second_false (nat_eq msg.stream stream && is_body msg.kind o t) before (subst (λ (v : Event). sent_after v stream o t before ≡ false) is e)

pub scan_snapshot : (scan : Scanned) (a b : NodeMeaning) (s t : SessionMeaning) (msg : Msg) (caller : ℕ)
    → AddsOfStream a b s.standing caller (λ e. IsCheckpointSent s.stream msg e × HasGoneOn s t true e) → IsScanOf scan s.standing a.journal → IsScanOf scan t.standing b.journal
scan_snapshot scan a b s t msg caller adds so =
    let x = adds (λ _. []) in
    subst (λ (j : List Entry). IsScanOf scan t.standing j) (sym x.follows)
    (scan_kept scan t.standing x.entry a.journal
    (scan_onward scan s.standing t.standing a.journal x.is.1.after.names
    (λ o p later. unsent x.entry.event msg s.stream o p (s.standing.sent o p) x.is.0.0 (sym (x.is.1.after.sent o p) ∙ later)) so))
