-- How a stream begins, and how its session goes on by that.
use Rattle.std.proofs.Common.{◌≡◌, ℕ, ◌<◌, ◌+◌, ◌^◌, inr, List, max, cond, nat_eq, refl, sym, ◌∙◌, ap, subst, arith}
use Rattle.std.specs.Prelude.{Bool, true, false, IsTrue, ◌||◌, ◌&&◌}
use Rattle.pr_stamps.specs.Point.{Point}
use Rattle.pr_names.specs.Span.{Span}
use Rattle.pr_vectors.specs.Vector.{IsVector, join_of}
use Rattle.pr_inval.specs.declared.kind.Kind.{Kind}
use Rattle.pr_inval.specs.declared.kind.Kind.TheVariants.{Precise, Imprecise, Checkpoint, Body}
use Rattle.pr_inval.specs.declared.msg.Msg.{Msg}
use Rattle.pr_inval.specs.Points.{to_of}
use Rattle.pr_inval.specs.Standing.{SessionMeaning, Standing, HasBegun, HasHeard, HasSent}
use Rattle.pr_story.specs.declared.entry.Entry.{Entry}
use Rattle.pr_story.specs.declared.event.Event.TheVariants.{Attached, Sent}
use Rattle.pr_story.specs.History.{current_vector}
use Rattle.pr_story.specs.Ranges.{IsMsg}
use Rattle.pr_story.specs.Told.{IsStart}
use Rattle.pr_story.specs.Turns.{IsSnapshot, is_body}
use Rattle.pr_node.specs.Sending.{IsSentOf}
use Rattle.pr_node.proofs.Adding.{IsReady}
use Rattle.pr_node.proofs.Going.{same_number}
use Rattle.pr_story.specs.Sessions.{HasGoneOn}
use Rattle.pr_story.specs.Commands.{IsCheckpoint}

itself : (k : ℕ) → nat_eq k k ≡ true
itself k = same_number k k refl

-- the session has begun at a start, and heard of that
pub begun_heard : (a m b : SessionMeaning) (start : List ℕ) (time caller : ℕ) → a.standing.time < time → HasBegun a m start → HasHeard m b time
    → HasGoneOn a b true (record { time = time; caller = caller; event = Attached a.stream start })
begun_heard a m b start time caller later begun heard = record {
  stream = heard.stream ∙ begun.stream;
  is_attached = heard.attached ∙ begun.attached;
  after = record {
    names = heard.names ∙ begun.names;
    bodies = heard.bodies ∙ begun.bodies;
    position = heard.position ∙ begun.position ∙ sym (ap (λ (x : Bool). cond x start a.standing.position) (itself a.stream));
    number = heard.number ∙ begun.number;
    time = let e : m.standing.time ≡ a.standing.time = begun.time in let h : b.standing.time ≡ max m.standing.time time = heard.time in omega (arith, e, h, later);
    sent = λ o t. heard.sent o t ∙ begun.sent o t ∙ sym (ap (λ (x : Bool). cond x false (a.standing.sent o t)) (itself a.stream));
  };
}

-- the session noted a checkpoint that was sent
pub checkpoint_noted : (a b : SessionMeaning) (to : List ℕ) (time caller : ℕ) (msg : Msg) → IsTrue a.attached → HasSent a b to time → msg.stream ≡ a.stream → to_of msg.kind ≡ to → IsCheckpoint msg.kind
    → HasGoneOn a b true (record { time = time; caller = caller; event = Sent msg })
checkpoint_noted a b to time caller msg attached noted same ends is =
    let e : nat_eq msg.stream a.stream ≡ true = same_number msg.stream a.stream same in
    record {
      stream = noted.stream;
      is_attached = noted.attached ∙ attached;
      after = record {
        names = noted.names;
        bodies = noted.bodies;
        position = noted.position ∙ ap (λ (v : List ℕ). join_of a.standing.position v) (sym ends) ∙ sym (ap (λ (x : Bool). cond x (join_of a.standing.position (to_of msg.kind)) a.standing.position) e);
        number = noted.number ∙ sym (ap (λ (x : Bool). cond x (a.standing.number + 1) a.standing.number) e);
        time = noted.time;
        sent = λ o t. noted.sent o t ∙ ap (λ (x : Bool). x || a.standing.sent o t) (sym (no_body (nat_eq msg.stream a.stream) msg.kind o t is));
      };
    }
  where
    no_body : (c : Bool) (kind : Kind) (o : List ℕ) (t : Point) → IsCheckpoint kind → (c && is_body kind o t) ≡ false
    no_body true (Checkpoint to target floor rows) o t is = refl
    no_body false (Checkpoint to target floor rows) o t is = refl
    no_body c (Precise from to write) o t is = absurd is
    no_body c (Imprecise from to target) o t is = absurd is
    no_body c (Body name stamp bytes) o t is = absurd is

-- ---- checkpoints

pub snapshot_ends : (sets : List (List Span)) (n : ℕ) (j : List Entry) (names : List Span) (kind : Kind) → IsSnapshot sets n j names kind → (to_of kind ≡ current_vector j) × IsCheckpoint kind
snapshot_ends sets n j names (Checkpoint to target floor rows) so = (so.0, tt)
snapshot_ends sets n j names (Precise from to write) so = absurd so
snapshot_ends sets n j names (Imprecise from to target) so = absurd so
snapshot_ends sets n j names (Body name stamp bytes) so = absurd so

-- the message is the session's checkpoint, where its kind is that of a snapshot of the session's names
pub snapshot_sent : (sets : List (List Span)) (n : ℕ) (j : List Entry) (names : List Span) (kind : Kind) (a : SessionMeaning) (time : ℕ) (msg : Msg) → names ≡ a.standing.names
    → msg.stream ≡ a.stream → msg.number ≡ a.standing.number + 1 → msg.time ≡ time → msg.kind ≡ kind → IsSnapshot sets n j names kind → IsSentOf (IsSnapshot sets n j a.standing.names) a time (Sent msg)
snapshot_sent sets n j names kind a time msg own stream number at is so = (
  stream,
  number,
  at,
  subst (λ (x : List Span). IsSnapshot sets n j x msg.kind) own (subst (λ (k : Kind). IsSnapshot sets n j names k) (sym is) so),
)

pub checkpoint_ready : (needs : ℕ → List ℕ) (n : ℕ) (j : List Entry) (sets : List (List Span)) (a : SessionMeaning) (time caller : ℕ) (msg : Msg)
    → IsMsg msg → IsSentOf (IsSnapshot sets n j a.standing.names) a time (Sent msg) → IsReady (λ x. a.standing) needs n j sets (record { time = time; caller = caller; event = Sent msg })
checkpoint_ready needs n j sets a time caller msg range so = record { in_range = range; may_come = (so.1, so.2, inr so.3) }

pub attach_ready : (needs : ℕ → List ℕ) (n : ℕ) (j : List Entry) (sets : List (List Span)) (a : Standing) (names : List Span) (time caller stream : ℕ) (at : List ℕ)
    → stream < 2 ^ 32 → IsVector at → names ≡ a.names → IsStart sets n j names at → IsReady (λ x. a) needs n j sets (record { time = time; caller = caller; event = Attached stream at })
attach_ready needs n j sets a names time caller stream at number range is so = record {
  in_range = (number, range);
  may_come = subst (λ (x : List Span). IsStart sets n j x at) is so;
}
