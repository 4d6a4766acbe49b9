-- A stream's next turn, and how its session goes on.
use Rattle.std.proofs.Common.{◌≡◌, ℕ, ◌+◌, List, max, cond, nat_eq, sym, ◌∙◌, ap, subst, arith, length}
use Rattle.std.specs.Prelude.{Bool, true, IsTrue, Option, None, Some, ◌||◌, ◌&&◌}
use Rattle.std.proofs.lemmas.Bool.Decides.{nat_tests}
use Rattle.pr_stamps.specs.Point.{Point}
use Rattle.pr_names.specs.Span.{Span}
use Rattle.pr_vectors.specs.Vector.{clock_of, IsVector, Le, join_of, zero_vector}
use Rattle.pr_vectors.proofs.Vectors.{is-vector_of}
use Rattle.pr_inval.specs.declared.kind.Kind.{Kind}
use Rattle.pr_inval.specs.declared.kind.Kind.TheVariants.{Precise, Imprecise, Checkpoint, Body}
use Rattle.pr_inval.specs.declared.msg.Msg.{Msg}
use Rattle.pr_inval.specs.Points.{to_of}
use Rattle.pr_inval.specs.Standing.{SessionMeaning, Standing, HasSentBody}
use Rattle.pr_log.specs.Log.{Logged}
use Rattle.pr_story.specs.declared.entry.Entry.{Entry}
use Rattle.pr_story.specs.declared.event.Event.{Event}
use Rattle.pr_story.specs.declared.event.Event.TheVariants.{Sent, Idle}
use Rattle.pr_story.specs.History.{current_vector}
use Rattle.pr_story.specs.Knowledge.{cuts_of}
use Rattle.pr_story.specs.Sending.{IsAhead}
use Rattle.pr_story.specs.Turns.{IsTurn, IdleTurn, SendTurn, is_body}
use Rattle.pr_story.proofs.Basics.{clock_zero}
use Rattle.pr_story.proofs.Sendings.{sends}
use Rattle.pr_node.specs.Sending.{IsBodyTurn, IsNextBodyOf, IsNextTurn, IsSentOf}
use Rattle.pr_node.specs.Ties.{IsLogOf}
use Rattle.pr_story.specs.Sessions.{HasGoneOn}

-- ---- turns

low_cut : (n : ℕ) (j : List Entry) (m : Logged) (pos : List ℕ) → IsLogOf n j m → Le m.cut pos → Le (cuts_of j) pos
low_cut n j m pos f le = subst (λ (v : List ℕ). Le v pos) f.cut le

-- what is sent where the cut is behind the position, if anything is
abbrev pub IsNextKind : ℕ → List Entry → Standing → Option Kind → Type 0
IsNextKind n j session None = IsTurn n j session IdleTurn
IsNextKind n j session (Some kind) = IsTurn n j session (SendTurn kind)

pub kind_ahead : (n : ℕ) (j : List Entry) (m : Logged) (session : Standing) (pos now : List ℕ) (names : List Span) (kind : Kind)
    → IsLogOf n j m → Le m.cut session.position → pos ≡ session.position → names ≡ session.names → now ≡ m.vector → (Le now pos → ⊥) → IsAhead n j names pos kind → IsNextKind n j session (Some kind)
kind_ahead n j m session pos now names kind f le at is v past so =
    sends n j session kind (low_cut n j m session.position f le)
    (λ l. past (subst (λ (x : List ℕ). Le x pos) (sym (v ∙ f.vector)) (subst (λ (x : List ℕ). Le (current_vector j) x) (sym at) l)))
    (subst (λ (x : List Span). IsAhead n j x session.position kind) is (subst (λ (x : List ℕ). IsAhead n j names x kind) at so))

pub kind_body : (n : ℕ) (j : List Entry) (m : Logged) (session : Standing) (pos now : List ℕ) (kind : Option Kind)
    → IsLogOf n j m → Le m.cut session.position → pos ≡ session.position → now ≡ m.vector → Le now pos → IsTrue session.bodies → IsNextBodyOf j session kind → IsNextKind n j session kind
kind_body n j m session pos now kind f le at v all bodies so = by kind so
  where
    low : Le (cuts_of j) session.position
    low = low_cut n j m session.position f le

    high : Le (current_vector j) session.position
    high = subst (λ (x : List ℕ). Le (current_vector j) x) at (subst (λ (x : List ℕ). Le x pos) (v ∙ f.vector) all)

    by : (kind : Option Kind) → IsNextBodyOf j session kind → IsNextKind n j session kind
    by None so = (low, high, λ b o t bytes w. so o (t, bytes, w))
    by (Some (Body o t bytes)) so = (low, high, bodies, so)
    by (Some (Precise from to write)) so = absurd so
    by (Some (Imprecise from to target)) so = absurd so
    by (Some (Checkpoint to target floor rows)) so = absurd so

-- a message whose kind meets one test meets another
pub sent_as : (P Q : Kind → Type 0) (session : SessionMeaning) (time : ℕ) (e : Event) → ((kind : Kind) → P kind → Q kind) → IsSentOf P session time e → IsSentOf Q session time e
sent_as P Q session time (Sent msg) f (stream, number, at, so) = (stream, number, at, f msg.kind so)
sent_as P Q session time _ f so = absurd so

pub turn_ahead : (n : ℕ) (j : List Entry) (m : Logged) (session : SessionMeaning) (time : ℕ) (pos now : List ℕ) (names : List Span) (e : Event)
    → IsLogOf n j m → Le m.cut session.standing.position → pos ≡ session.standing.position → names ≡ session.standing.names → now ≡ m.vector → (Le now pos → ⊥) → IsSentOf (IsAhead n j names pos) session time e → IsNextTurn n j session time e
turn_ahead n j m session time pos now names (Sent msg) f le at is v past (stream, number, sent, so) = (stream, number, sent, kind_ahead n j m session.standing pos now names msg.kind f le at is v past so)
turn_ahead n j m session time pos now names _ f le at is v past so = absurd so

pub turn_body : (n : ℕ) (j : List Entry) (m : Logged) (session : SessionMeaning) (time : ℕ) (pos now : List ℕ) (e : Event)
    → IsLogOf n j m → Le m.cut session.standing.position → pos ≡ session.standing.position → now ≡ m.vector → Le now pos → IsTrue session.standing.bodies → IsBodyTurn j session time e → IsNextTurn n j session time e
turn_body n j m session time pos now (Sent msg) f le at v all bodies (stream, number, sent, so) = (stream, number, sent, kind_body n j m session.standing pos now (Some msg.kind) f le at v all bodies so)
turn_body n j m session time pos now (Idle stream) f le at v all bodies (own, so) = (own, kind_body n j m session.standing pos now None f le at v all bodies so)
turn_body n j m session time pos now _ f le at v all bodies so = absurd so

-- ---- sessions

join_nothing : (v : List ℕ) → length v ≡ 32 → join_of v zero_vector ≡ v
join_nothing v len = sym (is-vector_of (λ n. max (clock_of v n) (clock_of zero_vector n)) v len (λ k lt. let z : clock_of zero_vector k ≡ 0 = clock_zero k in omega (arith, z)))

pub same_number : (a b : ℕ) → a ≡ b → nat_eq a b ≡ true
same_number a b e = grind (arith, nat_tests)

-- the session noted a body that was sent
pub body_noted : (a b : SessionMeaning) (pos name bytes : List ℕ) (stamp : Point) (time caller : ℕ) (msg : Msg)
    → pos ≡ a.standing.position → IsVector pos → HasSentBody a b name stamp time → msg.kind ≡ Body name stamp bytes → msg.stream ≡ a.stream
    → HasGoneOn a b a.attached (record { time = time; caller = caller; event = Sent msg })
body_noted a b pos name bytes stamp time caller msg at range noted is same =
    let e : nat_eq msg.stream a.stream ≡ true = same_number msg.stream a.stream same in
    record {
      stream = noted.stream;
      is_attached = noted.attached;
      after = record {
        names = noted.names;
        bodies = noted.bodies;
        position = noted.position ∙ sym (join_nothing a.standing.position (sym (ap (λ (v : List ℕ). length v) at) ∙ range.nodes))
            ∙ sym (ap (λ (x : Bool). cond x (join_of a.standing.position (to_of msg.kind)) a.standing.position) e ∙ ap (λ (x : Kind). join_of a.standing.position (to_of x)) is);
        number = noted.number ∙ sym (ap (λ (x : Bool). cond x (a.standing.number + 1) a.standing.number) e);
        time = noted.time;
        sent = λ o t. noted.sent o t ∙ sym (ap (λ (x : Bool). (x && is_body msg.kind o t) || a.standing.sent o t) e ∙ ap (λ (x : Kind). is_body x o t || a.standing.sent o t) is);
      };
    }
