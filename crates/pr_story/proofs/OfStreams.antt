-- What is asked of the event of a stream, and how the stream stands after it.
use Rattle.std.proofs.Common.{◌≡◌, ℕ, ◌+◌, ◌≤◌, List, ◌∷◌, refl, sym, ◌∙◌, ap, max, cond, nat_eq, arith}
use Rattle.std.specs.Prelude.{true, false, Bool, IsTrue}
use Rattle.std.proofs.lemmas.Bool.Decides.{Decides-eqb}
use Rattle.pr_inval.specs.declared.msg.Msg.{Msg}
use Rattle.pr_inval.specs.Standing.{SessionMeaning, Standing}
use Rattle.pr_story.specs.declared.cause.Cause.{Cause}
use Rattle.pr_story.specs.declared.entry.Entry.{Entry}
use Rattle.pr_story.specs.declared.event.Event.{Event}
use Rattle.pr_story.specs.declared.event.Event.TheVariants.{Attached, Sent, Idle, Stale, Gapped, Down}
use Rattle.pr_story.specs.Clients.{is_of_client}
use Rattle.pr_story.specs.History.{Plan, NodeEntry, journal}
use Rattle.pr_story.specs.Lawful.{heard_time, is_after_gap, is_gap, last_time}
use Rattle.pr_story.specs.Laws.{StandsFor}
use Rattle.pr_story.specs.Sessions.{HasGoneOn}
use Rattle.pr_story.specs.Turns.{count_after, position_after, sent_after, is_of_stream, is_timed, is_with_session, stream_time}

pub not_equal : (a b : ℕ) → (a ≡ b → ⊥) → nat_eq a b ≡ false
not_equal a b other = by (nat_eq a b) (Decides-eqb a b).0
  where
    by : (x : Bool) → (IsTrue x → a ≡ b) → x ≡ false
    by true is = absurd (other (is refl))
    by false is = refl

pub same_is : (a : ℕ) → nat_eq a a ≡ true
same_is a = (Decides-eqb a a).1 refl

abbrev pub IsOfNoStream : Event → Type 0
IsOfNoStream event = (s : ℕ) → is_of_stream event s ≡ false

abbrev pub IsOfNoClient : Event → Type 0
IsOfNoClient event = (c : ℕ) → is_of_client event c ≡ false

-- what is asked of an event of stream s
pub record IsOfStream (s : ℕ) (event : Event) : Type 0 where
  pub with : (t : ℕ) → IsTrue (is_with_session event t) → t ≡ s
  pub others : (t : ℕ) → (t ≡ s → ⊥) → is_of_stream event t ≡ false
  pub timed : is_timed event s ≡ true
  pub heard : (sessions : ℕ → Standing) → heard_time sessions event ≡ (sessions s).time
  pub no_client : IsOfNoClient event

pub other_stream : (s t : ℕ) → (t ≡ s → ⊥) → nat_eq s t ≡ false
other_stream s t other = not_equal s t (λ e. other (sym e))

same_stream : (s t : ℕ) → IsTrue (nat_eq s t) → t ≡ s
same_stream s t is = sym ((Decides-eqb s t).0 is)

pub attached_is : (s : ℕ) (at : List ℕ) → IsOfStream s (Attached s at)
attached_is s at = record { with = same_stream s; others = other_stream s; timed = same_is s; heard = λ sessions. refl; no_client = λ c. refl }

pub sent_is : (s : ℕ) (msg : Msg) → msg.stream ≡ s → IsOfStream s (Sent msg)
sent_is s msg is = record {
  with = λ t on. same_stream msg.stream t on ∙ is;
  others = λ t other. other_stream msg.stream t (λ e. other (e ∙ is));
  timed = (Decides-eqb msg.stream s).1 is;
  heard = λ sessions. ap (λ (t : ℕ). (sessions t).time) is;
  no_client = λ c. refl;
}

pub idle_is : (s : ℕ) → IsOfStream s (Idle s)
idle_is s = record { with = same_stream s; others = other_stream s; timed = same_is s; heard = λ sessions. refl; no_client = λ c. refl }

pub stale_is : (s : ℕ) (cut : List ℕ) → IsOfStream s (Stale s cut)
stale_is s cut = record { with = same_stream s; others = other_stream s; timed = same_is s; heard = λ sessions. refl; no_client = λ c. refl }

pub down_is : (s : ℕ) (cause : Cause) → IsOfStream s (Down s cause)
down_is s cause = record { with = λ t on. sym ((Decides-eqb s t).0 on); others = λ t other. not_equal s t (λ e. other (sym e)); timed = (Decides-eqb s s).1 refl; heard = λ sessions. refl; no_client = λ c. refl }

-- behind a gap the destination may note it
pub after_gap : (made : NodeEntry) (h : List NodeEntry) (n s : ℕ) (m : Msg) (has : List ℕ) → made.node ≡ n → made.entry.event ≡ Gapped m has → m.stream ≡ s → is_after_gap (journal (made ∷ h) n) s ≡ true
after_gap made h n s m has at is of =
    ap (λ (b : Bool). is_after_gap (cond b (made.entry ∷ journal h n) (journal h n)) s) ((Decides-eqb made.node n).1 at)
    ∙ ap (λ (v : Event). cond (is_of_stream v s) (is_gap v) (is_after_gap (journal h n) s)) is
    ∙ ap (λ (b : Bool). cond b true (is_after_gap (journal h n) s)) ((Decides-eqb m.stream s).1 of)

-- ---- how the stream stands

pub later : (a b t time : ℕ) (on : Bool) → on ≡ true → time ≡ max a b + 1 → b ≡ t → time ≡ max t (cond on time 0)
later a b t time true is own same = omega arith
later a b t time false is own same = absurd (cc)

as_late : (t time : ℕ) (on : Bool) → on ≡ true → t ≤ time → time ≡ max t (cond on time 0)
as_late t time true is le = omega arith
as_late t time false is le = absurd (cc)

pub stands_on : (plan : Plan) (e : NodeEntry) (h : List NodeEntry) (s : ℕ) (a b : SessionMeaning) (attached : Bool) → a.stream ≡ s → StandsFor plan h s a.standing → HasGoneOn a b attached e.entry
    → is_timed e.entry.event s ≡ true → stream_time h s ≤ e.entry.time → StandsFor plan (e ∷ h) s b.standing
stands_on plan e h s a b attached stream stands on timed time = record {
  names = on.after.names ∙ stands.names;
  bodies = on.after.bodies ∙ stands.bodies;
  position = on.after.position ∙ ap (λ (t : ℕ). position_after e.entry.event t a.standing.position) stream ∙ ap (λ (p : List ℕ). position_after e.entry.event s p) stands.position;
  number = on.after.number ∙ ap (λ (t : ℕ). count_after e.entry.event t a.standing.number) stream ∙ ap (λ (k : ℕ). count_after e.entry.event s k) stands.number;
  time = on.after.time ∙ as_late (stream_time h s) e.entry.time (is_timed e.entry.event s) timed time;
  sent = λ o t. on.after.sent o t ∙ ap (λ (k : ℕ). sent_after e.entry.event k o t (a.standing.sent o t)) stream ∙ ap (λ (b : Bool). sent_after e.entry.event s o t b) (stands.sent o t);
}
