-- Clocks are at most the number of writes, and times at most that of entries.
use Rattle.std.proofs.Common.{◌≡◌, ℕ, ◌<◌, ◌≤◌, ◌+◌, inl, inr, List, [], ◌∷◌, subst, arith, max, cond, nat_eq, length, suc}
use Rattle.std.specs.Prelude.{false, true, Bool}
use Rattle.std.proofs.lemmas.Bool.Decides.{nat_tests}
use Rattle.pr_vectors.specs.Vector.{clock_of}
use Rattle.pr_inval.specs.declared.msg.Msg.{Msg}
use Rattle.pr_story.specs.declared.entry.Entry.{Entry}
use Rattle.pr_story.specs.declared.event.Event.{Event}
use Rattle.pr_story.specs.declared.event.Event.TheVariants.{Wrote, Attached, Sent, Idle, Stale, Accepted, Gapped, Down}
use Rattle.pr_inval.specs.Points.{from_of, to_of}
use Rattle.pr_story.specs.History.{Plan, NodeEntry, journal, Sends, clock_brought, current_clock, current_vector}
use Rattle.pr_story.specs.Turns.{standing, is_timed, stream_time}
use Rattle.pr_story.specs.Lawful.{IsLawful, Valid, last_time, heard_time}
use Rattle.pr_story.specs.Laws.{IsShort, writes_after, write_count}
use Rattle.pr_story.proofs.Basics.{clock_at, clock_is, vector_clock}
use Rattle.pr_story.proofs.Clocks.{end_reached}
use Rattle.pr_story.proofs.World.{World}
use Rattle.pr_story.proofs.Steps.{valid_world, entry_at, honest_within}

-- no write is taken away
counts : (event : Event) (k : ℕ) → k ≤ writes_after event k
counts (Wrote client write body after) k = omega arith
counts _ k = omega arith

module _ (plan : Plan) (h : List NodeEntry) (f : World h) (s : IsShort h) where
  brought : (n time caller w : ℕ) (event : Event) → w < 32 → IsLawful plan h (entry_at n time caller event) → clock_brought event w ≤ writes_after event (write_count h)
  brought n time caller w (Wrote client write body after) lt l =
      let k = l.may_come.4 in
      let b : current_clock (journal h n) k.0 ≤ write_count h = s.clocks n k.0 k.1 in
      let e : write.stamp.clock ≡ current_clock (journal h n) k.0 + 1 = k.2 in
      grind (arith, nat_tests)
  brought n time caller w (Accepted msg at) lt l =
      let a : clock_of (from_of msg.kind) w ≤ clock_of (current_vector (journal h n)) w = l.may_come.0 w lt in
      let b : clock_of (current_vector (journal h n)) w ≡ clock_at h n w = vector_clock h n w lt in
      let c : current_clock (journal h n) w ≡ clock_at h n w = clock_is h n w in
      let d : current_clock (journal h n) w ≤ write_count h = s.clocks n w lt in
      let g : current_clock (journal h w) w ≤ write_count h = s.clocks w w lt in
      end_reached (clock_of (from_of msg.kind) w) (clock_of (to_of msg.kind) w) (write_count h)
      (λ past. let r : clock_of (to_of msg.kind) w ≤ current_clock (journal h w) w = (honest_within h msg.kind (f.honest msg l.cause)).reached w lt past in omega arith) (omega arith)
  brought n time caller w _ lt l = omega arith

  heard_short : (n time caller : ℕ) (event : Event) → IsLawful plan h (entry_at n time caller event) → heard_time (standing plan h) event ≤ length h
  heard_short n time caller (Accepted msg at) l = s.messages msg l.cause
  heard_short n time caller (Gapped msg has) l = s.messages msg l.cause
  heard_short n time caller (Attached stream at) l = s.streams stream
  heard_short n time caller (Sent msg) l = s.streams msg.stream
  heard_short n time caller (Idle stream) l = s.streams stream
  heard_short n time caller (Stale stream cut) l = s.streams stream
  heard_short n time caller (Down stream cause) l = s.streams stream
  heard_short n time caller _ l = omega arith

  sent_time : (n time caller : ℕ) (event : Event) (msg : Msg) → IsLawful plan h (entry_at n time caller event) → Sends event msg → msg.time ≡ time
  sent_time n time caller (Sent other) msg l is = subst (λ (m : Msg). m.time ≡ time) is l.may_come.1
  sent_time n time caller _ msg l is = absurd is

last_cond : (b : Bool) (e : Entry) (j : List Entry) (k : ℕ) → e.time ≤ k → last_time j ≤ k → last_time (cond b (e ∷ j) j) ≤ k
last_cond true e j k a b = a
last_cond false e j k a b = b

timed_cond : (b : Bool) (x t k : ℕ) → x ≤ k → t ≤ k → max x (cond b t 0) ≤ k
timed_cond true x t k a b = omega arith
timed_cond false x t k a b = omega arith

short_step : (plan : Plan) (h : List NodeEntry) (e : NodeEntry) → World h → IsLawful plan h e → IsShort h → IsShort (e ∷ h)
short_step plan h e f l s =
    let hs : heard_time (standing plan h) e.entry.event ≤ length h = heard_short plan h f s e.node e.entry.time e.entry.caller e.entry.event l in
    let ls : last_time (journal h e.node) ≤ length h = s.nodes e.node in
    let is : e.entry.time ≡ max (last_time (journal h e.node)) (heard_time (standing plan h) e.entry.event) + 1 = l.time in
    let t : e.entry.time ≤ suc (length h) = omega arith in
    record {
      clocks = λ n w lt.
          let a : current_clock (journal (e ∷ h) n) w ≡ max (clock_at h n w) (cond (nat_eq e.node n) (clock_brought e.entry.event w) 0) = clock_is (e ∷ h) n w in
          let b : current_clock (journal h n) w ≡ clock_at h n w = clock_is h n w in
          let c : current_clock (journal h n) w ≤ write_count h = s.clocks n w lt in
          let d : write_count h ≤ writes_after e.entry.event (write_count h) = counts e.entry.event (write_count h) in
          let g : clock_brought e.entry.event w ≤ writes_after e.entry.event (write_count h) = brought plan h f s e.node e.entry.time e.entry.caller w e.entry.event lt l in
          let m : max (clock_at h n w) (cond (nat_eq e.node n) (clock_brought e.entry.event w) 0) ≤ writes_after e.entry.event (write_count h) = timed_cond (nat_eq e.node n) (clock_at h n w) (clock_brought e.entry.event w) (writes_after e.entry.event (write_count h)) (omega arith) g in
          omega arith;
      nodes = λ n. let a : last_time (journal h n) ≤ length h = s.nodes n in last_cond (nat_eq e.node n) e.entry (journal h n) (suc (length h)) t (omega arith);
      streams = λ k. let a : stream_time h k ≤ length h = s.streams k in timed_cond (is_timed e.entry.event k) (stream_time h k) e.entry.time (suc (length h)) (omega arith) t;
      messages = λ msg w. elim w [
        | inl now ↦ let e2 : msg.time ≡ e.entry.time = sent_time plan h f s e.node e.entry.time e.entry.caller e.entry.event msg l now in omega arith
        | inr old ↦ let a : msg.time ≤ length h = s.messages msg old in omega arith
      ];
    }

pub valid_short : (plan : Plan) (h : List NodeEntry) → Valid plan h → IsShort h
valid_short plan [] v = record { clocks = λ n w lt. omega arith; nodes = λ n. omega arith; streams = λ k. omega arith; messages = λ msg w. absurd w }
valid_short plan (e ∷ h) v = short_step plan h e (valid_world plan h v.1) v.0 (valid_short plan h v.1)
