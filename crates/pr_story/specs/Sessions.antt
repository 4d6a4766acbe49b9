-- How a stream's session goes on with each entry that is made with it.
use Rattle.std.specs.Prelude.{ℕ, List, Bool, ◌≡◌}
use Rattle.pr_stamps.specs.Point.{Point}
use Rattle.pr_inval.specs.Standing.{Standing, SessionMeaning}
use Rattle.pr_story.specs.declared.entry.Entry.{Entry}
use Rattle.pr_story.specs.Turns.{position_after, count_after, sent_after}

-- the stream stood as a, and stands as b after the entry
pub record IsAfter (stream : ℕ) (e : Entry) (a b : Standing) : Type 0 where
  pub names : b.names ≡ a.names
  pub bodies : b.bodies ≡ a.bodies
  pub position : b.position ≡ position_after e.event stream a.position
  pub number : b.number ≡ count_after e.event stream a.number
  pub time : b.time ≡ e.time
  pub sent : (o : List ℕ) (t : Point) → b.sent o t ≡ sent_after e.event stream o t (a.sent o t)

-- the stream's session was a, and is b after the entry
pub record HasGoneOn (a b : SessionMeaning) (attached : Bool) (e : Entry) : Type 0 where
  pub stream : b.stream ≡ a.stream
  pub is_attached : b.attached ≡ attached
  pub after : IsAfter a.stream e a.standing b.standing
