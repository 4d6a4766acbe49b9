use Rattle.std.proofs.Common.{[], ◌∷◌, ◌++◌, ℕ, List, sym, ◌∙◌, ap, get_or, length, take}
use Rattle.std.proofs.lemmas.List.{append_assoc, get_or_default, take_more}
use Rattle.pr_sim.specs.Holding.{held_of}
use Rattle.pr_sim.proofs.Appending.{all_came, came_next, came_one_more, room_for_one, room_left}
use Rattle.pr_sim.proofs.holding.EngineHeld.append.Goals as goal

pub append_one-requires-clause-next : goal.append_one-requires-clause-next
append_one-requires-clause-next c =
    let a = c.requires.adds in
    let l = c.loop-place.invariant in
    let i = c.loop-place.place-index in
    let p = get_or c.args.places.now i (0, 0) in
    came_next a.0 a.1 a.2 (held_of c.args.self.now) c.args.places.now a.3 i p c.loop-place-test.true (get_or_default c.args.places.now i (0, 0) p c.loop-place-test.true) c.loop-place.self
    (ap (λ xs. xs.items) l.nodes, ap (λ xs. xs.items) l.sessions, l.clients) (l.records a.0 a.1 a.2 a.3 a.4)

pub append_one-requires-clause-room : goal.append_one-requires-clause-room
append_one-requires-clause-room c = room_for_one c.loop-place.self (length c.args.places.now) c.loop-place.place-index c.loop-place-test.true c.loop-place.invariant.room

pub loop-place-preserved : goal.loop-place-preserved
loop-place-preserved c =
    let l = c.loop-place.invariant in
    let e = c.append_one.ensures in
    record {
      nodes = e.nodes ∙ l.nodes;
      sessions = e.sessions ∙ l.sessions;
      clients = e.clients ∙ l.clients;
      history =
          e.history
          ∙ ap (λ (ps : List (ℕ × ℕ)). ps ++ get_or c.args.places.now c.loop-place.place-index (0, 0) ∷ []) l.history
          ∙ append_assoc c.args.self.now.history.items (take c.loop-place.place-index c.args.places.now) (get_or c.args.places.now c.loop-place.place-index (0, 0) ∷ [])
          ∙ ap (λ (ps : List (ℕ × ℕ)). c.args.self.now.history.items ++ ps) (sym (take_more c.args.places.now c.loop-place.place-index (0, 0) c.loop-place-test.true));
      room = room_left c.loop-place.self c.append_one.new.self (length c.args.places.now) c.loop-place.place-index c.loop-place-test.true l.room e.room;
      records = λ d h new a k.
          let i = c.loop-place.place-index in
          let p = get_or c.args.places.now i (0, 0) in
          came_one_more d h new (held_of c.args.self.now) c.args.places.now a i p c.loop-place-test.true (get_or_default c.args.places.now i (0, 0) p c.loop-place-test.true) c.loop-place.self c.append_one.new.self
          (ap (λ xs. xs.items) l.nodes, ap (λ xs. xs.items) l.sessions, l.clients) (l.records d h new a k) e.records;
    }

pub returns-clause-records : goal.returns-clause-records
returns-clause-records c d h new a k =
    all_came d h new (held_of c.args.self.now) c.args.places.now c.loop-place.place-index c.loop-place.self a c.loop-place-test.false (c.loop-place.invariant.records d h new a k)
