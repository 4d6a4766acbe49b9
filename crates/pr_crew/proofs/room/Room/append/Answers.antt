use Rattle.std.proofs.Common.{◌≡◌, ◌≤◌, ◌++◌, ◌∙◌, ℕ, List, length, reverse, ap, arith}
use Rattle.std.proofs.lemmas.List.{length-map}
use Rattle.pr_crew.specs.Assembly.{made_at}
use Rattle.pr_crew.specs.Rooms.{total_at}
use Rattle.pr_crew.proofs.Appending.{adds, are_behind, behind, made_since, of_nodes, parts_fit, parts_most, parts_rising, places_few, places_for, within}
use Rattle.pr_crew.proofs.room.Room.append.Goals as goal

pub fill-requires-clause-made : goal.fill-requires-clause-made
fill-requires-clause-made g c =
    let (d, h, ws, count, nodes, jobs, can, room, knows, has, records) = c.requires.can in
    let s = g.H.Held.state c.args.held.now in
    (h, nodes, made_since d h ws count nodes jobs s can c.args.self room knows c.as_slice.result.now c.as_slice.ensures.value, places_for d h ws count nodes jobs s can c.args.self room knows c.as_slice.result.now c.as_slice.ensures.value)

pub merge-requires-clause-most : goal.merge-requires-clause-most
merge-requires-clause-most g c =
    let (d, h, ws, count, nodes, jobs, can, room, knows, has, records) = c.requires.can in
    parts_most d h ws count nodes jobs (g.H.Held.state c.args.held.now) can c.args.self room knows c.as_slice.result.now c.as_slice.ensures.value c.as_slice-2.result.now (λ made. c.as_slice-2.ensures.value ∙ c.fill.ensures.parts h nodes made)

pub merge-requires-clause-rising : goal.merge-requires-clause-rising
merge-requires-clause-rising g c =
    let (d, h, ws, count, nodes, jobs, can, room, knows, has, records) = c.requires.can in
    parts_rising d h ws count nodes jobs (g.H.Held.state c.args.held.now) can c.args.self room knows c.as_slice.result.now c.as_slice.ensures.value c.as_slice-2.result.now (λ made. c.as_slice-2.ensures.value ∙ c.fill.ensures.parts h nodes made)

pub merge-requires-clause-room : goal.merge-requires-clause-room
merge-requires-clause-room g c =
    let (d, h, ws, count, nodes, jobs, can, room, knows, has, records) = c.requires.can in
    parts_fit d h ws count nodes jobs (g.H.Held.state c.args.held.now) can c.args.self room knows c.as_slice.result.now c.as_slice.ensures.value c.as_slice-2.result.now (λ made. c.as_slice-2.ensures.value ∙ c.fill.ensures.parts h nodes made)

pub shift-requires-clause-within : goal.shift-requires-clause-within
shift-requires-clause-within g c =
    let (d, h, ws, count, nodes, jobs, can, room, knows, has, records) = c.requires.can in
    within d h ws count nodes jobs (g.H.Held.state c.args.held.now) can c.args.self room knows c.as_slice.result.now c.as_slice.ensures.value c.as_slice-2.result.now (λ made. c.as_slice-2.ensures.value ∙ c.fill.ensures.parts h nodes made)
    c.merge.new.out.items c.merge.ensures.merged (λ made. c.fill.ensures.fits h nodes made) c.as_slice-3.result.now c.as_slice-3.ensures.value c.as_slice-4.result.now c.as_slice-4.ensures

pub shift-requires-clause-room : goal.shift-requires-clause-room
shift-requires-clause-room g c =
    let (d, h, ws, count, nodes, jobs, can, room, knows, has, records) = c.requires.can in
    let few : length c.as_slice-4.result.now ≤ total_at ws count =
    places_few d h ws count nodes jobs (g.H.Held.state c.args.held.now) can c.args.self room knows c.as_slice.result.now c.as_slice.ensures.value c.as_slice-2.result.now (λ made. c.as_slice-2.ensures.value ∙ c.fill.ensures.parts h nodes made)
    c.merge.new.out.items c.merge.ensures.merged c.as_slice-4.result.now c.as_slice-4.ensures c.merge.ensures.count in
    let fit = room.places_fit in
    (room.places, omega (arith, few, fit))

pub append-requires-clause-room : goal.append-requires-clause-room
append-requires-clause-room g c =
    let (d, h, ws, count, nodes, jobs, can, room, knows, has, records) = c.requires.can in
    let few : length c.as_slice-4.result.now ≤ total_at ws count =
    places_few d h ws count nodes jobs (g.H.Held.state c.args.held.now) can c.args.self room knows c.as_slice.result.now c.as_slice.ensures.value c.as_slice-2.result.now (λ made. c.as_slice-2.ensures.value ∙ c.fill.ensures.parts h nodes made)
    c.merge.new.out.items c.merge.ensures.merged c.as_slice-4.result.now c.as_slice-4.ensures c.merge.ensures.count in
    let long : length c.as_slice-5.result.now ≡ length c.as_slice-4.result.now = ap (λ (l : List (ℕ × ℕ)). length l) (c.as_slice-5.ensures ∙ c.shift.ensures) ∙ length-map c.as_slice-4.result.now _ in
    has (length c.as_slice-5.result.now) (omega (arith, few, long))

pub append-requires-clause-adds : goal.append-requires-clause-adds
append-requires-clause-adds g c =
    let (d, h, ws, count, nodes, jobs, can, room, knows, has, records) = c.requires.can in
    let s = g.H.Held.state c.args.held.now in
    let places : List (ℕ × ℕ) = c.merge.new.out.items in (
      d,
      h,
      reverse (made_at nodes places),
      adds d h ws count nodes jobs s can places (of_nodes d h ws count nodes jobs s can c.args.self room knows c.as_slice.result.now c.as_slice.ensures.value c.as_slice-2.result.now (λ made. c.as_slice-2.ensures.value ∙ c.fill.ensures.parts h nodes made) places c.merge.ensures.merged) c.as_slice-5.result.now
          (are_behind d h ws count nodes jobs s can c.args.self room knows c.as_slice.result.now c.as_slice.ensures.value c.as_slice-2.result.now (λ made. c.as_slice-2.ensures.value ∙ c.fill.ensures.parts h nodes made) places c.merge.ensures.merged
          c.as_slice-3.result.now c.as_slice-3.ensures.value c.as_slice-4.result.now c.as_slice-4.ensures c.as_slice-5.result.now (c.as_slice-5.ensures ∙ c.shift.ensures)),
      records,
    )

pub returns : goal.returns
returns g c = record {
  appended = λ d h ws count nodes jobs can room knows records.
      let s = g.H.Held.state c.args.held.now in
      let places : List (ℕ × ℕ) = c.merge.new.out.items in
      let merged = of_nodes d h ws count nodes jobs s can c.args.self room knows c.as_slice.result.now c.as_slice.ensures.value c.as_slice-2.result.now (λ made. c.as_slice-2.ensures.value ∙ c.fill.ensures.parts h nodes made) places c.merge.ensures.merged in
      let new : c.as_slice-5.result.now ≡ behind h places =
      are_behind d h ws count nodes jobs s can c.args.self room knows c.as_slice.result.now c.as_slice.ensures.value c.as_slice-2.result.now (λ made. c.as_slice-2.ensures.value ∙ c.fill.ensures.parts h nodes made) places c.merge.ensures.merged
      c.as_slice-3.result.now c.as_slice-3.ensures.value c.as_slice-4.result.now c.as_slice-4.ensures c.as_slice-5.result.now (c.as_slice-5.ensures ∙ c.shift.ensures) in (
        places,
        merged,
        c.append.ensures.state ∙ ap (λ (ps : List (ℕ × ℕ)). record { nodes = s.nodes; sessions = s.sessions; clients = s.clients; places = s.places ++ ps }) new,
        c.append.ensures.records d h (reverse (made_at nodes places)) (adds d h ws count nodes jobs s can places merged c.as_slice-5.result.now new) records,
      );
}
