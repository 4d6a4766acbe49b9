use Rattle.std.proofs.Common.{◌≡◌, ◌<◌, ◌+◌, max, ℕ, sym, refl, ap, subst, rules, arith, List, reverse}
use Rattle.pr_inval.specs.Standing.{means, SessionMeaning}
use Rattle.pr_story.specs.declared.entry.Entry.{Entry}
use Rattle.pr_story.specs.declared.event.Event.TheVariants.{Attached}
use Rattle.std.specs.Prelude.{true}
use Rattle.pr_node.proofs.Adding.{stands, adds}
use Rattle.pr_story.specs.Lawful.{last_time}
use Rattle.pr_node.proofs.Begun.{attach_ready, begun_heard}
use Rattle.pr_node.proofs.Quiet.{quiet_tied}
use Rattle.pr_node.proofs.node.Node.attach.Goals as goal
use Rattle.pr_story.specs.Sessions.{HasGoneOn}

pub invariant_of-self-2 : goal.invariant_of-self-2
invariant_of-self-2 c =
    stands c.self.inside.id _ _ _ _ _ _ c.self.invariant.0 c.in_ok-time.ensures.items c.in_ok-attached.ensures.items
    (quiet_tied c.self.inside.id _ _ _ tt (c.self.invariant.1 c.in_ok-time.ensures.worked))

pub returns-clause-ok : goal.returns-clause-ok
returns-clause-ok c needs =
    let n = c.self.inside.id in
    let j : List Entry = reverse c.self.inside.diary.entries.items in
    let a : SessionMeaning = means c.args.session.now in
    let tied = c.self.invariant.1 c.in_ok-time.ensures.worked in
    let is : c.stream.result ≡ a.stream = c.stream.ensures in
    let now : c.in_ok-time.time ≡ max (last_time (reverse c.self.inside.diary.entries.items)) c.time.result + 1 = c.in_ok-time.ensures.time.0 in
    let was : c.time.result ≡ a.standing.time = c.time.ensures.value in
    let later : a.standing.time < c.in_ok-time.time = omega (arith, now, was) in
    rw (← c.self.view_is) (adds n _ _ _ _ _ _ _ _ (λ x. a.standing) needs _ c.time.result _ c.in_ok-time.ensures.items c.in_ok-attached.ensures.items refl c.in_ok-attached.ensures.spent
    (attach_ready needs n j c.self.inside.stores.gaps.sets a.standing c.sub.result.now c.in_ok-time.time c.args.caller c.stream.result c.start-at.result (search rules) c.start-at.ensures.range c.sub.ensures.value (c.start-at.ensures.start n j tied.gaps))
    c.ranges.caller.fits refl was c.in_ok-time.ensures.time (
      ap (λ (k : ℕ). Attached k c.start-at.result) is,
      subst (λ (k : ℕ). HasGoneOn a (means c.heard.new.self) true (record { time = c.in_ok-time.time; caller = c.args.caller; event = Attached k c.start-at.result })) (sym is)
          (begun_heard a (means c.begin-2.new.self) (means c.heard.new.self) c.start-at.result c.in_ok-time.time c.args.caller later c.begin-2.ensures c.heard.ensures),
    ))
