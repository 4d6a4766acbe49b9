use Rattle.std.proofs.Common.{ℕ, List, refl, ◌∙◌, subst}
use Rattle.std.specs.Prelude.{Some}
use Rattle.pr_inval.specs.Standing.{IsNewSession, Remembered}
use Rattle.pr_inval.specs.Standing as Standing
use Rattle.pr_names.specs.Span.{Span}
use Rattle.pr_script.specs.declared.decl.Decl.TheVariants as decls
use Rattle.pr_script.specs.declared.kind.Kind.TheVariants as kinds
use Rattle.pr_sim.specs.Making.{HasSeenNothing, HasSentNothing, IsHome, IsNew, IsNewNode, IsRoute, HasLookedAtNothing}
use Rattle.pr_sim.proofs.Makings.{each_same, each_then}
use Rattle.pr_sim.proofs.engine.Engine.add_stream.Goals as goal

pub returns : goal.returns
returns c ds label k =
    let d = decls.Stream label c.args.route.source c.args.route.destination c.args.sub.now c.args.bodies in
    let new : IsNewSession (Standing.means c.new-session.result) c.len.result c.args.sub.now c.args.bodies =
    subst (λ (names : List Span). IsNewSession (Standing.means c.new-session.result) c.len.result names c.args.bodies) c.in_ok-sub.ensures c.new-session.ensures in
    record {
      nodes = each_same IsNewNode kinds.Node ds d _ refl k.nodes;
      homes = each_same IsHome kinds.Client ds d _ refl k.homes;
      seen = each_same HasSeenNothing kinds.Client ds d _ refl k.seen;
      sessions = each_then IsNew kinds.Stream ds d c.args.self.now.sessions.items _ (Some c.new-session.result) refl c.in_ok-push.ensures.items k.sessions
          (c.new-session.result, refl, subst (λ (i : ℕ). IsNewSession (Standing.means c.new-session.result) i c.args.sub.now c.args.bodies) (c.len.ensures ∙ c.args.self.now.sessions.ok.0) new);
      routes = each_then IsRoute kinds.Stream ds d c.args.self.now.routes.items _ c.args.route refl c.in_ok-push-2.ensures.items k.routes (refl, refl);
      sent = each_then HasSentNothing kinds.Stream ds d c.args.self.now.sent.items _ c.new.result refl c.in_ok-push-3.ensures.items k.sent c.new.ensures;
      scans = each_then HasLookedAtNothing kinds.Stream ds d c.args.self.now.scans.items _ c.new-2.result refl c.in_ok-push-4.ensures.items k.scans c.new-2.ensures;
      history = k.history;
    }
