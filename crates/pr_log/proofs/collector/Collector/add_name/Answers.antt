use Rattle.std.proofs.Common.{◌≡◌, ◌||◌, refl, subst}
use Rattle.std.specs.Str.{bytes_eq}
use Rattle.pr_log.specs.Sets.{Gathered, is_gathered}
use Rattle.pr_log.proofs.Names.{name_more}
use Rattle.pr_log.proofs.collector.Collector.add_name.Goals as goal

pub returns : goal.returns
returns c o ho =
    let was : Gathered = record { names = c.self.inside.names.keys; sets = c.self.inside.sets.items } in
    let now : Gathered = record { names = c.insert.new.self.keys; sets = c.self.inside.sets.items } in
    subst (λ g. is_gathered now o ≡ (is_gathered g o || bytes_eq c.args.name.now o)) c.self.view_is (name_more was now c.args.name.now o c.in_ok-insert.ensures.keys refl)
