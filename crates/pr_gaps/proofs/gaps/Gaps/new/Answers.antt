use Rattle.std.proofs.Common.{refl, false}
use Rattle.pr_gaps.proofs.Sets.{none_new}
use Rattle.pr_gaps.proofs.gaps.Gaps.new.Goals as goal

pub returns : goal.returns
returns c = record {
  at = refl;
  is_sets = refl;
  works = refl;
  vector = c.zero.ensures;
  told = λ i p le. none_new (record { node = c.args.node; sets = c.args.sets; rest = c.in_ok-rest.rest; vector = c.zero.result; rows = c.in_ok-rows.rows.items; spent = false }) c.requires c.zero.ensures c.in_ok-rows.ensures.none i p;
}
