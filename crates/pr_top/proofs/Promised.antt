-- What is promised of each history.
use Rattle.std.proofs.Common.{List, [], ◌∷◌}
use Rattle.pr_story.specs.Counts.{Counts, IsHistory}
use Rattle.pr_story.specs.History.{Plan, NodeEntry, AtEveryPlace}
use Rattle.pr_story.specs.Laws.{Facts}
use Rattle.pr_story.proofs.Alike.{answers_alike}
use Rattle.pr_story.proofs.Clients.{none_goes_back}
use Rattle.pr_story.proofs.Laws.{facts_throughout, sent_useful}
use Rattle.pr_story.proofs.Reading.{reads_are_so}
use Rattle.pr_top.specs.Headline.{Headline, MessagesAreHonest, VectorsAreClosed}

all_closed : (plan : Plan) (h : List NodeEntry) → AtEveryPlace (Facts plan) h → VectorsAreClosed h
all_closed plan [] f = f.closed
all_closed plan (e ∷ h) f = (f.0.closed, all_closed plan h f.1)

all_honest : (plan : Plan) (h : List NodeEntry) → AtEveryPlace (Facts plan) h → MessagesAreHonest h
all_honest plan [] f = f.honest
all_honest plan (e ∷ h) f = (f.0.honest, all_honest plan h f.1)

pub headline : (plan : Plan) (counts : Counts) (h : List NodeEntry) → IsHistory plan counts h → Headline plan counts h
headline plan counts h is = record {
  history = is;
  closed = all_closed plan h (facts_throughout plan h is.valid);
  honest = all_honest plan h (facts_throughout plan h is.valid);
  useful = sent_useful plan h is.valid;
  reads = reads_are_so plan h is.valid;
  clients = none_goes_back plan h is.valid;
  alike = answers_alike plan h is.valid;
}
