-- The headline: what is promised of the history that a transcript tells.
use Rattle.std.specs.Prelude.{ℕ, List}
use Rattle.pr_inval.specs.declared.msg.Msg.{Msg}
use Rattle.pr_story.specs.Counts.{Counts, IsHistory}
use Rattle.pr_story.specs.History.{Plan, NodeEntry, AtEveryPlace, IsClosed, WasSent, current_vector, journal}
use Rattle.pr_story.specs.Laws.{AnswersAlike, NoneGoesBack, SentUseful}
use Rattle.pr_story.specs.Messages.{IsHonest}
use Rattle.pr_story.specs.Reading.{AllReadSo}

-- each node's vector covers a causally closed set of writes, at every place
abbrev pub VectorsAreClosed : List NodeEntry → Type 0
VectorsAreClosed h = AtEveryPlace (λ g. (n : ℕ) → IsClosed g (current_vector (journal g n))) h

-- each message that was sent is honest, when it is sent and at every later place
abbrev pub MessagesAreHonest : List NodeEntry → Type 0
MessagesAreHonest h = AtEveryPlace (λ g. (msg : Msg) → WasSent g msg → IsHonest g msg.kind) h

-- a history of these declarations, and what is promised of it
pub record Headline (plan : Plan) (counts : Counts) (h : List NodeEntry) : Type 0 where
  -- it is valid, and of declared nodes, clients and streams alone
  pub history : IsHistory plan counts h
  -- each node's vector covers a causally closed set of writes
  pub closed : VectorsAreClosed h
  -- each message is honest, and of use to its stream
  pub honest : MessagesAreHonest h
  pub useful : SentUseful plan h
  -- each precise read gives the covered write to its name with the greatest accept stamp, and a read is pending only where
  -- the node trails its client, a covered point was untold or the newest body is absent
  pub reads : AllReadSo plan h
  -- no client's vector goes back
  pub clients : NoneGoesBack h
  -- nodes with equal vectors answer precise reads alike
  pub alike : AnswersAlike h
