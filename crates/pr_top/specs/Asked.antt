-- What comes of a call that writes the asks of a node.
use Rattle.std.specs.Prelude.{◌≡◌, ◌==◌, ◌≤◌, ℕ, List, [], ◌∷◌, Option, Result, Ok, Err, length, take}
use Rattle.std.specs.List.{filter}
use Rattle.std.specs.Io.KnownBytes.{Appends}
use Rattle.pr_names.specs.Span.{Span}
use Rattle.pr_script.specs.declared.decl.Decl.{Decl}
use Rattle.pr_script.specs.declared.script.Script.{Script}
use Rattle.pr_serve.specs.Asks.{asks_text}
use Rattle.pr_serve.specs.declared.ask.Ask.{Ask}
use Rattle.pr_story.specs.declared.entry.Entry.{Entry}
use Rattle.pr_story.specs.History.{NodeEntry, Stream, journal}
use Rattle.pr_story.specs.Scripts.{JobAfterJob}
use Rattle.pr_story.specs.Told.{IsStart}
use Rattle.pr_text.specs.Histories.{HasBegun, IsHistoryOf, streams_of}
use Rattle.pr_text.specs.Numbers.{counts_of}
use Rattle.pr_text.specs.Transcripts.{plan_of}
use Rattle.pr_top.specs.Headline.{Headline}
use Rattle.pr_top.specs.Progress.{IsHistoryOfDecls}
use Rattle.pr_top.specs.Silent.{HasStoppedSo}
use Rattle.pr_top.specs.declared.stepping.Halt.{Halt}
use Rattle.pr_top.specs.declared.status.Status.{Status}
use Rattle.pr_top.specs.declared.status.Status.TheVariants as status

-- ---- the asks of a node

-- the ask of node n, which has these sets and this journal, for the stream of this number: from its start there on, for
-- its names, with bodies if it has them, and for a million turns
pub record IsAskFor (sets : List (List Span)) (n : ℕ) (j : List Entry) (number : ℕ) (stream : Stream) (q : Ask) : Type 0 where
  pub number_is : q.stream ≡ number
  pub start : IsStart sets n j stream.names q.start
  pub names : q.sub ≡ stream.names
  pub bodies : q.bodies ≡ stream.bodies
  pub turns : q.turns ≡ 1000000

-- the streams that end at the node, in the order of declaration
abbrev pub streams_to : List Decl → ℕ → List ℕ
streams_to ds n = filter (λ s. ((plan_of ds).stream s).destination == n) (streams_of ds)

-- one ask for each of these streams, in order
abbrev pub AreAsksFor : List Decl → List (List Span) → ℕ → List Entry → List ℕ → List Ask → Type 0
AreAsksFor ds sets n j [] [] = Unit {0}
AreAsksFor ds sets n j (s ∷ streams) (q ∷ qs) =
    IsAskFor sets n j s ((plan_of ds).stream s) q × AreAsksFor ds sets n j streams qs
AreAsksFor ds sets n j _ _ = ⊥

-- the text is the asks for all streams that end at node n
abbrev pub IsAsksText : List Decl → List (List Span) → ℕ → List Entry → List ℕ → Type 0
IsAsksText ds sets n j text = (qs : List Ask) × AreAsksFor ds sets n j (streams_to ds n) qs × (text ≡ asks_text qs)

-- the same, of the node as the history left it
abbrev pub AreAsksAfter : Script → ℕ → List NodeEntry → List ℕ → Type 0
AreAsksAfter s n h text = IsAsksText s.decls.list ((plan_of s.decls.list).sets n) n (journal h n) text

-- ---- what is written

-- the asks, or a beginning of them where the sink failed; or nothing
abbrev pub IsAsked : Status → Type 0 → Script → ℕ → List NodeEntry → List ℕ → Type 0
IsAsked status.Ok failed s n h text = IsHistoryOf JobAfterJob s h × AreAsksAfter s n h text
IsAsked status.WriteFault failed s n h text =
    failed × IsHistoryOf JobAfterJob s h × ((all : List ℕ) × (count : ℕ) × AreAsksAfter s n h all × (text ≡ take count all))
IsAsked (status.Worn at) failed s n h text =
    HasBegun JobAfterJob s h × (at ≡ 4611686018427387903) × (4611686018427387903 ≤ length h) × (text ≡ [])
IsAsked status.NoMemory failed s n h text = HasBegun JobAfterJob s h × (text ≡ [])
IsAsked _ failed s n h text = ⊥

-- the script was run, and node n of it asks: its history is as promised
pub record HasAsked (result : Status) (s : Script) (n : ℕ) (failed : Type 0) (before now : Option (List ℕ)) : Type 0 where
  pub h : List NodeEntry
  pub headline : Headline (plan_of s.decls.list) (counts_of s.decls.list) h
  pub text : List ℕ
  pub written : IsAsked result failed s n h text
  pub told : Appends before now text

-- ---- within

-- the asks after the whole run, or its history where it stopped
abbrev pub HasAsks : Script → ℕ → Result (List ℕ) Halt → Type 0
HasAsks s n (Ok text) = (h : List NodeEntry) × IsHistoryOfDecls s h × IsHistoryOf JobAfterJob s h × HasBegun JobAfterJob s h × AreAsksAfter s n h text
HasAsks s n (Err halt) = HasStoppedSo s halt
