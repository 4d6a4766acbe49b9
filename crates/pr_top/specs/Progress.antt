-- How far the run of a script has come.
use Rattle.std.specs.Prelude.{◌≡◌, ◌⊎◌, ◌<◌, ◌+◌, ◌++◌, ℕ, List, [], ◌∷◌, Bool, false, IsTrue, Option, Some, None, Result, Ok, Err, drop, filter, length, map, reverse, take}
use Rattle.std.specs.Io.KnownBytes.{Appends}
use Rattle.std.specs.List.{flat_map}
use Rattle.pr_script.specs.declared.decl.Decl.{Decl}
use Rattle.pr_script.specs.declared.command.Command.{Command}
use Rattle.pr_script.specs.declared.command.Command.TheVariants as commands
use Rattle.pr_script.specs.declared.script.Script.{Script}
use Rattle.pr_script.specs.Good.{AreGoodDecls, AreGoodSteps}
use Rattle.pr_script.specs.Steps.{AreWhole, Numbered, Step, steps_of}
use Rattle.pr_sim.specs.Making.{declared_of}
use Rattle.pr_sim.specs.Running.{IsRunning, Tells}
use Rattle.pr_sim.specs.Stepping.{AreAttached}
use Rattle.pr_sim.specs.declared.engine.Engine.{Engine}
use Rattle.pr_story.specs.History.{NodeEntry}
use Rattle.pr_story.specs.Counts.{IsHistory}
use Rattle.pr_story.specs.Phases.{AreBegunAs}
use Rattle.pr_story.specs.Scripts.{LineBegins, Order}
use Rattle.pr_text.specs.Endings.{unmet_line}
use Rattle.pr_text.specs.Histories.{EachGives, HasBegun, IsRunOf, attached_by, first_of, joined, last_part, streams_of, transcript_text, unmet_from}
use Rattle.pr_text.specs.Lines.{line_text}
use Rattle.pr_text.specs.Numbers.{counts_of}
use Rattle.pr_text.specs.Steps.{lines_of, step_line}
use Rattle.pr_text.specs.Transcripts.{plan_of}
use Rattle.pr_top.specs.Downs.{HasTrueDowns}
use Rattle.pr_top.specs.Runs.{IsLie, IsWorn, IsWritten, told_text}
use Rattle.pr_top.specs.declared.running.Expected.{Expected}
use Rattle.pr_top.specs.declared.stepping.Halt.{Halt}
use Rattle.pr_top.specs.declared.stepping.Halt.TheVariants as halts
use Rattle.pr_top.specs.declared.status.Status.TheVariants as status

-- these are the last entry alone
pub record IsLast (last h : List NodeEntry) : Type 0 where
  pub entry : NodeEntry
  pub before : List NodeEntry
  pub alone : last ≡ entry ∷ []
  pub newest : h ≡ entry ∷ before

-- the steps before the commands that are left gave these parts, which are the history: so these streams are attached, the
-- last part is that of the step just before, and this is the line of the first expectation that was not met
pub record HasGiven (order : Order) (s : Script) (rest : List Numbered) (attached : ℕ → Bool) (last h : List NodeEntry) (unmet : Option ℕ) : Type 0 where
  pub before : List Step
  pub parts : List (List NodeEntry)
  pub steps : steps_of s.commands ≡ before ++ steps_of rest
  pub each : EachGives order (streams_of s.decls.list) (λ t. false) (map step_line before) parts
  pub attached_are : attached ≡ attached_by (map step_line before) (λ t. false)
  pub whole : joined parts ≡ reverse h
  pub last_is : last ≡ last_part [] parts
  pub unmet_is : unmet ≡ unmet_from [] before parts

-- behind the history, which the steps before gave, a step made these entries more: those of its line, or such a beginning;
-- and this is the line of the first expectation of the steps before that was not met
pub record IsMadeBy (order : Order) (s : Script) (h new : List NodeEntry) (unmet : Option ℕ) : Type 0 where
  pub before : List Step
  pub step : Step
  pub behind : List Step
  pub parts : List (List NodeEntry)
  pub steps : steps_of s.commands ≡ before ++ step ∷ behind
  pub each : EachGives order (streams_of s.decls.list) (λ t. false) (map step_line before) parts
  pub whole : joined parts ≡ reverse h
  pub begins : LineBegins order (filter (attached_by (map step_line before) (λ t. false)) (streams_of s.decls.list)) (step_line step) (reverse new)
  pub unmet_is : unmet ≡ unmet_from [] before parts

-- the engine has run the script, with phases in this order, up to the commands that are left, which gave the history, and
-- this is the line of the first expectation so far that was not met: whatever the rest gives, or begins, the whole script
-- gives, or begins
pub record HasCome (order : Order) (s : Script) (rest : List Numbered) (h : List NodeEntry) (e : Engine) (unmet : Option ℕ) : Type 0 where
  pub attached : ℕ → Bool
  pub numbers : List ℕ
  pub after_read : Bool
  pub last : List NodeEntry
  pub decls : AreGoodDecls s.decls.list
  pub running : IsRunning (declared_of s.decls.list) attached h e
  pub same : AreAttached numbers attached
  pub good : AreGoodSteps s.decls.list numbers after_read (steps_of rest)
  pub whole : AreWhole rest
  pub read : IsTrue after_read → IsLast last h
  pub gives : (parts : List (List NodeEntry)) → EachGives order (streams_of s.decls.list) attached (map step_line (steps_of rest)) parts
      → (all : List (List NodeEntry)) × EachGives order (streams_of s.decls.list) (λ t. false) (lines_of s.commands) all
      × (joined all ≡ reverse h ++ joined parts) × (unmet_from [] (steps_of s.commands) all ≡ first_of unmet (unmet_from last (steps_of rest) parts))
  pub given : HasGiven order s rest attached last h unmet
  pub begins : (jobs : ℕ → Bool) (es : List NodeEntry) → AreBegunAs jobs order (streams_of s.decls.list) attached (map step_line (steps_of rest)) es
      → AreBegunAs jobs order (streams_of s.decls.list) (λ t. false) (lines_of s.commands) (reverse h ++ es)

-- a run of some script has come up to these commands
abbrev pub CanGoOn : Order → List Numbered → Engine → Option ℕ → Type 0
CanGoOn order rest e unmet = (s : Script) × (h : List NodeEntry) × HasCome order s rest h e unmet

-- the command is no expectation, and begins no phase
abbrev pub IsAlone : Command → Type 0
IsAlone (commands.Expect want) = ⊥
IsAlone commands.Phase = ⊥
IsAlone c = Unit {0}

-- why a run stops
abbrev pub IsHalt : Order → (ℕ → Bool) → Script → List NodeEntry → Halt → Type 0
IsHalt order sound s h (halts.Worn at) = IsWorn order s h at
IsHalt order sound s h (halts.Lied stream number sent got) = IsLie order sound s h stream number sent got
IsHalt order sound s h halts.NoMemory = Unit {0}
IsHalt order sound s h halts.WriteFault = ⊥

-- the run stopped, with a history that the script has begun
pub record HasStopped (order : Order) (sound : ℕ → Bool) (s : Script) (h : List NodeEntry) (e : Engine) (halt : Halt) : Type 0 where
  pub tells : Tells (declared_of s.decls.list) h e
  pub begun : HasBegun order s h
  pub cause : IsHalt order sound s h halt

-- a step ran the first of the commands that are left and so many behind it, or the run stopped
abbrev pub HasStepped : Order → (ℕ → Bool) → Script → List Numbered → List NodeEntry → Engine → Option ℕ → Result ℕ Halt → Type 0
HasStepped order sound s rest h e unmet (Ok n) =
    (n < length rest) × ((new : List NodeEntry) × HasCome order s (drop (n + 1) rest) (new ++ h) e unmet × ((new ≡ []) ⊎ IsMadeBy order s h new unmet))
HasStepped order sound s rest h e unmet (Err halt) =
    (new : List NodeEntry) × HasStopped order sound s (new ++ h) e halt × IsMadeBy order s h new unmet

-- ---- lines

-- the lines of these entries, which stand in their order
abbrev pub entry_lines : List Decl → List NodeEntry → List ℕ
entry_lines ds es = flat_map (λ (e : NodeEntry). line_text ds e.node e.entry.event) es

-- the history, as a call leaves it
abbrev pub IsHistoryOfDecls : Script → List NodeEntry → Type 0
IsHistoryOfDecls s h = IsHistory (plan_of s.decls.list) (counts_of s.decls.list) h

-- the same, over connections of which these are sound
abbrev pub IsHistoryOver : (ℕ → Bool) → Script → List NodeEntry → Type 0
IsHistoryOver sound s h = IsHistoryOfDecls s h × HasTrueDowns sound s h

-- ---- what is written

-- the text was written; or a beginning of it, for want of memory, or since the sink failed
abbrev pub Writes : {X : Type 0} → List ℕ → Type 0 → Option (List ℕ) → Option (List ℕ) → Result X Halt → Type 0
Writes text failed before now (Ok x) = Appends before now text
Writes text failed before now (Err halts.NoMemory) = (n : ℕ) × Appends before now (take n text)
Writes text failed before now (Err halts.WriteFault) = failed × ((n : ℕ) × Appends before now (take n text))
Writes text failed before now (Err (halts.Worn at)) = ⊥
Writes text failed before now (Err (halts.Lied stream number sent got)) = ⊥

-- all commands were run and their lines written; or the run stopped with this history, and its lines were written, or a
-- beginning of them
abbrev pub HasRunAll : Order → (ℕ → Bool) → Script → Type 0 → Option (List ℕ) → Option (List ℕ) → Engine → Option ℕ → Result (Unit {0}) Halt → Type 0
HasRunAll order sound s failed before now e unmet (Ok done) =
    (h : List NodeEntry) × HasCome order s [] h e unmet × Appends before now (entry_lines s.decls.list (reverse h))
HasRunAll order sound s failed before now e unmet (Err halts.NoMemory) =
    (h : List NodeEntry) × HasStopped order sound s h e halts.NoMemory × ((n : ℕ) × Appends before now (take n (entry_lines s.decls.list (reverse h))))
HasRunAll order sound s failed before now e unmet (Err halts.WriteFault) =
    failed × ((h : List NodeEntry) × HasStopped order sound s h e halts.NoMemory × ((n : ℕ) × Appends before now (take n (entry_lines s.decls.list (reverse h)))))
HasRunAll order sound s failed before now e unmet (Err halt) =
    (h : List NodeEntry) × HasStopped order sound s h e halt × Appends before now (entry_lines s.decls.list (reverse h))

-- with this history the transcript was written up to its `ok` line, and the first expectation that was not met is to be
-- told; or what was written is that of a run that stopped
abbrev pub HasTold : Order → (ℕ → Bool) → Script → List NodeEntry → Type 0 → Option (List ℕ) → Option (List ℕ) → Result (Option Expected) Halt → Type 0
HasTold order sound s h failed before now (Ok None) =
    IsHistoryOver sound s h × IsRunOf order s h None × Appends before now (transcript_text s.decls.list h)
HasTold order sound s h failed before now (Ok (Some x)) =
    IsHistoryOver sound s h × IsRunOf order s h (Some x.line) × (x.text ≡ unmet_line x.line)
    × Appends before now (transcript_text s.decls.list h)
HasTold order sound s h failed before now (Err halts.NoMemory) =
    IsHistoryOver sound s h × HasBegun order s h × ((n : ℕ) × Appends before now (take n (told_text s h)))
HasTold order sound s h failed before now (Err halts.WriteFault) =
    IsHistoryOver sound s h × HasBegun order s h
    × ((text : List ℕ) × IsWritten order status.WriteFault failed s h text × Appends before now text)
HasTold order sound s h failed before now (Err halt) =
    IsHistoryOver sound s h × HasBegun order s h × IsHalt order sound s h halt × Appends before now (told_text s h)

-- what is to be told of the first expectation that was not met
abbrev pub IsExpected : Option ℕ → Option Expected → Type 0
IsExpected None None = Unit {0}
IsExpected (Some line) (Some x) = (x.line ≡ line) × (x.text ≡ unmet_line line)
IsExpected _ _ = ⊥
