-- What comes of a run without its lines.
use Rattle.std.specs.Prelude.{ℕ, List, [], Option, Result, Ok, Err}
use Rattle.pr_script.specs.declared.script.Script.{Script}
use Rattle.pr_sim.specs.declared.engine.Engine.{Engine}
use Rattle.pr_story.specs.History.{NodeEntry}
use Rattle.pr_story.specs.Scripts.{JobAfterJob}
use Rattle.pr_text.specs.Histories.{HasBegun}
use Rattle.pr_top.specs.Runs.{all_sound}
use Rattle.pr_top.specs.Progress.{HasCome, HasStopped, IsHalt, IsHistoryOfDecls}
use Rattle.pr_top.specs.declared.stepping.Halt.{Halt}
use Rattle.pr_top.specs.declared.stepping.Run.{Run}

-- all commands were run, or the run stopped
abbrev pub HasRunSo : Script → Engine → Option ℕ → Result (Unit {0}) Halt → Type 0
HasRunSo s e unmet (Ok done) = (h : List NodeEntry) × HasCome JobAfterJob s [] h e unmet
HasRunSo s e unmet (Err halt) = (h : List NodeEntry) × HasStopped JobAfterJob all_sound s h e halt

-- the run stopped with some history, or before there was one
abbrev pub HasStoppedSo : Script → Halt → Type 0
HasStoppedSo s halt = (h : List NodeEntry) × IsHistoryOfDecls s h × HasBegun JobAfterJob s h × IsHalt JobAfterJob all_sound s h halt

-- the whole script was run, or its run stopped
abbrev pub HasEnded : Script → Result Run Halt → Type 0
HasEnded s (Ok run) = (h : List NodeEntry) × HasCome JobAfterJob s [] h run.engine run.unmet
HasEnded s (Err halt) = HasStoppedSo s halt
