-- What comes of a generated script, which is told by its summary.
use Rattle.std.specs.Prelude.{◌≡◌, ℕ, List, Option, None, Result, Ok, Err, take, codes}
use Rattle.std.specs.Io.KnownBytes.{Appends}
use Rattle.pr_gen.specs.Summary.{summary_text}
use Rattle.pr_script.specs.declared.script.Script.{Script}
use Rattle.pr_story.specs.History.{NodeEntry}
use Rattle.pr_story.specs.Scripts.{JobAfterJob}
use Rattle.pr_text.specs.Endings.{error_line}
use Rattle.pr_text.specs.Histories.{HasBegun, IsRunOf}
use Rattle.pr_text.specs.Numbers.{counts_of}
use Rattle.pr_text.specs.Transcripts.{plan_of}
use Rattle.pr_top.specs.Headline.{Headline}
use Rattle.pr_top.specs.Progress.{IsHistoryOfDecls}
use Rattle.pr_top.specs.Runs.{all_sound, IsEnd, IsLine}
use Rattle.pr_top.specs.Silent.{HasStoppedSo}
use Rattle.pr_top.specs.declared.status.Status.{Status}
use Rattle.pr_top.specs.declared.status.Status.TheVariants as status
use Rattle.pr_top.specs.declared.stepping.Halt.{Halt}

-- ---- what is written

-- the summary, or a beginning of it where the sink failed; or the fault's line alone
abbrev pub IsSummed : Status → Type 0 → Script → List NodeEntry → List ℕ → Type 0
IsSummed status.Ok failed s h text = text ≡ summary_text s.decls.list h
IsSummed (status.Worn at) failed s h text = IsLine failed (error_line (codes "worn")) text
IsSummed status.NoMemory failed s h text = IsLine failed (error_line (codes "no memory")) text
IsSummed status.WriteFault failed s h text = failed × ((n : ℕ) × (text ≡ take n (summary_text s.decls.list h)))
IsSummed _ failed s h text = ⊥

-- the script was run: its history is as promised, and is told by its summary
pub record HasGenerated (result : Status) (s : Script) (failed : Type 0) (before now : Option (List ℕ)) : Type 0 where
  pub h : List NodeEntry
  pub headline : Headline (plan_of s.decls.list) (counts_of s.decls.list) h
  pub ends : IsEnd JobAfterJob all_sound result s h
  pub text : List ℕ
  pub written : IsSummed result failed s h text
  pub told : Appends before now text

-- ---- within

-- the summary of the whole run, or its history where it stopped
abbrev pub HasSummed : Script → Result (List ℕ) Halt → Type 0
HasSummed s (Ok text) = (h : List NodeEntry) × IsHistoryOfDecls s h × IsRunOf JobAfterJob s h None × HasBegun JobAfterJob s h × (text ≡ summary_text s.decls.list h)
HasSummed s (Err halt) = HasStoppedSo s halt
