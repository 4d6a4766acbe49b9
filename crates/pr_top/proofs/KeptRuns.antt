-- What comes of running a script's commands where each entry is kept.
use Rattle.std.proofs.Common.{◌≡◌, ◌⊎◌, ◌≤◌, ◌<◌, ◌+◌, ◌-◌, inl, inr, ℕ, List, [], ◌++◌, Option, Result, Ok, Err, refl, sym, ◌∙◌, ap, subst, arith, drop, length, min, reverse, take}
use Rattle.std.specs.Io.KnownBytes.{Appends}
use Rattle.std.proofs.lemmas.List.{drop-drop, length-append, length-reverse, length-take, reverse-append, reverse-reverse, take_all}
use Rattle.std.proofs.Math.Seq.{take-append-add, take-append_seam}
use Rattle.pr_keep.specs.Calls.{IsNotDamaged}
use Rattle.pr_keep.specs.Disk.{State}
use Rattle.pr_keep.specs.declared.fault.KeepFault.{KeepFault}
use Rattle.pr_keep.specs.declared.fault.KeepFault.TheVariants as faults
use Rattle.pr_keep.specs.Keeping.{Keeps, disk_of}
use Rattle.pr_keep.specs.declared.keep.Keep.{Keep}
use Rattle.pr_script.specs.Steps.{Numbered}
use Rattle.pr_script.specs.declared.script.Script.{Script}
use Rattle.pr_sim.specs.declared.engine.Engine.{Engine}
use Rattle.pr_story.specs.declared.entry.Entry.{Entry}
use Rattle.pr_story.specs.History.{NodeEntry}
use Rattle.pr_text.specs.Histories.{joined}
use Rattle.pr_story.specs.Scripts.{JobAfterJob}
use Rattle.pr_flow.proofs.Downs.{none_unsound}
use Rattle.pr_top.specs.Downs.{flows_in, HasTrueDowns, TellsTrueDowns}
use Rattle.pr_top.specs.Runs.{all_sound}
use Rattle.pr_top.specs.Kept.{IsStoppedIn, KeepsOn, KeepsShort, placed}
use Rattle.pr_top.specs.KeptProgress.{HasHalted, HasKeptAll, HasKeptFrom, IsHalted, WritesHalted, break_of}
use Rattle.pr_top.specs.Progress.{HasCome, HasStopped, IsHalt, IsHistoryOver, IsMadeBy, Writes, entry_lines}
use Rattle.pr_top.specs.declared.keeping.Break.{Break}
use Rattle.pr_top.specs.declared.keeping.Break.TheVariants as breaks
use Rattle.pr_top.specs.declared.stepping.Halt.{Halt}
use Rattle.pr_top.specs.declared.stepping.Halt.TheVariants as halts
use Rattle.pr_top.proofs.Coming.{begun}
use Rattle.pr_top.proofs.KeptDisks.{keeps_none, keeps_then, keeps_then_short}
use Rattle.pr_top.proofs.KeptEntries.{placed_front, placed_long}
use Rattle.pr_top.proofs.Lines.{lines_split}
use Rattle.pr_top.proofs.Runs.{IsUnderWay, history_of, over_of, stop_here}
use Rattle.pr_top.proofs.Written.{appends_then, writes_then}

-- ---- where the disk stopped

abbrev kept_of : ℕ → List NodeEntry → List NodeEntry
kept_of upto made = reverse (take upto (reverse made))

many_kept : (upto : ℕ) (made : List NodeEntry) → upto ≤ length made → length (kept_of upto made) ≡ upto
many_kept upto made le =
    length-reverse (take upto (reverse made)) ∙ length-take upto (reverse made) ∙ ap (λ (n : ℕ). min upto n) (length-reverse made) ∙ (omega (arith, le))

-- the lines before gave the history, and of what the next made so many entries were kept
stopped_in : (s : Script) (h new : List NodeEntry) (unmet : Option ℕ) (upto : ℕ) → IsMadeBy JobAfterJob s h new unmet → length h ≤ upto → upto < length (new ++ h) → IsStoppedIn s (kept_of upto (new ++ h)) (new ++ h) unmet
stopped_in s h new unmet upto m le lt =
    let all : reverse (new ++ h) ≡ joined m.parts ++ reverse new = reverse-append new h ∙ ap (λ (es : List NodeEntry). es ++ reverse new) (sym m.whole) in
    let long : length (joined m.parts) ≡ length h = ap (λ (es : List NodeEntry). length es) m.whole ∙ length-reverse h in
    let count : length (new ++ h) ≡ length new + length h = length-append new h in
    let sum : length (joined m.parts) + (upto - length h) ≡ upto = omega (arith, long, le) in
    record {
      before = m.before;
      under_way = m.step;
      behind = m.behind;
      steps = m.steps;
      parts = m.parts;
      each = m.each;
      part = reverse new;
      begins = m.begins;
      made_is = sym (reverse-reverse (new ++ h)) ∙ ap (λ (es : List NodeEntry). reverse es) all;
      first = upto - length h;
      few = let r : length (reverse new) ≡ length new = length-reverse new in omega (arith, r, count, lt, le);
      kept_is = ap (λ (es : List NodeEntry). reverse (take upto es)) all
          ∙ ap (λ (n : ℕ). reverse (take n (joined m.parts ++ reverse new))) (sym sum)
          ∙ ap (λ (es : List NodeEntry). reverse es) (take-append-add (joined m.parts) (reverse new) (upto - length h));
      unmet_is = m.unmet_is;
    }

-- what was told is in front of what was kept
told_front : (h new : List NodeEntry) (told upto : ℕ) → told ≡ length h → told ≤ upto → take told (reverse (kept_of upto (new ++ h))) ≡ reverse h
told_front h new told upto is le =
    let long : length (reverse h) ≡ told = length-reverse h ∙ sym is in
    let sum : length (reverse h) + (upto - told) ≡ upto = omega (arith, long, le) in
    let front : take upto (reverse h ++ reverse new) ≡ reverse h ++ take (upto - told) (reverse new) =
    ap (λ (n : ℕ). take n (reverse h ++ reverse new)) (sym sum) ∙ take-append-add (reverse h) (reverse new) (upto - told) in
    ap (λ (es : List NodeEntry). take told es) (reverse-reverse (take upto (reverse (new ++ h))))
    ∙ ap (λ (es : List NodeEntry). take told (take upto es)) (reverse-append new h)
    ∙ ap (λ (es : List NodeEntry). take told es) front
    ∙ ap (λ (n : ℕ). take n (reverse h ++ take (upto - told) (reverse new))) (sym long)
    ∙ take-append_seam (reverse h) (take (upto - told) (reverse new))

-- ---- commands

module _ {D : Type 0} (state : D → State) (images : D → List ℕ → Type 0) (moment : D → ℕ) (images_since : D → ℕ → List ℕ → Type 0) where
  module _ (s : Script) (h new : List NodeEntry) (old mid now : Keep D) (before : KeepsOn state images moment images_since old mid (placed (reverse h)) 0 (length h)) where
    -- all that a step made was kept
    pub all_kept : KeepsOn state images moment images_since mid now (placed (reverse (new ++ h))) (length h) (length (new ++ h)) → KeepsOn state images moment images_since old now (placed (reverse (new ++ h))) 0 (length (new ++ h))
    all_kept more = keeps_then state images moment images_since old mid now (placed (reverse h)) (placed (reverse (new ++ h))) (length h) (length (new ++ h)) (placed_front new h) before more

    -- an entry was not kept
    pub not_kept : (failed : Type 0) (e f : Engine) (unmet line : Option ℕ) (told : ℕ) (rest : List Numbered) (a b : Option (List ℕ)) (broke : Break) → HasCome JobAfterJob s rest h e unmet → HasTrueDowns all_sound s h → IsHistoryOver all_sound s (new ++ h) → told ≡ length h
        → ((new ≡ []) ⊎ IsMadeBy JobAfterJob s h new line) → Appends a b (entry_lines s.decls.list (reverse h))
        → HasKeptFrom state images moment images_since mid now (placed (reverse (new ++ h))) told line (Err broke)
        → HasKeptAll state images moment images_since old now s failed a b f line (Err broke)
    not_kept failed e f unmet line told rest a b broke come downs is told_is made written (fault, same, whole, (upto, short)) =
        subst (λ (x : Break). HasKeptAll state images moment images_since old now s failed a b f line (Err x)) (sym same) (by fault whole short)
      where
        le : length h ≤ upto
        le = let w : told ≤ upto = short.within in omega (arith, told_is, w)

        joined_short : (x : KeepFault) → KeepsShort state images moment images_since mid now (placed (reverse (new ++ h))) told upto x → KeepsShort state images moment images_since old now (placed (reverse (new ++ h))) 0 upto x
        joined_short x k = keeps_then_short state images moment images_since old mid now (placed (reverse h)) (placed (reverse (new ++ h))) (length h) upto x (placed_front new h) before
            (subst (λ (n : ℕ). KeepsShort state images moment images_since mid now (placed (reverse (new ++ h))) n upto x) told_is k)

        within : upto < length (new ++ h)
        within = let l : length (placed (reverse (new ++ h))) ≡ length (new ++ h) = placed_long (new ++ h) in let lt : upto < length (placed (reverse (new ++ h))) = short.short in omega (arith, l, lt)

        stops : (new ≡ []) ⊎ IsMadeBy JobAfterJob s h new line → IsStoppedIn s (kept_of upto (new ++ h)) (new ++ h) line
        stops (inl none) = let l : length (new ++ h) ≡ length h = ap (λ (es : List NodeEntry). length (es ++ h)) none in absurd (omega (arith, l, within, le))
        stops (inr m) = stopped_in s h new line upto m le within

        by : (x : KeepFault) → IsNotDamaged x → KeepsShort state images moment images_since mid now (placed (reverse (new ++ h))) told upto x → HasKeptAll state images moment images_since old now s failed a b f line (Err (break_of x told line))
        by faults.Failed fine k =
            let many : length (kept_of upto (new ++ h)) ≡ upto = many_kept upto (new ++ h) (omega (arith, within)) in (
              kept_of upto (new ++ h),
              record {
                made = new ++ h;
                stopped = stops made;
                is = is;
                front = reverse-reverse (take upto (reverse (new ++ h))) ∙ ap (λ (n : ℕ). take n (reverse (new ++ h))) (sym many);
                short = subst (λ (n : ℕ). KeepsShort state images moment images_since old now (placed (reverse (new ++ h))) 0 n faults.Failed) (sym many) (joined_short faults.Failed k);
                within = omega (arith, many, told_is, le);
              },
              subst (λ (es : List NodeEntry). Appends a b (entry_lines s.decls.list es)) (sym (told_front h new told upto told_is (omega (arith, told_is, le)))) written,
            )
        by faults.NoMemory fine k =
            let lines : List ℕ = entry_lines s.decls.list (reverse h) in (
              h,
              record {
                is = (history_of JobAfterJob all_sound s h e halts.NoMemory (stop_here JobAfterJob all_sound s rest h e unmet come), downs);
                begun = begun JobAfterJob s rest h e unmet come;
                cause = tt;
                kept = inr (refl, (new, upto, le, joined_short faults.NoMemory k));
              },
              (length lines, subst (λ (t : List ℕ). Appends a b t) (sym (take_all (length lines) lines (omega arith))) written),
            )
        by (faults.Damaged at) fine k = absurd fine

    -- a line was not written
    pub not_told : (failed : Type 0) (f : Engine) (line : Option ℕ) (told : ℕ) (a b c : Option (List ℕ)) (halt : Halt) → HasStopped JobAfterJob all_sound s (new ++ h) f halts.NoMemory → TellsTrueDowns all_sound s f → told ≡ length h
        → Appends a b (entry_lines s.decls.list (reverse h)) → KeepsOn state images moment images_since mid now (placed (reverse (new ++ h))) (length h) (length (new ++ h))
        → Writes {X = ℕ} (entry_lines s.decls.list (drop told (reverse (new ++ h)))) failed b c (Err halt) → HasKeptAll state images moment images_since old now s failed a c f line (Err (breaks.Halted halt))
    not_told failed f line told a b c halt stopped downs is written more cut = (new ++ h, halted halt all, writes halt all)
      where
        all : Writes {X = ℕ} (entry_lines s.decls.list (reverse (new ++ h))) failed a c (Err halt)
        all = subst (λ (t : List ℕ). Writes {X = ℕ} t failed a c (Err halt)) (lines_split s.decls.list h new told is)
            (writes_then ℕ failed a b c (entry_lines s.decls.list (reverse h)) (entry_lines s.decls.list (drop told (reverse (new ++ h)))) (Err halt) written cut)

        cause : (x : Halt) → Writes {X = ℕ} (entry_lines s.decls.list (reverse (new ++ h))) failed a c (Err x) → IsHalted (new ++ h) x
        cause halts.NoMemory w = tt
        cause halts.WriteFault w = tt
        cause (halts.Worn at) w = absurd w
        cause (halts.Lied stream number sent got) w = absurd w

        halted : (x : Halt) → Writes {X = ℕ} (entry_lines s.decls.list (reverse (new ++ h))) failed a c (Err x) → HasHalted state images moment images_since old now s (new ++ h) x
        halted x w = record { is = over_of JobAfterJob all_sound s (new ++ h) f halts.NoMemory stopped downs; begun = stopped.begun; cause = cause x w; kept = inl (all_kept more) }

        writes : (x : Halt) → Writes {X = ℕ} (entry_lines s.decls.list (reverse (new ++ h))) failed a c (Err x) → WritesHalted failed (entry_lines s.decls.list (reverse (new ++ h))) a c x
        writes halts.NoMemory w = w
        writes halts.WriteFault w = w
        writes (halts.Worn at) w = absurd w
        writes (halts.Lied stream number sent got) w = absurd w

    -- the step itself halted, and its entries were kept and told
    pub step_halted : (failed : Type 0) (f : Engine) (line : Option ℕ) (told : ℕ) (a b c : Option (List ℕ)) (halt : Halt) → HasStopped JobAfterJob all_sound s (new ++ h) f halt → TellsTrueDowns all_sound s f → told ≡ length h
        → Appends a b (entry_lines s.decls.list (reverse h)) → KeepsOn state images moment images_since mid now (placed (reverse (new ++ h))) (length h) (length (new ++ h))
        → Appends b c (entry_lines s.decls.list (drop told (reverse (new ++ h)))) → HasKeptAll state images moment images_since old now s failed a c f line (Err (breaks.Halted halt))
    step_halted failed f line told a b c halt stopped downs is written more rest = (
      new ++ h,
      record { is = over_of JobAfterJob all_sound s (new ++ h) f halt stopped downs; begun = stopped.begun; cause = cause halt stopped.cause; kept = inl (all_kept more) },
      writes halt stopped.cause,
    )
      where
        lines : List ℕ
        lines = entry_lines s.decls.list (reverse (new ++ h))

        all : Appends a c lines
        all = subst (λ (t : List ℕ). Appends a c t) (lines_split s.decls.list h new told is) (appends_then a b c (entry_lines s.decls.list (reverse h)) (entry_lines s.decls.list (drop told (reverse (new ++ h)))) written rest)

        cause : (x : Halt) → IsHalt JobAfterJob all_sound s (new ++ h) x → IsHalted (new ++ h) x
        cause halts.NoMemory k = tt
        cause halts.WriteFault k = absurd k
        cause (halts.Worn at) k = (k.0, k.1)
        cause (halts.Lied stream number sent got) k = absurd (none_unsound all_sound (λ i. refl) 0 (flows_in s.commands) stream k.0)

        writes : (x : Halt) → IsHalt JobAfterJob all_sound s (new ++ h) x → WritesHalted failed lines a c x
        writes halts.NoMemory k = (length lines, subst (λ (t : List ℕ). Appends a c t) (sym (take_all (length lines) lines (omega arith))) all)
        writes halts.WriteFault k = absurd k
        writes (halts.Worn at) k = all
        writes (halts.Lied stream number sent got) k = absurd (none_unsound all_sound (λ i. refl) 0 (flows_in s.commands) stream k.0)

  -- all that a step made was kept and told
  pub next_kept : (s : Script) (at told n m : ℕ) (e f : Engine) (unmet now : Option ℕ) (a b c : Option (List ℕ)) (u : IsUnderWay JobAfterJob all_sound s at told e unmet a b) (new : List NodeEntry) (old mid next : Keep D)
      → HasCome JobAfterJob s (drop (n + 1) (drop at s.commands)) (new ++ u.h) f now → m ≡ length (new ++ u.h) → Appends b c (entry_lines s.decls.list (drop told (reverse (new ++ u.h))))
      → KeepsOn state images moment images_since old mid (placed (reverse u.h)) 0 (length u.h)
      → KeepsOn state images moment images_since mid next (placed (reverse (new ++ u.h))) (length u.h) (length (new ++ u.h))
      → (w : IsUnderWay JobAfterJob all_sound s (at + (n + 1)) m f now a c) × KeepsOn state images moment images_since old next (placed (reverse w.h)) 0 (length w.h)
  next_kept s at told n m e f unmet now a b c u new old mid next come is written before more = (
    record {
      h = new ++ u.h;
      come = subst (λ (rest : List Numbered). HasCome JobAfterJob s rest (new ++ u.h) f now) (drop-drop (n + 1) at s.commands ∙ ap (λ (i : ℕ). drop i s.commands) (omega arith)) come;
      all_told = is;
      written = subst (λ (t : List ℕ). Appends a c t) (lines_split s.decls.list u.h new told u.all_told) (appends_then a b c (entry_lines s.decls.list (reverse u.h)) (entry_lines s.decls.list (drop told (reverse (new ++ u.h)))) u.written written);
    },
    all_kept s u.h new old mid next before more,
  )

  -- what was kept before is in front of all
  pub kept_front : (h new : List NodeEntry) (told : ℕ) (keep : Keep D) → told ≡ length h → Keeps state images keep (take (length h) (placed (reverse h))) → Keeps state images keep (take told (placed (reverse (new ++ h))))
  kept_front h new told keep is kept =
      let long : length (placed (reverse h)) ≡ length h = placed_long h in
      subst (λ (es : List (ℕ × Entry)). Keeps state images keep es)
      (take_all (length h) (placed (reverse h)) (omega (arith, long)) ∙ placed_front new h ∙ ap (λ (n : ℕ). take n (placed (reverse (new ++ h)))) (sym is)) kept

  -- what was kept behind is up to the last entry
  pub kept_rest : (h new : List NodeEntry) (told : ℕ) (line : Option ℕ) (mid now : Keep D) (r : Result (Unit {0}) Break) → told ≡ length h → r ≡ Ok tt → HasKeptFrom state images moment images_since mid now (placed (reverse (new ++ h))) told line r
      → KeepsOn state images moment images_since mid now (placed (reverse (new ++ h))) (length h) (length (new ++ h))
  kept_rest h new told line mid now r is done kept =
      subst (λ (n : ℕ). KeepsOn state images moment images_since mid now (placed (reverse (new ++ h))) n (length (new ++ h))) is
      (subst (λ (n : ℕ). KeepsOn state images moment images_since mid now (placed (reverse (new ++ h))) told n) (placed_long (new ++ h))
      (subst (λ (x : Result (Unit {0}) Break). HasKeptFrom state images moment images_since mid now (placed (reverse (new ++ h))) told line x) done kept))

  -- nothing was kept yet
  pub kept_none : (keep : Keep D) → ((c : List ℕ) → images_since (disk_of keep) (moment (disk_of keep)) c → images (disk_of keep) c) → Keeps state images keep [] → KeepsOn state images moment images_since keep keep [] 0 0
  kept_none keep only kept = keeps_none state images moment images_since keep [] 0 only kept
