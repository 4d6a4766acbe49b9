-- What is written of a run whose disk stopped.
use Rattle.std.proofs.Common.{◌≡◌, ◌⊎◌, ℕ, ◌+◌, ◌≤◌, List, [], ◌++◌, Option, Some, None, Result, Ok, Err, inl, inr, refl, sym, ◌∙◌, ap, subst, append_assoc, codes, drop, length, reverse, take, arith}
use Rattle.std.specs.Prelude.{IfOk}
use Rattle.std.specs.Io.KnownBytes.{Appends}
use Rattle.std.proofs.lemmas.List.{drop-append-le, length-append, length-reverse, reverse-append, reverse-reverse, take-append-drop, take-append-le, take_all}
use Rattle.std.proofs.Math.Seq.{take-append-add}
use Rattle.pr_keep.specs.Memory.{Memory}
use Rattle.pr_keep.specs.declared.keep.Keep.{Keep}
use Rattle.pr_script.specs.declared.decl.Decl.{Decl}
use Rattle.pr_script.specs.declared.script.Script.{Script}
use Rattle.pr_story.specs.History.{NodeEntry}
use Rattle.pr_text.specs.Endings.{error_line, ok_line, unmet_line}
use Rattle.pr_text.specs.Heads.{heads_text}
use Rattle.pr_text.specs.Histories.{transcript_text}
use Rattle.pr_text.specs.Numbers.{counts_of, nodes_of}
use Rattle.pr_text.specs.Transcripts.{lines_text, plan_of}
use Rattle.pr_top.specs.Outlived.{HasOutlived, IsHeld}
use Rattle.pr_top.specs.Progress.{IsExpected, Writes, entry_lines}
use Rattle.pr_top.specs.Resuming.{HasStates, TellsHeld, TellsStates, lines_behind}
use Rattle.pr_top.specs.Runs.{WritesLine, told_text}
use Rattle.pr_top.specs.Unended.{TellsEnd, TellsHalt}
use Rattle.pr_top.specs.declared.running.Expected.{Expected}
use Rattle.pr_top.specs.declared.status.Status.{Status}
use Rattle.pr_top.specs.declared.status.Status.TheVariants as status
use Rattle.pr_top.specs.declared.stepping.Halt.{Halt}
use Rattle.pr_top.specs.declared.stepping.Halt.TheVariants as halts
use Rattle.pr_top.proofs.Promised.{headline}
use Rattle.pr_top.proofs.Runs.{line_then, told_is}
use Rattle.pr_top.proofs.Written.{appends_none, appends_then, lines_append, writes_as, writes_then}

-- a whole text as a beginning
whole_front : (a b : Option (List ℕ)) (text : List ℕ) → Appends a b text → (n : ℕ) × Appends a b (take n text)
whole_front a b text p = (length text, subst (λ (t : List ℕ). Appends a b t) (sym (take_all (length text) text (omega arith))) p)

-- ---- the lines behind those that were written

module _ (ds : List Decl) (h : List NodeEntry) (told : ℕ) (within : told ≤ length h) where
  all_entries : (states : List NodeEntry) → reverse (reverse states ++ h) ≡ reverse h ++ states
  all_entries states = reverse-append (reverse states) h ∙ ap (λ (es : List NodeEntry). reverse h ++ es) (reverse-reverse states)

  fits : told ≤ length (reverse h)
  fits = let l : length (reverse h) ≡ length h = length-reverse h in omega (arith, l, within)

  behind : (states : List NodeEntry) → entry_lines ds (drop told (reverse h)) ++ entry_lines ds states ≡ lines_behind ds told (reverse states ++ h)
  behind states =
      sym (lines_append ds (drop told (reverse h)) states)
      ∙ ap (λ (es : List NodeEntry). entry_lines ds es) (sym (drop-append-le told (reverse h) states fits))
      ∙ ap (λ (es : List NodeEntry). entry_lines ds (drop told es)) (sym (all_entries states))

  whole : (states : List NodeEntry) → entry_lines ds (take told (reverse h)) ++ lines_behind ds told (reverse states ++ h) ≡ entry_lines ds (reverse (reverse states ++ h))
  whole states =
      ap (λ (es : List NodeEntry). entry_lines ds es ++ lines_behind ds told (reverse states ++ h)) (sym (take-append-le told (reverse h) states fits) ∙ ap (λ (es : List NodeEntry). take told es) (sym (all_entries states)))
      ∙ sym (lines_append ds (take told (reverse (reverse states ++ h))) (drop told (reverse (reverse states ++ h))))
      ∙ ap (λ (es : List NodeEntry). entry_lines ds es) (take-append-drop told (reverse (reverse states ++ h)))

  -- ---- how far they were written

  module _ (unmet : Option ℕ) (failed : Type 0) where
    pub nothing_behind : (b : Option (List ℕ)) → HasStates ds h [] → TellsHeld ds h told unmet failed b b (Err halts.NoMemory)
    nothing_behind b has = ([], has, (0, appends_none b))

    pub entries_cut : (X : Type 0) (b c : Option (List ℕ)) (halt : Halt) → HasStates ds h [] → Writes {X = X} (entry_lines ds (drop told (reverse h))) failed b c (Err halt) → TellsHeld ds h told unmet failed b c (Err halt)
    entries_cut X b c halts.NoMemory has cut = ([], has, cut)
    entries_cut X b c halts.WriteFault has (bad, (n, cut)) = (bad, ([], has, (n, inl cut)))
    entries_cut X b c _ has cut = absurd cut

    pub entries_only : (b c : Option (List ℕ)) → HasStates ds h [] → Appends b c (entry_lines ds (drop told (reverse h))) → TellsHeld ds h told unmet failed b c (Err halts.NoMemory)
    entries_only b c has p = ([], has, whole_front b c (entry_lines ds (drop told (reverse h))) p)

    pub states_cut : (keep : Keep Memory) (b c d : Option (List ℕ)) (halt : Halt) → Appends b c (entry_lines ds (drop told (reverse h))) → TellsStates ds h keep failed c d (Err halt) → TellsHeld ds h told unmet failed b d (Err halt)
    states_cut keep b c d halt p (states, has, cut) =
        by halt (subst (λ (t : List ℕ). Writes {X = Unit {0}} t failed b d (Err halt)) (behind states) (writes_then (Unit {0}) failed b c d (entry_lines ds (drop told (reverse h))) (entry_lines ds states) (Err halt) p cut))
      where
        by : (x : Halt) → Writes {X = Unit {0}} (lines_behind ds told (reverse states ++ h)) failed b d (Err x) → TellsHeld ds h told unmet failed b d (Err x)
        by halts.NoMemory w = (states, has, w)
        by halts.WriteFault (bad, (n, w)) = (bad, (states, has, (n, inl w)))
        by _ w = absurd w

    module _ (states : List NodeEntry) (has : HasStates ds h states) (all : length states ≡ nodes_of ds) (lines : ℕ) (is : lines ≡ length ds + length (reverse states ++ h))
        (b c d : Option (List ℕ)) (first : Appends b c (entry_lines ds (drop told (reverse h)))) (then : Appends c d (entry_lines ds states)) where
      so_far : Appends b d (lines_behind ds told (reverse states ++ h))
      so_far = subst (λ (t : List ℕ). Appends b d t) (behind states) (appends_then b c d (entry_lines ds (drop told (reverse h))) (entry_lines ds states) first then)

      pub ended_cut : (X : Type 0) (e : Option (List ℕ)) (halt : Halt) → Writes {X = X} (ok_line lines) failed d e (Err halt) → (halt ≡ halts.NoMemory → e ≡ d) → TellsHeld ds h told unmet failed b e (Err halt)
      ended_cut X e halts.NoMemory cut same = (states, has, whole_front b e (lines_behind ds told (reverse states ++ h)) (subst (λ (o : Option (List ℕ)). Appends b o (lines_behind ds told (reverse states ++ h))) (sym (same refl)) so_far))
      ended_cut X e halts.WriteFault (bad, (n, cut)) same =
          let g : List ℕ = lines_behind ds told (reverse states ++ h) in
          let last : Appends d e (take n (ok_line (length ds + length (reverse states ++ h)))) = subst (λ (k : ℕ). Appends d e (take n (ok_line k))) is cut in (
            bad,
            (
              states,
              has,
              (
                length g + n,
                inr (
                  all,
                  subst (λ (t : List ℕ). Appends b e t) (sym (take-append-add g (ok_line (length ds + length (reverse states ++ h))) n))
                      (appends_then b d e g (take n (ok_line (length ds + length (reverse states ++ h)))) so_far last),
                ),
              ),
            ),
          )
      ended_cut X e _ cut same = absurd cut

      pub ended : (e : Option (List ℕ)) (x : Option Expected) → Appends d e (ok_line lines) → IsExpected unmet x → TellsHeld ds h told unmet failed b e (Ok x)
      ended e x last expected = (
        expected,
        (
          states,
          has,
          all,
          appends_then b d e (lines_behind ds told (reverse states ++ h)) (ok_line (length ds + length (reverse states ++ h))) so_far
              (subst (λ (k : ℕ). Appends d e (ok_line k)) is last),
        ),
      )

      pub ended_so : (e : Option (List ℕ)) (r : Result (Option Expected) Halt) → Writes (ok_line lines) failed d e r → IfOk r (IsExpected unmet) → (r ≡ Err halts.NoMemory → e ≡ d) → TellsHeld ds h told unmet failed b e r
      ended_so e (Ok x) written expected kept = ended e x written expected
      ended_so e (Err halt) written expected kept = ended_cut (Option Expected) e halt written (λ short. kept (ap (λ (x : Halt). let r : Result (Option Expected) Halt = Err x in r) short))

-- how many lines these are
pub lines_counted : (ds : List Decl) (h states : List NodeEntry) (heads held nodes : ℕ) → heads ≡ length ds → held ≡ length h → nodes ≡ nodes_of ds → length states ≡ nodes_of ds → heads + held + nodes ≡ length ds + length (reverse states ++ h)
lines_counted ds h states heads held nodes a b c all =
    let l : length (reverse states ++ h) ≡ length (reverse states) + length h = length-append (reverse states) h in
    let r : length (reverse states) ≡ length states = length-reverse states in
    omega (arith, l, r, a, b, c, all)

-- a fault of the sink within the call is one of the call
pub states_as : (ds : List Decl) (h : List NodeEntry) (keep : Keep Memory) (failed now : Type 0) (a b : Option (List ℕ)) (halt : Halt) → (failed → now) → TellsStates ds h keep failed a b (Err halt) → TellsStates ds h keep now a b (Err halt)
states_as ds h keep failed now a b halt f (states, has, cut) = (states, has, writes_as (Unit {0}) failed now a b (entry_lines ds states) halt f cut)

-- ---- the whole text

module _ (stop : ℕ) (s : Script) (kept : List NodeEntry) (unmet : Option ℕ) (held : IsHeld stop s kept unmet) (told : ℕ) (within : told ≤ length kept)
    (a b : Option (List ℕ)) (before : Appends a b (heads_text s.decls.list ++ entry_lines s.decls.list (take told (reverse kept)))) where
  module _ (states : List NodeEntry) where
    abbrev g : List NodeEntry
    g = reverse states ++ kept

    abbrev heads : List ℕ
    heads = heads_text s.decls.list ++ entry_lines s.decls.list (take told (reverse kept))

    abbrev lines : List ℕ
    lines = lines_behind s.decls.list told g

    abbrev last : List ℕ
    last = ok_line (length s.decls.list + length g)

    told_all : heads ++ lines_behind s.decls.list told g ≡ told_text s g
    told_all =
        append_assoc (heads_text s.decls.list) (entry_lines s.decls.list (take told (reverse kept))) (lines_behind s.decls.list told g)
        ∙ ap (λ (t : List ℕ). heads_text s.decls.list ++ t) (whole s.decls.list kept told within states) ∙ told_is s g

    transcript_all : heads ++ (lines_behind s.decls.list told g ++ ok_line (length s.decls.list + length g)) ≡ transcript_text s.decls.list g
    transcript_all =
        sym (append_assoc heads (lines_behind s.decls.list told g) (ok_line (length s.decls.list + length g)))
        ∙ ap (λ (t : List ℕ). t ++ ok_line (length s.decls.list + length g)) told_all
        ∙ append_assoc (heads_text s.decls.list) (lines_text s.decls.list g) (ok_line (length s.decls.list + length g))

  pub outlived_ok : (failed now : Type 0) (c : Option (List ℕ)) → TellsHeld s.decls.list kept told unmet failed b c (Ok None) → HasOutlived stop status.Ok s now a c
  outlived_ok failed now c (expected, (states, has, all, tells)) = record {
    kept = kept;
    unmet = unmet;
    held = held;
    states = states;
    are_states = has.are;
    headline = headline (plan_of s.decls.list) (counts_of s.decls.list) (reverse states ++ kept) has.is;
    text = transcript_text s.decls.list (reverse states ++ kept);
    written = (all, none unmet expected, refl);
    told = subst (λ (t : List ℕ). Appends a c t) (transcript_all states) (appends_then a b c (heads states) (lines_behind s.decls.list told (g states) ++ ok_line (length s.decls.list + length (g states))) before tells);
  }
    where
      none : (o : Option ℕ) → IsExpected o None → o ≡ None
      none None is = refl
      none (Some line) is = absurd is

  pub outlived_unmet : (failed later now : Type 0) (x : Expected) (c d : Option (List ℕ)) → (later → now) → TellsHeld s.decls.list kept told unmet failed b c (Ok (Some x)) → WritesLine later x.text c d → HasOutlived stop (status.Unmet x.line) s now a d
  outlived_unmet failed later now x c d f (expected, (states, has, all, tells)) line =
      let is = some unmet expected in
      let text : List ℕ = transcript_text s.decls.list (reverse states ++ kept) in
      let whole_text : Appends a c text = subst (λ (t : List ℕ). Appends a c t) (transcript_all states) (appends_then a b c (heads states) (lines_behind s.decls.list told (g states) ++ ok_line (length s.decls.list + length (g states))) before tells) in
      let last = line_then later now a c d text (unmet_line x.line) f whole_text (subst (λ (t : List ℕ). WritesLine later t c d) is.1 line) in
      record {
        kept = kept;
        unmet = unmet;
        held = held;
        states = states;
        are_states = has.are;
        headline = headline (plan_of s.decls.list) (counts_of s.decls.list) (reverse states ++ kept) has.is;
        text = text ++ last.0;
        written = (all, is.0, (last.0, last.1, refl));
        told = last.2;
      }
    where
      some : (o : Option ℕ) → IsExpected o (Some x) → (o ≡ Some x.line) × (x.text ≡ unmet_line x.line)
      some None is = absurd is
      some (Some line) is = (ap (λ (n : ℕ). Some n) (sym is.0), is.1 ∙ ap (λ (n : ℕ). unmet_line n) (sym is.0))

  pub outlived_fault : (failed now : Type 0) (c : Option (List ℕ)) → (failed → now) → TellsHeld s.decls.list kept told unmet failed b c (Err halts.WriteFault) → HasOutlived stop status.WriteFault s now a c
  outlived_fault failed now c f (bad, (states, has, (n, cut))) =
      let text = by cut in
      record {
        kept = kept;
        unmet = unmet;
        held = held;
        states = states;
        are_states = has.are;
        headline = headline (plan_of s.decls.list) (counts_of s.decls.list) (reverse states ++ kept) has.is;
        text = text.0;
        written = (f bad, text.1);
        told = text.2;
      }
    where
      by : Appends b c (take n (lines states)) ⊎ ((length states ≡ nodes_of s.decls.list) × Appends b c (take n (lines states ++ last states)))
          → (text : List ℕ) × ((m : ℕ) × ((text ≡ take m (told_text s (g states))) ⊎ ((length states ≡ nodes_of s.decls.list) × (text ≡ take m (transcript_text s.decls.list (g states)))))) × Appends a c text
      by (inl p) =
          let m = length (heads states) + n in
          (heads states ++ take n (lines states), (m, inl (sym (take-append-add (heads states) (lines states) n) ∙ ap (λ (t : List ℕ). take m t) (told_all states))), appends_then a b c (heads states) (take n (lines states)) before p)
      by (inr (all, p)) =
          let m = length (heads states) + n in
          (heads states ++ take n (lines states ++ last states), (m, inr (all, sym (take-append-add (heads states) (lines states ++ last states) n) ∙ ap (λ (t : List ℕ). take m t) (transcript_all states))), appends_then a b c (heads states) (take n (lines states ++ last states)) before p)

  pub outlived_short : (failed later now : Type 0) (c d : Option (List ℕ)) → (later → now) → TellsHeld s.decls.list kept told unmet failed b c (Err halts.NoMemory) → WritesLine later (error_line (codes "no memory")) c d → HasOutlived stop status.NoMemory s now a d
  outlived_short failed later now c d f (states, has, (n, cut)) line =
      let m = length (heads states) + n in
      let is : heads states ++ take n (lines_behind s.decls.list told (g states)) ≡ take m (told_text s (g states)) =
      sym (take-append-add (heads states) (lines_behind s.decls.list told (g states)) n) ∙ ap (λ (t : List ℕ). take m t) (told_all states) in
      let so_far : Appends a c (take m (told_text s (g states))) = subst (λ (t : List ℕ). Appends a c t) is (appends_then a b c (heads states) (take n (lines_behind s.decls.list told (g states))) before cut) in
      let last = line_then later now a c d (take m (told_text s (g states))) (error_line (codes "no memory")) f so_far line in
      record {
        kept = kept;
        unmet = unmet;
        held = held;
        states = states;
        are_states = has.are;
        headline = headline (plan_of s.decls.list) (counts_of s.decls.list) (reverse states ++ kept) has.is;
        text = take m (told_text s (g states)) ++ last.0;
        written = (last.0, last.1, (m, refl));
        told = last.2;
      }

  -- with what was not met, or with nothing more
  pub outlived_ended : (failed later now : Type 0) (x : Option Expected) (result : Status) (c d : Option (List ℕ)) → (later → now) → TellsHeld s.decls.list kept told unmet failed b c (Ok x) → TellsEnd x result later c d → HasOutlived stop result s now a d
  outlived_ended failed later now None result c d f tells (ended, same) =
      subst (λ (r : Status). HasOutlived stop r s now a d) (sym ended) (subst (λ (o : Option (List ℕ)). HasOutlived stop status.Ok s now a o) (sym same) (outlived_ok failed now c tells))
  outlived_ended failed later now (Some x) result c d f tells (ended, line) = subst (λ (r : Status). HasOutlived stop r s now a d) (sym ended) (outlived_unmet failed later now x c d f tells line)

  -- or with the line of its halt
  pub outlived_halted : (failed later now : Type 0) (halt : Halt) (result : Status) (c d : Option (List ℕ)) → (failed → now) → (later → now) → TellsHeld s.decls.list kept told unmet failed b c (Err halt) → TellsHalt s.decls.list halt result later c d → HasOutlived stop result s now a d
  outlived_halted failed later now halts.NoMemory result c d f k tells (ended, line) = subst (λ (r : Status). HasOutlived stop r s now a d) (sym ended) (outlived_short failed later now c d k tells line)
  outlived_halted failed later now halts.WriteFault result c d f k tells (ended, same) =
      subst (λ (r : Status). HasOutlived stop r s now a d) (sym ended) (subst (λ (o : Option (List ℕ)). HasOutlived stop status.WriteFault s now a o) (sym same) (outlived_fault failed now c f tells))
  outlived_halted failed later now _ result c d f k tells told = absurd tells
