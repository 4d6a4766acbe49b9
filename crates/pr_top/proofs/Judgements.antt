-- What a text that was read to its end is judged to be.
use Rattle.std.proofs.Common.{◌≡◌, ◌+◌, ◌-◌, ◌<◌, ◌≤◌, ℕ, List, [], ◌++◌, Option, None, Some, Result, Ok, Err, sym, ◌∙◌, ap, subst, length, length-append, take, arith}
use Rattle.std.specs.Prelude.{IfSome}
use Rattle.std.specs.Io.KnownBytes.{Appends, Consumes, IsAtEnd}
use Rattle.std.proofs.lemmas.List.{append-nil, length-take-le}
use Rattle.pr_check.specs.Texts.{IsJudged, judgement_line}
use Rattle.pr_check.specs.declared.judgement.Judgement.{Judgement}
use Rattle.pr_check.specs.declared.judgement.Judgement.TheVariants as judgements
use Rattle.pr_ports.specs.Faults.{HasRisen}
use Rattle.pr_text.specs.Numbers.{counts_of}
use Rattle.pr_text.specs.Transcripts.{plan_of}
use Rattle.pr_top.specs.Answers.{AnswersCheck, Ports}
use Rattle.pr_top.specs.Checked.{HasJudged, IsFound, IsFoundAtEnd, IsJudgedSo, IsReadWhole, IsSaid, IsTooLong}
use Rattle.pr_top.specs.declared.checking.CheckError.{CheckError}
use Rattle.pr_top.specs.declared.checking.CheckError.TheVariants as errors
use Rattle.pr_top.specs.declared.status.Status.{Status}
use Rattle.pr_top.specs.declared.status.Status.TheVariants as status
use Rattle.pr_top.proofs.Held.{all_read, consumes_more}
use Rattle.pr_top.proofs.Promised.{headline}

-- of a transcript all of the headline holds
found : (bytes : List ℕ) (j : Judgement) → IsJudged bytes j → IsFound bytes j
found bytes (judgements.Yes lines) is = record {
  ds = is.ds;
  accepted = is.accepted;
  h = is.h;
  headline = headline (plan_of is.ds) (counts_of is.ds) is.h is.alone;
  whole = is.whole;
  count = is.count;
}
found bytes (judgements.No line why) is = is

-- the source ended behind these
pub judged_whole : (a b c : Option (List ℕ)) (f g n room : ℕ) (xs buf : List ℕ) (r : Result Judgement CheckError)
    → Consumes a b xs → room + length xs ≡ 67108864 → n ≡ 0 → Consumes b c (take n buf) → IsAtEnd c → IsFoundAtEnd xs r → IsJudgedSo a c f g r
judged_whole a b c f g n room xs buf r p size none q ended is = by r is
  where
    none_more : Consumes a c xs
    none_more =
        let zero : take n buf ≡ [] = ap (λ (k : ℕ). take k buf) none in
        subst (λ (ys : List ℕ). Consumes a c ys) (ap (λ (ys : List ℕ). xs ++ ys) zero ∙ append-nil xs) (consumes_more a b c xs (take n buf) p q)

    read : IsReadWhole a c xs
    read = record { all = all_read a c xs none_more ended; ended = ended; fits = λ long. omega (arith, size, long) }

    by : (t : Result Judgement CheckError) → IsFoundAtEnd xs t → IsJudgedSo a c f g t
    by (Ok j) is = record { bytes = xs; read = read; found = found xs j is }
    by (Err errors.Failed) is = absurd is
    by (Err errors.TooLarge) is = absurd is
    by (Err errors.NoMemory) is = tt

longer : (xs ys : List ℕ) → IsTooLong xs → IsTooLong (xs ++ ys)
longer xs ys long = let l = length-append xs ys in omega (arith, l, long)

-- what is read of a buffer
joined : (xs buf : List ℕ) (n : ℕ) → n ≤ length buf → length (xs ++ take n buf) ≡ length xs + n
joined xs buf n le = length-append xs (take n buf) ∙ ap (λ (k : ℕ). length xs + k) (length-take-le n buf le)

pub past_room : (xs buf : List ℕ) (room n : ℕ) → room + length xs ≡ 67108864 → room < n → n ≤ length buf → IsTooLong (xs ++ take n buf)
past_room xs buf room n is more le = let l = joined xs buf n le in omega (arith, is, more, l)

pub room_left : (xs buf : List ℕ) (room n : ℕ) → room + length xs ≡ 67108864 → n ≤ room → n ≤ length buf → (room - n) + length (xs ++ take n buf) ≡ 67108864
room_left xs buf room n is fits le = let l = joined xs buf n le in omega (arith, is, fits, l)

-- too much was read
pub long_read : (a b : Option (List ℕ)) (xs : List ℕ) → Consumes a b xs → IsTooLong xs → IfSome a IsTooLong
long_read None b xs p long = tt
long_read (Some x) None xs p long = absurd p
long_read (Some x) (Some y) xs p long = subst (λ (u : List ℕ). IsTooLong u) (sym p) (longer xs y long)

-- the judgement was written
pub answers_check : (a b : Ports) (j : Judgement) (r : Status) → HasJudged a.left b.left j → IsSaid j (HasRisen a.write_faults b.write_faults) a.text b.text r → AnswersCheck a b r
answers_check a b j status.Ok judged (lines, is, told) =
    (lines, subst (λ (x : Judgement). HasJudged a.left b.left x) is judged, subst (λ (x : Judgement). Appends a.text b.text (judgement_line x)) is told)
answers_check a b j (status.No line why) judged (is, told) =
    (subst (λ (x : Judgement). HasJudged a.left b.left x) is judged, subst (λ (x : Judgement). Appends a.text b.text (judgement_line x)) is told)
answers_check a b j status.WriteFault judged (failed, cut) = (failed, (j, judged, cut))
answers_check a b j status.NoMemory judged line = line
answers_check a b j _ judged said = absurd said
