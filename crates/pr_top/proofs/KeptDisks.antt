-- What a run of appends leaves of a disk.
use Rattle.std.proofs.Common.{◌≡◌, ◌<◌, ◌+◌, inl, inr, ℕ, zero, suc, List, [], ◌∷◌, ◌++◌, Result, Ok, Err, refl, sym, ◌∙◌, ap, subst, arith, get_or, length, take}
use Rattle.std.specs.Prelude.{OnErr, OnOk}
use Rattle.std.proofs.lemmas.List.{take_more}
use Rattle.pr_story.specs.declared.entry.Entry.{Entry}
use Rattle.pr_keep.specs.declared.fault.KeepFault.{KeepFault}
use Rattle.pr_keep.specs.declared.keep.Keep.{Keep}
use Rattle.pr_keep.specs.Calls.{HasCause, HasCountedBelow}
use Rattle.pr_keep.specs.Disk.{LeavesOnly, State, counted}
use Rattle.pr_keep.specs.Files.{StandsFor, StandsForEither}
use Rattle.pr_keep.specs.Keeping.{Keeps, disk_of}
use Rattle.pr_keep.proofs.AppendLemmas.{counted_more}
use Rattle.pr_keep.proofs.Causes.{answered, no_call, then_answers, then_fails}
use Rattle.pr_keep.proofs.Moments.{joined, weaker}
use Rattle.pr_top.specs.Kept.{KeepsOn, KeepsShort, StandsForFront}

-- a front of a front is a front
front_of_front : {X : Type 0} (k n : ℕ) (xs : List X) → (m : ℕ) × (take k (take n xs) ≡ take m xs)
front_of_front zero n xs = (0, refl)
front_of_front (suc k) zero xs = (0, refl)
front_of_front (suc k) (suc n) [] = (0, refl)
front_of_front (suc k) (suc n) (x ∷ xs) = let m = front_of_front k n xs in (suc m.0, ap (λ ys. x ∷ ys) m.1)

module _ {D : Type 0} (state : D → State) (images : D → List ℕ → Type 0) (moment : D → ℕ) (images_since : D → ℕ → List ℕ → Type 0) where
  -- nothing was kept yet
  pub keeps_none : (keep : Keep D) (all : List (ℕ × Entry)) (from : ℕ) → ((c : List ℕ) → images_since (disk_of keep) (moment (disk_of keep)) c → images (disk_of keep) c)
      → Keeps state images keep (take from all) → KeepsOn state images moment images_since keep keep all from from
  keeps_none keep all from only kept = record {
    within = omega arith;
    keeps = kept;
    calls = 0;
    many = omega arith;
    good = refl;
    moments = record {
      later = omega arith;
      each = λ c was. (from, subst (λ (t : List ℕ). StandsFor t (take from all)) (sym (kept.settled c (only c was))) kept.stands);
      before = λ t c le was. inl was;
    };
    cause = no_call (state (disk_of keep));
  }

  -- one entry more was kept
  pub keeps_more : (old mid new : Keep D) (all : List (ℕ × Entry)) (from at : ℕ) (e : ℕ × Entry) (r : Result (Unit {0}) KeepFault) → at < length all → e ≡ get_or all at e
      → KeepsOn state images moment images_since old mid all from at → r ≡ Ok tt → OnOk r (Keeps state images new (take at all ++ e ∷ []))
      → OnOk r ((state (disk_of new)).good ≡ counted (state (disk_of mid)).good 4) → LeavesOnly moment images_since (disk_of mid) (disk_of new) (StandsForEither (take at all) e)
      → HasCause (state (disk_of mid)) (state (disk_of new)) r → KeepsOn state images moment images_since old new all from (at + 1)
  keeps_more old mid new all from at e r lt is a done keeps counts moments cause =
      let kept = subst (λ (x : Result (Unit {0}) KeepFault). OnOk x (Keeps state images new (take at all ++ e ∷ []))) done keeps in
      let good = subst (λ (x : Result (Unit {0}) KeepFault). OnOk x ((state (disk_of new)).good ≡ counted (state (disk_of mid)).good 4)) done counts in
      let next : take at all ++ e ∷ [] ≡ take (at + 1) all = sym (take_more all at e lt ∙ ap (λ (x : ℕ × Entry). take at all ++ x ∷ []) (sym is)) in
      record {
        within = omega (arith, a.within);
        keeps = subst (λ (es : List (ℕ × Entry)). Keeps state images new es) next kept;
        calls = a.calls + 4;
        many = omega (arith, a.many);
        good = good ∙ ap (λ (n : ℕ). counted n 4) a.good ∙ counted_more (state (disk_of old)).good a.calls 4;
        moments = joined moment images_since (disk_of old) (disk_of mid) (disk_of new) (StandsForFront all) a.moments
            (weaker moment images_since (disk_of mid) (disk_of new) (StandsForEither (take at all) e) (StandsForFront all) (either next) moments);
        cause = then_answers (state (disk_of old)) (state (disk_of mid)) (state (disk_of new)) a.cause
            (answered (subst (λ (x : Result (Unit {0}) KeepFault). HasCause (state (disk_of mid)) (state (disk_of new)) x) done cause));
      }
    where
      either : take at all ++ e ∷ [] ≡ take (at + 1) all → (c : List ℕ) → StandsForEither (take at all) e c → StandsForFront all c
      either next c (inl was) = (at, was)
      either next c (inr now) = (at + 1, subst (λ (es : List (ℕ × Entry)). StandsFor c es) next now)

  -- the next entry was not kept
  pub keeps_cut : (old mid new : Keep D) (all : List (ℕ × Entry)) (from at : ℕ) (e : ℕ × Entry) (r : Result (Unit {0}) KeepFault) (fault : KeepFault) → at < length all → e ≡ get_or all at e
      → KeepsOn state images moment images_since old mid all from at → r ≡ Err fault
      → OnErr r (StandsFor (state (disk_of new)).synced (take at all) × HasCountedBelow 4 (state (disk_of mid)).good (state (disk_of new)).good) → LeavesOnly moment images_since (disk_of mid) (disk_of new) (StandsForEither (take at all) e)
      → HasCause (state (disk_of mid)) (state (disk_of new)) r → KeepsShort state images moment images_since old new all from at fault
  keeps_cut old mid new all from at e r fault lt is a done err moments cause =
      let both = subst (λ (x : Result (Unit {0}) KeepFault). OnErr x (StandsFor (state (disk_of new)).synced (take at all) × HasCountedBelow 4 (state (disk_of mid)).good (state (disk_of new)).good)) done err in
      let count = both.1 in
      let next : take at all ++ e ∷ [] ≡ take (at + 1) all = sym (take_more all at e lt ∙ ap (λ (x : ℕ × Entry). take at all ++ x ∷ []) (sym is)) in
      record {
        within = a.within;
        short = lt;
        synced = both.0;
        calls = a.calls + count.count;
        more = count.count;
        few = count.below;
        many = omega (arith, a.many);
        good = count.good ∙ ap (λ (n : ℕ). counted n count.count) a.good ∙ counted_more (state (disk_of old)).good a.calls count.count;
        moments = joined moment images_since (disk_of old) (disk_of mid) (disk_of new) (StandsForFront all) a.moments
            (weaker moment images_since (disk_of mid) (disk_of new) (StandsForEither (take at all) e) (StandsForFront all) (either next) moments);
        cause = then_fails (state (disk_of old)) (state (disk_of mid)) (state (disk_of new)) fault a.cause
            (subst (λ (x : Result (Unit {0}) KeepFault). HasCause (state (disk_of mid)) (state (disk_of new)) x) done cause);
      }
    where
      either : take at all ++ e ∷ [] ≡ take (at + 1) all → (c : List ℕ) → StandsForEither (take at all) e c → StandsForFront all c
      either next c (inl was) = (at, was)
      either next c (inr now) = (at + 1, subst (λ (es : List (ℕ × Entry)). StandsFor c es) next now)

  -- ---- a run behind a run

  front_stands : (front all : List (ℕ × Entry)) (n : ℕ) → front ≡ take n all → (c : List ℕ) → StandsForFront front c → StandsForFront all c
  front_stands front all n is c (k, stands) =
      let m = front_of_front k n all in
      (m.0, subst (λ (es : List (ℕ × Entry)). StandsFor c es) (ap (λ (es : List (ℕ × Entry)). take k es) is ∙ m.1) stands)

  pub keeps_then : (old mid new : Keep D) (front all : List (ℕ × Entry)) (n m : ℕ) → front ≡ take n all → KeepsOn state images moment images_since old mid front 0 n
      → KeepsOn state images moment images_since mid new all n m → KeepsOn state images moment images_since old new all 0 m
  keeps_then old mid new front all n m is a b = record {
    within = omega arith;
    keeps = b.keeps;
    calls = a.calls + b.calls;
    many = omega (arith, a.many, b.many);
    good = b.good ∙ ap (λ (k : ℕ). counted k b.calls) a.good ∙ counted_more (state (disk_of old)).good a.calls b.calls;
    moments = joined moment images_since (disk_of old) (disk_of mid) (disk_of new) (StandsForFront all)
        (weaker moment images_since (disk_of old) (disk_of mid) (StandsForFront front) (StandsForFront all) (front_stands front all n is) a.moments) b.moments;
    cause = then_answers (state (disk_of old)) (state (disk_of mid)) (state (disk_of new)) a.cause b.cause;
  }

  pub keeps_then_short : (old mid new : Keep D) (front all : List (ℕ × Entry)) (n m : ℕ) (fault : KeepFault) → front ≡ take n all → KeepsOn state images moment images_since old mid front 0 n
      → KeepsShort state images moment images_since mid new all n m fault → KeepsShort state images moment images_since old new all 0 m fault
  keeps_then_short old mid new front all n m fault is a b = record {
    within = omega arith;
    short = b.short;
    synced = b.synced;
    calls = a.calls + b.calls;
    more = b.more;
    few = b.few;
    many = omega (arith, a.many, b.many);
    good = b.good ∙ ap (λ (k : ℕ). counted k b.calls) a.good ∙ counted_more (state (disk_of old)).good a.calls b.calls;
    moments = joined moment images_since (disk_of old) (disk_of mid) (disk_of new) (StandsForFront all)
        (weaker moment images_since (disk_of old) (disk_of mid) (StandsForFront front) (StandsForFront all) (front_stands front all n is) a.moments) b.moments;
    cause = then_fails (state (disk_of old)) (state (disk_of mid)) (state (disk_of new)) fault a.cause b.cause;
  }
