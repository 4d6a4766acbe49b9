-- What a `Keep` is after each of the two writes of an entry, and what a stop in them leaves.
use Rattle.std.proofs.Common.{◌≡◌, inl, ℕ, zero, suc, ◌+◌, ◌<◌, List, [], ◌∷◌, ◌++◌, length, refl, sym, ap, subst, ◌∙◌, zero-add, arith}
use Rattle.pr_story.specs.declared.entry.Entry.{Entry}
use Rattle.pr_keep.specs.declared.keep.Keep.{Keep}
use Rattle.pr_keep.specs.Calls.{HasCountedBelow, IsSettled, IsTornFrom}
use Rattle.pr_keep.specs.Disk.{IsTorn, LeavesOnly, Only, State, counted, written}
use Rattle.pr_keep.specs.Entries.{IsKeepable}
use Rattle.pr_keep.specs.Files.{StandsFor, StandsForEither, front}
use Rattle.pr_keep.specs.Keeping.{Keeps}
use Rattle.pr_keep.specs.Spelling.{counted_text, entry_text}
use Rattle.pr_keep.proofs.KeepLemmas.{IsStaged, next_gate, opened, staged, torn_behind, torn_gate}
use Rattle.pr_keep.proofs.Moments.{joined, weaker}

-- ---- counts

pub counted_more : (count a b : ℕ) → counted (counted count a) b ≡ counted count (a + b)
counted_more count zero b = ap (counted count) (sym (zero-add b))
counted_more count (suc a) zero = ap (counted count) (let e : suc a ≡ suc a + 0 = omega arith in e)
counted_more count (suc a) (suc b) = let e : suc a + suc b ≡ suc (a + suc b) = omega arith in rw e (omega arith)

pub none_counted : (calls count : ℕ) → 0 < calls → HasCountedBelow calls count count
none_counted calls count some = record { count = 0; below = some; good = refl }

pub two_more : (count mid now : ℕ) → mid ≡ counted count 2 → HasCountedBelow 2 mid now → HasCountedBelow 4 count now
two_more count mid now is more = record {
  count = 2 + more.count;
  below = omega (arith, more.below);
  good = more.good ∙ ap (λ (k : ℕ). counted k more.count) is ∙ counted_more count 2 more.count;
}

pub fewer : (count now : ℕ) → HasCountedBelow 2 count now → HasCountedBelow 4 count now
fewer count now h = record { count = h.count; below = omega (arith, h.below); good = h.good }

-- ---- disks

module _ {D : Type 0} (state : D → State) (images : D → List ℕ → Type 0) (keep : Keep D) (es : List (ℕ × Entry)) (kept : Keeps state images keep es) where
  pub synced_stands : StandsFor (state keep.disk).synced es
  synced_stands = subst (λ (t : List ℕ). StandsFor t es) (sym kept.synced) kept.stands

  pub torn_first : (e : ℕ × Entry) (count : ℕ) (c : List ℕ) → IsTornFrom (images keep.disk) (keep.gate + 1) count c → StandsForEither es e c
  torn_first e count c torn =
      let from : IsTorn (keep.gate + 1) count (state keep.disk).reads c = subst (λ (d : List ℕ). IsTorn (keep.gate + 1) count d c) (kept.settled torn.0 torn.1) torn.2 in
      inl (torn_behind (state keep.disk).reads c es count kept.stands (subst (λ (n : ℕ). IsTorn (n + 1) count (state keep.disk).reads c) kept.gate from))

  pub staged_disk : (mid : D) (e : ℕ × Entry) (bytes : List ℕ) → IsKeepable e → bytes ≡ counted_text (entry_text e) ++ 0 ∷ [] → IsSettled state images keep.disk mid (keep.gate + 1) bytes → IsStaged es e (state mid).reads
  staged_disk mid e bytes keepable is settled =
      let text = counted_text (entry_text e) ++ 0 ∷ [] in
      let reads : (state mid).reads ≡ written (length (front es) + 1) text (state keep.disk).reads =
      settled.reads ∙ ap (λ (t : List ℕ). written (keep.gate + 1) t (state keep.disk).reads) is ∙ ap (λ (n : ℕ). written (n + 1) text (state keep.disk).reads) kept.gate in
      subst (IsStaged es e) (sym reads) (staged (state keep.disk).reads es e kept.stands keepable)

  pub torn_second : (mid : D) (e : ℕ × Entry) → IsStaged es e (state mid).reads → Only (state mid).reads (images mid) → (c : List ℕ) → IsTornFrom (images mid) keep.gate 1 c → StandsForEither es e c
  torn_second mid e at_stage only c torn =
      let from : IsTorn keep.gate 1 (state mid).reads c = subst (λ (d : List ℕ). IsTorn keep.gate 1 d c) (only torn.0 torn.1) torn.2 in
      torn_gate (state mid).reads c es e at_stage (subst (λ (n : ℕ). IsTorn n 1 (state mid).reads c) kept.gate from)

  pub kept_more : (mid : D) (new : Keep D) (e : ℕ × Entry) (bytes : List ℕ) → IsStaged es e (state mid).reads → bytes ≡ counted_text (entry_text e) ++ 0 ∷ [] → new.gate ≡ keep.gate + length bytes → IsSettled state images mid new.disk keep.gate (1 ∷ []) → Keeps state images new (es ++ e ∷ [])
  kept_more mid new e bytes at_stage is gate settled = record {
    stands = subst (λ (t : List ℕ). StandsFor t (es ++ e ∷ [])) (sym (settled.reads ∙ ap (λ (n : ℕ). written n (1 ∷ []) (state mid).reads) kept.gate)) (opened (state mid).reads es e at_stage);
    gate = omega (arith, gate, kept.gate, ap length is, next_gate es e);
    settled = settled.only;
    synced = settled.synced;
  }

  module _ (moment : D → ℕ) (images_since : D → ℕ → List ℕ → Type 0) where
    pub first_moments : (mid : D) (e : ℕ × Entry) (count : ℕ) → LeavesOnly moment images_since keep.disk mid (IsTornFrom (images keep.disk) (keep.gate + 1) count) → LeavesOnly moment images_since keep.disk mid (StandsForEither es e)
    first_moments mid e count run = weaker moment images_since keep.disk mid (IsTornFrom (images keep.disk) (keep.gate + 1) count) (StandsForEither es e) (torn_first e count) run

    pub both_moments : (mid new : D) (e : ℕ × Entry) (count : ℕ) → IsStaged es e (state mid).reads → Only (state mid).reads (images mid) → LeavesOnly moment images_since keep.disk mid (IsTornFrom (images keep.disk) (keep.gate + 1) count)
        → LeavesOnly moment images_since mid new (IsTornFrom (images mid) keep.gate 1) → LeavesOnly moment images_since keep.disk new (StandsForEither es e)
    both_moments mid new e count at_stage only first second =
        joined moment images_since keep.disk mid new (StandsForEither es e) (first_moments mid e count first)
        (weaker moment images_since mid new (IsTornFrom (images mid) keep.gate 1) (StandsForEither es e) (torn_second mid e at_stage only) second)
