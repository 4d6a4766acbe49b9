-- How a run of calls of a disk goes on.
use Rattle.std.proofs.Common.{inl, inr, ⊎_elim, ℕ, List, refl, ◌∙◌, arith}
use Rattle.pr_keep.specs.Disk.{Elapses, Follows, IsTorn, LeavesOnly, NoneNew, State}
use Rattle.pr_keep.specs.Calls.{IsTornFrom, IsUntouched}
use Rattle.pr_keep.proofs.DiskLemmas.{torn_same}

module _ {D : Type 0} (moment : D → ℕ) (images_since : D → ℕ → List ℕ → Type 0) where
  -- one call, after which an image has P
  pub called : (old new : D) (P images : List ℕ → Type 0) → ((c : List ℕ) → images_since old (moment old) c → P c) → Elapses (moment old) (moment new) (images_since old) (images_since new) images
      → ((c : List ℕ) → images c → P c) → LeavesOnly moment images_since old new P
  called old new P images here time now = record {
    later = time.later;
    each = λ c was. ⊎_elim (here c) (now c) (time.nothing_else (moment old) c (omega arith) was);
    before = λ t c le was. ⊎_elim (λ past. inl past) (λ left. inr (now c left)) (time.nothing_else t c le was);
  }

  -- two runs, one behind the other
  pub joined : (old mid new : D) (P : List ℕ → Type 0) → LeavesOnly moment images_since old mid P → LeavesOnly moment images_since mid new P → LeavesOnly moment images_since old new P
  joined old mid new P first second = record {
    later = omega (arith, first.later, second.later);
    each = λ c was. ⊎_elim (first.each c) (λ p. p) (second.before (moment old) c first.later was);
    before = λ t c le was. ⊎_elim (first.before t c le) (λ p. inr p) (second.before t c (omega (arith, le, first.later)) was);
  }

  -- what each image has implies another fact
  pub weaker : (old new : D) (P Q : List ℕ → Type 0) → ((c : List ℕ) → P c → Q c) → LeavesOnly moment images_since old new P → LeavesOnly moment images_since old new Q
  weaker old new P Q follows run = record {
    later = run.later;
    each = λ c was. follows c (run.each c was);
    before = λ t c le was. ⊎_elim (λ past. inl past) (λ p. inr (follows c p)) (run.before t c le was);
  }

module _ {D : Type 0} (state : D → State) (images : D → List ℕ → Type 0) (moment : D → ℕ) (images_since : D → ℕ → List ℕ → Type 0) where
  pub untouched : (disk : D) → ((c : List ℕ) → images_since disk (moment disk) c → images disk c) → IsUntouched state images moment images_since disk disk
  untouched disk only = record {
    reads = refl;
    synced = refl;
    none_new = λ c now. now;
    moments = record { later = omega arith; each = only; before = λ t c le was. inl was };
  }

  pub untouched_more : (old mid new : D) → IsUntouched state images moment images_since old mid → IsUntouched state images moment images_since mid new → IsUntouched state images moment images_since old new
  untouched_more old mid new a b = record {
    reads = b.reads ∙ a.reads;
    synced = b.synced ∙ a.synced;
    none_new = λ c now. a.none_new c (b.none_new c now);
    moments = joined moment images_since old mid new (images old) a.moments (weaker moment images_since mid new (images mid) (images old) a.none_new b.moments);
  }

  -- a write, and then a sync
  pub wrote : ((disk : D) (c : List ℕ) → images_since disk (moment disk) c → images disk c) → (old new : D) (at count : ℕ) → Follows (IsTorn at count) (images old) (images new)
      → Elapses (moment old) (moment new) (images_since old) (images_since new) (images new) → LeavesOnly moment images_since old new (IsTornFrom (images old) at count)
  wrote only old new at count follows time =
      called moment images_since old new (IsTornFrom (images old) at count) (images new) (λ c was. (c, only old c was, torn_same at count c)) time follows

  pub synced_too : ((disk : D) (c : List ℕ) → images_since disk (moment disk) c → images disk c) → (old mid new : D) (at count : ℕ) → Follows (IsTorn at count) (images old) (images mid)
      → Elapses (moment old) (moment mid) (images_since old) (images_since mid) (images mid) → NoneNew (images mid) (images new)
      → Elapses (moment mid) (moment new) (images_since mid) (images_since new) (images new) → LeavesOnly moment images_since old new (IsTornFrom (images old) at count)
  synced_too only old mid new at count follows first_time none_new time =
      joined moment images_since old mid new (IsTornFrom (images old) at count) (wrote only old mid at count follows first_time)
      (called moment images_since mid new (IsTornFrom (images old) at count) (images new) (λ c was. follows c (only mid c was)) time (λ c left. follows c (none_new c left)))
