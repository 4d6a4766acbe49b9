-- A call that ends has made its entry.
use Rattle.std.proofs.Common.{◌≡◌, ℕ, ◌<◌, ◌≤◌, ◌+◌, ◌^◌, List, [], ◌∷◌, ◌++◌, max, refl, sym, ◌∙◌, ap, subst, arith, reverse}
use Rattle.std.specs.Prelude.{Bool, false}
use Rattle.std.proofs.lemmas.List.{reverse-append}
use Rattle.pr_names.specs.Span.{Span}
use Rattle.pr_inval.specs.Standing.{Standing}
use Rattle.pr_story.specs.declared.entry.Entry.{Entry}
use Rattle.pr_story.specs.Knowledge.{IsNewestKnown, KnowsGone, IsMark}
use Rattle.pr_story.specs.Lawful.{MayCome, last_time, heard_time}
use Rattle.pr_story.specs.Ranges.{IsInRange}
use Rattle.pr_node.specs.declared.stores.Stores.{Stores}
use Rattle.pr_node.specs.Ties.{IsTied}
use Rattle.pr_node.specs.Calls.{Adds}

followed : (old items more : List Entry) (e : Entry) → items ≡ old → more ≡ items ++ e ∷ [] → reverse more ≡ e ∷ reverse old
followed old items more e same is = ap reverse is ∙ reverse-append items (e ∷ []) ∙ ap (λ (x : List Entry). e ∷ reverse x) same

-- the node stands, once the entry is made and the stores are tied to the journal with it
pub stands : (n : ℕ) (spent : Bool) (old items more : List Entry) (e : Entry) (stores : Stores)
    → n < 32 → items ≡ old → more ≡ items ++ e ∷ [] → IsTied n (e ∷ reverse old) stores
    → (n < 32) × (spent ≡ false → IsTied n (reverse more) stores)
stands n spent old items more e stores id same is tied =
    (id, λ works. subst (λ (j : List Entry). IsTied n j stores) (sym (followed old items more e same is)) tied)

-- a node that is not changed but for room stands as before
pub still_stands : (n : ℕ) (was now : Bool) (old items : List Entry) (stores : Stores)
    → (n < 32) × (was ≡ false → IsTied n (reverse old) stores) → items ≡ old → (now ≡ false → was ≡ false)
    → (n < 32) × (now ≡ false → IsTied n (reverse items) stores)
still_stands n was now old items stores held same stays =
    (held.0, λ works. subst (λ (x : List Entry). IsTied n (reverse x) stores) (sym same) (held.1 (stays works)))

-- the event may come next, at whatever time
pub record IsReady (sessions : ℕ → Standing) (needs : ℕ → List ℕ) (n : ℕ) (j : List Entry) (sets : List (List Span)) (e : Entry) : Type 0 where
  pub in_range : IsInRange e.event
  pub may_come : MayCome (IsNewestKnown j) (KnowsGone j) (IsMark j) sessions needs sets n j e.time e.event

-- the entry is added
pub adds : (n : ℕ) (sets now_sets : List (List Span)) (was now : Bool) (old items more : List Entry) (e : Entry) (sessions : ℕ → Standing) (needs : ℕ → List ℕ) (last heard : ℕ) (P : Entry → Type 0)
    → items ≡ old → more ≡ items ++ e ∷ [] → now_sets ≡ sets → now ≡ false
    → IsReady sessions needs n (reverse old) sets e → e.caller < 2 ^ 32
    → last ≡ last_time (reverse old) → heard ≡ heard_time sessions e.event → (e.time ≡ max last heard + 1) × (e.time ≤ 4611686018427387903) → P e
    → Adds (record { id = n; sets = sets; journal = reverse old; spent = was }) (record { id = n; sets = now_sets; journal = reverse more; spent = now }) sessions needs e.caller P
adds n sets now_sets was now old items more e sessions needs last heard P same is same_sets works ready caller l h time p = record {
  entry = e;
  follows = followed old items more e same is;
  lawful = record {
    in_range = ready.in_range;
    in_range_time = let t : e.time ≤ 4611686018427387903 = time.1 in omega (arith, t);
    in_range_caller = caller;
    may_come = ready.may_come;
    time = time.0 ∙ ap (λ (k : ℕ). max k heard + 1) l ∙ ap (λ (k : ℕ). max (last_time (reverse old)) k + 1) h;
  };
  by = refl;
  early = time.1;
  is = p;
  same_id = refl;
  same_sets = same_sets;
  works = works;
}
