-- Loops over a count: what is read so far, and what is still to be read.
use Rattle.std.proofs.Common.{◌≡◌, ℕ, suc, ◌-◌, ◌+◌, ◌≤◌, ◌<◌, Bool, true, false, List, [], ◌∷◌, ◌++◌, length, get_or, Option, Some, None, refl, sym, ap, ◌∙◌, arith}
use Rattle.pr_stamps.specs.Point.{Point}
use Rattle.pr_vectors.specs.Vector.{raised}
use Rattle.pr_wire.specs.declared.fault.Fault.{Fault}
use Rattle.pr_wire.specs.declared.fault.Fault.TheVariants.{NoMemory, Bad}
use Rattle.pr_wire.specs.Reading.{Fails, entry_at, entries_at, items_at, last_before}

-- ---- entries of a vector

pub entries_go_on : (count i next : ℕ) (from to bytes : List ℕ) (p : Point) (rest : List ℕ) (all : Option (List ℕ × List ℕ)) → i < count → entry_at next from bytes ≡ Some (p, rest)
    → entries_at (count - i) next from to bytes ≡ all → entries_at (count - (i + 1)) (p.node + 1) from (raised to p) rest ≡ all
unfolding entries_at
entries_go_on count i next from to bytes p rest all lt read so_far =
    let k : count - i ≡ suc (count - (i + 1)) = omega arith in
    let one : entries_at (count - i) next from to bytes ≡ entries_at (count - (i + 1)) (p.node + 1) from (raised to p) rest = rw (k, read) refl in
    sym one ∙ so_far

pub entries_fail : (e : Fault) (count i next : ℕ) (from to bytes : List ℕ) (all : Option (List ℕ × List ℕ)) → i < count → Fails e (entry_at next from bytes)
    → entries_at (count - i) next from to bytes ≡ all → Fails e all
unfolding entries_at
entries_fail NoMemory count i next from to bytes all lt read so_far = tt
entries_fail Bad count i next from to bytes all lt read so_far =
    let k : count - i ≡ suc (count - (i + 1)) = omega arith in
    let one : entries_at (count - i) next from to bytes ≡ None = rw (k, read) refl in
    sym so_far ∙ one

pub entries_done : (count i next : ℕ) (from to bytes : List ℕ) (all : Option (List ℕ × List ℕ)) → count ≤ i → entries_at (count - i) next from to bytes ≡ all → all ≡ Some (to, bytes)
unfolding entries_at
entries_done count i next from to bytes all le so_far =
    let k : count - i ≡ 0 = omega arith in
    let one : entries_at (count - i) next from to bytes ≡ Some (to, bytes) = rw k refl in
    sym so_far ∙ one

-- ---- items of a list

pub items_go_on : {A : Type 0} (item : List ℕ → Option (A × List ℕ)) (follows : List A → A → Bool) (count i : ℕ) (xs : List A) (bytes : List ℕ) (x : A) (rest : List ℕ) (all : Option (List A × List ℕ)) → i < count → item bytes ≡ Some (x, rest) → follows xs x ≡ true
    → items_at item follows (count - i) xs bytes ≡ all → items_at item follows (count - (i + 1)) (xs ++ x ∷ []) rest ≡ all
unfolding items_at
items_go_on item follows count i xs bytes x rest all lt read behind so_far =
    let k : count - i ≡ suc (count - (i + 1)) = omega arith in
    let one : items_at item follows (count - i) xs bytes ≡ items_at item follows (count - (i + 1)) (xs ++ x ∷ []) rest = rw (k, read, behind) refl in
    sym one ∙ so_far

pub items_fail : {A : Type 0} (e : Fault) (item : List ℕ → Option (A × List ℕ)) (follows : List A → A → Bool) (count i : ℕ) (xs : List A) (bytes : List ℕ) (all : Option (List A × List ℕ)) → i < count → Fails e (item bytes)
    → items_at item follows (count - i) xs bytes ≡ all → Fails e all
unfolding items_at
items_fail NoMemory item follows count i xs bytes all lt read so_far = tt
items_fail Bad item follows count i xs bytes all lt read so_far =
    let k : count - i ≡ suc (count - (i + 1)) = omega arith in
    let one : items_at item follows (count - i) xs bytes ≡ None = rw (k, read) refl in
    sym so_far ∙ one

pub items_refused : {A : Type 0} (item : List ℕ → Option (A × List ℕ)) (follows : List A → A → Bool) (count i : ℕ) (xs : List A) (bytes : List ℕ) (x : A) (rest : List ℕ) (all : Option (List A × List ℕ)) → i < count → item bytes ≡ Some (x, rest) → follows xs x ≡ false
    → items_at item follows (count - i) xs bytes ≡ all → all ≡ None
unfolding items_at
items_refused item follows count i xs bytes x rest all lt read behind so_far =
    let k : count - i ≡ suc (count - (i + 1)) = omega arith in
    let one : items_at item follows (count - i) xs bytes ≡ None = rw (k, read, behind) refl in
    sym so_far ∙ one

pub items_done : {A : Type 0} (item : List ℕ → Option (A × List ℕ)) (follows : List A → A → Bool) (count i : ℕ) (xs : List A) (bytes : List ℕ) (all : Option (List A × List ℕ)) → count ≤ i → items_at item follows (count - i) xs bytes ≡ all → all ≡ Some (xs, bytes)
unfolding items_at
items_done item follows count i xs bytes all le so_far =
    let k : count - i ≡ 0 = omega arith in
    let one : items_at item follows (count - i) xs bytes ≡ Some (xs, bytes) = rw k refl in
    sym so_far ∙ one

-- ---- the last item

pub last_none : {A : Type 0} (before : A → A → Bool) (ys : List A) (x : A) → length ys ≡ 0 → true ≡ last_before before ys x
unfolding last_before
last_none before [] x e = refl
last_none before (y ∷ ys) x e = absurd (omega arith)

pub last_is : {A : Type 0} (before : A → A → Bool) (ys : List A) (x d : A) → 0 < length ys → before (get_or ys (length ys - 1) d) x ≡ last_before before ys x
unfolding last_before
last_is before [] x d some = absurd (omega arith)
last_is before (y ∷ []) x d some = refl
last_is before (y ∷ (z ∷ ys)) x d some =
    let e : suc (suc (length ys)) - 1 ≡ suc (suc (length ys) - 1) = omega arith in
    ap (λ (n : ℕ). before (get_or (y ∷ (z ∷ ys)) n d) x) e ∙ last_is before (z ∷ ys) x d (omega arith)

-- ---- tests

pub not_true : {a b : Bool} → a ≡ b → a ≡ false → b ≡ false
not_true e h = sym e ∙ h

pub not_false : {a b : Bool} → a ≡ b → a ≡ true → b ≡ true
not_false e h = sym e ∙ h

-- a fault that is no want of memory
pub bad_fails : {A : Type 0} (e : Fault) (read : Option A) → e ≡ Bad → Fails e read → read ≡ None
bad_fails NoMemory read e h = absurd cc
bad_fails Bad read e h = h
