-- A printed vector is read again.
use Rattle.std.proofs.Common.{◌≡◌, ℕ, suc, ◌+◌, ◌<◌, ◌≤◌, Bool, true, false, cond, List, [], ◌∷◌, ◌++◌, length, get_or, Option, Some, inl, inr, refl, sym, ap, ◌∙◌, subst, arith}
use Rattle.std.specs.Prelude.{nat_eq, max, decimal}
use Rattle.std.proofs.lemmas.Bool.{cases_lt}
use Rattle.std.proofs.lemmas.Bool.Decides.{nat_tests}
use Rattle.std.proofs.lemmas.Grind.{same_number_lists}
use Rattle.pr_stamps.specs.Point.{IsStamp, Point}
use Rattle.pr_vectors.specs.Vector.{IsVector, clock_of, raised, zero_vector}
use Rattle.pr_vectors.proofs.Vectors.{length-vector_of}
use Rattle.pr_script.specs.declared.decl.Decl.{Decl}
use Rattle.pr_script.specs.declared.kind.Kind.TheVariants as kinds
use Rattle.pr_script.specs.Labels.{AreLabels, labels_of}
use Rattle.pr_script.specs.Printing.{label_text}
use Rattle.pr_story.specs.Counts.{HasVector}
use Rattle.pr_story.proofs.Basics.{clock_zero}
use Rattle.pr_story.proofs.Clients.{raised_clock}
use Rattle.pr_text.specs.Numbers.{Has, nodes_of}
use Rattle.pr_text.specs.Texts.{clocks, vector_text}
use Rattle.pr_text.proofs.Cut.{Lacks, is_not, of_all}
use Rattle.pr_text.proofs.Same.{AllItems, alnum, clock_text, is_label_of, label_letters, letters_before_colon, small_clocks}
use Rattle.pr_check.specs.Fields.{read_each, ◌>>=◌}
use Rattle.pr_check.specs.Parts.{after, before, point_read, vector_read, with_clock}
use Rattle.pr_check.proofs.PartsAgain.{after_again, before_again, listed_again}
use Rattle.pr_check.proofs.StampsAgain.{point_again}

-- below this node the vector has the other's clocks, and from there on none
record IsUpTo (w : ℕ) (u v : List ℕ) : Type 0 where
  nodes : length u ≡ 32
  below : (n : ℕ) → n < w → n < 32 → clock_of u n ≡ clock_of v n
  above : (n : ℕ) → w ≤ n → n < 32 → clock_of u n ≡ 0

-- a vector that is read, and how far it goes
record Reads (read : Option (List ℕ)) (w : ℕ) (v : List ℕ) : Type 0 where
  vector : List ℕ
  is : read ≡ Some vector
  up_to : IsUpTo w vector v

zero_if : (c : ℕ) → nat_eq c 0 ≡ true → c ≡ 0
zero_if c e = grind (arith, nat_tests)

some_if : (c : ℕ) → nat_eq c 0 ≡ false → 1 ≤ c
some_if c e = grind (arith, nat_tests)

here_if : (w c a b : ℕ) → a ≡ 0 → cond (nat_eq w w) (max a c) b ≡ c
here_if w c a b e = grind (arith, nat_tests)

other_if : (n w a b : ℕ) → (n ≡ w → ⊥) → cond (nat_eq n w) a b ≡ b
other_if n w a b e = grind (arith, nat_tests)

goes_on : (w : ℕ) (u v : List ℕ) → IsUpTo w u v → clock_of v w ≡ 0 → IsUpTo (w + 1) u v
goes_on w u v h e = record {
  nodes = h.nodes;
  below = λ n l k. elim (cases_lt n w) [ inl b ↦ h.below n b k | inr b ↦ let i : n ≡ w = omega arith in rw i (h.above w (omega arith) (omega (arith, i, k)) ∙ sym e) ];
  above = λ n l k. h.above n (omega arith) k;
}

rises : (w : ℕ) (u v : List ℕ) → w < 32 → IsUpTo w u v → IsUpTo (w + 1) (raised u (record { clock = clock_of v w; node = w })) v
rises w u v lt h =
    let p : Point = record { clock = clock_of v w; node = w } in record {
      nodes = length-vector_of (λ n. cond (nat_eq n p.node) (max (clock_of u n) p.clock) (clock_of u n));
      below = λ n l k. raised_clock u p n k ∙ elim (cases_lt n w) [
        | inl b ↦ other_if n w (max (clock_of u n) p.clock) (clock_of u n) (λ e. omega arith) ∙ h.below n b k
        | inr b ↦ let i : n ≡ w = omega arith in rw i (here_if w (clock_of v w) (clock_of u w) (clock_of u w) (h.above w (omega arith) lt))
      ];
      above = λ n l k. raised_clock u p n k ∙ other_if n w (max (clock_of u n) p.clock) (clock_of u n) (λ e. omega arith) ∙ h.above n (omega arith) k;
    }

module _ (ds : List Decl) (a : AreLabels ds) (v : List ℕ) (i : IsVector v) where
  label_lacks : (n : ℕ) → Has ds kinds.Node n → Lacks 58 (label_text kinds.Node ds n)
  label_lacks n h = of_all alnum (is_not 58) (label_text kinds.Node ds n) letters_before_colon (label_letters (label_text kinds.Node ds n) (is_label_of ds a kinds.Node n h))

  clock_again : (u : List ℕ) (w : ℕ) → Has ds kinds.Node w → w < 32 → 1 ≤ clock_of v w
      → with_clock ds u (clock_text (label_text kinds.Node ds w) (clock_of v w)) ≡ Some (raised u (record { clock = clock_of v w; node = w }))
  unfolding with_clock
  clock_again u w h lt some =
      let p : Point = record { clock = clock_of v w; node = w } in
      let s : IsStamp p = record { from_one = some; most = i.most w lt; known_node = lt } in
      let l = label_text kinds.Node ds w in
      let c = decimal (clock_of v w) in
      let e : point_read ds (after 58 (l ++ 58 ∷ c)) (before 58 (l ++ 58 ∷ c)) ≡ Some p =
      ap (λ (t : List ℕ). point_read ds t (before 58 (l ++ 58 ∷ c))) (after_again 58 l c (label_lacks w h))
      ∙ ap (λ (t : List ℕ). point_read ds c t) (before_again 58 l c (label_lacks w h))
      ∙ point_again ds a p s h in
      rw e refl

  -- the labels from a node on
  abbrev AreFrom : ℕ → List (List ℕ) → Type 0
  AreFrom w ls = (k : ℕ) → k < length ls → Has ds kinds.Node (w + k) × (get_or ls k [] ≡ label_text kinds.Node ds (w + k))

  clocks_again : (ls : List (List ℕ)) (w : ℕ) (u : List ℕ) → AreFrom w ls → w + length ls ≤ 32 → IsUpTo w u v → Reads (read_each (with_clock ds) u (clocks ls w v)) (w + length ls) v
  unfolding read_each
  clocks_again [] w u f most h = record { vector = u; is = refl; up_to = subst (λ (n : ℕ). IsUpTo n u v) (omega arith) h }
  clocks_again (l ∷ ls) w u f most h = by (λ z k. clocks_again ls (w + 1) z next (omega (arith, most)) k) (nat_eq (clock_of v w) 0) refl
    where
      lt : w < 32
      lt = omega (arith, most)

      next : (k : ℕ) → k < length ls → Has ds kinds.Node (w + 1 + k) × (get_or ls k [] ≡ label_text kinds.Node ds (w + 1 + k))
      next k lk = let e : w + suc k ≡ w + 1 + k = omega arith in rw (← e) (f (suc k) (omega (arith, lk)))

      end : w + 1 + length ls ≡ w + length (l ∷ ls)
      end = omega arith

      p : Point
      p = record { clock = clock_of v w; node = w }

      here : (w + 0 ≡ w) → Has ds kinds.Node w × (l ≡ label_text kinds.Node ds w)
      here e = rw (← e) (f 0 (omega arith))

      ended : (o : Option (List ℕ)) → Reads o (w + 1 + length ls) v → Reads o (w + length (l ∷ ls)) v
      ended o r = subst (λ (n : ℕ). Reads o n v) end r

      read : 1 ≤ clock_of v w → with_clock ds u (clock_text l (clock_of v w)) ≡ Some (raised u p)
      read some = let q = here (omega arith) in ap (λ (t : List ℕ). with_clock ds u (clock_text t (clock_of v w))) q.1 ∙ clock_again u w q.0 lt some

      by : ((z : List ℕ) → IsUpTo (w + 1) z v → Reads (read_each (with_clock ds) z (clocks ls (w + 1) v)) (w + 1 + length ls) v) → (b : Bool) → nat_eq (clock_of v w) 0 ≡ b
          → Reads (read_each (with_clock ds) u (cond b (clocks ls (w + 1) v) (clock_text l (clock_of v w) ∷ clocks ls (w + 1) v))) (w + length (l ∷ ls)) v
      by later true e = ended _ (later u (goes_on w u v h (zero_if (clock_of v w) e)))
      by later false e =
          let o : (with_clock ds u (clock_text l (clock_of v w)) >>= λ y. read_each (with_clock ds) y (clocks ls (w + 1) v)) ≡ read_each (with_clock ds) (raised u p) (clocks ls (w + 1) v) =
          ap (λ (r : Option (List ℕ)). r >>= λ y. read_each (with_clock ds) y (clocks ls (w + 1) v)) (read (some_if (clock_of v w) e)) in
          ended _ (subst (λ (r : Option (List ℕ)). Reads r (w + 1 + length ls) v) (sym o) (later (raised u p) (rises w u v lt h)))

  pub vector_again : HasVector (nodes_of ds) v → vector_read ds (vector_text ds v) ≡ Some v
  unfolding vector_read read_each label_text
  vector_again h =
      listed_again (Some zero_vector) (read_each (with_clock ds) zero_vector) (clocks ls 0 v) (AllItems ls 0 v (a.each kinds.Node) (small_clocks ds a v (i, h))) refl
      ∙ all.is ∙ ap (λ (t : List ℕ). Some t) same
    where
      ls : List (List ℕ)
      ls = labels_of kinds.Node ds

      few : length ls ≤ 32
      few = a.few kinds.Node

      from : (k : ℕ) → k < length ls → Has ds kinds.Node (0 + k) × (get_or ls k [] ≡ get_or ls (0 + k) [])
      from k l = let e : 0 + k ≡ k = omega arith in rw e (l, refl)

      start : IsUpTo 0 zero_vector v
      start = record { nodes = length-vector_of (λ k. 0); below = λ n l k. absurd (omega (arith, l)); above = λ n l k. clock_zero n }

      all : Reads (read_each (with_clock ds) zero_vector (clocks ls 0 v)) (0 + length ls) v
      all = clocks_again ls 0 zero_vector from (omega (arith, few)) start

      same : all.vector ≡ v
      same = same_number_lists all.vector v (all.up_to.nodes ∙ sym i.nodes) (λ n l. let k : n < 32 = omega (arith, l, all.up_to.nodes) in elim (cases_lt n (length ls)) [
        | inl b ↦ all.up_to.below n (omega (arith, b)) k
        | inr b ↦ all.up_to.above n (omega (arith, b)) k ∙ sym (h n b)
      ])
