-- What one entry more changes of a node's vector.
use Rattle.std.proofs.Common.{◌≡◌, ℕ, List, max, cond, nat_eq, ap, ◌∙◌, arith}
use Rattle.std.proofs.lemmas.Bool.Decides.{nat_tests}
use Rattle.pr_stamps.specs.Point.{Point}
use Rattle.pr_vectors.specs.Vector.{clock_of, vector_of, join_of, raised}
use Rattle.pr_vectors.proofs.Vectors.{clock_of-vector_of, same_vector}
use Rattle.pr_story.specs.declared.entry.Entry.{Entry}
use Rattle.pr_story.specs.History.{current_clock, current_vector}

raised_clock : (a c n s : ℕ) → cond (nat_eq n s) (max a c) a ≡ max a (cond (nat_eq n s) c 0)
raised_clock a c n s = grind (arith, nat_tests)

-- a write raises the vector
pub raised_more : (j : List Entry) (v u : List ℕ) (p : Point) → u ≡ raised v p → v ≡ current_vector j
    → u ≡ vector_of (λ w. max (current_clock j w) (cond (nat_eq w p.node) p.clock 0))
raised_more j v u p up is =
    up
    ∙ same_vector (λ n. cond (nat_eq n p.node) (max (clock_of v n) p.clock) (clock_of v n)) (λ w. max (current_clock j w) (cond (nat_eq w p.node) p.clock 0))
    (λ n lt.
    let e : clock_of v n ≡ current_clock j n = ap (λ (x : List ℕ). clock_of x n) is ∙ clock_of-vector_of (current_clock j) n lt in
    raised_clock (clock_of v n) p.clock n p.node ∙ ap (λ (x : ℕ). max x (cond (nat_eq n p.node) p.clock 0)) e)

-- an end is joined to it
pub joined_more : (j : List Entry) (v u to : List ℕ) → u ≡ join_of v to → v ≡ current_vector j → u ≡ vector_of (λ w. max (current_clock j w) (clock_of to w))
joined_more j v u to up is =
    up
    ∙ same_vector (λ n. max (clock_of v n) (clock_of to n)) (λ w. max (current_clock j w) (clock_of to w))
    (λ n lt.
    let e : clock_of v n ≡ current_clock j n = ap (λ (x : List ℕ). clock_of x n) is ∙ clock_of-vector_of (current_clock j) n lt in
    ap (λ (x : ℕ). max x (clock_of to n)) e)
