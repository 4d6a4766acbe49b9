-- Arithmetic on single clocks. n is the node of an event, m another, v and s are nodes whose clocks are meant.
use Rattle.std.proofs.Common.{◌≡◌, ℕ, ◌<◌, ◌≤◌, ◌⊎◌, max, cond, nat_eq, arith, ◌-◌}
use Rattle.std.specs.Prelude.{nat_lt}
use Rattle.std.proofs.lemmas.Bool.Decides.{nat_tests}
use Rattle.pr_stamps.specs.Point.{Point, Before}
use Rattle.pr_vectors.specs.Vector.{last_of}

-- an event that brings nothing
pub same_clock : (a b m n : ℕ) → b ≡ 0 → max a (cond (nat_eq m n) b 0) ≡ a
same_clock a b m n e = grind (arith, nat_tests)

-- no event takes anything away
pub clock_grows : (a b m n : ℕ) → a ≤ max a (cond (nat_eq m n) b 0)
clock_grows a b m n = grind (arith, nat_tests)

-- a write at its own node: no node is above it
pub own_write : (a b c m n v s : ℕ) → a ≤ b → s ≡ n → max a (cond (nat_eq n m) (cond (nat_eq v s) c 0) 0) ≤ max b (cond (nat_eq n v) (cond (nat_eq v s) c 0) 0)
own_write a b c m n v s le is = grind (arith, nat_tests)

-- an accepted clock that its own node has, or that n was told before
pub own_accept : (a b t d m n v : ℕ) → a ≤ b → (m ≡ n → t ≤ b) → max a (cond (nat_eq n m) t 0) ≤ max b (cond (nat_eq n v) d 0)
own_accept a b t d m n v le at = grind (arith, nat_tests)

-- an older write that a node covers after a write, it covered before
pub covered_before : (x a c m n v s : ℕ) → s ≡ n → x ≤ max a (cond (nat_eq n m) (cond (nat_eq v s) c 0) 0) → (m ≡ n → v ≡ s → x ≤ a) → x ≤ a
covered_before x a c m n v s is le own = grind (arith, nat_tests)

-- a fresh clock is covered at its own node alone
pub fresh_here : (a c m n s : ℕ) → a < c → c ≤ max a (cond (nat_eq n m) (cond (nat_eq s s) c 0) 0) → m ≡ n
fresh_here a c m n s fresh le = grind (arith, nat_tests)

pub fresh_reached : (a c n s : ℕ) → s ≡ n → c ≤ max a (cond (nat_eq n s) (cond (nat_eq s s) c 0) 0)
fresh_reached a c n s is = grind (arith, nat_tests)

-- what is covered after a message was covered before, or the message covers it
pub either_covers : (x a t m n : ℕ) → x ≤ max a (cond (nat_eq n m) t 0) → (x ≤ a) ⊎ ((m ≡ n) × (x ≤ t) × (a < x))
either_covers x a t m n le = grind (arith, nat_tests)

-- at the node itself
pub here_grows : (a t m n : ℕ) → m ≡ n → t ≤ max a (cond (nat_eq n m) t 0)
here_grows a t m n is = grind (arith, nat_tests)

-- a stamp that is cut at another, and isn't before it, is the same
pub same_stamp : (s t : Point) → 1 ≤ t.clock → s.clock ≤ last_of t s.node → (Before s t → ⊥) → (s.clock ≡ t.clock) × (s.node ≡ t.node)
same_stamp s t one le not_before = grind (arith, nat_tests)

-- a stamp that is cut below another is before it
pub below_before : (s t : Point) → 1 ≤ t.clock → s.clock ≤ cond (nat_lt s.node t.node) t.clock (t.clock - 1) → Before s t
below_before s t one le = grind (arith, nat_tests)

-- a stamp before another is cut below it
pub before_below : (s t : Point) → Before s t → s.clock ≤ cond (nat_lt s.node t.node) t.clock (t.clock - 1)
before_below s t b = grind (arith, nat_tests)

-- a clock below a stamp's is within the cut at a later one
pub under_below : (d : ℕ) (s t : Point) (w : ℕ) → d < s.clock → s.clock ≤ t.clock → d ≤ cond (nat_lt w t.node) t.clock (t.clock - 1)
under_below d s t w lt le = grind (arith, nat_tests)

pub under_last : (d : ℕ) (t : Point) (w : ℕ) → d < t.clock → d ≤ last_of t w
under_last d t w lt = grind (arith, nat_tests)

-- the stamp itself is within the cut at it
pub at_last : (t : Point) → t.clock ≤ last_of t t.node
at_last t = grind (arith, nat_tests)

-- a stamp that is cut at another is before it, or the same
pub last_cases : (s t : Point) → 1 ≤ t.clock → s.clock ≤ last_of t s.node → Before s t ⊎ ((s.clock ≡ t.clock) × (s.node ≡ t.node))
last_cases s t one le = grind (arith, nat_tests)

-- a stamp within the cut at another has no greater clock
pub last_under : (s t : Point) → s.clock ≤ last_of t s.node → s.clock ≤ t.clock
last_under s t le = grind (arith, nat_tests)

pub below_under : (s t : Point) → s.clock ≤ cond (nat_lt s.node t.node) t.clock (t.clock - 1) → s.clock ≤ t.clock
below_under s t le = grind (arith, nat_tests)

-- the order of stamps
pub before_not_before : (t s r : Point) → Before t s → (Before r s → ⊥) → Before t r
before_not_before t s r b n = grind arith

pub neither_before : (s t : Point) → (Before s t → ⊥) → (Before t s → ⊥) → (s.clock ≡ t.clock) × (s.node ≡ t.node)
neither_before s t a b = grind arith

-- a message's end that passes its start is reached, and the start is
pub end_reached : (from to b : ℕ) → (from < to → to ≤ b) → from ≤ b → to ≤ b
end_reached from to b reached le = grind arith
