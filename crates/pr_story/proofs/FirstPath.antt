-- The first path of the worked history is valid.
use Rattle.std.proofs.Common.{◌≡◌, ℕ, ◌<◌, ◌≤◌, ◌⊎◌, inl, inr, List, [], ◌∷◌, refl, sym, ◌∙◌, ap, subst, arith, cond, nat_eq}
use Rattle.std.specs.Prelude.{true, false, IsTrue, Some}
use Rattle.std.proofs.lemmas.Bool.Decides.{nat_tests}
use Rattle.std.proofs.lemmas.List.Elements.{All-cons, All-nil}
use Rattle.pr_sets.specs.Sets.{set_of}
use Rattle.pr_stamps.specs.Point.{Point, IsStamp, Before}
use Rattle.pr_names.specs.Name.{IsName}
use Rattle.pr_names.specs.Order.{name_lt}
use Rattle.pr_names.proofs.Bytes.{allowed_least}
use Rattle.pr_vectors.specs.Vector.{clock_of, vector_of, zero_vector, Between, IsVector, Covers, Le}
use Rattle.pr_vectors.proofs.Vectors.{clock_of-vector_of}
use Rattle.pr_sets.specs.Spans.{has}
use Rattle.pr_inval.specs.declared.kind.Kind.TheVariants.{Precise}
use Rattle.pr_inval.specs.declared.write_rec.WriteRec.{WriteRec}
use Rattle.pr_story.specs.declared.event.Event.TheVariants.{Wrote, Attached, Sent, Idle, Accepted, Answered}
use Rattle.pr_story.specs.declared.reply.Reply.TheVariants as reply
use Rattle.pr_story.specs.Ranges.{IsMsg, IsBytes}
use Rattle.pr_story.specs.History.{journal, current_vector, WasWritten}
use Rattle.pr_story.specs.Told.{IsPrecise}
use Rattle.pr_story.specs.Knowledge.{IsNewest}
use Rattle.pr_story.specs.Turns.{standing, IsTurn, SendTurn, IdleTurn}
use Rattle.pr_story.specs.Lawful.{Valid, IsLawful}
use Rattle.pr_story.specs.Worked.{everything, two_nodes, does, up_to, ax, hi, stamp_one, write, first_message, attached, written, sent, taken, idle, settled, was_read}
use Rattle.pr_story.proofs.Basics.{clock_zero}
use Rattle.pr_story.proofs.Points.{covered_node}

-- ---- vectors, names and stamps

up_to_is : (a : ℕ) → vector_of (λ w. cond (nat_eq w 0) a 0) ≡ up_to a
unfolding vector_of
up_to_is a = refl

clock_in : (a w : ℕ) → w < 32 → clock_of (up_to a) w ≡ cond (nat_eq w 0) a 0
clock_in a w lt = ap (λ (v : List ℕ). clock_of v w) (sym (up_to_is a)) ∙ clock_of-vector_of (λ w. cond (nat_eq w 0) a 0) w lt

pub is_vector : (a : ℕ) → a ≤ 4611686018427387903 → IsVector (up_to a)
is_vector a most = record { nodes = refl; most = λ n lt. let e : clock_of (up_to a) n ≡ cond (nat_eq n 0) a 0 = clock_in a n lt in grind (arith, nat_tests) }

rises : (a b : ℕ) → a ≤ b → Le (up_to a) (up_to b)
rises a b le w lt =
    let e : clock_of (up_to a) w ≡ cond (nat_eq w 0) a 0 = clock_in a w lt in
    let f : clock_of (up_to b) w ≡ cond (nat_eq w 0) b 0 = clock_in b w lt in
    grind (arith, nat_tests)

-- what is covered is a write of node 0
pub at_zero : (a : ℕ) (p : Point) → Covers (up_to a) p → p.node ≡ 0
at_zero a p c =
    let lt : p.node < 32 = covered_node (up_to a) p refl c in
    let e : clock_of (up_to a) p.node ≡ cond (nat_eq p.node 0) a 0 = clock_in a p.node lt in
    let one : 1 ≤ p.clock = c.0 in
    let upto : p.clock ≤ clock_of (up_to a) p.node = c.1 in
    grind (arith, nat_tests)

no_clock : (w : ℕ) → w < 32 → ◌≡◌ {A = ℕ} (clock_of (up_to 0) w) 0
no_clock w lt = let e : clock_of (up_to 0) w ≡ cond (nat_eq w 0) 0 0 = clock_in 0 w lt in grind (arith, nat_tests)

pub name_ok : IsName ax
name_ok = record { some = omega arith; most = omega arith; each = (refl, (refl, (refl, tt))) }

pub stamp_ok : (a : ℕ) → 1 ≤ a → a ≤ 4611686018427387903 → IsStamp (record { clock = a; node = 0 })
stamp_ok a one most = record { from_one = one; most = most; known_node = omega arith }

bytes_ok : IsBytes hi
bytes_ok = All-cons (λ b. b < 256) 104 (105 ∷ []) (omega arith) (All-cons (λ b. b < 256) 105 [] (omega arith) (All-nil (λ b. b < 256)))

pub all_hold : (o : List ℕ) → IsName o → IsTrue (has everything o)
unfolding name_lt
all_hold [] n = absurd (omega (arith, n.some))
all_hold (b ∷ o) n = let le : 45 ≤ b = allowed_least b n.each.0 in grind (arith, nat_tests)

-- what does not come first comes later
pub next : {X : Type 0} → ⊥ ⊎ X → X
next (inl never) = absurd never
next (inr x) = x

-- ---- the first path

written_ok : IsLawful two_nodes [] (does 0 1 (Wrote 0 write hi (up_to 0)))
unfolding vector_of
written_ok = record {
  node = omega arith;
  in_range = ((name_ok, stamp_ok 1 (omega arith) (omega arith), tt), bytes_ok, omega arith, is_vector 0 (omega arith));
  in_range_time = omega arith;
  in_range_caller = omega arith;
  placed = refl;
  cause = tt;
  may_come = (omega arith, refl, refl, λ w lt. omega arith, (0, omega arith, refl), λ s t. t, λ gone. cc, λ v lt. omega arith);
  time = refl;
}

attached_ok : IsLawful two_nodes written (does 1 1 (Attached 0 (up_to 0)))
attached_ok = record {
  node = omega arith;
  in_range = (omega arith, is_vector 0 (omega arith));
  in_range_time = omega arith;
  in_range_caller = omega arith;
  placed = refl;
  cause = tt;
  may_come = (refl, λ w lt. let z : ◌≡◌ {A = ℕ} (clock_of (up_to 0) w) 0 = no_clock w lt in (omega arith, λ c one le set i m. absurd (omega arith), λ below p. absurd (omega arith)));
  time = refl;
}

first_turn : IsTurn 0 (journal attached 0) (standing two_nodes attached 0) (SendTurn (Precise (up_to 0) (up_to 1) write))
unfolding vector_of
first_turn = (
  λ v lt. omega arith,
  λ le. let bad : 1 ≤ 0 = le 0 (omega arith) in omega arith,
  refl,
  (
    (inr (refl, λ y t e. absurd t), all_hold ax name_ok, λ c. let bad : 1 ≤ 0 = c.1 in omega arith),
    λ y due before. elim due.0 [
      | inl never ↦ never
      | inr first ↦ subst (λ (x : WriteRec). Before x.stamp stamp_one → ⊥) first.0 (λ b. omega arith) before
    ],
  ),
  refl,
  λ o name w. elim w [ inl dark ↦ nothing dark.0 dark.1 | inr omitted ↦ nothing omitted.1.0.stamp omitted.1.3 ],
)
  where
    nothing : (p : Point) → Between (up_to 0) (up_to 0) p → ⊥
    nothing p b = let past : clock_of (up_to 0) p.node < p.clock = b.0 in let upto : p.clock ≤ clock_of (up_to 0) p.node = b.1 in omega arith

first_ok : IsMsg first_message
first_ok = (omega arith, omega arith, omega arith, (is_vector 0 (omega arith), is_vector 1 (omega arith), (name_ok, stamp_ok 1 (omega arith) (omega arith), tt)))

sent_ok : IsLawful two_nodes attached (does 0 2 (Sent first_message))
sent_ok = record {
  node = omega arith;
  in_range = first_ok;
  in_range_time = omega arith;
  in_range_caller = omega arith;
  placed = refl;
  cause = inl refl;
  may_come = (refl, refl, inl first_turn);
  time = refl;
}

taken_ok : IsLawful two_nodes sent (does 1 3 (Accepted first_message (up_to 1)))
unfolding vector_of
taken_ok = record {
  node = omega arith;
  in_range = (first_ok, is_vector 1 (omega arith));
  in_range_time = omega arith;
  in_range_caller = omega arith;
  placed = refl;
  cause = inl refl;
  may_come = (λ v lt. let z : ◌≡◌ {A = ℕ} (clock_of (up_to 0) v) 0 = no_clock v lt in omega arith, refl);
  time = refl;
}

idle_turn : IsTurn 0 (journal taken 0) (standing two_nodes taken 0) IdleTurn
unfolding vector_of
idle_turn = (rises 0 1 (omega arith), rises 1 1 (omega arith), λ bodies o t bytes sends. let bad : false ≡ true = bodies in absurd (cc))

idle_ok : IsLawful two_nodes taken (does 0 4 (Idle 0))
idle_ok = record {
  node = omega arith;
  in_range = omega arith;
  in_range_time = omega arith;
  in_range_caller = omega arith;
  placed = refl;
  cause = inr (inr (inl refl));
  may_come = idle_turn;
  time = refl;
}

last_turn : IsTurn 0 (journal idle 0) (standing two_nodes idle 0) IdleTurn
unfolding vector_of
last_turn = (rises 0 1 (omega arith), rises 1 1 (omega arith), λ bodies o t bytes sends. let bad : false ≡ true = bodies in absurd (cc))

settled_ok : IsLawful two_nodes idle (does 0 5 (Idle 0))
settled_ok = record {
  node = omega arith;
  in_range = omega arith;
  in_range_time = omega arith;
  in_range_caller = omega arith;
  placed = refl;
  cause = inr (inr (inr (inl refl)));
  may_come = last_turn;
  time = refl;
}

vector_one : current_vector (journal settled 1) ≡ up_to 1
unfolding vector_of
vector_one = refl

precise_one : IsPrecise 1 (journal settled 1) (set_of (two_nodes.sets 1) ax)
precise_one p c =
    let d : Covers (up_to 1) p = subst (λ (v : List ℕ). Covers v p) vector_one c in
    let lt : p.node < 32 = covered_node (up_to 1) p refl d in
    let one : 1 ≤ p.clock = d.0 in
    let z : ◌≡◌ {A = ℕ} (clock_of (up_to 0) p.node) 0 = no_clock p.node lt in
    inr (first_message.kind, inl refl, ((omega arith, d.1), λ m. let bad : false ≡ true = m.2 in cc))

-- up to then there is one write
only_write : (x : WriteRec) (body dep : List ℕ) → WasWritten settled x body dep → write ≡ x
only_write x body dep w = elim (next (next (next (next (next w))))) [ inl now ↦ now.0 | inr none ↦ absurd none ]

newest_one : IsNewest settled (current_vector (journal settled 1)) ax (Some stamp_one)
newest_one = (
  (write, hi, up_to 0, inr (inr (inr (inr (inr (inl (refl, refl, refl)))))), refl, refl, subst (λ (v : List ℕ). Covers v stamp_one) (sym vector_one) (omega arith, omega arith)),
  λ s is before.
      let e : stamp_one ≡ s = ap (λ (x : WriteRec). x.stamp) (only_write is.0 is.1 is.2 is.3) ∙ is.5 in
      subst (λ (q : Point). Before stamp_one q → ⊥) e (λ k. omega arith) before,
)

read_ok : IsLawful two_nodes settled (does 1 4 (Answered 1 ax (reply.Body stamp_one) (up_to 1)))
read_ok = record {
  node = omega arith;
  in_range = (omega arith, name_ok, stamp_ok 1 (omega arith) (omega arith), is_vector 1 (omega arith));
  in_range_time = omega arith;
  in_range_caller = omega arith;
  placed = refl;
  cause = tt;
  may_come = (
    (precise_one, newest_one, (write, hi, up_to 0, inr (inr (inr (inr (inr (inl (refl, refl, refl)))))), refl, refl, refl), refl),
    sym vector_one,
    λ v lt. let z : ◌≡◌ {A = ℕ} (clock_of zero_vector v) 0 = clock_zero v in omega arith,
  );
  time = refl;
}

pub first_path : Valid two_nodes was_read
first_path = (read_ok, (settled_ok, (idle_ok, (taken_ok, (sent_ok, (attached_ok, (written_ok, tt)))))))
