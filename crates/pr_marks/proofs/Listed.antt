-- The list of the names that have marks.
use Rattle.std.proofs.Common.{◌≡◌, ◌≢◌, ◌==◌, ◌⊎◌, ◌≤◌, ◌<◌, ◌+◌, ◌-◌, ℕ, List, [], ◌∷◌, Option, None, Some, Bool, true, false, cond, not, refl, sym, ◌∙◌, ap, subst, arith, get_or, inl, inr, length}
use Rattle.std.specs.Prelude.{Contains}
use Rattle.std.specs.Map.{lookup}
use Rattle.std.specs.Str.{bytes_eq}
use Rattle.std.specs.Option.{option_map}
use Rattle.std.proofs.lemmas.Bool.Decides.{nat_tests}
use Rattle.std.proofs.lemmas.Slice.Eq.{bytes_eq-Decides}
use Rattle.pr_stamps.specs.declared.mark.Mark.{Mark}
use Rattle.pr_vectors.specs.Vector.{is_covered, join_of}
use Rattle.pr_marks.specs.Row.{Kept, above_floor}
use Rattle.pr_marks.specs.Table.{IsForgotten, Table, marks_in}
use Rattle.pr_marks.specs.Listed.{AreListed, ForgetsOf, IsListed, marks_at, newest_at}
use Rattle.pr_marks.proofs.Rows.{marks_cond, newest_cond}

order : (a b : ℕ) → (a < b) ⊎ ((a ≡ b) ⊎ (b < a))
order a b = grind arith

either_test : (b : Bool) → (b ≡ true) ⊎ (b ≡ false)
either_test true = inl refl
either_test false = inr refl

same : (name o : List ℕ) → bytes_eq name o ≡ true → name ≡ o
same name o e = (bytes_eq-Decides name o).0 e

apart : (name o : List ℕ) → bytes_eq name o ≡ false → ¬ (name ≡ o)
apart name o e is = both (bytes_eq name o) ((bytes_eq-Decides name o).1 is) e
  where
    both : (b : Bool) → b ≡ true → b ≡ false → ⊥
    both b e f = cc

-- ---- a row is written

-- what a row has is what its name has
pub listed_more : (name : List ℕ) (before after : List (List ℕ × Kept)) (row : Kept) (a b : List (List ℕ)) → ((o : List ℕ) → lookup (bytes_eq o) after ≡ cond (bytes_eq name o) (Some row) (lookup (bytes_eq o) before)) → AreListed a before → IsListed b name row.marks → ((o : List ℕ) → Contains a o → Contains b o) → AreListed b after
listed_more name before after row a b rows are this stay = record {
  each = λ o. elim (either_test (bytes_eq name o)) [
    | inl e ↦ subst (IsListed b o) (sym (is o ∙ ap (λ t. cond t row.marks (marks_at before o)) e)) (subst (λ n. IsListed b n row.marks) (same name o e) this)
    | inr e ↦ subst (IsListed b o) (sym (is o ∙ ap (λ t. cond t row.marks (marks_at before o)) e)) (λ some. stay o (are.each o some))
  ];
}
  where
    is : (o : List ℕ) → marks_at after o ≡ cond (bytes_eq name o) row.marks (marks_at before o)
    is o = ap marks_in (rows o) ∙ marks_cond (bytes_eq name o) row (lookup (bytes_eq o) before)

-- what stood at a name is listed as it was
pub listed_row : (name : List ℕ) (rows : List (List ℕ × Kept)) (marked : List (List ℕ)) (marks : List Mark) → AreListed marked rows → marks ≡ marks_at rows name → IsListed marked name marks
listed_row name rows marked marks are is = subst (IsListed marked name) (sym is) (are.each name)

pub none_listed : AreListed [] []
none_listed = record { each = λ o some. absurd (omega (arith, some)) }

-- ---- a name's marks are forgotten

pub row_forgets : (floor name : List ℕ) (a b : List (List ℕ × Kept)) (old row : Kept) → lookup (bytes_eq name) a ≡ Some old → ((o : List ℕ) → lookup (bytes_eq o) b ≡ cond (bytes_eq name o) (Some row) (lookup (bytes_eq o) a)) → row.newest ≡ old.newest → row.marks ≡ above_floor floor old.marks → ForgetsOf floor name a b
row_forgets floor name a b old row was rows newest marks = record {
  newest = λ o. ap (option_map (λ (k : Kept). k.newest)) (rows o) ∙ newest_cond (bytes_eq name o) row (lookup (bytes_eq o) a) ∙ elim (either_test (bytes_eq name o)) [
    | inl e ↦ ap (λ t. cond t (Some row.newest) (newest_at a o)) e ∙ ap (λ n. Some n) newest ∙ sym (ap (option_map (λ (k : Kept). k.newest)) (here o e))
    | inr e ↦ ap (λ t. cond t (Some row.newest) (newest_at a o)) e
  ];
  marks = λ o. ap marks_in (rows o) ∙ marks_cond (bytes_eq name o) row (lookup (bytes_eq o) a) ∙ elim (either_test (bytes_eq name o)) [
    | inl e ↦ rw (e) (marks ∙ sym (ap (λ (r : Option Kept). above_floor floor (marks_in r)) (here o e)))
    | inr e ↦ rw (e) refl
  ];
}
  where
    here : (o : List ℕ) → bytes_eq name o ≡ true → lookup (bytes_eq o) a ≡ Some old
    here o e = ap (λ n. lookup (bytes_eq n) a) (sym (same name o e)) ∙ was

pub none_forgets : (floor name : List ℕ) (a b : List (List ℕ × Kept)) → lookup (bytes_eq name) a ≡ None → b ≡ a → ForgetsOf floor name a b
none_forgets floor name a b was is = subst (ForgetsOf floor name a) (sym is) (record {
  newest = λ o. refl;
  marks = λ o. elim (either_test (bytes_eq name o)) [
    | inl e ↦ rw (e) (ap marks_in (here o e) ∙ sym (ap (λ (r : Option Kept). above_floor floor (marks_in r)) (here o e)))
    | inr e ↦ rw (e) refl
  ];
})
  where
    here : (o : List ℕ) → bytes_eq name o ≡ true → lookup (bytes_eq o) a ≡ None
    here o e = ap (λ n. lookup (bytes_eq n) a) (sym (same name o e)) ∙ was

pub is_forgotten : (a b : Table) (floor : List ℕ) → b.floor ≡ join_of a.floor floor → ((o : List ℕ) → newest_at b.rows o ≡ newest_at a.rows o) → ((o : List ℕ) → marks_at b.rows o ≡ above_floor floor (marks_at a.rows o)) → IsForgotten a b floor
is_forgotten a b floor is newest marks = record { floor = is; newest = newest; marks = marks }

-- the row that was written has no marks
pub row_none : (name : List ℕ) (a b : List (List ℕ × Kept)) (row : Kept) (has : Bool) → ((o : List ℕ) → lookup (bytes_eq o) b ≡ cond (bytes_eq name o) (Some row) (lookup (bytes_eq o) a)) → has ≡ not (length row.marks == 0) → has ≡ false → marks_at b name ≡ []
row_none name a b row has rows is none =
    ap marks_in (rows name) ∙ marks_cond (bytes_eq name name) row (lookup (bytes_eq name) a)
    ∙ ap (λ t. cond t row.marks (marks_at a name)) ((bytes_eq-Decides name name).1 refl)
    ∙ no_marks row.marks (zero_by (length row.marks) (length row.marks == 0) refl (sym is ∙ none))
  where
    zero_if : (n : ℕ) → (n == 0) ≡ true → n ≡ 0
    zero_if n e = grind (arith, nat_tests)

    zero_by : (n : ℕ) (b : Bool) → (n == 0) ≡ b → not b ≡ false → n ≡ 0
    zero_by n true e none = zero_if n e
    zero_by n false e none = cc

    no_marks : (marks : List Mark) → length marks ≡ 0 → marks ≡ []
    no_marks [] e = refl
    no_marks (m ∷ ms) e = absurd (omega (arith, e))

pub absent_none : (name : List ℕ) (a b : List (List ℕ × Kept)) → lookup (bytes_eq name) a ≡ None → b ≡ a → marks_at b name ≡ []
absent_none name a b was is = ap (λ es. marks_at es name) is ∙ ap marks_in was

-- ---- forgetting name by name

above_twice : (floor : List ℕ) (marks : List Mark) → above_floor floor (above_floor floor marks) ≡ above_floor floor marks
above_twice floor [] = refl
above_twice floor (m ∷ ms) = by (not (is_covered floor m.stamp)) refl (above_twice floor ms)
  where
    by : (b : Bool) → b ≡ not (is_covered floor m.stamp) → above_floor floor (above_floor floor ms) ≡ above_floor floor ms → above_floor floor (cond b (m ∷ above_floor floor ms) (above_floor floor ms)) ≡ cond b (m ∷ above_floor floor ms) (above_floor floor ms)
    by true e more = rw (← e) (ap (λ l. m ∷ l) more)
    by false e more = more

-- the name stands in the list at this place or later
abbrev pub StandsFrom : ℕ → List (List ℕ) → List ℕ → Type 0
StandsFrom i names o = (k : ℕ) × (i ≤ k) × (k < length names) × (get_or names k o ≡ o)

-- the list without the name at this place, where the last one stands now
pub record TakesOut (at : ℕ) (a b : List (List ℕ)) : Type 0 where
  pub len : length b + 1 ≡ length a
  pub moved : (d : List ℕ) → at + 1 < length a → get_or b at d ≡ get_or a (length a - 1) d
  pub stay : (k : ℕ) (d : List ℕ) → k ≢ at → k + 1 < length a → get_or b k d ≡ get_or a k d

still_stands : (i at : ℕ) (a b : List (List ℕ)) (name o : List ℕ) → TakesOut at a b → i ≤ at → at < length a → get_or a at o ≡ name → ¬ (name ≡ o) → StandsFrom i a o → StandsFrom i b o
still_stands i at a b name o out low within is other (k, from, lt, e) = elim (order k at) [
  | inl less ↦ (k, from, omega (arith, out.len, less, within), out.stay k o (λ same. omega (arith, same, less)) (omega (arith, less, within)) ∙ e)
  | inr rest ↦ elim rest [
    | inl here ↦ absurd (other (sym is ∙ ap (λ n. get_or a n o) (sym here) ∙ e))
    | inr more ↦ elim (order (k + 1) (length a)) [
      | inl stays ↦ (k, from, omega (arith, out.len, stays), out.stay k o (λ same. omega (arith, same, more)) stays ∙ e)
      | inr last ↦ elim last [
        | inl end ↦ (at, low, omega (arith, out.len, more, end), out.moved o (omega (arith, more, end)) ∙ ap (λ n. get_or a n o) (one_less k (length a) end) ∙ e)
        | inr past ↦ absurd (omega (arith, past, lt))
      ]
    ]
  ]
]
  where
    one_less : (k n : ℕ) → k + 1 ≡ n → n - 1 ≡ k
    one_less k n e = omega (arith, e)

-- the names before this place are done
pub record IsForgetting (floor : List ℕ) (before now : List (List ℕ × Kept)) (at : ℕ) (marked : List (List ℕ)) : Type 0 where
  pub listed : AreListed marked now
  pub newest : (o : List ℕ) → newest_at now o ≡ newest_at before o
  pub floors : (o : List ℕ) → above_floor floor (marks_at now o) ≡ above_floor floor (marks_at before o)
  pub done : (o : List ℕ) → StandsFrom at marked o ⊎ (marks_at now o ≡ above_floor floor (marks_at now o))

pub forget_start : (floor : List ℕ) (rows : List (List ℕ × Kept)) (marked : List (List ℕ)) → AreListed marked rows → IsForgetting floor rows rows 0 marked
forget_start floor rows marked are = record {
  listed = are;
  newest = λ o. refl;
  floors = λ o. refl;
  done = λ o. by o (marks_at rows o) (are.each o);
}
  where
    by : (o : List ℕ) (marks : List Mark) → IsListed marked o marks → StandsFrom 0 marked o ⊎ (marks ≡ above_floor floor marks)
    by o [] is = inr refl
    by o (m ∷ ms) is = let c = is (omega arith) in inl (c.0, omega arith, c.1, c.2)

pub forget_end : (floor : List ℕ) (before now : List (List ℕ × Kept)) (at : ℕ) (marked : List (List ℕ)) → IsForgetting floor before now at marked → length marked ≤ at → (o : List ℕ) → marks_at now o ≡ above_floor floor (marks_at before o)
forget_end floor before now at marked is past o = elim (is.done o) [
  | inl (k, from, lt, e) ↦ absurd (omega (arith, from, lt, past))
  | inr e ↦ e ∙ is.floors o
]

module _ (floor name : List ℕ) (before a b : List (List ℕ × Kept)) (turn : ForgetsOf floor name a b) where
  this : (o : List ℕ) → bytes_eq name o ≡ true → marks_at b o ≡ above_floor floor (marks_at a o)
  this o e = turn.marks o ∙ ap (λ t. cond t (above_floor floor (marks_at a o)) (marks_at a o)) e

  others : (o : List ℕ) → bytes_eq name o ≡ false → marks_at b o ≡ marks_at a o
  others o e = turn.marks o ∙ ap (λ t. cond t (above_floor floor (marks_at a o)) (marks_at a o)) e

  this_done : (o : List ℕ) → bytes_eq name o ≡ true → marks_at b o ≡ above_floor floor (marks_at b o)
  this_done o e = this o e ∙ sym (above_twice floor (marks_at a o)) ∙ ap (above_floor floor) (sym (this o e))

  floors_more : ((o : List ℕ) → above_floor floor (marks_at a o) ≡ above_floor floor (marks_at before o)) → (o : List ℕ) → above_floor floor (marks_at b o) ≡ above_floor floor (marks_at before o)
  floors_more so_far o = elim (either_test (bytes_eq name o)) [
    | inl e ↦ ap (above_floor floor) (this o e) ∙ above_twice floor (marks_at a o) ∙ so_far o
    | inr e ↦ ap (above_floor floor) (others o e) ∙ so_far o
  ]

  other_done : (o : List ℕ) → bytes_eq name o ≡ false → marks_at a o ≡ above_floor floor (marks_at a o) → marks_at b o ≡ above_floor floor (marks_at b o)
  other_done o e is = others o e ∙ is ∙ ap (above_floor floor) (sym (others o e))

  -- the name keeps marks, and stays in the list
  pub forget_on : (at : ℕ) (marked : List (List ℕ)) → IsForgetting floor before a at marked → at < length marked → ((d : List ℕ) → get_or marked at d ≡ name) → IsForgetting floor before b (at + 1) marked
  forget_on at marked is within here = record {
    listed = record {
      each = λ o. elim (either_test (bytes_eq name o)) [
        | inl e ↦ λ some. (at, within, here o ∙ same name o e)
        | inr e ↦ subst (IsListed marked o) (sym (others o e)) (is.listed.each o)
      ];
    };
    newest = λ o. turn.newest o ∙ is.newest o;
    floors = floors_more is.floors;
    done = λ o. elim (either_test (bytes_eq name o)) [
      | inl e ↦ inr (this_done o e)
      | inr e ↦ elim (is.done o) [
        | inl (k, from, lt, stands) ↦ elim (order at k) [
          | inl less ↦ inl (k, omega (arith, less), lt, stands)
          | inr rest ↦ elim rest [
            | inl equal ↦ absurd (apart name o e (sym (here o) ∙ ap (λ n. get_or marked n o) equal ∙ stands))
            | inr more ↦ absurd (omega (arith, more, from))
          ]
        ]
        | inr was ↦ inr (other_done o e was)
      ]
    ];
  }

  -- the name keeps no mark, and is taken out of the list
  pub forget_out : (at : ℕ) (marked left : List (List ℕ)) → IsForgetting floor before a at marked → at < length marked → ((d : List ℕ) → get_or marked at d ≡ name) → marks_at b name ≡ [] → TakesOut at marked left → IsForgetting floor before b at left
  forget_out at marked left is within here none out = record {
    listed = record {
      each = λ o. elim (either_test (bytes_eq name o)) [
        | inl e ↦ subst (IsListed left o) (sym (ap (marks_at b) (sym (same name o e)) ∙ none)) (λ some. absurd (omega (arith, some)))
        | inr e ↦ λ some. found o (still_stands 0 at marked left name o out (omega arith) within (here o) (apart name o e) (stands o (is.listed.each o (subst (λ l. 0 < length l) (others o e) some))))
      ];
    };
    newest = λ o. turn.newest o ∙ is.newest o;
    floors = floors_more is.floors;
    done = λ o. elim (either_test (bytes_eq name o)) [
      | inl e ↦ inr (this_done o e)
      | inr e ↦ elim (is.done o) [
        | inl ahead ↦ inl (still_stands at at marked left name o out (omega arith) within (here o) (apart name o e) ahead)
        | inr was ↦ inr (other_done o e was)
      ]
    ];
  }
    where
      stands : (o : List ℕ) → Contains marked o → StandsFrom 0 marked o
      stands o (k, lt, e) = (k, omega arith, lt, e)

      found : (o : List ℕ) → StandsFrom 0 left o → Contains left o
      found o (k, from, lt, e) = (k, lt, e)
