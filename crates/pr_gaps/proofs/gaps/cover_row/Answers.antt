use Rattle.std.proofs.Common.{inl, inr, true, sym, ◌∙◌, ◌≡◌, false}
use Rattle.pr_gaps.proofs.gaps.cover_row.Goals as goal

pub returns-then-meets : goal.returns-then-meets
returns-then-meets c p lt = ((λ has. inl has), (λ either. elim either [ inl old ↦ old | inr new ↦ absurd (new.1 (c.meets.ensures.0 c.if-meets.true)) ]))

pub returns : goal.returns
returns c p lt = (
  (λ has. elim ((c.in_ok-cover_between.ensures p lt).0 has) [ inl old ↦ inl old | inr new ↦ inr (new, λ m. apart (sym (c.meets.ensures.1 m) ∙ c.if-meets.false)) ]),
  (λ either. (c.in_ok-cover_between.ensures p lt).1 (elim either [ inl old ↦ inl old | inr new ↦ inr new.0 ])),
)
  where
    apart : true ≡ false → ⊥
    apart e = cc
