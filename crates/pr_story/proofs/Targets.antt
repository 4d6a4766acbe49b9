-- The target that is made of the dark names and the omitted ones.
use Rattle.std.proofs.Common.{inl, inr}
use Rattle.pr_story.specs.Statements.{TargetsMeet}

pub target_met : TargetsMeet
target_met n j names v w dark omitted target d m is = elim is [
  | inl few ↦ inl (
    record {
      one_list = few.0.one_list;
      has_them = λ o name t. few.0.has_them o name (elim t [ inl x ↦ inl (d.has_them o name x) | inr x ↦ inr (m.has_them o name x) ]);
      no_others = λ o name i. elim (few.0.no_others o name i) [ inl x ↦ inl (d.no_others o name x) | inr x ↦ inr (m.no_others o name x) ];
    },
    few.1,
  )
  | inr many ↦ inr (
    λ fine f. many.0 fine (record {
      one_list = f.one_list;
      has_them = λ o name t. f.has_them o name (elim t [ inl x ↦ inl (d.no_others o name x) | inr x ↦ inr (m.no_others o name x) ]);
      no_others = λ o name i. elim (f.no_others o name i) [ inl x ↦ inl (d.has_them o name x) | inr x ↦ inr (m.has_them o name x) ];
    }),
    record {
      one_list = many.1.one_list;
      has_them = λ o name t. many.1.has_them o name (elim t [ inl x ↦ inl x | inr x ↦ inr (d.has_them o name x) ]);
      no_others = λ o name i. elim (many.1.no_others o name i) [ inl x ↦ inl x | inr x ↦ inr (d.no_others o name x) ];
    },
  )
]
