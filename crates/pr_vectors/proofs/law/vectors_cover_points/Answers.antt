use Rattle.pr_vectors.proofs.Vectors.{clock_of-vector_of}
use Rattle.pr_vectors.proofs.Bounds.{max_split, max_left, min_both, both_min, cut_up_to, up_to_cut, cut_before, before_cut}
use Rattle.pr_vectors.proofs.law.vectors_cover_points.Goals as goal

pub returns-clause-join : goal.returns-clause-join
returns-clause-join c v w p lt = rw (clock_of-vector_of _ p.node lt) ((λ h. max_split _ _ _ h.0 h.1), (λ h. max_left _ _ _ h))

pub returns-clause-meet : goal.returns-clause-meet
returns-clause-meet c v w p lt = rw (clock_of-vector_of _ p.node lt) ((λ h. min_both _ _ _ h.0 h.1), (λ h. both_min _ _ _ h.0 h.1))

pub returns-clause-cut : goal.returns-clause-cut
returns-clause-cut c v s p lt = rw (clock_of-vector_of _ p.node lt) ((λ h. cut_up_to _ _ _ _ _ h.0 h.1), (λ h. up_to_cut _ _ _ _ _ h.0.0 h.0.1 h.1))

pub returns-clause-below : goal.returns-clause-below
returns-clause-below c v s p lt = rw (clock_of-vector_of _ p.node lt) ((λ h. cut_before _ _ _ _ _ h.0 h.1), (λ h. before_cut _ _ _ _ _ h.0.0 h.0.1 h.1))
