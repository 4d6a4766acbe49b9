-- The fields of a printed line at their places.
use Rattle.std.proofs.Common.{◌≡◌, ℕ, ◌<◌, ◌^◌, List, [], get_or, Option, Some, ap, ◌∙◌}
use Rattle.std.specs.Prelude.{decimal}
use Rattle.pr_stamps.specs.Point.{IsStamp, Point}
use Rattle.pr_vectors.specs.Vector.{IsVector}
use Rattle.pr_names.specs.Name.{IsName}
use Rattle.pr_names.specs.Span.{Span}
use Rattle.pr_sets.specs.Spans.{IsSet}
use Rattle.pr_sets.specs.Text.{set_text}
use Rattle.pr_script.specs.declared.decl.Decl.{Decl}
use Rattle.pr_script.specs.declared.kind.Kind.{Kind as What}
use Rattle.pr_script.specs.Fields.{name_of, number_in, value_of}
use Rattle.pr_script.specs.Labels.{AreLabels, number_among}
use Rattle.pr_script.specs.Printing.{label_text, quoted}
use Rattle.pr_script.specs.Texts.{last_text}
use Rattle.pr_story.specs.Counts.{HasPrev, HasStamp, HasVector}
use Rattle.pr_story.specs.Ranges.{IsBytes, IsStampOrNone}
use Rattle.pr_text.specs.Numbers.{Has, nodes_of}
use Rattle.pr_text.specs.Texts.{prev_text, stamp_text, vector_text}
use Rattle.pr_check.specs.Events.{count_at}
use Rattle.pr_check.specs.Fields.{field_at}
use Rattle.pr_check.specs.Parts.{prev_read, target_read, stamp_read, vector_read}
use Rattle.pr_check.proofs.FieldsAgain.{HasFields}
use Rattle.pr_check.proofs.Numbers.{number_again}
use Rattle.pr_check.proofs.StampsAgain as stamps
use Rattle.pr_check.proofs.StampsAgain.{count_again, name_again, quoted_again, set_again}
use Rattle.pr_check.proofs.VectorsAgain.{vector_again}

module _ (ds : List Decl) (a : AreLabels ds) (bytes : List ℕ) (fs : List (List ℕ)) (h : HasFields bytes fs) (n : ℕ) where
  pub label_at : (k : What) (m : ℕ) → Has ds k m → get_or fs n [] ≡ label_text k ds m → number_among k ds (field_at n bytes) ≡ Some m
  label_at k m d e = ap (number_among k ds) (h n ∙ e) ∙ number_again k ds a m d

  pub number_at : (m : ℕ) → m < 2 ^ 64 → get_or fs n [] ≡ decimal m → count_at n bytes ≡ Some m
  number_at m l e = ap (number_in 0 18446744073709551615) (h n ∙ e) ∙ count_again m l

  pub name_at : (o : List ℕ) → IsName o → get_or fs n [] ≡ o → name_of (field_at n bytes) ≡ Some o
  name_at o i e = ap name_of (h n ∙ e) ∙ name_again o i

  pub text_at : (t : List ℕ) → IsBytes t → get_or fs n [] ≡ quoted t → value_of (last_text (field_at n bytes)) ≡ Some t
  text_at t i e = ap (λ (f : List ℕ). value_of (last_text f)) (h n ∙ e) ∙ quoted_again t i

  pub set_at : (s : List Span) → IsSet s → get_or fs n [] ≡ set_text s → target_read (field_at n bytes) ≡ Some s
  set_at s i e = ap target_read (h n ∙ e) ∙ set_again s i

  pub stamp_at : (p : Point) → IsStamp p → HasStamp (nodes_of ds) p → get_or fs n [] ≡ stamp_text ds p → stamp_read ds (field_at n bytes) ≡ Some p
  stamp_at p i d e = ap (stamp_read ds) (h n ∙ e) ∙ stamps.stamp_again ds a p i d

  pub prev_at : (p : Option Point) → IsStampOrNone p → HasPrev (nodes_of ds) p → get_or fs n [] ≡ prev_text ds p → prev_read ds (field_at n bytes) ≡ Some p
  prev_at p i d e = ap (prev_read ds) (h n ∙ e) ∙ stamps.prev_again ds a p i d

  pub vector_at : (v : List ℕ) → IsVector v → HasVector (nodes_of ds) v → get_or fs n [] ≡ vector_text ds v → vector_read ds (field_at n bytes) ≡ Some v
  vector_at v i d e = ap (vector_read ds) (h n ∙ e) ∙ vector_again ds a v i d
