-- Printed messages and answers are read again.
use Rattle.std.proofs.Common.{◌≡◌, ℕ, Bool, true, false, cond, List, [], ◌++◌, get_or, Option, Some, None, refl, sym, ap, ◌∙◌}
use Rattle.std.specs.Prelude.{codes}
use Rattle.std.specs.Str.{bytes_eq}
use Rattle.pr_stamps.specs.Point.{Point}
use Rattle.pr_inval.specs.declared.kind.Kind.{Kind}
use Rattle.pr_inval.specs.declared.kind.Kind.TheVariants.{Precise, Imprecise, Checkpoint, Body}
use Rattle.pr_inval.specs.declared.write_rec.WriteRec.{WriteRec}
use Rattle.pr_script.specs.declared.decl.Decl.{Decl}
use Rattle.pr_script.specs.Fields.{value_from}
use Rattle.pr_script.specs.Labels.{AreLabels}
use Rattle.pr_story.specs.Counts.{HasFound, HasKind, HasReply}
use Rattle.pr_story.specs.Ranges.{IsFinding, IsKind, IsReply}
use Rattle.pr_story.specs.declared.found.Found.{Found}
use Rattle.pr_story.specs.declared.found.Found.TheVariants as founds
use Rattle.pr_story.specs.declared.reply.Reply.{Reply}
use Rattle.pr_story.specs.declared.reply.Reply.TheVariants as replies
use Rattle.pr_text.specs.Lines.{found_fields, kind_fields, reply_fields}
use Rattle.pr_text.specs.Numbers.{nodes_of}
use Rattle.pr_text.specs.Texts.{pairs_text}
use Rattle.pr_check.specs.Events.{body_of, checkpoint_of, found_read, imprecise_of, kind_read, kind_with, precise_of, reply_with, value_of_read}
use Rattle.pr_check.specs.Fields.{field_at, parts, read_each}
use Rattle.pr_check.specs.Parts.{pair_read, pairs_read, point_read, rows_read, stamp_read}
use Rattle.pr_check.proofs.FieldsAgain.{HasFields}
use Rattle.pr_check.proofs.PartsAgain.{other_bytes}
use Rattle.pr_check.proofs.ReadAgain.{name_at, prev_at, set_at, stamp_at, text_at, vector_at}
use Rattle.pr_check.proofs.RowsAgain.{pairs_again, rows_again}

module _ (ds : List Decl) (a : AreLabels ds) where
  -- ---- messages

  precise_again : (rest : List ℕ) (from to : List ℕ) (w : WriteRec) → IsKind (Precise from to w) → HasKind (nodes_of ds) (Precise from to w)
      → HasFields rest (kind_fields ds (Precise from to w)) → precise_of ds w.gone rest ≡ Some (Precise from to w)
  unfolding precise_of
  precise_again rest from to w i d h =
      let fs = kind_fields ds (Precise from to w) in
      rw (
        name_at ds a rest fs h 1 w.name i.2.0 refl,
        stamp_at ds a rest fs h 2 w.stamp i.2.1 d.2.0 refl,
        prev_at ds a rest fs h 4 w.prev i.2.2 d.2.1 refl,
        vector_at ds a rest fs h 6 from i.0 d.0 refl,
        vector_at ds a rest fs h 8 to i.1 d.1 refl,
      ) refl

  precise_word : (g : Bool) (rest : List ℕ) (k : Kind) → precise_of ds g rest ≡ Some k → kind_with ds (cond g (codes "gone") (codes "precise")) rest ≡ Some k
  unfolding kind_with
  precise_word true rest k e = e
  precise_word false rest k e = e

  imprecise_again : (rest : List ℕ) (k : Kind) → imprecise_of ds rest ≡ Some k → kind_with ds (codes "imprecise") rest ≡ Some k
  unfolding kind_with
  imprecise_again rest k e = e

  checkpoint_again : (rest : List ℕ) (k : Kind) → checkpoint_of ds rest ≡ Some k → kind_with ds (codes "checkpoint") rest ≡ Some k
  unfolding kind_with
  checkpoint_again rest k e = e

  body_again : (rest : List ℕ) (k : Kind) → body_of ds rest ≡ Some k → kind_with ds (codes "body") rest ≡ Some k
  unfolding kind_with
  body_again rest k e = e

  pub kind_again : (rest : List ℕ) (k : Kind) → IsKind k → HasKind (nodes_of ds) k → HasFields rest (kind_fields ds k) → kind_read ds rest ≡ Some k
  unfolding imprecise_of checkpoint_of body_of
  kind_again rest (Precise from to w) i d h =
      ap (λ (t : List ℕ). kind_with ds t rest) (h 0) ∙ precise_word w.gone rest (Precise from to w) (precise_again rest from to w i d h)
  kind_again rest (Imprecise from to target) i d h =
      let fs = kind_fields ds (Imprecise from to target) in
      ap (λ (t : List ℕ). kind_with ds t rest) (h 0) ∙ imprecise_again rest (Imprecise from to target) (rw (
        set_at ds a rest fs h 1 target i.2 refl,
        vector_at ds a rest fs h 3 from i.0 d.0 refl,
        vector_at ds a rest fs h 5 to i.1 d.1 refl,
      ) refl)
  kind_again rest (Checkpoint to target floor rows) i d h =
      let fs = kind_fields ds (Checkpoint to target floor rows) in
      let listed : rows_read ds (field_at 7 rest) ≡ Some rows = ap (rows_read ds) (h 7) ∙ rows_again ds a rows i.3 d.2 in
      ap (λ (t : List ℕ). kind_with ds t rest) (h 0) ∙ checkpoint_again rest (Checkpoint to target floor rows) (rw (
        set_at ds a rest fs h 1 target i.1 refl,
        vector_at ds a rest fs h 3 to i.0 d.0 refl,
        vector_at ds a rest fs h 5 floor i.2 d.1 refl,
        listed,
      ) refl)
  kind_again rest (Body name stamp bytes) i d h =
      let fs = kind_fields ds (Body name stamp bytes) in
      ap (λ (t : List ℕ). kind_with ds t rest) (h 0) ∙ body_again rest (Body name stamp bytes) (rw (
        name_at ds a rest fs h 1 name i.0 refl,
        stamp_at ds a rest fs h 2 stamp i.1 d refl,
        text_at ds a rest fs h 3 bytes i.2 refl,
      ) refl)

  -- ---- answers

  pub reply_again : (rest word : List ℕ) (r : Reply) (more : List (List ℕ)) → IsReply r → HasReply (nodes_of ds) r → HasFields rest (reply_fields ds r ++ more) → word ≡ get_or (reply_fields ds r ++ more) 0 []
      → reply_with ds word rest ≡ Some r
  unfolding reply_with value_of_read
  reply_again rest word replies.Never more i d h e = rw e refl
  reply_again rest word (replies.Value stamp bytes) more i d h e =
      let fs = reply_fields ds (replies.Value stamp bytes) ++ more in
      rw (e, stamp_at ds a rest fs h 1 stamp i.0 d refl, text_at ds a rest fs h 2 bytes i.1 refl) refl
  reply_again rest word (replies.Imprecise untold) more i d h e = rw (e, stamp_at ds a rest (reply_fields ds (replies.Imprecise untold) ++ more) h 1 untold i d refl) refl
  reply_again rest word (replies.Body stamp) more i d h e = rw (e, stamp_at ds a rest (reply_fields ds (replies.Body stamp) ++ more) h 1 stamp i d refl) refl
  reply_again rest word (replies.Gone stamp) more i d h e = rw (e, stamp_at ds a rest (reply_fields ds (replies.Gone stamp) ++ more) h 1 stamp i d refl) refl

  no_pairs : pairs_read ds (codes "imprecise") ≡ None
  unfolding parts read_each pair_read stamp_read point_read value_from
  no_pairs = refl

  pairs_word : (pairs : List (Point × Point)) → pairs_read ds (pairs_text ds pairs) ≡ Some pairs → bytes_eq (pairs_text ds pairs) (codes "imprecise") ≡ false
  pairs_word pairs e = other_bytes (pairs_text ds pairs) (codes "imprecise") (λ k. clash pairs (sym no_pairs ∙ ap (pairs_read ds) (sym k) ∙ e))
    where
      clash : (ps : List (Point × Point)) → (let none : Option (List (Point × Point)) = None in none) ≡ Some ps → ⊥
      clash ps f = cc

  pub found_again : (rest : List ℕ) (f : Found) → IsFinding f → HasFound (nodes_of ds) f → HasFields rest (found_fields ds f) → found_read ds rest ≡ Some f
  unfolding found_read
  found_again rest (founds.Pairs pairs) i d h =
      let read = pairs_again ds a pairs i d in
      rw (h 0, pairs_word pairs read, read) refl
  found_again rest (founds.Imprecise untold) i d h =
      rw (h 0, stamp_at ds a rest (found_fields ds (founds.Imprecise untold)) h 1 untold i d refl) refl
