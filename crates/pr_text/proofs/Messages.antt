-- The fields of messages and answers say one thing.
use Rattle.std.proofs.Common.{◌≡◌, ℕ, inl, inr, List, [], ◌∷◌, ◌++◌, cond, Bool, true, false, refl, sym, ap, ◌∙◌, arith}
use Rattle.std.specs.Prelude.{All, codes, Option, None, Some}
use Rattle.std.proofs.lemmas.List.Elements.{All-cons, All-head, All-nil, All-tail}
use Rattle.pr_stamps.specs.Point.{Point, IsStamp}
use Rattle.pr_stamps.specs.declared.mark.Mark.{Mark}
use Rattle.pr_vectors.specs.Vector.{IsVector}
use Rattle.pr_names.specs.Span.{Span}
use Rattle.pr_names.specs.Name.{IsName}
use Rattle.pr_inval.specs.declared.kind.Kind.{Kind}
use Rattle.pr_inval.specs.declared.kind.Kind.TheVariants.{Precise, Imprecise, Checkpoint, Body}
use Rattle.pr_inval.specs.declared.row.Row.{Row}
use Rattle.pr_inval.specs.declared.write_rec.WriteRec.{WriteRec}
use Rattle.pr_script.specs.declared.decl.Decl.{Decl}
use Rattle.pr_story.specs.Ranges.{IsFinding, IsKind, IsReply, IsRow, IsStampOrNone, IsWrite}
use Rattle.pr_story.specs.declared.reply.Reply.{Reply}
use Rattle.pr_story.specs.declared.reply.Reply.TheVariants as replies
use Rattle.pr_story.specs.declared.found.Found.{Found}
use Rattle.pr_story.specs.declared.found.Found.TheVariants as founds
use Rattle.pr_script.specs.Labels.{AreLabels}
use Rattle.pr_text.specs.Lines.{found_fields, kind_fields, reply_fields, span_fields, stamp_fields}
use Rattle.pr_text.specs.Numbers.{nodes_of}
use Rattle.pr_story.specs.Counts.{HasFound, HasKind, HasMark, HasPair, HasPrev, HasReply, HasRow, HasStamp, HasVector, HasWrite}
use Rattle.pr_text.specs.Texts.{prev_text, stamp_text, vector_text}
use Rattle.pr_text.proofs.Cut.{is_plain, heads_same}
use Rattle.pr_text.proofs.Items.{nothing_here, nothing_there}
use Rattle.pr_text.proofs.Fields.{AllClosed, Closed, closed_append, word}
use Rattle.pr_text.proofs.Same.{IsPrev, prev_same, vector_plain, vector_same}
use Rattle.pr_text.proofs.SameQuotes.{allowed_plain, are_bytes, is_quoted, name_bytes, quoted_same, set_plain, set_same}
use Rattle.pr_text.proofs.SameRows.{IsMarkIn, IsPairIn, IsRowIn, one_stamp, pairs_plain, pairs_same, prev_in, rows_plain, rows_same, stamp_in, takes_plain}

-- ---- parts of a list of fields

abbrev pub first : List (List ℕ) → List ℕ
first [] = []
first (f ∷ fs) = f

abbrev pub later : List (List ℕ) → List (List ℕ)
later [] = []
later (f ∷ fs) = fs

abbrev first_byte : List ℕ → ℕ
first_byte [] = 0
first_byte (b ∷ bs) = b

-- the parts of equal lists are equal
pub at_0 : (fs gs : List (List ℕ)) → fs ≡ gs → first fs ≡ first gs
at_0 fs gs e = ap first e

pub at_1 : (fs gs : List (List ℕ)) → fs ≡ gs → first (later fs) ≡ first (later gs)
at_1 fs gs e = ap (λ l. first (later l)) e

pub at_2 : (fs gs : List (List ℕ)) → fs ≡ gs → first (later (later fs)) ≡ first (later (later gs))
at_2 fs gs e = ap (λ l. first (later (later l))) e

pub at_3 : (fs gs : List (List ℕ)) → fs ≡ gs → first (later (later (later fs))) ≡ first (later (later (later gs)))
at_3 fs gs e = ap (λ l. first (later (later (later l)))) e

pub at_4 : (fs gs : List (List ℕ)) → fs ≡ gs → first (later (later (later (later fs)))) ≡ first (later (later (later (later gs))))
at_4 fs gs e = ap (λ l. first (later (later (later (later l))))) e

pub at_5 : (fs gs : List (List ℕ)) → fs ≡ gs → first (later (later (later (later (later fs))))) ≡ first (later (later (later (later (later gs)))))
at_5 fs gs e = ap (λ l. first (later (later (later (later (later l)))))) e

pub at_6 : (fs gs : List (List ℕ)) → fs ≡ gs → first (later (later (later (later (later (later fs)))))) ≡ first (later (later (later (later (later (later gs))))))
at_6 fs gs e = ap (λ l. first (later (later (later (later (later (later l))))))) e

pub at_7 : (fs gs : List (List ℕ)) → fs ≡ gs → first (later (later (later (later (later (later (later fs))))))) ≡ first (later (later (later (later (later (later (later gs)))))))
at_7 fs gs e = ap (λ l. first (later (later (later (later (later (later (later l)))))))) e

pub at_8 : (fs gs : List (List ℕ)) → fs ≡ gs → first (later (later (later (later (later (later (later (later fs)))))))) ≡ first (later (later (later (later (later (later (later (later gs))))))))
at_8 fs gs e = ap (λ l. first (later (later (later (later (later (later (later (later l))))))))) e

-- a word is no other
pub other_word : {A : Type 0} (x y : ℕ) (xs ys : List ℕ) → x ∷ xs ≡ y ∷ ys → (x ≡ y → ⊥) → A
other_word x y xs ys e n = absurd (n (heads_same x y xs ys e))

pub all_both : {T : Type 0} (P Q R : T → Type 0) → ((x : T) → P x → Q x → R x) → (xs : List T) → All P xs → All Q xs → All R xs
all_both P Q R f [] p q = All-nil R
all_both P Q R f (x ∷ xs) p q = All-cons R x xs (f x (All-head P x xs p) (All-head Q x xs q)) (all_both P Q R f xs (All-tail P x xs p) (All-tail Q x xs q))

module _ (ds : List Decl) (a : AreLabels ds) where
  -- ---- what the ranges and the numbers give

  pub prev_is : (p : Option Point) → IsStampOrNone p → HasPrev (nodes_of ds) p → IsPrev ds p
  prev_is None s h = tt
  prev_is (Some p) s h = (s, h)

  abbrev MarkRange : Mark → Type 0
  MarkRange m = IsStamp m.stamp × IsStampOrNone m.prev

  mark_in : (m : Mark) → MarkRange m → HasMark (nodes_of ds) m → IsMarkIn ds a m
  mark_in m r h = ((r.0, h.0), prev_is m.prev r.1 h.1)

  pub marks_in : (ms : List Mark) → All (λ (m : Mark). IsStamp m.stamp × IsStampOrNone m.prev) ms → All (HasMark (nodes_of ds)) ms → All (IsMarkIn ds a) ms
  marks_in ms i h = all_both MarkRange (HasMark (nodes_of ds)) (IsMarkIn ds a) mark_in ms i h

  row_in : (r : Row) → IsRow r → HasRow (nodes_of ds) r → IsRowIn ds a r
  row_in r i h = (i.0, (i.1, h.0), marks_in r.marks i.2 h.1)

  pub rows_in : (rows : List Row) → All IsRow rows → All (HasRow (nodes_of ds)) rows → All (IsRowIn ds a) rows
  rows_in rows i h = all_both IsRow (HasRow (nodes_of ds)) (IsRowIn ds a) row_in rows i h

  pub pairs_in : (ps : List (Point × Point)) → All (λ (p : Point × Point). IsStamp p.0 × IsStamp p.1) ps → All (λ (p : Point × Point). HasPair (nodes_of ds) p) ps → All (IsPairIn ds a) ps
  pairs_in ps i h = all_both (λ (p : Point × Point). IsStamp p.0 × IsStamp p.1) (λ (p : Point × Point). HasPair (nodes_of ds) p) (IsPairIn ds a) (λ p r k. ((r.0, k.0), (r.1, k.1))) ps i h

  -- ---- closed fields

  pub stamp_closed : (p : Point) → IsStamp p → HasStamp (nodes_of ds) p → Closed (stamp_text ds p)
  stamp_closed p s h = inl (stamp_in ds a is_plain takes_plain p (s, h))

  pub vector_closed : (v : List ℕ) → IsVector v → HasVector (nodes_of ds) v → Closed (vector_text ds v)
  vector_closed v i h = inl (vector_plain ds a v (i, h))

  pub name_closed : (n : List ℕ) → IsName n → Closed n
  name_closed n i = inl (name_bytes is_plain n i allowed_plain)

  pub write_closed : (w : WriteRec) → IsWrite w → HasWrite (nodes_of ds) w → AllClosed (stamp_fields ds w)
  write_closed w i h =
      (stamp_closed w.stamp i.1 h.0, (word (codes "over") refl, (inl (prev_in ds a is_plain takes_plain w.prev (prev_is w.prev i.2 h.1)), tt)))

  span_closed : (from to : List ℕ) → IsVector from → IsVector to → HasVector (nodes_of ds) from → HasVector (nodes_of ds) to → AllClosed (span_fields ds from to)
  span_closed from to i j h k = (word (codes "from") refl, (vector_closed from i h, (word (codes "to") refl, (vector_closed to j k, tt))))

  kind_word : (g : Bool) → Closed (cond g (codes "gone") (codes "precise"))
  kind_word true = word (codes "gone") refl
  kind_word false = word (codes "precise") refl

  pub kind_closed : (k : Kind) → IsKind k → HasKind (nodes_of ds) k → AllClosed (kind_fields ds k)
  kind_closed (Precise from to write) i h =
      (kind_word write.gone, (name_closed write.name i.2.0, closed_append (stamp_fields ds write) (span_fields ds from to) (write_closed write i.2 h.2) (span_closed from to i.0 i.1 h.0 h.1)))
  kind_closed (Imprecise from to target) i h = (word (codes "imprecise") refl, (inl (set_plain target i.2), span_closed from to i.0 i.1 h.0 h.1))
  kind_closed (Checkpoint to target floor rows) i h = (
    word (codes "checkpoint") refl,
    (
      inl (set_plain target i.1),
      (
        word (codes "to") refl,
        (
          vector_closed to i.0 h.0,
          (word (codes "floor") refl, (vector_closed floor i.2 h.1, (word (codes "rows") refl, (inl (rows_plain ds a rows (rows_in rows i.3 h.2)), tt)))),
        ),
      ),
    ),
  )
  kind_closed (Body name stamp bytes) i h = (word (codes "body") refl, (name_closed name i.0, (stamp_closed stamp i.1 h, (inr (is_quoted bytes), tt))))

  pub reply_closed : (r : Reply) → IsReply r → HasReply (nodes_of ds) r → AllClosed (reply_fields ds r)
  reply_closed replies.Never i h = (word (codes "never") refl, tt)
  reply_closed (replies.Value stamp bytes) i h = (word (codes "value") refl, (stamp_closed stamp i.0 h, (inr (is_quoted bytes), tt)))
  reply_closed (replies.Imprecise untold) i h = (word (codes "imprecise") refl, (stamp_closed untold i h, tt))
  reply_closed (replies.Body stamp) i h = (word (codes "body") refl, (stamp_closed stamp i h, tt))
  reply_closed (replies.Gone stamp) i h = (word (codes "gone") refl, (stamp_closed stamp i h, tt))

  pub found_closed : (f : Found) → IsFinding f → HasFound (nodes_of ds) f → AllClosed (found_fields ds f)
  found_closed (founds.Pairs pairs) i h = (inl (pairs_plain ds a pairs (pairs_in pairs i h)), tt)
  found_closed (founds.Imprecise untold) i h = (word (codes "imprecise") refl, (stamp_closed untold i h, tt))

  -- ---- the same fields

  pub same_vector : (u v : List ℕ) → IsVector u → HasVector (nodes_of ds) u → IsVector v → HasVector (nodes_of ds) v → vector_text ds u ≡ vector_text ds v → u ≡ v
  same_vector u v i h j k e = vector_same ds a u v (i, h) (j, k) e

  pub same_stamp : (p q : Point) → IsStamp p → HasStamp (nodes_of ds) p → IsStamp q → HasStamp (nodes_of ds) q → stamp_text ds p ≡ stamp_text ds q → p ≡ q
  same_stamp p q i h j k e = one_stamp ds a p q (i, h) (j, k) e

  pub write_of : (x y : WriteRec) → x.name ≡ y.name → x.stamp ≡ y.stamp → x.prev ≡ y.prev → x.gone ≡ y.gone → x ≡ y
  write_of x y n s p g =
      ap (λ (k : List ℕ). let r : WriteRec = record { name = k; stamp = x.stamp; prev = x.prev; gone = x.gone } in r) n
      ∙ ap (λ (k : Point). let r : WriteRec = record { name = y.name; stamp = k; prev = x.prev; gone = x.gone } in r) s
      ∙ ap (λ (k : Option Point). let r : WriteRec = record { name = y.name; stamp = y.stamp; prev = k; gone = x.gone } in r) p
      ∙ ap (λ (k : Bool). let r : WriteRec = record { name = y.name; stamp = y.stamp; prev = y.prev; gone = k } in r) g

  -- the name, the stamp and the one before it
  pub write_same : (x y : WriteRec) → IsWrite x → HasWrite (nodes_of ds) x → IsWrite y → HasWrite (nodes_of ds) y → x.gone ≡ y.gone → x.name ≡ y.name
      → stamp_text ds x.stamp ≡ stamp_text ds y.stamp → prev_text ds x.prev ≡ prev_text ds y.prev → x ≡ y
  write_same x y i h j k g n s p =
      write_of x y n (same_stamp x.stamp y.stamp i.1 h.0 j.1 k.0 s) (prev_same ds a x.prev y.prev (prev_is x.prev i.2 h.1) (prev_is y.prev j.2 k.1) p) g

  gone_same : (g h : Bool) → cond g (codes "gone") (codes "precise") ≡ cond h (codes "gone") (codes "precise") → g ≡ h
  gone_same true true e = refl
  gone_same true false e = other_word 103 112 (codes "one") (codes "recise") e (λ k. omega (arith, k))
  gone_same false true e = other_word 112 103 (codes "recise") (codes "one") e (λ k. omega (arith, k))
  gone_same false false e = refl

  not_gone : (g : Bool) (b : ℕ) → (b ≡ 103 → ⊥) → (b ≡ 112 → ⊥) → first_byte (cond g (codes "gone") (codes "precise")) ≡ b → ⊥
  not_gone true b n m e = n (sym e)
  not_gone false b n m e = m (sym e)

  head_byte : (fs gs : List (List ℕ)) → fs ≡ gs → first_byte (first fs) ≡ first_byte (first gs)
  head_byte fs gs e = ap (λ l. first_byte (first l)) e

  pub kind_same : (k m : Kind) → IsKind k → HasKind (nodes_of ds) k → IsKind m → HasKind (nodes_of ds) m → kind_fields ds k ≡ kind_fields ds m → k ≡ m
  kind_same (Precise f t w) (Precise g u x) i h j l e =
      let fs = kind_fields ds (Precise f t w) in
      let gs = kind_fields ds (Precise g u x) in
      let same = write_same w x i.2 h.2 j.2 l.2 (gone_same w.gone x.gone (at_0 fs gs e)) (at_1 fs gs e) (at_2 fs gs e) (at_4 fs gs e) in
      ap (λ (k : List ℕ). Precise k t w) (same_vector f g i.0 h.0 j.0 l.0 (at_6 fs gs e))
      ∙ ap (λ (k : List ℕ). Precise g k w) (same_vector t u i.1 h.1 j.1 l.1 (at_8 fs gs e))
      ∙ ap (λ (k : WriteRec). Precise g u k) same
  kind_same (Imprecise f t s) (Imprecise g u r) i h j l e =
      let fs = kind_fields ds (Imprecise f t s) in
      let gs = kind_fields ds (Imprecise g u r) in
      ap (λ (k : List ℕ). Imprecise k t s) (same_vector f g i.0 h.0 j.0 l.0 (at_3 fs gs e))
      ∙ ap (λ (k : List ℕ). Imprecise g k s) (same_vector t u i.1 h.1 j.1 l.1 (at_5 fs gs e))
      ∙ ap (λ (k : List Span). Imprecise g u k) (set_same s r i.2 j.2 (at_1 fs gs e))
  kind_same (Checkpoint t s f r) (Checkpoint u q g p) i h j l e =
      let fs = kind_fields ds (Checkpoint t s f r) in
      let gs = kind_fields ds (Checkpoint u q g p) in
      ap (λ (k : List ℕ). Checkpoint k s f r) (same_vector t u i.0 h.0 j.0 l.0 (at_3 fs gs e))
      ∙ ap (λ (k : List Span). Checkpoint u k f r) (set_same s q i.1 j.1 (at_1 fs gs e))
      ∙ ap (λ (k : List ℕ). Checkpoint u q k r) (same_vector f g i.2 h.1 j.2 l.1 (at_5 fs gs e))
      ∙ ap (λ (k : List Row). Checkpoint u q g k) (rows_same ds a r p (rows_in r i.3 h.2) (rows_in p j.3 l.2) (at_7 fs gs e))
  kind_same (Body n s b) (Body m t c) i h j l e =
      let fs = kind_fields ds (Body n s b) in
      let gs = kind_fields ds (Body m t c) in
      ap (λ (k : List ℕ). Body k s b) (at_1 fs gs e)
      ∙ ap (λ (k : Point). Body m k b) (same_stamp s t i.1 h j.1 l (at_2 fs gs e))
      ∙ ap (λ (k : List ℕ). Body m t k) (quoted_same b c (are_bytes b i.2) (are_bytes c j.2) (at_3 fs gs e))
  kind_same (Precise f t w) (Imprecise g u r) i h j l e =
      absurd (not_gone w.gone 105 (λ k. omega (arith, k)) (λ k. omega (arith, k)) (head_byte (kind_fields ds (Precise f t w)) (kind_fields ds (Imprecise g u r)) e))
  kind_same (Precise f t w) (Checkpoint u q g p) i h j l e =
      absurd (not_gone w.gone 99 (λ k. omega (arith, k)) (λ k. omega (arith, k)) (head_byte (kind_fields ds (Precise f t w)) (kind_fields ds (Checkpoint u q g p)) e))
  kind_same (Precise f t w) (Body m s c) i h j l e =
      absurd (not_gone w.gone 98 (λ k. omega (arith, k)) (λ k. omega (arith, k)) (head_byte (kind_fields ds (Precise f t w)) (kind_fields ds (Body m s c)) e))
  kind_same (Imprecise g u r) (Precise f t w) i h j l e =
      absurd (not_gone w.gone 105 (λ k. omega (arith, k)) (λ k. omega (arith, k)) (sym (head_byte (kind_fields ds (Imprecise g u r)) (kind_fields ds (Precise f t w)) e)))
  kind_same (Checkpoint u q g p) (Precise f t w) i h j l e =
      absurd (not_gone w.gone 99 (λ k. omega (arith, k)) (λ k. omega (arith, k)) (sym (head_byte (kind_fields ds (Checkpoint u q g p)) (kind_fields ds (Precise f t w)) e)))
  kind_same (Body m s c) (Precise f t w) i h j l e =
      absurd (not_gone w.gone 98 (λ k. omega (arith, k)) (λ k. omega (arith, k)) (sym (head_byte (kind_fields ds (Body m s c)) (kind_fields ds (Precise f t w)) e)))
  kind_same k m i h j l e = let b = head_byte (kind_fields ds k) (kind_fields ds m) e in absurd (omega (arith, b))

  -- what stands behind an answer is the vector
  pub reply_same : (r s : Reply) (t u : List (List ℕ)) → IsReply r → HasReply (nodes_of ds) r → IsReply s → HasReply (nodes_of ds) s → reply_fields ds r ++ t ≡ reply_fields ds s ++ u → (r ≡ s) × (t ≡ u)
  reply_same replies.Never replies.Never t u i h j l e = (refl, ap later e)
  reply_same (replies.Value p b) (replies.Value q c) t u i h j l e =
      let fs = reply_fields ds (replies.Value p b) ++ t in
      let gs = reply_fields ds (replies.Value q c) ++ u in (
        ap (λ (k : Point). replies.Value k b) (same_stamp p q i.0 h j.0 l (at_1 fs gs e)) ∙ ap (λ (k : List ℕ). replies.Value q k) (quoted_same b c (are_bytes b i.1) (are_bytes c j.1) (at_2 fs gs e)),
        ap (λ k. later (later (later k))) e,
      )
  reply_same (replies.Imprecise p) (replies.Imprecise q) t u i h j l e =
      (ap (λ (k : Point). replies.Imprecise k) (same_stamp p q i h j l (at_1 (reply_fields ds (replies.Imprecise p) ++ t) (reply_fields ds (replies.Imprecise q) ++ u) e)), ap (λ k. later (later k)) e)
  reply_same (replies.Body p) (replies.Body q) t u i h j l e =
      (ap (λ (k : Point). replies.Body k) (same_stamp p q i h j l (at_1 (reply_fields ds (replies.Body p) ++ t) (reply_fields ds (replies.Body q) ++ u) e)), ap (λ k. later (later k)) e)
  reply_same (replies.Gone p) (replies.Gone q) t u i h j l e =
      (ap (λ (k : Point). replies.Gone k) (same_stamp p q i h j l (at_1 (reply_fields ds (replies.Gone p) ++ t) (reply_fields ds (replies.Gone q) ++ u) e)), ap (λ k. later (later k)) e)
  reply_same r s t u i h j l e = let b = head_byte (reply_fields ds r ++ t) (reply_fields ds s ++ u) e in absurd (omega (arith, b))

  pub found_same : (f g : Found) → IsFinding f → HasFound (nodes_of ds) f → IsFinding g → HasFound (nodes_of ds) g → found_fields ds f ≡ found_fields ds g → f ≡ g
  found_same (founds.Pairs p) (founds.Pairs q) i h j l e =
      ap (λ (k : List (Point × Point)). founds.Pairs k) (pairs_same ds a p q (pairs_in p i h) (pairs_in q j l) (at_0 (found_fields ds (founds.Pairs p)) (found_fields ds (founds.Pairs q)) e))
  found_same (founds.Imprecise p) (founds.Imprecise q) i h j l e =
      ap (λ (k : Point). founds.Imprecise k) (same_stamp p q i h j l (at_1 (found_fields ds (founds.Imprecise p)) (found_fields ds (founds.Imprecise q)) e))
  found_same (founds.Pairs p) (founds.Imprecise q) i h j l e = longer (ap later e)
    where
      longer : {A : Type 0} → [] ≡ stamp_text ds q ∷ [] → A
      longer k = nothing_here (stamp_text ds q) [] k
  found_same (founds.Imprecise p) (founds.Pairs q) i h j l e = longer (ap later e)
    where
      longer : {A : Type 0} → stamp_text ds p ∷ [] ≡ [] → A
      longer k = nothing_there (stamp_text ds p) [] k
