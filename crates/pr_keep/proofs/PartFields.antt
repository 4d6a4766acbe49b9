-- The parts of events: each is read from what it is spelled, and spelled by what it is read from.
use Rattle.std.proofs.Common.{◌≡◌, ℕ, ◌<◌, Bool, true, cond, List, [], ◌∷◌, ◌++◌, length, Option, Some, None, refl, sym, ap, subst, ◌∙◌, append_assoc, arith}
use Rattle.std.specs.Prelude.{nat_lt, ◌==◌}
use Rattle.std.proofs.lemmas.Bool.{eqb-true, ltb-true, lt-ltb}
use Rattle.std.proofs.lemmas.List.{take_at}
use Rattle.pr_stamps.specs.Point.{Point, IsStamp}
use Rattle.pr_vectors.specs.Vector.{IsVector}
use Rattle.pr_names.specs.Name.{IsName}
use Rattle.pr_inval.specs.declared.msg.Msg.{Msg}
use Rattle.pr_inval.specs.declared.write_rec.WriteRec.{WriteRec}
use Rattle.pr_story.specs.declared.cause.Cause.{Cause}
use Rattle.pr_story.specs.declared.cause.Cause.TheVariants as causes
use Rattle.pr_story.specs.declared.found.Found.{Found}
use Rattle.pr_story.specs.declared.found.Found.TheVariants as founds
use Rattle.pr_story.specs.declared.reply.Reply.{Reply}
use Rattle.pr_story.specs.declared.reply.Reply.TheVariants as replies
use Rattle.pr_wire.specs.Reading.{◌>>=◌, byte_at, bytes_at, eight_at, given, gone_at, list_at, message_at, name_at, prev_at, stamp_at, vector_at}
use Rattle.pr_wire.specs.Spelling.{content, eight, gone_text, list_text, name_text, prev_text, spelling, stamp_text, vector_text, write_text}
use Rattle.pr_wire.specs.declared.format.Format.TheVariants.{Two}
use Rattle.pr_wire.proofs.Fields.{IsBytes, IsBytes-take, IsField, Read, bind_some, byte_field, eight_field, given_some, glue, one_byte, run_field, some_is}
use Rattle.pr_wire.proofs.KindFields.{message_again, message_takes}
use Rattle.pr_wire.proofs.ListFields.{Follows, list_field}
use Rattle.pr_wire.proofs.NameFields.{name_field}
use Rattle.pr_wire.proofs.StampFields.{IsGoneIn, IsSomeStamp, gone_field, prev_field, stamp_field}
use Rattle.pr_wire.proofs.VectorFields.{vector_field}
use Rattle.pr_keep.specs.Entries.{IsAnyWrite, IsCounted, IsCountedList, IsFound, IsFramed, IsPair, IsReply, IsStampOrNone}
use Rattle.pr_keep.specs.Reading.{cause_at, cause_of, counted_at, found_at, found_by, found_pairs_at, frame_at, in_any_order, node_at, pair_at, pairs_at, reply_at, reply_by, stamped_at, value_at, vectors_at, write_at}
use Rattle.pr_keep.specs.Spelling.{cause_byte, cause_text, counted_text, found_byte, found_fields, found_text, pair_text, reply_byte, reply_fields, reply_text}
use Rattle.pr_keep.proofs.Joining.{IsTagged, Takes, chosen, four_again, four_take, one_again, one_takes, tagged_takes, two_again, two_takes}

-- ---- bytes behind their count

counted_takes : Takes counted_at counted_text IsCounted
unfolding counted_at counted_text
counted_takes bytes y fits e =
    let p = bind_some (eight_at bytes) (λ len. bytes_at len.0 len.1) y e in
    let len = eight_field.takes bytes p.0 fits p.1 in
    let text = (run_field p.0.0).takes p.0.1 y len.fits p.2 in
    record {
      parts = glue bytes (eight p.0.0) p.0.1 y.0 y.1 len.parts text.parts ∙ ap (λ (n : ℕ). (eight n ++ y.0) ++ y.1) (sym text.holds);
      fits = text.fits;
      holds = omega (arith, text.holds, len.holds);
    }

counted_again : (xs rest : List ℕ) → IsCounted xs → counted_at (counted_text xs ++ rest) ≡ Some (xs, rest)
unfolding counted_at counted_text
counted_again xs rest h =
    ap counted_at (append_assoc (eight (length xs)) xs rest) ∙ rw (eight_field.again (length xs) (xs ++ rest) h, (run_field (length xs)).again xs rest refl) refl

pub counted_field : IsField counted_at counted_text IsCounted
counted_field = record { takes = counted_takes; again = counted_again }

-- ---- writes

stamp_known : (o : Option Point) → IsSomeStamp o → IsStampOrNone o
stamp_known None h = h
stamp_known (Some p) h = h

known_stamp : (o : Option Point) → IsStampOrNone o → IsSomeStamp o
known_stamp None h = h
known_stamp (Some p) h = h

abbrev make_write : List ℕ → Point → Option Point → Bool → WriteRec
make_write name stamp prev gone = record { name = name; stamp = stamp; prev = prev; gone = gone }

write_takes : Takes write_at (write_text Two) IsAnyWrite
unfolding write_at write_text
write_takes =
    four_take name_at name_text IsName name_field stamp_at stamp_text IsStamp stamp_field prev_at prev_text IsSomeStamp prev_field (gone_at Two) (gone_text Two) (IsGoneIn Two) (gone_field Two)
    make_write (write_text Two) IsAnyWrite (λ n s p g. refl) (λ n s p g hn hs hp hg. record { name = hn; stamp = hs; prev = stamp_known p hp })

write_again : (w : WriteRec) (rest : List ℕ) → IsAnyWrite w → write_at (write_text Two w ++ rest) ≡ Some (w, rest)
unfolding write_at write_text
write_again w rest h =
    four_again name_at name_text IsName name_field stamp_at stamp_text IsStamp stamp_field prev_at prev_text IsSomeStamp prev_field (gone_at Two) (gone_text Two) (IsGoneIn Two) (gone_field Two)
    make_write w.name w.stamp w.prev w.gone rest h.name h.stamp (known_stamp w.prev h.prev) tt

pub write_field : IsField write_at (write_text Two) IsAnyWrite
write_field = record { takes = write_takes; again = write_again }

-- ---- messages

front_fits : (xs rest : List ℕ) → IsBytes (xs ++ rest) → IsBytes xs
front_fits xs rest h = subst IsBytes (take_at xs rest (length xs) refl) (IsBytes-take (length xs) (xs ++ rest) h)

frame_takes : Takes frame_at (spelling Two) IsFramed
unfolding frame_at spelling
frame_takes bytes y fits e =
    let a = bind_some (byte_at bytes) (λ format. given (format.0 == 2) format.1 >>= λ two. eight_at two >>= λ len. bytes_at len.0 len.1 >>= λ text. message_at Two text.0 >>= λ msg. Some (msg, text.1)) y e in
    let b = bind_some (given (a.0.0 == 2) a.0.1) (λ two. eight_at two >>= λ len. bytes_at len.0 len.1 >>= λ text. message_at Two text.0 >>= λ msg. Some (msg, text.1)) y a.2 in
    let g = given_some (a.0.0 == 2) a.0.1 b.0 b.1 in
    let rest : (eight_at a.0.1 >>= λ len. bytes_at len.0 len.1 >>= λ text. message_at Two text.0 >>= λ msg. Some (msg, text.1)) ≡ Some y =
    ap (λ (two : List ℕ). eight_at two >>= λ len. bytes_at len.0 len.1 >>= λ text. message_at Two text.0 >>= λ msg. Some (msg, text.1)) g.1 ∙ b.2 in
    let c = bind_some (eight_at a.0.1) (λ len. bytes_at len.0 len.1 >>= λ text. message_at Two text.0 >>= λ msg. Some (msg, text.1)) y rest in
    let d = bind_some (bytes_at c.0.0 c.0.1) (λ text. message_at Two text.0 >>= λ msg. Some (msg, text.1)) y c.2 in
    let m = bind_some (message_at Two d.0.0) (λ msg. Some (msg, d.0.1)) y d.2 in
    let format = byte_field.takes bytes a.0 fits a.1 in
    let len = eight_field.takes a.0.1 c.0 format.fits c.1 in
    let text = (run_field c.0.0).takes c.0.1 d.0 len.fits d.1 in
    let text_fits : IsBytes d.0.0 = front_fits d.0.0 d.0.1 (subst IsBytes text.parts len.fits) in
    let msg = message_takes Two d.0.0 m.0 text_fits m.1 in
    let two : a.0.0 ≡ 2 = eqb-true _ _ g.0 in
    let size : c.0.0 ≡ length (content Two m.0) = sym text.holds ∙ ap length msg.0 in
    let sized : a.0.1 ≡ (eight c.0.0 ++ d.0.0) ++ d.0.1 = glue a.0.1 (eight c.0.0) c.0.1 d.0.0 d.0.1 len.parts text.parts in
    let all : bytes ≡ a.0.0 ∷ ((eight c.0.0 ++ d.0.0) ++ d.0.1) = format.parts ∙ ap (λ (t : List ℕ). a.0.0 ∷ t) sized in
    subst (Read (spelling Two) IsFramed bytes) (some_is (m.0, d.0.1) y m.2) (record {
      parts = all
          ∙ ap (λ (k : ℕ). k ∷ ((eight c.0.0 ++ d.0.0) ++ d.0.1)) two
          ∙ ap (λ (n : ℕ). 2 ∷ ((eight n ++ d.0.0) ++ d.0.1)) size
          ∙ ap (λ (t : List ℕ). 2 ∷ ((eight (length (content Two m.0)) ++ t) ++ d.0.1)) msg.0;
      fits = text.fits;
      holds = record { spelled = msg.1; short = omega (arith, len.holds, size) };
    })

frame_again : (m : Msg) (rest : List ℕ) → IsFramed m → frame_at (spelling Two m ++ rest) ≡ Some (m, rest)
unfolding frame_at spelling
frame_again m rest h =
    ap (λ (t : List ℕ). frame_at (2 ∷ t)) (append_assoc (eight (length (content Two m))) (content Two m) rest)
    ∙ rw (eight_field.again (length (content Two m)) (content Two m ++ rest) h.short, (run_field (length (content Two m))).again (content Two m) rest refl, message_again Two m h.spelled) refl

pub frame_field : IsField frame_at (spelling Two) IsFramed
frame_field = record { takes = frame_takes; again = frame_again }

-- ---- lists

abbrev make_pair : Point → Point → Point × Point
make_pair a b = (a, b)

pair_takes : Takes pair_at pair_text IsPair
unfolding pair_at pair_text
pair_takes = two_takes stamp_at stamp_text IsStamp stamp_field stamp_at stamp_text IsStamp stamp_field make_pair pair_text IsPair (λ a b. refl) (λ a b ha hb. (ha, hb))

pair_again : (p : Point × Point) (rest : List ℕ) → IsPair p → pair_at (pair_text p ++ rest) ≡ Some (p, rest)
unfolding pair_at pair_text
pair_again p rest h = two_again stamp_at stamp_text IsStamp stamp_field stamp_at stamp_text IsStamp stamp_field make_pair p.0 p.1 rest h.0 h.1

pair_field : IsField pair_at pair_text IsPair
pair_field = record { takes = pair_takes; again = pair_again }

any_order : {A : Type 0} (xs front : List A) → Follows in_any_order front xs
any_order [] front = tt
any_order (x ∷ xs) front = (refl, any_order xs (front ++ x ∷ []))

list_of_field : {A : Type 0} (item : List ℕ → Option (A × List ℕ)) (text : A → List ℕ) (valid : A → Type 0) → IsField item text valid → IsField (list_at item in_any_order) (list_text text) (IsCountedList valid)
list_of_field item text valid field = record {
  takes = λ bytes y fits e. let r = (list_field item text valid field in_any_order).takes bytes y fits e in record { parts = r.parts; fits = r.fits; holds = record { each = r.holds.each; few = r.holds.few } };
  again = λ xs rest h. (list_field item text valid field in_any_order).again xs rest (record { each = h.each; order = any_order xs []; few = h.few });
}

pub vectors_field : IsField vectors_at (list_text vector_text) (IsCountedList IsVector)
vectors_field = list_of_field vector_at vector_text IsVector vector_field

pairs_field : IsField pairs_at (list_text pair_text) (IsCountedList IsPair)
pairs_field = list_of_field pair_at pair_text IsPair pair_field

-- ---- causes

cause_is : (n : ℕ) (cause : Cause) → cause_of n ≡ Some cause → cause_byte cause ≡ n
cause_is n cause e =
    let P : ℕ → Type 0 = λ k. cause_byte cause ≡ k in
    chosen n 1 (Some causes.Failed) (cond (n == 2) (Some causes.Ended) (cond (n == 3) (Some causes.Gap) None)) cause P e
    (λ is. ap cause_byte (sym (some_is causes.Failed cause is)))
    (λ off. chosen n 2 (Some causes.Ended) (cond (n == 3) (Some causes.Gap) None) cause P off
    (λ is. ap cause_byte (sym (some_is causes.Ended cause is)))
    (λ gone. chosen n 3 (Some causes.Gap) None cause P gone
    (λ is. ap cause_byte (sym (some_is causes.Gap cause is)))
    (λ none. absurd cc)))

abbrev pub IsAnyCause : Cause → Type 0
IsAnyCause cause = Unit {0}

cause_takes : Takes cause_at cause_text IsAnyCause
unfolding cause_at cause_text
cause_takes bytes y fits e =
    let a = bind_some (byte_at bytes) (λ byte. cause_of byte.0 >>= λ cause. Some (cause, byte.1)) y e in
    let b = bind_some (cause_of a.0.0) (λ cause. Some (cause, a.0.1)) y a.2 in
    let byte = byte_field.takes bytes a.0 fits a.1 in
    subst (Read cause_text IsAnyCause bytes) (some_is (b.0, a.0.1) y b.2) (record {
      parts = byte.parts ∙ ap (λ (k : ℕ). k ∷ a.0.1) (sym (cause_is a.0.0 b.0 b.1));
      fits = byte.fits;
      holds = tt;
    })

cause_again : (cause : Cause) (rest : List ℕ) → IsAnyCause cause → cause_at (cause_text cause ++ rest) ≡ Some (cause, rest)
unfolding cause_at cause_text
cause_again causes.Failed rest h = refl
cause_again causes.Ended rest h = refl
cause_again causes.Gap rest h = refl

pub cause_field : IsField cause_at cause_text IsAnyCause
cause_field = record { takes = cause_takes; again = cause_again }

-- ---- replies

abbrev IsReplyOf : ℕ → Reply → Type 0
IsReplyOf k = IsTagged reply_byte IsReply k

value_takes : Takes value_at reply_fields (IsReplyOf 2)
unfolding value_at reply_fields
value_takes = two_takes stamp_at stamp_text IsStamp stamp_field counted_at counted_text IsCounted counted_field replies.Value reply_fields (IsReplyOf 2) (λ s b. refl) (λ s b hs hb. record { is = (hs, hb); byte = refl })

untold_takes : Takes (stamped_at replies.Imprecise) reply_fields (IsReplyOf 3)
unfolding stamped_at reply_fields
untold_takes = one_takes stamp_at stamp_text IsStamp stamp_field replies.Imprecise reply_fields (IsReplyOf 3) (λ s. refl) (λ s hs. record { is = hs; byte = refl })

lacking_takes : Takes (stamped_at replies.Body) reply_fields (IsReplyOf 4)
unfolding stamped_at reply_fields
lacking_takes = one_takes stamp_at stamp_text IsStamp stamp_field replies.Body reply_fields (IsReplyOf 4) (λ s. refl) (λ s hs. record { is = hs; byte = refl })

gone_takes : Takes (stamped_at replies.Gone) reply_fields (IsReplyOf 5)
unfolding stamped_at reply_fields
gone_takes = one_takes stamp_at stamp_text IsStamp stamp_field replies.Gone reply_fields (IsReplyOf 5) (λ s. refl) (λ s hs. record { is = hs; byte = refl })

never_takes : (bytes : List ℕ) (y : Reply × List ℕ) → IsBytes bytes → (let r : Option (Reply × List ℕ) = Some (replies.Never, bytes) in r) ≡ Some y → Read reply_fields (IsReplyOf 1) bytes y
unfolding reply_fields
never_takes bytes y fits e = subst (Read reply_fields (IsReplyOf 1) bytes) (some_is (replies.Never, bytes) y e) (record { parts = refl; fits = fits; holds = record { is = tt; byte = refl } })

reply_by_takes : (k : ℕ) → Takes (reply_by k) reply_fields (IsReplyOf k)
unfolding reply_by
reply_by_takes k bytes y fits e =
    let P : ℕ → Type 0 = λ n. Read reply_fields (IsReplyOf n) bytes y in
    let last : Option (Reply × List ℕ) = cond (k == 5) (stamped_at replies.Gone bytes) None in
    let fourth : Option (Reply × List ℕ) = cond (k == 4) (stamped_at replies.Body bytes) last in
    let third : Option (Reply × List ℕ) = cond (k == 3) (stamped_at replies.Imprecise bytes) fourth in
    let second : Option (Reply × List ℕ) = cond (k == 2) (value_at bytes) third in
    chosen k 1 (Some (replies.Never, bytes)) second y P e (never_takes bytes y fits)
    (λ b. chosen k 2 (value_at bytes) third y P b (value_takes bytes y fits)
    (λ c. chosen k 3 (stamped_at replies.Imprecise bytes) fourth y P c (untold_takes bytes y fits)
    (λ d. chosen k 4 (stamped_at replies.Body bytes) last y P d (lacking_takes bytes y fits)
    (λ f. chosen k 5 (stamped_at replies.Gone bytes) None y P f (gone_takes bytes y fits) (λ none. absurd cc)))))

reply_takes : Takes reply_at reply_text IsReply
unfolding reply_at reply_text
reply_takes = tagged_takes reply_by reply_byte reply_fields IsReply reply_by_takes

reply_again : (r : Reply) (rest : List ℕ) → IsReply r → reply_at (reply_text r ++ rest) ≡ Some (r, rest)
unfolding reply_at reply_text reply_by reply_fields value_at stamped_at
reply_again replies.Never rest h = refl
reply_again (replies.Value s b) rest h = two_again stamp_at stamp_text IsStamp stamp_field counted_at counted_text IsCounted counted_field replies.Value s b rest h.0 h.1
reply_again (replies.Imprecise s) rest h = one_again stamp_at stamp_text IsStamp stamp_field replies.Imprecise s rest h
reply_again (replies.Body s) rest h = one_again stamp_at stamp_text IsStamp stamp_field replies.Body s rest h
reply_again (replies.Gone s) rest h = one_again stamp_at stamp_text IsStamp stamp_field replies.Gone s rest h

pub reply_field : IsField reply_at reply_text IsReply
reply_field = record { takes = reply_takes; again = reply_again }

-- ---- what was found

abbrev IsFoundOf : ℕ → Found → Type 0
IsFoundOf k = IsTagged found_byte IsFound k

found_pairs_takes : Takes found_pairs_at found_fields (IsFoundOf 1)
unfolding found_pairs_at found_fields
found_pairs_takes = one_takes pairs_at (list_text pair_text) (IsCountedList IsPair) pairs_field founds.Pairs found_fields (IsFoundOf 1) (λ ps. refl) (λ ps h. record { is = h; byte = refl })

found_untold_takes : Takes (stamped_at founds.Imprecise) found_fields (IsFoundOf 2)
unfolding stamped_at found_fields
found_untold_takes = one_takes stamp_at stamp_text IsStamp stamp_field founds.Imprecise found_fields (IsFoundOf 2) (λ s. refl) (λ s h. record { is = h; byte = refl })

found_by_takes : (k : ℕ) → Takes (found_by k) found_fields (IsFoundOf k)
unfolding found_by
found_by_takes k bytes y fits e =
    let P : ℕ → Type 0 = λ n. Read found_fields (IsFoundOf n) bytes y in
    chosen k 1 (found_pairs_at bytes) (cond (k == 2) (stamped_at founds.Imprecise bytes) None) y P e (found_pairs_takes bytes y fits)
    (λ off. chosen k 2 (stamped_at founds.Imprecise bytes) None y P off (found_untold_takes bytes y fits) (λ none. absurd cc))

found_takes : Takes found_at found_text IsFound
unfolding found_at found_text
found_takes = tagged_takes found_by found_byte found_fields IsFound found_by_takes

found_again : (f : Found) (rest : List ℕ) → IsFound f → found_at (found_text f ++ rest) ≡ Some (f, rest)
unfolding found_at found_text found_by found_fields found_pairs_at stamped_at
found_again (founds.Pairs ps) rest h = one_again pairs_at (list_text pair_text) (IsCountedList IsPair) pairs_field founds.Pairs ps rest h
found_again (founds.Imprecise s) rest h = one_again stamp_at stamp_text IsStamp stamp_field founds.Imprecise s rest h

pub found_field : IsField found_at found_text IsFound
found_field = record { takes = found_takes; again = found_again }

-- ---- nodes

abbrev pub IsNode : ℕ → Type 0
IsNode n = n < 32

node_takes : Takes node_at one_byte IsNode
unfolding node_at
node_takes bytes y fits e =
    let a = bind_some (byte_at bytes) (λ node. given (nat_lt node.0 32) node) y e in
    let g = given_some (nat_lt a.0.0 32) a.0 y a.2 in
    let byte = byte_field.takes bytes a.0 fits a.1 in
    subst (Read one_byte IsNode bytes) g.1 (record { parts = byte.parts; fits = byte.fits; holds = ltb-true _ _ g.0 })

node_again : (n : ℕ) (rest : List ℕ) → IsNode n → node_at (one_byte n ++ rest) ≡ Some (n, rest)
unfolding node_at
node_again n rest h = let test : nat_lt n 32 ≡ true = lt-ltb _ _ h in rw test refl

pub node_field : IsField node_at one_byte IsNode
node_field = record { takes = node_takes; again = node_again }
