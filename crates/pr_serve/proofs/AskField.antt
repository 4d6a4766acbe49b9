-- Asks as a field: what is read is spelled, and what is spelled is read.
use Rattle.std.proofs.Common.{◌≡◌, ℕ, ◌<◌, Bool, true, List, [], ◌∷◌, ◌++◌, length, Option, Some, Result, Ok, Err, refl, sym, ap, subst, ◌∙◌, append_assoc, arith}
use Rattle.std.specs.Prelude.{OnOk, nat_le, ◌==◌, ◌&&◌}
use Rattle.std.proofs.lemmas.Bool.{and_parts, and_from, eqb-true, leb-true, le-leb}
use Rattle.pr_names.specs.Span.{Span}
use Rattle.pr_wire.specs.declared.format.Format.TheVariants.{Two}
use Rattle.pr_wire.specs.Reading.{◌>>=◌, byte_at, eight_at, four_at, given, gone_at, target_at, vector_at}
use Rattle.pr_wire.specs.Spelling.{eight, four, list_text, span_text, vector_text}
use Rattle.pr_wire.proofs.Fields.{IsBytes, IsField, Read, bind_some, byte_field, eight_field, four_field, given_some, glue, one_byte, some_is}
use Rattle.pr_wire.proofs.ListFields.{target_field}
use Rattle.pr_wire.proofs.StampFields.{gone_field}
use Rattle.pr_wire.proofs.VectorFields.{vector_field}
use Rattle.pr_serve.specs.declared.ask.Ask.{Ask}
use Rattle.pr_serve.specs.Asks.{IsAsk, ask_at, ask_text, flag_text, is_asking}

-- ---- what is read behind each field

abbrev asked : ℕ → List ℕ → List Span → Bool → ℕ → Ask
asked stream start sub bodies turns = record { stream = stream; start = start; sub = sub; bodies = bodies; turns = turns }

abbrev behind_turns : ℕ → List ℕ → List Span → Bool → ℕ × List ℕ → Option (Ask × List ℕ)
behind_turns stream start sub bodies turns = given (is_asking (length sub) turns.0) (asked stream start sub bodies turns.0, turns.1)

abbrev behind_flag : ℕ → List ℕ → List Span → Bool × List ℕ → Option (Ask × List ℕ)
behind_flag stream start sub flag = eight_at flag.1 >>= λ turns. behind_turns stream start sub flag.0 turns

abbrev behind_sub : ℕ → List ℕ → List Span × List ℕ → Option (Ask × List ℕ)
behind_sub stream start sub = gone_at Two sub.1 >>= λ flag. behind_flag stream start sub.0 flag

abbrev behind_start : ℕ → List ℕ × List ℕ → Option (Ask × List ℕ)
behind_start stream start = target_at start.1 >>= λ sub. behind_sub stream start.0 sub

abbrev behind_stream : ℕ × List ℕ → Option (Ask × List ℕ)
behind_stream stream = vector_at stream.1 >>= λ start. behind_start stream.0 start

abbrev behind_mark : ℕ × List ℕ → Option (Ask × List ℕ)
behind_mark ours = four_at ours.1 >>= λ stream. behind_stream stream

-- ---- both ways

ask_takes : (bytes : List ℕ) (y : Ask × List ℕ) → IsBytes bytes → ask_at bytes ≡ Some y → Read ask_text IsAsk bytes y
unfolding ask_at ask_text
ask_takes bytes y fits e =
    let a = bind_some (byte_at bytes) (λ mark. given (mark.0 == 81) mark >>= λ ours. behind_mark ours) y e in
    let b = bind_some (given (a.0.0 == 81) a.0) (λ ours. behind_mark ours) y a.2 in
    let g = given_some (a.0.0 == 81) a.0 b.0 b.1 in
    let c = bind_some (four_at b.0.1) (λ stream. behind_stream stream) y b.2 in
    let d = bind_some (vector_at c.0.1) (λ start. behind_start c.0.0 start) y c.2 in
    let f = bind_some (target_at d.0.1) (λ sub. behind_sub c.0.0 d.0.0 sub) y d.2 in
    let k = bind_some (gone_at Two f.0.1) (λ flag. behind_flag c.0.0 d.0.0 f.0.0 flag) y f.2 in
    let l = bind_some (eight_at k.0.1) (λ turns. behind_turns c.0.0 d.0.0 f.0.0 k.0.0 turns) y k.2 in
    let q : Ask = asked c.0.0 d.0.0 f.0.0 k.0.0 l.0.0 in
    let end = given_some (is_asking (length f.0.0) l.0.0) (q, l.0.1) y l.2 in
    let some = and_parts (nat_le 1 (length f.0.0)) (nat_le 1 l.0.0 && nat_le l.0.0 1000000) end.0 in
    let turns_in = and_parts (nat_le 1 l.0.0) (nat_le l.0.0 1000000) some.1 in
    let mark = byte_field.takes bytes a.0 fits a.1 in
    let after : Read one_byte (λ n. n < 256) bytes b.0 = subst (Read one_byte (λ n. n < 256) bytes) g.1 mark in
    let is_mark : b.0.0 ≡ 81 = sym (ap (λ (p : ℕ × List ℕ). p.0) g.1) ∙ eqb-true a.0.0 81 g.0 in
    let stream = four_field.takes b.0.1 c.0 after.fits c.1 in
    let start = vector_field.takes c.0.1 d.0 stream.fits d.1 in
    let sub = target_field.takes d.0.1 f.0 start.fits f.1 in
    let flag = (gone_field Two).takes f.0.1 k.0 sub.fits k.1 in
    let turns = eight_field.takes k.0.1 l.0 flag.fits l.1 in
    let flag_on = glue f.0.1 (flag_text k.0.0) k.0.1 (eight l.0.0) l.0.1 flag.parts turns.parts in
    let sub_on = glue d.0.1 (list_text span_text f.0.0) f.0.1 (flag_text k.0.0 ++ eight l.0.0) l.0.1 sub.parts flag_on in
    let start_on = glue c.0.1 (vector_text d.0.0) d.0.1 (list_text span_text f.0.0 ++ (flag_text k.0.0 ++ eight l.0.0)) l.0.1 start.parts sub_on in
    let stream_on = glue b.0.1 (four c.0.0) c.0.1 (vector_text d.0.0 ++ (list_text span_text f.0.0 ++ (flag_text k.0.0 ++ eight l.0.0))) l.0.1 stream.parts start_on in
    let mark_on : bytes ≡ 81 ∷ b.0.1 = after.parts ∙ ap (λ (n : ℕ). n ∷ b.0.1) is_mark in
    subst (Read ask_text IsAsk bytes) end.1 (record {
      parts = mark_on ∙ ap (λ (t : List ℕ). 81 ∷ t) stream_on;
      fits = turns.fits;
      holds = record {
        stream = stream.holds;
        start = start.holds;
        set = sub.holds.set;
        few = sub.holds.few;
        some = leb-true _ _ some.0;
        from_one = leb-true _ _ turns_in.0;
        most = leb-true _ _ turns_in.1;
      };
    })

ask_again : (q : Ask) (rest : List ℕ) → IsAsk q → ask_at (ask_text q ++ rest) ≡ Some (q, rest)
unfolding ask_at ask_text
ask_again q rest h =
    let set = list_text span_text q.sub in
    let flag = flag_text q.bodies in
    let regrouped : (four q.stream ++ (vector_text q.start ++ (set ++ (flag ++ eight q.turns)))) ++ rest ≡ four q.stream ++ (vector_text q.start ++ (set ++ (flag ++ (eight q.turns ++ rest)))) =
    append_assoc (four q.stream) (vector_text q.start ++ (set ++ (flag ++ eight q.turns))) rest
    ∙ ap (λ (t : List ℕ). four q.stream ++ t) (append_assoc (vector_text q.start) (set ++ (flag ++ eight q.turns)) rest
    ∙ ap (λ (t : List ℕ). vector_text q.start ++ t) (append_assoc set (flag ++ eight q.turns) rest
    ∙ ap (λ (t : List ℕ). set ++ t) (append_assoc flag (eight q.turns) rest))) in
    let tests : is_asking (length q.sub) q.turns ≡ true = and_from _ _ (le-leb _ _ h.some) (and_from _ _ (le-leb _ _ h.from_one) (le-leb _ _ h.most)) in
    ap (λ (t : List ℕ). ask_at (81 ∷ t)) regrouped
    ∙ rw (
      four_field.again q.stream (vector_text q.start ++ (set ++ (flag ++ (eight q.turns ++ rest)))) h.stream,
      vector_field.again q.start (set ++ (flag ++ (eight q.turns ++ rest))) h.start,
      target_field.again q.sub (flag ++ (eight q.turns ++ rest)) (record { set = h.set; few = h.few }),
      (gone_field Two).again q.bodies (eight q.turns ++ rest) tt,
      eight_field.again q.turns rest (omega (arith, h.most)),
      tests,
    ) refl

pub ask_field : IsField ask_at ask_text IsAsk
ask_field = record { takes = ask_takes; again = ask_again }

pub ask_is_read : (bytes rest : List ℕ) (q : Ask) → IsBytes bytes → ask_at bytes ≡ Some (q, rest) → IsAsk q × (bytes ≡ ask_text q ++ rest)
ask_is_read bytes rest q fits e = let r = ask_takes bytes (q, rest) fits e in (r.holds, r.parts)

pub one_ask : (p q : Ask) (x y : List ℕ) → IsAsk p → IsAsk q → ask_text p ++ x ≡ ask_text q ++ y → (p ≡ q) × (x ≡ y)
one_ask p q x y h k e =
    let same = some_is (p, x) (q, y) (sym (ask_again p x h) ∙ ap ask_at e ∙ ask_again q y k) in
    (ap (λ (r : Ask × List ℕ). r.0) same, ap (λ (r : Ask × List ℕ). r.1) same)

-- ---- writing

-- the fields were added one behind the other
pub all_added : {E : Type 0} (r : Result (Unit {0}) E) (q : Ask) (old a b c d f g : List ℕ) → a ≡ old ++ 81 ∷ [] → b ≡ a ++ four q.stream → c ≡ b ++ vector_text q.start → d ≡ c ++ list_text span_text q.sub → f ≡ d ++ flag_text q.bodies → OnOk r (g ≡ f ++ eight q.turns) → OnOk r (g ≡ old ++ ask_text q)
unfolding ask_text
all_added (Err e) q old a b c d f g pa pb pc pd pf pg = tt
all_added (Ok done) q old a b c d f g pa pb pc pd pf pg =
    let flag = flag_text q.bodies in
    let set = list_text span_text q.sub in
    let on_f : g ≡ d ++ (flag ++ eight q.turns) = pg ∙ ap (λ (t : List ℕ). t ++ eight q.turns) pf ∙ append_assoc d flag (eight q.turns) in
    let on_d : g ≡ c ++ (set ++ (flag ++ eight q.turns)) = on_f ∙ ap (λ (t : List ℕ). t ++ (flag ++ eight q.turns)) pd ∙ append_assoc c set (flag ++ eight q.turns) in
    let on_c : g ≡ b ++ (vector_text q.start ++ (set ++ (flag ++ eight q.turns))) = on_d ∙ ap (λ (t : List ℕ). t ++ (set ++ (flag ++ eight q.turns))) pc ∙ append_assoc b (vector_text q.start) (set ++ (flag ++ eight q.turns)) in
    let on_b : g ≡ a ++ (four q.stream ++ (vector_text q.start ++ (set ++ (flag ++ eight q.turns)))) = on_c ∙ ap (λ (t : List ℕ). t ++ (vector_text q.start ++ (set ++ (flag ++ eight q.turns)))) pb ∙ append_assoc a (four q.stream) (vector_text q.start ++ (set ++ (flag ++ eight q.turns))) in
    on_b ∙ ap (λ (t : List ℕ). t ++ (four q.stream ++ (vector_text q.start ++ (set ++ (flag ++ eight q.turns))))) pa ∙ append_assoc old (81 ∷ []) (four q.stream ++ (vector_text q.start ++ (set ++ (flag ++ eight q.turns))))
