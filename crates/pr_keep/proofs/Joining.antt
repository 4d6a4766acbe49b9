-- Fields one behind another, of which a value is made; and one of several kinds by a byte in front.
use Rattle.std.proofs.Common.{◌≡◌, ℕ, Bool, true, false, cond, List, ◌∷◌, ◌++◌, Option, Some, refl, sym, ap, subst, ◌∙◌, append_assoc}
use Rattle.std.specs.Prelude.{◌==◌}
use Rattle.std.proofs.lemmas.Bool.{eqb-true}
use Rattle.pr_wire.specs.Reading.{◌>>=◌, byte_at}
use Rattle.pr_wire.proofs.Fields.{IsBytes, IsField, Read, bind_some, byte_field, glue, some_is}

-- ---- reading one to four fields

abbrev pub one : {A E : Type 0} → (A → E) → (List ℕ → Option (A × List ℕ)) → List ℕ → Option (E × List ℕ)
one make a bytes = a bytes >>= λ x. Some (make x.0, x.1)

abbrev pub two : {A B E : Type 0} → (A → B → E) → (List ℕ → Option (A × List ℕ)) → (List ℕ → Option (B × List ℕ)) → List ℕ → Option (E × List ℕ)
two make a b bytes = a bytes >>= λ x. b x.1 >>= λ y. Some (make x.0 y.0, y.1)

abbrev pub three : {A B C E : Type 0} → (A → B → C → E) → (List ℕ → Option (A × List ℕ)) → (List ℕ → Option (B × List ℕ)) → (List ℕ → Option (C × List ℕ)) → List ℕ → Option (E × List ℕ)
three make a b c bytes = a bytes >>= λ x. b x.1 >>= λ y. c y.1 >>= λ z. Some (make x.0 y.0 z.0, z.1)

abbrev pub four_fields : {A B C D E : Type 0} → (A → B → C → D → E) → (List ℕ → Option (A × List ℕ)) → (List ℕ → Option (B × List ℕ)) → (List ℕ → Option (C × List ℕ)) → (List ℕ → Option (D × List ℕ)) → List ℕ → Option (E × List ℕ)
four_fields make a b c d bytes = a bytes >>= λ x. b x.1 >>= λ y. c y.1 >>= λ z. d z.1 >>= λ w. Some (make x.0 y.0 z.0 w.0, w.1)

-- what is read is spelled
abbrev pub Takes : {A : Type 0} → (List ℕ → Option (A × List ℕ)) → (A → List ℕ) → (A → Type 0) → Type 0
Takes {A} at text valid = (bytes : List ℕ) (y : A × List ℕ) → IsBytes bytes → at bytes ≡ Some y → Read text valid bytes y

pub one_takes : {A E : Type 0} (a : List ℕ → Option (A × List ℕ)) (ta : A → List ℕ) (va : A → Type 0) (field : IsField a ta va) (make : A → E) (text : E → List ℕ) (valid : E → Type 0)
    → ((x : A) → text (make x) ≡ ta x) → ((x : A) → va x → valid (make x)) → Takes (one make a) text valid
one_takes a ta va field make text valid is good bytes y fits e =
    let p = bind_some (a bytes) (λ x. Some (make x.0, x.1)) y e in
    let x = field.takes bytes p.0 fits p.1 in
    subst (Read text valid bytes) (some_is (make p.0.0, p.0.1) y p.2) (record {
      parts = x.parts ∙ ap (λ (t : List ℕ). t ++ p.0.1) (sym (is p.0.0));
      fits = x.fits;
      holds = good p.0.0 x.holds;
    })

pub two_takes : {A B E : Type 0} (a : List ℕ → Option (A × List ℕ)) (ta : A → List ℕ) (va : A → Type 0) (first : IsField a ta va) (b : List ℕ → Option (B × List ℕ)) (tb : B → List ℕ) (vb : B → Type 0) (second : IsField b tb vb)
    (make : A → B → E) (text : E → List ℕ) (valid : E → Type 0)
    → ((x : A) (y : B) → text (make x y) ≡ ta x ++ tb y) → ((x : A) (y : B) → va x → vb y → valid (make x y)) → Takes (two make a b) text valid
two_takes a ta va first b tb vb second make text valid is good bytes y fits e =
    let p = bind_some (a bytes) (λ x. b x.1 >>= λ z. Some (make x.0 z.0, z.1)) y e in
    let q = bind_some (b p.0.1) (λ z. Some (make p.0.0 z.0, z.1)) y p.2 in
    let x = first.takes bytes p.0 fits p.1 in
    let z = second.takes p.0.1 q.0 x.fits q.1 in
    subst (Read text valid bytes) (some_is (make p.0.0 q.0.0, q.0.1) y q.2) (record {
      parts = glue bytes (ta p.0.0) p.0.1 (tb q.0.0) q.0.1 x.parts z.parts ∙ ap (λ (t : List ℕ). t ++ q.0.1) (sym (is p.0.0 q.0.0));
      fits = z.fits;
      holds = good p.0.0 q.0.0 x.holds z.holds;
    })

pub three_takes : {A B C E : Type 0} (a : List ℕ → Option (A × List ℕ)) (ta : A → List ℕ) (va : A → Type 0) (first : IsField a ta va) (b : List ℕ → Option (B × List ℕ)) (tb : B → List ℕ) (vb : B → Type 0) (second : IsField b tb vb)
    (c : List ℕ → Option (C × List ℕ)) (tc : C → List ℕ) (vc : C → Type 0) (third : IsField c tc vc)
    (make : A → B → C → E) (text : E → List ℕ) (valid : E → Type 0)
    → ((x : A) (y : B) (z : C) → text (make x y z) ≡ ta x ++ (tb y ++ tc z)) → ((x : A) (y : B) (z : C) → va x → vb y → vc z → valid (make x y z)) → Takes (three make a b c) text valid
three_takes a ta va first b tb vb second c tc vc third make text valid is good bytes y fits e =
    let p = bind_some (a bytes) (λ x. b x.1 >>= λ z. c z.1 >>= λ w. Some (make x.0 z.0 w.0, w.1)) y e in
    let q = bind_some (b p.0.1) (λ z. c z.1 >>= λ w. Some (make p.0.0 z.0 w.0, w.1)) y p.2 in
    let r = bind_some (c q.0.1) (λ w. Some (make p.0.0 q.0.0 w.0, w.1)) y q.2 in
    let x = first.takes bytes p.0 fits p.1 in
    let z = second.takes p.0.1 q.0 x.fits q.1 in
    let w = third.takes q.0.1 r.0 z.fits r.1 in
    let behind = glue p.0.1 (tb q.0.0) q.0.1 (tc r.0.0) r.0.1 z.parts w.parts in
    subst (Read text valid bytes) (some_is (make p.0.0 q.0.0 r.0.0, r.0.1) y r.2) (record {
      parts = glue bytes (ta p.0.0) p.0.1 (tb q.0.0 ++ tc r.0.0) r.0.1 x.parts behind ∙ ap (λ (t : List ℕ). t ++ r.0.1) (sym (is p.0.0 q.0.0 r.0.0));
      fits = w.fits;
      holds = good p.0.0 q.0.0 r.0.0 x.holds z.holds w.holds;
    })

pub four_take : {A B C D E : Type 0} (a : List ℕ → Option (A × List ℕ)) (ta : A → List ℕ) (va : A → Type 0) (first : IsField a ta va) (b : List ℕ → Option (B × List ℕ)) (tb : B → List ℕ) (vb : B → Type 0) (second : IsField b tb vb)
    (c : List ℕ → Option (C × List ℕ)) (tc : C → List ℕ) (vc : C → Type 0) (third : IsField c tc vc) (d : List ℕ → Option (D × List ℕ)) (td : D → List ℕ) (vd : D → Type 0) (fourth : IsField d td vd)
    (make : A → B → C → D → E) (text : E → List ℕ) (valid : E → Type 0)
    → ((x : A) (y : B) (z : C) (w : D) → text (make x y z w) ≡ ta x ++ (tb y ++ (tc z ++ td w))) → ((x : A) (y : B) (z : C) (w : D) → va x → vb y → vc z → vd w → valid (make x y z w)) → Takes (four_fields make a b c d) text valid
four_take a ta va first b tb vb second c tc vc third d td vd fourth make text valid is good bytes y fits e =
    let p = bind_some (a bytes) (λ x. b x.1 >>= λ z. c z.1 >>= λ w. d w.1 >>= λ v. Some (make x.0 z.0 w.0 v.0, v.1)) y e in
    let q = bind_some (b p.0.1) (λ z. c z.1 >>= λ w. d w.1 >>= λ v. Some (make p.0.0 z.0 w.0 v.0, v.1)) y p.2 in
    let r = bind_some (c q.0.1) (λ w. d w.1 >>= λ v. Some (make p.0.0 q.0.0 w.0 v.0, v.1)) y q.2 in
    let s = bind_some (d r.0.1) (λ v. Some (make p.0.0 q.0.0 r.0.0 v.0, v.1)) y r.2 in
    let x = first.takes bytes p.0 fits p.1 in
    let z = second.takes p.0.1 q.0 x.fits q.1 in
    let w = third.takes q.0.1 r.0 z.fits r.1 in
    let v = fourth.takes r.0.1 s.0 w.fits s.1 in
    let last = glue q.0.1 (tc r.0.0) r.0.1 (td s.0.0) s.0.1 w.parts v.parts in
    let behind = glue p.0.1 (tb q.0.0) q.0.1 (tc r.0.0 ++ td s.0.0) s.0.1 z.parts last in
    subst (Read text valid bytes) (some_is (make p.0.0 q.0.0 r.0.0 s.0.0, s.0.1) y s.2) (record {
      parts = glue bytes (ta p.0.0) p.0.1 (tb q.0.0 ++ (tc r.0.0 ++ td s.0.0)) s.0.1 x.parts behind ∙ ap (λ (t : List ℕ). t ++ s.0.1) (sym (is p.0.0 q.0.0 r.0.0 s.0.0));
      fits = v.fits;
      holds = good p.0.0 q.0.0 r.0.0 s.0.0 x.holds z.holds w.holds v.holds;
    })

-- ---- what is spelled is read

pub one_again : {A E : Type 0} (a : List ℕ → Option (A × List ℕ)) (ta : A → List ℕ) (va : A → Type 0) (field : IsField a ta va) (make : A → E) (x : A) (rest : List ℕ) → va x → one make a (ta x ++ rest) ≡ Some (make x, rest)
one_again a ta va field make x rest h = rw (field.again x rest h) refl

pub two_again : {A B E : Type 0} (a : List ℕ → Option (A × List ℕ)) (ta : A → List ℕ) (va : A → Type 0) (first : IsField a ta va) (b : List ℕ → Option (B × List ℕ)) (tb : B → List ℕ) (vb : B → Type 0) (second : IsField b tb vb)
    (make : A → B → E) (x : A) (y : B) (rest : List ℕ) → va x → vb y → two make a b ((ta x ++ tb y) ++ rest) ≡ Some (make x y, rest)
two_again a ta va first b tb vb second make x y rest hx hy =
    ap (two make a b) (append_assoc (ta x) (tb y) rest) ∙ rw (first.again x (tb y ++ rest) hx, second.again y rest hy) refl

pub three_again : {A B C E : Type 0} (a : List ℕ → Option (A × List ℕ)) (ta : A → List ℕ) (va : A → Type 0) (first : IsField a ta va) (b : List ℕ → Option (B × List ℕ)) (tb : B → List ℕ) (vb : B → Type 0) (second : IsField b tb vb)
    (c : List ℕ → Option (C × List ℕ)) (tc : C → List ℕ) (vc : C → Type 0) (third : IsField c tc vc)
    (make : A → B → C → E) (x : A) (y : B) (z : C) (rest : List ℕ) → va x → vb y → vc z → three make a b c ((ta x ++ (tb y ++ tc z)) ++ rest) ≡ Some (make x y z, rest)
three_again a ta va first b tb vb second c tc vc third make x y z rest hx hy hz =
    let regrouped : (ta x ++ (tb y ++ tc z)) ++ rest ≡ ta x ++ (tb y ++ (tc z ++ rest)) =
    append_assoc (ta x) (tb y ++ tc z) rest ∙ ap (λ (t : List ℕ). ta x ++ t) (append_assoc (tb y) (tc z) rest) in
    ap (three make a b c) regrouped ∙ rw (first.again x (tb y ++ (tc z ++ rest)) hx, second.again y (tc z ++ rest) hy, third.again z rest hz) refl

pub four_again : {A B C D E : Type 0} (a : List ℕ → Option (A × List ℕ)) (ta : A → List ℕ) (va : A → Type 0) (first : IsField a ta va) (b : List ℕ → Option (B × List ℕ)) (tb : B → List ℕ) (vb : B → Type 0) (second : IsField b tb vb)
    (c : List ℕ → Option (C × List ℕ)) (tc : C → List ℕ) (vc : C → Type 0) (third : IsField c tc vc) (d : List ℕ → Option (D × List ℕ)) (td : D → List ℕ) (vd : D → Type 0) (fourth : IsField d td vd)
    (make : A → B → C → D → E) (x : A) (y : B) (z : C) (w : D) (rest : List ℕ) → va x → vb y → vc z → vd w → four_fields make a b c d ((ta x ++ (tb y ++ (tc z ++ td w))) ++ rest) ≡ Some (make x y z w, rest)
four_again a ta va first b tb vb second c tc vc third d td vd fourth make x y z w rest hx hy hz hw =
    let regrouped : (ta x ++ (tb y ++ (tc z ++ td w))) ++ rest ≡ ta x ++ (tb y ++ (tc z ++ (td w ++ rest))) =
    append_assoc (ta x) (tb y ++ (tc z ++ td w)) rest ∙ ap (λ (t : List ℕ). ta x ++ t) (append_assoc (tb y) (tc z ++ td w) rest ∙ ap (λ (t : List ℕ). tb y ++ t) (append_assoc (tc z) (td w) rest)) in
    ap (four_fields make a b c d) regrouped
    ∙ rw (first.again x (tb y ++ (tc z ++ (td w ++ rest))) hx, second.again y (tc z ++ (td w ++ rest)) hy, third.again z (td w ++ rest) hz, fourth.again w rest hw) refl

-- ---- kinds

by_test : {A : Type 0} (b : Bool) (k n : ℕ) (p q : Option A) (y : A) (P : ℕ → Type 0) → (b ≡ true → k ≡ n) → cond b p q ≡ Some y → (p ≡ Some y → P n) → (q ≡ Some y → P k) → P k
by_test true k n p q y P is e on off = subst P (sym (is refl)) (on e)
by_test false k n p q y P is e on off = off e

-- the kind is this one, or one of the others
pub chosen : {A : Type 0} (k n : ℕ) (p q : Option A) (y : A) (P : ℕ → Type 0) → cond (k == n) p q ≡ Some y → (p ≡ Some y → P n) → (q ≡ Some y → P k) → P k
chosen k n p q y P e on off = by_test (k == n) k n p q y P (eqb-true k n) e on off

pub record IsTagged {A : Type 0} (tag : A → ℕ) (valid : A → Type 0) (k : ℕ) (x : A) : Type 0 where
  pub is : valid x
  pub byte : tag x ≡ k

pub tagged_takes : {A : Type 0} (by : ℕ → List ℕ → Option (A × List ℕ)) (tag : A → ℕ) (fields : A → List ℕ) (valid : A → Type 0)
    → ((k : ℕ) → Takes (by k) fields (IsTagged tag valid k)) → Takes (λ bytes. byte_at bytes >>= λ kind. by kind.0 kind.1) (λ x. tag x ∷ fields x) valid
tagged_takes by tag fields valid each bytes y fits e =
    let p = bind_some (byte_at bytes) (λ kind. by kind.0 kind.1) y e in
    let kind = byte_field.takes bytes p.0 fits p.1 in
    let x = each p.0.0 p.0.1 y kind.fits p.2 in
    record {
      parts = kind.parts ∙ ap (λ (t : List ℕ). p.0.0 ∷ t) x.parts ∙ ap (λ (k : ℕ). k ∷ (fields y.0 ++ y.1)) (sym x.holds.byte);
      fits = x.fits;
      holds = x.holds.is;
    }
