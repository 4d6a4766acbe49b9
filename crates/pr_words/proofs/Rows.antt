-- What `clap` keeps of the words: for each argument that was used a row with its value.
use Rattle.std.proofs.Common.{◌≡◌, ◌∙◌, Bool, true, false, cond, ◌||◌, List, [], ◌∷◌, ◌++◌, map, Option, Some, None, refl, sym, ap, append-nil}
use Rattle.std.specs.Prelude.{is_some, find, option_and_then, slice_get}
use Rattle.std.specs.List.{list_any}
use Rattle.std.specs.Option.{option_map_or}
use Rattle.std.specs.Str.{bytes_eq}
use Rattle.std.proofs.lemmas.List.{map-append}
use Rattle.clap.specs.Facts.{explicit_source}
use Rattle.clap.specs.Takes.{is_given}
use Rattle.clap.specs.Walk.{Row, Text, at_row, first_of, has_row, more_values, used, with_values, without}
use Rattle.clap.specs.declared.builder.value_parser.Reading.TheVariants as readings
use Rattle.clap.specs.declared.parser.matches.ValueSource.TheVariants.{CommandLine}
use Rattle.pr_words.proofs.Arguments.{Slot, at_key, at_mode, name, rule}

abbrev pub row : Slot × Text → Row
row e = record { id = name e.0; values = e.1 ∷ []; count = None; source = Some CommandLine; reading = readings.AsWritten }

-- the first value of an argument
abbrev pub value_in : List (Slot × Text) → Slot → Option Text
value_in [] a = None
value_in (e ∷ es) a = cond (bytes_eq (name e.0) (name a)) (Some e.1) (value_in es a)

-- ---- what is asked of the rows

pub first_is : (es : List (Slot × Text)) (a : Slot) → first_of (name a) (map row es) ≡ value_in es a
first_is [] a = refl
first_is (e ∷ es) a = go (bytes_eq (name e.0) (name a)) (first_is es a)
  where
    go : (t : Bool) → option_and_then (λ (r : Row). slice_get r.values 0) (find (λ r. bytes_eq r.id (name a)) (map row es)) ≡ value_in es a
        → option_and_then (λ (r : Row). slice_get r.values 0) (cond t (Some (row e)) (find (λ r. bytes_eq r.id (name a)) (map row es))) ≡ cond t (Some e.1) (value_in es a)
    go true h = refl
    go false h = h

pub has_is : (es : List (Slot × Text)) (a : Slot) → has_row (name a) (map row es) ≡ is_some (value_in es a)
has_is [] a = refl
has_is (e ∷ es) a = go (bytes_eq (name e.0) (name a)) (has_is es a)
  where
    go : (t : Bool) → list_any (λ r. bytes_eq r.id (name a)) (map row es) ≡ is_some (value_in es a)
        → (t || list_any (λ r. bytes_eq r.id (name a)) (map row es)) ≡ is_some (cond t (Some e.1) (value_in es a))
    go true h = refl
    go false h = h

pub given_is : (es : List (Slot × Text)) (a : Slot) → is_given (name a) (map row es) ≡ is_some (value_in es a)
given_is [] a = refl
given_is (e ∷ es) a = go (bytes_eq (name e.0) (name a)) (given_is es a)
  where
    go : (t : Bool) → option_map_or (λ (r : Row). explicit_source r.source) (find (λ r. bytes_eq r.id (name a)) (map row es)) false ≡ is_some (value_in es a)
        → option_map_or (λ (r : Row). explicit_source r.source) (cond t (Some (row e)) (find (λ r. bytes_eq r.id (name a)) (map row es))) false
        ≡ is_some (cond t (Some e.1) (value_in es a))
    go true h = refl
    go false h = h

-- ---- one use more

abbrev pub or_some : Option Text → Option Text → Option Text
or_some None o = o
or_some (Some v) o = Some v

pub more_is : (es : List (Slot × Text)) (a : Slot) (v : Text) (b : Slot)
    → value_in (es ++ (a, v) ∷ []) b ≡ or_some (value_in es b) (cond (bytes_eq (name a) (name b)) (Some v) None)
more_is [] a v b = refl
more_is (e ∷ es) a v b = go (bytes_eq (name e.0) (name b)) (more_is es a v b)
  where
    go : (t : Bool) → value_in (es ++ (a, v) ∷ []) b ≡ or_some (value_in es b) (cond (bytes_eq (name a) (name b)) (Some v) None)
        → cond t (Some e.1) (value_in (es ++ (a, v) ∷ []) b) ≡ or_some (cond t (Some e.1) (value_in es b)) (cond (bytes_eq (name a) (name b)) (Some v) None)
    go true h = refl
    go false h = h

-- where no row has the id, the new rows come last
appended : (id : Text) (change : Row → List Row) (missing rs : List Row) → has_row id rs ≡ false → at_row id change missing rs ≡ rs ++ missing
appended id change missing [] h = refl
appended id change missing (r ∷ rs) h = go (bytes_eq r.id id) (appended id change missing rs) h
  where
    go : (t : Bool) → (has_row id rs ≡ false → at_row id change missing rs ≡ rs ++ missing) → (t || list_any (λ q. bytes_eq q.id id) rs) ≡ false
        → cond t (change r ++ rs) (r ∷ at_row id change missing rs) ≡ r ∷ (rs ++ missing)
    go true again k = absurd cc
    go false again k = ap (λ (x : List Row). r ∷ x) (again k)

used_as_set : (a : Slot) (v : Text) (rs : List Row)
    → used (rule a) (v ∷ []) rs ≡ with_values (name a) readings.AsWritten CommandLine (v ∷ []) (without (name a) rs)
unfolding rule
used_as_set at_mode v rs = refl
used_as_set (at_key k) v rs = refl

pub used_is : (es : List (Slot × Text)) (a : Slot) (v : Text) → value_in es a ≡ None → used (rule a) (v ∷ []) (map row es) ≡ map row (es ++ (a, v) ∷ [])
used_is es a v n =
    let h : has_row (name a) (map row es) ≡ false = has_is es a ∙ ap is_some n in
    let w : without (name a) (map row es) ≡ map row es = appended (name a) (λ _. []) [] (map row es) h ∙ append-nil (map row es) in
    let one : List Row = row (a, v) ∷ [] in
    used_as_set a v (map row es)
    ∙ ap (λ (x : List Row). with_values (name a) readings.AsWritten CommandLine (v ∷ []) x) w
    ∙ appended (name a) (more_values CommandLine (v ∷ [])) (row (a, v) ∷ []) (map row es) h
    ∙ sym (map-append row es ((a, v) ∷ []))
