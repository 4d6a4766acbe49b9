-- The last lines of a transcript.
use Rattle.std.specs.Prelude.{ℕ, ◌/◌, ◌%◌, List, [], ◌∷◌, ◌++◌, codes, decimal}
use Rattle.std.specs.List.{flat_map}
use Rattle.pr_script.specs.declared.decl.Decl.{Decl}
use Rattle.pr_script.specs.declared.kind.Kind.TheVariants as kinds
use Rattle.pr_script.specs.Printing.{hex_digit, label_field}

-- the run ended well, behind n lines
abbrev pub ok_line : ℕ → List ℕ
ok_line n = codes "ok " ++ (decimal n ++ 10 ∷ [])

-- the expectation on this line was not met
abbrev pub unmet_line : ℕ → List ℕ
unmet_line line = codes "unmet " ++ (decimal line ++ 10 ∷ [])

-- the run ended otherwise, for this cause
abbrev pub error_line : List ℕ → List ℕ
error_line cause = codes "error " ++ (cause ++ 10 ∷ [])

-- the script has this first bad line, which breaks this rule
abbrev pub bad_cause : ℕ → ℕ → List ℕ
bad_cause line why = codes "line " ++ (decimal line ++ (codes " why " ++ decimal why))

-- two digits
abbrev pub hex_byte : ℕ → List ℕ
hex_byte b = hex_digit (b / 16) ∷ hex_digit (b % 16) ∷ []

-- what came of this message is not what was sent
abbrev pub lied_cause : List Decl → ℕ → ℕ → List ℕ → List ℕ → List ℕ
lied_cause ds stream number sent got =
    codes "lied" ++ (label_field kinds.Stream ds stream ++ (32 ∷ (decimal number ++ (codes " sent " ++ (flat_map hex_byte sent ++ (codes " got " ++ flat_map hex_byte got))))))
