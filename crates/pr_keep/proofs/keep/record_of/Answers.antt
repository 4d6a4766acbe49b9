use Rattle.std.proofs.Common.{◌≡◌, ℕ, ◌+◌, ◌-◌, List, [], ◌∷◌, ◌++◌, length, drop, ap, ◌∙◌, arith}
use Rattle.pr_wire.specs.Spelling.{eight}
use Rattle.pr_wire.proofs.Fields.{length-eight}
use Rattle.pr_keep.specs.Disk.{written}
use Rattle.pr_keep.specs.Spelling.{counted_text, entry_text}
use Rattle.pr_keep.proofs.keep.record_of.Goals as goal

-- the length lies over eight zeros
abbrev zeros : List ℕ
zeros = 0 ∷ 0 ∷ 0 ∷ 0 ∷ 0 ∷ 0 ∷ 0 ∷ 0 ∷ []

sized : (text items head new : List ℕ) (len : ℕ) → items ≡ zeros ++ text → len ≡ length items - 8 → head ≡ eight len → new ≡ written 0 head items → new ≡ counted_text text
unfolding counted_text
sized text items head new len items_are len_is head_is is =
    let few : len ≡ length text = omega (arith, len_is, ap length items_are) in
    let eight_bytes : 0 + length head ≡ 8 = omega (arith, ap length head_is, length-eight len) in
    is
    ∙ ap (λ (n : ℕ). head ++ drop n items) eight_bytes
    ∙ ap (λ (t : List ℕ). head ++ drop 8 t) items_are
    ∙ ap (λ (t : List ℕ). t ++ text) head_is
    ∙ ap (λ (n : ℕ). eight n ++ text) few

pub returns-clause-text : goal.returns-clause-text
unfolding eight
returns-clause-text c =
    let text = entry_text (c.args.node, c.args.entry.now) in
    let items : c.into_vec-bytes.result.items ≡ zeros ++ text =
    c.into_vec-bytes.ensures ∙ c.in_ok-append_entry.ensures.text ∙ ap (λ (t : List ℕ). t ++ text) (c.in_ok-extend.ensures.ok ∙ ap (λ (t : List ℕ). t ++ zeros) c.new-text.ensures) in
    c.in_ok-push.ensures.items
    ∙ ap (λ (t : List ℕ). t ++ 0 ∷ []) (sized text c.into_vec-bytes.result.items c.to_be_bytes.result c.lay.new.bytes.items (c.len.result - 8) items (omega (arith, c.len.ensures)) c.to_be_bytes.ensures c.lay.ensures)
