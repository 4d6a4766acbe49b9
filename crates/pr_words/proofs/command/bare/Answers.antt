use Rattle.std.proofs.Common.{◌≡◌, ◌∙◌, ap, true}
use Rattle.clap.specs.Words.{Shape, app_of}
use Rattle.clap.specs.Simple.{app_of_fields, on_top}
use Rattle.pr_words.proofs.command.bare.Goals as goal

pub returns : goal.returns
returns c =
    let named : app_of c.no_binary_name.result ≡ on_top (λ (s : Shape). record s { no_binary_name = true }) (app_of c.new.result) = ap app_of_fields c.no_binary_name.ensures in
    let helped : app_of c.disable_help_flag.result ≡ on_top (λ (s : Shape). record s { disable_help_flag = true }) (app_of c.no_binary_name.result) =
    ap app_of_fields c.disable_help_flag.ensures in
    helped ∙ ap (on_top (λ (s : Shape). record s { disable_help_flag = true })) (named ∙ ap (on_top (λ (s : Shape). record s { no_binary_name = true })) c.new.ensures.app)
