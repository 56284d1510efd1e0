use Rattle.std.proofs.Common.{◌∙◌, ap, sym}
use Rattle.clap.specs.Simple.{app_of, app_of_fields}
use Rattle.command_line.specs.CommandLine.{our_app, with_version}
use Rattle.command_line.proofs.ParserLemmas.{our_app-is, our_app-is_simple, our_app-is-free}
use Rattle.command_line.proofs.ParserLemmas.{parse-of-equal}
use Rattle.command_line.proofs.command.parse.Goals as goal

pub returns : goal.returns
returns c = parse-of-equal (app_of c.after_help.result) our_app _ c.try_get_matches_from.result
    (ap app_of_fields c.after_help.ensures ∙ ap app_of_fields c.version.ensures
    ∙ ap (λ f. with_version (app_of_fields f)) c.about.ensures
    ∙ ap with_version c.in_ok-command.ensures ∙ sym our_app-is)
    our_app-is_simple our_app-is-free c.try_get_matches_from.ensures.matches
    c.try_get_matches_from.ensures.kinds
