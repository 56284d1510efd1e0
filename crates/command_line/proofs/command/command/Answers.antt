use Rattle.std.proofs.Common.{◌∙◌, ap₂}
use Rattle.std.proofs.lemmas.Result.{IfOk-weaker}
use Rattle.clap.specs.Simple.{with_rule}
use Rattle.command_line.proofs.command.command.Goals as goal

pub returns : goal.returns
returns c = IfOk-weaker c.arg-9.result _ _
    (λ r added. added.shape c.addresses.ensures.local ∙ ap₂ with_rule
    (c.in_ok-arg-8.ensures.shape c.cache.ensures.local ∙ ap₂ with_rule
    (c.in_ok-arg-7.ensures.shape c.exe.ensures.local ∙ ap₂ with_rule
    (c.in_ok-arg-6.ensures.shape c.linkage.ensures.local ∙ ap₂ with_rule
    (c.in_ok-arg-5.ensures.shape c.flag-5.ensures.local ∙ ap₂ with_rule
    (c.in_ok-arg-4.ensures.shape c.flag-4.ensures.local ∙ ap₂ with_rule
    (c.in_ok-arg-3.ensures.shape c.flag-3.ensures.local ∙ ap₂ with_rule
    (c.in_ok-arg-2.ensures.shape c.flag-2.ensures.local ∙ ap₂ with_rule
    (c.in_ok-arg.ensures.shape c.flag.ensures.local ∙ ap₂ with_rule c.new.ensures.app
    c.flag.ensures.rule)
    c.flag-2.ensures.rule) c.flag-3.ensures.rule) c.flag-4.ensures.rule) c.flag-5.ensures.rule)
    c.linkage.ensures.rule) c.exe.ensures.rule) c.cache.ensures.rule) c.addresses.ensures.rule)
    c.arg-9.ensures
