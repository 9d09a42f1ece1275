use Rattle.std.proofs.Common.{◌+◌, ◌∙◌, ap}
use Rattle.std.proofs.KnownBytes.{Appends-trans}
use Rattle.report.proofs.Prefixes.{in_first, in_second, writes_err, writes_after}
use Rattle.journal_views.proofs.sinks.send_steps.Goals as goal

pub returns-in_err-write_script : goal.returns-in_err-write_script
returns-in_err-write_script g c =
    writes_err _ _ _ _ _ _ c.from_residual.ensures.0 (in_first _ _ _ _ (in_first _ _ _ _ c.in_err-write_script.ensures.0)) c.in_err-write_script.ensures.1

pub returns-in_err-offer : goal.returns-in_err-offer
returns-in_err-offer g c =
    writes_err _ _ _ _ _ _ c.from_residual-in_err-offer.ensures.0
    (in_first _ _ _ _ (in_second _ _ _ _ _ c.in_ok-write_script.ensures.0 c.in_err-offer.ensures.0))
    (c.in_err-offer.ensures.1 ∙ ap (λ n. n + 1) c.in_ok-write_script.ensures.1)

pub returns : goal.returns
returns g c =
    writes_after _ _ _ _ _ _ _ _ _ (Appends-trans _ _ _ _ _ c.in_ok-write_script.ensures.0 c.in_ok-offer.ensures.0)
    (c.in_ok-offer.ensures.1 ∙ c.in_ok-write_script.ensures.1) c.send_text.ensures
