use Rattle.command_line.proofs.ConfigLemmas.{config_within, config_value}
use Rattle.command_line.proofs.given.Given.config.Goals as goal

pub returns-clause-within : goal.returns-clause-within
returns-clause-within c =
    config_within _ c.number_or-bits.ensures.within c.in_ok-parts.ensures.cut c.number_or.ensures.within c.number_or-2.ensures.within
    c.number_or-3.ensures.within c.number_or-4.ensures.within

pub returns-clause-value : goal.returns-clause-value
returns-clause-value c = λ settings same.
    config_value c.args.self settings _ _ _ _ _ _ same c.number_or-bits.ensures.value c.in_ok-parts.ensures.value c.number_or.ensures.value
    c.number_or-2.ensures.value c.number_or-3.ensures.value c.number_or-4.ensures.value
