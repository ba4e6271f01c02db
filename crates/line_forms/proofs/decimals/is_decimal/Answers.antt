use Rattle.line_forms.proofs.FormLemmas.{digits_pass}
use Rattle.line_forms.proofs.decimals.is_decimal.Goals as goal

pub returns-then-word-most-clause-digits : goal.returns-then-word-most-clause-digits
returns-then-word-most-clause-digits c passed = digits_pass c.args.word.now (cc)
