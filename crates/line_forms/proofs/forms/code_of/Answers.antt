use Rattle.std.proofs.Common.{refl}
use Rattle.line_forms.proofs.CodeLemmas.{kept_code, no_code, stands_for_own}
use Rattle.hamming_model.specs.Codes.{hex_code}
use Rattle.line_forms.proofs.forms.code_of.Goals as goal

pub returns-in-Ok-clause-value : goal.returns-in-Ok-clause-value
returns-in-Ok-clause-value g c =
    kept_code g.row.W c.args.bits c.args.word.now c.in-Ok.code (c.in-Ok.ensures.ok.0 refl) c.in-Ok.ensures.code

pub returns-in-Ok-clause-fit : goal.returns-in-Ok-clause-fit
returns-in-Ok-clause-fit g c =
    stands_for_own g.row.W c.args.bits c.in-Ok.code (hex_code c.args.word.now) c.in-Ok.ensures.code

pub returns-in-Err-clause-value : goal.returns-in-Err-clause-value
returns-in-Err-clause-value g c = no_code c.args.bits c.args.word.now (λ spelled. let differ = c.in-Err.ensures.ok.1 spelled in cc)
