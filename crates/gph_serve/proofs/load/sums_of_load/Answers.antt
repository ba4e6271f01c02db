-- What the replies add up to.
use Rattle.std.proofs.Common.{ℕ, List, Some, sym, ap, ◌∙◌}
use Rattle.line_io.specs.Objects.{MemoryOutput}
use Rattle.gph_serve.proofs.RunLemmas.{done_run}
use Rattle.gph_serve.proofs.LoadLemmas.{LawsOfLoad, sums_when_done}
use Rattle.gph_serve.proofs.load.sums_of_load.Goals as goal

pub returns-in-Done : goal.returns-in-Done
returns-in-Done g c =
    let config = c.args.config.now in
    let load = c.requires.load in
    let laws : LawsOfLoad config c.args.number c.args.codes = record {
      beginning = λ bytes rest same. c.no_line_of_a_load_quits.ensures.beginning config c.args.number c.args.codes bytes rest
          load.of_session load.few_codes same;
      whole = c.no_line_of_a_load_quits.ensures.whole config c.args.number c.args.codes load.of_session load.few_codes;
      written = λ exchanges rise lines_are served. c.replies_to_a_load.ensures config c.args.number c.args.codes exchanges rise
          load.of_session load.few_codes lines_are served;
      adds_up = λ exchanges rise lines_are served. c.sums_of_a_load.ensures config c.args.number c.args.codes exchanges rise
          load.of_session load.few_codes load.entries lines_are served;
    } in
    sums_when_done config c.args.number c.args.codes laws _
    (done_run config _ _ c.session-report.result c.in-Ok-new.ensures.begins _ (c.session-report.ensures.done c.in-Done.is))
    c.bytes.result.now c.of.result c.of.ensures.sums (ap (λ (left : List ℕ). Some left) (c.new-source.ensures.left ∙ c.in-Ok.ensures))
    (ap (λ (sink : MemoryOutput). Some sink.held) c.new-replies.ensures) (ap (λ (held : List ℕ). Some held) (sym c.bytes.ensures))
