-- A range query of a small radius joins the samples, and no other.
use Rattle.std.proofs.Common.{sym, subst, take, refl, arith}
use Rattle.hamming_model.specs.Scan as ask
use Rattle.layout_search.specs.Improves.{AreSamples}
use Rattle.open_session.specs.Questions.{ask_of}
use Rattle.open_session.specs.Samples.{SamplesJoined}
use Rattle.open_session.proofs.KeptSamples.{joined_none, joined_one, samples_with, small_range, wide_range}
use Rattle.open_session.proofs.samples.Samples.join.Goals as goal

pub returns-then-tau-le-SAMPLE_RADIUS_MOST-clause-joined : goal.returns-then-tau-le-SAMPLE_RADIUS_MOST-clause-joined
returns-then-tau-le-SAMPLE_RADIUS_MOST-clause-joined g c = λ bits.
    let code = take bits c.args.code in
    let tau = c.in-Range.tau in
    subst (λ q. SamplesJoined bits (ask_of q code) c.args.self.now c.push.new.self) (sym c.in-Range.is)
    (subst (SamplesJoined bits (ask.Range tau code) c.args.self.now) (sym c.push.ensures)
    (joined_one bits c.args.self.now (record { query = c.args.code; tau = tau }) (ask.Range tau code)
    (small_range tau code (omega (arith, c.if-tau-le-SAMPLE_RADIUS_MOST.true)))))

pub returns-then-tau-le-SAMPLE_RADIUS_MOST-clause-samples : goal.returns-then-tau-le-SAMPLE_RADIUS_MOST-clause-samples
returns-then-tau-le-SAMPLE_RADIUS_MOST-clause-samples g c = λ bits stands are.
    subst (AreSamples bits) (sym c.push.ensures)
    (samples_with bits c.args.self.now (record { query = c.args.code; tau = c.in-Range.tau }) are
    (record { query = stands; near = omega (arith, c.if-tau-le-SAMPLE_RADIUS_MOST.true) }))

pub returns-else-tau-le-SAMPLE_RADIUS_MOST-clause-joined : goal.returns-else-tau-le-SAMPLE_RADIUS_MOST-clause-joined
returns-else-tau-le-SAMPLE_RADIUS_MOST-clause-joined g c = λ bits.
    let code = take bits c.args.code in
    subst (λ q. SamplesJoined bits (ask_of q code) c.args.self.now c.args.self.now) (sym c.in-Range.is)
    (joined_none bits c.args.self.now (ask.Range c.in-Range.tau code) c.all-samples.ensures.few
    (wide_range c.in-Range.tau code (omega (arith, c.if-tau-le-SAMPLE_RADIUS_MOST.false))))

pub returns-in_default-clause-joined : goal.returns-in_default-clause-joined
returns-in_default-clause-joined g c = λ bits.
    subst (λ q. SamplesJoined bits (ask_of q (take bits c.args.code)) c.args.self.now c.args.self.now)
    (sym c.in_default.is)
    (joined_none bits c.args.self.now (ask.Near c.in_default.field-0 (take bits c.args.code))
    c.all-samples.ensures.few refl)
