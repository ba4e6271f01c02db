use Rattle.session_model.proofs.SampleLemmas.{few_samples, opened_sample, samples_stay}
use Rattle.session_model.proofs.sample_laws.samples_follow_the_openings.Goals as goal

pub returns : goal.returns
returns c = record { few = few_samples; opened = opened_sample; stay = samples_stay }
