-- What is read is an event of the world's bits.
use Rattle.std.proofs.Common.{ℕ}
use Rattle.entry_log.specs.declared.op.Op.TheVariants as op
use Rattle.world_model.specs.Events.{Setting, IsFormed}
use Rattle.trace_lines.specs.EventRequests.{IsFitEvent, event_of}
use Rattle.trace_lines.specs.declared.event_request.EventRequest.{EventRequest}
use Rattle.trace_lines.specs.declared.event_request.EventRequest.TheVariants as kept

pub fit_is_formed : (W : ℕ) (z : Setting) (request : EventRequest W) → IsFitEvent W z.bits request
    → IsFormed z (event_of z.bits request)
fit_is_formed W z (kept.Commit who (op.Add key stored)) fit = fit.is_code
fit_is_formed W z (kept.Commit who (op.Delete key)) fit = tt
fit_is_formed W z (kept.OpenRange who tau stored) fit = (fit.0.is_code, fit.1)
fit_is_formed W z (kept.OpenNear who k stored) fit = (fit.0.is_code, fit.1)
fit_is_formed W z (kept.Advance query shard) fit = tt
fit_is_formed W z (kept.Pin query shard) fit = tt
fit_is_formed W z (kept.Poll query shard budget) fit = fit
fit_is_formed W z (kept.Give query) fit = tt
fit_is_formed W z (kept.Cancel query) fit = tt
fit_is_formed W z (kept.BuildStart shard layout) fit = fit
fit_is_formed W z (kept.BuildStep shard rows) fit = tt
fit_is_formed W z (kept.Follow shard) fit = tt
fit_is_formed W z (kept.Swap shard) fit = tt
