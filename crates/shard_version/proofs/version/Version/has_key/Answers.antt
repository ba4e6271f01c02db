use Rattle.std.proofs.Common.{◌∙◌, sym, ap}
use Rattle.std.specs.Prelude.{is_some}
use Rattle.hamming_model.specs.History.{code_at}
use Rattle.shard_version.specs.Contents.{Contents}
use Rattle.shard_version.specs.Tables.{Tabled}
use Rattle.shard_version.proofs.KeptLemmas.{stands_unpadded}
use Rattle.shard_version.proofs.version.Version.has_key.Goals as goal

pub returns : goal.returns
returns g c =
    c.has_key.ensures ∙ sym (stands_unpadded _ c.self.inside.rows c.args.key)
    ∙ ap (λ (contents : Contents). is_some (code_at contents.rows c.args.key)) (ap (λ (version : Tabled). version.contents) c.self.view_is)
