use Rattle.std.proofs.Common.{rules, ◌∙◌, arith, ap, List, ℕ}
use Rattle.std.specs.Prelude.{is_some}
use Rattle.hamming_model.specs.History.{code_at}
use Rattle.shard_version.proofs.SharedLemmas.{IsBucketOf, own_ascend, own_code}
use Rattle.shard_version.proofs.keyed_rows.KeyedRows.has_key.Goals as goal

pub has_key-requires : goal.has_key-requires
has_key-requires g c =
    let is : IsBucketOf c.self.inside.number c.self.inside.buckets.items c.args.self.now c.args.key c.index.result.now = record {
      kept = c.self.invariant;
      seen = c.self.view_is;
      stands = c.index.ensures;
    } in
    let few = c.requires in
    (omega arith, (search rules, rw c.deref.ensures (own_ascend is)))

pub returns : goal.returns
returns g c =
    let is : IsBucketOf c.self.inside.number c.self.inside.buckets.items c.args.self.now c.args.key c.index.result.now = record {
      kept = c.self.invariant;
      seen = c.self.view_is;
      stands = c.index.ensures;
    } in
    c.has_key.ensures ∙ ap (λ (rows : List (ℕ × List ℕ)). is_some (code_at rows c.args.key)) c.deref.ensures ∙ ap (λ found. is_some found) (own_code is)
