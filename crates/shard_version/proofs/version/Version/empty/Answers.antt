-- The version before the first entry.
use Rattle.std.proofs.Common.{length, subst}
use Rattle.std.specs.Arc.{arc_value}
use Rattle.part_layout.specs.Laid.{IsLaid, Laid}
use Rattle.shard_version.specs.KeptParts.{AreEmpty}
use Rattle.shard_version.proofs.KeptLemmas.{kept_empty}
use Rattle.shard_version.proofs.version.Version.empty.Goals as goal

pub invariant_of-result : goal.invariant_of-result
invariant_of-result g c =
    let layout = arc_value c.args.layout in
    let laid : IsLaid layout = subst (λ (one : Laid). IsLaid one) c.deref.ensures c.parts-parts.ensures.layout in
    let empty : AreEmpty layout c.in_ok-tables.tables.items (length layout.parts) = subst
    (λ (one : Laid). AreEmpty one c.in_ok-tables.tables.items (length one.parts)) c.deref-2.ensures c.in_ok-tables.ensures in
    rw (c.in_ok-rows.ensures, c.in_ok-masked.ensures)
    (kept_empty c.args.shard c.args.shards layout c.in_ok-tables.tables.items laid c.requires.own_shard c.requires.few_shards
    c.requires.few_words c.requires.room
    c.changes_follow_a_list.ensures.empty empty)
