use Rattle.std.proofs.Common.{◌≡◌, ◌∙◌, ◌++◌, ◌∷◌, [], true, false, sym, ap, map}
use Rattle.std.proofs.lemmas.List.{append-nil, map-append}
use Rattle.commit_journal.specs.Fronts.{has_position}
use Rattle.shard_version.specs.Contents.{Contents}
use Rattle.shard_version.specs.Tables.{Tabled}
use Rattle.versioned_shard.specs.Shards.{contents_at}
use Rattle.versioned_shard.proofs.WayLemmas.{stay_more}
use Rattle.versioned_shard.proofs.follow.staying.Goals.{then-stands_in+in_ok-same+in_ok-push, else-stands_in}
use Rattle.versioned_shard.proofs.follow.staying.Goals as goal

pub loop-version-preserved : goal.loop-version-preserved
loop-version-preserved g c =
    let own = c.version-item.result in
    let there : c.at.result ≡ (contents_at own).at = c.at.ensures.at ∙ ap (λ (one : Tabled). one.contents.at) c.deref.ensures in
    let test : has_position c.args.older.now (contents_at own).at ≡ c.stands_in.result = sym (c.stands_in.ensures ∙ ap (has_position c.args.older.now) there) in
    elim c.if-stands_in.branch [
      | then-stands_in+in_ok-same+in_ok-push w ↦
          stay_more c.args.kept.now c.loop-version.version-index own c.loop-version-test.true c.version-item.is c.args.older.now
          c.loop-version.stay.items c.loop-version.invariant
          c.if-stands_in.stay.items true (test ∙ w.if-stands_in.true)
          (ap (map contents_at) (ap (λ list. list.items) w.stay-is ∙ w.in_ok-push.ensures.items)
          ∙ map-append contents_at c.loop-version.stay.items (w.in_ok-same.same ∷ [])
          ∙ ap (λ (each : Contents). map contents_at c.loop-version.stay.items ++ each ∷ []) (ap (λ (one : Tabled). one.contents) w.in_ok-same.ensures.cases))
      | else-stands_in w ↦
          stay_more c.args.kept.now c.loop-version.version-index own c.loop-version-test.true c.version-item.is c.args.older.now
          c.loop-version.stay.items c.loop-version.invariant
          c.if-stands_in.stay.items false (test ∙ w.if-stands_in.false)
          (ap (map contents_at) (ap (λ list. list.items) w.stay-is) ∙ sym (append-nil (map contents_at c.loop-version.stay.items)))
    ]
