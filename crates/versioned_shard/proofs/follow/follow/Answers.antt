use Rattle.std.proofs.Common.{◌≡◌, ◌≤◌, ◌<◌, ◌∙◌, List, ℕ, Global, get_or, refl, subst, sym, ap, arith, length}
use Rattle.std.specs.declared.sync.Arc.{Arc}
use Rattle.std.proofs.lemmas.List.{get_or_default}
use Rattle.versioned_shard.specs.Along.{Reaches}
use Rattle.versioned_shard.specs.Shards.{contents_at}
use Rattle.shard_version.specs.Tables.{Tabled}
use Rattle.versioned_shard.proofs.WayLemmas.{made_first, made_more, made_past}
use Rattle.versioned_shard.proofs.follow.follow.Goals.{then-at-older+in_ok-next+in_ok-same+in_ok-push, else-at-older}
use Rattle.versioned_shard.proofs.follow.follow.Goals as goal

pub loop-older-init : goal.loop-older-init
loop-older-init g c =
    let is = ap (λ (one : Tabled). one.contents) c.in_ok-version.ensures.cases in
    let at = ap (λ (one : Tabled). one.contents.at) c.in_ok-version.ensures.cases in
    let there = c.at-at.ensures.at ∙ ap (λ (one : Tabled). one.contents.at) c.deref.ensures in (
      made_first c.args.front.now (contents_at c.args.current.now) c.args.kept.now.items c.args.kept.now.items
          (contents_at c.in_ok-version.version) refl is c.requires.follows c.requires.behind,
      omega arith,
    )

pub loop-older-preserved : goal.loop-older-preserved
loop-older-preserved g c =
    let front = c.args.front.now in
    let from = contents_at c.args.current.now in
    let index = c.loop-older.older-index in
    let same = c.older-older-items.ensures in
    let below : index < length front.older = omega (arith, c.loop-older-test.true, ap length same) in
    let position = get_or c.older-older-items.result.now index 0 in
    let is : position ≡ get_or front.older index position = ap (λ (xs : List ℕ). get_or xs index 0) same ∙ get_or_default front.older index 0 position below in
    let there : c.at-at.result ≡ from.at = c.at-at.ensures.at ∙ ap (λ (one : Tabled). one.contents.at) c.deref.ensures in
    let before = c.loop-older.invariant.1 in
    elim c.if-at-older.branch [
      | then-at-older+in_ok-next+in_ok-same+in_ok-push w ↦
          let le : from.at ≤ position = omega (arith, w.if-at-older.true, there) in
          let reached = subst (λ (one : Arc Tabled Global). Reaches front.entries (contents_at c.loop-older.version) position
          (contents_at one)) (sym w.version-is) w.in_ok-next.ensures.reaches in (
            made_more front from c.args.kept.now.items c.position-position.ensures.front c.loop-older.kept.items
                (contents_at c.loop-older.version) index position below is c.loop-older.invariant.0
                c.if-at-older.kept.items w.in_ok-same.same (contents_at c.if-at-older.version) le reached
                (ap (λ (one : Tabled). one.contents) w.in_ok-same.ensures.cases ∙ sym (ap contents_at w.version-is))
                (ap (λ list. list.items) w.kept-is ∙ w.in_ok-push.ensures.items),
            omega (arith, w.in_ok-next.ensures.steps, w.steps-is, reached.at, before),
          )
      | else-at-older w ↦
          let lt : position < from.at = omega (arith, w.if-at-older.false, there) in
          let past = made_past front from c.args.kept.now.items c.position-position.ensures.front c.loop-older.kept.items
          (contents_at c.loop-older.version) index position below is c.loop-older.invariant.0 lt in
          rw (w.kept-is, w.version-is, w.steps-is) (past, before)
    ]
