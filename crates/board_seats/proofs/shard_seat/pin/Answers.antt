-- The shard comes home at a front of the seat's own, or where it stood.
use Rattle.std.proofs.Common.{◌≡◌, ◌<◌, ◌≤◌, rules, ap, ◌∙◌, sym, subst, arith}
use Rattle.hamming_model.specs.Recoded.{AreStoredEntries}
use Rattle.shard_version.specs.Contents.{IsVersion}
use Rattle.commit_journal.specs.Fronts.{position_of, positions_of}
use Rattle.versioned_shard.specs.Along.{Follows}
use Rattle.versioned_shard.specs.Shards.{HasVersion, IsOneOf, advanced, contents_at}
use Rattle.board_seats.specs.ShardCalls.{CameTo, IsGivenAt}
use Rattle.board_seats.specs.Told.{shard_in}
use Rattle.board_seats.proofs.ShardMoveLemmas.{advanced_at, advances, both_ok, comes, gives_at, stands_at_live, stored_front_codes}
use Rattle.board_seats.proofs.ShardReleaseLemmas.{has_shard_slot, holder_knows, home_shard, shard_holder, visited_shard}
use Rattle.board_seats.proofs.ShardTakenLemmas.{shard_there, shard_was, taken_so, there_so}
use Rattle.board_seats.proofs.shard_seat.pin.Goals as goal

pub slot_mut-requires : goal.slot_mut-requires
slot_mut-requires g c = (
  search rules,
  has_shard_slot c.args.me.now.me c.claim_shard-word.new.me.me c.args.shard
      c.claim_shard-word.ensures.taken c.claim_shard-word.result c.claim_shard-word.ensures.word,
)

pub pin_in-version-requires : goal.pin_in-version-requires
pin_in-version-requires g c =
    let taken = c.claim_shard-word.ensures.taken in
    let own = taken.knows.fronts c.args.front.now c.requires.own in
    let laws = c.shards_keep_the_rule.ensures in
    let live = positions_of taken.journal.live in
    let history = taken.journal.history in (
      search rules,
      (
        search rules,
        (
          search rules,
          (
            shard_there c.args.me.now.me c.claim_shard-word.new.me.me c.args.shard
                c.claim_shard-word.ensures.taken c.claim_shard-word.result c.claim_shard-word.ensures.word
                c.slot_mut.result.now _ c.slot_mut.ensures.value,
            (
              there_so c.args.me.now.me c.claim_shard-word.new.me.me c.args.shard
                  c.claim_shard-word.ensures.taken c.claim_shard-word.result c.claim_shard-word.ensures.word
                  c.slot_mut.result.now _ c.slot_mut.ensures.value
                  (λ s. s.current.at < position_of c.args.front.now
                  → Follows c.args.front.now.entries s.current)
                  (laws.follows live history taken.shard c.args.front.now taken.stands.rule own.knows),
              (
                there_so c.args.me.now.me c.claim_shard-word.new.me.me c.args.shard
                    c.claim_shard-word.ensures.taken c.claim_shard-word.result c.claim_shard-word.ensures.word
                    c.slot_mut.result.now _ c.slot_mut.ensures.value
                    (λ s. AreStoredEntries g.row.W s.current.layout.bits c.args.front.now.entries)
                    (subst (λ bits. AreStoredEntries g.row.W bits c.args.front.now.entries)
                    (sym taken.stands.bits_are) (stored_front_codes g.row.W taken.config.bits
                    taken.journal c.args.front.now own.knows taken.sound.codes)),
                there_so c.args.me.now.me c.claim_shard-word.new.me.me c.args.shard
                    c.claim_shard-word.ensures.taken c.claim_shard-word.result c.claim_shard-word.ensures.word
                    c.slot_mut.result.now _ c.slot_mut.ensures.value
                    (λ s. HasVersion (advanced c.args.front.now s) (position_of c.args.front.now))
                    (laws.has live history taken.shard c.args.front.now taken.stands.rule
                    (stands_at_live taken.journal c.args.front.now own.live)),
              ),
            ),
          ),
        ),
      ),
    )

pub store-requires : goal.store-requires
store-requires g c =
    let before = c.args.me.now.me in
    let me = c.claim_shard-word.new.me.me in
    let k = c.args.shard in
    let t = c.claim_shard-word.ensures.taken in
    let at = c.claim_shard-word.ensures.word in
    let front = c.args.front.now in
    let v = shard_holder before me k t in
    let new = shard_in c.pin_in-version.new.cell in
    let came = taken_so before me k t _ at c.slot_mut.result.now _ c.slot_mut.ensures.value
    (λ s. CameTo front s new) c.pin_in-version.ensures.came in
    let moves = comes front t.shard t.config v k new came
    (advances front t.shard t.config v k c.requires.own c.position-position.ensures.front
    c.shards_keep_the_rule.ensures.advanced) in (
      search rules,
      search rules,
      home_shard before me k t _ at new c.pin_in-version.new.cell c.pin_in-version.ensures.cell
          moves _ c.claim_shard-word.new.me.id c.requires.table.slots,
    )

pub returns-clause-pinned : goal.returns-clause-pinned
returns-clause-pinned g c =
    let before = c.args.me.now.me in
    let me = c.claim_shard-word.new.me.me in
    let k = c.args.shard in
    let t = c.claim_shard-word.ensures.taken in
    let at = c.claim_shard-word.ensures.word in
    let front = c.args.front.now in
    let v = shard_holder before me k t in
    let new = shard_in c.pin_in-version.new.cell in
    let came = taken_so before me k t _ at c.slot_mut.result.now _ c.slot_mut.ensures.value
    (λ s. CameTo front s new) c.pin_in-version.ensures.came in
    let moves = comes front t.shard t.config v k new came
    (advances front t.shard t.config v k c.requires.own c.position-position.ensures.front
    c.shards_keep_the_rule.ensures.advanced) in
    let was = shard_was before me k t _ at c.slot_mut.result.now _ c.slot_mut.ensures.value in
    let stands = moves.stands t.journal t.sound (holder_knows before me k t) t.stands in (
      visited_shard before me k t _ at new c.pin_in-version.new.cell
          c.pin_in-version.ensures.cell moves stands c.store.new.seat.me c.store.ensures.2,
      came,
      both_ok c.pin_in-version.result
          (λ version. IsOneOf new (position_of front) (contents_at version))
          (λ version. IsVersion (contents_at version))
          (λ version. (position_of front ≤ new.current.at)
          × IsGivenAt t.config t.journal k (position_of front) (contents_at version))
          (new ≡ advanced front (shard_in c.slot_mut.result.now)) c.pin_in-version.ensures.given
          c.pin_in-version.ensures.sound c.pin_in-version.ensures.reached
          (λ version one sound far. (
            omega (
              arith,
              ap (λ s. s.current.at)
                  (far ∙ ap (λ z. advanced front (shard_in z)) was),
              advanced_at front t.shard,
            ),
            gives_at t.config t.journal k (position_of front) new (contents_at version) stands one
                (c.shards_keep_the_rule.ensures.given (positions_of t.journal.live)
                t.journal.history new (position_of front) (contents_at version) stands.rule one)
                sound,
          )),
    )
