-- The journal comes home with the seat's own entry more, or as it was.
use Rattle.std.proofs.Common.{◌*◌, rules, ap, refl}
use Rattle.commit_journal.specs.Journals.{Commits, entry_by}
use Rattle.board_seats.specs.Told.{journal_in}
use Rattle.board_seats.specs.Views.{settled_view}
use Rattle.board_seats.proofs.ReleaseLemmas.{has_slot, home, visited}
use Rattle.board_seats.proofs.TakenLemmas.{commits, home_as_taken, of_taken, visited_as_taken}
use Rattle.board_seats.proofs.journal_seat.commit.Goals as goal

pub slot_mut-requires : goal.slot_mut-requires
slot_mut-requires g c =
    (search rules, has_slot c.args.me.now.me c.claim-word.new.me.me _ c.claim-word.ensures.taken)

pub store-requires : goal.store-requires
store-requires g c =
    let before = c.args.me.now.me in
    let me = c.claim-word.new.me.me in
    let t = c.claim-word.ensures.taken in
    let new = journal_in c.commit_in.new.cell in
    let entry = entry_by c.args.who c.args.op in
    let decided = c.in-Ok.decided in
    let done = of_taken before me _ t c.slot_mut.result.now _ c.slot_mut.ensures.value
    (λ j. Commits j new entry decided) c.in-Ok.ensures.decided in
    let moves = commits before me _ t c.slot_mut.result.now _ c.slot_mut.ensures.value new
    c.commit_in.ensures.sound c.commit_in.ensures.fronts entry decided
    (λ shard kept. c.journals_keep_the_rule.ensures.commits t.journal new entry decided shard
    kept done) c.requires.number c.requires.stored done in (
      search rules,
      search rules,
      home before me _ t new c.commit_in.new.cell settled_view c.commit_in.ensures.cell moves
          _ c.claim-word.new.me.id _ (ap (λ n. 2 * n) done.position),
    )

pub returns-in-Ok-clause-decided : goal.returns-in-Ok-clause-decided
returns-in-Ok-clause-decided g c =
    let before = c.args.me.now.me in
    let me = c.claim-word.new.me.me in
    let t = c.claim-word.ensures.taken in
    let new = journal_in c.commit_in.new.cell in
    let entry = entry_by c.args.who c.args.op in
    let decided = c.in-Ok.decided in
    let done = of_taken before me _ t c.slot_mut.result.now _ c.slot_mut.ensures.value
    (λ j. Commits j new entry decided) c.in-Ok.ensures.decided in
    let moves = commits before me _ t c.slot_mut.result.now _ c.slot_mut.ensures.value new
    c.commit_in.ensures.sound c.commit_in.ensures.fronts entry decided
    (λ shard kept. c.journals_keep_the_rule.ensures.commits t.journal new entry decided shard
    kept done) c.requires.number c.requires.stored done in (
      visited before me _ t new c.commit_in.new.cell settled_view c.commit_in.ensures.cell moves
          c.store.new.seat.me c.store.ensures.2,
      done,
    )

pub store-requires-in-Err : goal.store-requires-in-Err
store-requires-in-Err g c = (
  search rules,
  search rules,
  home_as_taken c.args.me.now.me c.claim-word.new.me.me _ c.claim-word.ensures.taken
      c.slot_mut.result.now _ c.slot_mut.ensures.value c.commit_in.new.cell c.in-Err.ensures.unchanged
      _ c.claim-word.new.me.id,
)

pub returns-in-Err-clause-unchanged : goal.returns-in-Err-clause-unchanged
returns-in-Err-clause-unchanged g c = (
  visited_as_taken c.args.me.now.me c.claim-word.new.me.me _ c.claim-word.ensures.taken
      c.slot_mut.result.now _ c.slot_mut.ensures.value c.commit_in.new.cell c.in-Err.ensures.unchanged
      c.store-in-Err.new.seat.me c.store-in-Err.ensures.2,
  refl,
)
