-- The journal comes home with a front of the seat's own more, or as it was.
use Rattle.std.proofs.Common.{◌+◌, ◌*◌, [], length, rules, ap, ◌∙◌, sym, subst, refl}
use mathlib.Core.Option as core
use Rattle.commit_journal.specs.Journals.{JournalState, Opens}
use Rattle.board_seats.specs.Moves.{Releases}
use Rattle.board_seats.specs.Told.{journal_in, with_said}
use Rattle.board_seats.proofs.ReleaseLemmas.{front_in_same, has_slot, holder, home_by_exchange, visited}
use Rattle.board_seats.proofs.TakenLemmas.{home_as_taken, of_taken, opens, visited_as_taken}
use Rattle.board_seats.proofs.journal_seat.open_front.Goals as goal

pub slot_mut-requires : goal.slot_mut-requires
slot_mut-requires g c =
    (search rules, has_slot c.args.me.now.me c.claim-word.new.me.me _ c.claim-word.ensures.taken)

pub compare_exchange_with-requires : goal.compare_exchange_with-requires
compare_exchange_with-requires g c =
    let before = c.args.me.now.me in
    let me = c.claim-word.new.me.me in
    let t = c.claim-word.ensures.taken in
    let new = journal_in c.open_in.new.cell in
    let front = c.in-Ok.front in
    let v = holder before me _ t in
    let done = of_taken before me _ t c.slot_mut.result.now _ c.slot_mut.ensures.value
    (λ j. Opens j new c.args.who front) c.in-Ok.ensures.opened in
    let moves = opens before me _ t c.slot_mut.result.now _ c.slot_mut.ensures.value new
    c.open_in.ensures.sound c.open_in.ensures.fronts c.args.who front
    (λ shard kept. c.journals_keep_the_rule.ensures.opens t.journal new c.args.who front shard
    kept done) c.requires.number done c.in-Ok.ensures.live c.in-Ok.ensures.known in
    let said = subst (λ z. Releases t.config v t.journal new (with_said (core.some z) new v))
    (sym c.said_of-said.ensures) moves in (
      search rules,
      search rules,
      home_by_exchange before me _ t new c.open_in.new.cell
          (with_said (core.some c.said_of-said.result)) c.open_in.ensures.cell said
          _ c.claim-word.new.me.id c.claim-word.result
          (t.number ∙ ap (λ (j : JournalState). 2 * length j.history) (sym done.after))
          _ (ap (λ n. n + 1) t.number),
    )

pub returns-in-Ok-clause-opened : goal.returns-in-Ok-clause-opened
returns-in-Ok-clause-opened g c =
    let before = c.args.me.now.me in
    let me = c.claim-word.new.me.me in
    let t = c.claim-word.ensures.taken in
    let new = journal_in c.open_in.new.cell in
    let front = c.in-Ok.front in
    let v = holder before me _ t in
    let done = of_taken before me _ t c.slot_mut.result.now _ c.slot_mut.ensures.value
    (λ j. Opens j new c.args.who front) c.in-Ok.ensures.opened in
    let moves = opens before me _ t c.slot_mut.result.now _ c.slot_mut.ensures.value new
    c.open_in.ensures.sound c.open_in.ensures.fronts c.args.who front
    (λ shard kept. c.journals_keep_the_rule.ensures.opens t.journal new c.args.who front shard
    kept done) c.requires.number done c.in-Ok.ensures.live c.in-Ok.ensures.known in
    let said = subst (λ z. Releases t.config v t.journal new (with_said (core.some z) new v))
    (sym c.said_of-said.ensures) moves in
    let same = front_in_same (sym c.said_of-said.ensures ∙ c.front_of.ensures) in
    let visit = visited before me _ t new c.open_in.new.cell
    (with_said (core.some c.said_of-said.result)) c.open_in.ensures.cell said
    c.compare_exchange_with.new.seat.me c.compare_exchange_with.ensures.2 in (
      record {
        config = t.config;
        old = t.journal;
        new = new;
        sound = t.sound;
        sound_after = moves.sound;
        grown = visit.grown;
        knows = t.knows;
        me_is = visit.me_is
            ∙ ap (λ z. (with_said (core.some z) new v, [])) c.front_of.ensures;
      },
      subst (Opens t.journal new c.args.who) same done,
    )

pub store-requires : goal.store-requires
store-requires g c = (
  search rules,
  search rules,
  home_as_taken c.args.me.now.me c.claim-word.new.me.me _ c.claim-word.ensures.taken
      c.slot_mut.result.now _ c.slot_mut.ensures.value c.open_in.new.cell c.in-Err.ensures.unchanged
      _ c.claim-word.new.me.id,
)

pub returns-in-Err-clause-unchanged : goal.returns-in-Err-clause-unchanged
returns-in-Err-clause-unchanged g c = (
  visited_as_taken c.args.me.now.me c.claim-word.new.me.me _ c.claim-word.ensures.taken
      c.slot_mut.result.now _ c.slot_mut.ensures.value c.open_in.new.cell c.in-Err.ensures.unchanged
      c.store.new.seat.me c.store.ensures.2,
  refl,
)
