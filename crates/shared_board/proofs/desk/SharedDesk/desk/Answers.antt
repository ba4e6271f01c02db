-- The new desk has seen the history as it draws its number.
use Rattle.std.proofs.Common.{ap, ◌∙◌, refl}
use Rattle.shared_board.proofs.SharedLemmas.{met_learns, met_seated}
use Rattle.shared_board.proofs.DeskLemmas.{drawn_is, drawn_others, drawn_seated, sees_from}
use Rattle.shared_board.specs.Shared.{fresh_desk}
use Rattle.shared_board.proofs.desk.SharedDesk.desk.Goals as goal

pub invariant_of-result : goal.invariant_of-result
invariant_of-result g c =
    drawn_seated c.self.inside.place.now.table_id c.note-found.new.me.table_id c.self.inside.config c.self.inside.seat.me c.note-seat.result.me
    c.draw-drawn.new.me.me c.note-found.new.me.me c.note-seat.ensures.note c.in-Some.ensures.drawn.0 c.in-Some.who c.in-Some.ensures.drawn.1
    c.in-Some.ensures.drawn.2 c.note-found.ensures.same c.in-Ok.pins.items c.in-Ok.ensures c.self.invariant.config_is
    (c.note-found.ensures.table ∙ c.draw-drawn.ensures.table ∙ c.note-seat.ensures.board ∙ c.self.invariant.board) c.self.invariant.places
    (record { config_is = c.self.invariant.desk.config; few_words = c.self.invariant.desk.few_words; room = c.self.invariant.desk.room })

pub invariant_of-self : goal.invariant_of-self
invariant_of-self g c =
    met_seated c.self.inside.place.now.table_id c.self.inside.seat.table_id c.self.inside.seat.me c.self.inside.who c.self.inside.config
    c.self.inside.last c.self.inside.pins.items c.self.inside.done c.self.inside.late c.self.invariant c.args.self.now c.self.view_is
    c.find.new.me.table_id c.find.new.me.me
    (c.find.ensures.table ∙ c.note-seat.ensures.table) _ _ (sees_from c.self.inside.seat.me c.note-seat.new.me.me c.find.new.me.me _ _
    c.note-seat.ensures.same c.find.ensures.met)

pub returns-in-Some-clause-desk : goal.returns-in-Some-clause-desk
returns-in-Some-clause-desk g c =
    drawn_is c.self.inside.place.now.table_id c.note-found.new.me.table_id c.self.inside.config c.self.inside.seat.me c.note-seat.result.me
    c.draw-drawn.new.me.me c.note-found.new.me.me c.note-seat.ensures.note c.in-Some.ensures.drawn.0 c.in-Some.who c.in-Some.ensures.drawn.1
    c.in-Some.ensures.drawn.2 c.note-found.ensures.same c.in-Ok.pins.items c.in-Ok.ensures
    ∙ ap (λ s. fresh_desk s.board c.in-Some.who s.config c.note-found.new.me.me.0.seen c.note-found.new.me.me.0.next) c.self.view_is

pub returns-in-Some-clause-others : goal.returns-in-Some-clause-others
returns-in-Some-clause-others g c =
    drawn_others c.self.inside.place.now.table_id c.note-found.new.me.table_id c.self.inside.config c.self.inside.seat.me c.note-seat.result.me
    c.draw-drawn.new.me.me c.note-found.new.me.me c.note-seat.ensures.note c.in-Some.ensures.drawn.0 c.in-Some.who c.in-Some.ensures.drawn.1
    c.in-Some.ensures.drawn.2 c.note-found.ensures.same

pub returns-in-Some-clause-learns : goal.returns-in-Some-clause-learns
returns-in-Some-clause-learns g c =
    met_learns c.self.inside.place.now.table_id c.self.inside.seat.table_id c.self.inside.seat.me c.self.inside.who c.self.inside.config
    c.self.inside.last c.self.inside.pins.items c.self.inside.done c.self.inside.late c.self.invariant c.args.self.now c.self.view_is
    c.find.new.me.table_id c.find.new.me.me
    (c.find.ensures.table ∙ c.note-seat.ensures.table) _ _ (sees_from c.self.inside.seat.me c.note-seat.new.me.me c.find.new.me.me _ _
    c.note-seat.ensures.same c.find.ensures.met)

pub invariant_of-self-2 : goal.invariant_of-self-2
invariant_of-self-2 g c =
    met_seated c.self.inside.place.now.table_id c.self.inside.seat.table_id c.self.inside.seat.me c.self.inside.who c.self.inside.config
    c.self.inside.last c.self.inside.pins.items c.self.inside.done c.self.inside.late c.self.invariant c.args.self.now c.self.view_is
    c.find.new.me.table_id c.find.new.me.me
    (c.find.ensures.table ∙ c.note-seat.ensures.table) _ _ (sees_from c.self.inside.seat.me c.note-seat.new.me.me c.find.new.me.me _ _
    c.note-seat.ensures.same c.find.ensures.met)

pub returns-clause-learns : goal.returns-clause-learns
returns-clause-learns g c =
    met_learns c.self.inside.place.now.table_id c.self.inside.seat.table_id c.self.inside.seat.me c.self.inside.who c.self.inside.config
    c.self.inside.last c.self.inside.pins.items c.self.inside.done c.self.inside.late c.self.invariant c.args.self.now c.self.view_is
    c.find.new.me.table_id c.find.new.me.me
    (c.find.ensures.table ∙ c.note-seat.ensures.table) _ _ (sees_from c.self.inside.seat.me c.note-seat.new.me.me c.find.new.me.me _ _
    c.note-seat.ensures.same c.find.ensures.met)

pub returns-clause-no_memory : goal.returns-clause-no_memory
returns-clause-no_memory g c = λ apart. absurd (apart refl)
