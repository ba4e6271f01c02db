-- What opening and closing a front makes of its desk.
use Rattle.std.proofs.Common.{◌≡◌, ℕ, List, ◌∷◌, length, sym, ap, subst, ◌∙◌, Option, Some}
use Rattle.std.specs.FinMap as map
use Rattle.hamming_model.specs.History.{JournalEntry}
use Rattle.part_layout.specs.declared.config.Config.{Config}
use Rattle.commit_journal.specs.Fronts.{FrontState, Live, position_of}
use Rattle.commit_journal.specs.Journals.{JournalState, without_front}
use Rattle.commit_journal.specs.Journals as journals
use Rattle.atomic_table.specs.Seated.{TableId}
use Rattle.atomic_table.specs.Table.{Me}
use Rattle.session_desk.specs.Calls.{ClosesFront, Learns, OpensFront}
use Rattle.session_desk.specs.Desks.{DeskState, IsOwnFront, Pin}
use Rattle.board_seats.specs.declared.rule.Cell.{Cell}
use Rattle.board_seats.specs.declared.rule.View.{View}
use Rattle.board_seats.specs.Views.{living_fronts, with_front, with_living, without_id}
use Rattle.board_seats.specs.Visits.{Visited}
use Rattle.shared_board.specs.Shared.{IsSeated, SharedState, live_map, seated_of, shared_desk}
use Rattle.shared_board.proofs.MapLemmas.{fresh_in, living_without, own_there, without_map}
use Rattle.shared_board.proofs.SharedLemmas.{learns_history, seated_by, seen_within}

module _ {W : ℕ} (table seat : TableId) (me : Me (Cell W) (View W)) (who : ℕ) (config : Config) (last : ℕ) (pins : List (Option Pin)) (done late : ℕ)
    (old : IsSeated table seat me (seated_of table who config me.0 last pins done late))
    (now : SharedState) (is_now : seated_of table who config me.0 last pins done late ≡ now)
    (seat' : TableId) (me' : Me (Cell W) (View W)) (same : seat' ≡ seat) where
  abbrev before : DeskState
  before = shared_desk (seated_of table who config me.0 last pins done late)

  abbrev desk_at : Me (Cell W) (View W) → ℕ → DeskState
  desk_at m last' = shared_desk (seated_of table who config m.0 last' pins done late)

  -- ---- a front more
  module _ (front : FrontState) (visit : Visited (with_front front) me me') (opens : journals.Opens visit.old visit.new who front) where
    opened_seen : me'.0.seen ≡ visit.new.history
    opened_seen = ap (λ (m : Me (Cell W) (View W)). m.0.seen) visit.me_is

    history_stays : visit.new.history ≡ visit.old.history
    history_stays = ap (λ (j : JournalState). j.history) opens.after

    asked : visit.config ≡ config
    asked = sym (visit.knows.config_is config old.config_is)

    pub opened_seated : (last' : ℕ) → IsSeated table seat' me' (seated_of table who config me'.0 last' pins done late)
    opened_seated last' = seated_by table seat me who config last pins done late old now is_now seat' me' visit.config visit.new last' same
        (record { slots = ap (λ (m : Me (Cell W) (View W)). m.1) visit.me_is; held = ap (λ (m : Me (Cell W) (View W)). m.0.held) visit.me_is })
        (ap (λ (m : Me (Cell W) (View W)). m.0.number) visit.me_is ∙ old.number)
        (ap (λ (m : Me (Cell W) (View W)). m.0.config) visit.me_is ∙ ap Some asked)
        (ap (λ (m : Me (Cell W) (View W)). m.0.left) visit.me_is) opened_seen
        (seen_within table seat me who config last pins done late old now is_now visit.config
        visit.old visit.knows visit.new visit.grown) visit.sound_after asked

    fronts_are : me'.0.fronts ≡ front ∷ me.0.fronts
    fronts_are = ap (λ (m : Me (Cell W) (View W)). m.0.fronts) visit.me_is

    pub opened_fronts : me'.0.fronts ≡ front ∷ now.fronts
    opened_fronts = fronts_are ∙ ap (λ (s : SharedState). front ∷ s.fronts) is_now

    all_seen : front.entries ≡ me'.0.seen
    all_seen = opens.entries ∙ sym (opened_seen ∙ history_stays)

    pub opened_desk : (last' : ℕ) → last' ≡ position_of front → OpensFront (shared_desk now) (desk_at me' last') front
    opened_desk last' e = subst (λ (n : ℕ). OpensFront (shared_desk now) (desk_at me' n) front) (sym e)
        (subst (λ (s : SharedState). OpensFront (shared_desk s) (desk_at me' (position_of front)) front) is_now (record {
          learns = subst (Learns before) (sym (opened_seen ∙ history_stays))
              (learns_history table seat me who config last pins done late old now is_now visit.config visit.old visit.knows);
          entries = all_seen;
          who = opens.who;
          fresh = fresh_in visit.old front.id me.0.fronts (λ each has. (visit.knows.fronts each has).live) opens.fresh;
          after = ap (λ (m : Me (Cell W) (View W)). desk_at m (position_of front)) visit.me_is
              ∙ ap (λ (h : List JournalEntry). (record before {
                seen = h;
                fronts = live_map (front ∷ me.0.fronts);
                last = position_of front;
              })) (sym opened_seen)
              ∙ ap (λ (n : ℕ). (record before {
                seen = me'.0.seen;
                fronts = map.insert (live_map me.0.fronts) front.id (n, position_of front);
                last = position_of front;
              })) opens.who
              ∙ ap (λ (h : List JournalEntry). (record before {
                seen = me'.0.seen;
                fronts = map.insert (live_map me.0.fronts) front.id (who, length h);
                last = length h;
              })) all_seen;
        }))

    pub opened_own : (last' : ℕ) → IsOwnFront (desk_at me' last') front
    opened_own last' = subst (λ (fronts : List FrontState). map.get (live_map fronts) front.id ≡ Some (front.who, position_of front)) (sym fronts_are)
        (own_there me.0.fronts front)

  -- ---- a front less
  module _ (front : FrontState) (visit : Visited with_living me me') (closed : visit.new ≡ without_front visit.old front.id) where
    closed_seen : me'.0.seen ≡ visit.new.history
    closed_seen = ap (λ (m : Me (Cell W) (View W)). m.0.seen) visit.me_is

    asked_too : visit.config ≡ config
    asked_too = sym (visit.knows.config_is config old.config_is)

    pub closed_seated : IsSeated table seat' me' (seated_of table who config me'.0 last pins done late)
    closed_seated = seated_by table seat me who config last pins done late old now is_now seat' me' visit.config visit.new last same
        (record { slots = ap (λ (m : Me (Cell W) (View W)). m.1) visit.me_is; held = ap (λ (m : Me (Cell W) (View W)). m.0.held) visit.me_is })
        (ap (λ (m : Me (Cell W) (View W)). m.0.number) visit.me_is ∙ old.number)
        (ap (λ (m : Me (Cell W) (View W)). m.0.config) visit.me_is ∙ ap Some asked_too)
        (ap (λ (m : Me (Cell W) (View W)). m.0.left) visit.me_is) closed_seen
        (seen_within table seat me who config last pins done late old now is_now visit.config
        visit.old visit.knows visit.new visit.grown) visit.sound_after asked_too

    pub closed_fronts : me'.0.fronts ≡ without_id front.id now.fronts
    closed_fronts =
        ap (λ (m : Me (Cell W) (View W)). m.0.fronts) visit.me_is ∙ ap (λ (j : JournalState). living_fronts j me.0.fronts) closed
        ∙ living_without visit.old front.id me.0.fronts (λ each has. (visit.knows.fronts each has).live)
        ∙ ap (λ (s : SharedState). without_id front.id s.fronts) is_now

    pub closed_desk : ClosesFront (shared_desk now) (desk_at me' last) front
    closed_desk = subst (λ (s : SharedState). ClosesFront (shared_desk s) (desk_at me' last) front) is_now (record {
      learns = subst (Learns before) (sym (closed_seen ∙ ap (λ (j : JournalState). j.history) closed))
          (learns_history table seat me who config last pins done late old now is_now visit.config visit.old visit.knows);
      after = ap (λ (m : Me (Cell W) (View W)). desk_at m last) visit.me_is
          ∙ ap (λ (h : List JournalEntry). (record before { seen = h; fronts = live_map (living_fronts visit.new me.0.fronts) })) (sym closed_seen)
          ∙ ap (λ (fronts : Live). (record before { seen = me'.0.seen; fronts = fronts }))
          (ap live_map (ap (λ (j : JournalState). living_fronts j me.0.fronts) closed
          ∙ living_without visit.old front.id me.0.fronts (λ each has. (visit.knows.fronts each has).live)) ∙ without_map front.id me.0.fronts);
    })
