-- A desk that draws its number.
use Rattle.std.proofs.Common.{◌≡◌, ℕ, ◌+◌, ◌<◌, List, [], ◌∷◌, length, replicate, sym, ap, subst, ◌∙◌, arith, Option, Some, None}
use mathlib.Core.List.{IsPrefix}
use Rattle.std.specs.List.{AllByRecursion}
use Rattle.hamming_model.specs.History.{IsLegal, JournalEntry}
use Rattle.hamming_model.specs.Recoded.{AreStoredEntries}
use Rattle.part_layout.specs.declared.config.Config.{Config}
use Rattle.commit_journal.specs.Journals.{JournalState}
use Rattle.atomic_table.specs.Seated.{TableId}
use Rattle.atomic_table.specs.Table.{Me}
use Rattle.session_desk.specs.Desks.{Pin}
use Rattle.board_seats.specs.declared.rule.Cell.{Cell}
use Rattle.board_seats.specs.declared.rule.View.{View}
use Rattle.board_seats.specs.Told.{SeesAll}
use Rattle.board_seats.specs.Views.{AreOfOthers, note_of, with_number}
use Rattle.board_seats.specs.Visits.{Visited}
use Rattle.shared_board.specs.Boards.{HasPlaces, IsAskedFor, board_number}
use Rattle.shared_board.specs.Shared.{IsSeated, fresh_desk, seated_of}
use Rattle.shared_board.proofs.SharedLemmas.{fresh_is, fresh_seated}

-- a load tells a seat that is as it was before a note
pub sees_from : {W : ℕ} (old me me' : Me (Cell W) (View W)) (met : List JournalEntry) (next : ℕ) → me ≡ old
    → SeesAll (record me.0 { met = met; next = next }, me.1) me' → SeesAll (record old.0 { met = met; next = next }, old.1) me'
sees_from {W} old me me' met next same sees =
    subst (λ (m : Me (Cell W) (View W)). SeesAll (record m.0 { met = met; next = next }, m.1) me') same sees

-- entries of numbers that were drawn aren't of the next one
others_below : (next : ℕ) (entries : List JournalEntry) → AllByRecursion (λ entry. entry.who < next) entries → AreOfOthers (Some next) entries
others_below next [] all session e = tt
others_below next (entry ∷ entries) all session e =
    ((λ same. let is = number_is next session e in omega (arith, all.0)), others_below next entries all.1 session e)
  where
    number_is : (a b : ℕ) → Some a ≡ Some b → a ≡ b
    number_is a b h = cc

-- ---- the seat that was split off from one before, drew a number, and split off a note
module _ {W : ℕ} (table seat : TableId) (config : Config) (before me after now : Me (Cell W) (View W)) (noted : me ≡ (note_of before.0, []))
    (visit : Visited with_number me after) (who : ℕ) (is : visit.new ≡ record visit.old { next = visit.old.next + 1 }) (number : who ≡ visit.old.next)
    (same : now ≡ after) where
  seen_is : now.0.seen ≡ visit.new.history
  seen_is = ap (λ (m : Me (Cell W) (View W)). m.0.seen) (same ∙ visit.me_is)

  history_stays : visit.new.history ≡ visit.old.history
  history_stays = ap (λ (j : JournalState). j.history) is

  pub drawn_begins : IsPrefix before.0.seen now.0.seen
  drawn_begins =
      subst (IsPrefix before.0.seen) (sym (seen_is ∙ history_stays))
      (subst (λ (m : Me (Cell W) (View W)). IsPrefix m.0.seen visit.old.history) noted (visit.knows.seen.more, visit.knows.seen.longer))

  pub drawn_others : AreOfOthers (Some who) now.0.seen
  drawn_others =
      subst (AreOfOthers (Some who)) (sym (seen_is ∙ history_stays))
      (subst (λ (k : ℕ). AreOfOthers (Some k) visit.old.history) (sym number) (others_below visit.old.next visit.old.history visit.sound.drawn))

  pub drawn_next : now.0.next ≡ who
  drawn_next = ap (λ (m : Me (Cell W) (View W)). m.0.next) (same ∙ visit.me_is) ∙ sym number

  fronts_none : now.0.fronts ≡ []
  fronts_none = ap (λ (m : Me (Cell W) (View W)). m.0.fronts) (same ∙ visit.me_is) ∙ ap (λ (m : Me (Cell W) (View W)). m.0.fronts) noted

  left_none : now.0.left ≡ []
  left_none = ap (λ (m : Me (Cell W) (View W)). m.0.left) (same ∙ visit.me_is) ∙ ap (λ (m : Me (Cell W) (View W)). m.0.left) noted

  module _ (pins : List (Option Pin)) (none : pins ≡ replicate config.shards None) where
    pub drawn_is : seated_of table who config now.0 0 pins 0 0 ≡ fresh_desk (board_number table) who config now.0.seen now.0.next
    drawn_is = fresh_is table seat now who config pins none fronts_none left_none

    pub drawn_seated : before.0.config ≡ Some config → seat ≡ table → HasPlaces table config → IsAskedFor W config
        → IsSeated table seat now (seated_of table who config now.0 0 pins 0 0)
    drawn_seated asked at places fits =
        let config_is : visit.config ≡ config = sym (visit.knows.config_is config (ap (λ (m : Me (Cell W) (View W)). m.0.config) noted ∙ asked)) in
        let sound = visit.sound_after in
        fresh_seated table seat now who config pins none fronts_none left_none at places
        (record {
          slots = ap (λ (m : Me (Cell W) (View W)). m.1) (same ∙ visit.me_is);
          held = ap (λ (m : Me (Cell W) (View W)). m.0.held) (same ∙ visit.me_is);
        })
        (ap (λ (m : Me (Cell W) (View W)). m.0.number) (same ∙ visit.me_is) ∙ ap Some (sym number))
        (ap (λ (m : Me (Cell W) (View W)). m.0.config) (same ∙ visit.me_is) ∙ ap Some config_is) fits
        (subst IsLegal (sym seen_is) sound.sound.legal)
        (let few = sound.sound.few in let long = ap length seen_is in let limit = sound.limit in
        let entries = ap (λ (c : Config). c.entries) config_is in omega arith)
        (subst (AreStoredEntries W config.bits) (sym seen_is)
        (subst (λ (c : Config). AreStoredEntries W c.bits visit.new.history) config_is sound.codes))
