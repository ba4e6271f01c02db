-- What a swap makes of its desk.
use Rattle.std.proofs.Common.{◌≡◌, ◌≢◌, ◌↔◌, ℕ, ◌<◌, Bool, true, true≢false, List, length, take, sym, ap, subst, ◌∙◌, arith, Option}
use Rattle.std.specs.Prelude.{◌&&◌, if◌then◌else◌, slice_set}
use Rattle.std.proofs.lemmas.List.{length-map, length-take}
use Rattle.hamming_model.specs.History.{JournalEntry, rows_of, shard_rows}
use Rattle.hamming_model.specs.Recoded.{cut_entry, cut_history}
use Rattle.part_layout.specs.declared.config.Config.{Config}
use Rattle.shard_version.specs.Contents.{Contents}
use Rattle.atomic_table.specs.Seated.{TableId}
use Rattle.atomic_table.specs.Table.{Me}
use Rattle.session_desk.specs.Calls.{IsMadeFor, Swaps, is_late, one_more}
use Rattle.session_desk.specs.Desks.{DeskState, Pin, left_at}
use Rattle.board_seats.specs.declared.rule.Cell.{Cell}
use Rattle.board_seats.specs.declared.rule.View.{View}
use Rattle.board_seats.specs.ShardCalls.{IsMadeApart, PutsLayout}
use Rattle.board_seats.specs.Visits.{VisitedShard}
use Rattle.board_seats.proofs.ShardMoveLemmas.{takes_at}
use Rattle.shared_board.specs.Shared.{IsSeated, SharedState, seated_of, shared_desk}
use Rattle.shared_board.proofs.ShardVisits.{left_there, pinned_still, visited_after, visited_learns}

-- the first entries of a history, in codes of so many bits
abbrev first_seen : List JournalEntry → ℕ → ℕ → List JournalEntry
first_seen seen at bits = take at (cut_history bits seen)

module _ {W : ℕ} (table seat : TableId) (me : Me (Cell W) (View W)) (who : ℕ) (config : Config) (last : ℕ) (pins : List (Option Pin)) (done late : ℕ)
    (old : IsSeated table seat me (seated_of table who config me.0 last pins done late))
    (now : SharedState) (is_now : seated_of table who config me.0 last pins done late ≡ now) where
  abbrev before : DeskState
  before = shared_desk (seated_of table who config me.0 last pins done late)

  -- a version that was made for the desk was made along what its seat has seen
  pub made_apart : (k : ℕ) (version : Contents) → IsMadeFor (shared_desk now) k version → IsMadeApart me.0 k version
  made_apart k version made_now = record {
    config = config;
    config_is = old.config_is;
    shard_is = is.shard_is;
    shards_are = is.shards_are;
    bits_are = is.bits_are;
    follows = record {
      is = ap (λ (n : ℕ). (record version { at = n })) at_is
          ∙ ap (λ (rows : List (ℕ × List ℕ)). (record version { at = length (first_seen me.0.seen version.at version.layout.bits); rows = rows })) rows_are;
    };
    within = made.within;
  }
    where
      made : IsMadeFor before k version
      made = subst (λ (s : SharedState). IsMadeFor (shared_desk s) k version) (sym is_now) made_now

      is : Rattle.session_desk.specs.Desks.IsVersionOf before k version.at version
      is = made.version_is

      at_is : version.at ≡ length (first_seen me.0.seen version.at version.layout.bits)
      at_is = omega (
        arith,
        made.within,
        length-take version.at (cut_history version.layout.bits me.0.seen),
        length-map me.0.seen (cut_entry version.layout.bits),
      )

      rows_are : version.rows ≡ shard_rows version.shard version.shards (rows_of (first_seen me.0.seen version.at version.layout.bits))
      rows_are = is.rows
          ∙ ap (λ (n : ℕ). shard_rows n config.shards (rows_of (first_seen me.0.seen version.at config.bits))) (sym is.shard_is)
          ∙ ap (λ (n : ℕ). shard_rows version.shard n (rows_of (first_seen me.0.seen version.at config.bits))) (sym is.shards_are)
          ∙ ap (λ (n : ℕ). shard_rows version.shard version.shards (rows_of (first_seen me.0.seen version.at n))) (sym is.bits_are)

  module _ (seat' : TableId) (me' : Me (Cell W) (View W)) (same : seat' ≡ seat) (k : ℕ) (low : k < now.config.shards) (visit : VisitedShard k me me') where
    abbrev after : ℕ → ℕ → DeskState
    after done' late' = shared_desk (seated_of table who config me'.0 last pins done' late')

    pub visited_swaps : (prepared : Contents) (moved : Bool) → PutsLayout visit.old visit.new prepared moved → (done' late' : ℕ)
        → done' ≡ (if moved then done else one_more done)
        → late' ≡ (if moved && is_late last prepared.at visit.new.current.at then one_more late else late)
        → Swaps (shared_desk now) (after done' late') k prepared moved
    visited_swaps prepared moved puts done' late' done_is late_is =
        subst (λ (s : SharedState). Swaps (shared_desk s) (after done' late') k prepared moved)
        is_now (record {
          learns = visited_learns table seat me who config last pins done late old now is_now seat' me' same k low visit;
          moved_is = subst (λ (n : ℕ). moved ≡ true ↔ (prepared.at ≢ n)) (sym (there ∙ takes_at visit.old visit.new prepared moved puts)) puts.moved_is;
          pinned = pinned_still table seat me who config last pins done late old now is_now seat' me' same k low visit pins done' late';
          after = visited_after table seat me who config last pins done late old now is_now seat' me' same k low visit pins done' late'
              ∙ ap (λ (n : ℕ). (record before {
                seen = me'.0.seen;
                left = slice_set before.left k (left_at (after done' late') k);
                done = n;
                late = late';
              })) done_is
              ∙ ap (λ (n : ℕ). (record before {
                seen = me'.0.seen;
                left = slice_set before.left k (left_at (after done' late') k);
                done = (if moved then done else one_more done);
                late = n;
              }))
              (subst (λ (n : ℕ). late' ≡ (if moved && is_late last prepared.at n then one_more late else late)) (sym there) late_is);
          places = λ e. absurd (true≢false (sym e));
          stays = λ e. absurd (true≢false (sym e));
        })
      where
        there : left_at (after done' late') k ≡ visit.new.current.at
        there = left_there table seat me who config last pins done late old now is_now seat' me' same k low visit pins done' late'
