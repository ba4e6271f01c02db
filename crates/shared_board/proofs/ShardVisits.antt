-- What a visit of a shard makes of its desk.
use Rattle.std.proofs.Common.{◌≡◌, ◌≢◌, ◌⊎◌, inl, inr, ℕ, zero, suc, ◌+◌, ◌-◌, ◌<◌, ◌≤◌, true≢false, List, [], ◌∷◌, length, get_or, set, take, refl, sym, ap, subst, ◌∙◌, arith, Option, Some, None}
use Rattle.std.specs.Prelude.{slice_set}
use Rattle.std.proofs.lemmas.Bool.{cases_eq}
use Rattle.std.proofs.lemmas.List.{get_or-set_other, get_or-set_same, length-append, length-set}
use Rattle.hamming_model.specs.History.{IsLegal, JournalEntry, rows_of, shard_rows}
use Rattle.hamming_model.specs.Recoded.{AreStoredEntries, cut_history}
use Rattle.part_layout.specs.declared.config.Config.{Config}
use Rattle.part_layout.specs.Text.{layout_text}
use Rattle.shard_version.specs.Contents.{Contents}
use Rattle.commit_journal.specs.Fronts.{FrontState, position_of}
use Rattle.atomic_table.specs.Seated.{TableId}
use Rattle.atomic_table.specs.Table.{Me}
use Rattle.session_desk.specs.Calls.{Comes, Learns, PinsVersion, TellsLayout}
use Rattle.session_desk.specs.Desks.{DeskState, IsVersionOf, Pin, left_at, pin_position, pinned_at}
use Rattle.board_seats.specs.declared.rule.Cell.{Cell}
use Rattle.board_seats.specs.declared.rule.View.{View}
use Rattle.board_seats.specs.ShardCalls.{IsGivenAt}
use Rattle.board_seats.specs.Views.{put_at}
use Rattle.board_seats.specs.Visits.{VisitedShard}
use Rattle.shared_board.specs.Shared.{IsSeated, SharedState, padded_to, seated_of, shared_desk}
use Rattle.shared_board.proofs.SharedLemmas.{learns_history, padded_to_length}

-- ---- numbers by shard
padded_put : (n k x : ℕ) (l : List ℕ) → k < n → padded_to n (put_at k x l) ≡ set (padded_to n l) k x
padded_put zero k x l low = absurd (omega (arith, low))
padded_put (suc n) zero x [] low = refl
padded_put (suc n) zero x (y ∷ l) low = refl
padded_put (suc n) (suc k) x [] low = ap (λ (r : List ℕ). 0 ∷ r) (padded_put n k x [] (omega (arith, low)))
padded_put (suc n) (suc k) x (y ∷ l) low = ap (λ (r : List ℕ). y ∷ r) (padded_put n k x l (omega (arith, low)))

pub padded_at : (n k : ℕ) (l : List ℕ) → k < n → get_or (padded_to n l) k 0 ≡ get_or l k 0
padded_at zero k l low = absurd (omega (arith, low))
padded_at (suc n) zero [] low = refl
padded_at (suc n) zero (y ∷ l) low = refl
padded_at (suc n) (suc k) [] low = padded_at n k [] (omega (arith, low))
padded_at (suc n) (suc k) (y ∷ l) low = padded_at n k l (omega (arith, low))

module _ {W : ℕ} (table seat : TableId) (me : Me (Cell W) (View W)) (who : ℕ) (config : Config) (last : ℕ) (pins : List (Option Pin)) (done late : ℕ)
    (old : IsSeated table seat me (seated_of table who config me.0 last pins done late))
    (now : SharedState) (is_now : seated_of table who config me.0 last pins done late ≡ now)
    (seat' : TableId) (me' : Me (Cell W) (View W)) (same : seat' ≡ seat) (k : ℕ) (low_now : k < now.config.shards) (visit : VisitedShard k me me') where
  abbrev before : DeskState
  before = shared_desk (seated_of table who config me.0 last pins done late)

  abbrev after : List (Option Pin) → ℕ → ℕ → DeskState
  after pins' done' late' = shared_desk (seated_of table who config me'.0 last pins' done' late')

  low : k < config.shards
  low = subst (λ (s : SharedState). k < s.config.shards) (sym is_now) low_now

  seen_is : me'.0.seen ≡ visit.journal.history
  seen_is = ap (λ (m : Me (Cell W) (View W)). m.0.seen) visit.me_is

  asked : visit.config ≡ config
  asked = sym (visit.knows.config_is config old.config_is)

  left_is : padded_to config.shards me'.0.left ≡ set (padded_to config.shards me.0.left) k visit.new.current.at
  left_is = ap (λ (m : Me (Cell W) (View W)). padded_to config.shards m.0.left) visit.me_is
      ∙ padded_put config.shards k visit.new.current.at me.0.left low

  low_left : k < length (padded_to config.shards me.0.left)
  low_left = omega (arith, low, padded_to_length config.shards me.0.left)

  -- the desk left the shard where that stands
  pub left_there : (pins' : List (Option Pin)) (done' late' : ℕ) → left_at (after pins' done' late') k ≡ visit.new.current.at
  left_there pins' done' late' = ap (λ (l : List ℕ). get_or l k 0) left_is
      ∙ get_or-set_same (padded_to config.shards me.0.left) k visit.new.current.at 0 low_left

  left_else : (other : ℕ) → other ≢ k → get_or (padded_to config.shards me'.0.left) other 0 ≡ get_or (padded_to config.shards me.0.left) other 0
  left_else other apart = ap (λ (l : List ℕ). get_or l other 0) left_is
      ∙ get_or-set_other (padded_to config.shards me.0.left) k other visit.new.current.at 0 apart

  -- which was pinned no later
  pub pinned_there : pinned_at before k ≤ visit.old.current.at
  pinned_there = omega (arith, old.desk.pinned k low, padded_at config.shards k me.0.left low, visit.left)

  -- so that a call which takes a step an entry from there on takes no more of them than from the pin
  pub upkeep_from_pin : (position steps steps' : ℕ) → steps' ≤ steps + (position - get_or me.0.left k 0)
      → steps' ≤ steps + (position - pinned_at (shared_desk now) k)
  upkeep_from_pin position steps steps' few = subst (λ (s : SharedState). steps' ≤ steps + (position - pinned_at (shared_desk s) k)) is_now
      (omega (arith, few, old.desk.pinned k low, padded_at config.shards k me.0.left low))

  pub pinned_still : (pins' : List (Option Pin)) (done' late' : ℕ) → pinned_at before k ≤ left_at (after pins' done' late') k
  pinned_still pins' done' late' = omega (arith, pinned_there, visit.never_back, left_there pins' done' late')

  longer : length me.0.seen ≤ length visit.journal.history
  longer = omega (arith, ap length visit.knows.seen.longer, length-append me.0.seen visit.knows.seen.more)

  pub visited_seated : (pins' : List (Option Pin)) (done' late' : ℕ) → length pins' ≡ length pins
      → ((other : ℕ) → other ≢ k → get_or pins' other None ≡ get_or pins other None)
      → pin_position (get_or pins' k None) ≤ visit.new.current.at
      → IsSeated table seat' me' (seated_of table who config me'.0 last pins' done' late')
  visited_seated pins' done' late' long others reached = record {
    board = same ∙ old.board;
    places = old.places;
    free = record { slots = ap (λ (m : Me (Cell W) (View W)). m.1) visit.me_is; held = ap (λ (m : Me (Cell W) (View W)). m.0.held) visit.me_is };
    number = ap (λ (m : Me (Cell W) (View W)). m.0.number) visit.me_is ∙ old.number;
    config_is = ap (λ (m : Me (Cell W) (View W)). m.0.config) visit.me_is ∙ ap Some asked;
    desk = record {
      config = old.desk.config;
      few_words = old.desk.few_words;
      room = old.desk.room;
      legal = subst IsLegal (sym seen_is) visit.sound.sound.legal;
      few = omega (arith, visit.sound.sound.few, ap length seen_is, visit.sound.limit, ap (λ (c : Config). c.entries) asked);
      codes = subst (AreStoredEntries W config.bits) (sym seen_is)
          (subst (λ (c : Config). AreStoredEntries W c.bits visit.journal.history) asked visit.sound.codes);
      pins = long ∙ old.desk.pins;
      left = padded_to_length config.shards me'.0.left;
      pinned = λ other below. pinned_of other below (cases_eq other k);
      pinned_within = λ other below. within_of other below (cases_eq other k);
      places = λ e. absurd (true≢false (sym e));
      each = λ e. absurd (true≢false (sym e));
    };
  }
    where
      pinned_of : (other : ℕ) → other < config.shards → (other ≡ k) ⊎ (other ≢ k)
          → pin_position (get_or pins' other None) ≤ get_or (padded_to config.shards me'.0.left) other 0
      pinned_of other below (inl one) =
          subst (λ (n : ℕ). pin_position (get_or pins' n None) ≤ get_or (padded_to config.shards me'.0.left) n 0) (sym one)
          (omega (arith, reached, left_there pins' done' late'))
      pinned_of other below (inr apart) =
          omega (arith, old.desk.pinned other below, left_else other apart, ap pin_position (others other apart))

      within_of : (other : ℕ) → other < config.shards → (other ≡ k) ⊎ (other ≢ k) → pin_position (get_or pins' other None) ≤ length me'.0.seen
      within_of other below (inl one) = subst (λ (n : ℕ). pin_position (get_or pins' n None) ≤ length me'.0.seen) (sym one)
          (omega (arith, reached, visit.stands.rule.within, ap length seen_is))
      within_of other below (inr apart) =
          omega (arith, old.desk.pinned_within other below, ap pin_position (others other apart), longer, ap length seen_is)

  -- with the pins as they were
  pub visited_same : (done' late' : ℕ) → IsSeated table seat' me' (seated_of table who config me'.0 last pins done' late')
  visited_same done' late' = visited_seated pins done' late' refl (λ _ _. refl) (omega (arith, pinned_there, visit.never_back))

  pub visited_learns : Learns before me'.0.seen
  visited_learns = subst (Learns before) (sym seen_is)
      (learns_history table seat me who config last pins done late old now is_now visit.config
      visit.journal visit.knows)

  pub visited_after : (pins' : List (Option Pin)) (done' late' : ℕ) → after pins' done' late' ≡ record before {
    seen = me'.0.seen;
    pins = pins';
    left = slice_set before.left k (left_at (after pins' done' late') k);
    done = done';
    late = late';
  }
  visited_after pins' done' late' =
      ap (λ (m : Me (Cell W) (View W)). shared_desk (seated_of table who config m.0 last pins' done' late')) visit.me_is
      ∙ ap (λ (h : List JournalEntry). (record before {
        seen = h;
        pins = pins';
        left = padded_to config.shards (put_at k visit.new.current.at me.0.left);
        done = done';
        late = late';
      })) (sym seen_is)
      ∙ ap (λ (l : List ℕ). (record before {
        seen = me'.0.seen;
        pins = pins';
        left = l;
        done = done';
        late = late';
      }))
      (padded_put config.shards k visit.new.current.at me.0.left low
      ∙ ap (set (padded_to config.shards me.0.left) k) (sym (left_there pins' done' late')))

  pub visited_fronts : me'.0.fronts ≡ now.fronts
  visited_fronts = ap (λ (m : Me (Cell W) (View W)). m.0.fronts) visit.me_is ∙ ap (λ (s : SharedState). s.fronts) is_now

  comes_with : (pins' : List (Option Pin)) → Comes before (after pins' done late) k pins'
  comes_with pins' = record {
    learns = visited_learns;
    after = visited_after pins' done late;
    places = λ e. absurd (true≢false (sym e));
    never_back = λ e. absurd (true≢false (sym e));
  }

  pub visited_comes : Comes (shared_desk now) (after pins done late) k now.pins
  visited_comes = subst (λ (s : SharedState). Comes (shared_desk s) (after pins done late) k s.pins) is_now (comes_with pins)

  -- ---- with a version at a front
  module _ (front : FrontState) (version : Contents) (given : IsGivenAt visit.config visit.journal k (position_of front) version)
      (reached : position_of front ≤ visit.new.current.at) (pin : Pin) (pin_is : pin ≡ (position_of front, layout_text version.layout.parts)) where
    abbrev pinned : List (Option Pin)
    pinned = set pins k (Some pin)

    low_pins : k < length pins
    low_pins = omega (arith, low, old.desk.pins)

    pub pinned_seated : IsSeated table seat' me' (seated_of table who config me'.0 last pinned done late)
    pinned_seated = visited_seated pinned done late (length-set pins k (Some pin)) (λ other apart. get_or-set_other pins k other (Some pin) None apart)
        (omega (arith, reached, ap pin_position (get_or-set_same pins k (Some pin) None low_pins), ap (λ (p : Pin). p.0) pin_is))

    version_is : IsVersionOf (after pinned done late) k (position_of front) version
    version_is =
        let shards_are = given.shards_are ∙ ap (λ (c : Config). c.shards) asked in
        let bits_are = given.bits_are ∙ ap (λ (c : Config). c.bits) asked in
        record {
          sound = given.sound;
          shard_is = given.shard_is;
          shards_are = shards_are;
          bits_are = bits_are;
          at = given.at;
          rows = ap (λ (each : Contents). each.rows) given.rows
              ∙ ap (λ (n : ℕ). shard_rows n version.shards (rows_of (take (position_of front)
              (cut_history version.layout.bits visit.journal.history)))) given.shard_is
              ∙ ap (λ (n : ℕ). shard_rows k n (rows_of (take (position_of front) (cut_history version.layout.bits visit.journal.history)))) shards_are
              ∙ ap (λ (n : ℕ). shard_rows k config.shards (rows_of (take (position_of front) (cut_history n visit.journal.history)))) bits_are
              ∙ ap (λ (h : List JournalEntry). shard_rows k config.shards (rows_of (take (position_of front) (cut_history config.bits h)))) (sym seen_is);
        }

    pub pinned_desk : PinsVersion (shared_desk now) (after pinned done late) front k version
    pinned_desk = subst (λ (s : SharedState). PinsVersion (shared_desk s) (after pinned done late) front k version) is_now (record {
      comes = subst (λ (p : Pin). Comes before (after pinned done late) k (set pins k (Some p))) pin_is (comes_with pinned);
      version_is = version_is;
      reached = omega (arith, reached, left_there pinned done late);
      alone = λ e. absurd (true≢false (sym e));
      layout = λ e. absurd (true≢false (sym e));
    })

  -- ---- with the text of its layout
  pub visited_tells : (text : List ℕ) → text ≡ layout_text visit.new.current.layout.parts → TellsLayout (shared_desk now) (after pins done late) k text
  visited_tells text is = subst (λ (s : SharedState). TellsLayout (shared_desk s) (after pins done late) k text) is_now (record {
    learns = visited_learns;
    after = visited_after pins done late;
    laid = visit.new.current.layout;
    is_laid = visit.stands.rule.laid;
    bits = visit.stands.bits_are ∙ ap (λ (c : Config). c.bits) asked;
    text = is;
    pinned = pinned_still pins done late;
    alone = λ e. absurd (true≢false (sym e));
  })
