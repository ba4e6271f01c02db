-- What a contract sees of a desk at a board.
use Rattle.std.specs.Prelude.{◌≡◌, ◌+◌, ℕ, zero, suc, false, List, [], ◌∷◌, Option, Some, None, replicate, refl}
use Rattle.std.specs.Coded.{Coded, code_by, coded×, coded_list, coded_option, coded_ℕ}
use Rattle.std.specs.FinMap as map
use Rattle.hamming_model.specs.Coding.{history_code}
use Rattle.hamming_model.specs.History.{JournalEntry}
use Rattle.part_layout.specs.declared.config.Config.{Config}
use Rattle.commit_journal.specs.Fronts.{FrontState, Live, front_code, position_of}
use Rattle.atomic_table.specs.Seated.{TableId}
use Rattle.atomic_table.specs.Table.{Me}
use Rattle.session_desk.specs.Desks.{DeskState, IsDesk, Pin}
use Rattle.session_desk.specs.Solos.{config_code}
use Rattle.board_seats.specs.declared.rule.Cell.{Cell}
use Rattle.board_seats.specs.declared.rule.Opening.{Opening}
use Rattle.board_seats.specs.declared.rule.View.{View}
use Rattle.board_seats.specs.Visits.{IsFree}
use Rattle.shared_board.specs.Boards.{HasPlaces, board_number}

-- its board; its number; what the board was made for; the entries that it has seen; the next number
-- as it found it last; its live fronts; the position of the front that it opened last; its last
-- pins, and by shard the position at which it left it; how many swaps were done, and came late
pub record SharedState : Type 0 where
  pub board : List ℕ
  pub who : ℕ
  pub config : Config
  pub seen : List JournalEntry
  pub next : ℕ
  pub fronts : List FrontState
  pub last : ℕ
  pub pins : List (Option Pin)
  pub left : List ℕ
  pub done : ℕ
  pub late : ℕ

-- a desk of these parts
abbrev pub shared_of : List ℕ → ℕ → Config → List JournalEntry → ℕ → List FrontState → ℕ
    → List (Option Pin) → List ℕ → ℕ → ℕ → SharedState
shared_of board who config seen next fronts last pins left done late = record {
  board = board;
  who = who;
  config = config;
  seen = seen;
  next = next;
  fronts = fronts;
  last = last;
  pins = pins;
  left = left;
  done = done;
  late = late;
}

-- a desk as a tuple
abbrev pub shared_code : Coded SharedState
shared_code =
    code_by (List ℕ × (ℕ × (Config × (List JournalEntry × (ℕ × (List FrontState × (ℕ
    × (List (Option Pin) × (List ℕ × (ℕ × ℕ))))))))))
    (coded× (coded_list coded_ℕ) (coded× coded_ℕ (coded× config_code (coded× history_code
    (coded× coded_ℕ (coded× (coded_list front_code) (coded× coded_ℕ
    (coded× (coded_list (coded_option (coded× coded_ℕ (coded_list coded_ℕ))))
    (coded× (coded_list coded_ℕ) (coded× coded_ℕ coded_ℕ))))))))))
    (λ s. (
      s.board,
      (
        s.who,
        (
          s.config,
          (
            s.seen,
            (
              s.next,
              (
                s.fronts,
                (
                  s.last,
                  (
                    s.pins,
                    (
                      s.left,
                      (s.done, s.late),
                    ),
                  ),
                ),
              ),
            ),
          ),
        ),
      ),
    ))
    (λ t. shared_of t.0 t.1.0 t.1.1.0 t.1.1.1.0 t.1.1.1.1.0 t.1.1.1.1.1.0 t.1.1.1.1.1.1.0
    t.1.1.1.1.1.1.1.0 t.1.1.1.1.1.1.1.1.0 t.1.1.1.1.1.1.1.1.1.0 t.1.1.1.1.1.1.1.1.1.1)
    (λ _. refl)

-- live fronts by number
abbrev pub live_map : List FrontState → Live
live_map [] = map.empty
live_map (front ∷ fronts) = map.insert (live_map fronts) front.id (front.who, position_of front)

-- the first so many numbers of a list, with 0 behind its end
abbrev pub padded_to : ℕ → List ℕ → List ℕ
padded_to zero numbers = []
padded_to (suc n) [] = 0 ∷ padded_to n []
padded_to (suc n) (first ∷ rest) = first ∷ padded_to n rest

-- what it is as a session's desk, which isn't alone
abbrev pub shared_desk : SharedState → DeskState
shared_desk s = record {
  board = s.board;
  who = s.who;
  config = s.config;
  seen = s.seen;
  fronts = live_map s.fronts;
  last = s.last;
  pins = s.pins;
  left = s.left;
  done = s.done;
  late = s.late;
  alone = false;
  places = [];
}

-- a desk whose seat has this view
abbrev pub seated_of : {W : ℕ} → TableId → ℕ → Config → View W → ℕ → List (Option Pin) → ℕ → ℕ
    → SharedState
seated_of table who config view last pins done late =
    shared_of (board_number table) who config view.seen view.next view.fronts last pins
    (padded_to config.shards view.left) done late

-- a desk that has no front and no pin, and left no shard
abbrev pub fresh_desk : List ℕ → ℕ → Config → List JournalEntry → ℕ → SharedState
fresh_desk board who config seen next = shared_of board who config seen next [] 0
    (replicate config.shards None) (replicate config.shards 0) 0 0

-- the first desk of a board, which has seen nothing
abbrev pub first_desk : List ℕ → Opening → SharedState
first_desk board opening =
    fresh_desk board opening.number opening.config [] (opening.number + 1)

-- the seat of a desk holds no place, has its number, and is at its board
pub record IsSeated {W : ℕ} (table seat : TableId) (me : Me (Cell W) (View W))
    (s : SharedState) : Type 0 where
  pub board : seat ≡ table
  pub places : HasPlaces table s.config
  pub free : IsFree me
  pub number : me.0.number ≡ Some s.who
  pub config_is : me.0.config ≡ Some s.config
  pub desk : IsDesk W (shared_desk s)
