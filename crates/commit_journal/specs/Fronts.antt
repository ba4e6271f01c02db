-- Fronts: what a contract sees of one, and the live ones of a journal.
use Rattle.std.specs.Prelude.{◌≡◌, ◌==◌, ℕ, ◌<◌, Bool, true, List, [], ◌∷◌, length, Option, Some, option_map, refl}
use Rattle.std.specs.Coded.{Coded, code_by, coded×, coded_list, coded_ℕ}
use Rattle.std.specs.FinMap as map
use Rattle.std.specs.List.{AllByRecursion, list_any}
use Rattle.std.specs.Ordering.{nat_cmp}
use Rattle.hamming_model.specs.Coding.{history_code}
use Rattle.hamming_model.specs.History.{JournalEntry, IsLegal}

-- a front: its number, its session's, the positions of the fronts below it,
-- and the entries below its position
pub record FrontState : Type 0 where
  pub id : ℕ
  pub who : ℕ
  pub older : List ℕ
  pub entries : List JournalEntry

-- the position of a front: how many entries stand below it
abbrev pub position_of : FrontState → ℕ
position_of front = length front.entries

-- a front of these parts
abbrev pub front_of : ℕ → ℕ → List ℕ → List JournalEntry → FrontState
front_of id who older entries = record { id = id; who = who; older = older; entries = entries }

-- a front as a tuple
abbrev pub front_code : Coded FrontState
front_code =
    code_by (ℕ × (ℕ × (List ℕ × List JournalEntry)))
    (coded× coded_ℕ (coded× coded_ℕ (coded× (coded_list coded_ℕ) history_code)))
    (λ f. (f.id, (f.who, (f.older, f.entries))))
    (λ t. record { id = t.0; who = t.1.0; older = t.1.1.0; entries = t.1.1.1 }) (λ _. refl)

-- numbers that ascend, each once
abbrev pub ArePositionsInOrder : List ℕ → Type 0
ArePositionsInOrder [] = Unit {0}
ArePositionsInOrder (first ∷ rest) =
    AllByRecursion (λ other. first < other) rest × ArePositionsInOrder rest

-- whether a position is among these
abbrev pub has_position : List ℕ → ℕ → Bool
has_position positions position = list_any (λ other. other == position) positions

-- what is true of every front: the positions of its list ascend, and are below its own;
-- its entries are a legal history
pub record IsFront (front : FrontState) : Type 0 where
  pub ascending : ArePositionsInOrder front.older
  pub below : AllByRecursion (λ position. position < position_of front) front.older
  pub legal : IsLegal front.entries

-- the live fronts: session and position by number
abbrev pub Live : Type 0
Live = map.FinMap nat_cmp (ℕ × ℕ)

-- the session and the position of a live front
abbrev pub live_at : Live → ℕ → Option (ℕ × ℕ)
live_at live id = map.get live id

-- the position of a live front, by its number
abbrev pub positions_of : Live → ℕ → Option ℕ
positions_of live id = option_map (λ pair. pair.1) (live_at live id)

-- a front that is live stands at this position, where the positions of the live ones are these,
-- by number
pub record StandsAt (live : ℕ → Option ℕ) (position : ℕ) : Type 0 where
  pub number : ℕ
  pub stands : live number ≡ Some position

-- exactly the positions of the live fronts strictly below a position, ascending, each once
pub record AreOlder (live : Live) (position : ℕ) (older : List ℕ) : Type 0 where
  pub ascending : ArePositionsInOrder older
  pub below : AllByRecursion (λ other. other < position) older
  pub only : (other : ℕ) → has_position older other ≡ true → StandsAt (positions_of live) other
  pub all : (other : ℕ) → StandsAt (positions_of live) other → other < position
      → has_position older other ≡ true
