-- A window over a list of hits: which were given, and which wait in a room.
use Rattle.std.specs.Prelude.{ℕ, ◌+◌, ◌-◌, ◌≤◌, List, [], ◌∷◌, ◌++◌, length, take, drop, Option, Some, None}
use Rattle.hamming_model.specs.declared.hit.Hit.{Hit}
use Rattle.hamming_model.specs.Scan.{in_order}

-- hits, how many memory is reserved for, how many may wait, how many were given,
-- and how many were given or moved into the room
pub record Window : Type 0 where
  pub found : List Hit
  pub capacity : ℕ
  pub room : ℕ
  pub given : ℕ
  pub moved : ℕ

-- the hits that were not given
abbrev pub left_of : Window → List Hit
left_of w = drop w.given w.found

-- the hits that wait
abbrev pub waiting_of : Window → List Hit
waiting_of w = take (w.moved - w.given) (left_of w)

-- the distance of the first of some hits
abbrev pub first_distance : List Hit → Option ℕ
first_distance [] = None
first_distance (head ∷ rest) = Some head.dist

-- what waits was not given, is among the hits, and fits the room
pub record IsWindow (w : Window) : Type 0 where
  pub behind : w.given ≤ w.moved
  pub among : w.moved ≤ length w.found
  pub fits : w.moved ≤ w.given + w.room

-- a window by its parts
abbrev pub window_at : List Hit → ℕ → ℕ → ℕ → ℕ → Window
window_at found capacity room given moved =
    record { found = found; capacity = capacity; room = room; given = given; moved = moved }

-- a window over these hits of which none was moved
abbrev pub window_of : List Hit → ℕ → ℕ → Window
window_of hits capacity room = window_at hits capacity room 0 0

-- the window with one hit more, the last
abbrev pub with_hit : Window → Hit → Window
with_hit w hit = window_at (w.found ++ hit ∷ []) w.capacity w.room w.given w.moved

-- the window over its hits in order
abbrev pub put_in_order : Window → Window
put_in_order w = window_at (in_order w.found) w.capacity w.room w.given w.moved

-- the window with one hit more in the room
abbrev pub with_moved : Window → Window
with_moved w = window_at w.found w.capacity w.room w.given (w.moved + 1)

-- the window after its first waiting hit was given, if one waits
abbrev pub with_given : Window → Window
with_given w =
    window_at w.found w.capacity w.room (w.given + length (take 1 (waiting_of w))) w.moved
