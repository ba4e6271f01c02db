-- A walk over the posting lists of a plan, part by part, each by the values of its ball: where it
-- stands, and what it still has to read.
use Rattle.std.specs.Prelude.{◌≡◌, ℕ, ◌+◌, ◌^◌, ◌<◌, ◌≤◌, ℤ, List, [], ◌∷◌, ◌++◌, length, take, drop, All}
use Rattle.std.specs.List.{flat_map}
use Rattle.hamming_model.specs.declared.hit.Hit.{Hit}
use Rattle.hamming_model.specs.declared.limits.TheConstants.{PARTS_MOST}
use Rattle.hamming_model.specs.Layouts.{part_value}
use Rattle.ball_walk.specs.Flips.{flipped_ball}
use Rattle.threshold_model.specs.Vectors.{units_of}
use Rattle.threshold_model.specs.Finding.{threshold_at}
use Rattle.search_model.specs.Reading.{number_read}
use Rattle.search_model.specs.Keeping.{hits_of_parts}
use Rattle.shard_walk.specs.Planned.{Planned, parts_of, part_of, planned_query, list_of}

-- the part and its width, the values of its ball that are left, and the posting list of a value:
-- the next place in it, and where it ends
pub record Place : Type 0 where
  pub part : ℕ
  pub width : ℕ
  pub ball : List ℕ
  pub value : ℕ
  pub next : ℕ
  pub size : ℕ

-- the ball of a part, ring by ring
abbrev pub ball_of : Planned → ℕ → List ℕ
ball_of plan part =
    flipped_ball (part_value (planned_query plan) (part_of plan part)) (length (part_of plan part))
    (units_of (threshold_at plan.thresholds part))

-- a part of which nothing was read
abbrev pub part_begun : Planned → ℕ → Place
part_begun plan part =
    record {
      part = part;
      width = length (part_of plan part);
      ball = ball_of plan part;
      value = 0;
      next = 0;
      size = 0;
    }

-- a value of the ball is next, and no posting of it was read
abbrev pub value_begun : Planned → Place → ℕ → List ℕ → Place
value_begun plan place value rest =
    record place {
      ball = rest;
      value = value;
      next = 0;
      size = length (list_of plan place.part value);
    }

-- so many postings more were read
abbrev pub after_run : Place → ℕ → Place
after_run place count = record place { next = place.next + count }

-- the rows of the posting list that are left
abbrev pub rest_of_list : Planned → Place → List (ℕ × List ℕ)
rest_of_list plan place = drop place.next (take place.size (list_of plan place.part place.value))

-- the postings of each part from this one on, where each part has lists of its own: list by list,
-- as the values of its ball come
abbrev pub parts_walked : (ℕ → ℕ → List (ℕ × List ℕ)) → ℕ → List (List ℕ) → List ℤ → List ℕ
    → List (List (ℕ × List ℕ))
parts_walked lists number [] thresholds query = []
parts_walked lists number (part ∷ layout) [] query = []
parts_walked lists number (part ∷ layout) (t ∷ ts) query =
    flat_map (lists number) (flipped_ball (part_value query part) (length part) (units_of t))
    ∷ parts_walked lists (number + 1) layout ts query

-- the rows that are left to read, by part
abbrev pub rows_left : Planned → Place → List (List (ℕ × List ℕ))
rows_left plan place =
    (rest_of_list plan place ++ flat_map (list_of plan place.part) place.ball)
    ∷ parts_walked (list_of plan) (place.part + 1) (drop (place.part + 1) (parts_of plan))
    (drop (place.part + 1) plan.thresholds) (planned_query plan)

-- how many they are
abbrev pub reads_left : Planned → Place → ℕ
reads_left plan place = number_read (rows_left plan place)

-- the hits that will be kept of them
abbrev pub hits_left : Planned → Place → List Hit
hits_left plan place =
    hits_of_parts (parts_of plan) plan.thresholds (planned_query plan) plan.tau place.part
    (rows_left plan place)

-- how many values the balls of parts have
abbrev pub values_of : List (List ℕ) → List ℤ → List ℕ → ℕ
values_of [] thresholds query = 0
values_of (part ∷ parts) [] query = 0
values_of (part ∷ parts) (t ∷ ts) query =
    length (flipped_ball (part_value query part) (length part) (units_of t))
    + values_of parts ts query

-- how many values of balls are left
abbrev pub values_left : Planned → Place → ℕ
values_left plan place =
    length place.ball
    + values_of (drop (place.part + 1) (parts_of plan)) (drop (place.part + 1) plan.thresholds)
    (planned_query plan)

-- a place at a part of the plan, in the posting list of a value there
pub record IsWalkPlace (plan : Planned) (place : Place) : Type 0 where
  pub few_parts : length (parts_of plan) ≤ PARTS_MOST
  pub thresholds : length plan.thresholds ≡ length (parts_of plan)
  pub part : place.part < length (parts_of plan)
  pub width : place.width ≡ length (part_of plan place.part)
  pub ball : All (λ value. value < 2 ^ length (part_of plan place.part)) place.ball
  pub value : place.value < 2 ^ length (part_of plan place.part)
  pub next : place.next ≤ place.size
  pub size : place.size ≤ length (list_of plan place.part place.value)

-- the next value of a ball was taken, and what is left to read is as before
pub record BeginsValue (plan : Planned) (old new : Place) : Type 0 where
  pub place : IsWalkPlace plan new
  pub hits : hits_left plan new ≡ hits_left plan old
  pub reads : reads_left plan new ≡ reads_left plan old
  pub values : values_left plan old ≡ values_left plan new + 1

-- a part with nothing left was passed, and what is left to read is as before
pub record PassesPart (plan : Planned) (old new : Place) : Type 0 where
  pub place : IsWalkPlace plan new
  pub next_part : new.part ≡ old.part + 1
  pub at_start : new.next ≡ new.size
  pub hits : hits_left plan new ≡ hits_left plan old
  pub reads : reads_left plan new ≡ reads_left plan old
  pub values : values_left plan new ≡ values_left plan old
