-- Which sources have to be polled before the next hit of a gathering is known.
use Rattle.std.specs.Prelude.{ℕ, ◌+◌, nat_le, nat_lt, ◌&&◌, min, Bool, true, false, List, [], ◌∷◌, Option, Some, None, is_some, if◌then◌else◌}
use Rattle.std.specs.List.{list_any}
use Rattle.hamming_model.specs.declared.hit.Hit.{Hit}
use Rattle.hit_source.specs.Sources.{Standing}
use Rattle.hit_source.specs.Moves.{first_of}
use Rattle.scatter_gather.specs.Gathering.{Source, Gathering}

-- the lower of two floors, where none is the highest
abbrev pub lower : Option ℕ → Option ℕ → Option ℕ
lower None other = other
lower (Some floor) None = Some floor
lower (Some floor) (Some other) = Some (min floor other)

-- the floor of a source
abbrev pub floor_at : Source → Option ℕ
floor_at s = s.standing.floor

-- the least of what sources have as floors
abbrev pub least_of : (Source → Option ℕ) → List Source → Option ℕ
least_of f [] = None
least_of f (s ∷ sources) = lower (f s) (least_of f sources)

-- the least floor of all sources
abbrev pub least_floor : List Source → Option ℕ
least_floor sources = least_of floor_at sources

-- there is a floor, and it isn't above the least
abbrev pub is_least : Option ℕ → Option ℕ → Bool
is_least None least = false
is_least (Some floor) None = false
is_least (Some floor) (Some least) = nat_le floor least

-- no hit waits
abbrev pub is_empty : List Hit → Bool
is_empty [] = true
is_empty (hit ∷ hits) = false

-- a hit waits at a source
abbrev pub has_head : Source → Bool
has_head s = is_some (first_of s.standing.waiting)

-- a source that may have the next hit: none waits, and its floor is the least
abbrev pub may_have_next : Option ℕ → Source → Bool
may_have_next least s = is_empty s.standing.waiting && is_least s.standing.floor least

-- some source may have the next hit
abbrev pub any_may_have_next : List Source → Bool
any_may_have_next sources = list_any (may_have_next (least_floor sources)) sources

-- a source is polled where it may have the next hit and the limit isn't reached
abbrev pub is_due : Gathering → Source → Bool
is_due g s = nat_lt g.given g.limit && may_have_next (least_floor g.sources) s

-- some source is due
abbrev pub some_due : Gathering → Bool
some_due g = nat_lt g.given g.limit && any_may_have_next g.sources

-- no hit waits at a source, and it has not ended
abbrev pub is_idle : Standing → Bool
is_idle s = is_empty s.waiting && is_some s.floor

-- how much a source has to do at most until a hit waits or it has ended: its units,
-- and one where it is idle
abbrev pub todo : Source → ℕ
todo s = s.standing.units + (if is_idle s.standing then 1 else 0)
