-- Many sources of hits asked at once: their merge, the answer,
-- and where a gathering of them stands.
use Rattle.std.specs.Prelude.{ℕ, min, nat_le, nat_lt, ◌&&◌, Bool, List, length, take, drop, Option, map}
use Rattle.std.specs.List.{flat_map, list_all, sum_by}
use Rattle.hamming_model.specs.declared.hit.Hit.{Hit}
use Rattle.hamming_model.specs.Scan.{in_order}
use Rattle.hit_source.specs.Sources.{Asked, Standing}
use Rattle.hit_source.specs.Moves.{first_of}

-- one source: what it is asked, and where it stands
pub record Source : Type 0 where
  pub asked : Asked
  pub standing : Standing

-- a source by what it is seen as
abbrev pub source_of : {S : Type 0} → (S → Asked) → (S → Standing) → S → Source
source_of asks stands source = record { asked = asks source; standing = stands source }

-- sources by what they are seen as
abbrev pub sources_of : {S : Type 0} → (S → Asked) → (S → Standing) → List S → List Source
sources_of asks stands sources = map (source_of asks stands) sources

-- a gathering: its sources, how many hits it gives at most, how many it gave,
-- and the distance of the last
pub record Gathering : Type 0 where
  pub sources : List Source
  pub limit : ℕ
  pub given : ℕ
  pub last : Option ℕ

-- a gathering by its parts
abbrev pub gathering_of : List Source → ℕ → ℕ → Option ℕ → Gathering
gathering_of sources limit given last =
    record { sources = sources; limit = limit; given = given; last = last }

-- a gathering over sources as the program holds them
pub record Gathered (S : Type 0) : Type 0 where
  pub sources : List S
  pub limit : ℕ
  pub given : ℕ
  pub last : Option ℕ

-- such a gathering by its parts
abbrev pub gathered : {S : Type 0} → List S → ℕ → ℕ → Option ℕ → Gathered S
gathered sources limit given last =
    record { sources = sources; limit = limit; given = given; last = last }

-- a gathering by what its sources are seen as
abbrev pub seen : {S : Type 0} → (S → Asked) → (S → Standing) → Gathered S → Gathering
seen asks stands g = gathering_of (sources_of asks stands g.sources) g.limit g.given g.last

-- what the sources are asked
abbrev pub all_asked : List Source → List Asked
all_asked sources = map (λ s. s.asked) sources

-- how many hits each gave
abbrev pub given_of : List Source → List ℕ
given_of sources = map (λ s. s.standing.given) sources

-- all hits that are asked for, in order of distance and key
abbrev pub merged : List Asked → List Hit
merged asks = in_order (flat_map (λ a. a.hits) asks)

-- the answer: the merge, cut at the limit
abbrev pub answer_of : Gathering → List Hit
answer_of g = take g.limit (merged (all_asked g.sources))

-- the hits of the answer that were not given
abbrev pub answer_left : Gathering → List Hit
answer_left g = drop g.given (answer_of g)

-- the next hit of the answer, if one is left
abbrev pub next_hit : Gathering → Option Hit
next_hit g = first_of (answer_left g)

-- whether the answer has another hit
abbrev pub has_more : Gathering → Bool
has_more g = nat_lt g.given (length (answer_of g))

-- every row is a hit, and there are as many as the limit
abbrev pub reaches_by_rows : Gathering → Bool
reaches_by_rows g =
    list_all (λ s. s.asked.near) g.sources && nat_le g.limit (sum_by (λ s. s.asked.rows) g.sources)

-- the reads of all sources, at most the greatest number of 64 bits
abbrev pub all_reads : {S : Type 0} → (S → Standing) → Gathered S → ℕ
all_reads stands g = min (sum_by (λ source. (stands source).reads) g.sources) 18446744073709551615

-- the bounds of all sources for the last hit given, at most that number
abbrev pub all_bounds : {S : Type 0} → (S → Asked) → Gathered S → ℕ
all_bounds asks g =
    min (sum_by (λ source. (asks source).bound g.last) g.sources) 18446744073709551615

-- the hits that their sources have not given
abbrev pub left_hits : List Source → List Hit
left_hits sources = flat_map (λ s. drop s.standing.given s.asked.hits) sources
