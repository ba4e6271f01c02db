-- The state of a world as numbers and lists, which a model needs.
use Rattle.std.specs.Prelude.{◌≡◌, ℕ, ◌⊎◌, Bool, List, Option, refl}
use mathlib.Core.Logic.{inl, inr}
use Rattle.std.specs.Coded.{Coded, code_by, coded×, coded⊎, coded_bool, coded_list, coded_option, coded_ℕ}
use Rattle.hamming_model.specs.Coding.{history_code}
use Rattle.hamming_model.specs.History.{JournalEntry}
use Rattle.hamming_model.specs.Scan.{Ask, Range, Near}
use Rattle.part_layout.specs.Laid.{Laid, laid_code}
use Rattle.shard_version.specs.Contents.{Contents, contents_code}
use Rattle.hit_source.specs.Codes.{standing_code}
use Rattle.hit_source.specs.Sources.{Standing}
use Rattle.versioned_shard.specs.Shards.{ShardState, shard_code}
use Rattle.world_model.specs.Events.{Setting}
use Rattle.world_model.specs.WorldState.{Rebuild, ShardWithBuild, WorldQuery, WorldState}

-- the number and the code of a range, or of a near question
abbrev pub split_ask : Ask → (ℕ × List ℕ) ⊎ (ℕ × List ℕ)
split_ask (Range radius code) = inl (radius, code)
split_ask (Near number code) = inr (number, code)

-- the question with these
abbrev pub joined_ask : (ℕ × List ℕ) ⊎ (ℕ × List ℕ) → Ask
joined_ask (inl range) = Range range.0 range.1
joined_ask (inr near) = Near near.0 near.1

-- splitting loses nothing
pub joined-split : (ask : Ask) → joined_ask (split_ask ask) ≡ ask
joined-split (Range radius code) = refl
joined-split (Near number code) = refl

-- a question as a number and a code
abbrev pub ask_code : Coded Ask
ask_code =
    code_by ((ℕ × List ℕ) ⊎ (ℕ × List ℕ))
    (coded⊎ (coded× coded_ℕ (coded_list coded_ℕ)) (coded× coded_ℕ (coded_list coded_ℕ)))
    split_ask joined_ask joined-split

-- a build as a pair
abbrev pub rebuild_code : Coded Rebuild
rebuild_code =
    code_by (Contents × ℕ) (coded× contents_code coded_ℕ) (λ build. (build.version, build.left))
    (λ pair. record { version = pair.0; left = pair.1 }) (λ _. refl)

-- a shard with its build as a pair
abbrev pub place_code : Coded ShardWithBuild
place_code =
    code_by (ShardState × Option Rebuild) (coded× shard_code (coded_option rebuild_code))
    (λ place. (place.shard, place.build))
    (λ pair. record { shard = pair.0; build = pair.1 }) (λ _. refl)

-- a query as a tuple
abbrev pub query_code : Coded WorldQuery
query_code =
    code_by (Ask × (ℕ × (Option (List ℕ) × (List (Option Laid) × (List Standing × (ℕ × Bool))))))
    (coded× ask_code (coded× coded_ℕ (coded× (coded_option (coded_list coded_ℕ))
    (coded× (coded_list (coded_option laid_code)) (coded× (coded_list standing_code)
    (coded× coded_ℕ coded_bool))))))
    (λ q. (q.ask, (q.position, (q.front, (q.pinned, (q.sources, (q.given, q.cancelled)))))))
    (λ t. record {
      ask = t.0;
      position = t.1.0;
      front = t.1.1.0;
      pinned = t.1.1.1.0;
      sources = t.1.1.1.1.0;
      given = t.1.1.1.1.1.0;
      cancelled = t.1.1.1.1.1.1;
    }) (λ _. refl)

-- a state as a tuple
abbrev pub state_code : Coded WorldState
state_code =
    code_by (List JournalEntry × (List ShardWithBuild × List WorldQuery))
    (coded× history_code (coded× (coded_list place_code) (coded_list query_code)))
    (λ s. (s.history, (s.places, s.queries)))
    (λ t. record { history = t.0; places = t.1.0; queries = t.1.1 }) (λ _. refl)

-- a setting as a tuple
abbrev pub setting_code : Coded Setting
setting_code =
    code_by (ℕ × (ℕ × (ℕ × ℕ))) (coded× coded_ℕ (coded× coded_ℕ (coded× coded_ℕ coded_ℕ)))
    (λ z. (z.bits, (z.shards, (z.room, z.limit))))
    (λ t. record { bits = t.0; shards = t.1.0; room = t.1.1.0; limit = t.1.1.1 }) (λ _. refl)
