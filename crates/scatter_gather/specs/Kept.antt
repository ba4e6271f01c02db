-- What is true of a gathering at every moment.
-- No public clause but those of private calls cites this module.
use Rattle.std.specs.Prelude.{◌≡◌, ℕ, ◌≤◌, List, [], ◌∷◌, length, drop, Option, Some, None, IfSome}
use Rattle.std.specs.List.{AllByRecursion}
use Rattle.hamming_model.specs.declared.limits.TheConstants.{SHARDS_MOST}
use Rattle.hamming_model.specs.Scan.{in_order}
use Rattle.hit_source.specs.Sources.{Asked, IsLawful}
use Rattle.scatter_gather.specs.Gathering.{Source, Gathering, all_asked, merged, left_hits}

-- a radius that was begun, if one was, is at most so far
abbrev pub IsUpTo : Option ℕ → Option ℕ → Type 0
IsUpTo None most = Unit {0}
IsUpTo (Some radius) None = ⊥
IsUpTo (Some radius) (Some most) = radius ≤ most

-- the farthest that a hit of the first source may be
abbrev pub length_of : List Asked → ℕ
length_of [] = 0
length_of (a ∷ asks) = a.farthest

-- the hits of all sources may be as far
abbrev pub AreOneLength : List Asked → Type 0
AreOneLength asks = AllByRecursion (λ a. a.farthest ≡ length_of asks) asks

-- what the sources have not given is what the merge has after the hits given,
-- none of it nearer than the last
pub record IsGathering (g : Gathering) : Type 0 where
  pub some : 1 ≤ length g.sources
  pub few : length g.sources ≤ SHARDS_MOST
  pub merge : drop g.given (merged (all_asked g.sources)) ≡ in_order (left_hits g.sources)
  pub within : g.given ≤ g.limit
  pub one_length : AreOneLength (all_asked g.sources)
  pub last : IfSome g.last (λ far. far ≤ length_of (all_asked g.sources))
  pub later : IfSome g.last (λ far. AllByRecursion (λ hit. far ≤ hit.dist) (left_hits g.sources))

-- every source is lawful
abbrev pub AreLawful : List Source → Type 0
AreLawful sources = AllByRecursion (λ s. IsLawful s.asked s.standing) sources
