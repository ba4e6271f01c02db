-- Shards begin, one after another.
use Rattle.std.proofs.Common.{◌≡◌, ℕ, zero, suc, ◌+◌, List, [], ◌∷◌, ◌++◌, None, refl, sym, ap, ◌∙◌, arith}
use Rattle.std.proofs.lemmas.List.{map-append}
use Rattle.part_layout.specs.Laid.{Laid}
use Rattle.shard_version.specs.Contents.{empty_of}
use Rattle.versioned_shard.specs.Shards.{shard_with}
use Rattle.world_model.specs.Events.{Setting}
use Rattle.world_model.specs.WorldState.{ShardWithBuild, empty_places}
use Rattle.world_parts.specs.Seen.{place_seen}
use Rattle.world_parts.specs.Starts.{ArePlacesBegun}
use Rattle.world_parts.specs.declared.place.Place.{Place}

-- a shard before the first entry
abbrev pub first_place : ℕ → ℕ → Laid → ShardWithBuild
first_place shard shards layout = record { shard = shard_with (empty_of shard shards layout) []; build = None }

-- one shard more
empty_more : (z : Setting) (layout : Laid) (first n : ℕ)
    → empty_places z layout first n ++ first_place (first + n) z.shards layout ∷ [] ≡ empty_places z layout first (suc n)
empty_more z layout first zero = ap (λ (at : ℕ). first_place at z.shards layout ∷ []) (let e : first + 0 ≡ first = omega arith in e)
empty_more z layout first (suc n) =
    ap (λ (rest : List ShardWithBuild). first_place first z.shards layout ∷ rest)
    (ap (λ (at : ℕ). empty_places z layout (first + 1) n ++ first_place at z.shards layout ∷ [])
    (let e : first + suc n ≡ first + 1 + n = omega arith in e)
    ∙ empty_more z layout (first + 1) n)

pub none_begun : {W : ℕ} (shards : ℕ) (layout : Laid) → ArePlacesBegun {W = W} shards layout [] 0
none_begun shards layout = record { are = λ z same. refl }

pub one_more_begun : {W : ℕ} (shards : ℕ) (layout : Laid) (places : List (Place W)) (number : ℕ) (place : Place W)
    → ArePlacesBegun shards layout places number → place_seen place ≡ first_place number shards layout
    → ArePlacesBegun shards layout (places ++ place ∷ []) (number + 1)
one_more_begun shards layout places number place begun is = record {
  are = λ z same.
      map-append place_seen places (place ∷ [])
      ∙ ap (λ (first : List ShardWithBuild). first ++ place_seen place ∷ []) (begun.are z same)
      ∙ ap (λ (one : ShardWithBuild). empty_places z layout 0 number ++ one ∷ [])
      (is ∙ ap (λ (n : ℕ). first_place number n layout) (sym same)
      ∙ ap (λ (n : ℕ). first_place n z.shards layout) (let e : number ≡ 0 + number = omega arith in e))
      ∙ empty_more z layout 0 number
      ∙ ap (empty_places z layout 0) (let e : suc number ≡ number + 1 = omega arith in e);
}
