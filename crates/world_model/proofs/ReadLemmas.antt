-- What a source has read is within the bound of its query.
use Rattle.std.proofs.Common.{◌≡◌, ℕ, zero, suc, ◌≤◌, List, [], ◌∷◌, take, map, filter, sym, subst, arith}
use Rattle.std.specs.Prelude.{nat_le, Option, Some, None, IfSome}
use Rattle.std.specs.List.{AllByRecursion}
use Rattle.std.specs.Ordering.{is_gt}
use Rattle.std.proofs.lemmas.Bool.{cond_both, leb-true}
use Rattle.hamming_model.specs.History.{JournalEntry, rows_of}
use Rattle.hamming_model.specs.Scan.{Ask, Range, Near, answer, hit_cmp, hit_of, hits_within, in_order, placed, scan}
use Rattle.hamming_model.specs.declared.hit.Hit.{Hit}
use Rattle.threshold_model.specs.Bounds.{last_distance}
use Rattle.hit_source.specs.Sources.{Asked, IsAsked, Standing}
use Rattle.scatter_gather.specs.Kept.{IsUpTo}
use Rattle.world_model.specs.Answers.{ReadsWithinBound}
use Rattle.world_model.specs.Asking.{asks_near}
use Rattle.world_model.specs.Events.{Setting, IsQuestion}
use Rattle.world_model.specs.Sound.{IsQuery, IsSource}
use Rattle.world_model.specs.WorldState.{WorldQuery, answer_on}

module _ (most : ℕ) where
  -- all hits are at most so far
  abbrev AreNear : List Hit → Type 0
  AreNear hits = AllByRecursion (λ hit. hit.dist ≤ most) hits

  near_placed : (hit : Hit) (hits : List Hit) → hit.dist ≤ most → AreNear hits → AreNear (placed hit hits)
  near_placed hit [] near all = (near, tt)
  near_placed hit (other ∷ hits) near all =
      cond_both (is_gt (hit_cmp hit other)) (other ∷ placed hit hits) (hit ∷ other ∷ hits) AreNear (λ after. (all.0, near_placed hit hits near all.1))
      (λ first. (near, all))

  near_in_order : (hits : List Hit) → AreNear hits → AreNear (in_order hits)
  near_in_order [] all = tt
  near_in_order (hit ∷ hits) all = near_placed hit (in_order hits) all.0 (near_in_order hits all.1)

  near_within : (radius : ℕ) (hits : List Hit) → radius ≤ most → AreNear (filter (λ hit. nat_le hit.dist radius) hits)
  near_within radius [] le = tt
  near_within radius (hit ∷ hits) le =
      cond_both (nat_le hit.dist radius) (hit ∷ filter (λ each. nat_le each.dist radius) hits) (filter (λ each. nat_le each.dist radius) hits) AreNear
      (λ near. (omega (arith, leb-true hit.dist radius near, le), near_within radius hits le)) (λ far. near_within radius hits le)

  near_taken : (n : ℕ) (hits : List Hit) → AreNear hits → AreNear (take n hits)
  near_taken zero hits all = tt
  near_taken (suc n) [] all = tt
  near_taken (suc n) (hit ∷ hits) all = (all.0, near_taken n hits all.1)

  last_near : (hits : List Hit) → AreNear hits → IfSome (last_distance hits) (λ radius. radius ≤ most)
  last_near [] all = tt
  last_near (hit ∷ []) all = all.0
  last_near (hit ∷ other ∷ hits) all = last_near (other ∷ hits) all.1

-- the last hit of an answer is no farther than the codes have bits
pub answer_near : (bits : ℕ) (rows : List (ℕ × List ℕ)) (ask : Ask) → IsQuestion bits ask
    → IfSome (last_distance (answer bits rows ask)) (λ radius. radius ≤ bits)
answer_near bits rows (Range tau code) asks =
    last_near bits (scan rows code tau) (near_in_order bits (hits_within rows code tau) (near_within bits tau (map (hit_of code) rows) asks.1))
answer_near bits rows (Near number code) asks =
    last_near bits (take number (scan rows code bits)) (near_taken bits number (scan rows code bits)
    (near_in_order bits (hits_within rows code bits) (near_within bits bits (map (hit_of code) rows) (omega arith))))

-- a bound rises with the last radius, for a range it stays
bound_rises : (ask : Ask) (a : Asked) → IsAsked a → a.near ≡ asks_near ask → (begun last : Option ℕ) → IsUpTo begun last
    → IfSome last (λ radius. radius ≤ a.farthest)
    → a.bound begun ≤ a.bound last
bound_rises (Range tau code) a is near begun last rises far =
    omega (arith, (is.range near).bound begun, (is.range near).bound last)
bound_rises (Near number code) a is near None last rises far = omega (arith, (is.near near).none)
bound_rises (Near number code) a is near (Some radius) None rises far = absurd rises
bound_rises (Near number code) a is near (Some radius) (Some last) rises far = (is.near near).rises radius last rises far

-- each source of a query has read at most the query's bound there
pub reads_within : (z : Setting) (history : List JournalEntry) (query : WorldQuery) (shard : ℕ) (source : Standing) → IsQuery z history query
    → IsSource z history query shard source
    → ReadsWithinBound z history query shard source
reads_within z history query shard source is from =
    let bits = (is.layouts shard from.asks.layout from.asks.is_pinned).bits_are in
    let near = answer_near z.bits (rows_of (take query.position history)) query.ask is.question in
    let far : IfSome (last_distance (answer_on z history query)) (λ radius. radius ≤ from.asks.layout.bits) =
    subst (λ most. IfSome (last_distance (answer_on z history query)) (λ radius. radius ≤ most)) (sym bits) near in
    let last : Option ℕ = last_distance (answer_on z history query) in
    record {
      bound = from.asked.bound (last_distance (answer_on z history query));
      is_bound = record {
        layout = from.asks.layout;
        is_pinned = from.asks.is_pinned;
        is_bound = from.asks.asks.bound (last_distance (answer_on z history query)) far;
      };
      within = omega (
        arith,
        from.lawful.bounded,
        bound_rises query.ask from.asked from.lawful.asked from.asks.asks.near source.begun (last_distance (answer_on z history query)) from.begun
            (subst (λ most. IfSome (last_distance (answer_on z history query)) (λ radius. radius ≤ most)) (sym from.asks.asks.farthest) far),
      );
    }
