-- When the first of the hits that wait may go: where its distance is below the floor of every source at which none waits.
use Rattle.std.proofs.Common.{◌≡◌, ℕ, ◌<◌, ◌≤◌, List, [], ◌∷◌, length, get_or, take, refl, sym, ap, subst, ◌∙◌, arith, true, false, Bool, Option, Some, None}
use Rattle.std.specs.Prelude.{IfSome, ◌↔◌}
use Rattle.std.specs.List.{AllByRecursion}
use Rattle.std.specs.Ordering.{is_gt, ordering_reverse}
use Rattle.std.specs.declared.cmp.Ordering.{Ordering}
use Rattle.std.specs.declared.cmp.Ordering.TheVariants.{Less, Equal, Greater}
use Rattle.std.proofs.lemmas.Bool.{and_parts, and_from, both_ways, le-leb, leb-true, leb-false}
use Rattle.std.proofs.lemmas.List.{take_all}
use Rattle.std.proofs.lemmas.List.Folds.{list_any_at}
use Rattle.std.proofs.lemmas.List.Elements.{All-from_recursion}
use Rattle.hamming_model.specs.declared.hit.Hit.{Hit}
use Rattle.hamming_model.specs.Scan.{hit_cmp}
use Rattle.hamming_model.proofs.OrderLemmas.{hit_order, tied_is_same}
use Rattle.hit_source.specs.Moves.{NotBelow, first_of}
use Rattle.hit_source.specs.Sources.{IsLawful}
use Rattle.hit_source.specs.WindowLaws.{nearer}
use Rattle.scatter_gather.specs.Gathering.{Source, Gathering}
use Rattle.scatter_gather.specs.Due.{floor_at, least_of, least_floor, is_least, is_empty, may_have_next, any_may_have_next}
use Rattle.scatter_gather.specs.Heads.{LetsGo, GoesFirst, MayGo, HeadNotBefore, IsBestHead, BestOf, empty_floor, has_to_wait, IsReadyHead}
use Rattle.scatter_gather.specs.Kept.{AreLawful}
use Rattle.scatter_gather.proofs.FloorLemmas.{least_below, least_is_one}
use Rattle.scatter_gather.proofs.GiveLemmas.{has_first}
use Rattle.scatter_gather.proofs.TodoLemmas.{any_where}

tied : (o p : Ordering) → p ≡ ordering_reverse o → is_gt o ≡ false → is_gt p ≡ false → o ≡ Equal
tied Less p e h k = let l : is_gt p ≡ true = rw e in cc
tied Equal p e h k = refl
tied Greater p e h k = cc

-- of two hits that aren't after one another there is one
one_hit : (a b : Hit) → is_gt (hit_cmp a b) ≡ false → is_gt (hit_cmp b a) ≡ false → a ≡ b
one_hit a b h k = tied_is_same a b (tied (hit_cmp a b) (hit_cmp b a) (hit_order.antisymm b a) h k)

-- a source with a floor of this kind has no hit that waits, and that floor
no_head : (s : Source) (floor : ℕ) → empty_floor s ≡ Some floor
    → (s.standing.waiting ≡ []) × (s.standing.floor ≡ Some floor)
no_head s floor e = go s.standing.waiting refl
  where
    go : (waiting : List Hit) → s.standing.waiting ≡ waiting
        → (s.standing.waiting ≡ []) × (s.standing.floor ≡ Some floor)
    go [] none = (none, rw none at e)
    go (hit ∷ rest) some = (let f : None ≡ Some floor = rw some at e in cc)

-- and back
of_empty : (s : Source) → s.standing.waiting ≡ [] → empty_floor s ≡ s.standing.floor
of_empty s none = rw none

some_above : (low : Option ℕ) (high : ℕ) → NotBelow low (Some high) → (m : ℕ) × (low ≡ Some m) × (m ≤ high)
some_above None high below = absurd below
some_above (Some low) high below = (low, refl, below)

-- a best head that waits lets a source go on without a hit before it
lets_one : (hit : Hit) (shard : ℕ) (floor : Option ℕ) (s : Source) → HeadNotBefore hit s
    → NotBelow floor (empty_floor s)
    → has_to_wait (Some (shard, hit)) floor ≡ false → LetsGo hit s
lets_one hit shard floor s first above goes = by_waiting s.standing.waiting refl
  where
    by_least : (least : Option ℕ) (own : ℕ) → NotBelow least (Some own) → has_to_wait (Some (shard, hit)) least ≡ false
        → hit.dist < own
    by_least None own below free = absurd below
    by_least (Some least) own below free = omega (arith, below, leb-false least hit.dist free)

    by_floor : s.standing.waiting ≡ [] → (own : Option ℕ) → s.standing.floor ≡ own → IfSome own (λ n. hit.dist < n)
    by_floor none None e = tt
    by_floor none (Some own) e =
        by_least floor own (subst (NotBelow floor) (of_empty s none ∙ e) above) goes

    by_waiting : (waiting : List Hit) → s.standing.waiting ≡ waiting → LetsGo hit s
    by_waiting [] none = rw none (by_floor none s.standing.floor refl)
    by_waiting (other ∷ rest) some =
        let not_after : is_gt (hit_cmp hit other) ≡ false = rw some at first in
        rw some not_after

lets_all : (hit : Hit) (shard : ℕ) (floor : Option ℕ) (sources : List Source)
    → AllByRecursion (HeadNotBefore hit) sources
    → AllByRecursion (λ s. NotBelow floor (empty_floor s)) sources → has_to_wait (Some (shard, hit)) floor ≡ false
    → AllByRecursion (LetsGo hit) sources
lets_all hit shard floor [] first above goes = tt
lets_all hit shard floor (s ∷ sources) first above goes =
    (lets_one hit shard floor s first.0 above.0 goes, lets_all hit shard floor sources first.1 above.1 goes)

-- the head of a source that lets a hit go isn't before it
head_lets : (hit head : Hit) (s : Source) → LetsGo hit s → first_of s.standing.waiting ≡ Some head
    → is_gt (hit_cmp hit head) ≡ false
head_lets hit head s lets first = rw first at lets

head_not_before : (hit head : Hit) (s : Source) → HeadNotBefore hit s → first_of s.standing.waiting ≡ Some head
    → is_gt (hit_cmp hit head) ≡ false
head_not_before hit head s before first = rw first at before

-- the floor of an empty source that lets a hit go is greater
empty_lets : (hit : Hit) (s : Source) (floor : ℕ) → LetsGo hit s → s.standing.waiting ≡ []
    → s.standing.floor ≡ Some floor → hit.dist < floor
empty_lets hit s floor lets none is =
    let farther : IfSome s.standing.floor (λ n. hit.dist < n) = rw none at lets in
    rw is at farther

module _ (sources : List Source) (law : AreLawful sources) where
  lawful_at : (i : ℕ) (d : Source) → i < length sources
      → IsLawful (get_or sources i d).asked (get_or sources i d).standing
  lawful_at i d within = All-from_recursion (λ (s : Source). IsLawful s.asked s.standing) sources law i d within

  whole : (P : Source → Type 0) → AllByRecursion P (take (length sources) sources) → AllByRecursion P sources
  whole P all = subst (AllByRecursion P) (take_all (length sources) sources (omega arith)) all

  -- the floor of the source of a head is the head's distance
  floor_of_head : (i : ℕ) (d : Source) (hit : Hit) → i < length sources
      → first_of (get_or sources i d).standing.waiting ≡ Some hit → floor_at (get_or sources i d) ≡ Some hit.dist
  floor_of_head i d hit within first =
      let is = has_first (get_or sources i d).standing.waiting hit first in
      (lawful_at i d within).floor.of_head hit is.0 is.1

  module _ (shard : ℕ) (hit : Hit) (best : IsBestHead sources (length sources) shard hit) (d : Source) where
    -- the best head goes first where it has not to wait
    pub best_goes : has_to_wait (Some (shard, hit)) (least_of empty_floor sources) ≡ false → GoesFirst sources hit
    best_goes goes = record {
      shard = shard;
      within = best.within;
      waits = best.waits;
      lets = lets_all hit shard (least_of empty_floor sources) sources (whole (HeadNotBefore hit) best.first)
          (least_below empty_floor sources) goes;
    }

    -- a hit that goes first is the best head
    pub best_alone : (other : Hit) → GoesFirst sources other → other ≡ hit
    best_alone other first =
        one_hit other hit
        (head_lets other hit (get_or sources shard d)
        (All-from_recursion (LetsGo other) sources first.lets shard d best.within) (best.waits d))
        (head_not_before hit other (get_or sources first.shard d)
        (All-from_recursion (HeadNotBefore hit) sources (whole (HeadNotBefore hit) best.first)
        first.shard d first.within) (first.waits d))

    -- where the best head has not to wait, no source may have the next hit
    pub none_held : has_to_wait (Some (shard, hit)) (least_of empty_floor sources) ≡ false
        → any_may_have_next sources ≡ false
    none_held goes = by_any (any_may_have_next sources) refl
      where
        from_floor : (i : ℕ) (own least : Option ℕ) → i < length sources → (get_or sources i d).standing.waiting ≡ []
            → floor_at (get_or sources i d) ≡ own
            → least_floor sources ≡ least → is_least own least ≡ true → ⊥
        from_floor i None least within none e f is = cc
        from_floor i (Some own) None within none e f is = cc
        from_floor i (Some own) (Some m) within none e f is =
            let above = subst (NotBelow (least_of empty_floor sources)) (of_empty (get_or sources i d) none ∙ e)
            (All-from_recursion (λ s. NotBelow (least_of empty_floor sources) (empty_floor s)) sources
            (least_below empty_floor sources) i d within) in
            let low = some_above (least_of empty_floor sources) own above in
            let free : has_to_wait (Some (shard, hit)) (Some low.0) ≡ false =
            subst (λ floor. has_to_wait (Some (shard, hit)) floor ≡ false) low.1 goes in
            let heads = subst (NotBelow (least_floor sources)) (floor_of_head shard d hit best.within (best.waits d))
            (All-from_recursion (λ s. NotBelow (least_floor sources) (floor_at s)) sources
            (least_below floor_at sources) shard d best.within) in
            let near : m ≤ hit.dist = rw f at heads in
            omega (arith, leb-true own m is, low.2, near, leb-false low.0 hit.dist free)

        nothing : (hits : List Hit) → is_empty hits ≡ true → hits ≡ []
        nothing [] e = refl
        nothing (head ∷ rest) e = cc

        by_any : (any : Bool) → any_may_have_next sources ≡ any → any_may_have_next sources ≡ false
        by_any false e = e
        by_any true e =
            let at = any_where (may_have_next (least_floor sources)) sources e in
            let s : Source = get_or sources at.0 d in
            let both = and_parts (is_empty s.standing.waiting) (is_least s.standing.floor (least_floor sources))
            (at.2 d) in
            absurd (from_floor at.0 (floor_at s) (least_floor sources) at.1 (nothing s.standing.waiting both.0)
            refl refl both.1)

  module _ (best : Option (ℕ × Hit)) (is : BestOf sources (length sources) best) (d : Source) where
    -- the best head isn't after another
    best_near : (floor i : ℕ) (head : Hit) → has_to_wait best (Some floor) ≡ true → i < length sources
        → first_of (get_or sources i d).standing.waiting ≡ Some head → floor ≤ head.dist
    best_near floor i head waits within first = go best is waits
      where
        go : (best : Option (ℕ × Hit)) → BestOf sources (length sources) best → has_to_wait best (Some floor) ≡ true
            → floor ≤ head.dist
        go None none waits =
            let all = All-from_recursion (λ (s : Source). first_of s.standing.waiting ≡ None) sources
            (whole (λ s. first_of s.standing.waiting ≡ None) none) i d within in
            let f : None ≡ Some head = sym all ∙ first in
            cc
        go (Some found) best waits =
            let before = head_not_before found.1 head (get_or sources i d)
            (All-from_recursion (HeadNotBefore found.1) sources (whole (HeadNotBefore found.1) best.first)
            i d within) first in
            omega (arith, leb-true floor found.1.dist waits, nearer found.1 head before)

    module _ (floor : ℕ) (least : least_of empty_floor sources ≡ Some floor)
        (waits : has_to_wait best (Some floor) ≡ true) where
      -- no hit goes first where the best head has to wait
      pub none_goes : (other : Hit) → GoesFirst sources other → ⊥
      none_goes other first =
          let at = least_is_one empty_floor sources floor least in
          let s : Source = get_or sources at.0 d in
          let empty = no_head s floor (at.2 d) in
          let farther = empty_lets other s floor (All-from_recursion (LetsGo other) sources first.lets at.0 d at.1)
          empty.0 empty.1 in
          let near = best_near floor first.shard other waits first.within (first.waits d) in
          omega (arith, farther, near)

      -- the least floor of all is no lower
      least_high : (m : ℕ) → least_floor sources ≡ Some m → floor ≤ m
      least_high m all = (let at = least_is_one floor_at sources m all in
          go at (get_or sources at.0 d).standing.waiting refl)
        where
          go : (at : (i : ℕ) × (i < length sources) × ((d : Source) → floor_at (get_or sources i d) ≡ Some m))
              (waiting : List Hit)
              → (get_or sources at.0 d).standing.waiting ≡ waiting → floor ≤ m
          go at [] none =
              let above = All-from_recursion (λ s. NotBelow (least_of empty_floor sources) (empty_floor s)) sources
              (least_below empty_floor sources) at.0 d at.1 in
              let low : floor ≤ m = rw (least, of_empty (get_or sources at.0 d) none, at.2 d) at above in
              low
          go at (head ∷ rest) some =
              let first : first_of (get_or sources at.0 d).standing.waiting ≡ Some head = ap first_of some in
              let same : Some head.dist ≡ Some m = sym (floor_of_head at.0 d head at.1 first) ∙ at.2 d in
              let e : head.dist ≡ m = cc in
              omega (arith, best_near floor at.0 head waits at.1 first, e)

      -- some source may have the next hit where the best head has to wait
      pub some_held : any_may_have_next sources ≡ true
      some_held =
          let at = least_is_one empty_floor sources floor least in
          let s : Source = get_or sources at.0 d in
          let empty = no_head s floor (at.2 d) in
          list_any_at (may_have_next (least_floor sources)) sources at.0 d at.1
          (and_from (is_empty s.standing.waiting) (is_least s.standing.floor (least_floor sources))
          (ap is_empty empty.0)
          (ap (λ f. is_least f (least_floor sources)) empty.1
          ∙ by_least (least_floor sources) refl (subst (NotBelow (least_floor sources)) empty.1
          (All-from_recursion (λ s. NotBelow (least_floor sources) (floor_at s)) sources
          (least_below floor_at sources) at.0 d at.1))))
        where
          by_least : (all : Option ℕ) → least_floor sources ≡ all → NotBelow all (Some floor)
              → is_least (Some floor) all ≡ true
          by_least None e below = absurd below
          by_least (Some m) e below = le-leb floor m (least_high m e)

    -- no hit goes first where none waits
    none_waits : best ≡ None → (other : Hit) → GoesFirst sources other → ⊥
    none_waits nobody other first =
        let none = subst (BestOf sources (length sources)) nobody is in
        let all = All-from_recursion (λ (s : Source). first_of s.standing.waiting ≡ None) sources
        (whole (λ s. first_of s.standing.waiting ≡ None) none) first.shard d first.within in
        let f : None ≡ Some other = sym all ∙ first.waits d in
        cc

    -- what is answered where the best head has to wait
    pub ready_held : has_to_wait best (least_of empty_floor sources) ≡ true → IsReadyHead sources None
    ready_held waits = by_least (least_of empty_floor sources) refl waits
      where
        by_least : (least : Option ℕ) → least_of empty_floor sources ≡ least → has_to_wait best least ≡ true
            → IsReadyHead sources None
        by_least None e waits = cc
        by_least (Some floor) e waits = record {
          best = tt;
          held = λ free. absurd (both_ways (any_may_have_next sources) free (some_held floor e waits));
          goes = none_goes floor e waits;
        }

    -- what is answered where it has not to wait
    pub ready_best : has_to_wait best (least_of empty_floor sources) ≡ false → IsReadyHead sources best
    ready_best goes = go best refl
      where
        go : (found : Option (ℕ × Hit)) → best ≡ found → IsReadyHead sources found
        go None e = record {
          best = tt;
          held = λ free. whole (λ s. first_of s.standing.waiting ≡ None) (subst (BestOf sources (length sources)) e is);
          goes = none_waits e;
        }
        go (Some found) e =
            let best_is = subst (BestOf sources (length sources)) e is in
            let free = subst (λ b. has_to_wait b (least_of empty_floor sources) ≡ false) e goes in
            record {
              best = best_is;
              held = none_held found.0 found.1 best_is d free;
              goes = (best_goes found.0 found.1 best_is d free, best_alone found.0 found.1 best_is d);
            }

-- a hit that was given could go, and no other
pub may_some : (g : Gathering) (shard : ℕ) (hit : Hit) → g.given < g.limit → IsReadyHead g.sources (Some (shard, hit))
    → (other : Hit) → (Some hit ≡ Some other) ↔ MayGo g other
may_some g shard hit below ready other = (to, back)
  where
    to : Some hit ≡ Some other → MayGo g other
    to e = (let same : hit ≡ other = cc in
        record { below = below; first = subst (GoesFirst g.sources) same ready.goes.0 })

    back : MayGo g other → Some hit ≡ Some other
    back may = ap Some (sym (ready.goes.1 other may.first))

-- where none was given none could go
pub may_none : (g : Gathering) → IsReadyHead g.sources None → (other : Hit) → (None ≡ Some other) ↔ MayGo g other
may_none g ready other = ((λ (e : None ≡ Some other). cc), (λ may. absurd (ready.goes other may.first)))
