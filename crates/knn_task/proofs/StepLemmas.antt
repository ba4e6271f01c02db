-- The steps of a near query: reading a posting, going on to a value, and beginning a radius.
use Rattle.std.proofs.Common.{◌≡◌, ℕ, ◌+◌, ◌-◌, ◌*◌, ◌<◌, ◌≤◌, ◌==◌, Bool, true, false, cond, List, ◌++◌}
use Rattle.std.proofs.Common.{length, refl, sym, ap, ◌∙◌, subst, ⊎_elim, arith, inl, inr, Option, Some, None}
use Rattle.std.specs.Prelude.{sum_by, All}
use Rattle.std.proofs.lemmas.Bool.{cases_lt, ne_eqb, eq-eqb}
use Rattle.hamming_model.specs.declared.hit.Hit.{Hit}
use Rattle.std.proofs.lemmas.List.{length-map}
use Rattle.hamming_model.specs.Scan.{hit_of}
use Rattle.search_model.proofs.HitLemmas.{order_size}
use Rattle.ring_model.specs.Rings.{hits_nearer}
use Rattle.knn_task.specs.ReadyLaw.{ready_size}
use Rattle.hit_source.specs.Moves.{BeginsWithin}
use Rattle.hit_source.specs.Windows.{Window}
use Rattle.knn_task.specs.Rings.{Search, Ring, IsRing, Begins, all_hits}
use Rattle.hit_source.specs.Work.{Works}
use Rattle.knn_task.specs.Near.{IsOpen, IsNear, IsUnder, KeepsNew, SettlesRing, search_standing, with_new, units_to_settle, last_of}
use Rattle.knn_task.specs.declared.near_task.Mark.{Mark}
use Rattle.knn_task.proofs.NearLemmas.{after_read, after_ring, after_begin, units_least}
use Rattle.knn_task.proofs.NearWorkLemmas.{ring_works, bound_most}

-- a step left a near query, and was so many units of work
abbrev pub Steps : ℕ → ℕ → Search → Search → Ring → Ring → ℕ → ℕ → Window → Window → Mark → Mark → ℕ → ℕ → ℕ → ℕ → Type 0
Steps limit count p q old new radii more hits window mark to reads more_reads from after =
    IsNear q new more window to more_reads
    × Works (Some limit) count (search_standing p old radii hits mark reads) (search_standing q new more window to more_reads) from after
    × IsUnder limit window to

-- the same search and number of radii, by other names
pub steps_as : (limit count : ℕ) (p q : Search) (old new : Ring) (radii more other : ℕ) (hits window : Window) (mark to : Mark)
    (reads more_reads from after : ℕ)
    → q ≡ p → other ≡ more
    → Steps limit count p p old new radii more hits window mark to reads more_reads from after
    → Steps limit count p q old new radii other hits window mark to reads more_reads from after
steps_as limit count p q old new radii more other hits window mark to reads more_reads from after same number steps =
    subst (λ n. Steps limit count p q old new radii n hits window mark to reads more_reads from after) (sym number)
    (subst (λ s. Steps limit count p s old new radii more hits window mark to reads more_reads from after) (sym same) steps)

pub ring_as : (p q : Search) (w : Ring) (radii other : ℕ) → q ≡ p → other ≡ radii → IsRing q other w → IsRing p radii w
ring_as p q w radii other same number ring = subst (λ n. IsRing p n w) number (subst (λ s. IsRing s other w) same ring)

pub units_as : (found rows bits begun all_rows all_bits radii : ℕ) → rows ≡ all_rows → bits ≡ all_bits → begun ≡ radii
    → cond (found == rows) (bits + 1) begun ≡ cond (found == all_rows) (all_bits + 1) radii
units_as found rows bits begun all_rows all_bits radii a b c = rw (a, b, c) refl

module _ (units left : ℕ) (old new : Window) (from to : Mark) (settles : SettlesRing units left old new from to) where
  same_after : (f : Window → ℕ) → ((ready : ℕ) → left ≡ 0 → f new ≡ f old) → f new ≡ f old
  same_after f each = ⊎_elim (λ (more : 0 < left). ap f (settles.more more).0) (λ (end : left ≤ 0). each 0 (omega arith)) (cases_lt 0 left)

  pub same_given : new.given ≡ old.given
  same_given = same_after (λ w. w.given) (λ ready end. (settles.done end).0.given)

  pub same_moved : new.moved ≡ old.moved
  same_moved = same_after (λ w. w.moved) (λ ready end. (settles.done end).0.moved)

  pub ready_rises : from.ready ≤ to.ready
  ready_rises =
      ⊎_elim (λ (more : 0 < left). (let e = ap (λ (m : Mark). m.ready) (settles.more more).1 in omega arith))
      (λ (end : left ≤ 0). (settles.done (omega arith)).0.behind) (cases_lt 0 left)

  pub settled_rises : from.settled ≤ units → from.settled ≤ to.settled
  settled_rises le =
      ⊎_elim (λ (more : 0 < left). (let e = ap (λ (m : Mark). m.settled) (settles.more more).1 in omega arith))
      (λ (end : left ≤ 0). (let done = settles.done (omega arith) in omega (arith, done.1))) (cases_lt 0 left)

  -- the hits are settled beyond a limit where a settled one is left, as before
  pub under_rises : (limit : ℕ) → limit < units → IsUnder limit old from → IsUnder limit new to
  under_rises limit beyond under =
      let given = same_given in
      ⊎_elim
      (λ (more : 0 < left). (let same = settles.more more in
      subst (λ (w : Window). IsUnder limit w to) (sym same.0) (subst (IsUnder limit old) (sym same.1) under)))
      (λ (end : left ≤ 0). (let done = settles.done (omega arith) in
      record { most = omega (arith, done.1); above = λ low. omega (arith, done.1) }))
      (cases_lt 0 left)

-- what is settled at the end of a ring is beyond a limit that the rings before it reach
pub beyond : (p : Search) (radii limit : ℕ) (hits : Window) → limit < radii → radii ≤ p.bits + 1 → limit < units_to_settle p radii hits
beyond p radii limit hits less most = go (length hits.found == length p.rows)
  where
    go : (b : Bool) → limit < cond b (p.bits + 1) radii
    go true = omega arith
    go false = less

module _ (p : Search) (old new : Ring) (radii : ℕ) (hits window : Window) (mark to : Mark) (reads : ℕ)
    (is : IsNear p old radii hits mark reads) (ring : IsRing p radii old) (after : IsRing p radii new) (some : 0 < old.reads) where
  -- so many postings were read
  pub read_step : (limit from steps count : ℕ) (kept : List Hit) → 1 ≤ count → length kept ≤ count → IsUnder limit hits mark
      → old.hits ≡ kept ++ new.hits
      → old.reads ≡ new.reads + count → new.total ≡ old.total → new.values ≡ old.values → steps ≡ from + count
      → SettlesRing (units_to_settle p radii (with_new hits kept)) new.reads (with_new hits kept) window mark to
      → Steps limit count p p old new radii radii hits window mark to reads (reads + count) from steps
  read_step limit from steps count kept some_count few under of_hits of_reads of_total of_values step settles =
      let held = is.search some in
      let mid = after_read p old new radii hits mark reads is.kept ring kept count few of_hits of_reads of_total in
      let opened : IsOpen p radii (with_new hits kept) mark = record { given = held.given; more = held.more; settled = held.settled } in
      let near = after_ring p new radii (with_new hits kept) mark (reads + count) mid after opened window to settles in
      let below : mark.settled ≤ radii = omega (arith, held.settled) in
      let least = units_least p new radii (with_new hits kept) mark (reads + count) mid after below in
      let bound = bound_most p radii in (
        near,
        ring_works p old new radii radii hits window mark to reads (reads + count) is ring near after held.given held.more
            (same_given (units_to_settle p radii (with_new hits kept)) new.reads (with_new hits kept) window mark to settles)
            (same_moved (units_to_settle p radii (with_new hits kept)) new.reads (with_new hits kept) window mark to settles)
            (settled_rises (units_to_settle p radii (with_new hits kept)) new.reads (with_new hits kept) window mark to settles least)
            (ready_rises (units_to_settle p radii (with_new hits kept)) new.reads (with_new hits kept) window mark to settles)
            limit from steps count some_count (omega arith) (omega arith) (omega arith) (omega arith) (inl refl) (omega (arith, is.kept.bounded))
            (λ same. omega (arith, is.kept.bounded)),
        under_rises (units_to_settle p radii (with_new hits kept)) new.reads (with_new hits kept) window mark to settles limit
            (beyond p radii limit (with_new hits kept) (omega (arith, under.most, held.settled)) ring.begun)
            (record { most = under.most; above = under.above }),
      )

  -- a value of the ring was taken
  pub value_step : (limit from : ℕ) → IsUnder limit hits mark → new.hits ≡ old.hits → new.reads ≡ old.reads → new.total ≡ old.total
      → old.values ≡ new.values + 1
      → Steps limit 1 p p old new radii radii hits hits mark mark reads reads from from
  value_step limit from under of_hits of_reads of_total of_values =
      let held = is.search some in
      let kept = is.kept in
      let near : IsNear p new radii hits mark reads = record {
        kept = record {
          window = kept.window;
          some_room = kept.some_room;
          reserved = kept.reserved;
          moved = kept.moved;
          ready = kept.ready;
          few = kept.few;
          bounded = omega (arith, kept.bounded);
          found = record { sums = λ f. ap (λ xs. sum_by f (hits.found ++ xs)) of_hits ∙ kept.found.sums f ∙ sym (ap (sum_by f) of_total) };
          front = kept.front;
          back = kept.back;
          far = subst (All (λ hit. mark.settled ≤ hit.dist)) (sym of_hits) kept.far;
          most = kept.most;
        };
        search = λ more. held;
        rest = λ none. absurd (omega arith);
      } in (
        near,
        ring_works p old new radii radii hits hits mark mark reads reads is ring near after held.given held.more refl refl (omega arith) (omega arith)
            limit from from 1 (omega arith) (omega arith) (omega arith) (omega arith) (omega arith) (inl refl) (omega (arith, is.kept.bounded))
            (λ same. omega (arith, is.kept.bounded)),
        under,
      )

last_begun : (limit radii : ℕ) → radii ≤ limit → BeginsWithin (Some limit) (last_of radii) (last_of (radii + 1))
last_begun limit radii le =
    let some : last_of (radii + 1) ≡ Some radii = ap (λ b. cond b None (Some (radii + 1 - 1))) (ne_eqb (radii + 1) 0 (λ (e : radii + 1 ≡ 0). omega arith))
    ∙ ap Some (omega arith) in
    subst (BeginsWithin (Some limit) (last_of radii)) (sym some) (inr le)

radius_units : (bits radii values : ℕ) → radii ≤ bits → (bits + 1 - radii) * (values + 1) ≡ (bits + 1 - (radii + 1)) * (values + 1) + (values + 1)
radius_units bits radii values le =
    let e : bits + 1 - radii ≡ (bits + 1 - (radii + 1)) + 1 = omega arith in
    rw e (grind arith)

-- a radius was begun
pub begin_step : (p : Search) (old new : Ring) (radii : ℕ) (hits window : Window) (mark to : Mark) (reads : ℕ) → IsNear p old radii hits mark reads
    → IsRing p radii old → IsRing p (radii + 1) new → (limit from : ℕ) → IsUnder limit hits mark
    → old.reads ≡ 0 → radii ≤ p.bits → hits.given ≡ mark.ready → mark.ready < length p.rows → mark.settled ≤ limit → Begins p radii old new
    → SettlesRing (units_to_settle p (radii + 1) hits) new.reads hits window mark to
    → Steps limit 1 p p old new radii (radii + 1) hits window mark to reads reads from from
begin_step p old new radii hits window mark to reads is ring after limit from under none below given more near_limit begins settles =
    let both = after_begin p old new radii hits mark reads is ring none below given more begins in
    let near = after_ring p new (radii + 1) hits mark reads both.0 after both.1 window to settles in
    let settled : mark.settled ≡ radii = is.rest none more in
    let least = units_least p new (radii + 1) hits mark reads both.0 after (omega arith) in
    let units = radius_units p.bits radii p.values below in (
      near,
      ring_works p old new radii (radii + 1) hits window mark to reads reads is ring near after given more
          (same_given (units_to_settle p (radii + 1) hits) new.reads hits window mark to settles)
          (same_moved (units_to_settle p (radii + 1) hits) new.reads hits window mark to settles)
          (settled_rises (units_to_settle p (radii + 1) hits) new.reads hits window mark to settles least)
          (ready_rises (units_to_settle p (radii + 1) hits) new.reads hits window mark to settles)
          limit from from 1 (omega arith) (omega arith) (omega arith) (omega arith) (omega arith) (last_begun limit radii (omega arith))
          (omega (arith, begins.few_values)) (λ same. absurd (omega (arith, same))),
      under_rises (units_to_settle p (radii + 1) hits) new.reads hits window mark to settles limit
          (beyond p (radii + 1) limit hits (omega (arith, under.most)) (omega arith)) under,
    )

-- while not all rows are settled, a radius is left
pub radius_left : (p : Search) (w : Ring) (radii : ℕ) (hits : Window) (mark : Mark) (reads : ℕ) → IsNear p w radii hits mark reads
    → IsRing p radii w → w.reads ≡ 0 → mark.ready < length p.rows → radii ≤ p.bits
radius_left p w radii hits mark reads is ring none more =
    ⊎_elim (λ (less : radii < p.bits + 1). omega arith)
    (λ (all : p.bits + 1 ≤ radii). (let last : mark.settled ≡ p.bits + 1 = omega (arith, is.rest none more, ring.begun) in
    let size = ready_size p w radii hits mark reads is.kept ring in
    let order = order_size (hits_nearer (all_hits p) mark.settled) in
    let cut : length (hits_nearer (all_hits p) mark.settled) ≡ length (all_hits p) = ap (λ n. length (hits_nearer (all_hits p) n)) last
    ∙ ap length (ring.within) in
    let mapped = length-map p.rows (hit_of p.query) in
    absurd (omega arith)))
    (cases_lt radii (p.bits + 1))

-- what settling a ring did, by other names
pub settles_as : (p q : Search) (radii rows bits begun number left own_left : ℕ) (mid hits window : Window) (mark to : Mark) → q ≡ p
    → number ≡ radii → rows ≡ length q.rows → bits ≡ q.bits → begun ≡ number → own_left ≡ left → mid ≡ hits
    → SettlesRing (cond (length mid.found == rows) (bits + 1) begun) own_left mid window mark to
    → SettlesRing (units_to_settle p radii hits) left hits window mark to
settles_as p q radii rows bits begun number left own_left mid hits window mark to same radii_are of_rows of_bits of_begun of_left of_hits settles =
    let units = units_as (length mid.found) rows bits begun (length p.rows) p.bits radii
    (of_rows ∙ ap (λ (s : Search). length s.rows) same) (of_bits ∙ ap (λ (s : Search). s.bits) same) (of_begun ∙ radii_are) in
    subst (λ (w : Window). SettlesRing (units_to_settle p radii w) left w window mark to) of_hits
    (subst (λ n. SettlesRing (units_to_settle p radii mid) n mid window mark to) of_left
    (subst (λ n. SettlesRing n own_left mid window mark to) units settles))

pub not_full : (full : Bool) (moved given room : ℕ) → full ≡ (moved - given == room) → full ≡ false → given ≤ moved → moved ≤ given + room
    → moved < given + room
not_full full moved given room is none behind fits =
    ⊎_elim (λ (less : moved < given + room). less)
    (λ (all : given + room ≤ moved). (let e : (moved - given == room) ≡ true = eq-eqb (moved - given) room (omega arith) in
    let f : true ≡ false = sym e ∙ sym is ∙ none in absurd (true_false f)))
    (cases_lt moved (given + room))
  where
    true_false : true ≡ false → ⊥
    true_false e = cc

pub unequal : (ready rows all : ℕ) → ready ≤ all → rows ≡ all → (ready ≡ rows → ⊥) → ready < all
unequal ready rows all le same other =
    ⊎_elim (λ (less : ready < all). less) (λ (most : all ≤ ready). absurd (other (omega arith))) (cases_lt ready all)

-- where the hits aren't settled beyond a limit, every settled one was given
pub given_ready : (hits : Window) (mark : Mark) (limit : ℕ) → hits.given ≤ hits.moved → hits.moved ≤ mark.ready → IsUnder limit hits mark
    → mark.settled ≤ limit → hits.given ≡ mark.ready
given_ready hits mark limit behind moved under near =
    ⊎_elim (λ (low : hits.given < mark.ready). absurd (omega (arith, under.above low)))
    (λ (high : mark.ready ≤ hits.given). omega arith) (cases_lt hits.given mark.ready)

-- so many postings were read and the ring settled, by the names that the calls gave
pub read_as : (p q : Search) (old new : Ring) (radii number : ℕ) (hits mid window : Window) (mark to : Mark) (reads : ℕ) → q ≡ p → number ≡ radii
    → IsNear p old radii hits mark reads → IsRing p radii old → IsRing q number new → 0 < old.reads
    → (limit from steps count amount : ℕ) → 1 ≤ count → amount ≡ count → IsUnder limit hits mark → KeepsNew count hits mid old.hits new.hits
    → old.reads ≡ new.reads + count → new.total ≡ old.total → new.values ≡ old.values → steps ≡ from + count
    → (rows bits begun left : ℕ) → rows ≡ length q.rows → bits ≡ q.bits → begun ≡ number → left ≡ new.reads
    → SettlesRing (cond (length mid.found == rows) (bits + 1) begun) left mid window mark to
    → Steps limit count p q old new radii number hits window mark to reads (reads + amount) from steps
read_as p q old new radii number hits mid window mark to reads same radii_are is ring after some limit from steps count amount some_count amount_is under
    keeps of_reads of_total of_values step rows bits begun left of_rows of_bits of_begun of_left settles =
    subst (λ n. Steps limit count p q old new radii number hits window mark to reads (reads + n) from steps) (sym amount_is)
    (steps_as limit count p q old new radii radii number hits window mark to reads (reads + count) from steps same radii_are
    (read_step p old new radii hits window mark to reads is ring (ring_as p q new radii number same radii_are after) some
    limit from steps count keeps.kept some_count keeps.few under keeps.hits of_reads of_total of_values step
    (settles_as p q radii rows bits begun number new.reads left mid (with_new hits keeps.kept) window mark to
    same radii_are of_rows of_bits of_begun of_left keeps.window settles)))

-- a radius was begun and its ring settled, by the names that the calls gave
pub begin_as : (p q : Search) (old new : Ring) (radii number : ℕ) (hits window : Window) (mark to : Mark) (reads : ℕ) → q ≡ p → number ≡ radii + 1
    → IsNear p old radii hits mark reads → IsRing p radii old → IsRing q number new
    → (limit from : ℕ) → IsUnder limit hits mark → old.reads ≡ 0 → mark.ready < length p.rows → mark.settled ≤ limit → Begins p radii old new
    → (rows bits begun left : ℕ) → rows ≡ length q.rows → bits ≡ q.bits → begun ≡ number → left ≡ new.reads
    → SettlesRing (cond (length hits.found == rows) (bits + 1) begun) left hits window mark to
    → Steps limit 1 p q old new radii number hits window mark to reads reads from from
begin_as p q old new radii number hits window mark to reads same radii_are is ring after limit from under none more near_limit begins
    rows bits begun left of_rows of_bits of_begun of_left settles =
    steps_as limit 1 p q old new radii (radii + 1) number hits window mark to reads reads from from same radii_are
    (begin_step p old new radii hits window mark to reads is ring (ring_as p q new (radii + 1) number same radii_are after) limit from under none
    (radius_left p old radii hits mark reads is ring none more)
    (given_ready hits mark limit is.kept.window.behind is.kept.moved under near_limit) more near_limit begins
    (settles_as p q (radii + 1) rows bits begun number new.reads left hits hits window mark to
    same radii_are of_rows of_bits of_begun of_left refl settles))
