-- What the steps of a near query leave.
use Rattle.std.proofs.Common.{◌≡◌, ◌≢◌, ℕ, zero, suc, ◌+◌, ◌-◌, ◌<◌, ◌≤◌, ◌==◌, nat_lt, Bool, true, false, cond, List, []}
use Rattle.std.proofs.Common.{◌∷◌, ◌++◌, length, take, drop, get_or, sum, sum_by, refl, sym, ap, ◌∙◌, subst, ⊎_elim}
use Rattle.std.proofs.Common.{arith, Option, Some, None}
use Rattle.std.specs.Prelude.{All, IfSome, nat_le, not}
use Rattle.std.specs.List.{AllByRecursion}
use Rattle.std.proofs.lemmas.Bool.{ltb-true, cases_lt, cases_eq, eq-eqb, ne_eqb, lt-ltb, le-ltb}
use Rattle.std.proofs.lemmas.Bool.Decides.{nat_tests}
use Rattle.std.proofs.lemmas.List.{append-nil, append_assoc, length-map, length-take-le, length-take, length-append}
use Rattle.std.proofs.lemmas.List.{take-append-drop, take-append-le, drop-append-le, nil_from_length}
use Rattle.std.proofs.lemmas.List.Elements.{All-from_recursion, recursion_from_All}
use Rattle.std.proofs.lemmas.List.Sums.{sum_by-append, sum_by-cons}
use Rattle.std.proofs.lemmas.List.Filters.{sum_by-filter_both}
use Rattle.hamming_model.specs.declared.hit.Hit.{Hit}
use Rattle.hamming_model.specs.Scan.{hit_of, in_order}
use Rattle.hamming_model.specs.Order.{is_same_hit}
use Rattle.hamming_model.proofs.OrderLemmas.{Ascends, ascends_in_order, one_order, sum_of_in_order}
use Rattle.ball_walk.proofs.SumLemmas.{sum_filter}
use Rattle.search_model.specs.Reading.{HasSame}
use Rattle.search_model.proofs.SameLemmas.{same_length, all_front, all_back}
use Rattle.search_model.proofs.HitLemmas.{order_size}
use Rattle.ring_model.specs.Rings.{hits_nearer}
use Rattle.ring_model.proofs.SplitLemmas.{all_in_order, all_kept, ascends_joined}
use Rattle.hit_source.specs.Windows.{Window, left_of, waiting_of, with_moved, with_given, window_of}
use Rattle.hit_source.specs.Settled.{Settles}
use Rattle.knn_task.specs.Rings.{Search, Ring, IsRing, Begins, all_hits, bound_of}
use Rattle.knn_task.specs.Near.{KeepsHits, IsOpen, IsNear, SettlesRing, with_new, units_to_settle}
use Rattle.knn_task.specs.declared.near_task.Mark.{Mark}

far_or_near : (d units : ℕ) → nat_le units d ≡ not (nat_lt d units)
far_or_near d units = grind (arith, nat_tests)

-- joined hits of which the rest is the same
pub nearer_same : (xs ys : List Hit) (units : ℕ) → HasSame xs ys → HasSame (hits_nearer xs units) (hits_nearer ys units)
nearer_same xs ys units same = record {
  sums = λ f. sum_filter f (λ hit. nat_lt hit.dist units) xs ∙ same.sums (λ hit. cond (nat_lt hit.dist units) (f hit) 0)
      ∙ sym (sum_filter f (λ hit. nat_lt hit.dist units) ys);
}

pub same_again : (xs ys zs : List Hit) → HasSame xs ys → HasSame ys zs → HasSame xs zs
same_again xs ys zs one other = record { sums = λ f. one.sums f ∙ other.sums f }

pub same_back : (xs ys : List Hit) → HasSame xs ys → HasSame ys xs
same_back xs ys same = record { sums = λ f. sym (same.sums f) }

pub same_of : (xs ys : List Hit) → xs ≡ ys → HasSame xs ys
same_of xs ys e = record { sums = λ f. ap (sum_by f) e }

-- settling leaves the same hits
pub settles_same : (from units settled : ℕ) (old new : Window) → Settles from units old new settled → HasSame new.found old.found
settles_same from units settled old new settles = record { sums = sums }
  where
    sums : (f : Hit → ℕ) → sum_by f new.found ≡ sum_by f old.found
    sums f =
        let cut : sum_by f new.found ≡ sum_by f (take settled new.found) + sum_by f (drop settled new.found) =
        ap (sum_by f) (sym (take-append-drop settled new.found))
        ∙ sum_by-append f (take settled new.found) (drop settled new.found) in
        let own : sum_by f old.found ≡ sum_by f (take from old.found) + sum_by f (drop from old.found) = ap (sum_by f) (sym
        (take-append-drop from old.found))
        ∙ sum_by-append f (take from old.found) (drop from old.found) in
        let front = ap (sum_by f) settles.front ∙ sum_by-append f (take from old.found) (in_order (hits_nearer (drop from old.found) units)) in
        let order = sum_of_in_order f (hits_nearer (drop from old.found) units) in
        let back = settles.back.sums f in
        let both = sum_by-filter_both (λ (hit : Hit). nat_lt hit.dist units) (λ (hit : Hit). nat_le units hit.dist)
        (λ hit. far_or_near hit.dist units) f (drop from old.found) in
        omega arith

nearer_whole : (hits : List Hit) (units : ℕ) → AllByRecursion (λ hit. hit.dist < units) hits → hits_nearer hits units ≡ hits
nearer_whole [] units all = refl
nearer_whole (hit ∷ hits) units all =
    ap (λ b. cond b (hit ∷ hits_nearer hits units) (hits_nearer hits units)) (lt-ltb hit.dist units all.0)
    ∙ ap (λ others. hit ∷ others) (nearer_whole hits units all.1)

weaker : (few many : ℕ) (hits : List Hit) → few ≤ many → AllByRecursion (λ hit. hit.dist < few) hits → AllByRecursion (λ hit. hit.dist < many) hits
weaker few many [] le all = tt
weaker few many (hit ∷ hits) le all = (omega (arith, all.0), weaker few many hits le all.1)

nearer_append : (xs ys : List Hit) (units : ℕ) (f : Hit → ℕ)
    → sum_by f (hits_nearer (xs ++ ys) units) ≡ sum_by f (hits_nearer xs units) + sum_by f (hits_nearer ys units)
nearer_append xs ys units f =
    sum_filter f (λ hit. nat_lt hit.dist units) (xs ++ ys) ∙ sum_by-append (λ (hit : Hit). cond (nat_lt hit.dist units) (f hit) 0) xs ys
    ∙ sym (omega (arith, sum_filter f (λ (hit : Hit). nat_lt hit.dist units) xs, sum_filter f (λ (hit : Hit). nat_lt hit.dist units) ys))

from_kept : (units more : ℕ) (hits : List Hit) → AllByRecursion (λ hit. units ≤ hit.dist) hits
    → AllByRecursion (λ hit. units ≤ hit.dist) (hits_nearer hits more)
from_kept units more [] all = tt
from_kept units more (hit ∷ hits) all = go (nat_lt hit.dist more) (from_kept units more hits all.1)
  where
    go : (b : Bool) → AllByRecursion (λ other. units ≤ other.dist) (hits_nearer hits more)
        → AllByRecursion (λ other. units ≤ other.dist) (cond b (hit ∷ hits_nearer hits more) (hits_nearer hits more))
    go true rest = (all.0, rest)
    go false rest = rest

-- the settled hits, and behind them the nearer ones of the others in order, are the nearer ones in order
pub settled_more : (few many ready : ℕ) (found all : List Hit) → few ≤ many → take ready found ≡ in_order (hits_nearer all few)
    → AllByRecursion (λ hit. few ≤ hit.dist) (drop ready found)
    → HasSame (hits_nearer found many) (hits_nearer all many)
    → take ready found ++ in_order (hits_nearer (drop ready found) many) ≡ in_order (hits_nearer all many)
settled_more few many ready found all le front back same =
    one_order (take ready found ++ in_order (hits_nearer (drop ready found) many)) (in_order (hits_nearer all many))
    (ascends_joined few (take ready found) (in_order (hits_nearer (drop ready found) many)) near
    (all_in_order (λ hit. few ≤ hit.dist) (hits_nearer (drop ready found) many) (from_kept few many (drop ready found) back))
    (subst Ascends (sym front) (ascends_in_order (hits_nearer all few))) (ascends_in_order (hits_nearer (drop ready found) many)))
    (ascends_in_order (hits_nearer all many))
    (λ hit. sums (λ other. cond (is_same_hit hit other) 1 0))
  where
    near : AllByRecursion (λ hit. hit.dist < few) (take ready found)
    near = subst (AllByRecursion (λ hit. hit.dist < few)) (sym front)
        (all_in_order (λ hit. hit.dist < few) (hits_nearer all few)
        (all_kept (λ hit. hit.dist < few) (λ hit. nat_lt hit.dist few) all (λ hit e. ltb-true hit.dist few e)))

    sums : (f : Hit → ℕ) → sum_by f (take ready found ++ in_order (hits_nearer (drop ready found) many)) ≡ sum_by f (in_order (hits_nearer all many))
    sums f =
        let joined = sum_by-append f (take ready found) (in_order (hits_nearer (drop ready found) many)) in
        let order = sum_of_in_order f (hits_nearer (drop ready found) many) in
        let whole = sum_of_in_order f (hits_nearer all many) in
        let own : sum_by f (hits_nearer found many) ≡ sum_by f (hits_nearer (take ready found) many) + sum_by f (hits_nearer (drop ready found) many) =
        ap (λ hits. sum_by f (hits_nearer hits many)) (sym (take-append-drop ready found))
        ∙ nearer_append (take ready found) (drop ready found) many f in
        let first = ap (sum_by f) (nearer_whole (take ready found) many (weaker few many (take ready found) le near)) in
        let given = same.sums f in
        omega arith

-- there is room for the new hits of a ring that are left
pub room_left : (p : Search) (w : Ring) (radii : ℕ) (hits : Window) (mark : Mark) (reads : ℕ) → KeepsHits p w radii hits mark reads
    → IsRing p radii w → length hits.found + length w.hits ≤ hits.capacity
room_left p w radii hits mark reads is ring =
    omega (arith, length-append hits.found w.hits, same_length (hits.found ++ w.hits) w.total is.found, ring.few, is.reserved)

module _ (p : Search) (old new : Ring) (radii : ℕ) (hits : Window) (mark : Mark) (reads : ℕ)
    (is : KeepsHits p old radii hits mark reads) (ring : IsRing p radii old) (kept : List Hit)
    (count : ℕ) (kept_few : length kept ≤ count) (of_hits : old.hits ≡ kept ++ new.hits) where
  -- so many postings were read
  pub after_read : old.reads ≡ new.reads + count → new.total ≡ old.total → KeepsHits p new radii (with_new hits kept) mark (reads + count)
  after_read of_reads of_total =
      let far : AllByRecursion (λ hit. mark.settled ≤ hit.dist) (kept ++ new.hits) =
      subst (AllByRecursion (λ hit. mark.settled ≤ hit.dist)) of_hits
      (recursion_from_All (λ hit. mark.settled ≤ hit.dist) old.hits is.far) in
      let joined = length-append hits.found kept in
      let few = kept_few in
      record {
        window = record { behind = is.window.behind; among = omega (arith, is.window.among); fits = is.window.fits };
        some_room = is.some_room;
        reserved = is.reserved;
        moved = is.moved;
        ready = omega (arith, is.ready);
        few = omega (arith, is.few);
        bounded = omega (arith, is.bounded);
        found = same_again ((hits.found ++ kept) ++ new.hits) (hits.found ++ old.hits) new.total
            (same_of ((hits.found ++ kept) ++ new.hits) (hits.found ++ old.hits)
            (append_assoc hits.found kept new.hits ∙ ap (λ xs. hits.found ++ xs) (sym of_hits)))
            (same_again (hits.found ++ old.hits) old.total new.total is.found (same_of old.total new.total (sym of_total)));
        front = take-append-le mark.ready hits.found kept is.ready ∙ is.front;
        back = All-from_recursion (λ hit. mark.settled ≤ hit.dist) (drop mark.ready (hits.found ++ kept))
            (subst (AllByRecursion (λ hit. mark.settled ≤ hit.dist)) (sym (drop-append-le mark.ready hits.found kept is.ready))
            (all_both (λ hit. mark.settled ≤ hit.dist) (drop mark.ready hits.found) kept
            (recursion_from_All (λ hit. mark.settled ≤ hit.dist) (drop mark.ready hits.found) is.back)
            (all_front (λ hit. mark.settled ≤ hit.dist) kept new.hits far)));
        far = All-from_recursion (λ hit. mark.settled ≤ hit.dist) new.hits (all_back (λ hit. mark.settled ≤ hit.dist) kept new.hits far);
        most = is.most;
      }
    where
      all_both : (P : Hit → Type 0) (xs ys : List Hit) → AllByRecursion P xs → AllByRecursion P ys → AllByRecursion P (xs ++ ys)
      all_both P [] ys a b = b
      all_both P (x ∷ xs) ys a b = (a.0, all_both P xs ys a.1 b)

module _ (p : Search) (w : Ring) (radii : ℕ) (hits : Window) (mark : Mark) (reads : ℕ) (is : KeepsHits p w radii hits mark reads)
    (ring : IsRing p radii w) where
  none_new : w.reads ≡ 0 → w.hits ≡ []
  none_new none = nil_from_length w.hits (omega (arith, ring.few_new))

  all_found : w.reads ≡ 0 → HasSame hits.found w.total
  all_found none = same_again hits.found (hits.found ++ w.hits) w.total
      (same_of hits.found (hits.found ++ w.hits) (sym (ap (λ xs. hits.found ++ xs) (none_new none) ∙ append-nil hits.found))) is.found

  -- at the end of a ring the hits found that are nearer than what is settled are all such hits
  nearer_found : w.reads ≡ 0
      → HasSame (hits_nearer hits.found (units_to_settle p radii hits)) (hits_nearer (all_hits p) (units_to_settle p radii hits))
  nearer_found none =
      ⊎_elim
      (λ (whole : length hits.found ≡ length p.rows). nearer_same hits.found (all_hits p) (units_to_settle p radii hits)
      (same_again hits.found w.total (all_hits p) (all_found none)
      (ring.all (omega (arith, same_length hits.found w.total (all_found none))))))
      (λ (part : length hits.found ≢ length p.rows). (let units : units_to_settle p radii hits ≡ radii =
      ap (λ b. cond b (p.bits + 1) radii) (ne_eqb (length hits.found) (length p.rows) part) in
      subst (λ n. HasSame (hits_nearer hits.found n) (hits_nearer (all_hits p) n)) (sym units)
      (same_again (hits_nearer hits.found radii) (hits_nearer w.total radii) (hits_nearer (all_hits p) radii)
      (nearer_same hits.found w.total radii (all_found none)) ring.near)))
      (cases_eq (length hits.found) (length p.rows))

  units_most : units_to_settle p radii hits ≤ p.bits + 1
  units_most = go (length hits.found == length p.rows)
    where
      go : (b : Bool) → cond b (p.bits + 1) radii ≤ p.bits + 1
      go true = omega arith
      go false = ring.begun

  pub units_least : mark.settled ≤ radii → mark.settled ≤ units_to_settle p radii hits
  units_least le = go (length hits.found == length p.rows)
    where
      go : (b : Bool) → mark.settled ≤ cond b (p.bits + 1) radii
      go true = is.most
      go false = le

  module _ (none : w.reads ≡ 0) (le : mark.settled ≤ radii) (new : Window) (ready : ℕ)
      (settles : Settles mark.ready (units_to_settle p radii hits) hits new ready) where
    front_settled : take ready new.found ≡ in_order (hits_nearer (all_hits p) (units_to_settle p radii hits))
    front_settled = settles.front
        ∙ settled_more mark.settled (units_to_settle p radii hits) mark.ready hits.found (all_hits p) (units_least le) is.front
        (recursion_from_All (λ hit. mark.settled ≤ hit.dist) (drop mark.ready hits.found) is.back) (nearer_found none)

    kept_settled : KeepsHits p w radii new (record { ready = ready; settled = units_to_settle p radii hits }) reads
    kept_settled =
        let size = settles.size in
        let given = settles.given in
        let moved = settles.moved in
        let room = settles.room in
        let capacity = settles.capacity in
        record {
          window = record { behind = omega (arith, is.window.behind); among = omega (arith, is.window.among); fits = omega (arith, is.window.fits) };
          some_room = omega (arith, is.some_room);
          reserved = omega (arith, is.reserved);
          moved = omega (arith, is.moved, settles.behind);
          ready = settles.within;
          few = omega (arith, is.few);
          bounded = is.bounded;
          found = record {
            sums = λ f. sum_by-append f new.found w.hits
                ∙ ap (λ n. n + sum_by f w.hits) ((settles_same mark.ready (units_to_settle p radii hits) ready hits new settles).sums f)
                ∙ sym (sum_by-append f hits.found w.hits) ∙ is.found.sums f;
          };
          front = front_settled;
          back = All-from_recursion (λ hit. units_to_settle p radii hits ≤ hit.dist) (drop ready new.found) settles.far;
          far = All-from_recursion (λ hit. units_to_settle p radii hits ≤ hit.dist) w.hits
              (subst (AllByRecursion (λ hit. units_to_settle p radii hits ≤ hit.dist)) (sym (none_new none)) tt);
          most = units_most;
        }

    rest_settled : ready < length p.rows → units_to_settle p radii hits ≡ radii
    rest_settled more =
        ⊎_elim
        (λ (whole : length hits.found ≡ length p.rows). (let units : units_to_settle p radii hits ≡ p.bits + 1 =
        ap (λ b. cond b (p.bits + 1) radii) (eq-eqb (length hits.found) (length p.rows) whole) in
        let size = length-take-le ready new.found settles.within in
        let front : length (take ready new.found) ≡ length (hits_nearer (all_hits p) (p.bits + 1)) = ap length front_settled
        ∙ order_size (hits_nearer (all_hits p) (units_to_settle p radii hits)) ∙ ap (λ n. length (hits_nearer (all_hits p) n)) units in
        let all = ap length (ring.within) in
        let mapped = length-map p.rows (hit_of p.query) in
        absurd (omega arith)))
        (λ (part : length hits.found ≢ length p.rows). ap (λ b. cond b (p.bits + 1) radii) (ne_eqb (length hits.found) (length p.rows) part))
        (cases_eq (length hits.found) (length p.rows))

    pub near_settled : IsNear p w radii new (record { ready = ready; settled = units_to_settle p radii hits }) reads
    near_settled = record { kept = kept_settled; search = λ more. absurd (omega (arith, none)); rest = λ e less. rest_settled less }

  -- a step of a ring leaves a near query, once its end is settled
  pub after_ring : IsOpen p radii hits mark → (new : Window) (to : Mark) → SettlesRing (units_to_settle p radii hits) w.reads hits new mark to
      → IsNear p w radii new to reads
  after_ring opened new to settles =
      ⊎_elim
      (λ (more : 0 < w.reads). (let same = settles.more more in
      subst (λ window. IsNear p w radii window to reads) (sym same.0) (subst (λ m. IsNear p w radii hits m reads) (sym same.1)
      (record { kept = is; search = λ _. opened; rest = λ none. absurd (omega arith) }))))
      (λ (end : w.reads ≤ 0). (let done = settles.done (omega arith) in
      let below : mark.settled ≤ radii = omega (arith, opened.settled) in
      subst (λ n. IsNear p w radii new (record { ready = to.ready; settled = n }) reads) (sym done.1) (near_settled
      (omega arith) below new to.ready done.0)))
      (cases_lt 0 w.reads)

pub sum_more : (xs : List ℕ) (i : ℕ) → i < length xs → sum (take (i + 1) xs) ≡ sum (take i xs) + get_or xs i 0
sum_more [] i less = absurd (omega arith)
sum_more (x ∷ xs) zero less = omega (arith, sum_by-cons (λ n. n) x [])
sum_more (x ∷ xs) (suc i) less =
    let e : suc i + 1 ≡ suc (i + 1) = omega arith in
    rw e (omega (arith, sum_by-cons (λ n. n) x (take (i + 1) xs), sum_by-cons (λ n. n) x (take i xs), sum_more xs i (omega arith)))

-- a ring is begun
pub after_begin : (p : Search) (old new : Ring) (radii : ℕ) (hits : Window) (mark : Mark) (reads : ℕ) → IsNear p old radii hits mark reads
    → IsRing p radii old → old.reads ≡ 0 → radii ≤ p.bits
    → hits.given ≡ mark.ready → mark.ready < length p.rows → Begins p radii old new
    → KeepsHits p new (radii + 1) hits mark reads × IsOpen p (radii + 1) hits mark
after_begin p old new radii hits mark reads is ring none below given more begins =
    let settled : mark.settled ≡ radii = is.rest none more in
    let kept = is.kept in
    let bound : bound_of p (radii + 1) ≡ bound_of p radii + get_or p.leasts radii 0 = sum_more p.leasts radii (omega (arith, ring.leasts_are)) in (
      record {
        window = kept.window;
        some_room = kept.some_room;
        reserved = kept.reserved;
        moved = kept.moved;
        ready = kept.ready;
        few = kept.few;
        bounded = omega (arith, kept.bounded, begins.least);
        found = record {
          sums = λ f. sum_by-append f hits.found new.hits
              ∙ ap (λ n. n + sum_by f new.hits) ((all_found p old radii hits mark reads kept ring none).sums f)
              ∙ sym (sum_by-append f old.total new.hits) ∙ begins.found.sums f;
        };
        front = kept.front;
        back = kept.back;
        far = All-from_recursion (λ hit. mark.settled ≤ hit.dist) new.hits
            (subst (λ n. AllByRecursion (λ hit. n ≤ hit.dist) new.hits) (sym settled) begins.far);
        most = kept.most;
      },
      record { given = given; more = more; settled = omega arith },
    )

-- a hit is moved
pub after_move : (p : Search) (w : Ring) (radii : ℕ) (hits : Window) (mark : Mark) (reads : ℕ) → IsNear p w radii hits mark reads → w.reads ≡ 0
    → hits.moved < mark.ready → hits.moved < hits.given + hits.room
    → IsNear p w radii (with_moved hits) mark reads
after_move p w radii hits mark reads is none more space =
    let kept = is.kept in
    record {
      kept = record {
        window = record { behind = omega (arith, kept.window.behind); among = omega (arith, kept.ready); fits = omega arith };
        some_room = kept.some_room;
        reserved = kept.reserved;
        moved = omega arith;
        ready = kept.ready;
        few = kept.few;
        bounded = kept.bounded;
        found = kept.found;
        front = kept.front;
        back = kept.back;
        far = kept.far;
        most = kept.most;
      };
      search = λ some. absurd (omega arith);
      rest = is.rest;
    }

-- a hit is given
pub after_pop : (p : Search) (w : Ring) (radii : ℕ) (hits : Window) (mark : Mark) (reads : ℕ) → IsNear p w radii hits mark reads
    → IsNear p w radii (with_given hits) mark reads
after_pop p w radii hits mark reads is =
    let kept = is.kept in
    let first = length-take 1 (waiting_of hits) in
    let wait = length-take (hits.moved - hits.given) (left_of hits) in
    record {
      kept = record {
        window = record { behind = omega (arith, kept.window.behind); among = kept.window.among; fits = omega (arith, kept.window.fits) };
        some_room = kept.some_room;
        reserved = kept.reserved;
        moved = kept.moved;
        ready = kept.ready;
        few = kept.few;
        bounded = kept.bounded;
        found = kept.found;
        front = kept.front;
        back = kept.back;
        far = kept.far;
        most = kept.most;
      };
      search = λ some. (let held = is.search some in record {
        given = omega (arith, held.given, kept.moved, kept.window.behind);
        more = held.more;
        settled = held.settled;
      });
      rest = is.rest;
    }

none_nearer_than_none : (hits : List Hit) → hits_nearer hits 0 ≡ []
none_nearer_than_none [] = refl
none_nearer_than_none (hit ∷ hits) = ap (λ b. cond b (hit ∷ hits_nearer hits 0) (hits_nearer hits 0)) (le-ltb hit.dist 0 (omega arith))
    ∙ none_nearer_than_none hits

-- a query that was opened has nothing found
pub near_begins : (p : Search) (w : Ring) (radii rows room : ℕ) → IsRing p radii w → radii ≡ 0 → w.total ≡ [] → w.reads ≡ 0 → rows ≡ length p.rows
    → 1 ≤ room
    → IsNear p w radii (window_of [] rows room) (record { ready = 0; settled = 0 }) 0
near_begins p w radii rows room ring none nothing no_reads of_rows some =
    let no_hits : w.hits ≡ [] = nil_from_length w.hits (omega (arith, ring.few_new)) in
    record {
      kept = record {
        window = record { behind = omega arith; among = omega arith; fits = omega arith };
        some_room = some;
        reserved = omega arith;
        moved = omega arith;
        ready = omega arith;
        few = omega arith;
        bounded = omega arith;
        found = same_of w.hits w.total (no_hits ∙ sym nothing);
        front = sym (ap in_order (none_nearer_than_none (all_hits p)));
        back = λ k d within. absurd (omega arith);
        far = subst (All (λ hit. 0 ≤ hit.dist)) (sym no_hits) (λ k d within. absurd (omega arith));
        most = omega arith;
      };
      search = λ more. absurd (omega arith);
      rest = λ e more. sym none;
    }
