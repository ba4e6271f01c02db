-- A source that reads a fixed list of hits is lawful at every moment.
use Rattle.std.proofs.Common.{◌≡◌, ℕ, ◌+◌, ◌-◌, length, refl, arith, Bool, true, None}
use Rattle.std.specs.Prelude.{◌==◌}
use Rattle.std.proofs.lemmas.Bool.{eqb-true, eq-eqb}
use Rattle.std.proofs.lemmas.List.{length-drop}
use Rattle.hamming_model.proofs.OrderLemmas.{Ascends, ascends_from_sorted}
use Rattle.hit_source.specs.Sources.{Asked, IsAsked, IsLawful, IsFloor, reached}
use Rattle.hit_source.specs.Windows.{Window, IsWindow, left_of, first_distance}
use Rattle.hit_source.specs.Work.{window_standing}
use Rattle.hit_source.specs.Listed.{asked_of_list, standing_of_list, IsListed}
use Rattle.hit_source.specs.WindowLaws.{none_nearer, ascends_drop, none_where_empty, empty_where_none, floor_of_head, waits, window_prefix}

-- the hits given or waiting are those moved
pub window_reached : (w : Window) (reads : ℕ) (ended : Bool) (units : ℕ) → IsWindow w
    → reached (window_standing w reads ended units) ≡ w.moved
window_reached w reads ended units is = omega (arith, waits w is, is.behind)

-- the floor of a source whose hits are a window's, all in order
pub window_floor : (a : Asked) (w : Window) (reads : ℕ) (ended : Bool) (units : ℕ)
    → a.hits ≡ w.found → Ascends w.found
    → IsWindow w → (w.given ≡ length w.found → ended ≡ true)
    → IsFloor a (window_standing w reads ended units)
window_floor a w reads ended units hits up is ends = record {
  none_nearer = rw hits (none_nearer (left_of w) (ascends_drop w.given w.found up));
  none_left = rw hits (to, back);
  of_head = floor_of_head (w.moved - w.given) (left_of w);
}
  where
    to : first_distance (left_of w) ≡ None → (w.given ≡ length w.found) × (ended ≡ true)
    to none =
        let all : w.given ≡ length w.found =
        omega (
          arith,
          none_where_empty (left_of w) none,
          length-drop w.given w.found,
          is.behind,
          is.among,
        ) in
        (all, ends all)

    back : (w.given ≡ length w.found) × (ended ≡ true) → first_distance (left_of w) ≡ None
    back both = empty_where_none (left_of w) (omega (arith, both.0, length-drop w.given w.found))

-- what it is asked
listed_asked : (w : Window) (reads : ℕ) → IsListed w reads → IsAsked (asked_of_list w.found w.room)
listed_asked w reads is = record {
  ascends = is.ascends;
  reached = is.near;
  few = omega arith;
  some_room = is.some_room;
  range = λ range. record { plan = λ given. refl; bound = λ given. refl };
  near = λ near. cc;
}

-- a source that reads a list is lawful at every moment
pub listed_lawful : (w : Window) (reads : ℕ) → IsListed w reads
    → IsLawful (asked_of_list w.found w.room) (standing_of_list w reads)
listed_lawful w reads is =
    let fits : reached (standing_of_list w reads) ≡ w.moved =
    window_reached w reads (w.moved == length w.found)
    ((length w.found - reads) + (length w.found - w.moved))
    is.window in
    record {
      asked = listed_asked w reads is;
      window = window_prefix w is.window;
      within = omega (arith, fits, is.window.among);
      room = omega (arith, waits w is.window, is.window.fits);
      each_read = omega (arith, fits, is.read_first);
      begun = record { range = λ range. refl; near = tt };
      bounded = is.bounded;
      floor = window_floor (asked_of_list w.found w.room) w reads (w.moved == length w.found)
          ((length w.found - reads) + (length w.found - w.moved)) refl
          (ascends_from_sorted w.found is.ascends)
          is.window
          (λ all. eq-eqb w.moved (length w.found)
          (omega (arith, all, is.window.behind, is.window.among)));
      end = record {
        all_reached = λ ended. omega (arith, fits, eqb-true w.moved (length w.found) ended);
        all_read = λ ended range. omega (
          arith,
          eqb-true w.moved (length w.found) ended,
          is.read_first,
          is.bounded,
        );
        of_range = λ range all read. eq-eqb w.moved (length w.found) (omega (arith, fits, all));
        of_near = λ near. cc;
      };
    }
