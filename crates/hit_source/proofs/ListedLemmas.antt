-- What a unit of work and a pop do to a source that reads a fixed list of hits.
use Rattle.std.proofs.Common.{◌≡◌, ℕ, ◌≤◌, List, length, take, refl, ap, subst, ◌∙◌, arith}
use Rattle.std.specs.Prelude.{All}
use Rattle.std.proofs.lemmas.List.Sorted.{All-permutation}
use Rattle.std.proofs.lemmas.List.{drop-drop}
use Rattle.hamming_model.specs.declared.hit.Hit.{Hit}
use Rattle.hamming_model.specs.declared.limits.TheConstants.{BITS_MOST}
use Rattle.hamming_model.specs.Scan.{in_order}
use Rattle.hamming_model.proofs.OrderLemmas.{ascends_from_sorted, in_order_permutation, in_order_sorted}
use Rattle.hit_source.specs.Moves.{NotBelow, Pops, first_of}
use Rattle.hit_source.specs.Windows.{Window, left_of, waiting_of, first_distance, window_of, put_in_order, with_given}
use Rattle.hit_source.specs.Listed.{asked_of_list, standing_of_list, IsListed}
use Rattle.hit_source.specs.WindowLaws.{ascends_drop, floor_rises, rest_waits}

-- taking the first hit that waits
pub listed_pops : (w : Window) (reads : ℕ) → IsListed w reads
    → Pops (standing_of_list w reads) (standing_of_list (with_given w) reads) (first_of (waiting_of w))
listed_pops w reads is = record {
  head = refl;
  waiting = rest_waits w is.window;
  given = refl;
  floor = subst (λ hits. NotBelow (first_distance (left_of w)) (first_distance hits))
      (drop-drop (length (take 1 (waiting_of w))) w.given w.found)
      (floor_rises (length (take 1 (waiting_of w))) (left_of w)
      (ascends_drop w.given w.found (ascends_from_sorted w.found is.ascends)));
  reads = refl;
  ended = refl;
  begun = refl;
  units = refl;
}

-- hits put in order are a list of which nothing was read
pub listed_begins : (hits : List Hit) (room : ℕ) → All (λ hit. hit.dist ≤ BITS_MOST) hits → 1 ≤ room
    → IsListed (put_in_order (window_of hits (length hits) room)) 0
listed_begins hits room near some = record {
  ascends = in_order_sorted hits;
  near = All-permutation (λ (hit : Hit). hit.dist ≤ BITS_MOST) hits (in_order hits) (in_order_permutation hits) near;
  some_room = some;
  window = record { behind = omega arith; among = omega arith; fits = omega arith };
  read_first = omega arith;
  one_ahead = omega arith;
  bounded = omega arith;
}

-- the same hits and room ask the same
pub asked_alike : (hits others : List Hit) (room space : ℕ) → hits ≡ others → room ≡ space
    → asked_of_list hits room ≡ asked_of_list others space
asked_alike hits others room space same as_wide = ap (λ xs. asked_of_list xs room) same
    ∙ ap (λ n. asked_of_list others n) as_wide
