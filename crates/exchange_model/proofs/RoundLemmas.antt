-- What the rounds of a search reach.
use Rattle.std.proofs.Common.{◌≡◌, ℕ, zero, suc, ◌+◌, ◌-◌, ◌<◌, ◌≤◌, List, refl, sym, arith, Option, None, Some}
use Rattle.hamming_model.specs.Layouts.{IsLayout}
use Rattle.exchange_model.specs.Exchanges.{exchanged}
use Rattle.exchange_model.specs.Rounds.{Reached, first_cheaper, improved, then_or_stay}
use Rattle.exchange_model.specs.declared.position_exchange.PositionExchange.{PositionExchange}
use Rattle.exchange_model.proofs.ExchangeLemmas.{exchanged_layout}
use Rattle.exchange_model.proofs.OrderLemmas.{found_cheaper, found_inside}

-- one round and those after it
pub one_round : (cost : List (List ℕ) → ℕ) (rounds : ℕ) (parts : List (List ℕ)) → 0 < rounds
    → improved cost rounds parts ≡ then_or_stay parts (first_cheaper cost parts) (improved cost (rounds - 1))
one_round cost zero parts some = absurd (omega (arith, some))
one_round cost (suc rounds) parts some = let e : suc rounds - 1 ≡ rounds = omega arith in rw e refl

module _ (cost : List (List ℕ) → ℕ) (parts : List (List ℕ)) (follow : List (List ℕ) → Reached) where
  cheaper_or_stay : (found : Option PositionExchange) → ((e : PositionExchange) → found ≡ Some e → cost (exchanged parts e) < cost parts)
      → ((ps : List (List ℕ)) → (follow ps).swaps + cost (follow ps).parts ≤ cost ps)
      → (then_or_stay parts found follow).swaps + cost (then_or_stay parts found follow).parts ≤ cost parts
  cheaper_or_stay None less after = omega arith
  cheaper_or_stay (Some e) less after = let a = less e refl in let b = after (exchanged parts e) in omega arith

  few_or_stay : (found : Option PositionExchange) (rounds : ℕ) → ((ps : List (List ℕ)) → (follow ps).swaps ≤ rounds)
      → (then_or_stay parts found follow).swaps ≤ suc rounds
  few_or_stay None rounds after = omega arith
  few_or_stay (Some e) rounds after = let b = after (exchanged parts e) in omega arith

  layout_or_stay : (bits : ℕ) (found : Option PositionExchange) → ((e : PositionExchange) → found ≡ Some e → IsLayout bits (exchanged parts e))
      → ((ps : List (List ℕ)) → IsLayout bits ps → IsLayout bits (follow ps).parts) → IsLayout bits parts
      → IsLayout bits (then_or_stay parts found follow).parts
  layout_or_stay bits None made after is = is
  layout_or_stay bits (Some e) made after is = after (exchanged parts e) (made e refl)

  end_or_stay : (found : Option PositionExchange) (rounds : ℕ) → found ≡ first_cheaper cost parts
      → ((ps : List (List ℕ)) → (follow ps).swaps < rounds → first_cheaper cost (follow ps).parts ≡ None)
      → (then_or_stay parts found follow).swaps < suc rounds → first_cheaper cost (then_or_stay parts found follow).parts ≡ None
  end_or_stay None rounds is after fewer = sym is
  end_or_stay (Some e) rounds is after fewer = after (exchanged parts e) (omega (arith, fewer))

-- each exchange makes it cheaper
pub cheaper_by_swaps : (cost : List (List ℕ) → ℕ) (rounds : ℕ) (parts : List (List ℕ))
    → (improved cost rounds parts).swaps + cost (improved cost rounds parts).parts ≤ cost parts
cheaper_by_swaps cost zero parts = omega arith
cheaper_by_swaps cost (suc rounds) parts =
    cheaper_or_stay cost parts (improved cost rounds) (first_cheaper cost parts) (found_cheaper cost parts (cost parts)) (cheaper_by_swaps cost rounds)

pub few_swaps : (cost : List (List ℕ) → ℕ) (rounds : ℕ) (parts : List (List ℕ)) → (improved cost rounds parts).swaps ≤ rounds
few_swaps cost zero parts = omega arith
few_swaps cost (suc rounds) parts = few_or_stay cost parts (improved cost rounds) (first_cheaper cost parts) rounds (few_swaps cost rounds)

pub still_layout : (cost : List (List ℕ) → ℕ) (rounds bits : ℕ) (parts : List (List ℕ)) → IsLayout bits parts
    → IsLayout bits (improved cost rounds parts).parts
still_layout cost zero bits parts is = is
still_layout cost (suc rounds) bits parts is =
    layout_or_stay cost parts (improved cost rounds) bits (first_cheaper cost parts)
    (λ e found. exchanged_layout bits parts e (found_inside cost parts (cost parts) e found) is) (still_layout cost rounds bits) is

-- fewer exchanges than rounds are the end
pub end_reached : (cost : List (List ℕ) → ℕ) (rounds : ℕ) (parts : List (List ℕ)) → (improved cost rounds parts).swaps < rounds
    → first_cheaper cost (improved cost rounds parts).parts ≡ None
end_reached cost zero parts fewer = absurd (omega (arith, fewer))
end_reached cost (suc rounds) parts fewer =
    end_or_stay cost parts (improved cost rounds) (first_cheaper cost parts) rounds refl (end_reached cost rounds) fewer
