-- The rounds of a search: what one of them does, and that the cost never rises.
use Rattle.std.proofs.Common.{◌≡◌, ℕ, ◌-◌, ◌<◌, List, refl, sym, ◌∙◌, ap, Option, None, Some}
use Rattle.layout_search.specs.Arranged.{exchanged_in}
use Rattle.part_layout.specs.Laid.{Laid}
use Rattle.exchange_model.specs.declared.position_exchange.PositionExchange.{PositionExchange}
use Rattle.layout_search.specs.Inside.{cost_at}
use Rattle.layout_search.specs.Ready.{SameTask, cost_with}
use Rattle.exchange_model.specs.Rounds.{first_below, first_cheaper, improved, then_or_stay, one_swap_more}
use Rattle.exchange_model.specs.Exchanges.{exchanges}
use Rattle.layout_search.specs.declared.search.Search.{Search}
use Rattle.exchange_model.proofs.RoundLemmas.{one_round}
use Rattle.layout_search.proofs.StepLemmas.{same_first}

-- no round
pub no_round : (cost : List (List ℕ) → ℕ) (rounds : ℕ) (parts : List (List ℕ)) → rounds ≡ 0 → improved cost rounds parts
    ≡ record { parts = parts; swaps = 0 }
no_round cost rounds parts none = rw none refl

-- what was found below the cost is the first better exchange
pub better_found : {W : ℕ} (old now : Search W) (bound : ℕ) (found : Option PositionExchange) → SameTask old now → now.layout ≡ old.layout → bound
    ≡ cost_with old old.layout.parts
    → found ≡ first_below (cost_with now) now.layout.parts bound (exchanges now.layout.parts) → found ≡ first_cheaper (cost_with old) old.layout.parts
better_found {W} old now bound found same layout is_bound is =
    is ∙ same_first old now bound same layout (exchanges now.layout.parts)
    ∙ ap (λ (l : Laid). first_below (cost_with old) old.layout.parts bound (exchanges l.parts)) layout
    ∙ ap (λ n. first_below (cost_with old) old.layout.parts n (exchanges old.layout.parts)) is_bound

pub same_improved : {W : ℕ} (old now : Search W) (rounds : ℕ) (parts : List (List ℕ)) → SameTask old now → improved (cost_with now) rounds parts
    ≡ improved (cost_with old) rounds parts
same_improved {W} old now rounds parts same =
    ap (λ bits. improved (λ ps. cost_at {W = W} bits now.rows.items now.samples.items ps) rounds parts) same.bits
    ∙ ap (λ rows. improved (λ ps. cost_at {W = W} old.layout.bits rows now.samples.items ps) rounds parts) same.rows
    ∙ ap (λ samples. improved (λ ps. cost_at {W = W} old.layout.bits old.rows.items samples ps) rounds parts) same.samples

-- what rounds reach where no exchange is better, and where one is
module _ {W : ℕ} (old : Search W) (rounds : ℕ) (found : Option PositionExchange) (some : 0 < rounds)
    (is : found ≡ first_cheaper (cost_with old) old.layout.parts) where
  pub reached_none : found ≡ None → improved (cost_with old) rounds old.layout.parts ≡ record { parts = old.layout.parts; swaps = 0 }
  reached_none none =
      one_round (cost_with old) rounds old.layout.parts some
      ∙ ap (λ o. then_or_stay old.layout.parts o (improved (cost_with old) (rounds - 1))) (sym is ∙ none)

  pub reached_some : (e : PositionExchange) (now : Search W) → found ≡ Some e → SameTask old now → now.layout ≡ exchanged_in old.layout e
      → improved (cost_with old) rounds old.layout.parts ≡ one_swap_more (improved (cost_with now) (rounds - 1) now.layout.parts)
  reached_some e now one same layout =
      one_round (cost_with old) rounds old.layout.parts some
      ∙ ap (λ o. then_or_stay old.layout.parts o (improved (cost_with old) (rounds - 1))) (sym is ∙ one)
      ∙ ap one_swap_more (ap (λ (l : Laid). improved (cost_with old) (rounds - 1) l.parts) (sym layout)
      ∙ sym (same_improved old now (rounds - 1) now.layout.parts same))
