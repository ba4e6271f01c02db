-- Units of work one after the other, and what a poll made of them does.
use Rattle.std.proofs.Common.{◌≡◌, ℕ, zero, suc, ◌+◌, ◌≤◌, ◌<◌, [], length, refl, sym, ap, subst, ◌∙◌, arith, Bool, true, false, Option, Some, None, inl, inr}
use Rattle.std.specs.Prelude.{◌⊎◌}
use Rattle.std.proofs.lemmas.List.{nil_from_length}
use Rattle.hit_source.specs.declared.polled.Polled.{Polled}
use Rattle.hit_source.specs.declared.polled.Polled.TheVariants.{Moved, Full, Ended}
use Rattle.hit_source.specs.Sources.{Asked, Standing, radii_begun}
use Rattle.hit_source.specs.Moves.{NotBelow, BeginsWithin, AwaitsRadius, StaysEnded, PollAnswers, Polls}
use Rattle.hit_source.specs.Work.{Works, IsStopped}
use Rattle.hit_source.specs.WindowLaws.{not_below_itself}

-- of three floors that rise the last isn't below the first
pub not_below_again : (low mid high : Option ℕ) → NotBelow low mid → NotBelow mid high → NotBelow low high
not_below_again low mid None p q = tt
not_below_again low None (Some high) p q = absurd q
not_below_again None (Some mid) (Some high) p q = absurd p
not_below_again (Some low) (Some mid) (Some high) p q = omega (arith, p, q)

-- as many radii were begun only where the last is the same
pub same_radius : (one other : Option ℕ) → radii_begun one ≡ radii_begun other → one ≡ other
same_radius None None same = refl
same_radius None (Some other) same = absurd (omega (arith, same))
same_radius (Some one) None same = absurd (omega (arith, same))
same_radius (Some one) (Some other) same = (let e : one ≡ other = omega (arith, same) in ap (λ n. Some n) e)

-- a radius begun after another is within the limit as well
begins_again : (limit old mid new : Option ℕ) → BeginsWithin limit old mid → BeginsWithin limit mid new
    → BeginsWithin limit old new
begins_again limit old mid new first (inr within) = inr within
begins_again limit old mid new first (inl same) = subst (BeginsWithin limit old) (sym same) first

stays_again : (old mid new : Standing) → StaysEnded old mid → StaysEnded mid new → StaysEnded old new
stays_again old mid new first then = record {
  ended = then.ended;
  reads = then.reads ∙ first.reads;
  begun = then.begun ∙ first.begun;
}

-- no unit of work changes nothing
pub works_none : (limit : Option ℕ) (s : Standing) (steps : ℕ) → Works limit 0 s s steps steps
works_none limit s steps = record {
  given = refl;
  floor = not_below_itself s.floor;
  idle = λ none. refl;
  rises = omega arith;
  ledger = refl;
  spent = omega arith;
  begun = inl refl;
  farther = omega arith;
  stays_ended = λ ended. record { ended = ended; reads = refl; begun = refl };
  units = omega arith;
  exact = λ same. omega arith;
}

-- units of work after others are all these units
pub works_again : (limit : Option ℕ) (count more : ℕ) (old mid new : Standing) (from at to : ℕ)
    → Works limit count old mid from at → Works limit more mid new at to → Works limit (count + more) old new from to
works_again limit count more old mid new from at to first then = record {
  given = then.given ∙ first.given;
  floor = not_below_again old.floor mid.floor new.floor first.floor then.floor;
  idle = λ none. then.idle (omega (arith, none)) ∙ first.idle (omega (arith, none));
  rises = omega (arith, first.rises, then.rises);
  ledger = omega (arith, first.ledger, then.ledger);
  spent = omega (arith, first.spent, then.spent);
  begun = begins_again limit old.begun mid.begun new.begun first.begun then.begun;
  farther = omega (arith, first.farther, then.farther);
  stays_ended = λ ended. (let kept = first.stays_ended ended in
      stays_again old mid new kept (then.stays_ended kept.ended));
  units = omega (arith, first.units, then.units);
  exact = λ same. (let last = ap radii_begun same in
      let mid_is = same_radius mid.begun old.begun (omega (arith, last, first.farther, then.farther)) in
      omega (arith, first.exact mid_is, then.exact (same ∙ sym mid_is)));
}

-- work that begins no radius is the same at any limit
pub works_at : (limit other : Option ℕ) (count : ℕ) (old new : Standing) (from to : ℕ) → new.begun ≡ old.begun
    → Works limit count old new from to → Works other count old new from to
works_at limit other count old new from to same works = record {
  given = works.given;
  floor = works.floor;
  idle = works.idle;
  rises = works.rises;
  ledger = works.ledger;
  spent = works.spent;
  begun = inl same;
  farther = works.farther;
  stays_ended = works.stays_ended;
  units = works.units;
  exact = works.exact;
}

-- a poll that answers Moved isn't stopped
pub moved_on : (a : Asked) (s : Standing) → PollAnswers a s Moved → IsStopped a s → ⊥
moved_on a s answers (inl ended) = let f : Moved ≡ Ended = answers.ended.1 ended in cc
moved_on a s answers (inr full) = go s.ended refl
  where
    go : (b : Bool) → s.ended ≡ b → ⊥
    go true e = let f : Moved ≡ Ended = answers.ended.1 e in cc
    go false e = let f : Moved ≡ Full = answers.full.1 (e, full) in cc

module _ (budget count : ℕ) (a b : Asked) (old new : Standing) (from to : ℕ) (result : Polled) (some : 1 ≤ budget)
    (none : old.waiting ≡ []) (same : b ≡ a)
    (works : Works old.floor count old new from to) (within : count ≤ budget)
    (stops : (count ≡ budget) ⊎ (IsStopped b new ⊎ AwaitsRadius b old.floor new))
    (answers : PollAnswers b new result) where
  whole_or_waits : result ≡ Moved → (count ≡ budget) ⊎ AwaitsRadius b old.floor new
  whole_or_waits moved = go stops
    where
      go : (count ≡ budget) ⊎ (IsStopped b new ⊎ AwaitsRadius b old.floor new)
          → (count ≡ budget) ⊎ AwaitsRadius b old.floor new
      go (inl all) = inl all
      go (inr (inl stopped)) = absurd (moved_on b new (subst (λ r. PollAnswers b new r) moved answers) stopped)
      go (inr (inr waits)) = inr waits

  none_idle : AwaitsRadius b old.floor new → count ≡ 0 → ⊥
  none_idle waits idle =
      let empty : length old.waiting ≡ 0 = ap length none in
      waits.onward (nil_from_length new.waiting (omega (arith, works.spent, works.rises, works.farther, empty, idle)))
      (works.idle idle)

  -- a poll is at most a budget of units of work, and stops before the budget is spent only where none can be done, or a radius would be begun above the floor
  pub polls_by_work : Polls budget a old new from to result
  polls_by_work =
      let empty : length old.waiting ≡ 0 = ap length none in
      record {
        given = works.given;
        floor = works.floor;
        rises = works.rises;
        ledger = works.ledger;
        spent = omega (arith, works.spent, empty, within);
        begun = works.begun;
        farther = works.farther;
        stays_ended = works.stays_ended;
        answers = subst (λ x. PollAnswers x new result) same answers;
        spends = record {
          units = omega (arith, works.units);
          most = λ still. omega (arith, works.exact still, within);
          moved = λ moved. moves (whole_or_waits moved);
          whole = λ moved. spends (whole_or_waits moved);
        };
      }
    where
      moves : (count ≡ budget) ⊎ AwaitsRadius b old.floor new → new.units < old.units
      moves (inl all) = omega (arith, works.units, all, some)
      moves (inr waits) = go count refl
        where
          go : (n : ℕ) → count ≡ n → new.units < old.units
          go zero e = absurd (none_idle waits e)
          go (suc n) e = omega (arith, works.units, e)

      spends : (count ≡ budget) ⊎ AwaitsRadius b old.floor new
          → (new.units + budget ≤ old.units) ⊎ AwaitsRadius a old.floor new
      spends (inl all) = inl (omega (arith, works.units, all))
      spends (inr waits) = inr (subst (λ x. AwaitsRadius x old.floor new) same waits)

-- a poll of a source that begins no radius
pub polls_by_range : (budget count : ℕ) (a b : Asked) (old new : Standing) (from to : ℕ) (result : Polled) → 1 ≤ budget
    → old.waiting ≡ [] → b ≡ a → new.begun ≡ old.begun
    → Works None count old new from to → count ≤ budget → (count ≡ budget) ⊎ IsStopped b new → PollAnswers b new result
    → Polls budget a old new from to result
polls_by_range budget count a b old new from to result some none same still works within stops answers =
    polls_by_work budget count a b old new from to result some none same
    (works_at None old.floor count old new from to still works) within (stopped stops) answers
  where
    stopped : (count ≡ budget) ⊎ IsStopped b new → (count ≡ budget) ⊎ (IsStopped b new ⊎ AwaitsRadius b old.floor new)
    stopped (inl all) = inl all
    stopped (inr at) = inr (inl at)
