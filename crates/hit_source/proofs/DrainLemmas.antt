-- Taking hits one after the other takes the next hits of the list.
use Rattle.std.proofs.Common.{◌≡◌, ℕ, ◌+◌, ◌-◌, ◌≤◌, ◌<◌, List, [], ◌∷◌, ◌++◌, length, take, drop, refl, sym, ap, subst, ◌∙◌, arith, append_assoc, true, Option, Some}
use Rattle.std.proofs.lemmas.List.{append-nil, drop-drop, take_rest}
use Rattle.std.proofs.Math.Seq.{take-add}
use Rattle.hamming_model.specs.declared.hit.Hit.{Hit}
use Rattle.hit_source.specs.declared.polled.Polled.{Polled}
use Rattle.hit_source.specs.declared.polled.Polled.TheVariants.{Moved, Full, Ended}
use Rattle.hit_source.specs.Sources.{Asked, Standing, IsLawful}
use Rattle.hit_source.specs.Moves.{Polls, Pops, first_of}
use Rattle.hit_source.specs.Drains.{TakesHits, Drains, OnlyGives}

-- no hit is taken at first
pub takes_none : (a : Asked) (s : Standing) (hits : List Hit) → TakesHits a s s hits hits
takes_none a s hits =
    let none : s.given - s.given ≡ 0 = omega arith in
    record {
      rises = omega arith;
      next = rw none (sym (append-nil hits));
    }

-- hits taken after others are all of them
pub takes_again : (a : Asked) (old mid new : Standing) (before at after : List Hit) → TakesHits a old mid before at
    → TakesHits a mid new at after → TakesHits a old new before after
takes_again a old mid new before at after first then =
    let both : new.given - old.given ≡ (mid.given - old.given) + (new.given - mid.given) =
    omega (arith, first.rises, then.rises) in
    let to_mid : old.given + (mid.given - old.given) ≡ mid.given = omega (arith, first.rises) in
    let rest : drop (mid.given - old.given) (drop old.given a.hits) ≡ drop mid.given a.hits =
    drop-drop (mid.given - old.given) old.given a.hits ∙ ap (λ n. drop n a.hits) to_mid in
    record {
      rises = omega (arith, first.rises, then.rises);
      next = then.next
          ∙ ap (λ hits. hits ++ take (new.given - mid.given) (drop mid.given a.hits)) first.next
          ∙ append_assoc before (take (mid.given - old.given) (drop old.given a.hits))
          (take (new.given - mid.given) (drop mid.given a.hits))
          ∙ ap (λ hits. before ++ hits) (
          ap (λ hits. take (mid.given - old.given) (drop old.given a.hits) ++ take (new.given - mid.given) hits)
          (sym rest)
          ∙ sym (take-add (mid.given - old.given) (new.given - mid.given) (drop old.given a.hits))
          ∙ ap (λ n. take n (drop old.given a.hits)) (sym both)
          );
    }

-- a call that gives no hit takes none
pub takes_same : (a : Asked) (old mid new : Standing) (before after : List Hit) → TakesHits a old mid before after
    → new.given ≡ mid.given → TakesHits a old new before after
takes_same a old mid new before after first same = record {
  rises = omega (arith, first.rises, same);
  next = subst (λ n. after ≡ before ++ take (n - old.given) (drop old.given a.hits)) (sym same) first.next;
}

one_waits : (waiting hits : List Hit) (hit : Hit) → waiting ≡ take (length waiting) hits → Some hit ≡ first_of waiting
    → (length (take 1 waiting) ≡ 1) × (take 1 hits ≡ hit ∷ [])
one_waits [] hits hit window first = cc
one_waits (head ∷ rest) [] hit window first = cc
one_waits (head ∷ rest) (other ∷ hits) hit window first =
    let same : head ∷ rest ≡ other ∷ take (length rest) hits = window in
    let e : hit ≡ head = cc in
    let f : head ≡ other = cc in
    (refl, ap (λ (x : Hit). x ∷ []) (sym f ∙ sym e))

-- the first hit that waits is the next
pub takes_first : (a : Asked) (old new : Standing) (result : Option Hit) (hit : Hit) (before : List Hit)
    → IsLawful a old → Some hit ≡ first_of old.waiting → Pops old new result
    → TakesHits a old new before (before ++ hit ∷ [])
takes_first a old new result hit before law first pops =
    let waits = one_waits old.waiting (drop old.given a.hits) hit law.window first in
    let one : new.given - old.given ≡ 1 = omega (arith, pops.given, waits.0) in
    record {
      rises = omega (arith, pops.given);
      next = rw one (ap (λ hits. before ++ hits) (sym waits.1));
    }

-- a source that has ended and of which no hit waits was drained
pub drained : (a : Asked) (old new : Standing) (before after : List Hit) → TakesHits a old new before after
    → IsLawful a new → new.waiting ≡ [] → new.ended ≡ true → Drains a old new before after
drained a old new before after takes law none ended =
    let empty : length new.waiting ≡ 0 = ap length none in
    let given : new.given ≡ length a.hits = omega (arith, law.end.all_reached ended, empty) in
    let left : new.given - old.given ≡ length a.hits - old.given = omega (arith, given) in
    record {
      all = takes.next ∙ ap (λ n. before ++ take n (drop old.given a.hits)) left
          ∙ ap (λ hits. before ++ hits) (take_rest a.hits old.given);
      given = given;
      ended = ended;
      none_left = law.floor.none_left.1 (given, ended);
    }

-- a hit that waited was taken and put behind those before it
pub takes_more : (a b : Asked) (old mid new : Standing) (result : Option Hit) (hit : Hit) (before at after : List Hit)
    → b ≡ a → TakesHits a old mid before at → IsLawful b mid → Some hit ≡ first_of mid.waiting → Pops mid new result
    → after ≡ at ++ hit ∷ [] → TakesHits a old new before after
takes_more a b old mid new result hit before at after same takes law first pops pushed =
    takes_again a old mid new before at after takes (
    subst (λ hits. TakesHits a mid new at hits) (sym pushed)
    (takes_first a mid new result hit at (subst (λ x. IsLawful x mid) same law) first pops)
    )

-- hits taken after a call that gave none
pub takes_further : (a b : Asked) (old mid waited new : Standing) (before at after : List Hit) → b ≡ a
    → TakesHits a old mid before at → waited.given ≡ mid.given → TakesHits b waited new at after → TakesHits a old new before after
takes_further a b old mid waited new before at after same takes none more =
    takes_again a old waited new before at after (takes_same a old mid waited before at takes none)
    (subst (λ x. TakesHits x waited new at after) same more)

one_less : (hits : List Hit) → length (take 1 hits) + length (drop 1 hits) ≡ length hits
one_less [] = refl
one_less (hit ∷ hits) = omega arith

-- a hit that is taken waited
pub gives_first : (old mid new : Standing) (result : Option Hit) → OnlyGives old mid → Pops mid new result
    → OnlyGives old new
gives_first old mid new result gives pops = record {
  reached = omega (arith, ap length pops.waiting, pops.given, one_less mid.waiting, gives.reached);
  reads = pops.reads ∙ gives.reads;
  ended = pops.ended ∙ gives.ended;
  units = pops.units ∙ gives.units;
}

-- one waits less after it was taken
pub fewer_wait : (old new : Standing) (result : Option Hit) (hit : Hit) → Some hit ≡ first_of old.waiting
    → Pops old new result → length new.waiting < length old.waiting
fewer_wait old new result hit first pops = omega (arith, ap length pops.waiting, one_first old.waiting hit first)
  where
    one_first : (hits : List Hit) (hit : Hit) → Some hit ≡ first_of hits → length (drop 1 hits) < length hits
    one_first [] hit first = cc
    one_first (other ∷ hits) hit first = omega arith

-- a poll that didn't end the source did work, or filled the room with hits that were taken after it
pub nearer_end : (budget : ℕ) (a b c : Asked) (old waited new : Standing) (from to : ℕ) (result : Polled)
    → (result ≡ Ended → ⊥) → 1 ≤ a.room → b ≡ a → c ≡ b → old.waiting ≡ [] → Polls budget a old waited from to result
    → OnlyGives waited new → new.waiting ≡ [] → IsLawful c new
    → new.units + (length c.hits - new.given) < old.units + (length a.hits - old.given)
nearer_end budget a b c old waited new from to Ended goes some same again none polls gives empty law =
    absurd (goes refl)
nearer_end budget a b c old waited new from to Moved goes some same again none polls gives empty law =
    let hits : length c.hits ≡ length a.hits = ap (λ (x : Asked). length x.hits) (again ∙ same) in
    omega (arith, hits, polls.spends.moved refl, polls.given, gives.units, gives.reached, ap length empty, law.within)
nearer_end budget a b c old waited new from to Full goes some same again none polls gives empty law =
    let hits : length c.hits ≡ length a.hits = ap (λ (x : Asked). length x.hits) (again ∙ same) in
    let full = polls.answers.full.0 refl in
    omega (
      arith,
      hits,
      full.1,
      some,
      polls.spends.units,
      polls.given,
      gives.units,
      gives.reached,
      ap length empty,
      law.within,
    )

-- hits taken after a poll that ended the source are all that were left
pub drained_then : (a b : Asked) (old waited new : Standing) (before after : List Hit) → b ≡ a
    → TakesHits a old new before after → OnlyGives waited new → IsLawful b new → new.waiting ≡ [] → waited.ended ≡ true
    → Drains a old new before after
drained_then a b old waited new before after same takes gives law none ended =
    drained a old new before after takes (subst (λ x. IsLawful x new) same law) none (gives.ended ∙ ended)
