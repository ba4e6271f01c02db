-- Rounds of polls between two hits.
use Rattle.std.proofs.Common.{◌≡◌, ℕ, ◌+◌, ◌<◌, List, length, get_or, set, map, refl, sym, ap, subst, ◌∙◌, arith, true, Option, Some, None, inl, inr}
use Rattle.std.specs.Prelude.{nat_lt, sum_by}
use Rattle.std.proofs.lemmas.Bool.{and_parts, MatchBool-at_true, MatchBool-at_false, cases_Bool, cases_eq}
use Rattle.std.proofs.lemmas.List.{length-map, length-set, get_or-map, get_or_default, get_or-set_other, same_lists}
use Rattle.hamming_model.specs.declared.hit.Hit.{Hit}
use Rattle.hit_source.specs.Sources.{Asked, Standing, IsLawful}
use Rattle.scatter_gather.specs.Gathering.{source_of, sources_of, Gathered, gathered, seen, all_asked, answer_left}
use Rattle.scatter_gather.specs.Due.{some_due, any_may_have_next, may_have_next, least_floor, todo}
use Rattle.scatter_gather.specs.Kept.{IsGathering}
use Rattle.scatter_gather.specs.Polling.{PollsOnce, PollsAll}
use Rattle.scatter_gather.specs.Moves.{ReadsRise, Waited, Gave, GivesReady, GivesOne}
use Rattle.scatter_gather.proofs.KeepLemmas.{asked_seen, given_seen, same_gathering, set_alike}
use Rattle.scatter_gather.proofs.TodoLemmas.{some_of, round_todo}

-- where no hit was ready the gathering is as before
pub ready_stays : {S : Type 0} (asks : S → Asked) (stands : S → Standing) (old new : Gathered S) (hit : Option Hit) → hit ≡ None
    → GivesReady asks stands old new hit → new ≡ old
ready_stays asks stands old new hit none gives = subst (GivesReady asks stands old new) none gives

-- what no poll changes is as before a round of polls
pub round_same : {S T : Type 0} (h : S → T) (asks : S → Asked) (stands : S → Standing) (budget : ℕ) (old new : List S)
    (from to : List ℕ) → ((x y : S) (m n : ℕ) → PollsOnce asks stands budget x m y n → h y ≡ h x)
    → PollsAll asks stands budget old new from to → map h new ≡ map h old
round_same {S = S} h asks stands budget old new from to keeps polls =
    same_lists (map h new) (map h old) (omega (arith, polls.count, length-map new h, length-map old h)) (λ k d within.
    let l : k < length old = omega (arith, within, polls.count, length-map new h) in
    let e = some_of old k l in
    get_or-map h new k e d (omega (arith, l, polls.count)) ∙ at k e l ∙ sym (get_or-map h old k e d l))
  where
    at : (k : ℕ) (e : S) → k < length old → h (get_or new k e) ≡ h (get_or old k e)
    at k e l = elim (cases_Bool (may_have_next (least_floor (sources_of asks stands old))
        (source_of asks stands (get_or old k e)))) [
          | inl may ↦ keeps _ _ _ _ (MatchBool-at_true _ _ may (polls.at k e l))
          | inr held ↦ ap h (MatchBool-at_false _ _ held (polls.at k e l)).0
        ]

-- a round of polls keeps a gathering
pub round_keeps : {S : Type 0} (asks : S → Asked) (stands : S → Standing) (budget : ℕ) (old new : List S)
    (from to : List ℕ) (limit given : ℕ) (last : Option ℕ) → PollsAll asks stands budget old new from to
    → IsGathering (seen asks stands (gathered old limit given last))
    → IsGathering (seen asks stands (gathered new limit given last))
round_keeps asks stands budget old new from to limit given last polls is =
    same_gathering (sources_of asks stands old) (sources_of asks stands new) limit given last
    (asked_seen asks stands new ∙ round_same asks asks stands budget old new from to (λ x y m n one. one.asked) polls
    ∙ sym (asked_seen asks stands old))
    (given_seen asks stands new ∙ round_same (λ x. (stands x).given) asks stands budget old new from to
    (λ x y m n one. one.polls.given) polls ∙ sym (given_seen asks stands old))
    is

-- no reads
pub reads_stay : {S : Type 0} (stands : S → Standing) (hs : List S) (steps : List ℕ)
    → ReadsRise stands hs hs steps steps
reads_stay stands hs steps = record {
  count = refl;
  at = λ i d within. refl;
  rises = λ i d within. omega arith;
  beyond = λ i past. refl;
}

-- the reads of a round of polls
round_reads : {S : Type 0} (asks : S → Asked) (stands : S → Standing) (budget : ℕ) (old new : List S)
    (from to : List ℕ) → PollsAll asks stands budget old new from to → ReadsRise stands old new from to
round_reads asks stands budget old new from to polls = record {
  count = polls.count;
  at = λ i d within. elim
      (cases_Bool (may_have_next (least_floor (sources_of asks stands old)) (source_of asks stands (get_or old i d)))) [
        | inl may ↦ (let one : PollsOnce asks stands budget (get_or old i d) (get_or from i 0) (get_or new i d)
            (get_or to i 0) = MatchBool-at_true _ _ may (polls.at i d within) in one.polls.ledger)
        | inr held ↦ (let same = MatchBool-at_false _ _ held (polls.at i d within) in
            omega (arith, same.1, ap (λ x. (stands x).reads) same.0))
      ];
  rises = λ i d within. elim
      (cases_Bool (may_have_next (least_floor (sources_of asks stands old)) (source_of asks stands (get_or old i d)))) [
        | inl may ↦ (let one : PollsOnce asks stands budget (get_or old i d) (get_or from i 0) (get_or new i d)
            (get_or to i 0) = MatchBool-at_true _ _ may (polls.at i d within) in one.polls.rises)
        | inr held ↦ (let same = MatchBool-at_false _ _ held (polls.at i d within) in
            omega (arith, ap (λ x. (stands x).reads) same.0))
      ];
  beyond = polls.beyond;
}

pub reads_again : {S : Type 0} (stands : S → Standing) (old mid new : List S) (from at to : List ℕ)
    → ReadsRise stands old mid from at → ReadsRise stands mid new at to → ReadsRise stands old new from to
reads_again stands old mid new from at to first later = record {
  count = omega (arith, first.count, later.count);
  at = λ i d within. omega (arith, first.at i d within, later.at i d (omega (arith, within, first.count)));
  rises = λ i d within. omega (arith, first.rises i d within, later.rises i d (omega (arith, within, first.count)));
  beyond = λ i past. later.beyond i (omega (arith, past, first.count)) ∙ first.beyond i past;
}

-- nothing was polled yet
pub waited_none : {S : Type 0} (asks : S → Asked) (stands : S → Standing) (g : Gathered S) (steps : List ℕ)
    → Waited asks stands g g steps steps
waited_none asks stands g steps = record {
  asked = refl;
  limit = refl;
  given = refl;
  last = refl;
  ledgers =
      reads_stay stands g.sources steps;
}

-- one round more
pub waited_again : {S : Type 0} (asks : S → Asked) (stands : S → Standing) (budget : ℕ) (old mid new : Gathered S)
    (from at to : List ℕ) → Waited asks stands old mid from at
    → PollsAll asks stands budget mid.sources new.sources at to
    → new ≡ gathered new.sources mid.limit mid.given mid.last → Waited asks stands old new from to
waited_again {S = S} asks stands budget old mid new from at to waited polls stays = record {
  asked = round_same asks asks stands budget mid.sources new.sources at to (λ x y m n one. one.asked) polls
      ∙ waited.asked;
  limit = ap (λ (g : Gathered S). g.limit) stays ∙ waited.limit;
  given = ap (λ (g : Gathered S). g.given) stays ∙ waited.given;
  last = ap (λ (g : Gathered S). g.last) stays ∙ waited.last;
  ledgers = reads_again stands old.sources mid.sources new.sources from at to waited.ledgers
      (round_reads asks stands budget mid.sources new.sources at to polls);
}

-- what is left of the answer is as it was
pub waited_left : {S : Type 0} (asks : S → Asked) (stands : S → Standing) (old new : Gathered S) (from to : List ℕ)
    → Waited asks stands old new from to → answer_left (seen asks stands new) ≡ answer_left (seen asks stands old)
waited_left asks stands old new from to waited =
    let same : all_asked (sources_of asks stands new.sources) ≡ all_asked (sources_of asks stands old.sources) =
    asked_seen asks stands new.sources ∙ waited.asked ∙ sym (asked_seen asks stands old.sources) in
    rw (same, waited.limit, waited.given)

-- after the wait nothing was given
pub gave_none : {S : Type 0} (asks : S → Asked) (stands : S → Standing) (old new : Gathered S) (from to : List ℕ)
    → Waited asks stands old new from to → Gave asks stands old new from to None
gave_none asks stands old new from to waited = record {
  asked = waited.asked;
  limit = waited.limit;
  given =
      waited.given;
  last = waited.last;
  ledgers = waited.ledgers;
}

-- after the wait one source gave the hit
pub gave_one : {S : Type 0} (asks : S → Asked) (stands : S → Standing) (old mid new : Gathered S) (from to : List ℕ)
    (hit : Hit) → Waited asks stands old mid from to → GivesReady asks stands mid new (Some hit)
    → Gave asks stands old new from to (Some hit)
gave_one {S = S} asks stands old mid new from to hit waited gives = record {
  asked = asked ∙ waited.asked;
  limit = ap (λ (g : Gathered S). g.limit) (one.others d) ∙ waited.limit;
  given = ap (λ (g : Gathered S). g.given) (one.others d) ∙ ap (λ n. n + 1) waited.given;
  last = ap (λ (g : Gathered S). g.last) (one.others d);
  ledgers = reads_again stands old.sources mid.sources new.sources from to to waited.ledgers record {
    count = omega (arith, ap length sources, length-set mid.sources shard (get_or new.sources shard d));
    at = λ i e within. ap (λ n. get_or to i 0 + n) (sym (reads i e within));
    rises = λ i e within. omega (arith, reads i e within);
    beyond = λ i past. refl;
  };
}
  where
    shard : ℕ
    shard = gives.0

    one : GivesOne asks stands shard mid new hit
    one = gives.1

    d : S
    d = some_of mid.sources shard one.within

    after : S
    after = get_or new.sources shard d

    sources : new.sources ≡ set mid.sources shard after
    sources = ap (λ (g : Gathered S). g.sources) (one.others d)

    asked : map asks new.sources ≡ map asks mid.sources
    asked = ap (map asks) sources ∙ set_alike asks mid.sources shard (get_or mid.sources shard d) after one.within
        (get_or_default mid.sources shard d (get_or mid.sources shard d) one.within) (one.asked d)

    reads : (i : ℕ) (e : S) → i < length mid.sources
        → (stands (get_or new.sources i e)).reads ≡ (stands (get_or mid.sources i e)).reads
    reads i e within = elim (cases_eq i shard) [
      | inl same ↦ ap (λ k. (stands (get_or new.sources k e)).reads) same ∙ (one.pops e).reads
          ∙ ap (λ k. (stands (get_or mid.sources k e)).reads) (sym same)
      | inr other ↦ ap (λ xs. (stands (get_or xs i e)).reads) sources
          ∙ ap (λ x. (stands x).reads) (get_or-set_other mid.sources shard i after e other)
    ]

-- a round of polls where some source is due leaves less to do
pub loop_todo : {S : Type 0} (asks : S → Asked) (stands : S → Standing) (budget : ℕ) (old mid new : Gathered S)
    (from to : List ℕ)
    → ((x : S) → IsLawful (asks x) (stands x)) → mid ≡ old → some_due (seen asks stands mid) ≡ true
    → PollsAll asks stands budget mid.sources new.sources from to
    → sum_by todo (sources_of asks stands new.sources) < sum_by todo (sources_of asks stands old.sources)
loop_todo asks stands budget old mid new from to law stayed due polls =
    let any = (and_parts (nat_lt mid.given mid.limit) (any_may_have_next (sources_of asks stands mid.sources)) due).1 in
    subst (λ g. sum_by todo (sources_of asks stands new.sources) < sum_by todo (sources_of asks stands g.sources))
    stayed
    (round_todo asks stands budget mid.sources new.sources from to law any polls)
