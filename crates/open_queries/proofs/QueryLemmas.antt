-- Lemmas on a query, its replies, and its place in the list.
use Rattle.std.proofs.Common.{◌≡◌, ℕ, zero, suc, ◌+◌, ◌≤◌, ◌<◌, min, nat_lt, Bool, true, false, cond, List, [], ◌∷◌, ◌++◌}
use Rattle.std.proofs.Common.{length, take, drop, map, get_or, set, Option, Result, Ok, Err, refl, sym, ap, ◌∙◌}
use Rattle.std.proofs.Common.{subst, arith, append-nil, ℤ}
use Rattle.std.specs.Prelude.{OnOk}
use Rattle.std.specs.List.{AllByRecursion}
use Rattle.std.proofs.lemmas.Bool.{le-ltb, ltb-false}
use Rattle.std.proofs.lemmas.List.{drop_all, get_or-map, get_or_default, length-map, take_min}
use Rattle.hamming_model.specs.declared.hit.Hit.{Hit}
use Rattle.hit_source.specs.Sources.{Asked, Standing, IsLawful}
use Rattle.line_io.specs.declared.source.Failed.{Failed}
use Rattle.query_protocol.specs.Replies.{LineReply, text, reply_line}
use Rattle.query_protocol.specs.Replies as reply
use Rattle.session_model.specs.QuerySteps.{hit_replies}
use Rattle.threshold_model.specs.Bounds.{last_distance}
use Rattle.scatter_gather.specs.Gathering.{Gathered, seen, answer_of, all_reads, all_bounds}
use Rattle.scatter_gather.specs.Moves.{Looks, BegunWithin}
use Rattle.scatter_gather.specs.Kept.{AreOneLength, IsUpTo}
use Rattle.scatter_gather.proofs.NextLemmas.{reads_stay}
use Rattle.open_queries.specs.declared.open_query.OpenQuery.{OpenQuery}
use Rattle.open_queries.specs.Queries.{whole_answer, answer_in, opened_query, IsSame}
use Rattle.open_queries.specs.Kept.{AreOfOneKind, GivesFirst, IsKept, IsUntouched}
use Rattle.open_queries.specs.Giving.{GivesHits}
use Rattle.open_queries.specs.Answers.{GivesQuery, IsCost, IsPlan}
use Rattle.open_queries.specs.Writing.{Writes}
use Rattle.open_queries.proofs.BoundLemmas.{reads_within_answer}
use Rattle.open_queries.proofs.KeptLemmas.{answer_seen, same_answer, untouched_first}
use Rattle.open_queries.proofs.WritingLemmas.{writes_after, writes_front, text_append}

-- ---- the list

pub kept_at : {S : Type 0} (P : S → Type 0) (xs : List S) (place : ℕ) (d : S) → AllByRecursion P xs
    → place < length xs → P (get_or xs place d)
kept_at P [] place d all within = absurd (omega (arith, within))
kept_at P (x ∷ xs) zero d all within = all.0
kept_at P (x ∷ xs) (suc place) d all within = kept_at P xs place d all.1 (omega (arith, within))

pub kept_set : {S : Type 0} (P : S → Type 0) (xs : List S) (place : ℕ) (x : S) → AllByRecursion P xs → P x
    → AllByRecursion P (set xs place x)
kept_set P [] place x all p = tt
kept_set P (y ∷ xs) zero x all p = (p, all.1)
kept_set P (y ∷ xs) (suc place) x all p = (all.0, kept_set P xs place x all.1 p)

pub kept_more : {S : Type 0} (P : S → Type 0) (xs : List S) (x : S) → AllByRecursion P xs → P x
    → AllByRecursion P (xs ++ x ∷ [])
kept_more P [] x all p = (p, tt)
kept_more P (y ∷ xs) x all p = (all.0, kept_more P xs x all.1 p)

pub kept_later : {S : Type 0} (P : S → Type 0) (xs : List S) (n : ℕ) → AllByRecursion P xs → AllByRecursion P (drop n xs)
kept_later P xs zero all = all
kept_later P [] (suc n) all = tt
kept_later P (x ∷ xs) (suc n) all = kept_later P xs n all.1

pub kept_without : {S : Type 0} (P : S → Type 0) (xs : List S) (n m : ℕ) → AllByRecursion P xs
    → AllByRecursion P (take n xs ++ drop m xs)
kept_without P xs zero m all = kept_later P xs m all
kept_without P [] (suc n) m all = kept_later P [] m tt
kept_without P (x ∷ xs) (suc n) zero all = (all.0, kept_under P xs n (x ∷ xs) all.1 all)
  where
    kept_under : {S : Type 0} (P : S → Type 0) (xs : List S) (n : ℕ) (ys : List S) → AllByRecursion P xs
        → AllByRecursion P ys → AllByRecursion P (take n xs ++ ys)
    kept_under P xs zero ys all more = more
    kept_under P [] (suc n) ys all more = more
    kept_under P (x ∷ xs) (suc n) ys all more = (all.0, kept_under P xs n ys all.1 more)
kept_without P (x ∷ xs) (suc n) (suc m) all = (all.0, kept_without P xs n m all.1)

-- ---- one query

-- a query that was opened now
pub opened_kept : {S : Type 0} (asks : S → Asked) (stands : S → Standing) (tag : List ℕ) (gather : Gathered S)
    → IsUntouched asks stands gather → IsKept asks stands (opened_query tag gather)
opened_kept asks stands tag gather is = record {
  first = untouched_first asks stands gather is;
  done = λ done. let never : false ≡ true = done in cc;
}

-- a look at a gathering
pub looked_first : {S : Type 0} (asks : S → Asked) (stands : S → Standing) (old new : Gathered S)
    → Looks asks stands old new → GivesFirst asks stands old → GivesFirst asks stands new
looked_first {S = S} asks stands old new looks first =
    let limit : new.limit ≡ old.limit = ap (λ (g : Gathered S). g.limit) looks.stays in
    let given : new.given ≡ old.given = ap (λ (g : Gathered S). g.given) looks.stays in
    let last : new.last ≡ old.last = ap (λ (g : Gathered S). g.last) looks.stays in
    let same = same_answer asks old new looks.asked limit in
    record {
      given = omega (arith, given, first.given, ap length same);
      last = last ∙ first.last ∙ ap (λ n. last_distance (take n (whole_answer asks old))) (sym given)
          ∙ ap (λ hits. last_distance (take new.given hits)) (sym same);
      one_length = subst AreOneLength (sym looks.asked) first.one_length;
      one_kind = subst (λ n. AreOfOneKind (map asks new.sources) n) (sym limit)
          (subst (λ a. AreOfOneKind a old.limit) (sym looks.asked) first.one_kind);
      begun = record {
        at = λ i d within.
            let within_old : i < length old.sources = omega
            (arith, within, length-map new.sources stands, length-map old.sources stands, ap length looks.standing) in
            let stood : stands (get_or new.sources i d) ≡ stands (get_or old.sources i d) =
            sym (get_or-map stands new.sources i d (stands d) within)
            ∙ ap (λ l. get_or l i (stands d)) looks.standing
            ∙ get_or-map stands old.sources i d (stands d) within_old in
            subst (λ s. IsUpTo s.begun new.last) (sym stood)
            (subst (λ l. IsUpTo (stands (get_or old.sources i d)).begun l) (sym last) (first.begun.at i d within_old));
      };
    }

module _ {S : Type 0} (asks : S → Asked) (stands : S → Standing) (before after : OpenQuery S)
    (tag : after.tag ≡ before.tag) (done : after.done ≡ before.done)
    (looks : Looks asks stands before.gather after.gather) where
  pub looked_same : IsSame asks stands before after
  looked_same = record {
    tag = tag;
    done = done;
    limit = ap (λ (g : Gathered S). g.limit) looks.stays;
    given = ap (λ (g : Gathered S). g.given) looks.stays;
    asked = looks.asked;
    standing = looks.standing;
  }

  pub looked_kept : IsKept asks stands before → IsKept asks stands after
  looked_kept kept = record {
    first = looked_first asks stands before.gather after.gather looks kept.first;
    done = λ is. ap (λ (g : Gathered S). g.given) looks.stays ∙ kept.done (sym done ∙ is)
        ∙ ap length (sym (same_answer asks before.gather after.gather looks.asked
        (ap (λ (g : Gathered S). g.limit) looks.stays)));
  }

-- what it costs
pub cost_of : {S : Type 0} (asks : S → Asked) (stands : S → Standing) (tag : List ℕ) (query : OpenQuery S)
    (reads bound : ℕ) → IsKept asks stands query → reads ≡ all_reads stands query.gather
    → bound ≡ all_bounds asks query.gather
    → (BegunWithin stands query.gather.last query.gather.sources → reads ≤ bound)
    → (query.gather.given ≤ length (answer_of (seen asks stands query.gather)) → query.gather.given ≤ reads)
    → IsCost asks stands tag query (reply.Cost tag reads bound)
cost_of asks stands tag query reads bound kept reads_are bound_is within no_less = record {
  told = ap (λ n. reply.Cost tag n bound) reads_are ∙ ap (reply.Cost tag (all_reads stands query.gather)) bound_is;
  last = kept.first.last;
  given = subst (λ n. query.gather.given ≤ n) reads_are
      (no_less (subst (λ hits. query.gather.given ≤ length hits) (sym (answer_seen asks stands query.gather)) kept.first.given));
  within = subst (λ n. all_reads stands query.gather ≤ n) bound_is
      (subst (λ n. n ≤ bound) reads_are (within kept.first.begun));
}

-- its plan in a shard
pub plan_of : {S : Type 0} (asks : S → Asked) (stands : S → Standing) (tag : List ℕ) (shard : ℕ) (query : OpenQuery S)
    (cost number : ℕ) (vector : List ℤ) (d : S) → IsKept asks stands query → shard < length query.gather.sources
    → cost ≡ ((asks (get_or query.gather.sources shard d)).plan query.gather.last).1
    → vector ≡ ((asks (get_or query.gather.sources shard d)).plan query.gather.last).0
    → number ≡ min 64 (length vector) → IsPlan asks tag shard query (reply.Plan tag shard cost (take number vector))
plan_of asks stands tag shard query cost number vector d kept within cost_is vector_is number_is =
    let source = get_or query.gather.sources shard d in
    let first : take number vector ≡ take 64 ((asks source).plan query.gather.last).0 =
    ap (λ n. take n vector) number_is ∙ take_min 64 vector ∙ ap (take 64) vector_is in
    record {
      source = source;
      within = within;
      at = λ e. get_or_default query.gather.sources shard e d within;
      told = ap (λ n. reply.Plan tag shard n (take number vector)) cost_is
          ∙ ap (reply.Plan tag shard ((asks source).plan query.gather.last).1) first
          ∙ ap (λ last. reply.Plan tag shard ((asks source).plan last).1 (take 64 ((asks source).plan last).0)) kept.first.last;
    }

-- ---- the hits of a query, and its last line

take_none : (tag : List ℕ) (n : ℕ) → hit_replies tag (take n []) ≡ []
take_none tag zero = refl
take_none tag (suc n) = refl

on_ok : {A : Type 0} (result : Result A Failed) (P : Type 0) → P → OnOk result P
on_ok (Ok value) P p = p
on_ok (Err failed) P p = tt

module _ {S : Type 0} (asks : S → Asked) (stands : S → Standing) (law : (x : S) → IsLawful (asks x) (stands x))
    (tag : List ℕ) (count : ℕ) (before : OpenQuery S) where
  abbrev answer : List Hit
  answer = answer_in asks before

  abbrev first_hits : List LineReply
  first_hits = hit_replies tag (take count (drop before.gather.given answer))

  abbrev last_reply : LineReply
  last_reply = cond (nat_lt (before.gather.given + count) (length answer)) (reply.More tag) (reply.Done tag (length answer))

  -- a query that is done says so again
  pub done_again : (sink sink' : Option (List ℕ)) (ledgers : List ℕ) (result : Result (Unit {0}) Failed)
      → IsKept asks stands before → before.done ≡ true
      → Writes sink sink' result (reply_line (reply.Done tag before.gather.given))
      → GivesQuery asks stands tag count before before sink sink' ledgers ledgers result
  done_again sink sink' ledgers result kept done wrote =
      let all = kept.done done in
      let no_more : nat_lt (before.gather.given + count) (length answer) ≡ false =
      le-ltb (before.gather.given + count) (length answer) (omega (arith, all)) in
      let nothing : first_hits ≡ [] =
      ap (λ hits. hit_replies tag (take count hits)) (drop_all before.gather.given answer (omega (arith, all)))
      ∙ take_none tag count in
      record {
        tag_same = refl;
        limit = refl;
        asked = refl;
        ledgers = reads_stay stands before.gather.sources ledgers;
        stays = λ is. (refl, refl);
        within = record { at = λ i d within. reads_within_answer asks stands law before.gather kept.first i d within };
        wrote = subst (Writes sink sink' result)
            (sym (append-nil (reply_line (reply.Done tag before.gather.given)))
            ∙ ap (λ n. text (reply.Done tag n ∷ [])) all
            ∙ ap (λ b. text (cond b (reply.More tag) (reply.Done tag (length answer)) ∷ [])) (sym no_more)
            ∙ ap (λ l. text (l ++ last_reply ∷ [])) (sym nothing)) wrote;
        given = on_ok result _ (record {
          given = omega (arith, all);
          done = done ∙ ap (λ b. cond b before.done true) (sym no_more);
        });
      }

  module _ (after : OpenQuery S) (tag_same : after.tag ≡ before.tag) (undone : before.done ≡ false)
      (sink0 sink1 : Option (List ℕ)) (from to : List ℕ) where
    never : (P : Type 0) → before.done ≡ true → P
    never P is = let no_such : true ≡ false = sym is ∙ undone in cc

    -- a hit's line was refused
    pub query_part : (failed failed' : Failed)
        → GivesHits asks stands tag count before.gather after.gather sink0 sink1 from to (Err failed)
        → GivesQuery {A = Unit {0}} asks stands tag count before after sink0 sink1 from to (Err failed')
    query_part failed failed' gives = record {
      tag_same = tag_same;
      limit = gives.limit;
      asked = gives.asked;
      ledgers = gives.ledgers;
      stays = λ is. never _ is;
      within = record { at = λ i d within. reads_within_answer asks stands law after.gather gives.first i d within };
      wrote = subst (Writes {A = Unit {0}} sink0 sink1 (Err failed')) (sym (text_append first_hits (last_reply ∷ [])))
          (writes_front Bool (Unit {0}) sink0 sink1 failed failed' (text first_hits) (text (last_reply ∷ [])) gives.wrote);
      given = tt;
    }

    -- the hits, and then that there are more, or that all were given
    pub query_all : (more : Bool) (sink2 : Option (List ℕ)) (result : Result (Unit {0}) Failed)
        → GivesHits asks stands tag count before.gather after.gather sink0 sink1 from to (Ok more)
        → after.done ≡ (cond more before.done true)
        → Writes sink1 sink2 result (reply_line (cond more (reply.More tag) (reply.Done tag after.gather.given)))
        → GivesQuery asks stands tag count before after sink0 sink2 from to result
    query_all more sink2 result gives done wrote = record {
      tag_same = tag_same;
      limit = gives.limit;
      asked = gives.asked;
      ledgers = gives.ledgers;
      stays = λ is. never _ is;
      within = record { at = λ i d within. reads_within_answer asks stands law after.gather gives.first i d within };
      wrote = subst (Writes sink0 sink2 result)
          (ap (λ l. text first_hits ++ l) (sym (append-nil (reply_line last_reply)))
          ∙ sym (text_append first_hits (last_reply ∷ [])))
          (writes_after sink0 sink1 sink2 result (text first_hits) (reply_line last_reply) gives.wrote
          (subst (λ (l : LineReply). Writes sink1 sink2 result (reply_line l)) last wrote));
      given = on_ok result _ (record {
        given = gives.given;
        done = done ∙ ap (λ b. cond b before.done true) gives.more;
      });
    }
      where
        told : (b : Bool) → more ≡ b → nat_lt (before.gather.given + count) (length answer) ≡ b
            → cond b (reply.More tag) (reply.Done tag after.gather.given)
            ≡ cond b (reply.More tag) (reply.Done tag (length answer))
        told true is less = refl
        told false is less = ap (reply.Done tag)
            (omega (arith, gives.given, ltb-false (before.gather.given + count) (length answer) less))

        last : cond more (reply.More tag) (reply.Done tag after.gather.given) ≡ last_reply
        last = told more refl (sym gives.more) ∙ ap (λ b. cond b (reply.More tag) (reply.Done tag (length answer))) gives.more

    -- it is kept as it must be
    pub query_kept : (more : Bool)
        → GivesHits asks stands tag count before.gather after.gather sink0 sink1 from to (Ok more)
        → after.done ≡ (cond more before.done true) → IsKept asks stands after
    query_kept more gives done = record {
      first = gives.first;
      done = λ is. whole more refl is;
    }
      where
        whole : (b : Bool) → more ≡ b → after.done ≡ true → after.gather.given ≡ length (whole_answer asks after.gather)
        whole true is all = never _ (sym (done ∙ ap (λ b. cond b before.done true) is) ∙ all)
        whole false is all = omega (
          arith,
          gives.given,
          ltb-false (before.gather.given + count) (length answer) (sym gives.more ∙ is),
          ap length (same_answer asks before.gather after.gather gives.asked gives.limit),
        )

    pub part_kept : (failed : Failed) → after.done ≡ before.done
        → GivesHits asks stands tag count before.gather after.gather sink0 sink1 from to (Err failed)
        → IsKept asks stands after
    part_kept failed done gives = record {
      first = gives.first;
      done = λ is. never _ (sym done ∙ is);
    }
