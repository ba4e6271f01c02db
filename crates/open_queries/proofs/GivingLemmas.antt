-- Lemmas on giving the hits of a gathering one by one.
use Rattle.std.proofs.Common.{◌≡◌, ℕ, suc, ◌+◌, ◌≤◌, ◌<◌, nat_lt, Bool, true, false, List, [], ◌∷◌, ◌++◌, length}
use Rattle.std.proofs.Common.{take, drop, Option, Some, None, Ok, Err, refl, sym, ap, ◌∙◌, subst, arith}
use Rattle.std.proofs.Common.{append-nil, length-drop}
use Rattle.std.specs.Io.KnownBytes.{Appends}
use Rattle.std.proofs.KnownBytes.{Appends-trans}
use Rattle.std.proofs.lemmas.Bool.{le-ltb}
use Rattle.std.proofs.lemmas.List.{take_all, drop-drop}
use Rattle.hamming_model.specs.declared.hit.Hit.{Hit}
use Rattle.hit_source.specs.Sources.{Asked, Standing, IsLawful}
use Rattle.hit_source.specs.Moves.{first_of}
use Rattle.line_io.specs.declared.source.Failed.{Failed}
use Rattle.query_protocol.specs.Replies.{text, reply_line}
use Rattle.query_protocol.specs.Replies as reply
use Rattle.session_model.specs.QuerySteps.{hit_replies}
use Rattle.scatter_gather.specs.Gathering.{Gathered, seen, next_hit, has_more, reaches_by_rows}
use Rattle.scatter_gather.specs.Moves.{Gave, Waited, BegunWithin}
use Rattle.scatter_gather.proofs.NextLemmas.{reads_again, reads_stay}
use Rattle.open_queries.specs.Queries.{whole_answer}
use Rattle.open_queries.specs.Kept.{GivesFirst}
use Rattle.open_queries.specs.Giving.{HasGiven, GivesHits}
use Rattle.open_queries.specs.Writing.{Writes}
use Rattle.open_queries.proofs.AnswerLemmas.{next_first, none_next, one_more, up_to}
use Rattle.open_queries.proofs.KeptLemmas.{answer_seen, next_seen, same_answer, some_first, none_first, waited_first}
use Rattle.open_queries.proofs.WritingLemmas.{part_of_whole, hits_append}

-- nothing was given yet
pub gave_nothing : {S : Type 0} (asks : S → Asked) (stands : S → Standing) (tag : List ℕ) (start : Gathered S)
    (sink : Option (List ℕ)) (ledgers : List ℕ) → GivesFirst asks stands start → Appends sink sink []
    → HasGiven asks stands tag 0 start start sink sink ledgers ledgers
gave_nothing asks stands tag start sink ledgers first wrote = record {
  asked = refl;
  limit = refl;
  ledgers = reads_stay stands start.sources ledgers;
  first = first;
  given = omega arith;
  wrote = wrote;
}

module _ {S : Type 0} (asks : S → Asked) (stands : S → Standing) (law : (x : S) → IsLawful (asks x) (stands x))
    (tag : List ℕ) (count given : ℕ) (start now new : Gathered S) (sink0 sink1 : Option (List ℕ)) (from via to : List ℕ)
    (has : HasGiven asks stands tag given start now sink0 sink1 from via) where
  abbrev answer : List Hit
  answer = whole_answer asks start

  abbrev rest : List Hit
  rest = drop start.given answer

  now_answer : whole_answer asks now ≡ answer
  now_answer = same_answer asks start now has.asked has.limit

  -- as many were given as were asked for
  pub gave_number : given ≤ count → count ≤ given → (more : Bool) → more ≡ has_more (seen asks stands now)
      → Waited asks stands now new via to → (reaches_by_rows (seen asks stands now) ≡ true → new ≡ now)
      → GivesHits asks stands tag count start new sink0 sink1 from to (Ok more)
  gave_number few enough more is waited near =
      let same : given ≡ count = omega (arith, few, enough) in
      let number : now.given ≡ start.given + count = omega (arith, same, has.given) in
      record {
        asked = waited.asked ∙ has.asked;
        limit = waited.limit ∙ has.limit;
        ledgers = reads_again stands start.sources now.sources new.sources from via to has.ledgers waited.ledgers;
        first = waited_first asks stands law now new via to has.first waited near;
        wrote = subst (λ n. Appends sink0 sink1 (text (hit_replies tag (take n rest)))) same has.wrote;
        given = omega (arith, waited.given, number, has.first.given, ap length now_answer);
        more = is ∙ ap (λ hits. nat_lt now.given (length hits)) (answer_seen asks stands now ∙ now_answer)
            ∙ ap (λ n. nat_lt n (length answer)) number;
      }

  -- no hit is left
  pub gave_last : given ≤ count → (result : Option Hit) → result ≡ None → Gave asks stands now new via to result
      → result ≡ next_hit (seen asks stands now)
      → (reaches_by_rows (seen asks stands now) ≡ true → BegunWithin stands now.last now.sources
      → BegunWithin stands new.last new.sources)
      → GivesHits asks stands tag count start new sink0 sink1 from to (Ok false)
  gave_last few result is_none told next near =
      let gave = subst (Gave asks stands now new via to) is_none told in
      let none : None ≡ next_hit (seen asks stands now) = sym is_none ∙ next in
      let nothing : first_of (drop now.given (whole_answer asks now)) ≡ None = sym (none ∙ next_seen asks stands now) in
      let all : length answer ≤ now.given =
      omega (arith, none_next now.given (whole_answer asks now) nothing, ap length now_answer) in
      let left : length rest ≤ given = omega (arith, length-drop start.given answer, all, has.given) in
      let asked_left : length rest ≤ count = omega (arith, left, few) in
      record {
        asked = gave.asked ∙ has.asked;
        limit = gave.limit ∙ has.limit;
        ledgers = reads_again stands start.sources now.sources new.sources from via to has.ledgers gave.ledgers;
        first = none_first asks stands law now new via to has.first gave.asked gave.limit gave.given gave.last near;
        wrote = subst (λ hits. Appends sink0 sink1 (text (hit_replies tag hits)))
            (take_all given rest left ∙ sym (take_all count rest asked_left)) has.wrote;
        given = omega (arith, gave.given, all, few, has.given, has.first.given, ap length now_answer);
        more = sym (le-ltb (start.given + count) (length answer) (omega (arith, all, few, has.given)));
      }

  module _ (result : Option Hit) (hit : Hit) (is_some : result ≡ Some hit)
      (told : Gave asks stands now new via to result) (next : result ≡ next_hit (seen asks stands now))
      (near : reaches_by_rows (seen asks stands now) ≡ true → BegunWithin stands now.last now.sources
      → BegunWithin stands new.last new.sources) where
    gave : Gave asks stands now new via to (Some hit)
    gave = subst (Gave asks stands now new via to) is_some told

    is : Some hit ≡ next_hit (seen asks stands now)
    is = sym is_some ∙ next

    -- the hits from the one that was given on
    abbrev from_it : (later : List Hit) × (drop given rest ≡ hit ∷ later)
    from_it =
        let found = next_first now.given (whole_answer asks now) hit (sym (is ∙ next_seen asks stands now)) in (
          found.0,
          drop-drop given start.given answer ∙ ap (λ n. drop n answer) (sym has.given)
              ∙ ap (drop now.given) (sym now_answer) ∙ found.1,
        )

    -- its line was refused
    pub gave_part : given < count → (sink2 : Option (List ℕ)) (failed : Failed) (piece : List ℕ)
        → piece ≡ reply_line (reply.Hit tag hit.dist hit.key)
        → Writes {A = Unit {0}} sink1 sink2 (Err failed) piece
        → GivesHits asks stands tag count start new sink0 sink2 from to (Err failed)
    gave_part fewer sink2 failed piece piece_is part =
        let up = up_to given count rest from_it.0 hit from_it.1 fewer in
        record {
          asked = gave.asked ∙ has.asked;
          limit = gave.limit ∙ has.limit;
          ledgers = reads_again stands start.sources now.sources new.sources from via to has.ledgers gave.ledgers;
          first = some_first asks stands law now new via to has.first hit gave is near;
          wrote = part_of_whole sink0 sink1 sink2 (text (hit_replies tag (take given rest))) piece
              (text (hit_replies tag up.0)) (text (hit_replies tag (take count rest))) has.wrote part.0 part.1 part.2
              (ap (λ l. text (hit_replies tag l)) up.1
              ∙ hits_append tag (take given rest) (hit ∷ up.0)
              ∙ ap (λ p. text (hit_replies tag (take given rest)) ++ (p ++ text (hit_replies tag up.0))) (sym piece_is));
          given = tt;
          more = tt;
        }

    -- its line was taken
    pub gave_more : (sink2 : Option (List ℕ)) (piece : List ℕ) → piece ≡ reply_line (reply.Hit tag hit.dist hit.key)
        → Appends sink1 sink2 piece → HasGiven asks stands tag (given + 1) start new sink0 sink2 from to
    gave_more sink2 piece piece_is more =
        let one : given + 1 ≡ suc given = omega arith in
        let all : text (hit_replies tag (take (given + 1) rest)) ≡ text (hit_replies tag (take given rest)) ++ piece =
        ap (λ n. text (hit_replies tag (take n rest))) one
        ∙ ap (λ l. text (hit_replies tag l)) (one_more given rest from_it.0 hit from_it.1)
        ∙ hits_append tag (take given rest) (hit ∷ [])
        ∙ ap (λ l. text (hit_replies tag (take given rest)) ++ l)
        (append-nil (reply_line (reply.Hit tag hit.dist hit.key)) ∙ sym piece_is) in
        record {
          asked = gave.asked ∙ has.asked;
          limit = gave.limit ∙ has.limit;
          ledgers = reads_again stands start.sources now.sources new.sources from via to has.ledgers gave.ledgers;
          first = some_first asks stands law now new via to has.first hit gave is near;
          given = omega (arith, gave.given, has.given);
          wrote = subst (Appends sink0 sink2) (sym all)
              (Appends-trans sink0 sink1 sink2 (text (hit_replies tag (take given rest))) piece has.wrote more);
        }
