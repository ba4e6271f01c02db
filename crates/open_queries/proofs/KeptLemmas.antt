-- Lemmas on what is true of a query at every moment: how it begins, and that the calls of its gathering keep it.
use Rattle.std.proofs.Common.{◌≡◌, ℕ, zero, suc, ◌+◌, ◌<◌, true, false, List, [], ◌∷◌, length, take, drop, map, get_or}
use Rattle.std.proofs.Common.{Option, Some, None, refl, sym, ap, ◌∙◌, subst, arith, inl, inr}
use Rattle.std.specs.Prelude.{◌&&◌, nat_le, sum_by}
use Rattle.std.specs.List.{AllByRecursion, list_all}
use Rattle.std.proofs.lemmas.List.Sums.{sum_by-cons}
use Rattle.hamming_model.specs.declared.hit.Hit.{Hit}
use Rattle.hit_source.specs.Sources.{Asked, Standing, IsLawful, IsFresh}
use Rattle.hit_source.specs.Moves.{first_of}
use Rattle.threshold_model.specs.Bounds.{last_distance}
use Rattle.scatter_gather.specs.Gathering.{Source, source_of, sources_of, Gathered, seen, next_hit}
use Rattle.scatter_gather.specs.Gathering.{answer_of, merged, reaches_by_rows}
use Rattle.scatter_gather.specs.Kept.{AreOneLength, IsUpTo}
use Rattle.scatter_gather.specs.Moves.{BegunWithin, Gave, Waited}
use Rattle.scatter_gather.proofs.KeepLemmas.{asked_seen}
use Rattle.open_queries.specs.Queries.{whole_answer}
use Rattle.open_queries.specs.Kept.{have_rows, AreOfOneKind, IsUntouched, GivesFirst}
use Rattle.open_queries.proofs.AnswerLemmas.{next_within, last_next}

-- ---- the same by what is seen

near_seen : {S : Type 0} (asks : S → Asked) (stands : S → Standing) (xs : List S)
    → list_all (λ (s : Source). s.asked.near) (sources_of asks stands xs) ≡ list_all (λ (a : Asked). a.near) (map asks xs)
near_seen asks stands [] = refl
near_seen asks stands (x ∷ xs) = ap (λ b. (asks x).near && b) (near_seen asks stands xs)

rows_seen : {S : Type 0} (asks : S → Asked) (stands : S → Standing) (xs : List S)
    → sum_by (λ (s : Source). s.asked.rows) (sources_of asks stands xs) ≡ sum_by (λ (a : Asked). a.rows) (map asks xs)
rows_seen asks stands [] = refl
rows_seen asks stands (x ∷ xs) =
    sum_by-cons (λ (s : Source). s.asked.rows) (source_of asks stands x) (sources_of asks stands xs)
    ∙ ap (λ n. (asks x).rows + n) (rows_seen asks stands xs)
    ∙ sym (sum_by-cons (λ (a : Asked). a.rows) (asks x) (map asks xs))

reaches_seen : {S : Type 0} (asks : S → Asked) (stands : S → Standing) (g : Gathered S)
    → have_rows (map asks g.sources) g.limit ≡ true → reaches_by_rows (seen asks stands g) ≡ true
reaches_seen asks stands g has =
    ap (λ b. b && nat_le g.limit (sum_by (λ (s : Source). s.asked.rows) (sources_of asks stands g.sources)))
    (near_seen asks stands g.sources)
    ∙ ap (λ n. list_all (λ (a : Asked). a.near) (map asks g.sources) && nat_le g.limit n) (rows_seen asks stands g.sources)
    ∙ has

pub answer_seen : {S : Type 0} (asks : S → Asked) (stands : S → Standing) (g : Gathered S)
    → answer_of (seen asks stands g) ≡ whole_answer asks g
answer_seen asks stands g = ap (λ asked. take g.limit (merged asked)) (asked_seen asks stands g.sources)

pub next_seen : {S : Type 0} (asks : S → Asked) (stands : S → Standing) (g : Gathered S)
    → next_hit (seen asks stands g) ≡ first_of (drop g.given (whole_answer asks g))
next_seen asks stands g = ap (λ hits. first_of (drop g.given hits)) (answer_seen asks stands g)

-- the answer is told by what the sources are asked and the limit
pub same_answer : {S : Type 0} (asks : S → Asked) (old new : Gathered S) → map asks new.sources ≡ map asks old.sources
    → new.limit ≡ old.limit → whole_answer asks new ≡ whole_answer asks old
same_answer asks old new asked limit =
    ap (λ n. take n (merged (map asks new.sources))) limit ∙ ap (λ a. take old.limit (merged a)) asked

-- ---- no radius was begun above the last hit

range_at : {S : Type 0} (asks : S → Asked) (xs : List S) → AllByRecursion (λ (a : Asked). a.near ≡ false) (map asks xs)
    → (i : ℕ) (d : S) → i < length xs → (asks (get_or xs i d)).near ≡ false
range_at asks [] all i d within = absurd (omega (arith, within))
range_at asks (x ∷ xs) all zero d within = all.0
range_at asks (x ∷ xs) all (suc i) d within = range_at asks xs all.1 i d (omega (arith, within))

begun_none : (last begun : Option ℕ) → begun ≡ None → IsUpTo begun last
begun_none last begun is = subst (λ b. IsUpTo b last) (sym is) tt

ranges_begun : {S : Type 0} (asks : S → Asked) (stands : S → Standing) → ((x : S) → IsLawful (asks x) (stands x))
    → (xs : List S) (last : Option ℕ) → AllByRecursion (λ (a : Asked). a.near ≡ false) (map asks xs)
    → BegunWithin stands last xs
ranges_begun asks stands law xs last all = record {
  at = λ i d within. begun_none last (stands (get_or xs i d)).begun
      ((law (get_or xs i d)).begun.range (range_at asks xs all i d within));
}

fresh_at : {S : Type 0} (stands : S → Standing) (xs : List S) → AllByRecursion (λ x. IsFresh (stands x)) xs
    → (i : ℕ) (d : S) → i < length xs → (stands (get_or xs i d)).begun ≡ None
fresh_at stands [] all i d within = absurd (omega (arith, within))
fresh_at stands (x ∷ xs) all zero d within = all.0.begun
fresh_at stands (x ∷ xs) all (suc i) d within = fresh_at stands xs all.1 i d (omega (arith, within))

-- ---- how it begins and goes on

pub untouched_first : {S : Type 0} (asks : S → Asked) (stands : S → Standing) (g : Gathered S)
    → IsUntouched asks stands g → GivesFirst asks stands g
untouched_first {S = S} asks stands g is =
    let none : g.given ≡ 0 = ap (λ (g : Gathered S). g.given) is.is_new in
    record {
      given = omega (arith, none);
      last = ap (λ (g : Gathered S). g.last) is.is_new
          ∙ ap (λ n. last_distance (take n (whole_answer asks g))) (sym none);
      one_length = is.one_length;
      one_kind = is.one_kind;
      begun = record { at = λ i d within. begun_none g.last _ (fresh_at stands g.sources is.fresh i d within) };
    }

module _ {S : Type 0} (asks : S → Asked) (stands : S → Standing) (law : (x : S) → IsLawful (asks x) (stands x))
    (old new : Gathered S) (from to : List ℕ) (first : GivesFirst asks stands old) where
  -- the radii begun, where near queries began none above the last hit
  begun_on : AreOfOneKind (map asks old.sources) old.limit → map asks new.sources ≡ map asks old.sources
      → (reaches_by_rows (seen asks stands old) ≡ true → BegunWithin stands old.last old.sources
      → BegunWithin stands new.last new.sources) → BegunWithin stands new.last new.sources
  begun_on (inl ranges) asked near = ranges_begun asks stands law new.sources new.last
      (subst (AllByRecursion (λ (a : Asked). a.near ≡ false)) (sym asked) ranges)
  begun_on (inr rows) asked near = near (reaches_seen asks stands old rows) first.begun

  kind_on : map asks new.sources ≡ map asks old.sources → new.limit ≡ old.limit
      → AreOfOneKind (map asks new.sources) new.limit
  kind_on asked limit = subst (λ n. AreOfOneKind (map asks new.sources) n) (sym limit)
      (subst (λ a. AreOfOneKind a old.limit) (sym asked) first.one_kind)

  -- the next hit was given
  pub some_first : (hit : Hit) → Gave asks stands old new from to (Some hit)
      → Some hit ≡ next_hit (seen asks stands old)
      → (reaches_by_rows (seen asks stands old) ≡ true → BegunWithin stands old.last old.sources
      → BegunWithin stands new.last new.sources) → GivesFirst asks stands new
  some_first hit gave is near =
      let answer = whole_answer asks old in
      let same = same_answer asks old new gave.asked gave.limit in
      let next : first_of (drop old.given answer) ≡ Some hit = sym (is ∙ next_seen asks stands old) in
      record {
        given = omega (arith, gave.given, next_within old.given answer hit next, ap length same);
        last = gave.last ∙ sym (last_next old.given answer hit next)
            ∙ ap (λ n. last_distance (take n answer)) (sym gave.given)
            ∙ ap (λ hits. last_distance (take new.given hits)) (sym same);
        one_length = subst AreOneLength (sym gave.asked) first.one_length;
        one_kind = kind_on gave.asked gave.limit;
        begun = begun_on first.one_kind gave.asked near;
      }

  -- nothing was given
  pub none_first : map asks new.sources ≡ map asks old.sources → new.limit ≡ old.limit → new.given ≡ old.given
      → new.last ≡ old.last
      → (reaches_by_rows (seen asks stands old) ≡ true → BegunWithin stands old.last old.sources
      → BegunWithin stands new.last new.sources) → GivesFirst asks stands new
  none_first asked limit given last near =
      let answer = whole_answer asks old in
      let same = same_answer asks old new asked limit in
      record {
        given = omega (arith, given, first.given, ap length same);
        last = last ∙ first.last ∙ ap (λ n. last_distance (take n answer)) (sym given)
            ∙ ap (λ hits. last_distance (take new.given hits)) (sym same);
        one_length = subst AreOneLength (sym asked) first.one_length;
        one_kind = kind_on asked limit;
        begun = begun_on first.one_kind asked near;
      }

  -- whether there are more was asked
  pub waited_first : Waited asks stands old new from to → (reaches_by_rows (seen asks stands old) ≡ true → new ≡ old)
      → GivesFirst asks stands new
  waited_first waited near = none_first waited.asked waited.limit waited.given waited.last
      (λ reaches begun. subst (λ (g : Gathered S). BegunWithin stands g.last g.sources) (sym (near reaches)) begun)
