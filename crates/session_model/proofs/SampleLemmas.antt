-- Lemmas on the samples of a session, as its queries are opened and go on.
use Rattle.std.proofs.Common.{◌≡◌, ℕ, ◌+◌, ◌-◌, ◌≤◌, Bool, true, false, cond, List, [], ◌∷◌, ◌++◌, length, drop}
use Rattle.std.proofs.Common.{Option, Some, refl, sym, ap, ◌∙◌, arith, append-nil}
use Rattle.std.proofs.lemmas.List.{append_assoc, drop-append-le, drop-drop, length-append, length-drop}
use Rattle.std.specs.List.{flat_map}
use Rattle.exchange_model.specs.Rounds.{PlainSample}
use Rattle.exchange_model.specs.declared.limits.TheConstants.{SAMPLES_MOST}
use Rattle.session_model.specs.State.{Query, has_tag, query_of, replaced}
use Rattle.session_model.specs.Searches.{newest_of, sample_of, samples_of}

-- ---- the last of a list

pub last_few : {A : Type 0} (most : ℕ) (list : List A) → length (newest_of most list) ≤ most
last_few most list = omega (arith, length-drop (length list - most) list)

-- the last of a list and a further one are those of its last and that one
pub last_append : {A : Type 0} (most : ℕ) (list more : List A)
    → newest_of most (newest_of most list ++ more) ≡ newest_of most (list ++ more)
last_append most list more =
    let from = length list - most in
    let one : drop from (list ++ more) ≡ newest_of most list ++ more = drop-append-le from list more (omega arith) in
    ap (λ l. drop (length (newest_of most list ++ more) - most) l) (sym one)
    ∙ drop-drop (length (newest_of most list ++ more) - most) from (list ++ more)
    ∙ ap (λ n. drop n (list ++ more)) (omega (
      arith,
      length-append (newest_of most list) more,
      length-append list more,
      length-drop from list,
    ))

-- ---- the samples among all queries

abbrev all_samples : List Query → List PlainSample
all_samples queries = flat_map (λ query. sample_of query.ask) queries

all_append : (queries more : List Query) → all_samples (queries ++ more) ≡ all_samples queries ++ all_samples more
all_append [] more = refl
all_append (query ∷ queries) more =
    ap (λ l. sample_of query.ask ++ l) (all_append queries more)
    ∙ sym (append_assoc (sample_of query.ask) (all_samples queries) (all_samples more))

pub few_samples : (queries : List Query) → length (samples_of queries) ≤ SAMPLES_MOST
few_samples queries = last_few SAMPLES_MOST (all_samples queries)

pub opened_sample : (queries : List Query) (query : Query)
    → samples_of (queries ++ query ∷ []) ≡ newest_of SAMPLES_MOST (samples_of queries ++ sample_of query.ask)
opened_sample queries query =
    ap (newest_of SAMPLES_MOST) (all_append queries (query ∷ []) ∙ ap (λ l. all_samples queries ++ l) (append-nil (sample_of query.ask)))
    ∙ sym (last_append SAMPLES_MOST (all_samples queries) (sample_of query.ask))

-- ---- a query that goes on

all_stay_by : (tag : List ℕ) (query this first : Query) (queries : List Query) (here : Bool)
    → cond here (Some first) (query_of tag queries) ≡ Some query → this.ask ≡ query.ask
    → (query_of tag queries ≡ Some query → all_samples (replaced tag this queries) ≡ all_samples queries)
    → all_samples (cond here (this ∷ queries) (first ∷ replaced tag this queries)) ≡ all_samples (first ∷ queries)
all_stay_by tag query this first queries true is same rest =
    let found : first ≡ query = cc in
    ap (λ asked. sample_of asked ++ all_samples queries) (same ∙ ap (λ (q : Query). q.ask) (sym found))
all_stay_by tag query this first queries false is same rest = ap (λ l. sample_of first.ask ++ l) (rest is)

all_stay : (tag : List ℕ) (queries : List Query) (query this : Query) → query_of tag queries ≡ Some query
    → this.ask ≡ query.ask → all_samples (replaced tag this queries) ≡ all_samples queries
all_stay tag [] query this is same = refl
all_stay tag (first ∷ queries) query this is same =
    all_stay_by tag query this first queries (has_tag tag first) is same
    (λ found. all_stay tag queries query this found same)

pub samples_stay : (tag : List ℕ) (queries : List Query) (query this : Query) → query_of tag queries ≡ Some query
    → this.ask ≡ query.ask → samples_of (replaced tag this queries) ≡ samples_of queries
samples_stay tag queries query this is same = ap (newest_of SAMPLES_MOST) (all_stay tag queries query this is same)
