-- What becomes of the steps of one query of a workload.
use Rattle.std.proofs.Common.{◌≡◌, ℕ, zero, suc, ◌+◌, ◌-◌, ◌<◌, ◌≤◌, min, nat_le, nat_lt, Bool, true, false, cond, not, ◌&&◌, if◌then◌else◌, List, [], ◌∷◌, ◌++◌, length, take, drop, replicate, slice_index, Some, None, refl, sym, ap, ◌∙◌, subst, arith, inl, inr, sum_by, ◌⊎◌}
use Rattle.std.proofs.lemmas.List.{length-take, length-drop, take_all}
use Rattle.std.proofs.lemmas.List.Sums.{sum_by-append, sum_by-cons}
use Rattle.std.specs.Str.{bytes_eq}
use Rattle.hamming_model.specs.History.{JournalEntry, rows_of, shard_rows}
use Rattle.hamming_model.specs.Scan.{Ask, answer}
use Rattle.hamming_model.specs.declared.hit.Hit.{Hit}
use Rattle.threshold_model.specs.Bounds.{IsBoundOf, last_distance}
use Rattle.part_layout.specs.Contiguous.{contiguous}
use Rattle.part_layout.specs.declared.config.Config.{Config}
use Rattle.query_protocol.specs.Replies.{LineReply}
use Rattle.query_protocol.specs.Replies as reply
use Rattle.session_model.specs.State.{State, Query, has_tag, query_of, replaced, open_queries}
use Rattle.session_model.specs.Entries.{Exchange, Refuses}
use Rattle.session_model.specs.Ledger.{answer_to, last_given, sum_of, layout_at, IsBound}
use Rattle.session_model.specs.Openings.{most_open, new_query, OpensQuery, OpensUnlessMany, OpensUnlessUsed}
use Rattle.session_model.specs.QuerySteps.{hit_replies, next_replies, given_more, Gives, Costs, Cancels, closed_query, IfOpen, end_reply}
use Rattle.load_sums.specs.Sums.{hits_of, told_bound, reads_of, lacks_of}
use Rattle.load_model.specs.Told.{IsBoundDrawn}
use Rattle.load_model.specs.Asked.{tag_drawn}
use Rattle.load_model.proofs.WalkLemmas.{Tells, tells_first, tells_one, one_told}
use Rattle.load_model.proofs.AddLemmas.{AreClosed, starting_layouts, Stands}

-- ---- queries, all closed but the last

closed_has : (tag : List ℕ) (query : Query) → query.closed ≡ true → has_tag tag query ≡ false
closed_has tag query is = ap (λ (closed : Bool). not closed && bytes_eq query.tag tag) is

none_found : (tag : List ℕ) (queries : List Query) → AreClosed queries → query_of tag queries ≡ None
none_found tag [] closed = refl
none_found tag (query ∷ queries) closed =
    ap (λ (b : Bool). cond b (Some query) (query_of tag queries)) (closed_has tag query closed.0) ∙ none_found tag queries closed.1

none_open : (queries : List Query) → AreClosed queries → open_queries queries ≡ []
none_open [] closed = refl
none_open (query ∷ queries) closed =
    ap (λ (b : Bool). cond (not b) (query ∷ open_queries queries) (open_queries queries)) closed.0 ∙ none_open queries closed.1

last_found : (tag : List ℕ) (front : List Query) (query : Query) → AreClosed front → has_tag tag query ≡ true
    → query_of tag (front ++ query ∷ []) ≡ Some query
last_found tag [] query closed has = ap (λ (b : Bool). cond b (Some query) None) has
last_found tag (first ∷ front) query closed has =
    ap (λ (b : Bool). cond b (Some first) (query_of tag (front ++ query ∷ []))) (closed_has tag first closed.0)
    ∙ last_found tag front query closed.1 has

last_replaced : (tag : List ℕ) (front : List Query) (query this : Query) → AreClosed front → has_tag tag query ≡ true
    → replaced tag this (front ++ query ∷ []) ≡ front ++ this ∷ []
last_replaced tag [] query this closed has = ap (λ (b : Bool). cond b (this ∷ []) (query ∷ [])) has
last_replaced tag (first ∷ front) query this closed has =
    ap (λ (b : Bool). cond b (this ∷ (front ++ query ∷ [])) (first ∷ replaced tag this (front ++ query ∷ []))) (closed_has tag first closed.0)
    ∙ ap (λ (more : List Query). first ∷ more) (last_replaced tag front query this closed.1 has)

closed_more : (front : List Query) (query : Query) → AreClosed front → query.closed ≡ true → AreClosed (front ++ query ∷ [])
closed_more [] query closed is = (is, tt)
closed_more (first ∷ front) query closed is = (closed.0, closed_more front query closed.1 is)

-- ---- what replies tell

hits_told : (tag : List ℕ) (hits : List Hit) → sum_by hits_of (hit_replies tag hits) ≡ length hits
hits_told tag [] = refl
hits_told tag (hit ∷ hits) =
    let one = sum_by-cons hits_of (reply.Hit tag hit.dist hit.key) (hit_replies tag hits) in omega (arith, one, hits_told tag hits)

none_told : (amount : LineReply → ℕ) (tag : List ℕ) (hits : List Hit) → ((dist key : ℕ) → amount (reply.Hit tag dist key) ≡ 0)
    → sum_by amount (hit_replies tag hits) ≡ 0
none_told amount tag [] none = refl
none_told amount tag (hit ∷ hits) none =
    let one = sum_by-cons amount (reply.Hit tag hit.dist hit.key) (hit_replies tag hits) in
    omega (arith, one, none hit.dist hit.key, none_told amount tag hits none)

-- the last reply to `next` tells no number
end_told : (amount : LineReply → ℕ) (tag : List ℕ) (count : ℕ) (more : Bool) → amount (reply.More tag) ≡ 0
    → amount (reply.Done tag count) ≡ 0
    → sum_by amount ((if more then reply.More tag else reply.Done tag count) ∷ []) ≡ 0
end_told amount tag count true no_more no_done = one_told amount (reply.More tag ∷ []) (reply.More tag) refl ∙ no_more
end_told amount tag count false no_more no_done = one_told amount (reply.Done tag count ∷ []) (reply.Done tag count) refl ∙ no_done

next_told : (amount : LineReply → ℕ) (tag : List ℕ) (count given : ℕ) (hits : List Hit) → amount (reply.More tag) ≡ 0
    → amount (reply.Done tag (length hits)) ≡ 0
    → sum_by amount (next_replies tag count given hits) ≡ sum_by amount (hit_replies tag (take count (drop given hits)))
next_told amount tag count given hits no_more no_done =
    let front = hit_replies tag (take count (drop given hits)) in
    let more : Bool = nat_lt (given + count) (length hits) in
    let last : List LineReply = (if more then reply.More tag else reply.Done tag (length hits)) ∷ [] in
    let both = sum_by-append amount front last in
    omega (arith, both, end_told amount tag (length hits) more no_more no_done)

-- how many hits are given
given_now : (given count all : ℕ) → given ≤ all → min count (all - given) ≡ min (given + count) all - given
given_now given count all few = omega (arith, few)

told_given : (count given : ℕ) (hits : List Hit) → given ≤ length hits
    → sum_by hits_of (next_replies tag_drawn count given hits) ≡ min (given + count) (length hits) - given
told_given count given hits few =
    next_told hits_of tag_drawn count given hits refl refl ∙ hits_told tag_drawn (take count (drop given hits))
    ∙ length-take count (drop given hits) ∙ ap (min count) (length-drop given hits) ∙ given_now given count (length hits) few

told_nothing : (amount : LineReply → ℕ) (count given : ℕ) (hits : List Hit) → amount (reply.More tag_drawn) ≡ 0
    → ((number : ℕ) → amount (reply.Done tag_drawn number) ≡ 0) → ((dist key : ℕ) → amount (reply.Hit tag_drawn dist key) ≡ 0)
    → sum_by amount (next_replies tag_drawn count given hits) ≡ 0
told_nothing amount count given hits no_more no_done no_hit =
    next_told amount tag_drawn count given hits no_more (no_done (length hits)) ∙ none_told amount tag_drawn (take count (drop given hits)) no_hit

-- an exchange that is told more hits
pub tells_next : (exchanges rest : List Exchange) (e : Exchange) (count given : ℕ) (hits : List Hit) → exchanges ≡ e ∷ rest
    → e.replies ≡ next_replies tag_drawn count given hits → given ≤ length hits
    → Tells exchanges rest (min (given + count) (length hits) - given) 0 0
tells_next exchanges rest e count given hits all said few =
    subst (λ them. Tells them rest (min (given + count) (length hits) - given) 0 0) (sym all)
    (tells_first e rest (min (given + count) (length hits) - given) 0 0
    (ap (λ (replies : List LineReply). sum_by hits_of replies) said ∙ told_given count given hits few)
    (ap (λ (replies : List LineReply). sum_by told_bound replies) said ∙ told_nothing told_bound count given hits refl (λ number. refl) (λ dist key. refl))
    (ap (λ (replies : List LineReply). sum_by reads_of replies) said ∙ told_nothing reads_of count given hits refl (λ number. refl) (λ dist key. refl)))

-- an exchange that is told the end of a query
pub tells_end : (exchanges rest : List Exchange) (e : Exchange) (done : Bool) (count : ℕ) → exchanges ≡ e ∷ rest
    → e.replies ≡ end_reply done tag_drawn count ∷ [] → Tells exchanges rest 0 0 0
tells_end exchanges rest e true count all said = tells_one exchanges rest e (reply.Closed tag_drawn count) all said
tells_end exchanges rest e false count all said = tells_one exchanges rest e (reply.Cancelled tag_drawn count) all said

module _ (config : Config) (history : List JournalEntry) (number : ℕ) (rows : List (ℕ × List ℕ)) (asked : Ask) where
  -- so many entries stand, which leave these rows, and the last query alone is open, asks this of them and has given so many hits
  pub record IsAsking (given : ℕ) (s : State) : Type 0 where
    pub position : s.position ≡ number
    pub rows_are : rows_of (take number history) ≡ rows
    pub size : length (take number history) ≡ number
    pub layouts : s.layouts ≡ starting_layouts config
    pub front : List Query
    pub query : Query
    pub queries_are : s.queries ≡ front ++ query ∷ []
    pub closed : AreClosed front
    pub has : has_tag tag_drawn query ≡ true
    pub at : query.position ≡ number
    pub ask_is : query.ask ≡ asked
    pub pinned : query.pinned ≡ starting_layouts config
    pub given_is : query.given ≡ given

  -- its whole answer
  pub answer_is : (given : ℕ) (s : State) (is : IsAsking given s) → answer_to config history is.query ≡ answer config.bits rows asked
  answer_is given s is =
      ap (λ n. answer config.bits (rows_of (take n history)) is.query.ask) is.at
      ∙ ap (λ all. answer config.bits all is.query.ask) is.rows_are ∙ ap (λ one. answer config.bits rows one) is.ask_is

  found_is : (given : ℕ) (s : State) (is : IsAsking given s) → query_of tag_drawn s.queries ≡ Some is.query
  found_is given s is = ap (query_of tag_drawn) is.queries_are ∙ last_found tag_drawn is.front is.query is.closed is.has

  -- the states that a replaced query leaves
  replaced_is : (given : ℕ) (s : State) (is : IsAsking given s) (this : Query) → replaced tag_drawn this s.queries ≡ is.front ++ this ∷ []
  replaced_is given s is this =
      ap (replaced tag_drawn this) is.queries_are ∙ last_replaced tag_drawn is.front is.query this is.closed is.has

  -- ---- opening

  pub record IsOpened (e : Exchange) (t : State) : Type 0 where
    pub asking : IsAsking 0 t
    pub said : e.replies ≡ reply.Open tag_drawn e.position ∷ []

  opened_by : (s : State) (e : Exchange) (t : State) → Stands config history number rows s → e.layouts ≡ s.layouts
      → (e.replies ≡ reply.Open tag_drawn e.position ∷ [] → e.position ≡ s.position) → sum_by lacks_of e.replies ≡ 0
      → Refuses s e t ⊎ OpensQuery history tag_drawn asked s e t → IsOpened e t
  opened_by s e t stands layouts moved none (inl refuses) =
      let one = one_told lacks_of e.replies reply.NoMemory refuses.said_is in absurd (omega (arith, one, none))
  opened_by s e t stands layouts moved none (inr opens) =
      let at : e.position ≡ number = moved opens.said_is ∙ stands.position in record {
        asking = subst (λ (u : State). IsAsking 0 u) (sym opens.opened) (record {
          position = at;
          rows_are = stands.rows_are;
          size = stands.size;
          layouts = stands.layouts;
          front = s.queries;
          query = new_query tag_drawn asked e;
          queries_are = refl;
          closed = stands.closed;
          has = refl;
          at = at;
          ask_is = refl;
          pinned = layouts ∙ stands.layouts;
          given_is = refl;
        });
        said = opens.said_is;
      }

  pub opens : (s : State) (e : Exchange) (t : State) → Stands config history number rows s → e.layouts ≡ s.layouts
      → (e.replies ≡ reply.Open tag_drawn e.position ∷ [] → e.position ≡ s.position) → sum_by lacks_of e.replies ≡ 0
      → OpensUnlessUsed (query_of tag_drawn s.queries) history tag_drawn asked s e t → IsOpened e t
  opens s e t stands layouts moved none answers =
      let unused : OpensUnlessMany (nat_le most_open (length (open_queries s.queries))) history tag_drawn asked s e t =
      subst (λ used. OpensUnlessUsed used history tag_drawn asked s e t) (none_found tag_drawn s.queries stands.closed) answers in
      let few : OpensUnlessMany (nat_le most_open 0) history tag_drawn asked s e t =
      subst (λ (queries : List Query). OpensUnlessMany (nat_le most_open (length queries)) history tag_drawn asked s e t)
      (none_open s.queries stands.closed) unused in
      opened_by s e t stands layouts moved none few

  -- ---- asking for more hits

  -- hits that are given, and more of them
  pub record IsGiven (given : ℕ) (e : Exchange) (t : State) : Type 0 where
    pub asking : IsAsking (min (given + 65536) (length (answer config.bits rows asked))) t
    pub said : e.replies ≡ next_replies tag_drawn 65536 given (answer config.bits rows asked)

  pub gives : (given : ℕ) (s : State) (e : Exchange) (t : State) → IsAsking given s
      → IfOpen (query_of tag_drawn s.queries) (Gives config history tag_drawn 65536) s e t → IsGiven given e t
  gives given s e t is answers =
      let all = answer config.bits rows asked in
      let h : Gives config history tag_drawn 65536 is.query s e t =
      subst (λ found. IfOpen found (Gives config history tag_drawn 65536) s e t) (found_is given s is) answers in
      let hits : h.hits ≡ all = h.hits_are ∙ answer_is given s is in
      let this : Query = given_more is.query 65536 h.hits h.reads in record {
        asking = subst (λ (u : State). IsAsking (min (given + 65536) (length all)) u) (sym h.given) (record {
          position = is.position;
          rows_are = is.rows_are;
          size = is.size;
          layouts = is.layouts;
          front = is.front;
          query = this;
          queries_are = replaced_is given s is this;
          closed = is.closed;
          has = is.has;
          at = is.at;
          ask_is = is.ask_is;
          pinned = is.pinned;
          given_is = ap (λ n. min (n + 65536) (length h.hits)) is.given_is ∙ ap (λ found. min (given + 65536) (length found)) hits;
        });
        said = h.said_is ∙ ap (λ n. next_replies tag_drawn 65536 n h.hits) is.given_is ∙ ap (next_replies tag_drawn 65536 given) hits;
      }

  -- ---- what it cost

  pub record IsCost (e : Exchange) : Type 0 where
    pub bound : ℕ
    pub reads : ℕ
    pub said : e.replies ≡ reply.Cost tag_drawn reads bound ∷ []
    pub is_bound : IsBoundDrawn config rows asked bound
    pub no_fewer : length (answer config.bits rows asked) ≤ reads
    pub within : reads ≤ bound

  -- the layout of a shard at the start
  layout_is : (shards shard : ℕ) → shard < shards
      → layout_at (replicate shards (contiguous config.bits config.parts)) shard ≡ contiguous config.bits config.parts
  layout_is zero shard within = absurd (omega (arith, within))
  layout_is (suc shards) zero within = refl
  layout_is (suc shards) (suc shard) within = layout_is shards shard (omega (arith, within))

  bound_drawn : (s : State) (is : IsAsking (length (answer config.bits rows asked)) s) (bound : ℕ)
      → IsBound config history is.query (last_given config history is.query) bound → IsBoundDrawn config rows asked bound
  bound_drawn s is bound h =
      let all = answer config.bits rows asked in
      let last : last_given config history is.query ≡ last_distance all =
      ap (λ found. last_distance (take is.query.given found)) (answer_is (length all) s is)
      ∙ ap last_distance (take_all is.query.given all (omega (arith, is.given_is))) in record {
        bounds = h.bounds;
        number = h.number;
        each = λ shard within.
            let bound_at : ℕ = slice_index h.bounds shard in
            let pinned = layout_at is.query.pinned shard in
            let before = last_given config history is.query in
            subst (λ layout. IsBoundOf asked (shard_rows shard config.shards rows) layout (last_distance all) bound_at)
            (ap (λ layouts. layout_at layouts shard) is.pinned ∙ layout_is config.shards shard within)
            (subst (λ last. IsBoundOf asked (shard_rows shard config.shards rows) pinned last bound_at) last
            (subst (λ these. IsBoundOf asked (shard_rows shard config.shards these) pinned before bound_at)
            (ap (λ n. rows_of (take n history)) is.at ∙ is.rows_are)
            (subst (λ one. IsBoundOf one (shard_rows shard config.shards (rows_of (take is.query.position history))) pinned before bound_at)
            is.ask_is (h.each shard within))));
        all = h.all;
      }

  pub costs : (s : State) (e : Exchange) (t : State) → IsAsking (length (answer config.bits rows asked)) s
      → IfOpen (query_of tag_drawn s.queries) (Costs config history tag_drawn) s e t
      → IsCost e × IsAsking (length (answer config.bits rows asked)) t
  costs s e t is answers =
      let all = answer config.bits rows asked in
      let h : Costs config history tag_drawn is.query s e t =
      subst (λ found. IfOpen found (Costs config history tag_drawn) s e t) (found_is (length all) s is) answers in (
        record {
          bound = h.bound;
          reads = sum_of is.query.reads;
          said = h.said_is;
          is_bound = bound_drawn s is h.bound h.is_bound;
          no_fewer = omega (arith, h.given, is.given_is);
          within = h.within;
        },
        subst (λ (u : State). IsAsking (length all) u) (sym h.same) is,
      )

  -- ---- its end

  pub record IsEnded (e : Exchange) (t : State) : Type 0 where
    pub stands : Stands config history number rows t
    pub done : Bool
    pub count : ℕ
    pub said : e.replies ≡ end_reply done tag_drawn count ∷ []

  pub cancels : (given : ℕ) (s : State) (e : Exchange) (t : State) → IsAsking given s
      → IfOpen (query_of tag_drawn s.queries) (Cancels tag_drawn) s e t → IsEnded e t
  cancels given s e t is answers =
      let h : Cancels tag_drawn is.query s e t =
      subst (λ found. IfOpen found (Cancels tag_drawn) s e t) (found_is given s is) answers in
      let queries = replaced_is given s is (closed_query is.query) in record {
        stands = subst (λ (u : State). Stands config history number rows u) (sym h.closed) (record {
          position = is.position;
          rows_are = is.rows_are;
          size = is.size;
          closed = subst AreClosed (sym queries) (closed_more is.front (closed_query is.query) is.closed refl);
          layouts = is.layouts;
        });
        done = is.query.done;
        count = is.query.given;
        said = h.said_is;
      }
