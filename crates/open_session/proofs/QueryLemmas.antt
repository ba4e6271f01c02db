-- Lemmas on the queries of a state: those that are open, the one of a tag, and after one is opened,
-- changed or closed.
use Rattle.std.proofs.Common.{◌≡◌, ℕ, ◌+◌, ◌≤◌, ◌<◌, Bool, true, false, cond, not, ◌&&◌, Some, None}
use Rattle.std.proofs.Common.{List, [], ◌∷◌, ◌++◌, length, take, drop, map, slice_index, slice_index_or}
use Rattle.std.proofs.Common.{refl, sym, ap, ◌∙◌, subst, arith, length-append}
use Rattle.std.specs.List.{AllByRecursion}
use Rattle.std.specs.Str.{bytes_eq}
use Rattle.std.proofs.lemmas.Slice.Eq.{bytes_eq-Decides}
use Rattle.std.proofs.lemmas.List.{take-append-le, length-map, take-append-drop, drop_more}
use Rattle.std.proofs.Math.ListN.{get_or-map}
use Rattle.std.proofs.lemmas.List.Elements.{filter-append}
use Rattle.hamming_model.specs.History.{JournalEntry, rows_of, shard_rows}
use Rattle.part_layout.specs.declared.config.Config.{Config}
use Rattle.session_model.specs.State.{Query, is_open, has_tag, query_of, replaced, open_queries}
use Rattle.session_model.specs.Told.{pinned_by}
use Rattle.session_model.specs.Ledger.{column, readings_of, layout_at, rows_at}
use Rattle.hit_source.specs.Sources.{Standing}
use Rattle.open_queries.specs.Queries.{IsFree, IsUsed, IsSame, Changes, Removes}
use Rattle.open_session.specs.Questions.{limit_in}
use Rattle.open_session.specs.Cursors.{ShardSource, Cursor, asks, stands}
use Rattle.open_session.specs.Meaning.{AsksOn, Keeps, AllKeep}

-- a list, parted at a place
parted_at : {S : Type 0} (xs : List S) (place : ℕ) (other : S) → place < length xs
    → xs ≡ take place xs ++ slice_index_or xs place other ∷ drop (place + 1) xs
parted_at xs place other within = sym (take-append-drop place xs)
    ∙ ap (λ l. take place xs ++ l) (drop_more xs place other within)

-- ---- the open queries of all

closed_hides : (tag : List ℕ) (query : Query) → query.closed ≡ true → has_tag tag query ≡ false
closed_hides tag query is = ap (λ b. not b && bytes_eq query.tag tag) is

pub open_has_tag : (tag : List ℕ) (query : Query) → query.closed ≡ false
    → has_tag tag query ≡ bytes_eq query.tag tag
open_has_tag tag query is = ap (λ b. not b && bytes_eq query.tag tag) is

without_closed : (query : Query) (queries : List Query) → query.closed ≡ true
    → open_queries (query ∷ queries) ≡ open_queries queries
without_closed query queries is =
    ap (λ b. cond (not b) (query ∷ open_queries queries) (open_queries queries)) is

with_open : (query : Query) (queries : List Query) → query.closed ≡ false
    → open_queries (query ∷ queries) ≡ query ∷ open_queries queries
with_open query queries is =
    ap (λ b. cond (not b) (query ∷ open_queries queries) (open_queries queries)) is

of_open_by : (tag : List ℕ) (query : Query) (queries : List Query) (closed : Bool)
    → query.closed ≡ closed → query_of tag queries ≡ query_of tag (open_queries queries)
    → query_of tag (query ∷ queries) ≡ query_of tag (open_queries (query ∷ queries))
of_open_by tag query queries true is rest =
    ap (λ b. cond b (Some query) (query_of tag queries)) (closed_hides tag query is) ∙ rest
    ∙ ap (query_of tag) (sym (without_closed query queries is))
of_open_by tag query queries false is rest =
    ap (λ o. cond (has_tag tag query) (Some query) o) rest
    ∙ ap (query_of tag) (sym (with_open query queries is))

-- the query of a tag is an open one
pub of_open : (tag : List ℕ) (queries : List Query)
    → query_of tag queries ≡ query_of tag (open_queries queries)
of_open tag [] = refl
of_open tag (query ∷ queries) =
    of_open_by tag query queries query.closed refl (of_open tag queries)

replaced_open_by : (tag : List ℕ) (this query : Query) (queries : List Query) (closed here : Bool)
    → this.closed ≡ false → query.closed ≡ closed → has_tag tag query ≡ here
    → open_queries (replaced tag this queries) ≡ replaced tag this (open_queries queries)
    → open_queries (replaced tag this (query ∷ queries))
    ≡ replaced tag this (open_queries (query ∷ queries))
replaced_open_by tag this query queries true here opened is tagged rest =
    ap (λ b. open_queries (cond b (this ∷ queries) (query ∷ replaced tag this queries)))
    (closed_hides tag query is)
    ∙ without_closed query (replaced tag this queries) is ∙ rest
    ∙ ap (replaced tag this) (sym (without_closed query queries is))
replaced_open_by tag this query queries false true opened is tagged rest =
    ap (λ b. open_queries (cond b (this ∷ queries) (query ∷ replaced tag this queries))) tagged
    ∙ with_open this queries opened
    ∙ ap (λ b. cond b (this ∷ open_queries queries) (query ∷ replaced tag this (open_queries queries)))
    (sym tagged)
    ∙ ap (replaced tag this) (sym (with_open query queries is))
replaced_open_by tag this query queries false false opened is tagged rest =
    ap (λ b. open_queries (cond b (this ∷ queries) (query ∷ replaced tag this queries))) tagged
    ∙ with_open query (replaced tag this queries) is ∙ ap (λ l. query ∷ l) rest
    ∙ ap (λ b. cond b (this ∷ open_queries queries) (query ∷ replaced tag this (open_queries queries)))
    (sym tagged)
    ∙ ap (replaced tag this) (sym (with_open query queries is))

-- an open query in the place of another
pub replaced_open : (tag : List ℕ) (this : Query) (queries : List Query) → this.closed ≡ false
    → open_queries (replaced tag this queries) ≡ replaced tag this (open_queries queries)
replaced_open tag this [] opened = refl
replaced_open tag this (query ∷ queries) opened =
    replaced_open_by tag this query queries query.closed (has_tag tag query) opened refl refl
    (replaced_open tag this queries opened)

-- an open query behind the others
pub more_open : (queries : List Query) (query : Query) → query.closed ≡ false
    → open_queries (queries ++ query ∷ []) ≡ open_queries queries ++ query ∷ []
more_open queries query is =
    filter-append is_open queries (query ∷ [])
    ∙ ap (λ l. open_queries queries ++ l) (with_open query [] is)

-- the queries without the open one of a tag
abbrev pub without : List ℕ → List Query → List Query
without tag [] = []
without tag (query ∷ queries) =
    cond (has_tag tag query) queries (query ∷ without tag queries)

closed_by : (tag : List ℕ) (this query : Query) (queries : List Query) (closed here : Bool)
    → this.closed ≡ true → query.closed ≡ closed → has_tag tag query ≡ here
    → open_queries (replaced tag this queries) ≡ without tag (open_queries queries)
    → open_queries (replaced tag this (query ∷ queries))
    ≡ without tag (open_queries (query ∷ queries))
closed_by tag this query queries true here shut is tagged rest =
    ap (λ b. open_queries (cond b (this ∷ queries) (query ∷ replaced tag this queries)))
    (closed_hides tag query is)
    ∙ without_closed query (replaced tag this queries) is ∙ rest
    ∙ ap (without tag) (sym (without_closed query queries is))
closed_by tag this query queries false true shut is tagged rest =
    ap (λ b. open_queries (cond b (this ∷ queries) (query ∷ replaced tag this queries))) tagged
    ∙ without_closed this queries shut
    ∙ ap (λ b. cond b (open_queries queries) (query ∷ without tag (open_queries queries))) (sym tagged)
    ∙ ap (without tag) (sym (with_open query queries is))
closed_by tag this query queries false false shut is tagged rest =
    ap (λ b. open_queries (cond b (this ∷ queries) (query ∷ replaced tag this queries))) tagged
    ∙ with_open query (replaced tag this queries) is ∙ ap (λ l. query ∷ l) rest
    ∙ ap (λ b. cond b (open_queries queries) (query ∷ without tag (open_queries queries))) (sym tagged)
    ∙ ap (without tag) (sym (with_open query queries is))

-- a closed query in the place of an open one
pub replaced_closed : (tag : List ℕ) (this : Query) (queries : List Query) → this.closed ≡ true
    → open_queries (replaced tag this queries) ≡ without tag (open_queries queries)
replaced_closed tag this [] shut = refl
replaced_closed tag this (query ∷ queries) shut =
    closed_by tag this query queries query.closed (has_tag tag query) shut refl refl
    (replaced_closed tag this queries shut)

-- ---- what all queries have read

read_replaced_by : (ledger : ℕ) (tag : List ℕ) (query this first : Query) (queries : List Query) (here : Bool)
    → cond here (Some first) (query_of tag queries) ≡ Some query
    → (query_of tag queries ≡ Some query
    → column ledger (readings_of (replaced tag this queries)) + slice_index query.reads ledger
    ≡ column ledger (readings_of queries) + slice_index this.reads ledger)
    → column ledger (readings_of (cond here (this ∷ queries) (first ∷ replaced tag this queries)))
    + slice_index query.reads ledger
    ≡ column ledger (readings_of (first ∷ queries)) + slice_index this.reads ledger
read_replaced_by ledger tag query this first queries true is rest =
    let same : first ≡ query = cc in
    omega (arith, ap (λ (q : Query). slice_index q.reads ledger) same)
read_replaced_by ledger tag query this first queries false is rest = omega (arith, rest is)

pub read_replaced : (ledger : ℕ) (tag : List ℕ) (query this : Query) (queries : List Query)
    → query_of tag queries ≡ Some query
    → column ledger (readings_of (replaced tag this queries)) + slice_index query.reads ledger
    ≡ column ledger (readings_of queries) + slice_index this.reads ledger
read_replaced ledger tag query this [] is = let never : None ≡ Some query = is in cc
read_replaced ledger tag query this (first ∷ queries) is =
    read_replaced_by ledger tag query this first queries (has_tag tag first) is
    (read_replaced ledger tag query this queries)

pub read_more : (ledger : ℕ) (queries : List Query) (query : Query)
    → column ledger (readings_of (queries ++ query ∷ []))
    ≡ column ledger (readings_of queries) + slice_index query.reads ledger
read_more ledger [] query = omega arith
read_more ledger (first ∷ queries) query = omega (arith, read_more ledger queries query)

-- ---- what all queries pinned

pinned_replaced_by : (tag : List ℕ) (query this first : Query) (queries : List Query) (here : Bool)
    → cond here (Some first) (query_of tag queries) ≡ Some query → this.pinned ≡ query.pinned
    → (query_of tag queries ≡ Some query → pinned_by (replaced tag this queries) ≡ pinned_by queries)
    → pinned_by (cond here (this ∷ queries) (first ∷ replaced tag this queries)) ≡ pinned_by (first ∷ queries)
pinned_replaced_by tag query this first queries true is same rest =
    let found : first ≡ query = cc in
    ap (λ l. l ∷ pinned_by queries) (same ∙ ap (λ (q : Query). q.pinned) (sym found))
pinned_replaced_by tag query this first queries false is same rest = ap (λ l. first.pinned ∷ l) (rest is)

pub pinned_replaced : (tag : List ℕ) (query this : Query) (queries : List Query)
    → query_of tag queries ≡ Some query → this.pinned ≡ query.pinned
    → pinned_by (replaced tag this queries) ≡ pinned_by queries
pinned_replaced tag query this [] is same = let never : None ≡ Some query = is in cc
pinned_replaced tag query this (first ∷ queries) is same =
    pinned_replaced_by tag query this first queries (has_tag tag first) is same
    (λ found. pinned_replaced tag query this queries found same)

pub pinned_more : (queries : List Query) (query : Query)
    → pinned_by (queries ++ query ∷ []) ≡ pinned_by queries ++ query.pinned ∷ []
pinned_more [] query = refl
pinned_more (first ∷ queries) query = ap (λ l. first.pinned ∷ l) (pinned_more queries query)

-- ---- what holds of all queries

all_replaced_by : (P : Query → Type 0) (this query : Query) (queries rest : List Query) (here : Bool)
    → P this → P query → AllByRecursion P queries → AllByRecursion P rest
    → AllByRecursion P (cond here (this ∷ queries) (query ∷ rest))
all_replaced_by P this query queries rest true now first old new = (now, old)
all_replaced_by P this query queries rest false now first old new = (first, new)

pub all_replaced : (P : Query → Type 0) (tag : List ℕ) (this : Query) (queries : List Query)
    → AllByRecursion P queries → P this → AllByRecursion P (replaced tag this queries)
all_replaced P tag this [] all now = tt
all_replaced P tag this (query ∷ queries) all now =
    all_replaced_by P this query queries (replaced tag this queries) (has_tag tag query) now all.0 all.1
    (all_replaced P tag this queries all.1 now)

pub all_more : (P : Query → Type 0) (queries : List Query) (query : Query)
    → AllByRecursion P queries → P query → AllByRecursion P (queries ++ query ∷ [])
all_more P [] query all now = (now, tt)
all_more P (first ∷ queries) query all now = (all.0, all_more P queries query all.1 now)

-- what holds of all holds of the one of a tag
found_holds_by : (P : Query → Type 0) (tag : List ℕ) (first query : Query) (queries : List Query) (here : Bool)
    → cond here (Some first) (query_of tag queries) ≡ Some query → P first
    → (query_of tag queries ≡ Some query → P query) → P query
found_holds_by P tag first query queries true is now rest =
    let same : first ≡ query = cc in
    subst P same now
found_holds_by P tag first query queries false is now rest = rest is

pub found_holds : (P : Query → Type 0) (tag : List ℕ) (queries : List Query) (query : Query)
    → query_of tag queries ≡ Some query → AllByRecursion P queries → P query
found_holds P tag [] query is all = let never : None ≡ Some query = is in cc
found_holds P tag (first ∷ queries) query is all =
    found_holds_by P tag first query queries (has_tag tag first) is all.0
    (λ found. found_holds P tag queries query found all.1)

-- ---- a longer history

pub keeps_later : {W : ℕ} (config : Config) (history later : List JournalEntry) (cursor : Cursor W)
    (query : Query) → Keeps config history cursor query → Keeps config (history ++ later) cursor query
keeps_later {W} config history later cursor query keeps =
    let within : query.position ≤ length history = keeps.within in
    record {
      tag = keeps.tag;
      within = omega (arith, within, length-append history later);
      pinned = keeps.pinned;
      sources = keeps.sources;
      each_asks = λ shard d lt.
          subst (λ h. AsksOn config.bits query.ask (shard_rows shard config.shards (rows_of h)) (layout_at query.pinned shard)
          (asks (slice_index_or cursor.gather.sources shard d)))
          (sym (take-append-le query.position history later within)) (keeps.each_asks shard d lt);
      limit = subst (λ h. cursor.gather.limit ≡ limit_in query.ask (length (rows_of h)))
          (sym (take-append-le query.position history later within)) keeps.limit;
      given = keeps.given;
      done = keeps.done;
      reads = keeps.reads;
      opened = keeps.opened;
    }

pub keep_later : {W : ℕ} (config : Config) (history later : List JournalEntry)
    (cursors : List (Cursor W)) (queries : List Query) → AllKeep config history cursors queries
    → AllKeep config (history ++ later) cursors queries
keep_later config history later [] [] keep = tt
keep_later config history later [] (query ∷ queries) keep = keep
keep_later config history later (cursor ∷ cursors) [] keep = keep
keep_later config history later (cursor ∷ cursors) (query ∷ queries) keep = (
  keeps_later config history later cursor query keep.0,
  keep_later config history later cursors queries keep.1,
)

-- ---- the cursors and the open queries

module _ {W : ℕ} (config : Config) (history : List JournalEntry) where
  pub keep_more : (cursors : List (Cursor W)) (queries : List Query) (cursor : Cursor W)
      (query : Query) → AllKeep config history cursors queries → Keeps config history cursor query
      → AllKeep config history (cursors ++ cursor ∷ []) (queries ++ query ∷ [])
  keep_more [] [] cursor query keep keeps = (keeps, tt)
  keep_more [] (other ∷ queries) cursor query keep keeps = absurd keep
  keep_more (other ∷ cursors) [] cursor query keep keeps = absurd keep
  keep_more (other ∷ cursors) (its ∷ queries) cursor query keep keeps =
      (keep.0, keep_more cursors queries cursor query keep.1 keeps)

  pub same_number : (cursors : List (Cursor W)) (queries : List Query)
      → AllKeep config history cursors queries → length queries ≡ length cursors
  same_number [] [] keep = refl
  same_number [] (query ∷ queries) keep = absurd keep
  same_number (cursor ∷ cursors) [] keep = absurd keep
  same_number (cursor ∷ cursors) (query ∷ queries) keep =
      omega (arith, same_number cursors queries keep.1)

  -- a query has a tag where its cursor has it
  tag_of_cursor : (cursor : Cursor W) (query : Query) (tag : List ℕ)
      → Keeps config history cursor query → has_tag tag query ≡ bytes_eq cursor.tag tag
  tag_of_cursor cursor query tag keeps =
      open_has_tag tag query keeps.opened ∙ ap (λ (t : List ℕ). bytes_eq t tag) (sym keeps.tag)

  pub not_open : (cursors : List (Cursor W)) (queries : List Query) (tag : List ℕ)
      → AllKeep config history cursors queries → IsFree cursors tag → query_of tag queries ≡ None
  not_open [] [] tag keep free = refl
  not_open [] (query ∷ queries) tag keep free = absurd keep
  not_open (cursor ∷ cursors) [] tag keep free = absurd keep
  not_open (cursor ∷ cursors) (query ∷ queries) tag keep free =
      ap (λ b. cond b (Some query) (query_of tag queries))
      (tag_of_cursor cursor query tag keep.0 ∙ free.0)
      ∙ not_open cursors queries tag keep.1 free.1

  -- the query of a tag, whose cursor this is, and what all are once both have changed
  pub record IsFound (front : List (Cursor W)) (before : Cursor W) (back : List (Cursor W))
      (queries : List Query) (tag : List ℕ) : Type 0 where
    pub query : Query
    pub found : query_of tag queries ≡ Some query
    pub keeps : Keeps config history before query
    pub keep : (after : Cursor W) (this : Query) → Keeps config history after this
        → AllKeep config history (front ++ after ∷ back) (replaced tag this queries)
    pub gone : AllKeep config history (front ++ back) (without tag queries)

  found_at : (front : List (Cursor W)) (before : Cursor W) (back : List (Cursor W))
      (queries : List Query) (tag : List ℕ) → AllKeep config history (front ++ before ∷ back) queries
      → IsFree front tag → before.tag ≡ tag → IsFound front before back queries tag
  found_at [] before back [] tag keep free is = absurd keep
  found_at [] before back (query ∷ queries) tag keep free is =
      let here : has_tag tag query ≡ true =
      tag_of_cursor before query tag keep.0 ∙ (bytes_eq-Decides before.tag tag).1 is in
      record {
        query = query;
        found = ap (λ b. cond b (Some query) (query_of tag queries)) here;
        keeps = keep.0;
        keep = λ after this keeps. subst (AllKeep config history (after ∷ back))
            (ap (λ b. cond b (this ∷ queries) (query ∷ replaced tag this queries)) (sym here))
            (keeps, keep.1);
        gone = subst (AllKeep config history back)
            (ap (λ b. cond b queries (query ∷ without tag queries)) (sym here)) keep.1;
      }
  found_at (cursor ∷ front) before back [] tag keep free is = absurd keep
  found_at (cursor ∷ front) before back (query ∷ queries) tag keep free is =
      let other : has_tag tag query ≡ false = tag_of_cursor cursor query tag keep.0 ∙ free.0 in
      let rest = found_at front before back queries tag keep.1 free.1 is in
      record {
        query = rest.query;
        found = ap (λ b. cond b (Some query) (query_of tag queries)) other ∙ rest.found;
        keeps = rest.keeps;
        keep = λ after this keeps. subst (AllKeep config history (cursor ∷ (front ++ after ∷ back)))
            (ap (λ b. cond b (this ∷ queries) (query ∷ replaced tag this queries)) (sym other))
            (keep.0, rest.keep after this keeps);
        gone = subst (AllKeep config history (cursor ∷ (front ++ back)))
            (ap (λ b. cond b queries (query ∷ without tag queries)) (sym other)) (keep.0, rest.gone);
      }

  -- the query of a cursor that was changed
  pub found_changed : (old new : List (Cursor W)) (queries : List Query) (tag : List ℕ)
      (before after : Cursor W) → AllKeep config history old queries
      → (changes : Changes old new tag before after)
      → IsFound changes.front before changes.back queries tag
  found_changed old new queries tag before after keep changes =
      found_at changes.front before changes.back queries tag
      (subst (λ cursors. AllKeep config history cursors queries) changes.old_is keep)
      changes.is_first changes.has_tag

  -- the query of a cursor that was taken out
  pub found_removed : (old new : List (Cursor W)) (queries : List Query) (tag : List ℕ)
      (before : Cursor W) → AllKeep config history old queries
      → (removes : Removes old new tag before)
      → IsFound removes.front before removes.back queries tag
  found_removed old new queries tag before keep removes =
      found_at removes.front before removes.back queries tag
      (subst (λ cursors. AllKeep config history cursors queries) removes.old_is keep)
      removes.is_first removes.has_tag

  -- a tag that a cursor has is a query's
  pub is_found : (cursors : List (Cursor W)) (queries : List Query) (tag : List ℕ)
      → AllKeep config history cursors queries → IsUsed cursors tag
      → (query : Query) × (query_of tag queries ≡ Some query)
  is_found [] queries tag keep used = absurd (omega (arith, used.is_first.within))
  is_found (first ∷ cursors) queries tag keep used =
      let all = first ∷ cursors in
      let place = used.place in
      let at = used.is_first in
      let found = found_at (take place all) (slice_index_or all place first) (drop (place + 1) all)
      queries tag
      (subst (λ l. AllKeep config history l queries) (parted_at all place first at.within) keep)
      at.is_first (at.has_tag first) in
      (found.query, found.found)

-- ---- a query that was only asked about

replaced_by : (tag : List ℕ) (query first : Query) (queries : List Query) (here : Bool)
    → cond here (Some first) (query_of tag queries) ≡ Some query
    → (query_of tag queries ≡ Some query → replaced tag query queries ≡ queries)
    → cond here (query ∷ queries) (first ∷ replaced tag query queries) ≡ first ∷ queries
replaced_by tag query first queries true is rest =
    let same : first ≡ query = cc in
    ap (λ (q : Query). q ∷ queries) (sym same)
replaced_by tag query first queries false is rest = ap (λ l. first ∷ l) (rest is)

pub replaced_same : (tag : List ℕ) (query : Query) (queries : List Query)
    → query_of tag queries ≡ Some query → replaced tag query queries ≡ queries
replaced_same tag query [] is = refl
replaced_same tag query (first ∷ queries) is =
    replaced_by tag query first queries (has_tag tag first) is (replaced_same tag query queries)

-- what is asked of the source of a shard, where all are asked the same
pub same_asks : {W : ℕ} (old new : List (ShardSource W)) → map (asks {W = W}) new ≡ map (asks {W = W}) old
    → (shard : ℕ) (d : ShardSource W)
    → asks (slice_index_or new shard d) ≡ asks (slice_index_or old shard d)
same_asks {W} old new same shard d =
    sym (get_or-map (asks {W = W}) new shard d) ∙ ap (λ l. slice_index_or l shard (asks d)) same
    ∙ get_or-map (asks {W = W}) old shard d

pub same_number_of : {A B : Type 0} (f : A → B) (old new : List A) → map f new ≡ map f old
    → length new ≡ length old
same_number_of f old new same =
    sym (length-map new f) ∙ ap length same ∙ length-map old f

-- the reads by shard, where the sources stand the same
reads_of_standings : {W : ℕ} (sources : List (ShardSource W))
    → map (λ source. (stands {W = W} source).reads) sources
    ≡ map (λ (s : Standing). s.reads) (map (stands {W = W}) sources)
reads_of_standings [] = refl
reads_of_standings (source ∷ sources) = ap (λ l. (stands source).reads ∷ l) (reads_of_standings sources)

pub same_reads : {W : ℕ} (old new : List (ShardSource W)) → map (stands {W = W}) new ≡ map (stands {W = W}) old
    → map (λ source. (stands {W = W} source).reads) new ≡ map (λ source. (stands {W = W} source).reads) old
same_reads old new same =
    reads_of_standings new ∙ ap (map (λ (s : Standing). s.reads)) same ∙ sym (reads_of_standings old)

pub keeps_same : {W : ℕ} (config : Config) (history : List JournalEntry) (before after : Cursor W)
    (query : Query) → Keeps config history before query
    → IsSame (asks {W = W}) (stands {W = W}) before after → Keeps config history after query
keeps_same {W} config history before after query keeps same = record {
  tag = same.tag ∙ keeps.tag;
  within = keeps.within;
  pinned = keeps.pinned;
  sources = same_number_of (asks {W = W}) before.gather.sources after.gather.sources same.asked ∙ keeps.sources;
  each_asks = λ shard d lt.
      subst (AsksOn config.bits query.ask (rows_at config history query shard) (layout_at query.pinned shard))
      (sym (same_asks before.gather.sources after.gather.sources same.asked shard d))
      (keeps.each_asks shard d lt);
  limit = same.limit ∙ keeps.limit;
  given = same.given ∙ keeps.given;
  done = same.done ∙ keeps.done;
  reads = keeps.reads ∙ sym (same_reads before.gather.sources after.gather.sources same.standing);
  opened = keeps.opened;
}
