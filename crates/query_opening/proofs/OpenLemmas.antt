-- The sources on the versions of all shards, and their rows.
use Rattle.std.proofs.Common.{◌≡◌, ◌⊎◌, inl, inr, ℕ, suc, ◌+◌, ◌<◌, ◌≤◌, List, [], ◌∷◌, ◌++◌, length, map, take, get_or, sum, refl, sym, ap, subst, ◌∙◌, arith}
use Rattle.std.specs.Arc.{arc_value}
use Rattle.std.specs.declared.alloc.Global.{Global}
use Rattle.std.specs.declared.sync.Arc.{Arc}
use Rattle.std.specs.List.{AllByRecursion}
use Rattle.std.proofs.lemmas.Bool.{cases_lt}
use Rattle.std.proofs.lemmas.List.{get_or_default, get_or-map, length-append, length-map}
use Rattle.std.proofs.lemmas.List.Sums.{fold_more}
use Rattle.hamming_model.specs.Codes.{StandsFor}
use Rattle.hamming_model.specs.History.{rows_of, shard_rows}
use Rattle.hamming_model.specs.Shards.{AreShardNumbers}
use Rattle.shard_version.specs.Contents.{Contents}
use Rattle.shard_version.specs.Tables.{Tabled}
use Rattle.versioned_shard.specs.Shards.{contents_at}
use Rattle.hit_source.specs.Sources.{Asked, IsFresh, Standing}
use Rattle.shard_query.specs.Opening.{opened_code}
use Rattle.scatter_gather.specs.Kept.{AreOneLength}
use Rattle.session_desk.specs.Desks.{DeskState, seen_history}
use Rattle.query_opening.specs.Opening.{AreSourcesOn, AsksWanted, BeginsWanted, IsSourceOn, MayBeAsked, OpensSources, is_nearest, wanted_radius}
use Rattle.query_opening.specs.declared.wanted.Wanted.{Wanted}
use Rattle.query_opening.specs.declared.wanted.Wanted.TheVariants.{Within, Nearest}
use Rattle.query_opening.specs.Pinning.{PinsAll, contents_of_all}
use Rattle.query_opening.proofs.PinLemmas.{before_last, last_of}

-- ---- sources

-- a query that has begun nothing is fresh
begins_fresh : (wanted : Wanted) (version : Contents) (query : List ℕ) (a : Asked) (s : Standing) → BeginsWanted wanted version query a s → IsFresh s
begins_fresh (Within tau) version query a s is = record { given = is.given; waiting = is.waiting; reads = is.reads; begun = is.begun }
begins_fresh Nearest version query a s is = is.fresh

module _ {S : Type 0} (asks : S → Asked) (stands : S → Standing) (versions : List Contents) (wanted : Wanted) (stored : List ℕ) (room : ℕ) where
  -- one source more
  pub sources_more : (sources : List S) (number : ℕ) (new : S) (own : Contents) → number < length versions
      → AreSourcesOn asks stands versions wanted stored room sources number → own ≡ get_or versions number own
      → IsSourceOn wanted own (opened_code own stored) room (asks new) (stands new)
      → AreSourcesOn asks stands versions wanted stored room (sources ++ new ∷ []) (number + 1)
  sources_more sources number new own low first here is = record {
    number_is = length-append sources (new ∷ []) ∙ omega (arith, first.number_is);
    each = λ i version source below. go i version source below (cases_lt i number);
  }
    where
      go : (i : ℕ) (version : Contents) (source : S) → i < number + 1 → (i < number) ⊎ (number ≤ i)
          → IsSourceOn wanted (get_or versions i version) (opened_code (get_or versions i version) stored) room
          (asks (get_or (sources ++ new ∷ []) i source)) (stands (get_or (sources ++ new ∷ []) i source))
      go i version source below (inl earlier) =
          subst (λ (s : S). IsSourceOn wanted (get_or versions i version) (opened_code (get_or versions i version) stored) room (asks s) (stands s))
          (sym (before_last sources new source i (omega (arith, earlier, first.number_is)))) (first.each i version source earlier)
      go i version source below (inr last) =
          let at : i ≡ number = omega arith in
          let new_is : get_or (sources ++ new ∷ []) i source ≡ new =
          ap (λ (n : ℕ). get_or (sources ++ new ∷ []) n source) (at ∙ sym first.number_is) ∙ last_of sources new source in
          let own_is : get_or versions i version ≡ own =
          ap (λ (n : ℕ). get_or versions n version) at ∙ get_or_default versions number version own low ∙ sym here in
          subst (λ (s : S). IsSourceOn wanted (get_or versions i version) (opened_code (get_or versions i version) stored) room
          (asks s) (stands s)) (sym new_is)
          (subst (λ (v : Contents). IsSourceOn wanted v (opened_code v stored) room (asks new) (stands new)) (sym own_is) is)

  -- no source yet
  pub sources_none : AreSourcesOn asks stands versions wanted stored room [] 0
  sources_none = record { number_is = refl; each = λ i version source low. absurd (omega arith) }

  -- sources of which nothing was read or given are fresh
  pub all_fresh : (sources : List S) (number : ℕ) → AreSourcesOn asks stands versions wanted stored room sources number
      → AllByRecursion (λ source. IsFresh (stands source)) sources
  all_fresh sources number each = go sources (λ i d low. begins_fresh wanted (get_or versions i none)
      (opened_code (get_or versions i none) stored) (asks (get_or sources i d)) (stands (get_or sources i d))
      (each.each i none d (omega (arith, low, each.number_is))).begins)
    where
      none : Contents
      none = record { shard = 0; shards = 0; at = 0; layout = record { bits = 0; parts = [] }; rows = [] }

      go : (list : List S) → ((i : ℕ) (d : S) → i < length list → IsFresh (stands (get_or list i d))) → AllByRecursion (λ source. IsFresh (stands source)) list
      go [] each = tt
      go (source ∷ list) each = (each 0 source (omega arith), go list (λ i d low. each (suc i) d (omega arith)))

-- ---- sources that are gathered

-- what is true at each place
each_place : {S : Type 0} (P : Asked → Type 0) (asks : S → Asked) (sources : List S)
    → ((i : ℕ) (d : S) → i < length sources → P (asks (get_or sources i d))) → AllByRecursion P (map asks sources)
each_place P asks [] each = tt
each_place P asks (source ∷ sources) each = (each 0 source (omega arith), each_place P asks sources (λ i d low. each (suc i) d (omega arith)))

all_far : (asked : List Asked) (bits far : ℕ) → AllByRecursion (λ a. a.farthest ≡ bits) asked → far ≡ bits → AllByRecursion (λ a. a.farthest ≡ far) asked
all_far [] bits far all same = tt
all_far (a ∷ asked) bits far all same = (all.0 ∙ sym same, all_far asked bits far all.1 same)

one_length : (asked : List Asked) (bits : ℕ) → AllByRecursion (λ a. a.farthest ≡ bits) asked → AreOneLength asked
one_length [] bits all = tt
one_length (a ∷ asked) bits all = all_far (a ∷ asked) bits a.farthest all all.0

farthest_is : (wanted : Wanted) (version : Contents) (query : List ℕ) (room : ℕ) (a : Asked) → AsksWanted wanted version query room a
    → a.farthest ≡ version.layout.bits
farthest_is (Within tau) version query room a asks = asks.farthest
farthest_is Nearest version query room a asks = asks.farthest

kind_is : (wanted : Wanted) (version : Contents) (query : List ℕ) (room : ℕ) (a : Asked) → AsksWanted wanted version query room a
    → a.near ≡ is_nearest wanted
kind_is (Within tau) version query room a asks = asks.near
kind_is Nearest version query room a asks = asks.near

-- the contents of versions that were lent by another name
pub sources_of : {S : Type 0} (asks : S → Asked) (stands : S → Standing) (lent versions : List (Arc Tabled Global)) (wanted : Wanted) (stored : List ℕ)
    (room : ℕ) (sources : List S) → lent ≡ versions → AreSourcesOn asks stands (contents_of_all lent) wanted stored room sources (length lent)
    → AreSourcesOn asks stands (contents_of_all versions) wanted stored room sources (length (contents_of_all versions))
sources_of asks stands lent versions wanted stored room sources same are =
    subst (AreSourcesOn asks stands (contents_of_all versions) wanted stored room sources) (sym (length-map versions contents_at))
    (subst (λ (list : List (Arc Tabled Global)). AreSourcesOn asks stands (contents_of_all list) wanted stored room sources (length list)) same are)

-- ---- rows

abbrev pub row_numbers : List Contents → List ℕ
row_numbers versions = map (λ version. length version.rows) versions

-- the rows of one version more
pub rows_more : (versions : List (Arc Tabled Global)) (i : ℕ) (found : Arc Tabled Global) → i < length versions → found ≡ get_or versions i found
    → sum (take (i + 1) (row_numbers (contents_of_all versions))) ≡ sum (take i (row_numbers (contents_of_all versions))) + length (contents_at found).rows
rows_more versions i found low is =
    fold_more (λ (a x : ℕ). a + x) 0 (row_numbers (contents_of_all versions)) i (length (contents_at found).rows)
    (omega (arith, low, length-map versions contents_at, length-map (contents_of_all versions) (λ (version : Contents). length version.rows)))
    ∙ ap (λ (n : ℕ). sum (take i (row_numbers (contents_of_all versions))) + n)
    (get_or-map (λ (version : Contents). length version.rows) (contents_of_all versions) i (contents_at found) (length (contents_at found).rows)
    (omega (arith, low, length-map versions contents_at))
    ∙ ap (λ (version : Contents). length version.rows) (get_or-map contents_at versions i found (contents_at found) low ∙ ap contents_at (sym is)))

pub low_contents : (versions : List (Arc Tabled Global)) (i : ℕ) → i < length versions → i < length (contents_of_all versions)
low_contents versions i low = omega (arith, low, length-map versions contents_at)

-- ---- the whole

module _ (words : ℕ) (old new : DeskState) (items : List (Arc Tabled Global)) (position : ℕ) (pins : PinsAll old new position (contents_of_all items))
    (wanted : Wanted) (stored : List ℕ) where
  -- each version may be asked what the desk may be asked
  each_asked : StandsFor words old.config.bits stored (take old.config.bits stored) → wanted_radius wanted ≤ old.config.bits
      → (i : ℕ) (version : Contents) → i < length items → MayBeAsked words stored wanted (get_or (contents_of_all items) i version)
  each_asked code near i version low =
      let is = pins.each i version (omega (arith, low_contents items i low, pins.number)) in
      let bits : old.config.bits ≡ (get_or (contents_of_all items) i version).layout.bits =
      sym (is.version_is.bits_are ∙ ap (λ config. config.bits) pins.comes.config) in
      record {
        code = subst (λ (n : ℕ). StandsFor words n stored (take n stored)) bits code;
        near = omega (arith, near, bits);
      }

  -- so may each of those that were lent by another name
  pub lent_asked : (lent : List (Arc Tabled Global)) → lent ≡ items → StandsFor words old.config.bits stored (take old.config.bits stored)
      → wanted_radius wanted ≤ old.config.bits
      → (i : ℕ) (version : Contents) → i < length lent → MayBeAsked words stored wanted (get_or (contents_of_all lent) i version)
  lent_asked lent same code near =
      subst (λ (list : List (Arc Tabled Global)). (i : ℕ) (version : Contents) → i < length list
      → MayBeAsked words stored wanted (get_or (contents_of_all list) i version)) (sym same) (each_asked code near)

module _ {S : Type 0} (asks : S → Asked) (stands : S → Standing) (words : ℕ) (old new : DeskState) (versions : List Contents) (position : ℕ)
    (pins : PinsAll old new position versions) (wanted : Wanted) (stored : List ℕ) (room : ℕ) where
  numbers_are : 0 < old.config.shards → AreShardNumbers old.config.shards (rows_of (take position (seen_history new))) (row_numbers versions)
  numbers_are some = record {
    some = some;
    number = length-map versions (λ (version : Contents). length version.rows) ∙ pins.number;
    each = λ shard other low.
        get_or-map (λ (version : Contents). length version.rows) versions shard none other (omega (arith, low, pins.number))
        ∙ ap length ((pins.each shard none low).version_is.rows
        ∙ ap (λ (n : ℕ). shard_rows shard n (rows_of (take position (seen_history new)))) (ap (λ config. config.shards) pins.comes.config));
  }
    where
      none : Contents
      none = record { shard = 0; shards = 0; at = 0; layout = record { bits = 0; parts = [] }; rows = [] }

  pub opens_all : (sources : List S) (rows : ℕ) → 0 < old.config.shards → AreSourcesOn asks stands versions wanted stored room sources (length versions)
      → rows ≡ sum (row_numbers versions)
      → (AreShardNumbers old.config.shards (rows_of (take position (seen_history new))) (row_numbers versions)
      → sum (row_numbers versions) ≡ length (rows_of (take position (seen_history new))))
      → OpensSources asks stands old new position rows wanted (take old.config.bits stored) room sources
  opens_all sources rows some ranges rows_is law = record {
    last = pins.last;
    after = pins.after;
    within = pins.within;
    rows_are = rows_is ∙ law (numbers_are some);
    number = ranges.number_is ∙ pins.number;
    each = λ shard source low. (let is = pins.each shard none low in record {
      version = get_or versions shard none;
      pinned = is;
      source_is = subst (λ (n : ℕ). IsSourceOn wanted (get_or versions shard none) (take n stored) room (asks (get_or sources shard source))
          (stands (get_or sources shard source)))
          (is.version_is.bits_are ∙ ap (λ config. config.bits) pins.comes.config) (ranges.each shard none source (omega (arith, low, pins.number)));
    });
  }
    where
      none : Contents
      none = record { shard = 0; shards = 0; at = 0; layout = record { bits = 0; parts = [] }; rows = [] }

  -- sources on the versions of a desk are on codes of one length, and of one kind
  pub gathers_one_length : (sources : List S) → AreSourcesOn asks stands versions wanted stored room sources (length versions)
      → AreOneLength (map asks sources)
  gathers_one_length sources are = one_length (map asks sources) new.config.bits
      (each_place (λ a. a.farthest ≡ new.config.bits) asks sources (λ i d low. (let below : i < length versions = omega (arith, low, are.number_is) in
      farthest_is wanted (get_or versions i none) (opened_code (get_or versions i none) stored) room (asks (get_or sources i d)) (are.each i none d below).asks
      ∙ (pins.each i none (omega (arith, below, pins.number))).version_is.bits_are)))
    where
      none : Contents
      none = record { shard = 0; shards = 0; at = 0; layout = record { bits = 0; parts = [] }; rows = [] }

  pub gathers_one_kind : (sources : List S) → AreSourcesOn asks stands versions wanted stored room sources (length versions)
      → AllByRecursion (λ a. a.near ≡ is_nearest wanted) (map asks sources)
  gathers_one_kind sources are = each_place (λ a. a.near ≡ is_nearest wanted) asks sources (λ i d low.
      kind_is wanted (get_or versions i none) (opened_code (get_or versions i none) stored) room (asks (get_or sources i d))
      (are.each i none d (omega (arith, low, are.number_is))).asks)
    where
      none : Contents
      none = record { shard = 0; shards = 0; at = 0; layout = record { bits = 0; parts = [] }; rows = [] }

-- the contents of a version that was found at its place and shared once more
pub shared_found : (versions : List (Arc Tabled Global)) (i : ℕ) (found copy : Arc Tabled Global) → i < length versions → found ≡ get_or versions i found
    → arc_value copy ≡ arc_value found → contents_at copy ≡ get_or (contents_of_all versions) i (contents_at copy)
shared_found versions i found copy low is same =
    ap (λ (version : Tabled). version.contents) same ∙ ap contents_at is ∙ sym (get_or-map contents_at versions i found (contents_at copy) low)
